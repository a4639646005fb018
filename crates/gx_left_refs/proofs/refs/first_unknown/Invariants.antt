use Rattle.std.specs.Prelude.{IsTrue}
use Rattle.std.specs.FinMap.Entries.{is_sorted}
use Rattle.gx_model.specs.Texts.{byte_cmp}
use Rattle.gx_ref_lines.specs.Refs.{shown_refs}
use Rattle.gx_repo.proofs.DroppedRefs.{AreKnown}
use Rattle.gx_left_refs.proofs.refs.first_unknown.Given as goal

abbrev pub invariant-loop-place : goal.invariant-loop-place
invariant-loop-place g l = IsTrue (is_sorted byte_cmp (shown_refs l.held.refs.items)) → AreKnown (shown_refs l.held.refs.items) l.names l.place
