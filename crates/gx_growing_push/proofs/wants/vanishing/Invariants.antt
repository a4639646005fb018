use Rattle.std.specs.Prelude.{IsTrue}
use Rattle.std.specs.FinMap.Entries.{is_sorted}
use Rattle.gx_model.specs.Texts.{byte_cmp}
use Rattle.gx_push.proofs.PassedNames.{AreNamed}
use Rattle.gx_push.specs.Pushes.{is_vanishing}
use Rattle.gx_push.specs.Wants.{ref_of, shown_want}
use Rattle.gx_ref_lines.specs.Refs.{shown_refs}
use Rattle.gx_text.specs.Lent.{lent_texts}
use Rattle.gx_growing_push.proofs.wants.vanishing.Given as goal

abbrev pub invariant-loop-want : goal.invariant-loop-want
invariant-loop-want g l =
    IsTrue (is_sorted byte_cmp (shown_refs l.refs.refs.items))
    → AreNamed ref_of (is_vanishing (shown_refs l.refs.refs.items)) shown_want l.wants (lent_texts l.names.items) l.want-index
