use Rattle.std.proofs.Common.{length, map, ◌≤◌}
use Rattle.std.specs.Prelude.{reverse}
use Rattle.gx_repo.specs.Refs.{shown_update}
use Rattle.gx_text.specs.Lent.{lent_texts}
use Rattle.gx_taken.proofs.TurnedRefs.{AreLooked}
use Rattle.gx_taken.proofs.setting.turns_of.Given as goal

abbrev pub invariant-loop-place : goal.invariant-loop-place
invariant-loop-place g l =
    (l.place ≤ length l.refs) × AreLooked {A = g.row.A.Denot} l.repo.1.refs l.refs l.place l.seen (lent_texts l.dropped.items) (map shown_update (reverse l.changes.items))

abbrev pub decreases-loop-place : goal.decreases-loop-place
decreases-loop-place g l = l.place
