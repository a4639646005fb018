use Rattle.std.proofs.Common.{drop, map}
use Rattle.gx_model.specs.Revisions.{range_of}
use Rattle.gx_rev.specs.Views.{shown_range}
use Rattle.gx_text.specs.Lent.{lent_texts}
use Rattle.gx_print.proofs.ReadWords.{AreRead}
use Rattle.gx_print.proofs.words.read_ranges.Given as goal

abbrev pub invariant-loop-place : goal.invariant-loop-place
invariant-loop-place g l = AreRead range_of (lent_texts l.words) (lent_texts (drop l.place l.words)) l.place (map shown_range l.ranges.items)
