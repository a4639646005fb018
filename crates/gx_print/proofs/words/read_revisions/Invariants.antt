use Rattle.std.proofs.Common.{drop}
use Rattle.gx_model.specs.Revisions.{revision_of}
use Rattle.gx_text.specs.Lent.{lent_texts}
use Rattle.gx_print.proofs.ReadWords.{AreRead}
use Rattle.gx_print.proofs.words.read_revisions.Given as goal

abbrev pub invariant-loop-place : goal.invariant-loop-place
invariant-loop-place g l = AreRead revision_of (lent_texts l.words) (lent_texts (drop l.place l.words)) l.place l.revisions.items
