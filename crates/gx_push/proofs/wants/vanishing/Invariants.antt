use Rattle.gx_text.specs.Lent.{lent_texts}
use Rattle.gx_push.specs.Pushes.{is_vanishing}
use Rattle.gx_push.specs.Wants.{ref_of, shown_want}
use Rattle.gx_push.proofs.PassedNames.{AreNamed}
use Rattle.gx_push.proofs.wants.vanishing.Given as goal

abbrev pub invariant-loop-want : goal.invariant-loop-want
invariant-loop-want g l = AreNamed ref_of (is_vanishing l.repo.1.refs) shown_want l.wants (lent_texts l.names.items) l.want-index
