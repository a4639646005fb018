use Rattle.std.proofs.Common.{◌≡◌, drop}
use Rattle.gx_repo.specs.Dropping.{is_among}
use Rattle.gx_text.specs.Lent.{lent_texts}
use Rattle.gx_repo.proofs.dropping.is_among.Given as goal

abbrev pub invariant-loop-given : goal.invariant-loop-given
invariant-loop-given l = is_among (lent_texts (drop l.given-index l.names)) l.name ≡ is_among (lent_texts l.names) l.name
