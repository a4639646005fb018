use Rattle.std.proofs.Common.{sym, subst}
use Rattle.std.specs.Prelude.{slice_index_or}
use Rattle.gx_rev.specs.Parents.{IsRowOf, no_row}
use Rattle.gx_rev.proofs.ParentPlaces.{empty_row}
use Rattle.gx_rev.proofs.parents.Parents.new.Goals as goal

pub returns : goal.returns
returns g c = λ r place. subst (λ rows. IsRowOf r c.new-2.result.items place (slice_index_or rows place no_row)) (sym c.new.ensures.items) (empty_row r c.new-2.result.items place)
