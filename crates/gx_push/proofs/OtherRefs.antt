-- Refs that have none of some names, one after the other.
use Rattle.std.proofs.Common.{◌≡◌, Bool, true, false, List, ◌∷◌, ap}
use Rattle.std.specs.Prelude.{not, if◌then◌else◌}
use Rattle.gx_model.specs.Texts.{Bytes}
use Rattle.gx_model.specs.Records.Publishing.{Ref}
use Rattle.gx_repo.specs.Dropping.{is_among, without}

module _ (names : List Bytes) (ref : Ref) (refs : List Ref) where
  at_first : (b : Bool) → is_among names ref.0 ≡ b → without names (ref ∷ refs) ≡ (if not b then ref ∷ without names refs else without names refs)
  at_first b e = ap (λ t. if not t then ref ∷ without names refs else without names refs) e

  pub passed : is_among names ref.0 ≡ true → without names (ref ∷ refs) ≡ without names refs
  passed e = at_first true e

  pub met : is_among names ref.0 ≡ false → without names (ref ∷ refs) ≡ ref ∷ without names refs
  met e = at_first false e
