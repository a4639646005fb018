-- The components of a text.
use Rattle.std.proofs.Common.{◌≡◌, true, false, eqb, [], ◌∷◌, length, refl}
use Rattle.std.specs.List.{list_all, slice_split}
use Rattle.std.proofs.lemmas.Bool.{eqb-true}
use Rattle.std.proofs.lemmas.List.{nil_from_length}
use Rattle.gx_model.specs.Texts.{Bytes}
use Rattle.gx_model.specs.Texts.Paths.{is_component, parts_of}

pub parts_of-some : (bs : Bytes) → eqb (length bs) 0 ≡ false → parts_of bs ≡ slice_split (λ x. eqb x 47) bs
parts_of-some [] e = absurd cc
parts_of-some (b ∷ bs) e = refl

pub no_parts : (bs : Bytes) → eqb (length bs) 0 ≡ true → list_all is_component (parts_of bs) ≡ true
no_parts bs e = rw (nil_from_length bs (eqb-true _ _ e)) refl
