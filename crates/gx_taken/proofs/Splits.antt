-- Items that are taken apart, one after the other: objects, with their labels, and refs.
use Rattle.std.proofs.Common.{◌≡◌, ℕ, zero, suc, ◌+◌, List, [], ◌∷◌, ◌++◌, append_assoc, length, refl, ap, ◌∙◌, arith}
use Rattle.std.specs.Prelude.{Some}
use Rattle.std.specs.List.{slice_get}
use Rattle.std.specs.Option.{option_map}
use Rattle.std.proofs.lemmas.List.{length-append}
use Rattle.gx_model.specs.declared.objects.Kind.{Kind}
use Rattle.gx_model.specs.Texts.{Bytes}
use Rattle.gx_model.specs.Histories.{Record}
use Rattle.gx_model.specs.Records.Publishing.{Ref}
use Rattle.gx_wide.specs.ObjectsTexts.{Item, object_item, ref_item}
use Rattle.gx_wide.specs.Placing.{given_in}
use Rattle.gx_placed.specs.Places.{AreNamed}
use Rattle.gx_taken.specs.Calls.{AreGoodItems}
use Rattle.gx_taken.specs.Setting.{HaveRefNames}
use Rattle.gx_taken.specs.Taking.{names_told, refs_told}

-- what is split off, and what is left of the items
pub record AreSplit (all rest : List Item) (objects : List Record) (labels : List (ℕ × Bytes)) (refs : List (ℕ × Ref)) : Type 0 where
  pub objects_are : objects ++ given_in rest ≡ given_in all
  pub labels_are : labels ++ names_told (length labels + length refs + 1) rest ≡ names_told 1 all
  pub refs_are : refs ++ refs_told (length labels + length refs + 1) rest ≡ refs_told 1 all

pub none_split : (all : List Item) → AreSplit all all [] [] []
none_split all = record { objects_are = refl; labels_are = refl; refs_are = refl }

module _ (all rest : List Item) (objects : List Record) (labels : List (ℕ × Bytes)) (refs : List (ℕ × Ref)) where
  abbrev next_number : ℕ
  next_number = length labels + length refs + 1

  -- one object more
  pub object_split : (of_kind : Kind) (called body : Bytes) → AreSplit all (object_item of_kind called body ∷ rest) objects labels refs
      → AreSplit all rest (objects ++ record { name = called; kind = of_kind; body = body } ∷ []) (labels ++ (next_number, called) ∷ []) refs
  object_split of_kind called body h =
      let more : length (labels ++ (next_number, called) ∷ []) + length refs + 1 ≡ next_number + 1 = let e = length-append labels ((next_number, called) ∷ []) in omega (arith, e) in record {
        objects_are = append_assoc objects (record { name = called; kind = of_kind; body = body } ∷ []) (given_in rest) ∙ h.objects_are;
        labels_are = ap (λ n. (labels ++ (next_number, called) ∷ []) ++ names_told n rest) more ∙ append_assoc labels ((next_number, called) ∷ []) (names_told (next_number + 1) rest) ∙ h.labels_are;
        refs_are = ap (λ n. refs ++ refs_told n rest) more ∙ h.refs_are;
      }

  -- one ref more
  pub ref_split : (called ref : Bytes) → AreSplit all (ref_item called ref ∷ rest) objects labels refs → AreSplit all rest objects labels (refs ++ (next_number, (ref, called)) ∷ [])
  ref_split called ref h =
      let more : length labels + length (refs ++ (next_number, (ref, called)) ∷ []) + 1 ≡ next_number + 1 = let e = length-append refs ((next_number, (ref, called)) ∷ []) in omega (arith, e) in record {
        objects_are = h.objects_are;
        labels_are = ap (λ n. labels ++ names_told n rest) more ∙ h.labels_are;
        refs_are = ap (λ n. (refs ++ (next_number, (ref, called)) ∷ []) ++ refs_told n rest) more ∙ append_assoc refs ((next_number, (ref, called)) ∷ []) (refs_told (next_number + 1) rest) ∙ h.refs_are;
      }

-- the names of objects are told as these are given
pub same_names : (items : List Item) (number at : ℕ) (one : Record) → slice_get (given_in items) at ≡ Some one → option_map (λ it. it.1) (slice_get (names_told number items) at) ≡ Some one.name
same_names [] number at one e = absurd (cc e)
same_names (ref_item called ref ∷ items) number at one e = same_names items (number + 1) at one e
same_names (object_item of_kind called body ∷ items) number zero one e = let is : record { name = called; kind = of_kind; body = body } ≡ one = cc e in ap (λ (r : Record). Some r.name) is
same_names (object_item of_kind called body ∷ items) number (suc at) one e = same_names items (number + 1) at one e

module _ (name : Kind → Bytes → Bytes) where
  -- objects that are given have their own names
  pub own_names : (items : List Item) → AreGoodItems name items → AreNamed name (given_in items)
  own_names [] good = tt
  own_names (ref_item called ref ∷ items) good = own_names items good.1
  own_names (object_item of_kind called body ∷ items) good = (good.0, own_names items good.1)

  -- refs that are told of have names of refs
  pub ref_names : (items : List Item) (number : ℕ) → AreGoodItems name items → HaveRefNames (refs_told number items)
  ref_names [] number good = tt
  ref_names (ref_item called ref ∷ items) number good = (good.0, ref_names items (number + 1) good.1)
  ref_names (object_item of_kind called body ∷ items) number good = ref_names items (number + 1) good.1
