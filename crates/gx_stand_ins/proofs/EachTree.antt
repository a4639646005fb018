-- The trees of files whose contents are each changed by a function.
use Rattle.std.proofs.Common.{◌≡◌, ℕ, zero, suc, cond, List, [], ◌∷◌, ◌++◌, map, length, drop, Option, None, Some, refl, sym, ap, ◌∙◌}
use Rattle.std.specs.Prelude.{is_none, max}
use Rattle.std.specs.List.{filter, flat_map}
use Rattle.std.specs.Option.{option_map}
use Rattle.std.proofs.lemmas.List.{map-append}
use Rattle.gx_model.specs.Texts.{Bytes}
use Rattle.gx_model.specs.Texts.Paths.{Path}
use Rattle.gx_model.specs.Histories.Files.{FileMap, Leaf, depth, file_at, first_component, first_components, sub_map, under, with_first}
use Rattle.gx_model.specs.Histories.Values.{sub_maps}
use Rattle.gx_model.specs.Records.Growth.{all_trees, all_trees_to}
use Rattle.gx_stand_ins.proofs.EachValue.{each}
use Rattle.gx_stand_ins.proofs.EachFile.{each_at, each_under}

module _ {X Y : Type 0} (g : X → Y) where
  each_dropped : (n : ℕ) (f : List (Path × X)) → map (λ (e : Path × Y). let r : Path × Y = (drop n e.0, e.1) in r) (each g f) ≡ each g (map (λ e. (drop n e.0, e.1)) f)
  each_dropped n [] = refl
  each_dropped n (e ∷ es) = ap (λ z. (drop n e.0, g e.1) ∷ z) (each_dropped n es)

  -- what is at or below a path
  pub each_sub_map : (f : List (Path × X)) (p : Path) → sub_map (each g f) p ≡ each g (sub_map f p)
  each_sub_map f p = ap (map (λ e. (drop (length p) e.0, e.1))) (each_under g p f) ∙ each_dropped (length p) (under p f)

  each_firsts : (f : List (Path × X)) → first_components (each g f) ≡ first_components f
  each_firsts [] = refl
  each_firsts (e ∷ es) = ap (with_first (first_component e.0)) (each_firsts es)

  each_depth : (f : List (Path × X)) → depth (each g f) ≡ depth f
  each_depth [] = refl
  each_depth (e ∷ es) = ap (max (length e.0)) (each_depth es)

  none_mapped : (o : Option X) → is_none (option_map g o) ≡ is_none o
  none_mapped None = refl
  none_mapped (Some x) = refl

  pub each_absent : (f : List (Path × X)) (p : Path) → is_none (file_at (each g f) p) ≡ is_none (file_at f p)
  each_absent f p = ap is_none (each_at g f p) ∙ none_mapped (file_at f p)

module _ (g : Leaf Bytes → Leaf Bytes) where
  abbrev Files : FileMap Bytes → FileMap Bytes
  Files f = each g f

  abbrev directories : FileMap Bytes → List Bytes → List Bytes
  directories f cs = filter (λ c. is_none (file_at f (c ∷ []))) cs

  same_directories : (f : FileMap Bytes) (cs : List Bytes) → directories (Files f) cs ≡ directories f cs
  same_directories f [] = refl
  same_directories f (c ∷ cs) = λ i. cond (each_absent g f (c ∷ []) i) (c ∷ same_directories f cs i) (same_directories f cs i)

  subs_of : (f : FileMap Bytes) (cs : List Bytes) → map (λ c. sub_map (Files f) (c ∷ [])) cs ≡ map Files (map (λ c. sub_map f (c ∷ [])) cs)
  subs_of f [] = refl
  subs_of f (c ∷ cs) = λ i. each_sub_map g f (c ∷ []) i ∷ subs_of f cs i

  -- the sub-maps at first components
  pub each_subs : (f : FileMap Bytes) → sub_maps (Files f) ≡ map Files (sub_maps f)
  each_subs f =
      ap (λ cs. map (λ c. sub_map (Files f) (c ∷ [])) (directories (Files f) cs)) (each_firsts g f)
      ∙ ap (map (λ c. sub_map (Files f) (c ∷ []))) (same_directories f (first_components f))
      ∙ subs_of f (directories f (first_components f))

  trees_below : (n : ℕ) → ((f : FileMap Bytes) → all_trees_to n (Files f) ≡ map Files (all_trees_to n f)) → (fs : List (FileMap Bytes)) → flat_map (all_trees_to n) (map Files fs) ≡ map Files (flat_map (all_trees_to n) fs)
  trees_below n one [] = refl
  trees_below n one (f ∷ fs) = (λ i. one f i ++ trees_below n one fs i) ∙ sym (map-append Files (all_trees_to n f) (flat_map (all_trees_to n) fs))

  each_trees_to : (n : ℕ) (f : FileMap Bytes) → all_trees_to n (Files f) ≡ map Files (all_trees_to n f)
  each_trees_to zero f = refl
  each_trees_to (suc n) f =
      ap (λ z. flat_map (all_trees_to n) z ++ Files f ∷ []) (each_subs f)
      ∙ ap (λ z. z ++ Files f ∷ []) (trees_below n (each_trees_to n) (sub_maps f))
      ∙ sym (map-append Files (flat_map (all_trees_to n) (sub_maps f)) (f ∷ []))

  -- a file map and its sub-maps
  pub each_trees : (f : FileMap Bytes) → all_trees (Files f) ≡ map Files (all_trees f)
  each_trees f = ap (λ n. all_trees_to n (Files f)) (each_depth g f) ∙ each_trees_to (depth f) f
