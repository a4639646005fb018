-- What two directories have at each path, pair by pair of their entries.
use Rattle.std.proofs.Common.{◌≡◌, ◌∙◌, true, List, [], ◌∷◌, ◌++◌, map, refl, sym, ap, subst, append-nil}
use Rattle.std.specs.Prelude.{IsTrue}
use Rattle.std.specs.List.{filter, flat_map, AllByRecursion}
use Rattle.std.specs.declared.cmp.Ordering.{Ordering}
use Rattle.std.specs.declared.cmp.Ordering.TheVariants.{Less, Equal, Greater}
use Rattle.std.specs.Ordering.{is_lt, nat_cmp, ordering_reverse}
use Rattle.std.specs.Cmp.Lexicographic.{nat_list_cmp_total, slice_cmp}
use Rattle.std.proofs.lemmas.List.{map-append}
use Rattle.std.proofs.lemmas.List.Elements.{filter-append}
use Rattle.gx_model.specs.Histories.Files.{FileMap}
use Rattle.gx_model.specs.Records.HistoryOf.{placed}
use Rattle.gx_model.specs.Texts.{Bytes}
use Rattle.gx_tree.specs.Nodes.{IsLevel, Kept, Level, files, kept_map, key}
use Rattle.gx_tree.proofs.Order.{texts_equal}
use Rattle.gx_export.specs.Pairs.{side_by_side, with_old}
use Rattle.gx_export.proofs.SideBySide.{behind_both, behind_first, kept_order}
use Rattle.gx_differences.specs.Listed.{Standing, all_standing, by_path, differing, differs, standing}
use Rattle.gx_differences.proofs.PathRuns.{ComeBehind, entry_before, none_behind, turned}
use Rattle.gx_differences.proofs.SideRuns.{runs}

abbrev Sides : Type 0
Sides = List (FileMap Bytes × FileMap Bytes)

abbrev sides : FileMap Bytes → FileMap Bytes → Sides
sides = side_by_side by_path

abbrev sides_by : List (Level × Level) → Sides
sides_by pairs = flat_map (λ p. sides (files p.0) (files p.1)) pairs

one_file : (e : Bytes × Kept) → placed e.0 (kept_map e.1) ≡ files (e ∷ [])
one_file e = sym (append-nil (placed e.0 (kept_map e.1)))

new_sides : (ds : Level) → sides [] (files ds) ≡ sides_by (map (λ d. ([], d ∷ [])) ds)
new_sides [] = refl
new_sides (d ∷ ds) =
    map-append (λ y. ([], y ∷ [])) (placed d.0 (kept_map d.1)) (files ds)
    ∙ (λ i. sides [] (one_file d i) ++ new_sides ds i)

module _ (e : Bytes × Kept) (es : Level) (level : IsLevel (e ∷ es)) (others : Level → List (Level × Level)) (rest : (ds : Level) → IsLevel ds → sides (files es) (files ds) ≡ sides_by (others ds)) where
  abbrev E : FileMap Bytes
  E = placed e.0 (kept_map e.1)

  old_sides : (ds : Level) → IsLevel ds → sides (files (e ∷ es)) (files ds) ≡ sides_by (with_old kept_order e others ds)
  old_sides [] l =
      runs by_path E (files es) [] [] (none_behind E) tt
      ∙ (λ i. sides (one_file e i) [] ++ rest [] tt i)
  old_sides (d ∷ ds) l =
      by (old_sides ds l.3) (kept_order e d) refl
    where
      D : FileMap Bytes
      D = placed d.0 (kept_map d.1)

      behind_e : ComeBehind (key e.0 e.1) es
      behind_e = behind_first e es level.2

      behind_d : ComeBehind (key d.0 d.1) ds
      behind_d = behind_first d ds l.2

      by : sides (files (e ∷ es)) (files ds) ≡ sides_by (with_old kept_order e others ds) → (o : Ordering) → kept_order e d ≡ o → sides (files (e ∷ es)) (files (d ∷ ds)) ≡ sides_by (elim o [ Less ↦ (e ∷ [], []) ∷ others (d ∷ ds) | Equal ↦ (e ∷ [], d ∷ []) ∷ others ds | Greater ↦ ([], d ∷ []) ∷ with_old kept_order e others ds ])
      by after Less k =
          let all : ComeBehind (key e.0 e.1) (d ∷ ds) = (ap is_lt k, behind_both (key e.0 e.1) d ds (ap is_lt k) behind_d) in
          runs by_path E (files es) [] (files (d ∷ ds)) (entry_before e (d ∷ ds) level.0 level.1 l all) tt
          ∙ (λ i. sides (one_file e i) [] ++ rest (d ∷ ds) l i)
      by after Equal k =
          let same : key e.0 e.1 ≡ key d.0 d.1 = texts_equal (key e.0 e.1) (key d.0 d.1) k in
          let new : ComeBehind (key e.0 e.1) ds = subst (λ (t : Bytes). ComeBehind t ds) (sym same) behind_d in
          let old : ComeBehind (key d.0 d.1) es = subst (λ (t : Bytes). ComeBehind t es) same behind_e in
          runs by_path E (files es) D (files ds) (entry_before e ds level.0 level.1 l.3 new) (turned D (files es) (entry_before d es l.0 l.1 level.3 old))
          ∙ (λ i. sides (one_file e i) (one_file d i) ++ rest ds l.3 i)
      by after Greater k =
          let less : is_lt (slice_cmp nat_cmp (key d.0 d.1) (key e.0 e.1)) ≡ true = ap is_lt (nat_list_cmp_total.antisymm (key d.0 d.1) (key e.0 e.1) ∙ ap ordering_reverse k) in
          let all : ComeBehind (key d.0 d.1) (e ∷ es) = (less, behind_both (key d.0 d.1) e es less behind_e) in
          runs by_path [] (files (e ∷ es)) D (files ds) tt (turned D (files (e ∷ es)) (entry_before d (e ∷ es) l.0 l.1 level all))
          ∙ (λ i. sides [] (one_file d i) ++ after i)

-- what stands at each path, pair by pair
pair_sides : (es ds : Level) → IsLevel es → IsLevel ds → sides (files es) (files ds) ≡ sides_by (side_by_side kept_order es ds)
pair_sides [] ds h l = new_sides ds
pair_sides (e ∷ es) ds h l = old_sides e es h (side_by_side kept_order es) (λ fs m. pair_sides es fs h.3 m) ds l

-- ---- and what differs

abbrev pub differing_by : List (Level × Level) → List Standing
differing_by pairs = flat_map (λ p. differing (files p.0) (files p.1)) pairs

by_each : (pairs : List (Level × Level)) → filter differs (map standing (sides_by pairs)) ≡ differing_by pairs
by_each [] = refl
by_each (p ∷ pairs) =
    ap (filter differs) (map-append standing (sides (files p.0) (files p.1)) (sides_by pairs))
    ∙ filter-append differs (all_standing (files p.0) (files p.1)) (map standing (sides_by pairs))
    ∙ ap (λ t. differing (files p.0) (files p.1) ++ t) (by_each pairs)

pub differing_pairs : (es ds : Level) → IsLevel es → IsLevel ds → differing (files es) (files ds) ≡ differing_by (side_by_side kept_order es ds)
differing_pairs es ds h l = ap (λ s. filter differs (map standing s)) (pair_sides es ds h l) ∙ by_each (side_by_side kept_order es ds)
