-- What stands at one component of two trees of the repository that is told, by the entry that is chosen.
use Rattle.std.proofs.Common.{◌≡◌, ◌≢◌, ◌∙◌, ℕ, ◌-◌, ◌≤◌, [], ◌∷◌, ◌++◌, map, length, Option, Some, None, IsTrue, sym, ap, subst, arith}
use Rattle.std.specs.Prelude.{IfSome, false}
use Rattle.std.specs.List.{AllByRecursion}
use Rattle.gx_model.specs.declared.objects.Kind.{Kind}
use Rattle.gx_model.specs.declared.objects.Mode.TheVariants.{Dir}
use Rattle.gx_model.specs.Changes.{changed_files, gone_paths}
use Rattle.gx_model.specs.Histories.Files.{FileMap}
use Rattle.gx_model.specs.Histories.{Records}
use Rattle.gx_model.specs.Objects.{IsNamer}
use Rattle.gx_model.specs.Objects.NameMaps.{IsHeldTree}
use Rattle.gx_model.specs.Texts.{Bytes}
use Rattle.gx_model.specs.Texts.Paths.{Path, is_component, is_short}
use Rattle.gx_object.specs.declared.entry.Entry.{Entry}
use Rattle.gx_object.specs.Entries.{shown}
use Rattle.gx_tree.specs.Lists.{below}
use Rattle.gx_tree.specs.Nodes.{IsKept, Kept, Level, file, files, folder}
use Rattle.gx_tree.specs.Writes.{map_name}
use Rattle.gx_tree.proofs.TreeRecords.{kept_entry}
use Rattle.gx_export.specs.Compared.{IsBelowIf, IsPairBelow, file_if, or_other, path_unless, paths_below}
use Rattle.gx_export.specs.FileTexts.{IsEntryBelow, IsTreeBelow}
use Rattle.gx_export.specs.Pairs.{is_same, name_if, shown_if, shown_pair}
use Rattle.gx_export.specs.declared.pairs.Pair.{Pair}
use Rattle.gx_export.proofs.OneMap.{one_map}
use Rattle.gx_export.proofs.Pairing.{IsOfPair, pair_is}
use Rattle.gx_differences.specs.Differences.{AddsFile, AreTrees, ArePair, ComparesPair, ComparesTrees}
use Rattle.gx_differences.specs.declared.differences.Differences.{Differences}
use Rattle.gx_differences.proofs.Told.{map_told, none_told}

module _ (name : Kind → Bytes → Bytes) (namer : IsNamer name) (room : ℕ) (front : Path) where
  -- a directory that is chosen has files
  some_below : (r : Records) (a : Entry) (os : Level) → shown a ∷ [] ≡ map (kept_entry name) os → AllByRecursion (IsEntryBelow name r room front) os → AllByRecursion (λ e. IsKept e.1) os → a.mode ≡ Dir
      → (less : ℕ) (at : Path) (f : FileMap Bytes) → IsTreeBelow name r less at a.name.bytes f → f ≡ [] → ⊥
  some_below r a [] t h k d less at f held e = cc t
  some_below r a (x ∷ y ∷ os) t h k d less at f held e = cc t
  some_below r a (x ∷ []) t h k d less at f held e = by x.1 (let one : shown a ≡ kept_entry name x = cc t in one) h.0 k.0
    where
      by : (kept : Kept) → shown a ≡ kept_entry name (x.0, kept) → IsEntryBelow name r room front (x.0, kept) → IsKept kept → ⊥
      by (file z) s j n = n (ap (λ q. q.mode) (sym s) ∙ d)
      by (folder g) s j n =
          let called : a.name.bytes ≡ map_name name g = ap (λ q. q.name) s in
          let same : f ≡ g = one_map name r.records namer (map_name name g) f g (subst (λ m. IsHeldTree name r.records m f) called held.within.0) j.entry.1.0 in
          n.0 (sym same ∙ e)

  module _ (pair : Pair) where
    of_pair : (r : Records) (e : Entry) → Some e ≡ or_other pair.old pair.new → (p : Level × Level) → IsPairBelow name r room front pair p → IsOfPair name namer r room front e pair.old pair.new p.0 p.1
    of_pair r e q p h = pair_is name namer r room front pair p h e q

    module _ (told : Option Records) (e : Entry) (q : Some e ≡ or_other pair.old pair.new) (held : IfSome told (ArePair name room front pair)) where
      -- it is short enough
      pub within_room : e.mode ≡ Dir → room ≤ length e.component.now → told ≡ None
      within_room d l = none_told told (ArePair name room front pair) (λ r p.
          let less = ((of_pair r e q p.0 p.1.held).folder d).0 in
          omega (arith, l, less)) held

      module _ (path : Path) (same : IsTrue (is_component e.component.now) → IsTrue (is_short (front ++ e.component.now ∷ [])) → path ≡ front ++ e.component.now ∷ []) where
        path_is : (r : Records) (p : Level × Level) → IsPairBelow name r room front pair p → path ≡ front ++ e.component.now ∷ []
        path_is r p h =
            let k = (of_pair r e q p h).chosen.below in
            same k.component k.short

        -- a file
        pub file_told : {A : Type 0} (before after : Differences A) → (e.mode ≢ Dir) → is_same (shown_pair pair) ≡ false → AddsFile (file_if path pair.new) (path_unless path pair.new) before after → IfSome told (ComparesPair name room front pair before after)
        file_told before after d other h = map_told told (ArePair name room front pair) (ComparesPair name room front pair before after) (λ r t p k.
            let f = (of_pair r e q p k).file d path (path_is r p k) other in
            subst (λ gs. AddsFile (below front (changed_files (files p.0) (files p.1))) gs before after) f.gone
            (subst (λ fs. AddsFile fs (path_unless path pair.new) before after) f.names h)) held

        -- directories
        module _ (d : e.mode ≡ Dir) (old new : Option Bytes) (o : old ≡ name_if pair.old) (n : new ≡ name_if pair.new) where
          abbrev left : ℕ
          left = room - length e.component.now - 1

          olds_below : (r : Records) (f : FileMap Bytes) → path ≡ front ++ e.component.now ∷ [] → IsBelowIf name r left (front ++ e.component.now ∷ []) (name_if pair.old) f → IsBelowIf name r left path old f
          olds_below r f at h = subst (λ p. IsBelowIf name r left p old f) (sym at) (subst (λ m. IsBelowIf name r left (front ++ e.component.now ∷ []) m f) (sym o) h)

          news_below : (r : Records) (f : FileMap Bytes) → path ≡ front ++ e.component.now ∷ [] → IsBelowIf name r left (front ++ e.component.now ∷ []) (name_if pair.new) f → IsBelowIf name r left path new f
          news_below r f at h = subst (λ p. IsBelowIf name r left p new f) (sym at) (subst (λ m. IsBelowIf name r left (front ++ e.component.now ∷ []) m f) (sym n) h)

          some_of : (r : Records) (a b : Option Entry) (os ns : Level) → Some e ≡ or_other a b → shown_if a ≡ map (kept_entry name) os → shown_if b ≡ map (kept_entry name) ns
              → AllByRecursion (IsEntryBelow name r room front) os → AllByRecursion (IsEntryBelow name r room front) ns → AllByRecursion (λ x. IsKept x.1) os → AllByRecursion (λ x. IsKept x.1) ns
              → (f g : FileMap Bytes) → IsBelowIf name r left (front ++ e.component.now ∷ []) (name_if a) f → IsBelowIf name r left (front ++ e.component.now ∷ []) (name_if b) g → f ≡ [] → g ≡ [] → ⊥
          some_of r (Some a) b os ns c s t h j k l f g x y u v =
              let one : e ≡ a = cc c in
              some_below r a os s h k (ap (λ z. z.mode) (sym one) ∙ d) left (front ++ e.component.now ∷ []) f x u
          some_of r None (Some b) os ns c s t h j k l f g x y u v =
              let one : e ≡ b = cc c in
              some_below r b ns t j l (ap (λ z. z.mode) (sym one) ∙ d) left (front ++ e.component.now ∷ []) g y v
          some_of r None None os ns c s t h j k l f g x y u v = cc c

          pub trees_told : IfSome told (AreTrees name left path old new)
          trees_told = map_told told (ArePair name room front pair) (AreTrees name left path old new) (λ r t.
              let p = t.0 in
              let h = t.1.held in
              let x = (of_pair r e q p h).folder d in
              let at = path_is r p h in (
                x.1.0,
                (
                  x.1.1,
                  record {
                    olds = olds_below r x.1.0 at x.1.2.olds;
                    news = news_below r x.1.1 at x.1.2.news;
                    some = λ z u v. some_of r pair.old pair.new p.0 p.1 q (ap (λ y. y.0) h.told) (ap (λ y. y.1) h.told) h.olds h.news t.1.olds t.1.news x.1.0 x.1.1 x.1.2.olds x.1.2.news u v;
                  },
                ),
              )) held

          pub folders_told : {A : Type 0} (before after : Differences A) → IfSome told (ComparesTrees name left path old new before after) → IfSome told (ComparesPair name room front pair before after)
          folders_told before after = map_told told (ComparesTrees name left path old new before after) (ComparesPair name room front pair before after) (λ r c p h.
              let x = (of_pair r e q p h).folder d in
              let at = path_is r p h in
              let names = ap (λ y. below y (changed_files x.1.0 x.1.1)) at ∙ x.1.2.names in
              let gone = ap (λ y. paths_below y (gone_paths x.1.0 x.1.1)) at ∙ x.1.2.gone in
              subst (λ gs. AddsFile (below front (changed_files (files p.0) (files p.1))) gs before after) gone
              (subst (λ fs. AddsFile fs (paths_below path (gone_paths x.1.0 x.1.1)) before after) names (c x.1.0 x.1.1 (olds_below r x.1.0 at x.1.2.olds) (news_below r x.1.1 at x.1.2.news))))
