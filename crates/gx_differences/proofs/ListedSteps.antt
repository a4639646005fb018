-- What differs between two held trees, listed pair by pair.
use Rattle.std.proofs.Common.{◌≡◌, ◌≢◌, ◌∙◌, ℕ, ◌-◌, List, [], ◌∷◌, ◌++◌, map, length, Option, Some, None, true, false, refl, sym, ap, subst, append_assoc, append-nil}
use Rattle.std.specs.Prelude.{IfSome, IsTrue}
use Rattle.std.specs.List.{AllByRecursion}
use Rattle.std.proofs.lemmas.Grind.{flat_map-append}
use Rattle.std.proofs.lemmas.List.{map-append}
use Rattle.gx_model.specs.declared.objects.Kind.{Kind}
use Rattle.gx_model.specs.declared.objects.Mode.TheVariants.{Dir}
use Rattle.gx_model.specs.Histories.Files.{FileMap}
use Rattle.gx_model.specs.Histories.{Records}
use Rattle.gx_model.specs.Objects.{Entry as TreeEntry, IsNamer}
use Rattle.gx_model.specs.Records.Sound.{IsSound}
use Rattle.gx_model.specs.Texts.{Bytes}
use Rattle.gx_model.specs.Texts.Paths.{Path, is_component, is_short}
use Rattle.gx_object.specs.declared.entry.Entry.{Entry}
use Rattle.gx_object.specs.declared.name.Name.{Name}
use Rattle.gx_object.specs.Parts.{bytes_if}
use Rattle.gx_model.proofs.ObjectTexts.OneTree.{all_right}
use Rattle.gx_tree.specs.Nodes.{IsKept, Level, files}
use Rattle.gx_tree.proofs.LevelsOf.{level_of}
use Rattle.gx_export.specs.Compared.{IsBelowIf, IsPairBelow, IsTreeIf, entries_if, or_other}
use Rattle.gx_export.specs.Pairs.{entry_order, is_same, name_if, shown_pair, side_by_side}
use Rattle.gx_export.specs.declared.pairs.Pair.{Pair}
use Rattle.gx_export.proofs.PassedPairs.{IsAtPair, at_pair, level_if, next_pair, pairs_if}
use Rattle.gx_export.proofs.Pairing.{pair_is}
use Rattle.gx_export.proofs.SideBySide.{all_pairs, both_entries, kept_order}
use Rattle.gx_differences.specs.Differences.{AreTrees, ArePair, names_if}
use Rattle.gx_differences.specs.Listed.{Adds, AreListed, ListsPair, ListsTrees, Standing, differing, entry_leaf, shown_differences, standing_below}
use Rattle.gx_differences.specs.declared.listed.Difference.{Difference}
use Rattle.gx_differences.proofs.ListedPairs.{listed_pair, same_listed}
use Rattle.gx_differences.proofs.PassedPairs.{kept_each}
use Rattle.gx_differences.proofs.Roots.{root_if}
use Rattle.gx_differences.proofs.SidesByPairs.{differing_by, differing_pairs}
use Rattle.gx_differences.proofs.Told.{both_told, map_told}

-- ---- what is added behind what was added

module _ {A : Type 0} where
  adds_none : (d : List (Difference A)) → Adds [] d d
  adds_none d = sym (append-nil (shown_differences d))

  adds_more : (xs ys : List Standing) (first next last : List (Difference A)) → Adds xs first next → Adds ys next last → Adds (xs ++ ys) first last
  adds_more xs ys first next last h k = k ∙ ap (λ t. t ++ ys) h ∙ append_assoc (shown_differences first) xs ys

-- ---- the loop over the pairs

below_append : (front : Path) (xs ys : List Standing) → standing_below front (xs ++ ys) ≡ standing_below front xs ++ standing_below front ys
below_append front xs ys = map-append (λ s. (front ++ s.0, s.1)) xs ys

differing_more : (front : Path) (done : List (Level × Level)) (x : Level × Level) → standing_below front (differing_by (done ++ x ∷ [])) ≡ standing_below front (differing_by done) ++ standing_below front (differing (files x.0) (files x.1))
differing_more front done x =
    ap (standing_below front) (flat_map-append (λ p. differing (files p.0) (files p.1)) done (x ∷ []) ∙ ap (λ t. differing_by done ++ t) (append-nil (differing (files x.0) (files x.1))))
    ∙ below_append front (differing_by done) (differing (files x.0) (files x.1))

-- what differs in some pairs was added, and the others are to come
pub record IsListed {A : Type 0} (name : Kind → Bytes → Bytes) (front : Path) (all : List (Level × Level)) (left : List (List TreeEntry × List TreeEntry)) (before after : List (Difference A)) : Type 0 where
  pub done : List (Level × Level)
  pub rest : List (Level × Level)
  pub split : all ≡ done ++ rest
  pub to_come : left ≡ map (both_entries name) rest
  pub added : Adds (standing_below front (differing_by done)) before after

module _ {A : Type 0} (name : Kind → Bytes → Bytes) (front : Path) (all : List (Level × Level)) where
  -- one pair more
  listed_next : (before left : List (List TreeEntry × List TreeEntry)) (item : List TreeEntry × List TreeEntry) (first next last : List (Difference A)) (w : IsListed name front all before first next) → (n : IsAtPair name all w.done item left)
      → Adds (standing_below front (differing (files n.pair.0) (files n.pair.1))) next last → IsListed name front all left first last
  listed_next before left item first next last w n k = record {
    done = w.done ++ n.pair ∷ [];
    rest = n.rest;
    split = n.split ∙ sym (append_assoc w.done (n.pair ∷ []) n.rest);
    to_come = n.to_come;
    added =
        subst (λ ss. Adds ss first last) (sym (differing_more front w.done n.pair))
        (adds_more (standing_below front (differing_by w.done)) (standing_below front (differing (files n.pair.0) (files n.pair.1))) first next last w.added k);
  }

  -- with no pair left all was added
  listed_all : (left : List (List TreeEntry × List TreeEntry)) (first last : List (Difference A)) (total : List Standing) → left ≡ [] → total ≡ differing_by all → IsListed name front all left first last → Adds (standing_below front total) first last
  listed_all left first last total e t w =
      let done : w.done ≡ all = by w.rest w.split (sym e ∙ w.to_come) in
      subst (λ ss. Adds (standing_below front ss) first last) (ap differing_by done ∙ sym t) w.added
    where
      by : (rest : List (Level × Level)) → all ≡ w.done ++ rest → [] ≡ map (both_entries name) rest → w.done ≡ all
      by [] s c = sym (s ∙ append-nil w.done)
      by (x ∷ rest) s c = absurd (cc c)

-- ---- two trees of the repository that is told

abbrev all_of : FileMap Bytes → FileMap Bytes → List (Level × Level)
all_of f g = side_by_side kept_order (level_of f) (level_of g)

module _ (name : Kind → Bytes → Bytes) (room : ℕ) (front : Path) (old new : Option Name) where
  -- some pairs were listed, whatever the files of the two trees
  abbrev pub Lists : {A : Type 0} → List (List TreeEntry × List TreeEntry) → List (Difference A) → List (Difference A) → Records → Type 0
  Lists left before after r =
      (f g : FileMap Bytes) → IsBelowIf name r room front (bytes_if old) f → IsBelowIf name r room front (bytes_if new) g → IsListed name front (all_of f g) left before after

  abbrev Trees : Records → Type 0
  Trees r = AreTrees name room front (bytes_if old) (bytes_if new) r

module _ (name : Kind → Bytes → Bytes) (namer : IsNamer name) (room : ℕ) (front : Path) (old new : Option Name) where
  all_differing : (r : Records) (f g : FileMap Bytes) → IsBelowIf name r room front (bytes_if old) f → IsBelowIf name r room front (bytes_if new) g → differing f g ≡ differing_by (all_of f g)
  all_differing r f g a b =
      let x = level_if name namer r room front old f a in
      let y = level_if name namer r room front new g b in
      (λ i. differing (sym x.files i) (sym y.files i)) ∙ differing_pairs (level_of f) (level_of g) x.level y.level

  module _ {A : Type 0} (told : Option Records) where
    pub lists_first : (olds news : List TreeEntry) (left : List (List TreeEntry × List TreeEntry)) (d : List (Difference A)) → left ≡ side_by_side entry_order olds news → IfSome told (λ r. olds ≡ entries_if r old) → IfSome told (λ r. news ≡ entries_if r new) → IfSome told (Lists name room front old new left d d)
    lists_first olds news left d e = both_told told (λ r. olds ≡ entries_if r old) (λ r. news ≡ entries_if r new) (Lists name room front old new left d d) (λ r o n f g a b.
        record {
          done = [];
          rest = all_of f g;
          split = refl;
          to_come = e ∙ (λ i. side_by_side entry_order (o i) (n i)) ∙ (pairs_if name namer r room front old new f g (side_by_side entry_order (entries_if r old) (entries_if r new)) refl a b).items;
          added = adds_none d;
        })

    pub lists_last : (left : List (List TreeEntry × List TreeEntry)) (d k : List (Difference A)) → left ≡ [] → IfSome told (Lists name room front old new left d k) → IfSome told (ListsTrees name room front (bytes_if old) (bytes_if new) d k)
    lists_last left d k e = map_told told (Lists name room front old new left d k) (ListsTrees name room front (bytes_if old) (bytes_if new) d k) (λ r h f g a b.
        listed_all name front (all_of f g) left d k (differing f g) e (all_differing r f g a b) (h f g a b))

    module _ (before left : List (List TreeEntry × List TreeEntry)) (pair : Pair) (steps : before ≡ shown_pair pair ∷ left) (d e : List (Difference A)) where
      at : (r : Records) (f g : FileMap Bytes) → IsBelowIf name r room front (bytes_if old) f → IsBelowIf name r room front (bytes_if new) g → (w : IsListed name front (all_of f g) before d e) → IsAtPair name (all_of f g) w.done (shown_pair pair) left
      at r f g a b w = next_pair name (all_of f g) w.done w.rest (shown_pair pair) before left w.split w.to_come steps

      here : (r : Records) (f g : FileMap Bytes) (a : IsBelowIf name r room front (bytes_if old) f) (b : IsBelowIf name r room front (bytes_if new) g) (w : IsListed name front (all_of f g) before d e) → IsPairBelow name r room front pair (at r f g a b w).pair
      here r f g a b w =
          let all = pairs_if name namer r room front old new f g (side_by_side entry_order (entries_if r old) (entries_if r new)) refl a b in
          at_pair name namer r room front f g (side_by_side entry_order (entries_if r old) (entries_if r new)) (all_of f g) w.done (shown_pair pair) left pair all (at r f g a b w) refl

      -- the pair at hand
      pub pair_told : IfSome told (Trees name room front old new) → IfSome told (Lists name room front old new before d e) → IfSome told (ArePair name room front pair)
      pair_told = both_told told (Trees name room front old new) (Lists name room front old new before d e) (ArePair name room front pair) (λ r t h.
          let f = t.0 in
          let g = t.1.0 in
          let a = t.1.1.olds in
          let b = t.1.1.news in
          let w = h f g a b in
          let n = at r f g a b w in
          let x = level_if name namer r room front old f a in
          let y = level_if name namer r room front new g b in
          let kept = all_pairs (λ e. IsKept e.1) (λ e. IsKept e.1) (level_of f) (level_of g) x.level y.level (kept_each (level_of f) x.level) (kept_each (level_of g) y.level) in
          let olds = (all_right (λ (p : Level × Level). AllByRecursion (λ e. IsKept e.1) p.0) w.done (n.pair ∷ n.rest) (subst (AllByRecursion (λ (p : Level × Level). AllByRecursion (λ e. IsKept e.1) p.0)) n.split kept.olds)).0 in
          let news = (all_right (λ (p : Level × Level). AllByRecursion (λ e. IsKept e.1) p.1) w.done (n.pair ∷ n.rest) (subst (AllByRecursion (λ (p : Level × Level). AllByRecursion (λ e. IsKept e.1) p.1)) n.split kept.news)).0 in
          (n.pair, record { held = here r f g a b w; olds = olds; news = news }))

      -- one that differs
      pub lists_other : (k : List (Difference A)) → IfSome told (Lists name room front old new before d e) → IfSome told (ListsPair name room front pair e k) → IfSome told (Lists name room front old new left d k)
      lists_other k = both_told told (Lists name room front old new before d e) (ListsPair name room front pair e k) (Lists name room front old new left d k) (λ r h c f g a b.
          let w = h f g a b in
          let n = at r f g a b w in
          listed_next name front (all_of f g) before left (shown_pair pair) d e k w n (c n.pair (here r f g a b w)))

      -- one that is the same
      pub lists_same : is_same (shown_pair pair) ≡ true → IfSome told (Lists name room front old new before d e) → IfSome told (Lists name room front old new left d e)
      lists_same is = map_told told (Lists name room front old new before d e) (Lists name room front old new left d e) (λ r h f g a b.
          let w = h f g a b in
          let n = at r f g a b w in
          let p = here r f g a b w in
          let none = same_listed name namer r room front (shown_pair pair) n.pair n.told p.shape p.olds p.news is in
          listed_next name front (all_of f g) before left (shown_pair pair) d e e w n (subst (λ ss. Adds (standing_below front ss) e e) (sym none) (adds_none e)))

-- ---- one pair

module _ (name : Kind → Bytes → Bytes) (namer : IsNamer name) (room : ℕ) (front : Path) (pair : Pair) (told : Option Records) (e : Entry) (q : Some e ≡ or_other pair.old pair.new) (held : IfSome told (ArePair name room front pair)) where
  module _ (path : Path) (same : IsTrue (is_component e.component.now) → IsTrue (is_short (front ++ e.component.now ∷ [])) → path ≡ front ++ e.component.now ∷ []) where
    path_is : (r : Records) (p : Level × Level) → IsPairBelow name r room front pair p → path ≡ front ++ e.component.now ∷ []
    path_is r p h =
        let k = (pair_is name namer r room front pair p h e q).chosen.below in
        same k.component k.short

    -- a file
    pub files_told : {A : Type 0} (before after : List (Difference A)) → (e.mode ≢ Dir) → is_same (shown_pair pair) ≡ false → Adds ((path, (entry_leaf pair.old, entry_leaf pair.new)) ∷ []) before after → IfSome told (ListsPair name room front pair before after)
    files_told before after d other h = map_told told (ArePair name room front pair) (ListsPair name room front pair before after) (λ r t p k.
        subst (λ ss. Adds ss before after) ((listed_pair name namer r room front pair p k e q).file d path (path_is r p k) other) h) held

    -- directories
    module _ (d : e.mode ≡ Dir) (old new : Option Bytes) (o : old ≡ name_if pair.old) (n : new ≡ name_if pair.new) where
      abbrev left : ℕ
      left = room - length e.component.now - 1

      below_path : (r : Records) (m k : Option Bytes) (f : FileMap Bytes) → path ≡ front ++ e.component.now ∷ [] → m ≡ k → IsBelowIf name r left (front ++ e.component.now ∷ []) k f → IsBelowIf name r left path m f
      below_path r m k f at is h = subst (λ p. IsBelowIf name r left p m f) (sym at) (subst (λ x. IsBelowIf name r left (front ++ e.component.now ∷ []) x f) (sym is) h)

      pub trees_listed : {A : Type 0} (before after : List (Difference A)) → IfSome told (ListsTrees name left path old new before after) → IfSome told (ListsPair name room front pair before after)
      trees_listed before after = map_told told (ListsTrees name left path old new before after) (ListsPair name room front pair before after) (λ r c p h.
          let x = (listed_pair name namer r room front pair p h e q).folder d in
          let at = path_is r p h in
          subst (λ ss. Adds ss before after) (ap (λ y. standing_below y (differing x.0 x.1)) at ∙ x.2.listed)
          (c x.0 x.1 (below_path r old (name_if pair.old) x.0 at o x.2.olds) (below_path r new (name_if pair.new) x.1 at n x.2.news)))

-- ---- whole trees

below_root : (ss : List Standing) → standing_below [] ss ≡ ss
below_root [] = refl
below_root (s ∷ ss) = ap (λ t. s ∷ t) (below_root ss)

module _ (name : Kind → Bytes → Bytes) (namer : IsNamer name) (told : Option Records) (old new : Option Name) (front : Path) (root : front ≡ []) where
  -- behind nothing
  pub roots_listed : {A : Type 0} (before after : List (Difference A)) → before ≡ [] → IfSome told (IsSound name) → IfSome told (λ r. IsTreeIf r old) → IfSome told (λ r. IsTreeIf r new)
      → IfSome told (ListsTrees name 4095 front (bytes_if old) (bytes_if new) before after) → IfSome told (λ r. AreListed name old new r after)
  roots_listed before after none = by told
    where
      by : (told : Option Records) → IfSome told (IsSound name) → IfSome told (λ r. IsTreeIf r old) → IfSome told (λ r. IsTreeIf r new)
          → IfSome told (ListsTrees name 4095 front (bytes_if old) (bytes_if new) before after) → IfSome told (λ r. AreListed name old new r after)
      by None s o n c = tt
      by (Some r) s o n c =
          let f = names_if name r old in
          let k = names_if name r new in
          let a = c f k (subst (λ p. IsBelowIf name r 4095 p (bytes_if old) f) (sym root) (root_if name namer r s old o)) (subst (λ p. IsBelowIf name r 4095 p (bytes_if new) k) (sym root) (root_if name namer r s new n)) in
          a ∙ ap (λ t. shown_differences t ++ standing_below front (differing f k)) none ∙ ap (λ p. standing_below p (differing f k)) root ∙ below_root (differing f k)
