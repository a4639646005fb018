-- What differs between two held trees, added pair by pair.
use Rattle.std.proofs.Common.{◌≡◌, ◌≢◌, ◌∙◌, ℕ, List, [], ◌∷◌, ◌++◌, map, Option, None, true, refl, sym, ap, subst, append_assoc, append-nil}
use Rattle.std.specs.Prelude.{IfSome}
use Rattle.std.specs.List.{AllByRecursion}
use Rattle.std.specs.declared.cmp.Ordering.{Ordering}
use Rattle.std.specs.declared.cmp.Ordering.TheVariants.{Less, Equal, Greater}
use Rattle.std.proofs.lemmas.Grind.{flat_map-append}
use Rattle.std.proofs.lemmas.List.{map-append}
use Rattle.gx_model.specs.declared.objects.Kind.{Kind}
use Rattle.gx_model.specs.Changes.{changed_files, gone_paths}
use Rattle.gx_model.specs.Histories.Files.{FileMap}
use Rattle.gx_model.specs.Histories.{Records}
use Rattle.gx_model.specs.Objects.{Entry as TreeEntry, IsNamer}
use Rattle.gx_model.specs.Texts.{Bytes}
use Rattle.gx_model.specs.Texts.Paths.{Path}
use Rattle.gx_model.proofs.ObjectTexts.OneTree.{all_right}
use Rattle.gx_object.specs.declared.name.Name.{Name}
use Rattle.gx_object.specs.Parts.{bytes_if}
use Rattle.gx_tree.specs.Lists.{below}
use Rattle.gx_tree.specs.Nodes.{IsKept, IsLevel, Level, files}
use Rattle.gx_tree.proofs.LevelsOf.{level_of}
use Rattle.gx_tree.proofs.TreeRecords.{kept_entry}
use Rattle.gx_export.specs.Compared.{IsBelowIf, IsPairBelow, IsTreeIf, entries_if, paths_below}
use Rattle.gx_export.specs.Pairs.{entry_order, is_same, shown_pair, side_by_side, with_old}
use Rattle.gx_export.specs.declared.pairs.Pair.{Pair}
use Rattle.gx_export.proofs.PassedPairs.{ArePairsOf, IsAtPair, at_pair, level_if, next_pair, pairs_if, tree_there}
use Rattle.gx_export.proofs.Pairing.{same_pair}
use Rattle.gx_export.proofs.SideBySide.{all_pairs, both_entries, changed_by, gone_by, kept_order}
use Rattle.gx_differences.specs.Differences.{AddsBetween, AddsFile, AreTrees, ArePair, ComparesPair, ComparesTrees, shown_files}
use Rattle.gx_differences.specs.declared.differences.Differences.{Differences}
use Rattle.gx_differences.proofs.Told.{both_told, map_told, none_told}

-- ---- what is added behind what was added

module _ {A : Type 0} where
  adds_nothing : (d : Differences A) → AddsFile [] [] d d
  adds_nothing d = record { paths = sym (append-nil d.gone.items); files = sym (append-nil (shown_files d.files.items)) }

  adds_next : (xs ys : FileMap Bytes) (gs hs : List Path) (first next last : Differences A) → AddsFile xs gs first next → AddsFile ys hs next last → AddsFile (xs ++ ys) (gs ++ hs) first last
  adds_next xs ys gs hs first next last h k = record {
    paths = k.paths ∙ ap (λ t. t ++ hs) h.paths ∙ append_assoc first.gone.items gs hs;
    files = k.files ∙ ap (λ t. t ++ ys) h.files ∙ append_assoc (shown_files first.files.items) xs ys;
  }

-- ---- the loop over the pairs

changed_more : (front : Path) (done : List (Level × Level)) (x : Level × Level) → below front (changed_by (done ++ x ∷ [])) ≡ below front (changed_by done) ++ below front (changed_files (files x.0) (files x.1))
changed_more front done x =
    ap (below front) (flat_map-append (λ p. changed_files (files p.0) (files p.1)) done (x ∷ []) ∙ ap (λ t. changed_by done ++ t) (append-nil (changed_files (files x.0) (files x.1))))
    ∙ map-append (λ e. (front ++ e.0, e.1)) (changed_by done) (changed_files (files x.0) (files x.1))

gone_more : (front : Path) (done : List (Level × Level)) (x : Level × Level) → paths_below front (gone_by (done ++ x ∷ [])) ≡ paths_below front (gone_by done) ++ paths_below front (gone_paths (files x.0) (files x.1))
gone_more front done x =
    ap (paths_below front) (flat_map-append (λ p. gone_paths (files p.0) (files p.1)) done (x ∷ []) ∙ ap (λ t. gone_by done ++ t) (append-nil (gone_paths (files x.0) (files x.1))))
    ∙ map-append (λ p. front ++ p) (gone_by done) (gone_paths (files x.0) (files x.1))

-- what differs in some pairs was added, and the others are to come
pub record IsPassed {A : Type 0} (name : Kind → Bytes → Bytes) (front : Path) (all : List (Level × Level)) (left : List (List TreeEntry × List TreeEntry)) (before after : Differences A) : Type 0 where
  pub done : List (Level × Level)
  pub rest : List (Level × Level)
  pub split : all ≡ done ++ rest
  pub to_come : left ≡ map (both_entries name) rest
  pub added : AddsFile (below front (changed_by done)) (paths_below front (gone_by done)) before after

module _ {A : Type 0} (name : Kind → Bytes → Bytes) (front : Path) (all : List (Level × Level)) (before left : List (List TreeEntry × List TreeEntry)) (item : List TreeEntry × List TreeEntry) (first next last : Differences A) where
  -- one pair more
  passed_next : (w : IsPassed name front all before first next) → (n : IsAtPair name all w.done item left) → AddsBetween front (files n.pair.0) (files n.pair.1) next last → IsPassed name front all left first last
  passed_next w n k = record {
    done = w.done ++ n.pair ∷ [];
    rest = n.rest;
    split = n.split ∙ sym (append_assoc w.done (n.pair ∷ []) n.rest);
    to_come = n.to_come;
    added =
        let both = adds_next (below front (changed_by w.done)) (below front (changed_files (files n.pair.0) (files n.pair.1))) (paths_below front (gone_by w.done)) (paths_below front (gone_paths (files n.pair.0) (files n.pair.1))) first next last w.added k in
        subst (λ gs. AddsFile (below front (changed_by (w.done ++ n.pair ∷ []))) gs first last) (sym (gone_more front w.done n.pair))
        (subst (λ fs. AddsFile fs (paths_below front (gone_by w.done) ++ paths_below front (gone_paths (files n.pair.0) (files n.pair.1))) first last) (sym (changed_more front w.done n.pair)) both);
  }

-- with no pair left all was added
passed_all : {A : Type 0} (name : Kind → Bytes → Bytes) (front : Path) (all : List (Level × Level)) (left : List (List TreeEntry × List TreeEntry)) (before after : Differences A) (total : FileMap Bytes) (gone : List Path)
    → left ≡ [] → total ≡ changed_by all → gone ≡ gone_by all → IsPassed name front all left before after → AddsFile (below front total) (paths_below front gone) before after
passed_all name front all left before after total gone e t u w =
    let done : w.done ≡ all = by w.rest w.split (sym e ∙ w.to_come) in
    subst (λ gs. AddsFile (below front total) (paths_below front gs) before after) (ap gone_by done ∙ sym u)
    (subst (λ fs. AddsFile (below front fs) (paths_below front (gone_by w.done)) before after) (ap changed_by done ∙ sym t) w.added)
  where
    by : (rest : List (Level × Level)) → all ≡ w.done ++ rest → [] ≡ map (both_entries name) rest → w.done ≡ all
    by [] s c = sym (s ∙ append-nil w.done)
    by (x ∷ rest) s c = absurd (cc c)

-- ---- levels

pub kept_each : (es : Level) → IsLevel es → AllByRecursion (λ e. IsKept e.1) es
kept_each [] h = tt
kept_each (e ∷ es) h = (h.1, kept_each es h.3)

abbrev Sides : Type 0
Sides = List (List TreeEntry × List TreeEntry)

none_by_side : (es ds : List TreeEntry) → [] ≡ side_by_side entry_order es ds → (es ≡ []) × (ds ≡ [])
none_by_side [] [] e = (refl, refl)
none_by_side [] (d ∷ ds) e = absurd (cc e)
none_by_side (x ∷ es) [] e = absurd (cc e)
none_by_side (x ∷ es) (d ∷ ds) e = absurd (by (entry_order x d) e)
  where
    by : (o : Ordering) → ◌≡◌ {A = Sides} [] (elim o [ Less ↦ (x ∷ [], []) ∷ side_by_side entry_order es (d ∷ ds) | Equal ↦ (x ∷ [], d ∷ []) ∷ side_by_side entry_order es ds | Greater ↦ ([], d ∷ []) ∷ with_old entry_order x (side_by_side entry_order es) ds ]) → ⊥
    by Less e = cc e
    by Equal e = cc e
    by Greater e = cc e

no_entries : (name : Kind → Bytes → Bytes) (es : Level) → [] ≡ map (kept_entry name) es → es ≡ []
no_entries name [] e = refl
no_entries name (x ∷ es) e = absurd (cc e)

-- ---- two trees of the repository that is told

abbrev all_of : FileMap Bytes → FileMap Bytes → List (Level × Level)
all_of f g = side_by_side kept_order (level_of f) (level_of g)

module _ (name : Kind → Bytes → Bytes) (room : ℕ) (front : Path) (old new : Option Name) where
  -- some pairs were passed, whatever the files of the two trees
  abbrev pub Passes : {A : Type 0} → List (List TreeEntry × List TreeEntry) → Differences A → Differences A → Records → Type 0
  Passes left before after r =
      (f g : FileMap Bytes) → IsBelowIf name r room front (bytes_if old) f → IsBelowIf name r room front (bytes_if new) g → IsPassed name front (all_of f g) left before after

  abbrev Trees : Records → Type 0
  Trees r = AreTrees name room front (bytes_if old) (bytes_if new) r

module _ (name : Kind → Bytes → Bytes) (namer : IsNamer name) (room : ℕ) (front : Path) (old new : Option Name) where
  pairs_of : (r : Records) (f g : FileMap Bytes) → IsBelowIf name r room front (bytes_if old) f → IsBelowIf name r room front (bytes_if new) g → ArePairsOf name namer r room front f g (side_by_side entry_order (entries_if r old) (entries_if r new)) (all_of f g)
  pairs_of r f g a b = pairs_if name namer r room front old new f g (side_by_side entry_order (entries_if r old) (entries_if r new)) refl a b

  module _ (told : Option Records) where
    pub old_there : IfSome told (Trees name room front old new) → IfSome told (λ r. IsTreeIf r old)
    old_there = map_told told (Trees name room front old new) (λ r. IsTreeIf r old) (λ r t. tree_there name namer r room front old t.0 t.1.1.olds)

    pub new_there : IfSome told (Trees name room front old new) → IfSome told (λ r. IsTreeIf r new)
    new_there = map_told told (Trees name room front old new) (λ r. IsTreeIf r new) (λ r t. tree_there name namer r room front new t.1.0 t.1.1.news)

    -- below the root something is left
    pub not_none : (olds news : List TreeEntry) (left : List (List TreeEntry × List TreeEntry)) → left ≡ side_by_side entry_order olds news → IfSome told (λ r. olds ≡ entries_if r old) → IfSome told (λ r. news ≡ entries_if r new)
        → left ≡ [] → (front ≢ []) → IfSome told (Trees name room front old new) → told ≡ None
    not_none olds news left e o n none some trees =
        none_told told (λ r. (olds ≡ entries_if r old) × ((news ≡ entries_if r new) × Trees name room front old new r)) (λ r h.
        let t = h.1.1.1.1 in
        let sides = none_by_side (entries_if r old) (entries_if r new) (sym none ∙ e ∙ (λ i. side_by_side entry_order (h.0 i) (h.1.0 i))) in
        let x = level_if name namer r room front old h.1.1.0 t.olds in
        let y = level_if name namer r room front new h.1.1.1.0 t.news in
        let xs = no_entries name (level_of h.1.1.0) (sym sides.0 ∙ x.entries) in
        let ys = no_entries name (level_of h.1.1.1.0) (sym sides.1 ∙ y.entries) in
        t.some some (sym x.files ∙ ap files xs) (sym y.files ∙ ap files ys))
        (both_told told (λ r. olds ≡ entries_if r old) (λ r. (news ≡ entries_if r new) × Trees name room front old new r) (λ r. (olds ≡ entries_if r old) × ((news ≡ entries_if r new) × Trees name room front old new r)) (λ r a b. (a, b)) o
        (both_told told (λ r. news ≡ entries_if r new) (Trees name room front old new) (λ r. (news ≡ entries_if r new) × Trees name room front old new r) (λ r a b. (a, b)) n trees))

  module _ {A : Type 0} (told : Option Records) where
    pub passes_first : (olds news : List TreeEntry) (left : List (List TreeEntry × List TreeEntry)) (d : Differences A) → left ≡ side_by_side entry_order olds news → IfSome told (λ r. olds ≡ entries_if r old) → IfSome told (λ r. news ≡ entries_if r new) → IfSome told (Passes name room front old new left d d)
    passes_first olds news left d e = both_told told (λ r. olds ≡ entries_if r old) (λ r. news ≡ entries_if r new) (Passes name room front old new left d d) (λ r o n f g a b.
        record {
          done = [];
          rest = all_of f g;
          split = refl;
          to_come = e ∙ (λ i. side_by_side entry_order (o i) (n i)) ∙ (pairs_of r f g a b).items;
          added = adds_nothing d;
        })

    pub passes_last : (left : List (List TreeEntry × List TreeEntry)) (d k : Differences A) → left ≡ [] → IfSome told (Passes name room front old new left d k) → IfSome told (ComparesTrees name room front (bytes_if old) (bytes_if new) d k)
    passes_last left d k e = map_told told (Passes name room front old new left d k) (ComparesTrees name room front (bytes_if old) (bytes_if new) d k) (λ r h f g a b.
        let all = pairs_of r f g a b in
        passed_all name front (all_of f g) left d k (changed_files f g) (gone_paths f g) e all.changed all.gone (h f g a b))

    module _ (before left : List (List TreeEntry × List TreeEntry)) (pair : Pair) (steps : before ≡ shown_pair pair ∷ left) (d e : Differences A) where
      at : (r : Records) (f g : FileMap Bytes) → IsBelowIf name r room front (bytes_if old) f → IsBelowIf name r room front (bytes_if new) g → (w : IsPassed name front (all_of f g) before d e) → IsAtPair name (all_of f g) w.done (shown_pair pair) left
      at r f g a b w = next_pair name (all_of f g) w.done w.rest (shown_pair pair) before left w.split w.to_come steps

      here : (r : Records) (f g : FileMap Bytes) (a : IsBelowIf name r room front (bytes_if old) f) (b : IsBelowIf name r room front (bytes_if new) g) (w : IsPassed name front (all_of f g) before d e) → IsPairBelow name r room front pair (at r f g a b w).pair
      here r f g a b w =
          let all = pairs_of r f g a b in
          at_pair name namer r room front f g (side_by_side entry_order (entries_if r old) (entries_if r new)) (all_of f g) w.done (shown_pair pair) left pair all (at r f g a b w) refl

      -- the pair at hand
      pub pair_told : IfSome told (Trees name room front old new) → IfSome told (Passes name room front old new before d e) → IfSome told (ArePair name room front pair)
      pair_told = both_told told (Trees name room front old new) (Passes name room front old new before d e) (ArePair name room front pair) (λ r t h.
          let f = t.0 in
          let g = t.1.0 in
          let a = t.1.1.olds in
          let b = t.1.1.news in
          let w = h f g a b in
          let n = at r f g a b w in
          let x = level_if name namer r room front old f a in
          let y = level_if name namer r room front new g b in
          let kept = all_pairs (λ e. IsKept e.1) (λ e. IsKept e.1) (level_of f) (level_of g) x.level y.level (kept_each (level_of f) x.level) (kept_each (level_of g) y.level) in
          let olds = (all_right (λ (p : Level × Level). AllByRecursion (λ e. IsKept e.1) p.0) w.done (n.pair ∷ n.rest) (subst (AllByRecursion (λ (p : Level × Level). AllByRecursion (λ e. IsKept e.1) p.0)) n.split kept.olds)).0 in
          let news = (all_right (λ (p : Level × Level). AllByRecursion (λ e. IsKept e.1) p.1) w.done (n.pair ∷ n.rest) (subst (AllByRecursion (λ (p : Level × Level). AllByRecursion (λ e. IsKept e.1) p.1)) n.split kept.news)).0 in
          (n.pair, record { held = here r f g a b w; olds = olds; news = news }))

      -- one that differs
      pub passes_other : (k : Differences A) → IfSome told (Passes name room front old new before d e) → IfSome told (ComparesPair name room front pair e k) → IfSome told (Passes name room front old new left d k)
      passes_other k = both_told told (Passes name room front old new before d e) (ComparesPair name room front pair e k) (Passes name room front old new left d k) (λ r h c f g a b.
          let w = h f g a b in
          let n = at r f g a b w in
          passed_next name front (all_of f g) before left (shown_pair pair) d e k w n (c n.pair (here r f g a b w)))

      -- one that is the same
      pub passes_same : is_same (shown_pair pair) ≡ true → IfSome told (Passes name room front old new before d e) → IfSome told (Passes name room front old new left d e)
      passes_same is = map_told told (Passes name room front old new before d e) (Passes name room front old new left d e) (λ r h f g a b.
          let w = h f g a b in
          let n = at r f g a b w in
          let p = here r f g a b w in
          let none = same_pair name namer r room front (shown_pair pair) n.pair n.told p.shape p.olds p.news is in
          passed_next name front (all_of f g) before left (shown_pair pair) d e e w n
          (subst (λ gs. AddsFile (below front (changed_files (files n.pair.0) (files n.pair.1))) (paths_below front gs) e e) (sym none.1)
          (subst (λ fs. AddsFile (below front fs) [] e e) (sym none.0) (adds_nothing e))))
