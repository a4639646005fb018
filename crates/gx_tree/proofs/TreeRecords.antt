-- The records of a directory's trees, by its entries.
use Rattle.std.proofs.Common.{◌≡◌, ◌≢◌, ℕ, zero, suc, ◌≤◌, true, false, cond, List, [], ◌∷◌, ◌++◌, map, length, Option, Some, None, inl, inr, refl, sym, ap, ◌∙◌, arith, append-nil}
use Rattle.std.specs.Prelude.{is_none}
use Rattle.std.specs.List.{filter, flat_map, list_all, list_any, AllByRecursion}
use Rattle.std.specs.Ordering.{nat_cmp}
use Rattle.std.specs.Cmp.Lexicographic.{slice_cmp}
use Rattle.std.specs.FinMap.Entries.{below_all, is_sorted}
use Rattle.std.proofs.lemmas.List.{map-append}
use Rattle.std.proofs.lemmas.Bool.{and_from, and_parts, or_from, false≢true, not_from_false}
use Rattle.gx_model.specs.declared.objects.Kind.{Kind}
use Rattle.gx_model.specs.declared.objects.Mode.{Mode}
use Rattle.gx_model.specs.declared.objects.Mode.TheVariants.{File, Exec, Link, Gitlink, Dir}
use Rattle.gx_model.specs.Texts.{Bytes, same_bytes}
use Rattle.gx_model.specs.Texts.Paths.{Path, is_component}
use Rattle.gx_model.specs.Histories.Files.{FileMap, Leaf, depth, file_at, first_components, sub_map, with_first}
use Rattle.gx_model.specs.Records.HistoryOf.{placed}
use Rattle.gx_model.specs.Objects.{Entry, are_different, entry_key, is_canonical, is_dir}
use Rattle.gx_model.specs.Records.{entries, entry, node}
use Rattle.gx_model.specs.Histories.Values.{sub_maps}
use Rattle.gx_model.specs.Records.Growth.{all_trees, all_trees_to, tree_record, tree_records}
use Rattle.gx_model.proofs.ObjectTexts.TreeBodies.{depth_sub, unrolled}
use Rattle.gx_tree.specs.Nodes.{Kept, Level, IsAfter, IsKept, IsLevel, file, files, folder, is_inner_path, kept_at, kept_map, key, map_if}
use Rattle.gx_tree.specs.Writes.{kept_leaf, kept_records, map_name}
use Rattle.gx_tree.proofs.Texts.{cases_bytes, bytes_same, same_bytes_flip, same_itself}
use Rattle.gx_tree.proofs.Lookups.{AreInner, no_root}
use Rattle.gx_tree.proofs.Below.{file_at-files, sub_map-files, sub_map-whole}

-- ---- the first components of the files are the entries' components

abbrev pub components_of : Level → List Bytes
components_of = map (λ e. e.0)

-- c does not stand first
abbrev NotFirst : Bytes → List Bytes → Type 0
NotFirst c [] = Unit {0}
NotFirst c (d ∷ cs) = same_bytes c d ≡ false

first_new : (c : Bytes) (cs : List Bytes) → NotFirst c cs → with_first c cs ≡ c ∷ cs
first_new c [] n = refl
first_new c (d ∷ cs) n = rw n refl

first_again : (c : Bytes) (cs : List Bytes) → with_first c (c ∷ cs) ≡ c ∷ cs
first_again c cs = rw (same_itself c) refl

firsts_placed : (c : Bytes) (e : Path × Leaf Bytes) (f g : FileMap Bytes) (cs : List Bytes) → first_components g ≡ cs → NotFirst c cs → first_components (placed c (e ∷ f) ++ g) ≡ c ∷ cs
firsts_placed c e [] g cs s n = ap (with_first c) s ∙ first_new c cs n
firsts_placed c e (x ∷ f) g cs s n = ap (with_first c) (firsts_placed c x f g cs s n) ∙ first_again c cs

firsts_kept : (c : Bytes) (k : Kept) (g : FileMap Bytes) (cs : List Bytes) → IsKept k → first_components g ≡ cs → NotFirst c cs → first_components (placed c (kept_map k) ++ g) ≡ c ∷ cs
firsts_kept c (file x) g cs h s n = firsts_placed c ([], x) [] g cs s n
firsts_kept c (folder []) g cs h s n = absurd (h.0 refl)
firsts_kept c (folder (e ∷ f)) g cs h s n = firsts_placed c e f g cs s n

not_first : (e : Bytes × Kept) (es : Level) → AllByRecursion (IsAfter e) es → NotFirst e.0 (components_of es)
not_first e [] h = tt
not_first e (f ∷ es) h = h.0.0

pub first_components-files : (es : Level) → IsLevel es → first_components (files es) ≡ components_of es
first_components-files [] h = refl
first_components-files (e ∷ es) h = firsts_kept e.0 e.1 (files es) (components_of es) h.1 (first_components-files es h.3) (not_first e es h.2)

-- ---- each entry stands at its component

abbrev AllStand : Level → Level → Type 0
AllStand es = AllByRecursion (λ e. (kept_at e.0 es ≡ Some e.1) × IsKept e.1)

stand_behind : (e : Bytes × Kept) (es fs : Level) → AllByRecursion (IsAfter e) fs → AllStand es fs → AllStand (e ∷ es) fs
stand_behind e es [] a h = tt
stand_behind e es (f ∷ fs) a h = ((rw (same_bytes_flip f.0 e.0, a.0.0) h.0.0, h.0.1), stand_behind e es fs a.1 h.1)

all_stand : (es : Level) → IsLevel es → AllStand es es
all_stand [] h = tt
all_stand (e ∷ es) h = ((rw (same_itself e.0) refl, h.1), stand_behind e es es h.2 (all_stand es h.3))

-- ---- the entries of the tree

module _ (name : Kind → Bytes → Bytes) where
  abbrev pub kept_entry : Bytes × Kept → Entry
  kept_entry e = entry name e.0 (kept_leaf name e.1)

  node_kept : (k : Kept) → IsKept k → node name (file_at (kept_map k) []) (map_name name (kept_map k)) ≡ kept_leaf name k
  node_kept (file x) h = refl
  node_kept (folder f) h = rw (no_root f h.1.paths) refl

  entries_among : (es fs : Level) → IsLevel es → AllStand es fs → map (λ c. entry name c (node name (file_at (files es) (c ∷ [])) (map_name name (sub_map (files es) (c ∷ []))))) (components_of fs) ≡ map kept_entry fs
  entries_among es [] h a = refl
  entries_among es (f ∷ fs) h a =
      let one : node name (file_at (files es) (f.0 ∷ [])) (map_name name (sub_map (files es) (f.0 ∷ []))) ≡ kept_leaf name f.1 =
      rw (file_at-files f.0 [] es h, sub_map-files f.0 [] es h, a.0.0, sub_map-whole (kept_map f.1)) (node_kept f.1 a.0.1) in
      let rest = entries_among es fs h a.1 in
      λ i. entry name f.0 (one i) ∷ rest i

  -- the tree of the files below a directory has an entry for each of its own
  pub entries-files : (es : Level) → IsLevel es → entries name (files es) ≡ map kept_entry es
  entries-files es h = unrolled name (files es) ∙ ap (map _) (first_components-files es h) ∙ entries_among es es h (all_stand es h)

  -- ---- they are canonical

  no_dir : (m : Mode) → (m ≢ Dir) → is_dir m ≡ false
  no_dir File n = refl
  no_dir Exec n = refl
  no_dir Link n = refl
  no_dir Gitlink n = refl
  no_dir Dir n = absurd (n refl)

  key_is : (e : Bytes × Kept) → IsKept e.1 → entry_key (kept_entry e) ≡ key e.0 e.1
  key_is e h = by e.1 h
    where
      by : (k : Kept) → IsKept k → entry_key (kept_entry (e.0, k)) ≡ key e.0 k
      by (file x) h = ap (λ b. cond b (e.0 ++ 47 ∷ []) e.0) (no_dir x.0 h) ∙ sym (append-nil e.0)
      by (folder f) h = refl

  abbrev keys : Level → List (Bytes × Bytes)
  keys es = map (λ e. (key e.0 e.1, e.0)) es

  keys_are : (es : Level) → IsLevel es → map (λ e. (entry_key e, e.component)) (map kept_entry es) ≡ keys es
  keys_are [] h = refl
  keys_are (e ∷ es) h = let k = key_is e h.1 in let r = keys_are es h.3 in λ i. (k i, e.0) ∷ r i

  keys_below : (e : Bytes × Kept) (es : Level) → AllByRecursion (IsAfter e) es → below_all (slice_cmp nat_cmp) (key e.0 e.1) (keys es) ≡ true
  keys_below e [] h = refl
  keys_below e (f ∷ es) h = and_from _ _ h.0.1 (keys_below e es h.1)

  keys_sorted : (es : Level) → IsLevel es → is_sorted (slice_cmp nat_cmp) (keys es) ≡ true
  keys_sorted [] h = refl
  keys_sorted (e ∷ es) h = and_from _ _ (keys_below e es h.2) (keys_sorted es h.3)

  none_same : (e : Bytes × Kept) (es : Level) → AllByRecursion (IsAfter e) es → list_any (same_bytes e.0) (map (λ x. x.component) (map kept_entry es)) ≡ false
  none_same e [] h = refl
  none_same e (f ∷ es) h = or_from _ _ h.0.0 (none_same e es h.1)

  different : (es : Level) → IsLevel es → are_different (map (λ x. x.component) (map kept_entry es)) ≡ true
  different [] h = refl
  different (e ∷ es) h = and_from _ _ (not_from_false _ (none_same e es h.2)) (different es h.3)

  proper : (es : Level) → IsLevel es → list_all (λ e. is_component e.component) (map kept_entry es) ≡ true
  proper [] h = refl
  proper (e ∷ es) h = and_from _ _ h.0 (proper es h.3)

  pub canonical : (es : Level) → IsLevel es → is_canonical (map kept_entry es) ≡ true
  canonical es h = and_from _ _ (and_from _ _ (proper es h) (ap (is_sorted (slice_cmp nat_cmp)) (keys_are es h) ∙ keys_sorted es h)) (different es h)

-- ---- the trees, each after those below it

inner_more : (c : Bytes) (p : Path) (x : Leaf Bytes) (f : FileMap Bytes) → is_inner_path p ≡ true → (file_at f (c ∷ []) ≡ None → AreInner (sub_map f (c ∷ []))) → file_at ((p, x) ∷ f) (c ∷ []) ≡ None → AreInner (sub_map ((p, x) ∷ f) (c ∷ []))
inner_more c [] x f k ih n = absurd (false≢true k)
inner_more c (d ∷ []) x f k ih n = elim (cases_bytes c d) [
  | inl s ↦ let clash : Some x ≡ None = rw (bytes_same c d s) at n in cc
  | inr s ↦ rw s (ih (rw s at n))
]
inner_more c (d ∷ e ∷ p) x f k ih n = elim (cases_bytes c d) [
  | inl s ↦ rw (bytes_same c d s) (and_from _ _ (and_parts _ _ k).1 (ih (rw (bytes_same c d s) at n)))
  | inr s ↦ rw s (ih (rw s at n))
]

sub_inner : (c : Bytes) (f : FileMap Bytes) → AreInner f → file_at f (c ∷ []) ≡ None → AreInner (sub_map f (c ∷ []))
sub_inner c [] h n = refl
sub_inner c (e ∷ f) h n = inner_more c e.0 e.1 f (and_parts _ _ h).0 (sub_inner c f (and_parts _ _ h).1) n

no_depth : (f : FileMap Bytes) → AreInner f → depth f ≤ 0 → f ≡ []
no_depth [] h l = refl
no_depth (e ∷ f) h l = by e.0 (and_parts _ _ h).0 (omega arith)
  where
    by : (p : Path) → is_inner_path p ≡ true → length p ≤ 0 → e ∷ f ≡ []
    by [] k m = absurd (false≢true k)
    by (c ∷ p) k m = absurd (omega arith)

abbrev IsWithin : ℕ → ℕ → FileMap Bytes → Type 0
IsWithin m n f = AreInner f × (depth f ≤ m) × (depth f ≤ n)

subs_within : (m n : ℕ) (f : FileMap Bytes) → AreInner f → depth f ≤ suc m → depth f ≤ suc n → (cs : List Bytes) → AllByRecursion (IsWithin m n) (map (λ c. sub_map f (c ∷ [])) (filter (λ c. is_none (file_at f (c ∷ []))) cs))
subs_within m n f h k l [] = tt
subs_within m n f h k l (c ∷ cs) =
    let rest = subs_within m n f h k l cs in
    by (file_at f (c ∷ [])) refl rest
  where
    by : (o : Option (Leaf Bytes)) → file_at f (c ∷ []) ≡ o → AllByRecursion (IsWithin m n) (map (λ c. sub_map f (c ∷ [])) (filter (λ c. is_none (file_at f (c ∷ []))) cs)) → AllByRecursion (IsWithin m n) (map (λ c. sub_map f (c ∷ [])) (cond (is_none (file_at f (c ∷ []))) (c ∷ filter (λ c. is_none (file_at f (c ∷ []))) cs) (filter (λ c. is_none (file_at f (c ∷ []))) cs)))
    by None e rest = rw (ap is_none e) ((sub_inner c f h e, depth_sub c m f k, depth_sub c n f l), rest)
    by (Some x) e rest = rw (ap is_none e) rest

agree : (m n : ℕ) → ((f : FileMap Bytes) → AreInner f → depth f ≤ m → depth f ≤ n → all_trees_to m f ≡ all_trees_to n f) → (gs : List (FileMap Bytes)) → AllByRecursion (IsWithin m n) gs → flat_map (all_trees_to m) gs ≡ flat_map (all_trees_to n) gs
agree m n one [] h = refl
agree m n one (g ∷ gs) h = let a = one g h.0.0 h.0.1 h.0.2 in let r = agree m n one gs h.1 in λ i. a i ++ r i

-- more depth than there is changes nothing
deeper : (m n : ℕ) (f : FileMap Bytes) → AreInner f → depth f ≤ m → depth f ≤ n → all_trees_to m f ≡ all_trees_to n f
deeper zero zero f h k l = refl
deeper zero (suc n) f h k l = rw (no_depth f h k) refl
deeper (suc m) zero f h k l = rw (no_depth f h l) refl
deeper (suc m) (suc n) f h k l = ap (λ t. t ++ f ∷ []) (agree m n (deeper m n) (sub_maps f) (subs_within m n f h k l (first_components f)))

each_whole : (n : ℕ) (gs : List (FileMap Bytes)) → AllByRecursion (IsWithin n n) gs → flat_map (all_trees_to n) gs ≡ flat_map all_trees gs
each_whole n [] h = refl
each_whole n (g ∷ gs) h = let a = deeper n (depth g) g h.0.0 h.0.1 (omega arith) in let r = each_whole n gs h.1 in λ i. a i ++ r i

-- the trees of a file map, by those of its sub-maps
pub trees_unrolled : (f : FileMap Bytes) → AreInner f → all_trees f ≡ flat_map all_trees (sub_maps f) ++ f ∷ []
trees_unrolled f h = to (depth f) (omega arith)
  where
    to : (n : ℕ) → depth f ≤ n → all_trees_to n f ≡ flat_map all_trees (sub_maps f) ++ f ∷ []
    to zero l = rw (no_depth f h l) refl
    to (suc n) l = ap (λ t. t ++ f ∷ []) (each_whole n (sub_maps f) (subs_within n n f h l l (first_components f)))

-- ---- those of a directory, by its entries

abbrev pub kept_trees : Kept → List (FileMap Bytes)
kept_trees (file x) = []
kept_trees (folder f) = all_trees f

subs_among : (es fs : Level) → IsLevel es → AllStand es fs → flat_map all_trees (map (λ c. sub_map (files es) (c ∷ [])) (filter (λ c. is_none (file_at (files es) (c ∷ []))) (components_of fs))) ≡ flat_map (λ e. kept_trees e.1) fs
subs_among es [] h a = refl
subs_among es (f ∷ fs) h a =
    let at = file_at-files f.0 [] es h ∙ ap (λ o. file_at (map_if o) []) a.0.0 in
    let sub : sub_map (files es) (f.0 ∷ []) ≡ kept_map f.1 = sub_map-files f.0 [] es h ∙ ap (λ o. sub_map (map_if o) []) a.0.0 ∙ sub_map-whole (kept_map f.1) in
    by f.1 a.0.1 at sub (subs_among es fs h a.1)
  where
    by : (k : Kept) → IsKept k → file_at (files es) (f.0 ∷ []) ≡ file_at (kept_map k) [] → sub_map (files es) (f.0 ∷ []) ≡ kept_map k → flat_map all_trees (map (λ c. sub_map (files es) (c ∷ [])) (filter (λ c. is_none (file_at (files es) (c ∷ []))) (components_of fs))) ≡ flat_map (λ e. kept_trees e.1) fs → flat_map all_trees (map (λ c. sub_map (files es) (c ∷ [])) (cond (is_none (file_at (files es) (f.0 ∷ []))) (f.0 ∷ filter (λ c. is_none (file_at (files es) (c ∷ []))) (components_of fs)) (filter (λ c. is_none (file_at (files es) (c ∷ []))) (components_of fs)))) ≡ kept_trees k ++ flat_map (λ e. kept_trees e.1) fs
    by (file x) hk at sub rest = rw (ap is_none at) rest
    by (folder g) hk at sub rest = rw (ap is_none (at ∙ no_root g hk.1.paths)) (let s = ap all_trees sub in λ i. s i ++ rest i)

module _ (name : Kind → Bytes → Bytes) where
  kept_mapped : (k : Kept) → map (tree_record name) (kept_trees k) ≡ kept_records name k
  kept_mapped (file x) = refl
  kept_mapped (folder g) = refl

  mapped : (es : Level) → map (tree_record name) (flat_map (λ e. kept_trees e.1) es) ≡ flat_map (λ e. kept_records name e.1) es
  mapped [] = refl
  mapped (e ∷ es) =
      map-append (tree_record name) (kept_trees e.1) (flat_map (λ e. kept_trees e.1) es)
      ∙ (let a = kept_mapped e.1 in let r = mapped es in λ i. a i ++ r i)

  pub tree_records-files : (es : Level) → IsLevel es → AreInner (files es) → tree_records name (files es) ≡ flat_map (λ e. kept_records name e.1) es ++ tree_record name (files es) ∷ []
  tree_records-files es h i =
      ap (map (tree_record name)) (trees_unrolled (files es) i ∙ ap (λ t. t ++ files es ∷ []) (ap (λ cs. flat_map all_trees (map (λ c. sub_map (files es) (c ∷ [])) (filter (λ c. is_none (file_at (files es) (c ∷ []))) cs))) (first_components-files es h) ∙ subs_among es es h (all_stand es h)))
      ∙ map-append (tree_record name) (flat_map (λ e. kept_trees e.1) es) (files es ∷ [])
      ∙ ap (λ t. t ++ tree_record name (files es) ∷ []) (mapped es)
