-- The entries of a map of names: its first components, each with its file or its sub-map.
use Rattle.std.proofs.Common.{◌≡◌, ◌≢◌, Bool, true, false, cond, List, [], ◌∷◌, ◌++◌, map, drop, Option, Some, None, inl, inr, refl, sym, ap, ◌∙◌, subst, append-nil}
use Rattle.std.specs.List.{flat_map, list_all, AllByRecursion}
use Rattle.std.specs.Map.{lookup}
use Rattle.std.specs.Ordering.{is_lt, nat_cmp}
use Rattle.std.specs.Cmp.{tied_itself}
use Rattle.std.specs.Cmp.Lexicographic.{nat_list_cmp_total, slice_cmp}
use Rattle.std.specs.FinMap.Entries.{below_all, is_sorted}
use Rattle.std.proofs.lemmas.Bool.{and_from, and_parts, false≢true, true≢false}
use Rattle.gx_model.specs.declared.objects.Mode.TheVariants.{Dir}
use Rattle.gx_model.specs.Texts.{Bytes, same_bytes}
use Rattle.gx_model.specs.Texts.Paths.{Path, begins, is_component, is_file_path, same_path}
use Rattle.gx_model.specs.Histories.Files.{FileMap, Leaf, are_file_paths, file_at, first_components, sub_map, under, with_first}
use Rattle.gx_model.specs.Records.HistoryOf.{placed}
use Rattle.gx_model.proofs.Histories.FileMapEdits.{Parts, parts_of}
use Rattle.gx_model.proofs.ObjectTexts.OneTree.{firsts_proper, only_file, rebuilt}
use Rattle.gx_model.proofs.ObjectTexts.SortedKeys.{key_at, key_of, keys, sorted_keys}
use Rattle.gx_model.proofs.Histories.SubMaps.{sub_parts}
use Rattle.gx_model.specs.Objects.NameMaps.{IsNameMap}
use Rattle.gx_tree.specs.Nodes.{Kept, Level, IsAfter, IsInner, IsKept, IsLevel, comes_before, file, files, folder, is_inner_path, key, kept_map}
use Rattle.gx_tree.proofs.Texts.{cases_bytes, holds, same_itself}
use Rattle.gx_tree.proofs.Lookups.{AreInner}

abbrev pub kept_by : Option (Leaf Bytes) → FileMap Bytes → Kept
kept_by (Some x) f = file x
kept_by None f = folder f

abbrev pub kept_in : FileMap Bytes → Bytes → Kept
kept_in g c = kept_by (file_at g (c ∷ [])) (sub_map g (c ∷ []))

abbrev pub level_on : FileMap Bytes → List Bytes → Level
level_on g cs = map (λ c. (c, kept_in g c)) cs

abbrev pub level_of : FileMap Bytes → Level
level_of g = level_on g (first_components g)

-- ---- its files are the map's

kept_map-in : (g : FileMap Bytes) (c : Bytes) → Parts g → kept_map (kept_in g c) ≡ sub_map g (c ∷ [])
kept_map-in g c h = by (file_at g (c ∷ [])) refl
  where
    by : (o : Option (Leaf Bytes)) → file_at g (c ∷ []) ≡ o → kept_map (kept_by o (sub_map g (c ∷ []))) ≡ sub_map g (c ∷ [])
    by None e = refl
    by (Some x) e = sym (only_file c g x h.apart e)

files_on : (g : FileMap Bytes) (cs : List Bytes) → Parts g → files (level_on g cs) ≡ flat_map (λ c. placed c (sub_map g (c ∷ []))) cs
files_on g [] h = refl
files_on g (c ∷ cs) h = let a = kept_map-in g c h in let r = files_on g cs h in λ i. placed c (a i) ++ r i

pub files-level_of : (g : FileMap Bytes) → Parts g → files (level_of g) ≡ g
files-level_of g h = files_on g (first_components g) h ∙ sym (rebuilt g h)

-- ---- each is a file or a directory with files

pub at_each : {X : Type 0} (P : Path × X → Type 0) (t : Path → Bool) (es : List (Path × X)) → AllByRecursion P es → (x : X) → lookup t es ≡ Some x → (p : Path) × P (p, x)
at_each P t [] h x e = cc
at_each P t (y ∷ es) h x e = elim (t y.0) as (λ b. cond b (Some y.1) (lookup t es) ≡ Some x → (p : Path) × P (p, x)) [
  | true ↦ λ k. let s : y.1 ≡ x = cc in (y.0, subst (λ z. P (y.0, z)) s h.0)
  | false ↦ λ k. at_each P t es h.1 x k
] e

begun : (c : Bytes) (p : Path) (x : Leaf Bytes) (f : FileMap Bytes) → sub_map ((c ∷ p, x) ∷ f) (c ∷ []) ≢ []
begun c p x f = rw (same_itself c) (λ e. cc)

still_there : (c : Bytes) (p : Path) (x : Leaf Bytes) (f : FileMap Bytes) → (sub_map f (c ∷ []) ≢ []) → sub_map ((p, x) ∷ f) (c ∷ []) ≢ []
still_there c p x f n = elim (begins (c ∷ []) p) as (λ b. map (λ (q : Path × Leaf Bytes). let z : Path × Leaf Bytes = (drop 1 q.0, q.1) in z) (cond b ((p, x) ∷ under (c ∷ []) f) (under (c ∷ []) f)) ≢ []) [ true ↦ λ e. cc | false ↦ n ]

abbrev AreThere : FileMap Bytes → List Bytes → Type 0
AreThere f cs = AllByRecursion (λ c. sub_map f (c ∷ []) ≢ []) cs

all_still : (p : Path) (x : Leaf Bytes) (f : FileMap Bytes) (cs : List Bytes) → AreThere f cs → AreThere ((p, x) ∷ f) cs
all_still p x f [] h = tt
all_still p x f (c ∷ cs) h = (still_there c p x f h.0, all_still p x f cs h.1)

with_new : (c : Bytes) (p : Path) (x : Leaf Bytes) (f : FileMap Bytes) (cs : List Bytes) → AreThere f cs → AreThere ((c ∷ p, x) ∷ f) (with_first c cs)
with_new c p x f [] h = (begun c p x f, tt)
with_new c p x f (d ∷ cs) h = elim (same_bytes c d) as (λ b. AreThere ((c ∷ p, x) ∷ f) (cond b (d ∷ cs) (c ∷ d ∷ cs))) [
  | true ↦ all_still (c ∷ p) x f (d ∷ cs) h
  | false ↦ (begun c p x f, all_still (c ∷ p) x f (d ∷ cs) h)
]

one_more : (p : Path) (x : Leaf Bytes) (f : FileMap Bytes) → is_file_path p ≡ true → AreThere f (first_components f) → AreThere ((p, x) ∷ f) (first_components ((p, x) ∷ f))
one_more [] x f k h = absurd (false≢true k)
one_more (c ∷ p) x f k h = with_new c p x f (first_components f) h

-- below a first component stands something
firsts_some : (g : FileMap Bytes) → are_file_paths g ≡ true → AreThere g (first_components g)
firsts_some [] h = tt
firsts_some (e ∷ f) h = one_more e.0 e.1 f (and_parts _ _ h).0 (firsts_some f (and_parts _ _ h).1)

inner_path : (p : Path) → is_file_path p ≡ true → is_inner_path p ≡ true
inner_path [] h = absurd (false≢true h)
inner_path (c ∷ p) h = (and_parts _ _ h).0

pub file_inner : (g : FileMap Bytes) → are_file_paths g ≡ true → AreInner g
file_inner [] h = refl
file_inner (e ∷ g) h = and_from _ _ (inner_path e.0 (and_parts _ _ h).0) (file_inner g (and_parts _ _ h).1)

pub parts_inner : (g : FileMap Bytes) → Parts g → IsInner g
parts_inner g h = record { paths = file_inner g (holds _ h.paths); sorted = holds _ h.sorted }

kept_each : (g : FileMap Bytes) (cs : List Bytes) → IsNameMap g → AreThere g cs → AllByRecursion (λ e. IsKept e.1) (level_on g cs)
kept_each g [] h a = tt
kept_each g (c ∷ cs) h a = (by (file_at g (c ∷ [])) refl, kept_each g cs h a.1)
  where
    by : (o : Option (Leaf Bytes)) → file_at g (c ∷ []) ≡ o → IsKept (kept_by o (sub_map g (c ∷ [])))
    by None e = (a.0, parts_inner (sub_map g (c ∷ [])) (sub_parts c g (parts_of g h.file_map) e))
    by (Some x) e = (at_each (λ y. y.1.0 ≢ Dir) (same_path (c ∷ [])) g h.files x e).1

-- ---- they stand in order

key_is : (g : FileMap Bytes) (c : Bytes) → key_of g c ≡ key c (kept_in g c)
key_is g c = by (file_at g (c ∷ []))
  where
    by : (o : Option (Leaf Bytes)) → key_at o c ≡ key c (kept_by o (sub_map g (c ∷ [])))
    by None = refl
    by (Some x) = sym (append-nil c)

not_less : (k : Bytes) → is_lt (slice_cmp nat_cmp k k) ≡ true → ⊥
not_less k h = true≢false (sym h ∙ ap is_lt (tied_itself nat_list_cmp_total k))

all_after : (g : FileMap Bytes) (c : Bytes) (cs : List Bytes) → below_all (slice_cmp nat_cmp) (key_of g c) (keys g cs) ≡ true → AllByRecursion (IsAfter (c, kept_in g c)) (level_on g cs)
all_after g c [] h = tt
all_after g c (d ∷ cs) h =
    let l : comes_before c (kept_in g c) (d, kept_in g d) ≡ true = ap (λ z. is_lt (slice_cmp nat_cmp z (key d (kept_in g d)))) (sym (key_is g c)) ∙ ap (λ z. is_lt (slice_cmp nat_cmp (key_of g c) z)) (sym (key_is g d)) ∙ (and_parts _ _ h).0 in
    let n : same_bytes c d ≡ false = elim (cases_bytes c d) [ inl s ↦ absurd (not_less (key d (kept_in g d)) (ap (λ z. comes_before z (kept_in g z) (d, kept_in g d)) (sym s) ∙ l)) | inr m ↦ m ] in
    ((n, l), all_after g c cs (and_parts _ _ h).1)

level : (g : FileMap Bytes) (cs : List Bytes) → list_all is_component cs ≡ true → AllByRecursion (λ e. IsKept e.1) (level_on g cs) → is_sorted (slice_cmp nat_cmp) (keys g cs) ≡ true → IsLevel (level_on g cs)
level g [] h k s = tt
level g (c ∷ cs) h k s = ((and_parts _ _ h).0, k.0, all_after g c cs (and_parts _ _ s).0, level g cs (and_parts _ _ h).1 k.1 (and_parts _ _ s).1)

pub IsLevel-level_of : (g : FileMap Bytes) → IsNameMap g → IsLevel (level_of g)
IsLevel-level_of g h =
    let p = parts_of g h.file_map in
    level g (first_components g) (holds _ (firsts_proper g p.paths)) (kept_each g (first_components g) h (firsts_some g (holds _ p.paths))) (holds _ (sorted_keys g p))
