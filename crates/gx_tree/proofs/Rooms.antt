-- How long the paths of a directory's files are, by its entries.
use Rattle.std.proofs.Common.{◌≡◌, ◌≢◌, ℕ, ◌+◌, ◌-◌, ◌^◌, ◌<◌, ◌≤◌, max, min, true, false, cond, ◌&&◌, List, [], ◌∷◌, ◌++◌, length, get_or, drop, take, Some, None, inl, inr, refl, sym, ap, ◌∙◌, subst, arith, length-append}
use Rattle.std.specs.Prelude.{nat_le}
use Rattle.std.specs.List.{list_all, AllByRecursion}
use Rattle.std.proofs.lemmas.Bool.{and_parts, le-leb, lt-leb, false≢true}
use Rattle.std.proofs.lemmas.Bool.Decides.{leb_tells}
use Rattle.std.proofs.lemmas.Grind.{flat_map-append}
use Rattle.std.proofs.lemmas.List.{get_or-map, length-map, map-append, map_more, take-append-drop}
use Rattle.gx_model.specs.Texts.{Bytes}
use Rattle.gx_model.specs.Texts.Paths.{Path, is_short, path_text}
use Rattle.gx_model.specs.Histories.Files.{FileMap}
use Rattle.gx_model.specs.Records.HistoryOf.{placed}
use Rattle.gx_model.specs.declared.objects.Mode.{Mode}
use Rattle.gx_object.specs.declared.name.Name.{Name}
use Rattle.gx_tree.specs.Components.{bytes_of}
use Rattle.gx_tree.specs.Lists.{below}
use Rattle.gx_tree.specs.Nodes.{Kept, IsKept, IsKeptAt, IsLevel, Level, comes_before, file, files, folder, inserted, is_inner_path, kept_at, kept_map, others, with_kept}
use Rattle.gx_tree.specs.Rooms.{Changes, IsReach, counted, is_within, kept_reach, longest}
use Rattle.gx_tree.specs.Views.{shown_item, shown_entry, shown_entries}
use Rattle.gx_tree.specs.declared.directory.Entry.{Entry}
use Rattle.gx_tree.specs.declared.directory.Item.{Item}
use Rattle.gx_tree.specs.declared.directory.Item.TheVariants.{File}
use Rattle.gx_tree.proofs.Below.{IsKeptAt-kept_at}
use Rattle.gx_tree.proofs.InPlace.{others_after}
use Rattle.gx_tree.proofs.Levels.{kept_at-inserted, kept_at-with_kept}
use Rattle.gx_tree.proofs.Lookups.{AreInner}
use Rattle.gx_tree.proofs.Listed.{all_at, below_root}
use Rattle.gx_tree.proofs.Texts.{bytes_same, cases_bytes, same_itself}

same_test : (a b m n : ℕ) → (a ≤ m → b ≤ n) → (b ≤ n → a ≤ m) → nat_le a m ≡ nat_le b n
same_test a b m n f g = elim (leb_tells a m) [
  | inl h ↦ h.0 ∙ sym (le-leb b n (f h.1))
  | inr h ↦ elim (leb_tells b n) [
    | inl k ↦ absurd (omega (arith, g k.1, h.1))
    | inr k ↦ h.0 ∙ sym k.0
  ]
]

-- a path that is not the root, below a front of some bytes
text_after : (p q : Path) (used room : ℕ) → length (path_text p) ≡ used + 1 + length (path_text q) → used < room → nat_le (length (path_text p)) room ≡ nat_le (length (path_text q)) (room - used - 1)
text_after p q used room e l = same_test (length (path_text p)) (length (path_text q)) room (room - used - 1) (λ h. omega (arith, e, h, l)) (λ h. omega (arith, e, h, l))

pub child_length : (c : Bytes) (q : Path) → is_inner_path q ≡ true → length (path_text (c ∷ q)) ≡ length c + 1 + length (path_text q)
child_length c [] h = absurd (false≢true h)
child_length c (d ∷ q) h = omega (arith, length-append c (47 ∷ path_text (d ∷ q)))

-- ---- the loop over the entries

each_kept : (es : Level) → IsLevel es → AllByRecursion (λ e. IsKept e.1) es
each_kept [] h = tt
each_kept (e ∷ es) h = (h.1, each_kept es h.3)

-- the entry at i, read as r
pub kept_entry : {A : Type 0} (es xs : List (Entry A)) (i : ℕ) (r : Entry A) → i < length xs → r ≡ get_or xs i r → xs ≡ es → IsLevel (shown_entries es) → IsKept (shown_item r.item)
kept_entry es xs i r l ir ex h =
    let a : AllByRecursion (λ e. IsKept e.1) (shown_entries xs) = subst (λ z. AllByRecursion (λ e. IsKept e.1) (shown_entries z)) (sym ex) (each_kept (shown_entries es) h) in
    subst (λ z. IsKept (shown_item z.item)) (sym ir) (subst (λ z. IsKept z.1) (get_or-map shown_entry xs i r (shown_entry r) l) (all_at (λ e. IsKept e.1) (shown_entries xs) i (shown_entry r) (omega (arith, length-map xs shown_entry)) a))

-- ---- below a path

joined_length : (p q : Path) → (0 < length p) → is_inner_path q ≡ true → length (path_text (p ++ q)) ≡ length (path_text p) + 1 + length (path_text q)
joined_length [] q l h = absurd (omega arith)
joined_length (c ∷ []) q l h = child_length c q h
joined_length (c ∷ d ∷ p) q l h = omega (arith, length-append c (47 ∷ path_text ((d ∷ p) ++ q)), length-append c (47 ∷ path_text (d ∷ p)), joined_length (d ∷ p) q (omega arith) h)

pub below_beyond : (p : Path) (f : FileMap Bytes) (used : ℕ) → (0 < length p) → used ≡ length (path_text p) → IsKept (folder f) → 4095 ≤ used → list_all (λ e. is_short e.0) (below p f) ≡ false
below_beyond p [] used l eu h m = absurd (h.0 refl)
below_beyond p (e ∷ f) used l eu h m = rw (lt-leb (length (path_text (p ++ e.0))) 4095 (omega (arith, joined_length p e.0 l (and_parts _ _ h.1.paths).0, eu, m))) refl

pub below_within : (p : Path) (f : FileMap Bytes) (used : ℕ) → (0 < length p) → used ≡ length (path_text p) → AreInner f → used < 4095 → list_all (is_within (4095 - used - 1)) f ≡ list_all (λ e. is_short e.0) (below p f)
below_within p [] used l eu h m = refl
below_within p (e ∷ f) used l eu h m =
    let a = sym (text_after (p ++ e.0) e.0 used 4095 (joined_length p e.0 l (and_parts _ _ h).0 ∙ ap (λ n. n + 1 + length (path_text e.0)) (sym eu)) m) in
    let r = below_within p f used l eu (and_parts _ _ h).1 m in
    λ i. a i && r i

pub root_within : (p : Path) (f : FileMap Bytes) → length p ≡ 0 → list_all (is_within 4095) f ≡ list_all (λ e. is_short e.0) (below p f)
root_within [] f e = ap (list_all (is_within 4095)) (sym (below_root f))
root_within (c ∷ p) f e = absurd (omega arith)

-- ---- the longest path

-- whether all fit is told by the longest
pub fits_longest : (room : ℕ) (f : FileMap Bytes) → nat_le (longest f) room ≡ list_all (is_within room) f
fits_longest room [] = le-leb 0 room (omega arith)
fits_longest room (e ∷ f) = elim (leb_tells (length (path_text e.0)) room) [
  | inl h ↦ same_test (max (length (path_text e.0)) (longest f)) (longest f) room room (λ l. omega (arith, l)) (λ l. omega (arith, l, h.1)) ∙ fits_longest room f ∙ ap (λ b. b && list_all (is_within room) f) (sym h.0)
  | inr h ↦ lt-leb (max (length (path_text e.0)) (longest f)) room (omega (arith, h.1)) ∙ ap (λ b. b && list_all (is_within room) f) (sym h.0)
]

-- so it is by a reach, where there is room for less than is counted
pub fits_reach : (reach room : ℕ) (f : FileMap Bytes) → room ≤ 4095 → IsReach reach f → nat_le reach room ≡ list_all (is_within room) f
fits_reach reach room f l h = same_test reach (longest f) room room (λ k. omega (arith, k, l, h)) (λ k. omega (arith, k, l, h)) ∙ fits_longest room f

pub longest-append : (f g : FileMap Bytes) → longest (f ++ g) ≡ max (longest f) (longest g)
longest-append [] g = omega arith
longest-append (e ∷ f) g = omega (arith, longest-append f g)

placed_longest : (c : Bytes) (f : FileMap Bytes) → (f ≢ []) → AreInner f → longest (placed c f) ≡ length c + 1 + longest f
placed_longest c [] n h = absurd (n refl)
placed_longest c (e ∷ []) n h = omega (arith, child_length c e.0 (and_parts _ _ h).0)
placed_longest c (e ∷ d ∷ f) n h = omega (arith, child_length c e.0 (and_parts _ _ h).0, placed_longest c (d ∷ f) (λ k. cc) (and_parts _ _ h).1)

alone : (n : ℕ) → max n 0 ≡ n
alone n = omega arith

-- below a component
pub kept_longest : (c : Bytes) (k : Kept) → IsKept k → longest (placed c (kept_map k)) ≡ kept_reach (c, k)
kept_longest c (file x) h = alone (length c)
kept_longest c (folder f) h = placed_longest c f h.0 h.1.paths

-- with one more entry
pub longest-inserted : (c : Bytes) (k : Kept) (es : Level) → IsKept k → longest (files (inserted c k es)) ≡ max (kept_reach (c, k)) (longest (files es))
longest-inserted c k [] h = omega (arith, kept_longest c k h, longest-append (placed c (kept_map k)) [])
longest-inserted c k (e ∷ es) h = elim (comes_before c k e) as (λ b. longest (files (cond b ((c, k) ∷ e ∷ es) (e ∷ inserted c k es))) ≡ max (kept_reach (c, k)) (longest (files (e ∷ es)))) [
  | true ↦ omega (arith, kept_longest c k h, longest-append (placed c (kept_map k)) (files (e ∷ es)))
  | false ↦ omega (arith, longest-inserted c k es h, longest-append (placed e.0 (kept_map e.1)) (files (inserted c k es)), longest-append (placed e.0 (kept_map e.1)) (files es))
]

-- by one entry and the others
pub longest-others : (c : Bytes) (k : Kept) (es : Level) → IsLevel es → kept_at c es ≡ Some k → longest (files es) ≡ max (kept_reach (c, k)) (longest (files (others c es)))
longest-others c k [] h e = cc
longest-others c k (x ∷ es) h e = elim (cases_bytes c x.0) [
  | inl s ↦
      let is : Some x.1 ≡ Some k = rw (bytes_same c x.0 s) at e in
      let same : x.1 ≡ k = cc in
      let rest : others c (x ∷ es) ≡ es = rw (bytes_same c x.0 s) (ap (λ z. others z es) s ∙ others_after x es h.2) in
      let first : longest (placed x.0 (kept_map x.1)) ≡ kept_reach (c, k) = kept_longest x.0 x.1 h.1 ∙ ap (λ z. kept_reach (z, x.1)) (sym s) ∙ ap (λ z. kept_reach (c, z)) same in
      omega (arith, first, longest-append (placed x.0 (kept_map x.1)) (files es), ap (λ z. longest (files z)) rest)
  | inr n ↦
      let r = longest-others c k es h.3 (rw n at e) in
      let rest : others c (x ∷ es) ≡ x ∷ others c es = rw n refl in
      omega (arith, r, longest-append (placed x.0 (kept_map x.1)) (files es), longest-append (placed x.0 (kept_map x.1)) (files (others c es)), ap (λ z. longest (files z)) rest)
]

-- ---- how far an entry reaches

pub file_reach : {A : Type 0} {m : Mode} {n : Name} (i : Item A) (c d : Bytes) → i ≡ File m n → d ≡ c → length d < 2 ^ 64 → length d ≡ counted (kept_reach (c, shown_item i))
file_reach i c d e s l = omega (arith, l, ap length s, ap (λ z. kept_reach (c, shown_item z)) e)

pub folder_reach : {A : Type 0} (i : Item A) (f : FileMap Bytes) (c d : Bytes) (b r : ℕ) → shown_item i ≡ folder f → d ≡ c → b ≡ counted (longest f) → r ≡ min (b + (length d + 1)) (2 ^ 64 - 1) → r ≡ counted (kept_reach (c, shown_item i))
folder_reach i f c d b r e s eb er = omega (arith, eb, er, ap length s, ap (λ z. kept_reach (c, z)) e)

-- ---- entries, one after the other

pub taken_more : {A : Type 0} (es : List (Entry A)) (i : ℕ) (r : Entry A) → i < length es → r ≡ get_or es i r → IsLevel (shown_entries es) → longest (files (shown_entries (take (i + 1) es))) ≡ max (longest (files (shown_entries (take i es)))) (kept_reach (shown_entry r))
taken_more es i r l ir h =
    let one = kept_longest (bytes_of r.component) (shown_item r.item) (kept_entry es es i r l ir refl h) in
    let all : shown_entries (take (i + 1) es) ≡ shown_entries (take i es) ++ shown_entry r ∷ [] = map_more shown_entry es i r l ∙ ap (λ z. shown_entries (take i es) ++ shown_entry z ∷ []) (sym ir) in
    let joined : files (shown_entries (take i es) ++ shown_entry r ∷ []) ≡ files (shown_entries (take i es)) ++ files (shown_entry r ∷ []) = flat_map-append (λ e. placed e.0 (kept_map e.1)) (shown_entries (take i es)) (shown_entry r ∷ []) in
    omega (arith, one, ap (λ z. longest (files z)) all, ap longest joined, longest-append (files (shown_entries (take i es))) (files (shown_entry r ∷ [])), longest-append (placed (bytes_of r.component) (kept_map (shown_item r.item))) [])

-- the first reach no further than all
pub taken_less : {A : Type 0} (es : List (Entry A)) (i : ℕ) → longest (files (shown_entries (take i es))) ≤ longest (files (shown_entries es))
taken_less es i =
    let whole : shown_entries es ≡ shown_entries (take i es) ++ shown_entries (drop i es) = ap shown_entries (sym (take-append-drop i es)) ∙ map-append shown_entry (take i es) (drop i es) in
    let joined : files (shown_entries (take i es) ++ shown_entries (drop i es)) ≡ files (shown_entries (take i es)) ++ files (shown_entries (drop i es)) = flat_map-append (λ e. placed e.0 (kept_map e.1)) (shown_entries (take i es)) (shown_entries (drop i es)) in
    omega (arith, ap (λ z. longest (files z)) whole, ap longest joined, longest-append (files (shown_entries (take i es))) (files (shown_entries (drop i es))))

-- ---- one entry changes

-- what stands where another took its place
pub put_kept : (c : Bytes) (j : Kept) (es : Level) → IsLevel (with_kept c j es) → IsKept j
put_kept c j es h =
    let is : kept_at c (with_kept c j es) ≡ Some j = kept_at-with_kept c c j es ∙ rw (same_itself c) refl in
    subst IsKeptAt is (IsKeptAt-kept_at c (with_kept c j es) h)

new_kept : (c : Bytes) (j : Kept) (es : Level) → kept_at c es ≡ None → IsLevel (inserted c j es) → IsKept j
new_kept c j es e h =
    let is : kept_at c (inserted c j es) ≡ Some j = kept_at-inserted c c j es e ∙ rw (same_itself c) refl in
    subst IsKeptAt is (IsKeptAt-kept_at c (inserted c j es) h)

-- another takes its place
pub changed : {before after : ℕ} (c : Bytes) (k j : Kept) (reach : ℕ) (es out : Level) → IsLevel es → IsLevel out → kept_at c es ≡ Some k → out ≡ with_kept c j es → IsReach reach (files es) → before ≡ counted (kept_reach (c, k)) → after ≡ counted (kept_reach (c, j)) → Changes reach before after (files out)
changed c k j reach es out h ho e eo r eb ea = (
  kept_reach (c, k),
  kept_reach (c, j),
  longest (files (others c es)),
  record {
    was = eb;
    is = ea;
    old = r ∙ ap counted (longest-others c k es h e);
    new = ap (λ z. longest (files z)) eo ∙ longest-inserted c j (others c es) (put_kept c j es (subst IsLevel eo ho));
  },
)

-- it goes
pub gone : {before : ℕ} (c : Bytes) (k : Kept) (reach : ℕ) (es out : Level) → IsLevel es → kept_at c es ≡ Some k → out ≡ others c es → IsReach reach (files es) → before ≡ counted (kept_reach (c, k)) → Changes reach before 0 (files out)
gone c k reach es out h e eo r eb = (
  kept_reach (c, k),
  0,
  longest (files (others c es)),
  record {
    was = eb;
    is = omega arith;
    old = r ∙ ap counted (longest-others c k es h e);
    new = omega (arith, ap (λ z. longest (files z)) eo);
  },
)

-- a new one comes
pub come : {far : ℕ} (c : Bytes) (j : Kept) (reach : ℕ) (es out : Level) → IsLevel out → kept_at c es ≡ None → out ≡ inserted c j es → IsReach reach (files es) → far ≡ counted (kept_reach (c, j)) → IsReach (max reach far) (files out)
come c j reach es out ho e eo r ef = omega (arith, r, ef, ap (λ z. longest (files z)) eo, longest-inserted c j es (new_kept c j es e (subst IsLevel eo ho)))

-- ---- the reach once one entry's is another

pub no_less : (reach before after : ℕ) (f : FileMap Bytes) → before ≤ after → Changes reach before after f → IsReach (max reach after) f
no_less reach before after f l h = omega (arith, l, h.3.was, h.3.is, h.3.old, h.3.new)

pub not_longest : (reach before after : ℕ) (f : FileMap Bytes) → after < before → before < reach → Changes reach before after f → IsReach reach f
not_longest reach before after f l m h = omega (arith, l, m, h.3.was, h.3.is, h.3.old, h.3.new)

pub at_most : (reach before after : ℕ) (f : FileMap Bytes) → after < before → Changes reach before after f → counted (longest f) ≤ reach
at_most reach before after f l h = omega (arith, l, h.3.was, h.3.is, h.3.old, h.3.new)
