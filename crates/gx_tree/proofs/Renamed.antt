-- Entries where what stood at one of two paths that part goes, and an item stands at the other.
use Rattle.std.proofs.Common.{◌≡◌, ℕ, ◌+◌, ◌<◌, Bool, true, false, cond, not, ◌||◌, List, [], ◌∷◌, length, get_or, drop, slice_set, Option, Some, None, refl, sym, ap, ◌∙◌, arith, subst}
use Rattle.std.specs.List.{list_all, remove}
use Rattle.std.proofs.lemmas.Bool.{and_from, and_parts, false≢true, true≢false}
use Rattle.std.proofs.lemmas.List.{length-drop}
use Rattle.gx_model.specs.Texts.{Bytes, same_bytes}
use Rattle.gx_model.specs.Texts.Paths.{Path, begins, is_component}
use Rattle.gx_model.specs.Histories.Edits.{is_root, removed}
use Rattle.gx_model.specs.Histories.Files.{FileMap, Leaf, file_at}
use Rattle.gx_tree.specs.Edits.{are_apart}
use Rattle.gx_tree.specs.Nodes.{IsInner, IsKept, IsLevel, Kept, Level, comes_before, file, files, folder, inserted, is_folder, is_inner_path, kept_at, kept_map, mark, others, with_kept}
use Rattle.gx_tree.specs.Rooms.{Changes, IsReach, counted, kept_reach}
use Rattle.gx_tree.specs.Searches.{IsEntryAt}
use Rattle.gx_tree.specs.Steps.{folder_if_any, grafted, kept_grafted, kept_removed, replaced}
use Rattle.gx_tree.specs.Views.{shown_item, shown_entry, shown_entries}
use Rattle.gx_tree.specs.declared.directory.Entry.{Entry}
use Rattle.gx_tree.proofs.Below.{IsKeptAt-kept_at, at_component, no_root_before, removed_missing, standing_kept, standing_step}
use Rattle.gx_tree.proofs.Changed.{gone_at, gone_reach}
use Rattle.gx_tree.proofs.EditLaws.{IsInner-removed, IsKeptAt-removed, IsLevel-removed, cond_none, is_beside, kept_at-replaced, removed_files, same_files}
use Rattle.gx_tree.proofs.EditSteps.{Leaves, inner_at}
use Rattle.gx_tree.proofs.Grafts.{IsInner-grafted, IsKept-grafted, file_at-grafted, found_in, grafted_files, kept_below, taken}
use Rattle.gx_tree.proofs.InPlace.{others_same, set_at, standing}
use Rattle.gx_tree.proofs.Levels.{IsInner-files, IsLevel-with_kept, kept_at-others}
use Rattle.gx_tree.proofs.Lookups.{either, file_at-filter}
use Rattle.gx_tree.proofs.TakenOut.{set_aside}
use Rattle.gx_tree.proofs.Texts.{bytes_are, bytes_same, same_bytes_flip, same_itself}

-- ---- paths that part

differ : (b : Bool) → not b ≡ true → b ≡ false
differ true h = absurd (false≢true h)
differ false h = refl

pub apart_some : (p q : Path) → are_apart p q ≡ true → 0 < length p
apart_some [] q h = absurd (false≢true h)
apart_some (c ∷ p) q h = omega arith

pub apart_other : (p q : Path) → are_apart p q ≡ true → 0 < length q
apart_other [] q h = absurd (false≢true h)
apart_other (c ∷ p) [] h = absurd (false≢true h)
apart_other (c ∷ p) (d ∷ q) h = omega arith

no_more : (p : Path) → length p ≡ 0 → p ≡ []
no_more [] l = refl
no_more (c ∷ p) l = absurd (omega (arith, l))

part_more : (c d : Bytes) (p q : Path) → c ≡ d → are_apart (c ∷ p) (d ∷ q) ≡ true → are_apart p q ≡ true
part_more c d p q e h = let g : are_apart p q ≡ true = rw (bytes_same c d e) at h in g

module _ (s d : Path) (i : ℕ) (ls : i < length s) (ld : i < length d) where
  both_at : are_apart (drop i s) (drop i d) ≡ are_apart (get_or s i [] ∷ drop (i + 1) s) (get_or d i [] ∷ drop (i + 1) d)
  both_at = ap (λ z. are_apart z (drop i d)) (at_component s i ls refl) ∙ ap (are_apart (get_or s i [] ∷ drop (i + 1) s)) (at_component d i ld refl)

  pub apart_here : (not (same_bytes (get_or s i []) (get_or d i [])) || are_apart (drop (i + 1) s) (drop (i + 1) d)) ≡ are_apart (drop i s) (drop i d)
  apart_here = sym both_at

  -- where the first components are the same
  module _ (h : are_apart (drop i s) (drop i d) ≡ true) (e : get_or s i [] ≡ get_or d i []) where
    pub apart_below : are_apart (drop (i + 1) s) (drop (i + 1) d) ≡ true
    apart_below = part_more (get_or s i []) (get_or d i []) (drop (i + 1) s) (drop (i + 1) d) e (sym both_at ∙ h)

    pub apart_longer : (i + 1 < length s) × (i + 1 < length d)
    apart_longer = (omega (arith, length-drop (i + 1) s, apart_some (drop (i + 1) s) (drop (i + 1) d) apart_below), omega (arith, length-drop (i + 1) d, apart_other (drop (i + 1) s) (drop (i + 1) d) apart_below))

-- whether they part

not_so : (b : Bool) → (b ≡ true → ⊥) → false ≡ b
not_so true h = absurd (h refl)
not_so false h = refl

pub apart_not : (s d : Path) (i : ℕ) → i ≡ length s → false ≡ are_apart (drop i s) (drop i d)
apart_not s d i l = not_so (are_apart (drop i s) (drop i d)) (λ h. omega (arith, l, length-drop i s, apart_some (drop i s) (drop i d) h))

pub apart_nor : (s d : Path) (i : ℕ) → i ≡ length d → false ≡ are_apart (drop i s) (drop i d)
apart_nor s d i l = not_so (are_apart (drop i s) (drop i d)) (λ h. omega (arith, l, length-drop i d, apart_other (drop i s) (drop i d) h))

-- ---- where they part

comes_or_goes : (gone beside : Bool) (o : Option Path) (g : FileMap Bytes) (x : Option (Leaf Bytes)) → (gone ≡ true → o ≡ None) → cond (not gone) (either (found_in o g) (cond beside x None)) None ≡ either (found_in o g) (cond beside (cond (not gone) x None) None)
comes_or_goes true beside o g x h = sym (ap (λ z. either (found_in z g) (cond beside None None)) (h refl) ∙ cond_none {X = Leaf Bytes} beside)
comes_or_goes false beside o g x h = refl

not_both : (a b c : Bytes) (s p q : Path) → same_bytes a b ≡ false → begins (a ∷ s) (c ∷ q) ≡ true → taken (b ∷ p) (c ∷ q) ≡ None
not_both a b c s p q n h =
    let m : same_bytes b c ≡ false = ap (same_bytes b) (sym (bytes_are a c (and_parts _ _ h).0)) ∙ same_bytes_flip b a ∙ n in
    rw m refl

-- to put k at one path and to remove another may change places, where their first components differ
exchanged : (a b : Bytes) (s p : Path) (k : Kept) (f : FileMap Bytes) → is_inner_path (b ∷ p) ≡ true → same_bytes a b ≡ false → IsKept k → IsInner f → removed (grafted (b ∷ p) (kept_map k) f) (a ∷ s) ≡ grafted (b ∷ p) (kept_map k) (removed f (a ∷ s))
exchanged a b s p k f hb n hk h =
    let g = kept_map k in
    let inner = kept_below b p k hb hk in
    let rest = IsInner-removed (a ∷ s) f h in
    same_files (removed (grafted (b ∷ p) g f) (a ∷ s)) (grafted (b ∷ p) g (removed f (a ∷ s)))
    (IsInner-removed (a ∷ s) (grafted (b ∷ p) g f) (IsInner-grafted (b ∷ p) g f inner h)) (IsInner-grafted (b ∷ p) g (removed f (a ∷ s)) inner rest)
    (λ c q.
    let is_gone = begins (a ∷ s) (c ∷ q) in
    let beside = is_beside (b ∷ p) (c ∷ q) in
    let o = taken (b ∷ p) (c ∷ q) in
    file_at-filter (λ r. not (begins (a ∷ s) r)) (c ∷ q) (grafted (b ∷ p) g f)
    ∙ ap (λ z. cond (not is_gone) z None) (file_at-grafted (b ∷ p) (c ∷ q) g f inner h.paths)
    ∙ comes_or_goes is_gone beside o g (file_at f (c ∷ q)) (not_both a b c s p q n)
    ∙ sym (file_at-grafted (b ∷ p) (c ∷ q) g (removed f (a ∷ s)) inner rest.paths ∙ ap (λ z. either (found_in o g) (cond beside z None)) (file_at-filter (λ r. not (begins (a ∷ s) r)) (c ∷ q) f)))

-- what is put and then removed
pub parted : {first out : FileMap Bytes} (s d : Path) (i : ℕ) (k : Kept) (es : Level) → i < length s → i < length d → same_bytes (get_or s i []) (get_or d i []) ≡ false → list_all is_component d ≡ true → IsKept k → IsLevel es → first ≡ grafted (drop i d) (kept_map k) (files es) → out ≡ removed first (drop i s) → out ≡ grafted (drop i d) (kept_map k) (removed (files es) (drop i s))
parted {first} {out} s d i k es ls ld n hd hk hes ef eo =
    let a = get_or s i [] in
    let b = get_or d i [] in
    let from : drop i s ≡ a ∷ drop (i + 1) s = at_component s i ls refl in
    let to : drop i d ≡ b ∷ drop (i + 1) d = at_component d i ld refl in
    eo ∙ ap (removed first) from ∙ ap (λ z. removed z (a ∷ drop (i + 1) s)) (ef ∙ ap (λ z. grafted z (kept_map k) (files es)) to)
    ∙ exchanged a b (drop (i + 1) s) (drop (i + 1) d) k (files es) (inner_at d i ld refl hd) n hk (IsInner-files es hes)
    ∙ ap (λ z. grafted z (kept_map k) (removed (files es) (a ∷ drop (i + 1) s))) (sym to) ∙ ap (λ z. grafted (drop i d) (kept_map k) (removed (files es) z)) (sym from)

-- the path ends at its component at i
pub ends_at : {c : Bytes} (s : Path) (i : ℕ) → i < length s → i + 1 ≡ length s → c ≡ get_or s i [] → drop i s ≡ c ∷ []
ends_at {c} s i ls l ec = at_component s i ls ec ∙ ap (λ z. c ∷ z) (no_more (drop (i + 1) s) (omega (arith, l, length-drop (i + 1) s)))

-- what stands at a component is taken out
pub taken_out : {A : Type 0} (c : Bytes) (n : ℕ) (es out : List (Entry A)) (r : Entry A) → is_component c ≡ true → IsLevel (shown_entries es) → IsEntryAt c es n → r ≡ get_or es n r → out ≡ remove es n → Leaves (removed (files (shown_entries es)) (c ∷ [])) (shown_entries out)
taken_out c n es out r hc h at ir eo = gone_at c (c ∷ []) 0 n es out r r (omega arith) (and_from _ _ hc refl) h refl at ir refl (eo ∙ sym (set_aside es n r))

pub taken_reach : {A : Type 0} {before : ℕ} (c : Bytes) (n : ℕ) (es out : List (Entry A)) (r : Entry A) (reach : ℕ) → IsLevel (shown_entries es) → IsEntryAt c es n → r ≡ get_or es n r → out ≡ remove es n → IsReach reach (files (shown_entries es)) → before ≡ counted (kept_reach (shown_entry r)) → Changes reach before 0 (files (shown_entries out))
taken_reach c n es out r reach h at ir eo hr eb = gone_reach c es out n r r r reach h at ir ir (eo ∙ sym (set_aside es n r)) hr eb

pub none_taken : (c : Bytes) (es : Level) → is_component c ≡ true → IsLevel es → kept_at c es ≡ None → files es ≡ removed (files es) (c ∷ [])
none_taken c es hc h none = sym (removed_files c [] es hc h ∙ ap files (ap (λ z. replaced c (kept_removed [] z) es) none ∙ others_same c es none))

-- ---- where nothing stands at the source

pub nothing_there : (c : Bytes) (s : Path) (i : ℕ) (es : Level) → i < length s → IsLevel es → c ≡ get_or s i [] → kept_at c es ≡ None → files es ≡ removed (files es) (drop i s)
nothing_there c s i es l h ec none = sym (removed_missing (drop i s) (files es) (sym (standing_step s i es l refl h ec refl None none)))

file_no_directory : (p : Path) (k : Kept) → is_root p ≡ false → is_folder k ≡ false → standing_kept p (Some k) ≡ None
file_no_directory [] k r m = absurd (true≢false r)
file_no_directory (c ∷ p) (file x) r m = refl
file_no_directory (c ∷ p) (folder f) r m = absurd (true≢false m)

pub file_there : (c : Bytes) (s : Path) (i : ℕ) (k : Kept) (es : Level) → i + 1 < length s → IsLevel es → c ≡ get_or s i [] → kept_at c es ≡ Some k → is_folder k ≡ false → files es ≡ removed (files es) (drop i s)
file_there c s i k es l h ec there m =
    sym (removed_missing (drop i s) (files es) (sym (standing_step s i es (omega (arith, l)) refl h ec refl (Some k) there) ∙ file_no_directory (drop (i + 1) s) k (no_root_before s (i + 1) l) m))

pub put_alone : {f rest out : FileMap Bytes} (d : Path) (g : FileMap Bytes) → out ≡ grafted d g f → f ≡ rest → out ≡ grafted d g rest
put_alone d g e s = e ∙ ap (grafted d g) s

-- ---- below an entry

others_inserted : (c : Bytes) (k : Kept) (es : Level) → others c (inserted c k es) ≡ others c es
others_inserted c k [] = rw (same_itself c) refl
others_inserted c k (e ∷ es) = elim (comes_before c k e) as (λ b. others c (cond b ((c, k) ∷ e ∷ es) (e ∷ inserted c k es)) ≡ others c (e ∷ es)) [
  | true ↦ rw (same_itself c) refl
  | false ↦ elim (same_bytes c e.0) as (λ b. cond (not b) (e ∷ others c (inserted c k es)) (others c (inserted c k es)) ≡ cond (not b) (e ∷ others c es) (others c es)) [
    | true ↦ others_inserted c k es
    | false ↦ ap (λ r. e ∷ r) (others_inserted c k es)
  ]
]

pub others_twice : (c : Bytes) (es : Level) → others c (others c es) ≡ others c es
others_twice c es = others_same c (others c es) (kept_at-others c c es ∙ rw (same_itself c) refl)

pub others_replaced : (c : Bytes) (o : Option Kept) (es : Level) → others c (replaced c o es) ≡ others c es
others_replaced c None es = others_twice c es
others_replaced c (Some k) es = others_inserted c k (others c es) ∙ others_twice c es

-- to remove and to put below a component is to change what is kept there
renamed_files : (c : Bytes) (p q : Path) (k : Kept) (es : Level) → is_inner_path (c ∷ q) ≡ true → IsKept k → IsLevel es → grafted (c ∷ q) (kept_map k) (removed (files es) (c ∷ p)) ≡ files (with_kept c (kept_grafted q k (kept_removed p (kept_at c es))) es)
renamed_files c p q k es hq hk h =
    let o = kept_removed p (kept_at c es) in
    let hc = (and_parts _ _ hq).0 in
    ap (grafted (c ∷ q) (kept_map k)) (removed_files c p es hc h)
    ∙ grafted_files c q k (replaced c o es) hq hk (IsLevel-removed c p es hc h)
    ∙ ap files (ap (λ z. with_kept c (kept_grafted q k z) (replaced c o es)) (kept_at-replaced c c o es ∙ rw (same_itself c) refl) ∙ ap (inserted c (kept_grafted q k o)) (others_replaced c o es))

renamed_level : (c : Bytes) (p q : Path) (k : Kept) (es : Level) → is_inner_path (c ∷ q) ≡ true → IsKept k → IsLevel es → IsLevel (with_kept c (kept_grafted q k (kept_removed p (kept_at c es))) es)
renamed_level c p q k es hq hk h =
    let o = kept_removed p (kept_at c es) in
    IsLevel-with_kept c (kept_grafted q k o) es (and_parts _ _ hq).0 (IsKept-grafted q k o (and_parts _ _ hq).1 hk (IsKeptAt-removed p (kept_at c es) (IsKeptAt-kept_at c es h))) h

-- the entry at n, read as r, becomes e
pub renamed_at : {A : Type 0} (c : Bytes) (s d : Path) (i n : ℕ) (k : Kept) (es : List (Entry A)) (r e : Entry A) → i < length s → i < length d → list_all is_component d ≡ true → IsKept k → IsLevel (shown_entries es) → c ≡ get_or s i [] → c ≡ get_or d i [] → IsEntryAt c es n → r ≡ get_or es n r → (shown_entry e).0 ≡ (shown_entry r).0 → mark (shown_item e.item) ≡ mark (shown_item r.item) → shown_item e.item ≡ kept_grafted (drop (i + 1) d) k (kept_removed (drop (i + 1) s) (Some (shown_item r.item))) → Leaves (grafted (drop i d) (kept_map k) (removed (files (shown_entries es)) (drop i s))) (shown_entries (slice_set es n e))
renamed_at c s d i n k es r e ls ld hd hk h es_ ed at ir ecr em ek =
    let all = shown_entries es in
    let p = drop (i + 1) s in
    let q = drop (i + 1) d in
    let hq : is_inner_path (c ∷ q) ≡ true = inner_at d i ld ed hd in
    let new : shown_entries (slice_set es n e) ≡ with_kept c (kept_grafted q k (kept_removed p (kept_at c all))) all = set_at c es n r e h at ir ecr em ∙ ap (λ z. with_kept c z all) (ek ∙ ap (λ o. kept_grafted q k (kept_removed p o)) (sym (standing c es n r h at ir))) in
    record {
      level = subst IsLevel (sym new) (renamed_level c p q k all hq hk h);
      is = ap files new ∙ sym (renamed_files c p q k all hq hk h) ∙ ap (λ z. grafted z (kept_map k) (removed (files all) (c ∷ p))) (sym (at_component d i ld ed)) ∙ ap (λ z. grafted (drop i d) (kept_map k) (removed (files all) z)) (sym (at_component s i ls es_));
    }

-- a directory below, where paths that are not the root are renamed
pub kept_renamed_folder : (p q : Path) (k : Kept) (f : FileMap Bytes) → is_root p ≡ false → is_root q ≡ false → folder (grafted q (kept_map k) (removed f p)) ≡ kept_grafted q k (kept_removed p (Some (folder f)))
kept_renamed_folder [] q k f hp hq = absurd (true≢false hp)
kept_renamed_folder (c ∷ p) [] k f hp hq = absurd (true≢false hq)
kept_renamed_folder (c ∷ p) (d ∷ q) k f hp hq = elim (removed f (c ∷ p)) as (λ g. folder (grafted (d ∷ q) (kept_map k) g) ≡ kept_grafted (d ∷ q) k (folder_if_any g)) [ [] ↦ refl | e ∷ g ↦ refl ]
