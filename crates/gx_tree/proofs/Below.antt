-- What stands at and below a path, by one directory's entries.
use Rattle.std.proofs.Common.{◌≡◌, ◌≢◌, ℕ, ◌+◌, ◌<◌, zero, suc, true, false, cond, [], ◌∷◌, ◌++◌, map, length, get_or, drop, Option, Some, None, inl, inr, refl, sym, ap, ◌∙◌, arith, add-one}
use Rattle.std.proofs.Math.Seq.{drop-cons}
use Rattle.std.specs.Prelude.{IsNone}
use Rattle.std.specs.Option.{option_map}
use Rattle.std.specs.List.{AllByRecursion}
use Rattle.std.proofs.lemmas.Bool.{cases_Bool, false≢true, true≢false}
use Rattle.std.proofs.lemmas.List.{append-nil, map-append}
use Rattle.std.proofs.lemmas.List.Elements.{filter-append}
use Rattle.gx_model.specs.Texts.{Bytes, same_bytes}
use Rattle.gx_model.specs.Texts.Paths.{Path, begins, same_path}
use Rattle.gx_model.specs.Histories.Files.{FileMap, Leaf, file_at, sub_map, under}
use Rattle.gx_model.specs.Records.HistoryOf.{placed}
use Rattle.gx_model.specs.Histories.Edits.{is_root, removed}
use Rattle.gx_tree.specs.Nodes.{Kept, Level, IsAfter, IsKeptAt, IsLevel, file, files, folder, kept_at, kept_map, map_if}
use Rattle.gx_tree.specs.Steps.{files_of}
use Rattle.gx_tree.specs.Standings.{Standing, a_directory, a_file, standing_at, standing_by}
use Rattle.gx_tree.proofs.Lookups.{either, either_none, file_at-append, no_root}
use Rattle.gx_tree.proofs.Texts.{bytes_same, cases_bytes, same_itself}

-- ---- sub-maps

abbrev off : ℕ → FileMap Bytes → FileMap Bytes
off n f = map (λ e. (drop n e.0, e.1)) f

pub sub_map-append : (p : Path) (f g : FileMap Bytes) → sub_map (f ++ g) p ≡ sub_map f p ++ sub_map g p
sub_map-append p f g = ap (off (length p)) (filter-append (λ e. begins p e.0) f g) ∙ map-append _ (under p f) (under p g)

pub sub_map-whole : (f : FileMap Bytes) → sub_map f [] ≡ f
sub_map-whole [] = refl
sub_map-whole (e ∷ f) = ap (λ r. e ∷ r) (sub_map-whole f)

pub sub_map-placed : (c : Bytes) (p : Path) (f : FileMap Bytes) → sub_map (placed c f) (c ∷ p) ≡ sub_map f p
sub_map-placed c p [] = refl
sub_map-placed c p (e ∷ f) = rw (same_itself c) (elim (begins p e.0) as (λ b. off (suc (length p)) (cond b ((c ∷ e.0, e.1) ∷ under (c ∷ p) (placed c f)) (under (c ∷ p) (placed c f))) ≡ off (length p) (cond b (e ∷ under p f) (under p f))) [
  | true ↦ ap (λ r. (drop (length p) e.0, e.1) ∷ r) (sub_map-placed c p f)
  | false ↦ sub_map-placed c p f
])

pub sub_map-other : (c d : Bytes) (p : Path) (f : FileMap Bytes) → same_bytes c d ≡ false → sub_map (placed d f) (c ∷ p) ≡ []
sub_map-other c d p [] n = refl
sub_map-other c d p (e ∷ f) n = rw n (sub_map-other c d p f n)

-- ---- look-ups

pub file_at-placed : (c : Bytes) (p : Path) (f : FileMap Bytes) → file_at (placed c f) (c ∷ p) ≡ file_at f p
file_at-placed c p [] = refl
file_at-placed c p (e ∷ f) = rw (same_itself c) (ap (cond (same_path p e.0) (Some e.1)) (file_at-placed c p f))

pub file_at-other : (c d : Bytes) (p : Path) (f : FileMap Bytes) → same_bytes c d ≡ false → file_at (placed d f) (c ∷ p) ≡ None
file_at-other c d p [] n = refl
file_at-other c d p (e ∷ f) n = rw n (file_at-other c d p f n)

-- an entry's component stands once
pub no_more : (c : Bytes) (k : Kept) (es : Level) → AllByRecursion (IsAfter (c, k)) es → kept_at c es ≡ None
no_more c k [] h = refl
no_more c k (e ∷ es) h = rw h.0.0 (no_more c k es h.1)

file_at_none : (c : Bytes) (p : Path) (es : Level) → kept_at c es ≡ None → file_at (files es) (c ∷ p) ≡ None
file_at_none c p [] n = refl
file_at_none c p (e ∷ es) n = elim (cases_bytes c e.0) [
  | inl s ↦ let clash : Some e.1 ≡ None = rw (bytes_same c e.0 s) at n in cc
  | inr m ↦ file_at-append (c ∷ p) (placed e.0 (kept_map e.1)) (files es) ∙ rw (file_at-other c e.0 p (kept_map e.1) m) (file_at_none c p es (rw m at n))
]

-- what stands below a component, by what is kept there
pub file_at-files : (c : Bytes) (p : Path) (es : Level) → IsLevel es → file_at (files es) (c ∷ p) ≡ file_at (map_if (kept_at c es)) p
file_at-files c p [] h = refl
file_at-files c p (e ∷ es) h = elim (cases_bytes c e.0) [
  | inl s ↦ rw (bytes_same c e.0 s)
      (file_at-append (c ∷ p) (placed e.0 (kept_map e.1)) (files es)
      ∙ ap (λ z. either (file_at (placed z (kept_map e.1)) (c ∷ p)) (file_at (files es) (c ∷ p))) (sym s)
      ∙ rw (file_at-placed c p (kept_map e.1), file_at_none c p es (ap (λ z. kept_at z es) s ∙ no_more e.0 e.1 es h.2)) (either_none (file_at (kept_map e.1) p)))
  | inr n ↦ file_at-append (c ∷ p) (placed e.0 (kept_map e.1)) (files es) ∙ rw (file_at-other c e.0 p (kept_map e.1) n, n) (file_at-files c p es h.3)
]

sub_map_none : (c : Bytes) (p : Path) (es : Level) → kept_at c es ≡ None → sub_map (files es) (c ∷ p) ≡ []
sub_map_none c p [] n = refl
sub_map_none c p (e ∷ es) n = elim (cases_bytes c e.0) [
  | inl s ↦ let clash : Some e.1 ≡ None = rw (bytes_same c e.0 s) at n in cc
  | inr m ↦ sub_map-append (c ∷ p) (placed e.0 (kept_map e.1)) (files es) ∙ rw (sub_map-other c e.0 p (kept_map e.1) m) (sub_map_none c p es (rw m at n))
]

pub sub_map-files : (c : Bytes) (p : Path) (es : Level) → IsLevel es → sub_map (files es) (c ∷ p) ≡ sub_map (map_if (kept_at c es)) p
sub_map-files c p [] h = refl
sub_map-files c p (e ∷ es) h = elim (cases_bytes c e.0) [
  | inl s ↦ rw (bytes_same c e.0 s)
      (sub_map-append (c ∷ p) (placed e.0 (kept_map e.1)) (files es)
      ∙ ap (λ z. sub_map (placed z (kept_map e.1)) (c ∷ p) ++ sub_map (files es) (c ∷ p)) (sym s)
      ∙ rw (sub_map-placed c p (kept_map e.1), sub_map_none c p es (ap (λ z. kept_at z es) s ∙ no_more e.0 e.1 es h.2)) (append-nil (sub_map (kept_map e.1) p)))
  | inr n ↦ sub_map-append (c ∷ p) (placed e.0 (kept_map e.1)) (files es) ∙ rw (sub_map-other c e.0 p (kept_map e.1) n, n) (sub_map-files c p es h.3)
]

pub IsKeptAt-kept_at : (c : Bytes) (es : Level) → IsLevel es → IsKeptAt (kept_at c es)
IsKeptAt-kept_at c [] h = tt
IsKeptAt-kept_at c (e ∷ es) h = elim (cases_bytes c e.0) [
  | inl s ↦ rw (bytes_same c e.0 s) h.1
  | inr n ↦ rw n (IsKeptAt-kept_at c es h.3)
]

-- ---- what a path leads to

abbrev pub standing_kept : Path → Option Kept → Option Standing
standing_kept p None = None
standing_kept p (Some (file x)) = cond (is_root p) (Some (a_file x)) None
standing_kept p (Some (folder f)) = standing_at f p

some_below : (f : FileMap Bytes) → (f ≢ []) → standing_by None f ≡ Some a_directory
some_below [] n = absurd (n refl)
some_below (e ∷ f) n = refl

standing_kept-is : (p : Path) (o : Option Kept) → IsKeptAt o → standing_by (file_at (map_if o) p) (sub_map (map_if o) p) ≡ standing_kept p o
standing_kept-is p None h = refl
standing_kept-is [] (Some (file x)) h = refl
standing_kept-is (d ∷ p) (Some (file x)) h = refl
standing_kept-is [] (Some (folder f)) h = rw (no_root f h.1.paths, sub_map-whole f) (some_below f h.0)
standing_kept-is (d ∷ p) (Some (folder f)) h = refl

standing_files : (c : Bytes) (p : Path) (es : Level) → IsLevel es → standing_at (files es) (c ∷ p) ≡ standing_kept p (kept_at c es)
standing_files c p es h = rw (file_at-files c p es h, sub_map-files c p es h) (standing_kept-is p (kept_at c es) (IsKeptAt-kept_at c es h))

-- ---- a path's components by place

pub at_component : {c : Bytes} (p : Path) (i : ℕ) → i < length p → c ≡ get_or p i [] → drop i p ≡ c ∷ drop (i + 1) p
at_component p i l e = rw (drop-cons p i [] l, add-one, e) refl

pub root_at_end : (p : Path) (i : ℕ) → i + 1 ≡ length p → is_root (drop (i + 1) p) ≡ true
root_at_end [] i e = absurd (omega arith)
root_at_end (c ∷ []) zero e = refl
root_at_end (c ∷ d ∷ p) zero e = absurd (omega arith)
root_at_end (c ∷ p) (suc i) e = rw add-one (rw add-one at (root_at_end p i (omega arith)))

pub no_root_before : (p : Path) (i : ℕ) → i < length p → is_root (drop i p) ≡ false
no_root_before [] i l = absurd (omega arith)
no_root_before (c ∷ p) zero l = refl
no_root_before (c ∷ p) (suc i) l = no_root_before p i (omega arith)

-- the step at the component at i, over a directory's entries es, read as xs
pub standing_step : {f : FileMap Bytes} {c : Bytes} {xs : Level} (p : Path) (i : ℕ) (es : Level) → i < length p → files es ≡ f → IsLevel es → c ≡ get_or p i [] → xs ≡ es → (o : Option Kept) → kept_at c xs ≡ o → standing_kept (drop (i + 1) p) o ≡ standing_at f (drop i p)
standing_step {f} {c} {xs} p i es l view level ec ex o e =
    rw (at_component p i l ec, ← view, ← e, ex) (sym (standing_files c (drop (i + 1) p) es level))

-- ---- what a copy takes

-- what stands at the path, by what is kept at its first component
pub taken_step : {f : FileMap Bytes} {c : Bytes} {xs : Level} (p : Path) (i : ℕ) (es : Level) (o : Option Kept) → i < length p → files es ≡ f → IsLevel es → c ≡ get_or p i [] → xs ≡ es → kept_at c xs ≡ o → sub_map f (drop i p) ≡ sub_map (map_if o) (drop (i + 1) p)
taken_step {f} {c} {xs} p i es o l view level ec ex eo =
    let old : kept_at c es ≡ o = ap (kept_at c) (sym ex) ∙ eo in
    rw (at_component p i l ec, ← view, ← old) (sub_map-files c (drop (i + 1) p) es level)

root_is : (p : Path) → is_root p ≡ true → p ≡ []
root_is [] h = refl
root_is (c ∷ p) h = absurd (false≢true h)

pub taken_end : {f : FileMap Bytes} {c : Bytes} {xs : Level} (p : Path) (i : ℕ) (es : Level) (o : Option Kept) → i + 1 ≡ length p → files es ≡ f → IsLevel es → c ≡ get_or p i [] → xs ≡ es → kept_at c xs ≡ o → sub_map f (drop i p) ≡ map_if o
taken_end p i es o l view level ec ex eo =
    taken_step p i es o (omega arith) view level ec ex eo ∙ ap (sub_map (map_if o)) (root_is (drop (i + 1) p) (root_at_end p i l)) ∙ sub_map-whole (map_if o)

below_file : (p : Path) (o : Option Kept) → is_root p ≡ false → sub_map (map_if o) p ≡ sub_map (files_of o) p
below_file [] o h = absurd (true≢false h)
below_file (c ∷ p) None h = refl
below_file (c ∷ p) (Some (file x)) h = refl
below_file (c ∷ p) (Some (folder f)) h = refl

pub taken_further : {f : FileMap Bytes} {c : Bytes} {xs : Level} (p : Path) (i : ℕ) (es : Level) (o : Option Kept) → i + 1 < length p → files es ≡ f → IsLevel es → c ≡ get_or p i [] → xs ≡ es → kept_at c xs ≡ o → sub_map f (drop i p) ≡ sub_map (files_of o) (drop (i + 1) p)
taken_further p i es o l view level ec ex eo = taken_step p i es o (omega arith) view level ec ex eo ∙ below_file (drop (i + 1) p) o (no_root_before p (i + 1) l)

pub kept_step : {xs : Level} (c : Bytes) (es : Level) (o : Option Kept) → IsLevel es → xs ≡ es → kept_at c xs ≡ o → IsKeptAt o
kept_step c es o level ex eo = rw (← eo, ex) (IsKeptAt-kept_at c es level)

pub sub_map-none : (p : Path) (f : FileMap Bytes) → length p ≡ 0 → sub_map f p ≡ f
sub_map-none [] f l = sub_map-whole f
sub_map-none (c ∷ p) f l = absurd (omega arith)

-- ---- where nothing stands

nothing_below : (o : Option (Leaf Bytes)) (g : FileMap Bytes) → standing_by o g ≡ None → g ≡ []
nothing_below (Some x) g h = cc
nothing_below None [] h = refl
nothing_below None (e ∷ g) h = cc

nothing_gone : (p : Path) (f : FileMap Bytes) → sub_map f p ≡ [] → removed f p ≡ f
nothing_gone p [] h = refl
nothing_gone p (e ∷ f) h = elim (cases_Bool (begins p e.0)) [
  | inl b ↦ let clash : (drop (length p) e.0, e.1) ∷ sub_map f p ≡ [] = rw b at h in cc
  | inr b ↦ rw b (ap (λ r. e ∷ r) (nothing_gone p f (rw b at h)))
]

-- a removal changes nothing
pub removed_missing : (p : Path) (f : FileMap Bytes) → standing_at f p ≡ None → removed f p ≡ f
removed_missing [] f h = cc
removed_missing (c ∷ p) f h = nothing_gone (c ∷ p) f (nothing_below (file_at f (c ∷ p)) (sub_map f (c ∷ p)) h)

-- a look-up finds nothing
pub nothing_found : {X Y : Type 0} (f : X → Y) (o : Option X) (s : Option Y) → IsNone o → option_map f o ≡ s → s ≡ None
nothing_found f None s h e = sym e
nothing_found f (Some x) s h e = absurd (true≢false h)
