-- Entries where one is changed or goes, and how far they then reach.
use Rattle.std.proofs.Common.{◌≡◌, ℕ, ◌+◌, ◌<◌, zero, suc, Bool, true, false, List, [], ◌∷◌, length, get_or, drop, slice_set, Option, Some, None, refl, sym, ap, ◌∙◌, arith, subst}
use mathlib.Core.Bool.{beq}
use Rattle.std.specs.List.{list_all, remove}
use Rattle.std.proofs.lemmas.Bool.{false≢true, true≢false}
use Rattle.std.proofs.lemmas.List.{length-drop}
use Rattle.gx_model.specs.Texts.{Bytes}
use Rattle.gx_model.specs.Texts.Paths.{Path, is_component}
use Rattle.gx_model.specs.Histories.Edits.{removed}
use Rattle.gx_tree.specs.Edits.{without_path}
use Rattle.gx_tree.specs.Nodes.{Kept, Level, IsKept, IsLevel, file, files, folder, inserted, is_folder, kept_at, kept_map, mark, others, with_kept}
use Rattle.gx_tree.specs.Rooms.{Changes, IsReach, counted, kept_reach}
use Rattle.gx_tree.specs.Searches.{IsEntryAt}
use Rattle.gx_tree.specs.Steps.{grafted, kept_grafted, kept_removed}
use Rattle.gx_tree.specs.Views.{shown_item, shown_entry, shown_entries}
use Rattle.gx_tree.specs.declared.directory.Entry.{Entry}
use Rattle.gx_tree.proofs.EditSteps.{Leaves, grafted_from, grafted_whole, removed_from, removed_whole}
use Rattle.gx_tree.proofs.InPlace.{others_same, set_at, standing}
use Rattle.gx_tree.proofs.Levels.{IsLevel-with_kept}
use Rattle.gx_tree.proofs.Rooms.{changed, gone}
use Rattle.gx_tree.proofs.TakenOut.{seen_without, set_aside}

set_here : {X : Type 0} (xs : List X) (n : ℕ) (x d : X) → n < length xs → get_or (slice_set xs n x) n d ≡ x
set_here [] n x d l = absurd (omega arith)
set_here (y ∷ xs) zero x d l = refl
set_here (y ∷ xs) (suc n) x d l = set_here xs n x d (omega arith)

-- the same element, read twice
pub read_twice : {X : Type 0} (xs : List X) (n : ℕ) (r s : X) → n < length xs → r ≡ get_or xs n r → s ≡ get_or xs n s → s ≡ r
read_twice [] n r s l er es = absurd (omega arith)
read_twice (x ∷ xs) zero r s l er es = es ∙ sym er
read_twice (x ∷ xs) (suc n) r s l er es = read_twice xs n r s (omega arith) er es

-- the element that was set, read
pub read_set : {X : Type 0} (xs : List X) (n : ℕ) (x t : X) → n < length xs → t ≡ get_or (slice_set xs n x) n t → t ≡ x
read_set xs n x t l et = et ∙ set_here xs n x t l

-- what is kept at the entry's component, as far as that reaches
pub reach_is : {A : Type 0} (c : Bytes) (r : Entry A) (n : ℕ) → (shown_entry r).0 ≡ c → n ≡ counted (kept_reach (shown_entry r)) → n ≡ counted (kept_reach (c, shown_item r.item))
reach_is c r n e h = h ∙ ap (λ z. counted (kept_reach (z, shown_item r.item))) e

-- the entry at n, read as r, and as s before, becomes e, which is read as t
pub changed_at : {A : Type 0} {before after : ℕ} (c : Bytes) (es : List (Entry A)) (n : ℕ) (r s e t : Entry A) (reach : ℕ) → IsLevel (shown_entries es) → IsLevel (shown_entries (slice_set es n e)) → IsEntryAt c es n → r ≡ get_or es n r → s ≡ get_or es n s → (shown_entry e).0 ≡ (shown_entry r).0 → mark (shown_item e.item) ≡ mark (shown_item r.item) → IsReach reach (files (shown_entries es)) → before ≡ counted (kept_reach (shown_entry s)) → t ≡ get_or (slice_set es n e) n t → after ≡ counted (kept_reach (shown_entry t)) → Changes reach before after (files (shown_entries (slice_set es n e)))
changed_at {before = before} {after = after} c es n r s e t reach h ho at ir is ec em hr eb it ea =
    let cr : (shown_entry r).0 ≡ c = ap (λ z. (shown_entry z).0) ir ∙ at.1 r in
    let b : before ≡ counted (kept_reach (shown_entry r)) = eb ∙ ap (λ z. counted (kept_reach (shown_entry z))) (read_twice es n r s at.0 ir is) in
    let a : after ≡ counted (kept_reach (shown_entry e)) = ea ∙ ap (λ z. counted (kept_reach (shown_entry z))) (read_set es n e t at.0 it) in
    changed c (shown_item r.item) (shown_item e.item) reach (shown_entries es) (shown_entries (slice_set es n e)) h ho (standing c es n r h at ir) (set_at c es n r e h at ir ec em) hr (reach_is c r before cr b) (reach_is c e after (ec ∙ cr) a)

-- an item is put below it
pub grafted_at : {A : Type 0} (c : Bytes) (p : Path) (i n : ℕ) (k : Kept) (es : List (Entry A)) (r e : Entry A) → i < length p → list_all is_component p ≡ true → IsKept k → IsLevel (shown_entries es) → c ≡ get_or p i [] → IsEntryAt c es n → r ≡ get_or es n r → (shown_entry e).0 ≡ (shown_entry r).0 → mark (shown_item e.item) ≡ mark (shown_item r.item) → shown_item e.item ≡ kept_grafted (drop (i + 1) p) k (Some (shown_item r.item)) → Leaves (grafted (drop i p) (kept_map k) (files (shown_entries es))) (shown_entries (slice_set es n e))
grafted_at c p i n k es r e l hp hk h ec at ir ecr em ek =
    let out = shown_entries (slice_set es n e) in
    grafted_whole p i k (shown_entries es) out l hp hk h (grafted_from c p i k (shown_entries es) out l ec (standing c es n r h at ir) ek (set_at c es n r e h at ir ecr em))

-- what is left of it takes its place
pub left_is : {A : Type 0} (c : Bytes) (p : Path) (i n : ℕ) (es : List (Entry A)) (r e : Entry A) → i < length p → IsLevel (shown_entries es) → c ≡ get_or p i [] → IsEntryAt c es n → r ≡ get_or es n r → (shown_entry e).0 ≡ (shown_entry r).0 → mark (shown_item e.item) ≡ mark (shown_item r.item) → Some (shown_item e.item) ≡ kept_removed (drop (i + 1) p) (Some (shown_item r.item)) → shown_entries (slice_set es n e) ≡ without_path (drop i p) (shown_entries es)
left_is c p i n es r e l h ec at ir ecr em ek = removed_from c p i (shown_entries es) (shown_entries (slice_set es n e)) l ec (standing c es n r h at ir) ek (set_at c es n r e h at ir ecr em)

pub left_at : {A : Type 0} (c : Bytes) (p : Path) (i n : ℕ) (es : List (Entry A)) (r e : Entry A) → i < length p → list_all is_component p ≡ true → IsLevel (shown_entries es) → c ≡ get_or p i [] → IsEntryAt c es n → r ≡ get_or es n r → (shown_entry e).0 ≡ (shown_entry r).0 → mark (shown_item e.item) ≡ mark (shown_item r.item) → Some (shown_item e.item) ≡ kept_removed (drop (i + 1) p) (Some (shown_item r.item)) → Leaves (removed (files (shown_entries es)) (drop i p)) (shown_entries (slice_set es n e))
left_at c p i n es r e l hp h ec at ir ecr em ek = removed_whole p i (shown_entries es) (shown_entries (slice_set es n e)) l hp h (left_is c p i n es r e l h ec at ir ecr em ek)

gone_is : {A : Type 0} (c : Bytes) (es out : List (Entry A)) (n : ℕ) (e : Entry A) → IsLevel (shown_entries es) → IsEntryAt c es n → out ≡ remove (slice_set es n e) n → shown_entries out ≡ others c (shown_entries es)
gone_is c es out n e h at eo = ap shown_entries (eo ∙ set_aside es n e) ∙ seen_without c es n h at

-- and where nothing is left, it goes
pub went_is : {A : Type 0} (c : Bytes) (p : Path) (i n : ℕ) (es out : List (Entry A)) (r e : Entry A) → i < length p → IsLevel (shown_entries es) → c ≡ get_or p i [] → IsEntryAt c es n → r ≡ get_or es n r → None ≡ kept_removed (drop (i + 1) p) (Some (shown_item r.item)) → out ≡ remove (slice_set es n e) n → shown_entries out ≡ without_path (drop i p) (shown_entries es)
went_is c p i n es out r e l h ec at ir ek eo = removed_from c p i (shown_entries es) (shown_entries out) l ec (standing c es n r h at ir) ek (gone_is c es out n e h at eo)

pub gone_at : {A : Type 0} (c : Bytes) (p : Path) (i n : ℕ) (es out : List (Entry A)) (r e : Entry A) → i < length p → list_all is_component p ≡ true → IsLevel (shown_entries es) → c ≡ get_or p i [] → IsEntryAt c es n → r ≡ get_or es n r → None ≡ kept_removed (drop (i + 1) p) (Some (shown_item r.item)) → out ≡ remove (slice_set es n e) n → Leaves (removed (files (shown_entries es)) (drop i p)) (shown_entries out)
gone_at c p i n es out r e l hp h ec at ir ek eo = removed_whole p i (shown_entries es) (shown_entries out) l hp h (went_is c p i n es out r e l h ec at ir ek eo)

pub gone_reach : {A : Type 0} {before : ℕ} (c : Bytes) (es out : List (Entry A)) (n : ℕ) (r s e : Entry A) (reach : ℕ) → IsLevel (shown_entries es) → IsEntryAt c es n → r ≡ get_or es n r → s ≡ get_or es n s → out ≡ remove (slice_set es n e) n → IsReach reach (files (shown_entries es)) → before ≡ counted (kept_reach (shown_entry s)) → Changes reach before 0 (files (shown_entries out))
gone_reach {before = before} c es out n r s e reach h at ir is eo hr eb =
    let cr : (shown_entry r).0 ≡ c = ap (λ z. (shown_entry z).0) ir ∙ at.1 r in
    let b : before ≡ counted (kept_reach (shown_entry r)) = eb ∙ ap (λ z. counted (kept_reach (shown_entry z))) (read_twice es n r s at.0 ir is) in
    gone c (shown_item r.item) reach (shown_entries es) (shown_entries out) h (standing c es n r h at ir) (gone_is c es out n e h at eo) hr (reach_is c r before cr b)

-- a new entry where nothing stood at its component
pub grafted_new : {A : Type 0} {j : Kept} (c : Bytes) (p : Path) (i : ℕ) (k : Kept) (es out : List (Entry A)) → i < length p → list_all is_component p ≡ true → IsKept k → IsLevel (shown_entries es) → c ≡ get_or p i [] → kept_at c (shown_entries es) ≡ None → j ≡ kept_grafted (drop (i + 1) p) k None → shown_entries out ≡ inserted c j (shown_entries es) → Leaves (grafted (drop i p) (kept_map k) (files (shown_entries es))) (shown_entries out)
grafted_new {j = j} c p i k es out l hp hk h ec none ej eo =
    grafted_whole p i k (shown_entries es) (shown_entries out) l hp hk h (grafted_from c p i k (shown_entries es) (shown_entries out) l ec none ej (eo ∙ ap (inserted c j) (sym (others_same c (shown_entries es) none))))

-- nothing goes where nothing stands
pub none_gone : {A : Type 0} (c : Bytes) (p : Path) (i : ℕ) (es : List (Entry A)) → i < length p → list_all is_component p ≡ true → IsLevel (shown_entries es) → c ≡ get_or p i [] → kept_at c (shown_entries es) ≡ None → Leaves (removed (files (shown_entries es)) (drop i p)) (shown_entries es)
none_gone c p i es l hp h ec none =
    removed_whole p i (shown_entries es) (shown_entries es) l hp h (removed_from c p i (shown_entries es) (shown_entries es) l ec none refl (sym (others_same c (shown_entries es) none)))

-- both are directories, or both are files
pub same_mark : (j k : Kept) → is_folder j ≡ is_folder k → mark j ≡ mark k
same_mark (file x) (file y) e = refl
same_mark (file x) (folder g) e = absurd (false≢true e)
same_mark (folder f) (file y) e = absurd (true≢false e)
same_mark (folder f) (folder g) e = refl

pub replaced_level : (c : Bytes) (k : Kept) (es out : Level) → is_component c ≡ true → IsKept k → IsLevel es → out ≡ with_kept c k es → IsLevel out
replaced_level c k es out hc hk h e = subst IsLevel (sym e) (IsLevel-with_kept c k es hc hk h)

pub same_bools : (a b : Bool) → beq a b ≡ true → a ≡ b
same_bools true true e = refl
same_bools false false e = refl
same_bools true false e = absurd (false≢true e)
same_bools false true e = absurd (false≢true e)

-- what is put where a file stood, or at the path's end, is what is put where nothing stood
pub anew_file : (q : Path) (k j : Kept) → is_folder j ≡ false → kept_grafted q k None ≡ kept_grafted q k (Some j)
anew_file [] k j h = refl
anew_file (c ∷ q) k (file x) h = refl
anew_file (c ∷ q) k (folder f) h = absurd (true≢false h)

at_end : (q : Path) (k : Kept) (o : Option Kept) → length q ≡ 0 → kept_grafted q k None ≡ kept_grafted q k o
at_end [] k o l = refl
at_end (c ∷ q) k o l = absurd (omega (arith, l))

pub anew_end : (p : Path) (i : ℕ) (k : Kept) (o : Option Kept) → i + 1 ≡ length p → kept_grafted (drop (i + 1) p) k None ≡ kept_grafted (drop (i + 1) p) k o
anew_end p i k o l = at_end (drop (i + 1) p) k o (omega (arith, l, length-drop (i + 1) p))
