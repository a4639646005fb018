-- The lines of a commit: its parents and its files.
use Rattle.std.proofs.Common.{◌≡◌, ◌≢◌, ℕ, zero, suc, ◌+◌, ◌<◌, List, [], ◌∷◌, ◌++◌, map, length, take, drop, None, Some, refl, ap, subst, ◌∙◌, arith, codes}
use Rattle.std.specs.List.{AllByRecursion, slice_get}
use Rattle.gx_model.specs.declared.objects.Kind.TheVariants as kind
use Rattle.gx_model.specs.declared.objects.Mode.{Mode}
use Rattle.gx_model.specs.declared.objects.Mode.TheVariants.{File, Exec, Link, Gitlink, Dir}
use Rattle.gx_model.specs.Texts.{Bytes}
use Rattle.gx_model.specs.Export.{commit_ish_text, dataref_in, dataref_text, mark_text, marked_in, number_in, word_line}
use Rattle.gx_model.specs.Histories.{Record}
use Rattle.gx_model.specs.Records.HistoryOf.{Named, bytes_of_blob, content_of, value_named}
use Rattle.gx_model.specs.Streams.Commands.{CommitIsh}
use Rattle.gx_model.specs.Streams.Items.{Item}
use Rattle.gx_model.specs.Records.Sound.{Holds, IsHeldAs}
use Rattle.gx_model.specs.Histories.Values.{Commit, Value, blob_value, commit_value}
use Rattle.gx_export.specs.Texts.{parents_by}

-- ---- files

-- a file's object is a held blob
pub file_held : (records : List Record) (mode : Mode) (n : Bytes) → mode ≢ Gitlink → mode ≢ Dir → IsHeldAs records mode n → Holds records kind.Blob n
file_held records File n g d h = h
file_held records Exec n g d h = h
file_held records Link n g d h = h
file_held records Gitlink n g d h = absurd (g refl)
file_held records Dir n g d h = absurd (d refl)

-- a file's line names the mark of its bytes
pub file_dataref : (named : Named) (ws : List Value) (mode : Mode) (n : Bytes) → mode ≢ Gitlink → mode ≢ Dir → dataref_text (dataref_in ws mode (content_of named mode n)) ≡ mark_text (number_in ws (blob_value (bytes_of_blob (value_named named n))))
file_dataref named ws File n g d = refl
file_dataref named ws Exec n g d = refl
file_dataref named ws Link n g d = refl
file_dataref named ws Gitlink n g d = absurd (g refl)
file_dataref named ws Dir n g d = absurd (d refl)

-- ---- parents

-- commits are named by their marks
abbrev pub by_marks : List Value → Commit → CommitIsh
by_marks ws p = marked_in ws (commit_value p)

-- the line of the parent with this number, from 0
abbrev pub parent_line : (Commit → CommitIsh) → ℕ → Commit → Item
parent_line names zero p = word_line (codes "from") (commit_ish_text (names p))
parent_line names (suc n) p = word_line (codes "merge") (commit_ish_text (names p))

-- what stands at a place passes what all pass
pub passes_at : {X : Type 0} (P : X → Type 0) (xs : List X) (i : ℕ) (x : X) → AllByRecursion P xs → Some x ≡ slice_get xs i → P x
passes_at P [] i x h e = absurd cc
passes_at P (y ∷ ys) zero x h e = let same : y ≡ x = cc in subst P same h.0
passes_at P (y ∷ ys) (suc i) x h e = passes_at P ys i x h.1 e

-- something stands at a place within a list
pub none_at : {X : Type 0} (xs : List X) (i : ℕ) → i < length xs → None ≡ slice_get xs i → ⊥
none_at [] i h e = omega arith
none_at (x ∷ xs) zero h e = cc
none_at (x ∷ xs) (suc i) h e = none_at xs i (omega (arith, h)) e

-- what stands at a place of a list stands there in its image
pub image_at : {X Y : Type 0} (f : X → Y) (xs : List X) (i : ℕ) (x : X) → Some x ≡ slice_get xs i → slice_get (map f xs) i ≡ Some (f x)
image_at f [] i x e = absurd cc
image_at f (y ∷ ys) zero x e = let same : y ≡ x = cc in ap (λ z. Some (f z)) same
image_at f (y ∷ ys) (suc i) x e = image_at f ys i x e

-- the line, by its word and what names the parent
pub line_is : (names : Commit → CommitIsh) (n : ℕ) (p : Commit) (word : Bytes) (named : CommitIsh) → (n ≡ 0 → word ≡ codes "from") → (n ≢ 0 → word ≡ codes "merge") → named ≡ names p → word_line word (commit_ish_text named) ≡ parent_line names n p
line_is names zero p word named first other e = let w = first refl in λ i. word_line (w i) (commit_ish_text (e i))
line_is names (suc n) p word named first other e = let w = other (λ k. omega (arith, k)) in λ i. word_line (w i) (commit_ish_text (e i))

abbrev merges : (Commit → CommitIsh) → List Commit → List Item
merges names ps = map (λ p. word_line (codes "merge") (commit_ish_text p)) (map names ps)

merges_next : (names : Commit → CommitIsh) (ps : List Commit) (i : ℕ) (p : Commit) → slice_get ps i ≡ Some p → merges names (take (suc i) ps) ≡ merges names (take i ps) ++ (parent_line names 1 p ∷ [])
merges_next names [] i p e = absurd cc
merges_next names (q ∷ ps) zero p e = let same : q ≡ p = cc in ap (λ z. parent_line names 1 z ∷ []) same
merges_next names (q ∷ ps) (suc i) p e = ap (λ z. parent_line names 1 q ∷ z) (merges_next names ps i p e)

merges_parts : (names : Commit → CommitIsh) (ps : List Commit) (i : ℕ) (p : Commit) → slice_get ps i ≡ Some p → merges names ps ≡ merges names (take i ps) ++ (parent_line names 1 p ∷ merges names (drop (suc i) ps))
merges_parts names [] i p e = absurd cc
merges_parts names (q ∷ ps) zero p e = let same : q ≡ p = cc in ap (λ z. parent_line names 1 z ∷ merges names ps) same
merges_parts names (q ∷ ps) (suc i) p e = ap (λ z. parent_line names 1 q ∷ z) (merges_parts names ps i p e)

next_parent : (names : Commit → CommitIsh) (ps : List Commit) (i : ℕ) (p : Commit) → slice_get ps i ≡ Some p → parents_by names (take (suc i) ps) ≡ parents_by names (take i ps) ++ (parent_line names i p ∷ [])
next_parent names [] i p e = absurd cc
next_parent names (q ∷ ps) zero p e = let same : q ≡ p = cc in ap (λ z. parent_line names 0 z ∷ []) same
next_parent names (q ∷ ps) (suc i) p e = ap (λ z. parent_line names 0 q ∷ z) (merges_next names ps i p e)

-- the lines of one parent more
pub parents_next : (names : Commit → CommitIsh) (ps : List Commit) (i : ℕ) (p : Commit) → slice_get ps i ≡ Some p → parents_by names (take (i + 1) ps) ≡ parents_by names (take i ps) ++ (parent_line names i p ∷ [])
parents_next names ps i p e = let step : i + 1 ≡ suc i = omega arith in ap (λ n. parents_by names (take n ps)) step ∙ next_parent names ps i p e

-- those before, this one's, and those behind it
pub parents_parts : (names : Commit → CommitIsh) (ps : List Commit) (i : ℕ) (p : Commit) → slice_get ps i ≡ Some p → (rest : List Item) × (parents_by names ps ≡ parents_by names (take i ps) ++ (parent_line names i p ∷ rest))
parents_parts names [] i p e = absurd cc
parents_parts names (q ∷ ps) zero p e = let same : q ≡ p = cc in (merges names ps, ap (λ z. parent_line names 0 z ∷ merges names ps) same)
parents_parts names (q ∷ ps) (suc i) p e = (merges names (drop (suc i) ps), ap (λ z. parent_line names 0 q ∷ z) (merges_parts names ps i p e))
