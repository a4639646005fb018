-- What the commands of commits that are sent add to the values that were there.
use Rattle.std.proofs.Common.{◌≡◌, Bool, true, false, cond, Option, Some, None, List, [], ◌∷◌, ◌++◌, map, refl, sym, ap, subst, ◌∙◌, append_assoc, inl, inr}
use Rattle.std.specs.Bool.{passes}
use Rattle.std.specs.List.{filter, AllByRecursion, cons_option}
use Rattle.std.specs.Prelude.{IsTrue, ◌⊎◌}
use Rattle.gx_model.specs.Texts.{Bytes}
use Rattle.gx_model.specs.Texts.Paths.{Path}
use Rattle.gx_model.specs.Histories.Files.{FileMap, Leaf}
use Rattle.gx_model.specs.Histories.Values.{Commit, Value, blob_value, blobs_of, commit_value, files_of, is_content, is_proper, is_proper_text, list_of, parents_of, sub_maps, text_of, tree_value, unless_gitlink}
use Rattle.gx_model.specs.Histories.{IsIn, IsWhole, is_in, with_one, with_value}
use Rattle.gx_model.specs.Export.{contents, with_blobs}
use Rattle.gx_model.specs.Changes.{base_files, own_files, with_changes}
use Rattle.gx_model.specs.Laws.ExportLaws.{AnyReaches, IsOne, values_with_blobs}
use Rattle.gx_model.specs.Laws.HistoryLaws.{IsAdded}
use Rattle.gx_model.proofs.Histories.AddedValues.{all_join, in_left, in_some, keeps, value_added}
use Rattle.gx_model.proofs.Changes.ChangeSteps.{AreWritten, differs, others_written}
use Rattle.gx_model.proofs.Export.CommitSteps.{blobs_have, blobs_keep, map_of}
use Rattle.gx_model.proofs.Histories.FileMapEdits.{Parts, parts_of}
use Rattle.gx_model.proofs.Export.KeptCommits.{all_map_blobs, all_map_commits, any_last, any_left, blob_reached, blobs_only, blobs_whole, contents_are, each_one, one_of_all, snoc_all}
use Rattle.gx_model.proofs.Records.LinkedValues.{parts_in, proper_in}
use Rattle.gx_model.proofs.Texts.PathTests.{first}

-- the values after a commit's block
abbrev pub values_with_changes : List Value → List Value → Commit → List Value
values_with_changes ws vs c = with_value (values_with_blobs ws vs (contents (own_files c))) (commit_value c)

-- these values, and then more
abbrev pub IsFront : List Value → List Value → Type 0
IsFront held vs = (new : List Value) × (vs ≡ held ++ new)

front_more : (held vs us new : List Value) → IsFront held vs → us ≡ vs ++ new → IsFront held us
front_more held vs us new f e = (f.0 ++ new, e ∙ ap (λ xs. xs ++ new) f.1 ∙ append_assoc held f.0 new)

pub front_one : (held vs : List Value) (v : Value) → IsFront held vs → IsFront held (with_one vs v)
front_one held vs v f = elim (is_in vs v) as (λ t. IsFront held (cond t vs (vs ++ v ∷ []))) [ true ↦ f | false ↦ front_more held vs (vs ++ v ∷ []) (v ∷ []) f refl ]

pub front_blobs : (held ws vs : List Value) (xs : List Bytes) → IsFront held vs → IsFront held (values_with_blobs ws vs xs)
front_blobs held ws vs [] f = f
front_blobs held ws vs (x ∷ xs) f =
    let same = front_blobs held ws vs xs f in
    let new = front_blobs held (blob_value x ∷ ws) (with_one vs (blob_value x)) xs (front_one held vs (blob_value x) f) in
    elim (is_in ws (blob_value x)) as (λ t. IsFront held (cond t (values_with_blobs ws vs xs) (values_with_blobs (blob_value x ∷ ws) (with_one vs (blob_value x)) xs))) [ true ↦ same | false ↦ new ]

-- ---- files

module _ (P : Bytes → Type 0) (t : Path × Leaf Bytes → Bool) where
  -- what holds of the bytes of some files, and of those of the others, holds of all
  all_files : (f : FileMap Bytes) → AllByRecursion P (contents (filter t f)) → AllByRecursion (λ e. t e ≡ false → AllByRecursion P (cons_option (unless_gitlink e.1.0 e.1.1) [])) f → AllByRecursion P (contents f)
  all_files [] h k = tt
  all_files (e ∷ f) h k =
      elim (t e) as (λ b. t e ≡ b → AllByRecursion P (contents (cond b (e ∷ filter t f) (filter t f))) → AllByRecursion P (contents (e ∷ f))) [
        | true ↦ λ i g. taken (unless_gitlink e.1.0 e.1.1) g (λ g. all_files f g k.1)
        | false ↦ λ i g. left (unless_gitlink e.1.0 e.1.1) (k.0 i) (all_files f g k.1)
      ] refl h
    where
      taken : (o : Option Bytes) → AllByRecursion P (cons_option o (contents (filter t f))) → (AllByRecursion P (contents (filter t f)) → AllByRecursion P (contents f)) → AllByRecursion P (cons_option o (contents f))
      taken None g again = again g
      taken (Some x) g again = (g.0, again g.1)

      left : (o : Option Bytes) → AllByRecursion P (cons_option o []) → AllByRecursion P (contents f) → AllByRecursion P (cons_option o (contents f))
      left None g rest = rest
      left (Some x) g rest = (g.0, rest)

-- bytes of some files are bytes of all
some_files : (t : Path × Leaf Bytes → Bool) (f : FileMap Bytes) (u : Value) → IsIn (map blob_value (contents (filter t f))) u → IsIn (map blob_value (contents f)) u
some_files t [] u i = i
some_files t (e ∷ f) u i =
    elim (t e) as (λ b. IsIn (map blob_value (contents (cond b (e ∷ filter t f) (filter t f)))) u → IsIn (map blob_value (contents (e ∷ f))) u) [
      | true ↦ λ j. taken (unless_gitlink e.1.0 e.1.1) j (λ k. some_files t f u k)
      | false ↦ λ j. left (unless_gitlink e.1.0 e.1.1) (some_files t f u j)
    ] i
  where
    taken : (o : Option Bytes) → IsIn (map blob_value (cons_option o (contents (filter t f)))) u → (IsIn (map blob_value (contents (filter t f))) u → IsIn (map blob_value (contents f)) u) → IsIn (map blob_value (cons_option o (contents f))) u
    taken None j again = again j
    taken (Some x) j again = elim j [ inl e ↦ inl e | inr k ↦ inr (again k) ]

    left : (o : Option Bytes) → IsIn (map blob_value (contents f)) u → IsIn (map blob_value (cons_option o (contents f))) u
    left None j = j
    left (Some x) j = inr j

-- the bytes of the files of a commit that is held are held
files_held : (vs : List Value) (p : Commit) → IsWhole vs → IsIn vs (commit_value p) → AreWritten vs (files_of p)
files_held vs p h i =
    let f = files_of p in
    let tree = (parts_in vs (commit_value p) h i).0 in
    let blobs = front_part (blobs_of f) (map tree_value (sub_maps f)) (parts_in vs (tree_value f) h tree) in
    unmap (contents f) (subst (AllByRecursion (IsIn vs)) (contents_are f) blobs)
  where
    front_part : (us ws : List Value) → AllByRecursion (IsIn vs) (us ++ ws) → AllByRecursion (IsIn vs) us
    front_part us ws k = by us k where
      by : (us : List Value) → AllByRecursion (IsIn vs) (us ++ ws) → AllByRecursion (IsIn vs) us
      by [] k = tt
      by (u ∷ us) k = (k.0, by us k.1)

    unmap : (xs : List Bytes) → AllByRecursion (IsIn vs) (map blob_value xs) → AllByRecursion (λ x. IsIn vs (blob_value x)) xs
    unmap xs k = by xs k where
      by : (xs : List Bytes) → AllByRecursion (IsIn vs) (map blob_value xs) → AllByRecursion (λ x. IsIn vs (blob_value x)) xs
      by [] k = tt
      by (x ∷ xs) k = (k.0, by xs k.1)

no_files : Parts {X = Leaf Bytes} []
no_files = parts_of [] refl

pub held_parts : (vs : List Value) (ps : List Commit) → IsWhole vs → AllByRecursion (λ p. IsIn vs (commit_value p)) ps → Parts (base_files ps)
held_parts vs [] h k = no_files
held_parts vs (p ∷ ps) h k =
    let proper = proper_in vs (commit_value p) (passes _ h.proper) k.0 in
    parts_of (files_of p) (map_of (files_of p) (first (is_content (files_of p)) (is_proper_text (text_of p)) proper))

base_held : (vs : List Value) (ps : List Commit) → IsWhole vs → AllByRecursion (λ p. IsIn vs (commit_value p)) ps → AreWritten vs (base_files ps)
base_held vs [] h k = tt
base_held vs (p ∷ ps) h k = files_held vs p h k.0

more_written : (vs us : List Value) → ((v : Value) → IsIn vs v → IsIn us v) → (xs : List Bytes) → AllByRecursion (λ x. IsIn vs (blob_value x)) xs → AllByRecursion (λ x. IsIn us (blob_value x)) xs
more_written vs us f [] h = tt
more_written vs us f (x ∷ xs) h = (f (blob_value x) h.0, more_written vs us f xs h.1)

-- ---- all commits

-- After these commits were read: beside what was held stands exactly what they reach.
pub record HoldsSent (held ws vs : List Value) (cs : List Commit) : Type 0 where
  pub whole : IsWhole vs
  pub front : IsFront held vs
  pub written : (v : Value) → IsIn ws v → IsIn vs v
  pub commits : AllByRecursion (λ c. IsIn ws (commit_value c)) cs
  pub only : (u : Value) → IsIn vs u → IsIn held u ⊎ AnyReaches (map commit_value cs) u

-- a parent was sent before, or was held
abbrev pub IsKnown : List Value → List Commit → Commit → Type 0
IsKnown held cs p = IsOne cs p ⊎ IsIn held (commit_value p)

pub held_there : (held vs : List Value) (v : Value) → IsFront held vs → IsIn held v → IsIn vs v
held_there held vs v f i = subst (λ us. IsIn us v) (sym f.1) (in_left held f.0 v i)

pub known_held : (held ws vs : List Value) (cs : List Commit) → HoldsSent held ws vs cs → (ps : List Commit) → AllByRecursion (IsKnown held cs) ps → AllByRecursion (λ p. IsIn vs (commit_value p)) ps
known_held held ws vs cs h ps k = each_one (IsKnown held cs) (λ p. IsIn vs (commit_value p)) (λ p i. elim i [
  | inl one ↦ h.written (commit_value p) (one_of_all (λ d. IsIn ws (commit_value d)) cs p h.commits one)
  | inr j ↦ held_there held vs (commit_value p) h.front j
]) ps k

pub commit_sent : (held ws vs : List Value) (cs : List Commit) (c : Commit) → HoldsSent held ws vs cs → IsTrue (is_proper (commit_value c)) → AllByRecursion (IsKnown held cs) (list_of (parents_of c))
    → HoldsSent held (with_changes ws c) (values_with_changes ws vs c) (cs ++ c ∷ [])
commit_sent held ws vs cs c h p k =
    let f = files_of c in
    let xs = contents (own_files c) in
    let us = values_with_blobs ws vs xs in
    let ps = list_of (parents_of c) in
    let b = blobs_whole ws vs xs h.whole h.written in
    let there = known_held held ws vs cs h ps k in
    let parents = each_one (λ d. IsIn vs (commit_value d)) (λ d. IsIn us (commit_value d)) (λ d i. b.keeps (commit_value d) i) ps there in
    let own = more_written (with_blobs ws xs) us b.written xs (blobs_have ws xs) in
    let base = more_written vs us b.keeps (contents (base_files ps)) (base_held vs ps h.whole there) in
    let all = all_files (λ x. IsIn us (blob_value x)) (differs c) f own (others_written us c base) in
    let blobs : AllByRecursion (IsIn us) (blobs_of f) = subst (AllByRecursion (IsIn us)) (sym (contents_are f)) (all_map_blobs (IsIn us) (contents f) all) in
    let a : IsAdded us (commit_value c) (with_value us (commit_value c)) = value_added us (commit_value c) b.whole (passes _ p) (all_join (IsIn us) (blobs_of f) (map commit_value ps) blobs (all_map_commits (IsIn us) ps parents)) in
    record {
      whole = a.whole;
      front = front_more held us (values_with_changes ws vs c) a.new (front_blobs held ws vs xs h.front) a.front;
      written = λ v i. elim i [ inl e ↦ subst (IsIn (values_with_changes ws vs c)) e a.has | inr j ↦ keeps us (commit_value c) (with_value us (commit_value c)) a v (b.written v j) ];
      commits = snoc_all (λ d. IsIn (with_changes ws c) (commit_value d)) cs c (each_one (λ d. IsIn ws (commit_value d)) (λ d. IsIn (with_changes ws c) (commit_value d)) (λ d i. inr (blobs_keep ws xs (commit_value d) i)) cs h.commits) (inl refl);
      only = λ u i. elim (in_some us a.new u (subst (λ (zs : List Value). IsIn zs u) a.front i)) [
        | inl j ↦ elim (blobs_only ws vs xs u j) [
          | inl m ↦ elim (h.only u m) [ inl n ↦ inl n | inr n ↦ inr (any_left cs (c ∷ []) u n) ]
          | inr m ↦ inr (any_last cs c u (blob_reached c u (some_files (differs c) f u m)))
        ]
        | inr j ↦ inr (any_last cs c u (a.only u j))
      ];
    }

-- each is proper, and its parents were sent before or were held
abbrev pub FollowsSent : List Value → List Commit → List Commit → Type 0
FollowsSent held before [] = Unit {0}
FollowsSent held before (c ∷ cs) =
    IsTrue (is_proper (commit_value c)) × AllByRecursion (IsKnown held before) (list_of (parents_of c)) × FollowsSent held (before ++ c ∷ []) cs
