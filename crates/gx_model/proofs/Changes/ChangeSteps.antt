-- The commands of an export of changes are replayed without a fault, and write what an export writes.
use Rattle.std.proofs.Common.{◌≡◌, Bool, true, false, cond, not, Option, Some, None, Result, Ok, Err, List, [], ◌∷◌, ◌++◌, map, refl, sym, ap, subst, ◌∙◌, inl, inr}
use Rattle.std.specs.List.{filter, AllByRecursion, cons_option}
use Rattle.std.specs.Prelude.{T}
use Rattle.gx_model.specs.declared.faults.Fault.{Fault}
use Rattle.gx_model.specs.declared.objects.Kind.{Kind}
use Rattle.gx_model.specs.Texts.{Bytes}
use Rattle.gx_model.specs.Texts.Paths.{Path, same_path}
use Rattle.gx_model.specs.Faults.{◌>>=◌}
use Rattle.gx_model.specs.Streams.Commands.{Change, Named, Remove}
use Rattle.gx_model.specs.Histories.Files.{FileMap, Leaf, file_at}
use Rattle.gx_model.specs.Histories.Edits.{modified, removed}
use Rattle.gx_model.specs.Histories.Values.{Commit, Value, blob_value, commit_value, files_of, is_content, is_leaf, list_of, parents_of, unless_gitlink}
use Rattle.gx_model.specs.Histories.{History, IsIn, is_in, no_history, with_one, with_value}
use Rattle.gx_model.specs.Replay.{State, all_changed, committed_for}
use Rattle.gx_model.specs.Export.{contents, file_change, marked_in, with_blobs, with_commit}
use Rattle.gx_model.specs.Changes.{base_files, commit_changes, commit_ref, commit_revision, commit_with_changes, gone_paths, is_this_leaf, named_in, own_files, with_changes}
use Rattle.gx_model.specs.Laws.ExportLaws.{steps, values_with_blobs, values_with_commit}
use Rattle.gx_model.proofs.Histories.ChangedFiles.{all_put, all_removed, changes_make, same_leaf}
use Rattle.gx_model.proofs.Export.CommitSteps.{AreNamed, Branches, Tags, all_still, are_leaves, begun_on, block_replayed, blobs_have, blobs_keep, committed_on, content_given, front_of, leaves_of, map_of, marks_name, rest_of, state_with}
use Rattle.gx_model.proofs.Histories.FileMapEdits.{Parts, parts_of}
use Rattle.gx_model.proofs.Records.GrownRecords.{is_is_in}
use Rattle.gx_model.proofs.Texts.PathTests.{all_filter, first, second}
use Rattle.gx_model.proofs.Export.PublishedRefs.{Refs}

-- ---- blobs that were written

-- the bytes of a file were written
abbrev pub IsWritten : List Value → Leaf Bytes → Type 0
IsWritten ws leaf = AllByRecursion (λ x. IsIn ws (blob_value x)) (cons_option (unless_gitlink leaf.0 leaf.1) [])

-- those of all files were
abbrev pub AreWritten : List Value → FileMap Bytes → Type 0
AreWritten ws f = AllByRecursion (λ x. IsIn ws (blob_value x)) (contents f)

one_more : (ws us : List Value) → ((v : Value) → IsIn ws v → IsIn us v) → (xs : List Bytes) → AllByRecursion (λ x. IsIn ws (blob_value x)) xs → AllByRecursion (λ x. IsIn us (blob_value x)) xs
one_more ws us f [] h = tt
one_more ws us f (x ∷ xs) h = (f (blob_value x) h.0, one_more ws us f xs h.1)

-- what is written of some files is written of all, where the bytes of the others were written before
record SameBlobs (ws vs : List Value) (xs ys : List Bytes) : Type 0 where
  pub written : with_blobs ws xs ≡ with_blobs ws ys
  pub values : values_with_blobs ws vs xs ≡ values_with_blobs ws vs ys

both_written : (ws vs : List Value) (x : Bytes) (xs ys : List Bytes) → SameBlobs ws vs xs ys → SameBlobs (blob_value x ∷ ws) (with_one vs (blob_value x)) xs ys → SameBlobs ws vs (x ∷ xs) (x ∷ ys)
both_written ws vs x xs ys held new =
    record {
      written = elim (is_in ws (blob_value x)) as (λ t. with_blobs (cond t ws (blob_value x ∷ ws)) xs ≡ with_blobs (cond t ws (blob_value x ∷ ws)) ys) [ true ↦ held.written | false ↦ new.written ];
      values = elim (is_in ws (blob_value x)) as (λ t. cond t (values_with_blobs ws vs xs) (values_with_blobs (blob_value x ∷ ws) (with_one vs (blob_value x)) xs) ≡ cond t (values_with_blobs ws vs ys) (values_with_blobs (blob_value x ∷ ws) (with_one vs (blob_value x)) ys)) [ true ↦ held.values | false ↦ new.values ];
    }

not_again : (ws vs : List Value) (x : Bytes) (xs ys : List Bytes) → IsIn ws (blob_value x) → SameBlobs ws vs xs ys → SameBlobs ws vs xs (x ∷ ys)
not_again ws vs x xs ys i same =
    let e : is_in ws (blob_value x) ≡ true = is_is_in ws (blob_value x) i in
    record {
      written = same.written ∙ ap (λ t. with_blobs (cond t ws (blob_value x ∷ ws)) ys) (sym e);
      values = same.values ∙ ap (λ t. cond t (values_with_blobs ws vs ys) (values_with_blobs (blob_value x ∷ ws) (with_one vs (blob_value x)) ys)) (sym e);
    }

-- whether a file differs from that of the first parent
abbrev pub differs : Commit → Path × Leaf Bytes → Bool
differs c e = not (is_this_leaf (file_at (base_files (list_of (parents_of c))) e.0) e.1)

module _ (t : Path × Leaf Bytes → Bool) where
  abbrev pub OthersWritten : List Value → FileMap Bytes → Type 0
  OthersWritten ws f = AllByRecursion (λ e. t e ≡ false → IsWritten ws e.1) f

  still_written : (ws : List Value) (v : Value) (f : FileMap Bytes) → OthersWritten ws f → OthersWritten (v ∷ ws) f
  still_written ws v [] h = tt
  still_written ws v (e ∷ f) h = (λ n. one_more ws (v ∷ ws) (λ u i. inr i) (cons_option (unless_gitlink e.1.0 e.1.1) []) (h.0 n), still_written ws v f h.1)

  same_blobs : (f : FileMap Bytes) (ws vs : List Value) → OthersWritten ws f → SameBlobs ws vs (contents (filter t f)) (contents f)
  same_blobs [] ws vs h = record { written = refl; values = refl }
  same_blobs (e ∷ f) ws vs h =
      let held = same_blobs f ws vs h.1 in
      elim (t e) as (λ b. t e ≡ b → SameBlobs ws vs (contents (cond b (e ∷ filter t f) (filter t f))) (contents (e ∷ f))) [
        | true ↦ λ k. taken (unless_gitlink e.1.0 e.1.1) held (λ x. same_blobs f (blob_value x ∷ ws) (with_one vs (blob_value x)) (still_written ws (blob_value x) f h.1))
        | false ↦ λ k. left (unless_gitlink e.1.0 e.1.1) (h.0 k) held
      ] refl
    where
      taken : (o : Option Bytes) → SameBlobs ws vs (contents (filter t f)) (contents f) → ((x : Bytes) → SameBlobs (blob_value x ∷ ws) (with_one vs (blob_value x)) (contents (filter t f)) (contents f))
          → SameBlobs ws vs (cons_option o (contents (filter t f))) (cons_option o (contents f))
      taken None held new = held
      taken (Some x) held new = both_written ws vs x (contents (filter t f)) (contents f) held (new x)

      left : (o : Option Bytes) → AllByRecursion (λ x. IsIn ws (blob_value x)) (cons_option o []) → SameBlobs ws vs (contents (filter t f)) (contents f) → SameBlobs ws vs (contents (filter t f)) (cons_option o (contents f))
      left None w held = held
      left (Some x) w held = not_again ws vs x (contents (filter t f)) (contents f) w.0 held

-- ---- the files of commits that were written

-- the files of each commit that was written were, too
abbrev pub HaveBlobs : List Value → Type 0
HaveBlobs ws = (p : Commit) → IsIn ws (commit_value p) → AreWritten ws (files_of p)

same_commit : (c p : Commit) → commit_value c ≡ commit_value p → c ≡ p
same_commit c p e = cc

no_commit_added : (ws : List Value) (xs : List Bytes) (p : Commit) → IsIn (with_blobs ws xs) (commit_value p) → IsIn ws (commit_value p)
no_commit_added ws [] p i = i
no_commit_added ws (x ∷ xs) p i = by (is_in ws (blob_value x)) (no_commit_added (cond (is_in ws (blob_value x)) ws (blob_value x ∷ ws)) xs p i) where
  by : (t : Bool) → IsIn (cond t ws (blob_value x ∷ ws)) (commit_value p) → IsIn ws (commit_value p)
  by true j = j
  by false j = elim j [ inl e ↦ absurd cc | inr k ↦ k ]

pub have_blobs : (ws : List Value) (c : Commit) → HaveBlobs ws → HaveBlobs (with_commit ws c)
have_blobs ws c h p i =
    let us = with_blobs ws (contents (files_of c)) in
    elim i [
      | inl e ↦ subst (λ d. AreWritten (with_commit ws c) (files_of d)) (same_commit c p e) (one_more us (commit_value c ∷ us) (λ v j. inr j) (contents (files_of c)) (blobs_have ws (contents (files_of c))))
      | inr k ↦ one_more ws (with_commit ws c) (λ v j. inr (blobs_keep ws (contents (files_of c)) v j)) (contents (files_of p)) (h p (no_commit_added ws (contents (files_of c)) p k))
    ]

-- what stands in a file map was written with it
written_at : (ws : List Value) (f : FileMap Bytes) (q : Path) (leaf : Leaf Bytes) → AreWritten ws f → file_at f q ≡ Some leaf → IsWritten ws leaf
written_at ws [] q leaf h e = absurd cc
written_at ws (g ∷ f) q leaf h e =
    let P = λ (x : Bytes). IsIn ws (blob_value x) in
    let o = unless_gitlink g.1.0 g.1.1 in
    elim (same_path q g.0) as (λ b. cond b (Some g.1) (file_at f q) ≡ Some leaf → IsWritten ws leaf) [
      | true ↦ λ k. let same : g.1 ≡ leaf = cc in subst (IsWritten ws) same (front_of P o (contents f) h)
      | false ↦ λ k. written_at ws f q leaf (rest_of P o (contents f) h) k
    ] e

base_written : (ws : List Value) (ps : List Commit) → HaveBlobs ws → AllByRecursion (λ p. IsIn ws (commit_value p)) ps → AreWritten ws (base_files ps)
base_written ws [] h k = tt
base_written ws (p ∷ ps) h k = h p k.0

-- the bytes of the files of a commit that don't differ are those of its first parent
pub others_written : (ws : List Value) (c : Commit) → AreWritten ws (base_files (list_of (parents_of c))) → OthersWritten (differs c) ws (files_of c)
others_written ws c h = by (files_of c) where
  kept : (b : Bool) → not b ≡ false → b ≡ true
  kept true e = refl
  kept false e = absurd cc

  by : (f : FileMap Bytes) → OthersWritten (differs c) ws f
  by [] = tt
  by (e ∷ f) = let old = base_files (list_of (parents_of c)) in (λ n. written_at ws old e.0 e.1 h (same_leaf (file_at old e.0) e.1 (kept (is_this_leaf (file_at old e.0) e.1) n)), by f)

-- what a commit's own files write is what all its files write
same_commit_blobs : (ws vs : List Value) (c : Commit) → HaveBlobs ws → AllByRecursion (λ p. IsIn ws (commit_value p)) (list_of (parents_of c)) → SameBlobs ws vs (contents (own_files c)) (contents (files_of c))
same_commit_blobs ws vs c h k = same_blobs (differs c) (files_of c) ws vs (others_written ws c (base_written ws (list_of (parents_of c)) h k))

-- ---- the changes of a commit

-- a file map beside a state
abbrev with_state : State → FileMap Bytes → Result (State × FileMap Bytes) Fault
with_state s f = Ok (s, f)

module _ (name : Kind → Bytes → Bytes) where
  removes_replayed : (s : State) (f : FileMap Bytes) (ps : List Path) (cs : List Change) → all_changed name s f (map Remove ps ++ cs) ≡ all_changed name s (all_removed f ps) cs
  removes_replayed s f [] cs = refl
  removes_replayed s f (p ∷ ps) cs = removes_replayed s (removed f p) ps cs

  puts_replayed : (h : History) (ts : Tags) (ws vs : List Value) (bs : Branches) (f es : FileMap Bytes) → T (are_leaves es) → AreWritten ws es
      → all_changed name (state_with h ws vs bs ts) f (map (file_change ws) es) ≡ (all_put f es >>= with_state (state_with h ws vs bs ts))
  puts_replayed h ts ws vs bs f [] l k = refl
  puts_replayed h ts ws vs bs f (e ∷ es) l k =
      let P = λ (x : Bytes). IsIn ws (blob_value x) in
      let o = unless_gitlink e.1.0 e.1.1 in
      let given = content_given name h ts ws vs bs e.1.0 e.1.1 (first (is_leaf e.1.0 e.1.1) _ l) (front_of P o (contents es) k) in
      rw given (by (modified f e.0 e.1) (λ g. puts_replayed h ts ws vs bs g es (second (is_leaf e.1.0 e.1.1) _ l) (rest_of P o (contents es) k)))
    where
      by : (r : Result (FileMap Bytes) Fault) → ((g : FileMap Bytes) → all_changed name (state_with h ws vs bs ts) g (map (file_change ws) es) ≡ (all_put g es >>= with_state (state_with h ws vs bs ts)))
          → ((r >>= with_state (state_with h ws vs bs ts)) >>= λ r. all_changed name r.0 r.1 (map (file_change ws) es)) ≡ ((r >>= λ g. all_put g es) >>= with_state (state_with h ws vs bs ts))
      by (Ok g) again = again g
      by (Err x) again = refl

  pub changes_replayed : (h : History) (ts : Tags) (ws vs : List Value) (bs : Branches) (c : Commit) → Parts (base_files (list_of (parents_of c))) → T (is_content (files_of c)) → AreWritten ws (own_files c)
      → all_changed name (state_with h ws vs bs ts) (base_files (list_of (parents_of c))) (commit_changes ws c) ≡ Ok (state_with h ws vs bs ts, files_of c)
  changes_replayed h ts ws vs bs c old new k =
      let s = state_with h ws vs bs ts in
      let base = base_files (list_of (parents_of c)) in
      let leaves = all_filter (λ e. is_leaf e.1.0 e.1.1) (λ e. not (is_this_leaf (file_at base e.0) e.1)) (files_of c) (leaves_of (files_of c) new) in
      removes_replayed s base (gone_paths base (files_of c)) (map (file_change ws) (own_files c))
      ∙ puts_replayed h ts ws vs bs (all_removed base (gone_paths base (files_of c))) (own_files c) leaves k
      ∙ ap (λ r. r >>= with_state s) (changes_make base (files_of c) old (parts_of (files_of c) (map_of (files_of c) new)))

  -- ---- the commands of a commit

  pub named_by_mark : (ws : List Value) (c : Commit) → IsIn ws (commit_value c) → named_in name ws c ≡ marked_in ws (commit_value c)
  named_by_mark ws c i = ap (λ t. cond t (marked_in ws (commit_value c)) (Named (commit_revision name c))) (is_is_in ws (commit_value c) i)

  all_named : (h : History) (ts : Tags) (r : Bytes) (ws vs : List Value) (bs : Branches) (ps : List Commit) → AllByRecursion (λ p. IsIn ws (commit_value p)) ps → AreNamed name h ts r (named_in name ws) (state_with h ws vs bs ts) ps
  all_named h ts r ws vs bs ps k = by ps k (marks_name name h ts r ws vs bs ps k) where
    by : (ps : List Commit) → AllByRecursion (λ p. IsIn ws (commit_value p)) ps → AreNamed name h ts r (λ p. marked_in ws (commit_value p)) (state_with h ws vs bs ts) ps → AreNamed name h ts r (named_in name ws) (state_with h ws vs bs ts) ps
    by [] k g = tt
    by (p ∷ ps) k g = (ap (committed_for name r (state_with h ws vs bs ts)) (named_by_mark ws p k.0) ∙ g.0, by ps k.1 g.1)

  -- A commit's commands, where its parents were written with their files: they write what an export's do.
  pub commit_changes_replayed : (refs : Refs) (ws vs : List Value) (bs : Branches) (c : Commit) → HaveBlobs ws → AllByRecursion (λ p. IsIn ws (commit_value p)) (list_of (parents_of c))
      → Parts (base_files (list_of (parents_of c))) → T (is_content (files_of c))
      → steps name (state_with no_history ws vs bs []) (commit_with_changes name refs ws c) ≡ Ok (state_with no_history (with_commit ws c) (values_with_commit ws vs c) (committed_on (commit_ref refs c) c bs) [])
  commit_changes_replayed refs ws vs bs c h k old new =
      let xs = contents (own_files c) in
      let us = with_blobs ws xs in
      let ps = list_of (parents_of c) in
      let now = values_with_blobs ws vs xs in
      let r = commit_ref refs c in
      let on = begun_on r ps bs in
      let same = same_commit_blobs ws vs c h k in
      block_replayed name no_history [] r (named_in name us) (commit_changes us c) ws vs bs xs c (
        all_named no_history [] r us now on ps (all_still ws xs ps k),
        changes_replayed no_history [] us now on c old new (blobs_have ws xs),
      )
      ∙ (λ i. Ok (state_with no_history (commit_value c ∷ same.written i) (with_value (same.values i) (commit_value c)) (committed_on r c bs) []))

  -- and what was written is what an export writes
  pub same_written : (ws : List Value) (c : Commit) → HaveBlobs ws → AllByRecursion (λ p. IsIn ws (commit_value p)) (list_of (parents_of c)) → with_changes ws c ≡ with_commit ws c
  same_written ws c h k = ap (λ us. commit_value c ∷ us) (same_commit_blobs ws [] c h k).written
