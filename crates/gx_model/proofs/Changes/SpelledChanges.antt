-- The commands of an export of changes can be spelled, and its text is imported.
use Rattle.std.proofs.Common.{◌≡◌, suc, ◌<◌, ◌^◌, Bool, true, false, cond, not, Some, List, [], ◌∷◌, ◌++◌, length, map, refl, sym, ap, subst, ◌∙◌, arith}
use Rattle.std.specs.Bool.{passes}
use Rattle.std.specs.FinMap.Entries.{find}
use Rattle.std.specs.List.{filter, flat_map, filter_map, fold, list_all, AllByRecursion}
use Rattle.std.specs.Ordering.{eq_by_cmp}
use Rattle.std.specs.Prelude.{T, is_some}
use Rattle.gx_model.specs.declared.objects.Kind.{Kind}
use Rattle.gx_model.specs.Texts.{Bytes, byte_cmp}
use Rattle.gx_model.specs.Texts.Paths.{Path, is_file_path}
use Rattle.gx_model.specs.Texts.RefNames.{is_ref_name}
use Rattle.gx_model.specs.Streams.Commands.{Change, Remove}
use Rattle.gx_model.specs.Streams.Grammar.{commands_of}
use Rattle.gx_model.specs.Histories.Files.{FileMap, Leaf, are_file_paths, file_at}
use Rattle.gx_model.specs.Histories.Values.{Commit, Value, blob_value, commit_of, commit_value, files_of, is_content, is_leaf, is_proper_text, list_of, parents_of, text_of}
use Rattle.gx_model.specs.Histories.{History, IsHistory, IsIn, no_history}
use Rattle.gx_model.specs.Replay.{finished, replayed, replayed_text, start}
use Rattle.gx_model.specs.Export.{all_written, blob_commands, command_items, contents, file_change, is_reached, marked_in, reached_commits, ref_command, reset_before, with_blobs, with_commit}
use Rattle.gx_model.specs.Changes.{base_files, changes_commands, changes_text, commit_changes, commit_ref, commit_with_changes, commits_with_changes, gone_paths, named_in, own_files, sending_commands, with_changes}
use Rattle.gx_model.specs.Laws.ExportLaws.{HoldsWhat, IsAgain, IsNamedCommit, IsReadable, IsReadableCommit, IsReadableFile, IsSpelledChange, values_with_commit}
use Rattle.gx_model.specs.Laws.ChangesLaws.{changes_report}
use Rattle.gx_model.proofs.Histories.AddedValues.{paths_of}
use Rattle.gx_model.proofs.Changes.ChangeReplays.{all_by_mark, all_changes_replayed, base_parts, goes_on_ref, IsFound, parents_written}
use Rattle.gx_model.proofs.Changes.ChangeSteps.{HaveBlobs, differs, have_blobs, named_by_mark, same_written}
use Rattle.gx_model.proofs.Streams.CommandEnds.{closed_read, closed_spelled}
use Rattle.gx_model.proofs.Export.CommitSteps.{all_still, blobs_have, leaves_of}
use Rattle.gx_model.proofs.Export.ExportSteps.{all_follow, none_held, peeled_ones, proper_refs}
use Rattle.gx_model.proofs.Histories.FileMapEdits.{Parts}
use Rattle.gx_model.proofs.Streams.ItemTexts.{items_read}
use Rattle.gx_model.proofs.Export.KeptCommits.{FollowsAll, commit_keeps}
use Rattle.gx_model.proofs.Texts.PathTests.{all_filter, first, is_true, second}
use Rattle.gx_model.proofs.Export.PublishedRefs.{Refs}
use Rattle.gx_model.proofs.Export.ReachedValues.{all_pass}
use Rattle.gx_model.proofs.Export.SpelledExports.{AreSpelled, all_marks, blobs_spelled, changes_spelled, commit_spelled, contents_fit, more_commits, refs_spelled, reset_spelled, spelled_append}
use Rattle.gx_model.proofs.Texts.TextMaps.{same_text, tied}

-- ---- the ref

-- what all names of refs pass is passed by one that is found
found_passes : (t : Bytes → Bool) (refs : Refs) (n : Bytes) → T (list_all (λ r. t r.0) refs) → IsFound refs n → T (t n)
found_passes t [] n h f = absurd f
found_passes t (x ∷ refs) n h f =
    elim (eq_by_cmp byte_cmp n x.0) as (λ b. eq_by_cmp byte_cmp n x.0 ≡ b → T (is_some (cond b (Some x.1) (find byte_cmp n refs))) → T (t n)) [
      | true ↦ λ e _. subst (λ m. T (t m)) (sym (same_text n x.0 (tied n x.0 e))) (first (t x.0) _ h)
      | false ↦ λ e k. found_passes t refs n (second (t x.0) _ h) k
    ] refl f

-- ---- the changes

pub all_left : (P : Path × Leaf Bytes → Type 0) (t : Path × Leaf Bytes → Bool) (f : FileMap Bytes) → AllByRecursion P f → AllByRecursion P (filter t f)
all_left P t [] h = tt
all_left P t (e ∷ f) h = elim (t e) as (λ b. AllByRecursion P (cond b (e ∷ filter t f) (filter t f))) [ true ↦ (h.0, all_left P t f h.1) | false ↦ all_left P t f h.1 ]

gone_spelled : (new old : FileMap Bytes) → T (are_file_paths old) → AllByRecursion IsSpelledChange (map Remove (gone_paths old new))
gone_spelled new [] h = tt
gone_spelled new (e ∷ old) h =
    let rest = gone_spelled new old (second (is_file_path e.0) _ h) in
    let left = filter (λ f. not (is_some (file_at new f.0))) old in
    elim (is_some (file_at new e.0)) as (λ b. AllByRecursion IsSpelledChange (map Remove (map (λ f. f.0) (cond (not b) (e ∷ left) left)))) [ true ↦ rest | false ↦ (is_true _ (first (is_file_path e.0) _ h), rest) ]

all_append : (xs ys : List Change) → AllByRecursion IsSpelledChange xs → AllByRecursion IsSpelledChange ys → AllByRecursion IsSpelledChange (xs ++ ys)
all_append [] ys h k = k
all_append (x ∷ xs) ys h k = (h.0, all_append xs ys h.1 k)

-- the changes of a commit, where its own files can be read and their bytes were written
pub own_spelled : (ws : List Value) (c : Commit) → length ws < 2 ^ 64 → Parts (base_files (list_of (parents_of c))) → T (is_content (files_of c)) → AllByRecursion IsReadableFile (own_files c) → AllByRecursion (λ y. IsIn ws (blob_value y)) (contents (own_files c))
    → AllByRecursion IsSpelledChange (commit_changes ws c)
own_spelled ws c lt old new read written =
    let base = base_files (list_of (parents_of c)) in
    all_append (map Remove (gone_paths base (files_of c))) (map (file_change ws) (own_files c)) (gone_spelled (files_of c) base old.paths)
    (changes_spelled ws (own_files c) lt (all_filter (λ e. is_file_path e.0) (differs c) (files_of c) (paths_of (files_of c) new)) (all_filter (λ e. is_leaf e.1.0 e.1.1) (differs c) (files_of c) (leaves_of (files_of c) new)) read written)

module _ (name : Kind → Bytes → Bytes) where
  all_named : (ws : List Value) (ps : List Commit) → length ws < 2 ^ 64 → AllByRecursion (λ p. IsIn ws (commit_value p)) ps → AllByRecursion (λ p. IsNamedCommit (named_in name ws p)) ps
  all_named ws ps lt k = by ps k (all_marks ws ps lt k) where
    by : (ps : List Commit) → AllByRecursion (λ p. IsIn ws (commit_value p)) ps → AllByRecursion (λ p. IsNamedCommit (marked_in ws (commit_value p))) ps → AllByRecursion (λ p. IsNamedCommit (named_in name ws p)) ps
    by [] k g = tt
    by (p ∷ ps) k g = (subst IsNamedCommit (sym (named_by_mark name ws p k.0)) g.0, by ps k.1 g.1)

  commits_spelled : (refs : Refs) → T (list_all (λ r. is_ref_name r.0) refs) → (ws vs : List Value) (before cs : List Commit) → HoldsWhat ws vs before → FollowsAll before cs → HaveBlobs ws → T (list_all (is_reached refs) cs)
      → AllByRecursion IsReadableCommit cs → length (fold with_commit ws cs) < 2 ^ 64 → AreSpelled (commits_with_changes name refs ws cs)
  commits_spelled refs n ws vs before [] h f b g r lt = tt
  commits_spelled refs n ws vs before (c ∷ cs) h f b g r lt =
      let k = parents_written ws vs before c h f.1 in
      let same = same_written name ws c b k in
      let xs = contents (own_files c) in
      let us = with_blobs ws xs in
      let ps = list_of (parents_of c) in
      let content = first (is_content (files_of c)) (is_proper_text (text_of c)) (passes _ f.0) in
      let text = second (is_content (files_of c)) (is_proper_text (text_of c)) (passes _ f.0) in
      let long : suc (length us) ≡ length (with_commit ws c) = ap length same in
      let fits : suc (length us) < 2 ^ 64 = omega (arith, long, more_commits (with_commit ws c) cs) in
      let on = commit_ref refs c in
      let ref = is_true _ (found_passes is_ref_name refs on n (goes_on_ref refs c (first (is_reached refs c) _ g))) in
      let read = all_left IsReadableFile (differs c) (files_of c) r.0.files in
      let rest = commits_spelled refs n (with_commit ws c) (values_with_commit ws vs c) (before ++ c ∷ []) cs (commit_keeps ws vs before c h f.0 f.1 f.2) f.3 (have_blobs ws c b) (second (is_reached refs c) _ g) r.1 lt in
      spelled_append (commit_with_changes name refs ws c) (commits_with_changes name refs (with_changes ws c) cs)
      (spelled_append (blob_commands ws xs) _ (blobs_spelled ws xs (contents_fit (own_files c) read) (omega arith))
      (spelled_append (reset_before on ps) _ (reset_spelled on ps ref) (
        commit_spelled on (named_in name us) (commit_changes us c) us c ref fits r.0.message text r.0.headers (all_named us ps (omega arith) (all_still ws xs ps k))
            (own_spelled us c (omega arith) (base_parts ws vs before c h f.1) content read (blobs_have ws xs)),
        tt,
      )))
      (subst (λ ws. AreSpelled (commits_with_changes name refs ws cs)) (sym same) rest)

  pub all_changes_spelled : (h : History) → IsHistory h → IsReadable h → AreSpelled (sending_commands name (reached_commits h) h.refs)
  all_changes_spelled h x r =
      let cs = reached_commits h in
      let commits = commits_spelled h.refs (passes _ x.ref_names) [] [] [] cs none_held (all_follow h x) (λ p i. absurd i) (all_pass (is_reached h.refs) (filter_map commit_of h.values)) r.commits r.marks in
      let refs = refs_spelled (all_written cs) h.refs r.marks (peeled_ones h x) (passes _ x.ref_names) (proper_refs h x) r.refs in
      subst AreSpelled (sym (all_by_mark name h x)) (spelled_append (commits_with_changes name h.refs [] cs) (map (ref_command (all_written cs)) h.refs) commits refs)

  -- ---- the import

  pub changes_imported : (closed : Bool) (h : History) → IsHistory h → IsReadable h → (k : History) × IsAgain h k × (replayed_text name no_history (changes_text name closed h) false ≡ finished k [] (changes_report name closed h k))
  changes_imported closed h x r =
      let inner = sending_commands name (reached_commits h) h.refs in
      let s = all_changes_spelled h x r in
      let items = items_read (flat_map command_items (changes_commands name closed h)) (closed_spelled closed inner s) in
      let commands = ap commands_of items ∙ closed_read closed inner s in
      let again = all_changes_replayed name closed h x in
      (again.0, again.1, ap (λ cs. replayed name 0 (start no_history) cs.list cs.fault) commands ∙ again.2)
