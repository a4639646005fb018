-- Lengths and marks are below 2 ^ 64 where the length of the text of an export of changes is.
use Rattle.std.proofs.Common.{◌≡◌, suc, ◌+◌, ◌<◌, ◌≤◌, ◌^◌, Bool, true, false, List, [], ◌∷◌, ◌++◌, length, map, refl, ap, subst, arith, inl}
use Rattle.std.specs.Bool.{passes}
use Rattle.std.specs.List.{flat_map, fold, AllByRecursion}
use Rattle.gx_model.specs.declared.objects.Kind.{Kind}
use Rattle.gx_model.specs.Texts.{Bytes}
use Rattle.gx_model.specs.Streams.Commands.{Command}
use Rattle.gx_model.specs.Streams.Commands as command
use Rattle.gx_model.specs.Histories.Values.{Commit, Value, blob_value, files_of, is_content, is_proper_text, list_of, parents_of, text_of}
use Rattle.gx_model.specs.Histories.{History, IsHistory, IsIn}
use Rattle.gx_model.specs.Export.{all_written, blob_commands, command_items, commit_on, contents, reached_commits, ref_command, reset_before, with_blobs, with_commit}
use Rattle.gx_model.specs.Changes.{changes_commands, changes_text, closed_by, commit_changes, commit_ref, commit_with_changes, commits_with_changes, named_in, own_files, sending_commands, with_changes}
use Rattle.gx_model.specs.Laws.ExportLaws.{AreSayable, HasSayable, HoldsWhat, IsReadable, IsReadableCommit, values_with_commit}
use Rattle.gx_model.proofs.Changes.ChangeReplays.{all_by_mark, parents_written}
use Rattle.gx_model.proofs.Changes.ChangeSteps.{HaveBlobs, have_blobs, same_written}
use Rattle.gx_model.proofs.Export.CommitSteps.{leaves_of}
use Rattle.gx_model.proofs.Export.ExportSteps.{all_follow, none_held}
use Rattle.gx_model.proofs.Export.KeptCommits.{FollowsAll, commit_keeps}
use Rattle.gx_model.proofs.Texts.PathTests.{first}
use Rattle.gx_model.proofs.Export.PublishedRefs.{Refs}
use Rattle.gx_model.proofs.Export.ReadableExports.{BlobsFit, CommandsFit, all_fit, all_text, blobs_count, blobs_fit, commands_left, commands_right, count_append, files_fit, fit_left, later_commit, message_in_fits, refs_fit}

-- the blobs of these bytes were written, and fit
pub all_in_fit : (ws : List Value) (xs : List Bytes) → BlobsFit ws → AllByRecursion (λ x. IsIn ws (blob_value x)) xs → AllByRecursion (λ x. length x < 2 ^ 64) xs
all_in_fit ws [] h k = tt
all_in_fit ws (x ∷ xs) h k = (h x k.0, all_in_fit ws xs h k.1)

module _ (name : Kind → Bytes → Bytes) (refs : Refs) where
  -- what the commands of all commits tell by their lengths
  record AreRead (ws : List Value) (cs : List Commit) : Type 0 where
    pub commits : AllByRecursion IsReadableCommit cs
    pub count : length (fold with_commit ws cs) ≤ length ws + length (flat_map command_items (commits_with_changes name refs ws cs))

  commits_read : (ws vs : List Value) (before cs : List Commit) → HoldsWhat ws vs before → FollowsAll before cs → HaveBlobs ws → BlobsFit ws → AreSayable cs → CommandsFit (commits_with_changes name refs ws cs) → AreRead ws cs
  commits_read ws vs before [] h f b t r g = record { commits = tt; count = omega arith }
  commits_read ws vs before (c ∷ cs) h f b t r g =
      let xs = contents (own_files c) in
      let us = with_blobs ws xs in
      let k = parents_written ws vs before c h f.1 in
      let same = same_written name ws c b k in
      let on = commit_ref refs c in
      let ps = list_of (parents_of c) in
      let last = commit_on on (named_in name us) (commit_changes us c) us c in
      let one = commit_with_changes name refs ws c in
      let rest = commits_with_changes name refs (with_changes ws c) cs in
      let mine = commands_left one rest g in
      let blobs = blobs_fit ws xs t (commands_left (blob_commands ws xs) _ mine) in
      let own = commands_right (reset_before on ps) _ (commands_right (blob_commands ws xs) _ mine) in
      let fits : BlobsFit (with_commit ws c) = subst BlobsFit same (later_commit us c blobs.later) in
      let all = all_in_fit (with_commit ws c) (contents (files_of c)) fits (have_blobs ws c b c (inl refl)) in
      let later = subst (λ ws. CommandsFit (commits_with_changes name refs ws cs)) same (commands_right one rest g) in
      let again = commits_read (with_commit ws c) (values_with_commit ws vs c) (before ++ c ∷ []) cs (commit_keeps ws vs before c h f.0 f.1 f.2) f.3 (have_blobs ws c b) fits r.1 later in
      let counted = ap (λ ws. length (flat_map command_items (commits_with_changes name refs ws cs))) same in
      let a = count_append one rest in
      let d = count_append (blob_commands ws xs) (reset_before on ps ++ (last ∷ [])) in
      let e = count_append (reset_before on ps) (last ∷ []) in
      let made : 1 ≤ length (flat_map command_items (last ∷ [])) = omega arith in
      let long : suc (length us) ≡ length (with_commit ws c) = ap length same in
      record {
        commits = (
          record {
            headers = r.0.headers;
            message = message_in_fits on (named_in name us) (commit_changes us c) us c (fit_left (command_items last) [] own);
            files = files_fit (files_of c) (leaves_of (files_of c) (first (is_content (files_of c)) (is_proper_text (text_of c)) (passes _ f.0))) r.0.files all;
          },
          again.commits,
        );
        count = omega (arith, a, d, e, made, long, counted, blobs_count ws xs, again.count);
      }

module _ (name : Kind → Bytes → Bytes) where
  pub inner_fits : (closed : Bool) (cs : List Command) → CommandsFit (closed_by closed cs) → CommandsFit cs
  inner_fits true cs g = commands_left cs (command.Done ∷ []) g.1
  inner_fits false cs g = g

  pub inner_count : (closed : Bool) (cs : List Command) → length (flat_map command_items cs) ≤ length (flat_map command_items (closed_by closed cs))
  inner_count true cs = omega (arith, count_append cs (command.Done ∷ []))
  inner_count false cs = omega arith

  pub changes_readable : (closed : Bool) (h : History) → IsHistory h → HasSayable h → length (changes_text name closed h) < 2 ^ 64 → IsReadable h
  changes_readable closed h x r lt =
      let cs = reached_commits h in
      let inner = sending_commands name cs h.refs in
      let commits = commits_with_changes name h.refs [] cs in
      let refs = map (ref_command (all_written cs)) h.refs in
      let items = flat_map command_items (changes_commands name closed h) in
      let marks = all_by_mark name h x in
      let g : CommandsFit (commits ++ refs) = subst CommandsFit marks (inner_fits closed inner (all_fit items lt)) in
      let read = commits_read name h.refs [] [] [] cs none_held (all_follow h x) (λ p i. absurd i) (λ y i. absurd i) r (commands_left commits refs g) in
      let n = all_text items in
      let a = inner_count closed inner in
      let b = ap (λ cs. length (flat_map command_items cs)) marks in
      let d = count_append commits refs in
      record {
        commits = read.commits;
        refs = refs_fit (all_written cs) h.refs (commands_right commits refs g);
        marks = omega (arith, lt, n, a, b, d, read.count);
      }
