-- Lengths and marks are below 2 ^ 64 where the length of the text of a range's export is.
use Rattle.std.proofs.Common.{◌+◌, ◌<◌, ◌≤◌, ◌^◌, Bool, List, [], ◌∷◌, ◌++◌, length, map, arith}
use Rattle.std.specs.Bool.{passes}
use Rattle.std.specs.List.{flat_map, fold, AllByRecursion}
use Rattle.std.specs.Prelude.{reverse, T}
use Rattle.gx_model.specs.declared.objects.Kind.{Kind}
use Rattle.gx_model.specs.Texts.{Bytes}
use Rattle.gx_model.specs.Histories.Values.{Commit, Value, commit_value, files_of, is_content, is_leaf, is_proper, is_proper_text, list_of, parents_of, text_of}
use Rattle.gx_model.specs.Histories.{History, IsHistory}
use Rattle.gx_model.specs.Revisions.Ranges.{Word, listing}
use Rattle.gx_model.specs.Export.{blob_commands, command_items, commit_on, contents, ref_by, reset_before, with_blobs}
use Rattle.gx_model.specs.Changes.{all_changes, carrier_reset, commit_changes, commit_ref, commit_with_changes, commits_with_changes, named_in, own_files, range_commands, range_text, sending_commands, set_refs, with_changes}
use Rattle.gx_model.specs.Laws.ExportLaws.{AreSayable, IsNotNull, IsReadableTarget}
use Rattle.gx_model.specs.Laws.RangeLaws.{IsReadableChange, IsReadableRange}
use Rattle.gx_model.proofs.Changes.ChangeSteps.{differs}
use Rattle.gx_model.proofs.Export.CommitSteps.{leaves_of}
use Rattle.gx_model.proofs.Records.LinkedValues.{proper_in}
use Rattle.gx_model.proofs.Texts.PathTests.{all_filter, first}
use Rattle.gx_model.proofs.Export.PublishedRefs.{Refs}
use Rattle.gx_model.proofs.Changes.ReadableChanges.{inner_count, inner_fits}
use Rattle.gx_model.proofs.Export.ReadableExports.{BlobsFit, CommandsFit, all_fit, all_text, blobs_count, blobs_fit, commands_left, commands_right, count_append, files_fit, fit_left, later_commit, message_in_fits, targets_fit}
use Rattle.gx_model.proofs.Changes.SpelledChanges.{all_left}
use Rattle.gx_model.proofs.Ranges.SpelledRanges.{each_one_of, sent_stands}

module _ (name : Kind → Bytes → Bytes) (refs : Refs) where
  -- what the commands of all commits tell by their lengths
  record AreRead (ws : List Value) (cs : List Commit) : Type 0 where
    pub commits : AllByRecursion IsReadableChange cs
    pub count : length (fold with_changes ws cs) ≤ length ws + length (flat_map command_items (commits_with_changes name refs ws cs))

  commits_read : (ws : List Value) (cs : List Commit) → AllByRecursion (λ c. T (is_proper (commit_value c))) cs → BlobsFit ws → AreSayable cs → CommandsFit (commits_with_changes name refs ws cs) → AreRead ws cs
  commits_read ws [] p t r g = record { commits = tt; count = omega arith }
  commits_read ws (c ∷ cs) p t r g =
      let xs = contents (own_files c) in
      let us = with_blobs ws xs in
      let on = commit_ref refs c in
      let ps = list_of (parents_of c) in
      let last = commit_on on (named_in name us) (commit_changes us c) us c in
      let one = commit_with_changes name refs ws c in
      let rest = commits_with_changes name refs (with_changes ws c) cs in
      let mine = commands_left one rest g in
      let blobs = blobs_fit ws xs t (commands_left (blob_commands ws xs) _ mine) in
      let own = commands_right (reset_before on ps) _ (commands_right (blob_commands ws xs) _ mine) in
      let leaves = all_filter (λ e. is_leaf e.1.0 e.1.1) (differs c) (files_of c) (leaves_of (files_of c) (first (is_content (files_of c)) (is_proper_text (text_of c)) p.0)) in
      let links = all_left (λ file. IsNotNull file.1.0 file.1.1) (differs c) (files_of c) r.0.files in
      let again = commits_read (with_changes ws c) cs p.1 (later_commit us c blobs.later) r.1 (commands_right one rest g) in
      let a = count_append one rest in
      let d = count_append (blob_commands ws xs) (reset_before on ps ++ (last ∷ [])) in
      let e = count_append (reset_before on ps) (last ∷ []) in
      let made : 1 ≤ length (flat_map command_items (last ∷ [])) = omega arith in
      record {
        commits = (record { headers = r.0.headers; message = message_in_fits on (named_in name us) (commit_changes us c) us c (fit_left (command_items last) [] own); files = files_fit (own_files c) leaves links blobs.now }, again.commits);
        count = omega (arith, a, d, e, made, blobs_count ws xs, again.count);
      }

module _ (name : Kind → Bytes → Bytes) (closed : Bool) (h : History) (words : List Word) (x : IsHistory h) where
  refs_read : (ws : List Value) (rs : Refs) → CommandsFit (map (ref_by (named_in name ws)) rs) → AllByRecursion (λ r. IsReadableTarget r.1) rs
  refs_read ws rs g = targets_fit (named_in name ws) rs g

  pub range_readable : AreSayable (reverse (listing h words)) → length (range_text name closed h words) < 2 ^ 64 → IsReadableRange h words
  range_readable r lt =
      let cs = reverse (listing h words) in
      let set = set_refs h words in
      let inner = sending_commands name cs set in
      let commits = commits_with_changes name set [] cs in
      let back = carrier_reset set cs ++ map (ref_by (named_in name (all_changes cs))) set in
      let items = flat_map command_items (range_commands name closed h words) in
      let g : CommandsFit (commits ++ back) = inner_fits name closed inner (all_fit items lt) in
      let proper = each_one_of (λ c. T (is_proper (commit_value c))) cs (λ c i. proper_in h.values (commit_value c) (passes _ x.proper) (sent_stands h x words c i)) in
      let read = commits_read name set [] cs proper (λ y i. absurd i) r (commands_left commits back g) in
      let m = all_text items in
      let a = inner_count name closed inner in
      let d = count_append commits back in
      record {
        commits = read.commits;
        refs = refs_read (all_changes cs) set (commands_right (carrier_reset set cs) _ (commands_right commits back g));
        marks = omega (arith, lt, m, a, d, read.count);
      }
