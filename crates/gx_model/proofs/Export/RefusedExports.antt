-- An export with a gitlink of forty zeros is refused where it is imported.
use Rattle.std.proofs.Common.{◌≡◌, ℕ, suc, ◌+◌, ◌<◌, ◌^◌, true, false, cond, Option, Some, None, Result, Ok, Err, List, [], ◌∷◌, ◌++◌, length, map, codes, refl, sym, ap, subst, ◌∙◌, arith, append_assoc, inl, inr}
use Rattle.std.specs.Prelude.{T, ◌⊎◌}
use Rattle.std.specs.Bool.{passes}
use Rattle.std.specs.List.{AllByRecursion, flat_map, fold, take_while}
use Rattle.std.proofs.lemmas.Grind.{flat_map-append}
use Rattle.gx_model.specs.declared.faults.Fault.{Fault}
use Rattle.gx_model.specs.declared.faults.Fault.TheVariants as faults
use Rattle.gx_model.specs.declared.features.Feature.TheVariants as features
use Rattle.gx_model.specs.declared.objects.Kind.{Kind}
use Rattle.gx_model.specs.declared.objects.Mode.TheVariants.{Gitlink}
use Rattle.gx_model.specs.Texts.{Bytes}
use Rattle.gx_model.specs.Faults.{◌>>=◌}
use Rattle.gx_model.specs.Texts.Paths.{is_file_path}
use Rattle.gx_model.specs.Histories.Files.{FileMap, are_file_paths}
use Rattle.gx_model.specs.Histories.Values.{Commit, IsEncodingAlone, Value, blob_value, commit_value, files_of, is_content, is_leaf, is_proper, is_proper_text, list_of, parents_of, text_of}
use Rattle.gx_model.specs.Histories.{History, IsHistory, IsIn, Target, no_history}
use Rattle.gx_model.specs.Streams.Items.{Finished, Item, Line, items_of}
use Rattle.gx_model.specs.Streams.Commands as command
use Rattle.gx_model.specs.Streams.Commands.{Command}
use Rattle.gx_model.specs.Streams.Grammar.{commands_of, commands_within, stops}
use Rattle.gx_model.specs.Export.{all_written, blob_commands, command_items, commit_command, commit_commands, contents, export_commands, export_text, file_change, inner_commands, item_text, last_reset, reached_commits, ref_command, root_reset, with_blobs, with_commit}
use Rattle.gx_model.specs.Laws.ExportLaws.{AnyReaches, AreSayable, carried, exported_report, HaveEncodingsAlone, HaveNoNullGitlink, IsSpelledChange, IsSpelledCommit, between, state_at, steps, values_with_blobs}
use Rattle.gx_model.specs.Streams.Gitlinks.{CommandsBeforeNullAreReplayed, NullGitlinksAreRefused, NullGitlinksEndCommands}
use Rattle.gx_model.specs.Replay.{Outcome, Report, State, final, finished, is_fast_forward, report, refused, replayed, replayed_text, start, step}
use Rattle.gx_model.proofs.Texts.PathTests.{first, is_true, second}
use Rattle.gx_model.proofs.Histories.FileMapEdits.{parts_of}
use Rattle.gx_model.proofs.Export.KeptCommits.{FollowsAll, any_last, any_left, blob_reached, blobs_only}
use Rattle.gx_model.proofs.Streams.ItemTexts.{items_read}
use Rattle.gx_model.proofs.Streams.ChangeItems.{stream}
use Rattle.gx_model.proofs.Export.CommitSteps.{all_at, are_leaves, blobs_have, blobs_replayed, front_of, leaves_of, map_of, rest_of, steps-append}
use Rattle.gx_model.proofs.Export.ExportSteps.{all_follow, all_forward, all_replayed, commits_keep, commits_replayed, last_carried, export_replayed, none_held, peeled_ones, reach_held, values_after}
use Rattle.gx_model.proofs.ObjectTexts.OneTree.{all_left, all_right}
use Rattle.gx_model.proofs.Export.ReadableExports.{CommandsFit, commands_left, commits_fit}
use Rattle.gx_model.proofs.Export.SpelledExports.{AreSpelled, blobs_spelled, commits_spelled, dataref_spelled, more_blobs, more_commits, root_spelled, spelled_append}
use Rattle.gx_model.proofs.Replay.NullGitlinks.{AreNotNull, all_join}
use Rattle.gx_model.proofs.Export.BeforeNulls.{AllPass, clean_blobs, clean_commits, clean_export, clean_root, is_brought, is_clean, taken_all, taken_until}
use Rattle.gx_model.proofs.Export.FirstNulls.{FirstFile, FirstCommit, first_commit, follows_left, follows_right, commands_split, fold_split}
use Rattle.gx_model.proofs.Export.ExportItems.{commit_with, spelled_with, IsFitting, parents_written, AreExported, commits_lengths, marks_fit, fitting, export_is_items}
use Rattle.gx_model.proofs.Export.RefusedCommits.{commit_refused, starts_commit, some_lines, read_refused}

-- ---- what is replayed of it

abbrev after_root : Option (Option Commit) → List Commit → Option (Option Commit)
after_root b [] = Some None
after_root b (p ∷ ps) = b

-- the state behind some commits, and the blobs of the next one
abbrev front_state : List Commit → List Bytes → List Commit → State
front_state before xs ps =
    let ws = fold with_commit [] before in
    state_at (with_blobs ws xs) (values_with_blobs ws (values_after [] [] before) xs) (after_root (last_carried None before) ps)

abbrev okay : State → Result State Fault
okay s = Ok s

same_ok : (s t : State) → okay s ≡ okay t → s ≡ t
same_ok s t e = cc

module _ (name : Kind → Bytes → Bytes) where
  root_replayed : (ws vs : List Value) (b : Option (Option Commit)) (ps : List Commit) → steps name (state_at ws vs b) (root_reset ps) ≡ Ok (state_at ws vs (after_root b ps))
  root_replayed ws vs None [] = refl
  root_replayed ws vs (Some x) [] = refl
  root_replayed ws vs b (p ∷ ps) = refl

  -- the commands up to the commit that is refused
  front_replayed : (before : List Commit) (xs : List Bytes) (ps : List Commit) → FollowsAll [] before
      → steps name (state_at [] [] None) (commit_commands [] before ++ (blob_commands (fold with_commit [] before) xs ++ root_reset ps)) ≡ Ok (front_state before xs ps)
  front_replayed before xs ps f =
      let ws = fold with_commit [] before in
      let vs = values_after [] [] before in
      let b = last_carried None before in
      let rest = blob_commands ws xs ++ root_reset ps in
      steps-append name (state_at [] [] None) (commit_commands [] before) rest
      ∙ ap (λ r. r >>= λ u. steps name u rest) (commits_replayed name [] [] None [] before none_held f)
      ∙ steps-append name (state_at ws vs b) (blob_commands ws xs) (root_reset ps)
      ∙ ap (λ r. r >>= λ u. steps name u (root_reset ps)) (blobs_replayed name no_history [] ws vs (carried b) xs)
      ∙ root_replayed (with_blobs ws xs) (values_with_blobs ws vs xs) b ps

  -- a fault behind commands that are replayed
  then_refused : (n : ℕ) (s t : State) (cs : List Command) (f : Fault) → steps name s cs ≡ Ok t → replayed name n s cs (Some f) ≡ refused (n + length cs + 1) f t.progress t.kept
  then_refused n s t [] f e =
      let k : n + 1 ≡ n + 0 + 1 = omega arith in
      ap (λ (u : State). refused (n + 1) f u.progress u.kept) (same_ok s t e) ∙ ap (λ m. refused m f t.progress t.kept) k
  then_refused n s t (c ∷ cs) f e = by (step name s c) (λ u. then_refused (n + 1) u t cs f) e
    where
      by : (r : Result State Fault) → ((u : State) → steps name u cs ≡ Ok t → replayed name (n + 1) u cs (Some f) ≡ refused (n + 1 + length cs + 1) f t.progress t.kept) → (r >>= λ u. steps name u cs) ≡ Ok t
          → elim r as (λ x. Outcome) [ Ok u ↦ replayed name (n + 1) u cs (Some f) | Err g ↦ refused (n + 1) g s.progress s.kept ] ≡ refused (n + suc (length cs) + 1) f t.progress t.kept
      by (Ok u) again q = let k : n + 1 + length cs + 1 ≡ n + suc (length cs) + 1 = omega arith in again u q ∙ ap (λ m. refused m f t.progress t.kept) k
      by (Err g) again q = absurd cc

-- ---- the whole

-- commits without a gitlink of forty zeros, and without headers but those of encodings
all_sayable : (cs : List Commit) → HaveNoNullGitlink cs → HaveEncodingsAlone cs → AreSayable cs
all_sayable [] h k = tt
all_sayable (c ∷ cs) h k = (record { files = h.0; headers = k.0 }, all_sayable cs h.1 k.1)

-- the files before the first gitlink of forty zeros can be spelled
good_spelled : (ws : List Value) (good es : FileMap Bytes) → length ws < 2 ^ 64 → T (are_file_paths (good ++ es)) → T (are_leaves (good ++ es)) → AreNotNull good → AllByRecursion (λ y. IsIn ws (blob_value y)) (contents (good ++ es))
    → AllByRecursion IsSpelledChange (map (file_change ws) good)
good_spelled ws [] es lt t l n h = tt
good_spelled ws ((p, (m, x)) ∷ good) es lt t l n h = (
  (dataref_spelled ws m x lt (first (is_leaf m x) _ l) n.0 (front_of (λ y. IsIn ws (blob_value y)) _ (contents (good ++ es)) h), is_true _ (first (is_file_path p) _ t)),
  good_spelled ws good es lt (second (is_file_path p) _ t) (second (is_leaf m x) _ l) n.1 (rest_of (λ y. IsIn ws (blob_value y)) _ (contents (good ++ es)) h),
)

-- the commands of an export, up to the command of one commit and from there on
regroup : (commits blobs root : List Command) (own : Command) (later refs : List Command) → (commits ++ ((blobs ++ (root ++ own ∷ [])) ++ later)) ++ refs ≡ (commits ++ (blobs ++ root)) ++ own ∷ (later ++ refs)
regroup commits blobs root own later refs = simp append_assoc

-- the commands of an export of commits and refs, before the first that brings a gitlink of forty zeros
abbrev before_null : List Commit → List (Bytes × Target) → List Command
before_null cs refs = take_while is_clean (between (inner_commands cs refs))

-- the text of such an export
abbrev text_with : List Commit → List (Bytes × Target) → Bytes
text_with cs refs = flat_map item_text (flat_map command_items (between (inner_commands cs refs)))

-- what is read of it
abbrev ReadsBefore : List Commit → List (Bytes × Target) → Type 0
ReadsBefore cs refs = commands_of (items_of (text_with cs refs) false) ≡ record { list = before_null cs refs; fault = Some faults.Unsupported }

-- and its import
abbrev IsRefusedAt : (Kind → Bytes → Bytes) → List Commit → List (Bytes × Target) → Type 0
IsRefusedAt name cs refs = replayed_text name no_history (text_with cs refs) false ≡ refused (length (before_null cs refs) + 1) faults.Unsupported [] (start no_history).kept

-- commands that are replayed from nothing, and make no other values than a history has
abbrev IsReplayedWithin : History → (Kind → Bytes → Bytes) → List Command → Type 0
IsReplayedWithin h name cs =
    (k : History) × (report : Report) × ((u : Value) → IsIn k.values u → IsIn h.values u) × (replayed name 0 (start no_history) cs None ≡ finished k [] report)

module _ (h : History) (is : IsHistory h) (before : List Commit) (bad : Commit) (after : List Commit) (file : FirstFile (files_of bad)) (clean : HaveNoNullGitlink before) (follows : FollowsAll [] (before ++ bad ∷ after)) where
  abbrev all : List Commit
  all = before ++ bad ∷ after

  abbrev written : List Value
  written = fold with_commit [] before

  abbrev with_own : List Value
  with_own = with_blobs written (contents (files_of bad))

  abbrev front : List Command
  front = commit_commands [] before ++ (blob_commands written (contents (files_of bad)) ++ root_reset (list_of (parents_of bad)))

  abbrev back : List Command
  back = commit_commands (with_commit written bad) after ++ (last_reset all ++ map (ref_command (all_written all)) h.refs)

  follows_before : FollowsAll [] before
  follows_before = follows_left [] before (bad ∷ after) follows

  follows_bad : FollowsAll before (bad ∷ after)
  follows_bad = follows_right [] before (bad ∷ after) follows

  inner_split : inner_commands all h.refs ≡ front ++ commit_command with_own bad ∷ back
  inner_split =
      let refs = last_reset all ++ map (ref_command (all_written all)) h.refs in
      ap (λ t. t ++ refs) (commands_split [] before (bad ∷ after))
      ∙ regroup (commit_commands [] before) (blob_commands written (contents (files_of bad))) (root_reset (list_of (parents_of bad))) (commit_command with_own bad) (commit_commands (with_commit written bad) after) refs

  own_brings : is_clean (commit_command with_own bad) ≡ false
  own_brings = is_brought with_own bad file.good file.path file.digits file.rest file.are file.null

  front_clean : AllPass is_clean front
  front_clean =
      all_join (λ x. is_clean x ≡ true) (commit_commands [] before) _ (clean_commits [] before clean)
      (all_join (λ x. is_clean x ≡ true) (blob_commands written (contents (files_of bad))) _ (clean_blobs written (contents (files_of bad))) (clean_root (list_of (parents_of bad))))

  -- the commands before the one that brings it
  before_is : before_null all h.refs ≡ command.Asks features.Done ∷ front
  before_is =
      let done : List Command = command.Done ∷ [] in
      let asks : Command = command.Asks features.Done in
      ap (λ cs. take_while is_clean (asks ∷ (cs ++ done))) inner_split
      ∙ ap (λ cs. take_while is_clean (asks ∷ cs)) (append_assoc front (commit_command with_own bad ∷ back) done)
      ∙ taken_until is_clean (asks ∷ front) (commit_command with_own bad) (back ++ done) (refl, front_clean) own_brings

  -- what they make stands in the history
  front_held : reached_commits h ≡ all → (u : Value) → IsIn (values_with_blobs written (values_after [] [] before) (contents (files_of bad))) u → IsIn h.values u
  front_held e u i =
      let held = commits_keep [] [] [] before none_held follows_before in
      let r : AnyReaches (map commit_value all) u = elim (blobs_only written (values_after [] [] before) (contents (files_of bad)) u i) as (λ _. AnyReaches (map commit_value all) u) [
        | inl k ↦ any_left before (bad ∷ after) u (held.only u k)
        | inr k ↦ subst (λ cs. AnyReaches (map commit_value cs) u) (append_assoc before (bad ∷ []) after) (any_left (before ++ bad ∷ []) after u (any_last before bad u (blob_reached bad u k)))
      ] in
      reach_held h is u (subst (λ cs. AnyReaches (map commit_value cs) u) (sym e) r)

  front_finished : reached_commits h ≡ all → (name : Kind → Bytes → Bytes) → IsReplayedWithin h name (before_null all h.refs)
  front_finished e name =
      let xs = contents (files_of bad) in
      let t = front_state before xs (list_of (parents_of bad)) in
      let n = 0 + length (command.Asks features.Done ∷ front) in
      let ran = front_replayed name before xs (list_of (parents_of bad)) follows_before in
      let forward : is_fast_forward t ≡ true = all_forward t.history.values t.branches in (
        final t,
        report n t,
        front_held e,
        ap (λ cs. replayed name 0 (start no_history) cs None) before_is
            ∙ all_replayed name 0 (start no_history) t (command.Asks features.Done ∷ front) ran
            ∙ ap (λ b. cond b (finished (final t) [] (report n t)) (refused (n + 1) faults.NotFastForward [] t.kept)) forward,
      )

  module _ (known : AreExported h all) where
    abbrev bad_items : List Item
    bad_items = command_items (commit_command with_own bad) ++ flat_map command_items (back ++ command.Done ∷ [])

    marks_bad : suc (length with_own) < 2 ^ 64
    marks_bad = omega (arith, marks_fit h is all known, ap length (fold_split [] before (bad ∷ after)), more_commits (with_commit written bad) after)

    own_fits : IsFitting bad
    own_fits = (all_right IsFitting before (bad ∷ after) (fitting h is all known)).0

    front_spelled : AreSpelled front
    front_spelled =
        let xs = contents (files_of bad) in
        let fit = commands_left (commit_commands [] before) _ (subst CommandsFit (commands_split [] before (bad ∷ after)) (commits_lengths h is all known)) in
        let readable = commits_fit [] [] before (λ y i. absurd i) follows_before (all_sayable before clean (all_left (λ made. IsEncodingAlone (text_of made).headers) before (bad ∷ after) known.alone)) fit in
        spelled_append (commit_commands [] before) _ (commits_spelled [] [] before tt follows_before readable (omega (arith, marks_bad, more_blobs written xs)))
        (spelled_append (blob_commands written xs) _ (blobs_spelled written xs own_fits.contents (omega (arith, marks_bad))) (root_spelled (list_of (parents_of bad))))

    bad_is_proper : T (is_proper (commit_value bad))
    bad_is_proper = passes _ follows_bad.0

    bad_content : T (is_content (files_of bad))
    bad_content = first (is_content (files_of bad)) (is_proper_text (text_of bad)) bad_is_proper

    bad_leaves : T (are_leaves (file.good ++ (file.path, (Gitlink, file.digits)) ∷ file.rest))
    bad_leaves = subst (λ f. T (are_leaves f)) file.are (leaves_of (files_of bad) bad_content)

    good_is_spelled : IsSpelledCommit (commit_with with_own bad file.good)
    good_is_spelled =
        let parents = parents_written written before bad (commits_keep [] [] [] before none_held follows_before).commits follows_bad.1 in
        let paths = subst (λ f. T (are_file_paths f)) file.are (parts_of (files_of bad) (map_of (files_of bad) bad_content)).paths in
        let bytes = subst (λ f. AllByRecursion (λ y. IsIn with_own (blob_value y)) (contents f)) file.are (blobs_have written (contents (files_of bad))) in
        spelled_with with_own bad file.good marks_bad own_fits.message bad_is_proper (all_right (λ made. IsEncodingAlone (text_of made).headers) before (bad ∷ after) known.alone).0 parents
        (good_spelled with_own file.good ((file.path, (Gitlink, file.digits)) ∷ file.rest) (omega (arith, marks_bad)) paths bad_leaves file.not_null bytes)

    bad_fails : (n : ℕ) (earlier : List Command) → commands_within (suc n) earlier bad_items Finished ≡ stops (Some faults.Unsupported)
    bad_fails n earlier =
        let rest = flat_map command_items (back ++ command.Done ∷ []) in
        let named = is_true _ (all_at (λ e. is_leaf e.1.0 e.1.1) file.good (file.path, (Gitlink, file.digits)) file.rest bad_leaves) in
        subst (λ f. commands_within (suc n) earlier (command_items (command.Commit (commit_with with_own bad f)) ++ rest) Finished ≡ stops (Some faults.Unsupported)) (sym file.are)
        (commit_refused with_own bad file.good file.path file.digits file.rest rest good_is_spelled named file.null n earlier)

    items_split : flat_map command_items (between (inner_commands all h.refs)) ≡ Line (codes "feature done") ∷ (flat_map command_items front ++ bad_items)
    items_split =
        let done : List Command = command.Done ∷ [] in
        ap (λ is. Line (codes "feature done") ∷ is)
        (ap (λ cs. flat_map command_items (cs ++ done)) inner_split
        ∙ ap (flat_map command_items) (append_assoc front (commit_command with_own bad ∷ back) done)
        ∙ flat_map-append command_items front (commit_command with_own bad ∷ (back ++ done)))

    commands_are : commands_of (items_of (flat_map item_text (flat_map command_items (between (inner_commands all h.refs)))) false) ≡ record { list = command.Asks features.Done ∷ front; fault = Some faults.Unsupported }
    commands_are =
        let rest = flat_map command_items (back ++ command.Done ∷ []) in
        ap commands_of (items_read (flat_map command_items (between (inner_commands all h.refs))) (export_is_items h is all known))
        ∙ ap (λ is. commands_of (stream is)) items_split
        ∙ read_refused bad_items bad_fails (starts_commit (commit_with with_own bad (files_of bad)) rest) front front_spelled (some_lines (commit_with with_own bad (files_of bad)) rest)

    commands_before : ReadsBefore all h.refs
    commands_before = commands_are ∙ ap (λ cs. record { list = cs; fault = Some faults.Unsupported }) (sym before_is)

    import_refused : (name : Kind → Bytes → Bytes) → IsRefusedAt name all h.refs
    import_refused name =
        let t = front_state before (contents (files_of bad)) (list_of (parents_of bad)) in
        let ran = front_replayed name before (contents (files_of bad)) (list_of (parents_of bad)) follows_before in
        let number : 0 + length (command.Asks features.Done ∷ front) + 1 ≡ length (before_null all h.refs) + 1 = omega (arith, ap length before_is) in
        ap (λ cs. replayed name 0 (start no_history) cs.list cs.fault) commands_are
        ∙ then_refused name 0 (start no_history) t (command.Asks features.Done ∷ front) faults.Unsupported ran
        ∙ ap (λ m. refused m faults.Unsupported [] (start no_history).kept) number

-- ---- the laws

-- what holds of the commits that refs reach, told by what they are
at_commits : (h : History) (P : List Commit → Type 0) (cs : List Commit) → reached_commits h ≡ cs → P cs → P (reached_commits h)
at_commits h P cs e k = subst P (sym e) k

exported : (h : History) → IsHistory h → HaveEncodingsAlone (reached_commits h) → length (export_text h) < 2 ^ 64 → AreExported h (reached_commits h)
exported h is alone short = record { follows = all_follow h is; peeled = peeled_ones h is; alone = alone; fits = short }

pub nulls_end : NullGitlinksEndCommands
nulls_end h is some alone short = by (first_commit (reached_commits h))
  where
    by : HaveNoNullGitlink (reached_commits h) ⊎ FirstCommit (reached_commits h) → ReadsBefore (reached_commits h) h.refs
    by (inl none) = absurd (some none)
    by (inr r) =
        let known = subst (AreExported h) r.are (exported h is alone short) in
        at_commits h (λ cs. ReadsBefore cs h.refs) (r.before ++ r.bad ∷ r.after) r.are
        (commands_before h is r.before r.bad r.after r.file r.clean known.follows known)

pub nulls_refused : NullGitlinksAreRefused
nulls_refused name h is some alone short = by (first_commit (reached_commits h))
  where
    by : HaveNoNullGitlink (reached_commits h) ⊎ FirstCommit (reached_commits h) → IsRefusedAt name (reached_commits h) h.refs
    by (inl none) = absurd (some none)
    by (inr r) =
        let known = subst (AreExported h) r.are (exported h is alone short) in
        at_commits h (λ cs. IsRefusedAt name cs h.refs) (r.before ++ r.bad ∷ r.after) r.are
        (import_refused h is r.before r.bad r.after r.file r.clean known.follows known name)

pub before_replayed : CommandsBeforeNullAreReplayed
before_replayed name h is = by (first_commit (reached_commits h))
  where
    by : HaveNoNullGitlink (reached_commits h) ⊎ FirstCommit (reached_commits h) → IsReplayedWithin h name (before_null (reached_commits h) h.refs)
    by (inl none) =
        let q = export_replayed name h is in
        let same : before_null (reached_commits h) h.refs ≡ export_commands h = taken_all is_clean (export_commands h) (clean_export h none) in
        (q.0, exported_report h q.0, q.1.held, ap (λ cs. replayed name 0 (start no_history) cs None) same ∙ q.2)
    by (inr r) =
        at_commits h (λ cs. IsReplayedWithin h name (before_null cs h.refs)) (r.before ++ r.bad ∷ r.after) r.are
        (front_finished h is r.before r.bad r.after r.file r.clean (subst (FollowsAll []) r.are (all_follow h is)) r.are name)
