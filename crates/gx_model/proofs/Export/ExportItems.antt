-- The items of an export, whatever gitlinks its commits have.
use Rattle.std.proofs.Common.{◌≡◌, suc, ◌<◌, ◌^◌, true, Some, List, [], ◌∷◌, ◌++◌, length, map, codes, refl, sym, subst, arith, inl, inr}
use Rattle.std.specs.Prelude.{T}
use Rattle.std.specs.Bool.{passes}
use Rattle.std.specs.List.{AllByRecursion, flat_map, fold}
use Rattle.std.proofs.lemmas.Grind.{flat_map-append}
use Rattle.gx_model.specs.declared.objects.Mode.{Mode}
use Rattle.gx_model.specs.declared.objects.Mode.TheVariants.{File, Exec, Link, Gitlink, Dir}
use Rattle.gx_model.specs.Texts.{Bytes}
use Rattle.gx_model.specs.Texts.Headers.{encoding_in}
use Rattle.gx_model.specs.Texts.Idents.{is_ident}
use Rattle.gx_model.specs.Texts.Paths.{Path, is_file_path, path_text, printed}
use Rattle.gx_model.specs.Histories.Files.{FileMap, are_file_paths}
use Rattle.gx_model.specs.Histories.Values.{Commit, IsEncodingAlone, Value, blob_value, commit_value, files_of, is_content, is_leaf, is_proper, is_proper_text, list_of, parents_of, text_of}
use Rattle.gx_model.specs.Texts.Digits.{is_lower_digit, is_name_text}
use Rattle.gx_model.specs.Histories.{History, IsHistory, IsIn}
use Rattle.gx_model.specs.Streams.Items.{Line}
use Rattle.gx_model.specs.Streams.Commands as command
use Rattle.gx_model.specs.Streams.Commands.{Change, Clear, Command, CommitParts, Modify, Object}
use Rattle.gx_model.specs.Export.{all_written, blob_commands, carrier, change_items, command_items, commit_command, commit_commands, contents, file_change, first_parent_mark, from_line, export_items, inner_commands, item_text, last_reset, mode_digits, one_commit, other_parent_marks, reached_commits, ref_command, root_reset, with_blobs, with_commit, word_line_if}
use Rattle.gx_model.specs.Laws.ExportLaws.{ExportsAreItems, HaveEncodingsAlone, IsOne, IsSpelledChange, IsSpelledCommit, between}
use Rattle.gx_model.proofs.Texts.HeaderTexts.{encoding_told}
use Rattle.gx_model.proofs.Texts.PathTests.{first, is_true, second}
use Rattle.gx_model.proofs.Histories.FileMapEdits.{parts_of}
use Rattle.gx_model.proofs.Export.KeptCommits.{FollowsAll, each_one, one_of_all, snoc_all}
use Rattle.gx_model.proofs.Texts.LineTexts.{line_append, line_by, printed_is_line}
use Rattle.gx_model.proofs.Streams.CommandFields.{all_hex}
use Rattle.gx_model.proofs.Streams.CommandItems.{merge_item}
use Rattle.gx_model.proofs.Streams.SpelledItems.{AreItems, all_spelled, author_spelled, change_spelled, encoding_spelled, from_spelled, items_append, mark_spelled, merges_spelled, plain_line}
use Rattle.gx_model.proofs.Texts.LineTexts.{ident_is_line, ref_is_line}
use Rattle.gx_model.proofs.Export.CommitSteps.{are_leaves, blobs_have, blobs_keep, front_of, leaves_of, map_of, rest_of}
use Rattle.gx_model.proofs.Streams.ItemTexts.{items_read}
use Rattle.gx_model.proofs.Export.ExportSteps.{all_follow, peeled_ones, proper_refs}
use Rattle.gx_model.proofs.Export.PublishedRefs.{ArePeeled}
use Rattle.gx_model.proofs.Export.ReadableExports.{BlobsFit, CommandsFit, all_fit, all_text, blobs_fit, commands_left, commands_right, commits_count, count_append, fit_left, later_commit, message_fits, refs_fit}
use Rattle.gx_model.proofs.Export.SpelledExports.{blobs_spelled, carrier_is_ref, dataref_spelled, last_spelled, more_commits, others_spelled, parent_spelled, refs_spelled, root_spelled, spelled_append}

-- ---- the items of an export

-- the command of a commit, with some of its files
abbrev pub commit_with : List Value → Commit → FileMap Bytes → CommitParts
commit_with ws c f = record {
  ref = carrier;
  mark = Some (suc (length ws));
  author = Some (text_of c).author;
  committer = (text_of c).committer;
  headers = (text_of c).headers;
  message = (text_of c).message;
  parent = first_parent_mark ws (list_of (parents_of c));
  merges = other_parent_marks ws (list_of (parents_of c));
  changes = Clear ∷ map (file_change ws) f;
}

abbrev AreWritten : List Value → List Commit → Type 0
AreWritten ws ps = AllByRecursion (λ p. IsIn ws (commit_value p)) ps

pub spelled_with : (ws : List Value) (c : Commit) (f : FileMap Bytes) → suc (length ws) < 2 ^ 64 → length (text_of c).message < 2 ^ 64 → T (is_proper (commit_value c)) → IsEncodingAlone (text_of c).headers → AreWritten ws (list_of (parents_of c))
    → AllByRecursion IsSpelledChange (map (file_change ws) f) → IsSpelledCommit (commit_with ws c f)
spelled_with ws c f lt m p alone h g =
    let text = second (is_content (files_of c)) (is_proper_text (text_of c)) p in
    record {
      ref = carrier_is_ref;
      mark = (omega arith, lt);
      author = is_true _ (first _ _ (first _ _ text));
      has_author = refl;
      committer = is_true _ (second (is_ident (text_of c).author) _ (first _ _ text));
      headers = alone;
      message = m;
      parent = parent_spelled ws (list_of (parents_of c)) (omega arith) h;
      merges = others_spelled ws (list_of (parents_of c)) (omega arith) h;
      changes = (tt, g);
    }

-- a commit command whose lines can be spelled, with other changes
items_with : (c : CommitParts) (cs : List Change) → IsSpelledCommit c → AreItems (flat_map change_items cs) → AreItems (command_items (command.Commit (record c { changes = cs })))
items_with c cs h g = (
  record { line = ref_is_line c.ref h.ref; no_comment = refl; no_data = refl },
  items_append _ _ (mark_spelled c.mark h.mark)
      (items_append (word_line_if (codes "author") c.author) _ (author_spelled c.author h.has_author h.author) (
        record { line = ident_is_line c.committer h.committer; no_comment = refl; no_data = refl },
        items_append (word_line_if (codes "encoding") (encoding_in c.headers)) _ (encoding_spelled (encoding_in c.headers) (encoding_told c.headers h.headers).proper) (
          h.message,
          items_append (from_line c.parent) _ (from_spelled c.parent h.parent)
              (items_append (map merge_item c.merges) _ (merges_spelled c.merges h.merges) (items_append (flat_map change_items cs) (Line [] ∷ []) g (plain_line, tt))),
        ),
      )),
)

link_line : (x : Bytes) (p : Path) → is_name_text x ≡ true → AreItems (change_items (Modify Gitlink (Object x) p))
link_line x p h = (
  record {
    line = line_append (mode_digits Gitlink ++ 32 ∷ x) (32 ∷ printed (path_text p)) (line_append (mode_digits Gitlink) (32 ∷ x) refl (line_by is_lower_digit refl x (all_hex x h))) (printed_is_line (path_text p));
    no_comment = refl;
    no_data = refl;
  },
  tt,
)

file_items : (ws : List Value) (f : FileMap Bytes) → length ws < 2 ^ 64 → T (are_file_paths f) → T (are_leaves f) → AllByRecursion (λ y. IsIn ws (blob_value y)) (contents f) → AreItems (flat_map change_items (map (file_change ws) f))
file_items ws [] lt p l h = tt
file_items ws ((p, (m, x)) ∷ f) lt t l h =
    let rest = file_items ws f lt (second (is_file_path p) _ t) (second (is_leaf m x) _ l) (rest_of (λ y. IsIn ws (blob_value y)) _ (contents f) h) in
    items_append (change_items (file_change ws (p, (m, x)))) _ (by m (first (is_leaf m x) _ l) (front_of (λ y. IsIn ws (blob_value y)) _ (contents f) h)) rest
  where
    is_path : is_file_path p ≡ true
    is_path = is_true _ (first (is_file_path p) _ t)

    by : (m : Mode) → T (is_leaf m x) → AllByRecursion (λ y. IsIn ws (blob_value y)) (contents ((p, (m, x)) ∷ [])) → AreItems (change_items (file_change ws (p, (m, x))))
    by Gitlink k i = link_line x p (is_true _ k)
    by File k i = change_spelled (file_change ws (p, (File, x))) (dataref_spelled ws File x lt k tt i, is_path)
    by Exec k i = change_spelled (file_change ws (p, (Exec, x))) (dataref_spelled ws Exec x lt k tt i, is_path)
    by Link k i = change_spelled (file_change ws (p, (Link, x))) (dataref_spelled ws Link x lt k tt i, is_path)
    by Dir k i = absurd k

two_parts : (xs ys : List Command) → AreItems (flat_map command_items xs) → AreItems (flat_map command_items ys) → AreItems (flat_map command_items (xs ++ ys))
two_parts xs ys h k = subst AreItems (sym (flat_map-append command_items xs ys)) (items_append (flat_map command_items xs) (flat_map command_items ys) h k)

-- lengths that fit, whatever gitlinks there are
pub record IsFitting (c : Commit) : Type 0 where
  pub message : length (text_of c).message < 2 ^ 64
  pub contents : AllByRecursion (λ x. length x < 2 ^ 64) (contents (files_of c))

all_fitting : (ws : List Value) (cs : List Commit) → BlobsFit ws → CommandsFit (commit_commands ws cs) → AllByRecursion IsFitting cs
all_fitting ws [] h g = tt
all_fitting ws (c ∷ cs) h g =
    let xs = contents (files_of c) in
    let us = with_blobs ws xs in
    let mine = commands_left (one_commit ws c) (commit_commands (with_commit ws c) cs) g in
    let b = blobs_fit ws xs h (commands_left (blob_commands ws xs) _ mine) in
    let own = commands_right (root_reset (list_of (parents_of c))) _ (commands_right (blob_commands ws xs) _ mine) in (
      record { message = message_fits us c (fit_left (command_items (commit_command us c)) [] own); contents = b.now },
      all_fitting (with_commit ws c) cs (later_commit us c b.later) (commands_right (one_commit ws c) (commit_commands (with_commit ws c) cs) g),
    )

pub parents_written : (ws : List Value) (before : List Commit) (c : Commit) → AreWritten ws before → AllByRecursion (IsOne before) (list_of (parents_of c)) → AreWritten (with_blobs ws (contents (files_of c))) (list_of (parents_of c))
parents_written ws before c h f =
    let xs = contents (files_of c) in
    each_one (IsOne before) (λ p. IsIn (with_blobs ws xs) (commit_value p)) (λ p i. blobs_keep ws xs (commit_value p) (one_of_all (λ d. IsIn ws (commit_value d)) before p h i)) (list_of (parents_of c)) f

now_written : (ws : List Value) (before : List Commit) (c : Commit) → AreWritten ws before → AreWritten (with_commit ws c) (before ++ c ∷ [])
now_written ws before c h =
    let xs = contents (files_of c) in
    snoc_all (λ d. IsIn (with_commit ws c) (commit_value d)) before c (each_one (λ d. IsIn ws (commit_value d)) (λ d. IsIn (with_commit ws c) (commit_value d)) (λ d i. inr (blobs_keep ws xs (commit_value d) i)) before h) (inl refl)

commits_items : (ws : List Value) (before cs : List Commit) → AreWritten ws before → FollowsAll before cs → AllByRecursion IsFitting cs → HaveEncodingsAlone cs → length (fold with_commit ws cs) < 2 ^ 64 → AreItems (flat_map command_items (commit_commands ws cs))
commits_items ws before [] h f r alone lt = tt
commits_items ws before (c ∷ cs) h f r alone lt =
    let xs = contents (files_of c) in
    let us = with_blobs ws xs in
    let fits : suc (length us) < 2 ^ 64 = omega (arith, more_commits (with_commit ws c) cs) in
    let p : T (is_proper (commit_value c)) = passes _ f.0 in
    let content = first (is_content (files_of c)) (is_proper_text (text_of c)) p in
    let paths = (parts_of (files_of c) (map_of (files_of c) content)).paths in
    let lines = file_items us (files_of c) (omega arith) paths (leaves_of (files_of c) content) (blobs_have ws xs) in
    let twin = spelled_with us c [] fits r.0.message p alone.0 (parents_written ws before c h f.1) tt in
    let own = items_with (commit_with us c []) (Clear ∷ map (file_change us) (files_of c)) twin (items_append (change_items Clear) _ (change_spelled Clear tt) lines) in
    two_parts (one_commit ws c) (commit_commands (with_commit ws c) cs)
    (two_parts (blob_commands ws xs) _ (all_spelled (blob_commands ws xs) (blobs_spelled ws xs r.0.contents (omega arith)))
    (two_parts (root_reset (list_of (parents_of c))) (commit_command us c ∷ []) (all_spelled (root_reset (list_of (parents_of c))) (root_spelled (list_of (parents_of c)))) (items_append (command_items (commit_command us c)) [] own tt)))
    (commits_items (with_commit ws c) (before ++ c ∷ []) cs (now_written ws before c h) f.3 r.1 alone.1 lt)

-- ---- the whole

-- what is known of the commits that refs reach
pub record AreExported (h : History) (cs : List Commit) : Type 0 where
  pub follows : FollowsAll [] cs
  pub peeled : ArePeeled (all_written cs) h.refs
  pub alone : HaveEncodingsAlone cs
  pub fits : length (flat_map item_text (flat_map command_items (between (inner_commands cs h.refs)))) < 2 ^ 64

module _ (h : History) (is : IsHistory h) (cs : List Commit) (known : AreExported h cs) where
  abbrev inner : List Command
  inner = inner_commands cs h.refs

  abbrev behind_commits : List Command
  behind_commits = last_reset cs ++ map (ref_command (all_written cs)) h.refs

  inner_fit : CommandsFit inner
  inner_fit = commands_left inner (command.Done ∷ []) (all_fit (flat_map command_items (between inner)) known.fits).1

  pub commits_lengths : CommandsFit (commit_commands [] cs)
  commits_lengths = commands_left (commit_commands [] cs) behind_commits inner_fit

  pub marks_fit : length (all_written cs) < 2 ^ 64
  marks_fit =
      let n = all_text (flat_map command_items (between inner)) in
      let a = count_append inner (command.Done ∷ []) in
      let b = count_append (commit_commands [] cs) behind_commits in
      omega (arith, known.fits, n, a, b, commits_count [] cs)

  pub fitting : AllByRecursion IsFitting cs
  fitting = all_fitting [] cs (λ y i. absurd i) commits_lengths

  refs_items : AreItems (flat_map command_items behind_commits)
  refs_items =
      let readable = refs_fit (all_written cs) h.refs (commands_right (last_reset cs) _ (commands_right (commit_commands [] cs) behind_commits inner_fit)) in
      all_spelled behind_commits
      (spelled_append (last_reset cs) _ (last_spelled cs) (refs_spelled (all_written cs) h.refs marks_fit known.peeled (passes _ is.ref_names) (proper_refs h is) readable))

  pub export_is_items : AreItems (flat_map command_items (between inner))
  export_is_items = (
    record { line = refl; no_comment = refl; no_data = refl },
    two_parts inner (command.Done ∷ [])
        (two_parts (commit_commands [] cs) behind_commits (commits_items [] [] cs tt known.follows fitting known.alone marks_fit) refs_items)
        (record { line = refl; no_comment = refl; no_data = refl }, tt),
  )

-- ---- read again

pub exports_read : ExportsAreItems
exports_read h is alone short =
    items_read (export_items h) (export_is_items h is (reached_commits h) (record { follows = all_follow h is; peeled = peeled_ones h is; alone = alone; fits = short }))
