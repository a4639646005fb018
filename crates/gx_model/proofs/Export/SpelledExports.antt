-- An export's commands can be spelled, and its text is imported.
use Rattle.std.proofs.Common.{◌≡◌, suc, ◌<◌, ◌≤◌, ◌^◌, Bool, true, false, cond, Some, List, [], ◌∷◌, ◌++◌, length, map, refl, sym, ap, subst, ◌∙◌, arith, inl, inr}
use Rattle.std.specs.Bool.{passes}
use Rattle.std.specs.List.{list_all, fold, AllByRecursion, cons_option}
use Rattle.std.specs.Prelude.{T, ◌⊎◌}
use Rattle.gx_model.specs.Streams.Commands.{Change, Clear, Command, CommitIsh}
use Rattle.gx_model.specs.Export.{all_written, blob_commands, carrier, commit_command, commit_commands, commit_on, contents, dataref_in, export_items, export_text, file_change, first_by, first_parent_mark, inner_commands, last_reset, marked_in, number_in, one_commit, other_parent_marks, others_by, reached_commits, ref_command, reset_before, root_reset, with_blobs, with_commit}
use Rattle.gx_model.specs.Laws.ExportLaws.{IsAgain, IsDataRef, IsMark, IsNamedCommit, IsNamedCommitIf, IsNotNull, IsOne, IsReadable, IsReadableCommit, IsReadableFile, IsReadableTarget, IsSpelled, IsSpelledChange, exported_report}
use Rattle.gx_model.specs.Histories.Files.{FileMap, are_file_paths}
use Rattle.gx_model.specs.Streams.Grammar.{commands_of}
use Rattle.gx_model.specs.Histories.{History, IsHistory, IsIn, Target, at_commit, at_tag, is_in, no_history, value_at}
use Rattle.gx_model.specs.Texts.Idents.{is_ident}
use Rattle.gx_model.specs.Texts.Paths.{is_file_path}
use Rattle.gx_model.specs.Texts.RefNames.{is_ref_name, is_tag_name}
use Rattle.gx_model.specs.Replay.{finished, peeled_at, replayed, replayed_text, start}
use Rattle.gx_model.specs.Texts.{Bytes}
use Rattle.gx_model.specs.Histories.Values.{Commit, IsEncodingAlone, Value, blob_value, commit_value, files_of, is_content, is_leaf, is_proper, is_proper_text, list_of, parents_of, same_value, text_of, unless_gitlink}
use Rattle.gx_model.specs.declared.objects.Kind.{Kind}
use Rattle.gx_model.specs.declared.objects.Mode.{Mode}
use Rattle.gx_model.specs.declared.objects.Mode.TheVariants.{Dir, Exec, File, Gitlink, Link}
use Rattle.gx_model.proofs.Streams.CommandItems.{commands_read}
use Rattle.gx_model.proofs.Export.CommitSteps.{blobs_have, blobs_keep, front_of, leaves_of, map_of, number_small, rest_of}
use Rattle.gx_model.proofs.Export.ExportSteps.{all_follow, export_replayed, peeled_ones, proper_refs}
use Rattle.gx_model.proofs.Histories.FileMapEdits.{parts_of}
use Rattle.gx_model.proofs.Streams.ItemTexts.{items_read}
use Rattle.gx_model.proofs.Export.KeptCommits.{FollowsAll, each_one, one_of_all, snoc_all}
use Rattle.gx_model.proofs.Texts.PathTests.{first, is_true, second}
use Rattle.gx_model.proofs.Histories.SameValues.{value_same}
use Rattle.gx_model.proofs.Streams.SpelledItems.{between_spelled}
use Rattle.gx_model.specs.Streams.Commands as command

-- ---- numbers

number_some : (ws : List Value) (v : Value) → IsIn ws v → 0 < number_in ws v
number_some [] v h = absurd h
number_some (w ∷ ws) v h = by (same_value w v) refl h (λ k. number_some ws v k) where
  by : (t : Bool) → same_value w v ≡ t → (w ≡ v) ⊎ IsIn ws v → (IsIn ws v → 0 < number_in ws v) → 0 < cond t (suc (length ws)) (number_in ws v)
  by true e k again = omega arith
  by false e k again = elim k [ inl is ↦ absurd (subst T (ap (same_value w) (sym is) ∙ ap (same_value w) is ∙ e) (subst T (ap (same_value w) is) (value_same w))) | inr i ↦ again i ]

pub is_mark : (ws : List Value) (v : Value) → IsIn ws v → length ws < 2 ^ 64 → IsMark (number_in ws v)
is_mark ws v h lt = (number_some ws v h, omega (arith, number_small ws v))

pub more_blobs : (ws : List Value) (xs : List Bytes) → length ws ≤ length (with_blobs ws xs)
more_blobs ws [] = omega arith
more_blobs ws (x ∷ xs) =
    let held = more_blobs ws xs in
    let new = more_blobs (blob_value x ∷ ws) xs in
    elim (is_in ws (blob_value x)) as (λ t. length ws ≤ length (with_blobs (cond t ws (blob_value x ∷ ws)) xs)) [ true ↦ held | false ↦ omega (arith, new) ]

pub more_commits : (ws : List Value) (cs : List Commit) → length ws ≤ length (fold with_commit ws cs)
more_commits ws [] = omega arith
more_commits ws (c ∷ cs) = omega (arith, more_blobs ws (contents (files_of c)), more_commits (with_commit ws c) cs)

abbrev pub AreSpelled : List Command → Type 0
AreSpelled cs = AllByRecursion IsSpelled cs

pub spelled_append : (xs ys : List Command) → AreSpelled xs → AreSpelled ys → AreSpelled (xs ++ ys)
spelled_append [] ys h g = g
spelled_append (x ∷ xs) ys h g = (h.0, spelled_append xs ys h.1 g)

-- ---- the commands of one commit

pub blobs_spelled : (ws : List Value) (xs : List Bytes) → AllByRecursion (λ x. length x < 2 ^ 64) xs → length (with_blobs ws xs) < 2 ^ 64 → AreSpelled (blob_commands ws xs)
blobs_spelled ws [] h lt = tt
blobs_spelled ws (x ∷ xs) h lt =
    elim (is_in ws (blob_value x)) as (λ t. length (with_blobs (cond t ws (blob_value x ∷ ws)) xs) < 2 ^ 64 → AreSpelled (cond t (blob_commands ws xs) (command.Blob (record { mark = Some (suc (length ws)); bytes = x }) ∷ blob_commands (blob_value x ∷ ws) xs))) [
      | true ↦ λ l. blobs_spelled ws xs h.1 l
      | false ↦ λ l. (((omega arith, omega (arith, more_blobs (blob_value x ∷ ws) xs)), h.0), blobs_spelled (blob_value x ∷ ws) xs h.1 l)
    ] lt

pub dataref_spelled : (ws : List Value) (m : Mode) (x : Bytes) → length ws < 2 ^ 64 → T (is_leaf m x) → IsNotNull m x → AllByRecursion (λ y. IsIn ws (blob_value y)) (cons_option (unless_gitlink m x) []) → IsDataRef m (dataref_in ws m x)
dataref_spelled ws File x lt l n h = is_mark ws (blob_value x) h.0 lt
dataref_spelled ws Exec x lt l n h = is_mark ws (blob_value x) h.0 lt
dataref_spelled ws Link x lt l n h = is_mark ws (blob_value x) h.0 lt
dataref_spelled ws Gitlink x lt l n h = (is_true _ l, n)
dataref_spelled ws Dir x lt l n h = absurd l

pub changes_spelled : (ws : List Value) (f : FileMap Bytes) → length ws < 2 ^ 64 → T (are_file_paths f) → T (list_all (λ e. is_leaf e.1.0 e.1.1) f) → AllByRecursion IsReadableFile f → AllByRecursion (λ y. IsIn ws (blob_value y)) (contents f) → AllByRecursion IsSpelledChange (map (file_change ws) f)
changes_spelled ws [] lt p l r h = tt
changes_spelled ws (e ∷ f) lt p l r h =
    let o = unless_gitlink e.1.0 e.1.1 in
    let P = λ (y : Bytes). IsIn ws (blob_value y) in
    ((dataref_spelled ws e.1.0 e.1.1 lt (first _ _ l) r.0.0 (front_of P o (contents f) h), is_true _ (first _ _ p)), changes_spelled ws f lt (second (is_file_path e.0) _ p) (second (is_leaf e.1.0 e.1.1) _ l) r.1 (rest_of P o (contents f) h))

pub first_named : (names : Commit → CommitIsh) (ps : List Commit) → AllByRecursion (λ p. IsNamedCommit (names p)) ps → IsNamedCommitIf (first_by names ps)
first_named names [] h = tt
first_named names (p ∷ ps) h = h.0

pub others_named : (names : Commit → CommitIsh) (ps : List Commit) → AllByRecursion (λ p. IsNamedCommit (names p)) ps → AllByRecursion IsNamedCommit (others_by names ps)
others_named names [] h = tt
others_named names (p ∷ ps) h = by ps h.1 where
  by : (ps : List Commit) → AllByRecursion (λ p. IsNamedCommit (names p)) ps → AllByRecursion IsNamedCommit (map names ps)
  by [] h = tt
  by (p ∷ ps) h = (h.0, by ps h.1)

pub all_marks : (ws : List Value) (ps : List Commit) → length ws < 2 ^ 64 → AllByRecursion (λ p. IsIn ws (commit_value p)) ps → AllByRecursion (λ p. IsNamedCommit (marked_in ws (commit_value p))) ps
all_marks ws [] lt h = tt
all_marks ws (p ∷ ps) lt h = (is_mark ws (commit_value p) h.0 lt, all_marks ws ps lt h.1)

pub parent_spelled : (ws : List Value) (ps : List Commit) → length ws < 2 ^ 64 → AllByRecursion (λ p. IsIn ws (commit_value p)) ps → IsNamedCommitIf (first_parent_mark ws ps)
parent_spelled ws ps lt h = first_named (λ p. marked_in ws (commit_value p)) ps (all_marks ws ps lt h)

pub others_spelled : (ws : List Value) (ps : List Commit) → length ws < 2 ^ 64 → AllByRecursion (λ p. IsIn ws (commit_value p)) ps → AllByRecursion IsNamedCommit (other_parent_marks ws ps)
others_spelled ws ps lt h = others_named (λ p. marked_in ws (commit_value p)) ps (all_marks ws ps lt h)

pub carrier_is_ref : is_ref_name carrier ≡ true
carrier_is_ref = refl

pub reset_spelled : (r : Bytes) (ps : List Commit) → is_ref_name r ≡ true → AreSpelled (reset_before r ps)
reset_spelled r [] e = ((e, tt), tt)
reset_spelled r (p ∷ ps) e = tt

pub root_spelled : (ps : List Commit) → AreSpelled (root_reset ps)
root_spelled ps = reset_spelled carrier ps carrier_is_ref

-- a commit whose ref is a ref name, whose parents are named by marks, and whose changes can be spelled
pub commit_spelled : (r : Bytes) (names : Commit → CommitIsh) (changes : List Change) (ws : List Value) (c : Commit) → is_ref_name r ≡ true → suc (length ws) < 2 ^ 64 → length (text_of c).message < 2 ^ 64 → T (is_proper_text (text_of c)) → IsEncodingAlone (text_of c).headers
    → AllByRecursion (λ p. IsNamedCommit (names p)) (list_of (parents_of c)) → AllByRecursion IsSpelledChange changes → IsSpelled (commit_on r names changes ws c)
commit_spelled r names changes ws c e lt fits text alone named spelled = record {
  ref = e;
  mark = (omega arith, lt);
  author = is_true _ (first _ _ (first _ _ text));
  has_author = refl;
  committer = is_true _ (second (is_ident (text_of c).author) _ (first _ _ text));
  headers = alone;
  message = fits;
  parent = first_named names (list_of (parents_of c)) named;
  merges = others_named names (list_of (parents_of c)) named;
  changes = spelled;
}

-- the command of an export's commit
own_commit_spelled : (ws : List Value) (c : Commit) → suc (length ws) < 2 ^ 64 → IsReadableCommit c → T (is_proper (commit_value c)) → AllByRecursion (λ p. IsIn ws (commit_value p)) (list_of (parents_of c)) → AllByRecursion (λ y. IsIn ws (blob_value y)) (contents (files_of c)) → IsSpelled (commit_command ws c)
own_commit_spelled ws c lt r p h g =
    let content = first (is_content (files_of c)) (is_proper_text (text_of c)) p in
    let paths = (parts_of (files_of c) (map_of (files_of c) content)).paths in
    commit_spelled carrier (λ p. marked_in ws (commit_value p)) (Clear ∷ map (file_change ws) (files_of c)) ws c carrier_is_ref lt r.message (second (is_content (files_of c)) (is_proper_text (text_of c)) p) r.headers
    (all_marks ws (list_of (parents_of c)) (omega arith) h)
    (tt, changes_spelled ws (files_of c) (omega arith) paths (leaves_of (files_of c) content) r.files g)

pub contents_fit : (f : FileMap Bytes) → AllByRecursion IsReadableFile f → AllByRecursion (λ x. length x < 2 ^ 64) (contents f)
contents_fit [] h = tt
contents_fit ((p, (m, x)) ∷ f) h = by m (contents_fit f h.1) where
  by : (m : Mode) → AllByRecursion (λ x. length x < 2 ^ 64) (contents f) → AllByRecursion (λ x. length x < 2 ^ 64) (cons_option (unless_gitlink m x) (contents f))
  by Gitlink k = k
  by File k = (h.0.1, k)
  by Exec k = (h.0.1, k)
  by Link k = (h.0.1, k)
  by Dir k = (h.0.1, k)

pub commits_spelled : (ws : List Value) (before cs : List Commit) → AllByRecursion (λ c. IsIn ws (commit_value c)) before → FollowsAll before cs → AllByRecursion IsReadableCommit cs → length (fold with_commit ws cs) < 2 ^ 64 → AreSpelled (commit_commands ws cs)
commits_spelled ws before [] h f r lt = tt
commits_spelled ws before (c ∷ cs) h f r lt =
    let xs = contents (files_of c) in
    let us = with_blobs ws xs in
    let fits : suc (length us) < 2 ^ 64 = omega (arith, more_commits (with_commit ws c) cs) in
    let parents = each_one (IsOne before) (λ p. IsIn us (commit_value p)) (λ p i. blobs_keep ws xs (commit_value p) (one_of_all (λ d. IsIn ws (commit_value d)) before p h i)) (list_of (parents_of c)) f.1 in
    let now = snoc_all (λ d. IsIn (with_commit ws c) (commit_value d)) before c (each_one (λ d. IsIn ws (commit_value d)) (λ d. IsIn (with_commit ws c) (commit_value d)) (λ d i. inr (blobs_keep ws xs (commit_value d) i)) before h) (inl refl) in
    spelled_append (one_commit ws c) (commit_commands (with_commit ws c) cs)
    (spelled_append (blob_commands ws xs) _ (blobs_spelled ws xs (contents_fit (files_of c) r.0.files) (omega arith))
    (spelled_append (root_reset (list_of (parents_of c))) _ (root_spelled (list_of (parents_of c))) (own_commit_spelled us c fits r.0 (passes _ f.0) parents (blobs_have ws xs), tt)))
    (commits_spelled (with_commit ws c) (before ++ c ∷ []) cs now f.3 r.1 lt)

pub last_spelled : (cs : List Commit) → AreSpelled (last_reset cs)
last_spelled [] = tt
last_spelled (c ∷ cs) = ((carrier_is_ref, tt), tt)

pub refs_spelled : (ws : List Value) (rs : List (Bytes × Target)) → length ws < 2 ^ 64 → AllByRecursion (λ r. IsIn ws (commit_value (peeled_at r.1))) rs → T (list_all (λ r. is_ref_name r.0) rs) → AllByRecursion (λ r. T (is_proper (value_at r.1))) rs
    → AllByRecursion (λ r. IsReadableTarget r.1) rs → AreSpelled (map (ref_command ws) rs)
refs_spelled ws [] lt h n p r = tt
refs_spelled ws ((q, at_commit c) ∷ rs) lt h n p r = ((is_true _ (first (is_ref_name q) _ n), is_mark ws (commit_value c) h.0 lt), refs_spelled ws rs lt h.1 (second (is_ref_name q) _ n) p.1 r.1)
refs_spelled ws ((q, at_tag t) ∷ rs) lt h n p r = (
  record { name = is_true _ (first (is_tag_name t.name) _ p.0); mark = refl; target = is_mark ws (commit_value t.target) h.0 lt; tagger = is_true _ (second (is_tag_name t.name) _ p.0); message = r.0 },
  refs_spelled ws rs lt h.1 (second (is_ref_name q) _ n) p.1 r.1,
)

pub export_spelled : (h : History) → IsHistory h → IsReadable h → AreSpelled (inner_commands (reached_commits h) h.refs)
export_spelled h x r =
    let cs = reached_commits h in
    spelled_append (commit_commands [] cs) _ (commits_spelled [] [] cs tt (all_follow h x) r.commits r.marks)
    (spelled_append (last_reset cs) _ (last_spelled cs) (refs_spelled (all_written cs) h.refs r.marks (peeled_ones h x) (passes _ x.ref_names) (proper_refs h x) r.refs))

-- ---- the import of an export

pub export_imported : (name : Kind → Bytes → Bytes) (h : History) → IsHistory h → IsReadable h
    → (k : History) × IsAgain h k × (replayed_text name no_history (export_text h) false ≡ finished k [] (exported_report h k))
export_imported name h x r =
    let inner = inner_commands (reached_commits h) h.refs in
    let s = export_spelled h x r in
    let items = items_read (export_items h) (between_spelled inner s) in
    let commands = ap commands_of items ∙ commands_read inner s in
    let again = export_replayed name h x in
    (again.0, again.1, ap (λ cs. replayed name 0 (start no_history) cs.list cs.fault) commands ∙ again.2)
