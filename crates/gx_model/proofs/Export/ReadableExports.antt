-- Lengths and marks are below 2 ^ 64 where the length of an export's text is.
use Rattle.std.proofs.Common.{◌≡◌, ℕ, suc, ◌+◌, ◌<◌, ◌≤◌, ◌^◌, true, false, cond, Some, List, [], ◌∷◌, ◌++◌, length, map, nat_eq, codes, refl, sym, ap, subst, ◌∙◌, arith, inl, inr}
use Rattle.std.proofs.lemmas.Bool.Decides.{Decides-eqb}
use Rattle.std.proofs.lemmas.Grind.{flat_map-append}
use Rattle.std.proofs.lemmas.List.{length-append}
use Rattle.std.proofs.lemmas.List.Concat.{flat_map-cons}
use Rattle.std.specs.Bool.{passes}
use Rattle.std.specs.Fmt.{decimal}
use Rattle.std.specs.List.{flat_map, fold, AllByRecursion, cons_option}
use Rattle.std.specs.Prelude.{T}
use Rattle.gx_model.specs.Streams.Commands.{Change, Clear, Command, CommitIsh}
use Rattle.gx_model.specs.Export.{all_written, blob_commands, carrier, command_items, commit_command, commit_commands, commit_on, contents, export_items, file_change, export_text, inner_commands, item_text, last_reset, marked_in, one_commit, reached_commits, ref_by, ref_command, root_reset, with_blobs, with_commit, word_line_if}
use Rattle.gx_model.specs.Laws.ExportLaws.{AreSayable, HasSayable, IsNotNull, IsReadable, IsReadableCommit, IsReadableFile, IsReadableTarget}
use Rattle.gx_model.specs.Histories.Files.{FileMap}
use Rattle.gx_model.specs.Histories.{History, IsHistory, IsIn, Target, at_commit, at_tag, is_in}
use Rattle.gx_model.specs.Streams.Items.{Data, Item, Line}
use Rattle.gx_model.specs.Texts.Headers.{encoding_in}
use Rattle.gx_model.specs.Texts.Paths.{Path}
use Rattle.gx_model.specs.Texts.{Bytes}
use Rattle.gx_model.specs.Histories.Values.{Commit, Value, blob_value, commit_value, files_of, is_content, is_leaf, is_proper_text, list_of, parents_of, text_of, unless_gitlink}
use Rattle.gx_model.specs.declared.objects.Mode.{Mode}
use Rattle.gx_model.specs.declared.objects.Mode.TheVariants.{Dir, Exec, File, Gitlink, Link}
use Rattle.gx_model.proofs.Histories.AddedValues.{is_in_is}
use Rattle.gx_model.proofs.Export.CommitSteps.{are_leaves, leaves_of}
use Rattle.gx_model.proofs.Export.ExportSteps.{all_follow}
use Rattle.gx_model.proofs.Export.KeptCommits.{FollowsAll}
use Rattle.gx_model.proofs.Texts.PathTests.{first, is_true, second}
use Rattle.gx_model.specs.Streams.Commands as command

abbrev pub Fits : Item → Type 0
Fits (Line l) = Unit {0}
Fits (Data x) = length x < 2 ^ 64

abbrev pub AllFit : List Item → Type 0
AllFit is = AllByRecursion Fits is

pub fit_left : (is js : List Item) → AllFit (is ++ js) → AllFit is
fit_left [] js h = tt
fit_left (i ∷ is) js h = (h.0, fit_left is js h.1)

fit_right : (is js : List Item) → AllFit (is ++ js) → AllFit js
fit_right [] js h = h
fit_right (i ∷ is) js h = fit_right is js h.1

data_in_text : (x : Bytes) → length x ≤ length (item_text (Data x))
data_in_text x =
    let a = length-append (codes "data " ++ decimal (length x) ++ 10 ∷ x) (10 ∷ []) in
    let b = length-append (codes "data " ++ decimal (length x)) (10 ∷ x) in
    omega (arith, a, b)

some_text : (i : Item) → 1 ≤ length (item_text i)
some_text (Line l) = omega (arith, length-append l (10 ∷ []))
some_text (Data x) = omega arith

pub all_text : (is : List Item) → length is ≤ length (flat_map item_text is)
all_text [] = omega arith
all_text (i ∷ is) = rw flat_map-cons (omega (arith, some_text i, all_text is, length-append (item_text i) (flat_map item_text is)))

item_fits : (i : Item) (n : ℕ) → length (item_text i) ≤ n → n < 2 ^ 64 → Fits i
item_fits (Line l) n h lt = tt
item_fits (Data x) n h lt = omega (arith, h, lt, data_in_text x)

pub all_fit : (is : List Item) → length (flat_map item_text is) < 2 ^ 64 → AllFit is
all_fit [] lt = tt
all_fit (i ∷ is) lt =
    let long = ap length (flat_map-cons item_text i is) ∙ length-append (item_text i) (flat_map item_text is) in
    (item_fits i (length (item_text i) + length (flat_map item_text is)) (omega arith) (omega (arith, long, lt)), all_fit is (omega (arith, long, lt)))

abbrev pub CommandsFit : List Command → Type 0
CommandsFit cs = AllFit (flat_map command_items cs)

pub commands_left : (xs ys : List Command) → CommandsFit (xs ++ ys) → CommandsFit xs
commands_left xs ys h = fit_left (flat_map command_items xs) (flat_map command_items ys) (subst AllFit (flat_map-append command_items xs ys) h)

pub commands_right : (xs ys : List Command) → CommandsFit (xs ++ ys) → CommandsFit ys
commands_right xs ys h = fit_right (flat_map command_items xs) (flat_map command_items ys) (subst AllFit (flat_map-append command_items xs ys) h)

abbrev pub BlobsFit : List Value → Type 0
BlobsFit ws = (y : Bytes) → IsIn ws (blob_value y) → length y < 2 ^ 64

same_blob : (x y : Bytes) → blob_value x ≡ blob_value y → x ≡ y
same_blob x y e = cc

with_blob : (ws : List Value) (x : Bytes) → length x < 2 ^ 64 → BlobsFit ws → BlobsFit (blob_value x ∷ ws)
with_blob ws x lt h y i = elim i [ inl e ↦ subst (λ z. length z < 2 ^ 64) (same_blob x y e) lt | inr k ↦ h y k ]

pub record BlobsRead (ws : List Value) (xs : List Bytes) : Type 0 where
  pub now : AllByRecursion (λ x. length x < 2 ^ 64) xs
  pub later : BlobsFit ws

pub blobs_fit : (ws : List Value) (xs : List Bytes) → BlobsFit ws → CommandsFit (blob_commands ws xs) → BlobsRead (with_blobs ws xs) xs
blobs_fit ws [] h f = record { now = tt; later = h }
blobs_fit ws (x ∷ xs) h f =
    elim (is_in ws (blob_value x)) as (λ t. is_in ws (blob_value x) ≡ t → CommandsFit (cond t (blob_commands ws xs) (command.Blob (record { mark = Some (suc (length ws)); bytes = x }) ∷ blob_commands (blob_value x ∷ ws) xs)) → BlobsRead (with_blobs (cond t ws (blob_value x ∷ ws)) xs) (x ∷ xs)) [
      | true ↦ λ e g. let r = blobs_fit ws xs h g in record { now = (h x (is_in_is ws (blob_value x) (subst T (sym e) tt)), r.now); later = r.later }
      | false ↦ λ e g. let r = blobs_fit (blob_value x ∷ ws) xs (with_blob ws x g.1.1.0 h) g.1.1.1 in record { now = (g.1.1.0, r.now); later = r.later }
    ] refl f

pub message_in_fits : (r : Bytes) (names : Commit → CommitIsh) (changes : List Change) (ws : List Value) (c : Commit) → AllFit (command_items (commit_on r names changes ws c)) → length (text_of c).message < 2 ^ 64
message_in_fits r names changes ws c h = (fit_right (word_line_if (codes "encoding") (encoding_in (text_of c).headers)) _ h.1.1.1.1).0

pub message_fits : (ws : List Value) (c : Commit) → AllFit (command_items (commit_command ws c)) → length (text_of c).message < 2 ^ 64
message_fits ws c h = message_in_fits carrier (λ p. marked_in ws (commit_value p)) (Clear ∷ map (file_change ws) (files_of c)) ws c h

link_fits : (x : Bytes) → T (is_leaf Gitlink x) → length x < 2 ^ 64
link_fits x h = let k = (Decides-eqb (length x) 40).0 (is_true _ (first (nat_eq (length x) 40) _ h)) in omega (arith, k)

file_fits : (p : Path) (m : Mode) (x : Bytes) (xs : List Bytes) → T (is_leaf m x) → IsNotNull m x → AllByRecursion (λ y. length y < 2 ^ 64) (cons_option (unless_gitlink m x) xs) → IsReadableFile (p, (m, x)) × AllByRecursion (λ y. length y < 2 ^ 64) xs
file_fits p File x xs l h k = ((h, k.0), k.1)
file_fits p Exec x xs l h k = ((h, k.0), k.1)
file_fits p Link x xs l h k = ((h, k.0), k.1)
file_fits p Dir x xs l h k = absurd l
file_fits p Gitlink x xs l h k = ((h, link_fits x l), k)

pub files_fit : (f : FileMap Bytes) → T (are_leaves f) → AllByRecursion (λ file. IsNotNull file.1.0 file.1.1) f → AllByRecursion (λ x. length x < 2 ^ 64) (contents f) → AllByRecursion IsReadableFile f
files_fit [] l h k = tt
files_fit ((p, (m, x)) ∷ f) l h k = let r = file_fits p m x (contents f) (first (is_leaf m x) _ l) h.0 k in (r.0, files_fit f (second (is_leaf m x) _ l) h.1 r.1)

pub later_commit : (ws : List Value) (c : Commit) → BlobsFit ws → BlobsFit (commit_value c ∷ ws)
later_commit ws c h y i = elim i [ inl e ↦ absurd cc | inr k ↦ h y k ]

pub commits_fit : (ws : List Value) (before cs : List Commit) → BlobsFit ws → FollowsAll before cs → AreSayable cs → CommandsFit (commit_commands ws cs) → AllByRecursion IsReadableCommit cs
commits_fit ws before [] h f r g = tt
commits_fit ws before (c ∷ cs) h f r g =
    let xs = contents (files_of c) in
    let us = with_blobs ws xs in
    let mine = commands_left (one_commit ws c) (commit_commands (with_commit ws c) cs) g in
    let b = blobs_fit ws xs h (commands_left (blob_commands ws xs) _ mine) in
    let own = commands_right (root_reset (list_of (parents_of c))) _ (commands_right (blob_commands ws xs) _ mine) in (
      record {
        headers = r.0.headers;
        message = message_fits us c (fit_left (command_items (commit_command us c)) [] own);
        files = files_fit (files_of c) (leaves_of (files_of c) (first (is_content (files_of c)) (is_proper_text (text_of c)) (passes _ f.0))) r.0.files b.now;
      },
      commits_fit (with_commit ws c) (before ++ c ∷ []) cs (later_commit us c b.later) f.3 r.1 (commands_right (one_commit ws c) (commit_commands (with_commit ws c) cs) g),
    )

pub targets_fit : (names : Commit → CommitIsh) (rs : List (Bytes × Target)) → CommandsFit (map (ref_by names) rs) → AllByRecursion (λ r. IsReadableTarget r.1) rs
targets_fit names [] g = tt
targets_fit names ((n, at_commit c) ∷ rs) g = (tt, targets_fit names rs (commands_right (ref_by names (n, at_commit c) ∷ []) (map (ref_by names) rs) g))
targets_fit names ((n, at_tag t) ∷ rs) g =
    let mine = commands_left (ref_by names (n, at_tag t) ∷ []) (map (ref_by names) rs) g in
    ((fit_right (word_line_if (codes "tagger") t.tagger) _ (fit_left (command_items (ref_by names (n, at_tag t))) [] mine).1.1).0, targets_fit names rs (commands_right (ref_by names (n, at_tag t) ∷ []) (map (ref_by names) rs) g))

pub refs_fit : (ws : List Value) (rs : List (Bytes × Target)) → CommandsFit (map (ref_command ws) rs) → AllByRecursion (λ r. IsReadableTarget r.1) rs
refs_fit ws rs g = targets_fit (λ c. marked_in ws (commit_value c)) rs g

-- ---- marks

pub blobs_count : (ws : List Value) (xs : List Bytes) → length (with_blobs ws xs) ≤ length ws + length (flat_map command_items (blob_commands ws xs))
blobs_count ws [] = omega arith
blobs_count ws (x ∷ xs) =
    let held = blobs_count ws xs in
    let new = blobs_count (blob_value x ∷ ws) xs in
    elim (is_in ws (blob_value x)) as (λ t. length (with_blobs (cond t ws (blob_value x ∷ ws)) xs) ≤ length ws + length (flat_map command_items (cond t (blob_commands ws xs) (command.Blob (record { mark = Some (suc (length ws)); bytes = x }) ∷ blob_commands (blob_value x ∷ ws) xs)))) [
      | true ↦ held
      | false ↦ omega (arith, new)
    ]

pub count_append : (xs ys : List Command) → length (flat_map command_items (xs ++ ys)) ≡ length (flat_map command_items xs) + length (flat_map command_items ys)
count_append xs ys = ap length (flat_map-append command_items xs ys) ∙ length-append (flat_map command_items xs) (flat_map command_items ys)

pub commits_count : (ws : List Value) (cs : List Commit) → length (fold with_commit ws cs) ≤ length ws + length (flat_map command_items (commit_commands ws cs))
commits_count ws [] = omega arith
commits_count ws (c ∷ cs) =
    let xs = contents (files_of c) in
    let us = with_blobs ws xs in
    let root = root_reset (list_of (parents_of c)) in
    let a = count_append (one_commit ws c) (commit_commands (with_commit ws c) cs) in
    let b = count_append (blob_commands ws xs) (root ++ (commit_command us c ∷ [])) in
    let d = count_append root (commit_command us c ∷ []) in
    let one : 1 ≤ length (flat_map command_items (commit_command us c ∷ [])) = omega arith in
    omega (arith, a, b, d, one, blobs_count ws xs, commits_count (with_commit ws c) cs)

pub formed_readable : (h : History) → IsHistory h → HasSayable h → length (export_text h) < 2 ^ 64 → IsReadable h
formed_readable h x r lt =
    let cs = reached_commits h in
    let inner = inner_commands cs h.refs in
    let f = all_fit (export_items h) lt in
    let mine = commands_left inner (command.Done ∷ []) f.1 in
    let back = last_reset cs ++ map (ref_command (all_written cs)) h.refs in
    let n = all_text (export_items h) in
    let a = count_append inner (command.Done ∷ []) in
    let b = count_append (commit_commands [] cs) back in
    record {
      commits = commits_fit [] [] cs (λ y i. absurd i) (all_follow h x) r (commands_left (commit_commands [] cs) back mine);
      refs = refs_fit (all_written cs) h.refs (commands_right (last_reset cs) _ (commands_right (commit_commands [] cs) back mine));
      marks = omega (arith, lt, n, a, b, commits_count [] cs);
    }
