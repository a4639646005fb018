-- The items of a commit in their parts, and what is shown of a held commit.
use Rattle.std.proofs.Common.{◌≡◌, ℕ, zero, suc, ◌<◌, List, [], ◌∷◌, ◌++◌, map, length, Some, Result, Ok, Err, refl, sym, ap, subst, ◌∙◌, arith, append_assoc, codes, IsTrue}
use Rattle.std.specs.Bool.{passes}
use Rattle.std.specs.List.{AllByRecursion, fold, slice_get}
use Rattle.std.specs.Result.{OnOk}
use Rattle.std.proofs.lemmas.Grind.{flat_map-append}
use Rattle.std.proofs.lemmas.List.{append-nil, length-append}
use Rattle.gx_model.specs.declared.objects.Kind.{Kind}
use Rattle.gx_model.specs.declared.objects.Kind.TheVariants as kind
use Rattle.gx_model.specs.Texts.{Bytes}
use Rattle.gx_model.specs.Texts.Headers.{encoding_in}
use Rattle.gx_model.specs.Export.{all_written, blob_commands, command_items, commit_command, commit_ish_text, contents, from_line, last_reset, one_commit, reset_before, root_reset, to_nothing, carrier, with_blobs, with_commit, word_line, items_text, word_line_if, first_parent_mark, other_parent_marks}
use Rattle.gx_model.specs.Histories.Files.{FileMap}
use Rattle.gx_model.specs.Histories.{IsIn, Records}
use Rattle.gx_model.specs.Records.HistoryOf.{commit_of_value, contents_of, history_of, named_values, value_of_name}
use Rattle.gx_model.specs.Streams.Items.{Data, Item}
use Rattle.gx_model.specs.Objects.{CommitParts, IsNamer}
use Rattle.gx_model.specs.Records.{name_of, named_map, names_of, parts_of_commit}
use Rattle.gx_model.specs.Laws.RepositoryLaws.{values_of}
use Rattle.gx_model.specs.Records.Sound.{Holds, IsNamedMap, IsSound}
use Rattle.gx_model.specs.Histories.Values.{Commit, Commits, CommitText, Value, blobs_of, commit_value, files_of, list_of, more, none, parents_of, sub_maps, text_of, tree_value}
use Rattle.gx_model.proofs.Records.LinkedValues.{parts_in, proper_in}
use Rattle.gx_model.proofs.ObjectTexts.OneTree.{all_left}
use Rattle.gx_model.proofs.Texts.PathTests.{is_true}
use Rattle.gx_model.proofs.Records.HeldValues.{all_whole, commit_stands, names_long, value_held, value_holds}
use Rattle.gx_model.specs.Records.RecordFaults.{is_held}
use Rattle.gx_model.specs.Objects.NameMaps.{AreFiles}
use Rattle.gx_model.proofs.Records.FilesByName.{contents_told, files_named}
use Rattle.gx_export.specs.Marks.{Adds, HasWritten}
use Rattle.gx_export.specs.Texts.{author_items, change_lines, commit_lines, items_of, last_items, parent_items, root_items}
use Rattle.gx_export.specs.declared.fault.ExportFault.{ExportFault}
use Rattle.gx_export.specs.declared.written.Written.{Written}
use Rattle.gx_export.proofs.Writing.{items_append}

-- ---- resets

-- the reset of its ref before a commit
pub root_is : (ref : Bytes) (ps : List Commit) → root_items ref (length ps) ≡ items_of (reset_before ref ps)
root_is ref [] = refl
root_is ref (p ∷ ps) = refl

-- a commit with parents has none
pub no_root : (ref : Bytes) (n : ℕ) → (n ≡ 0 → ⊥) → [] ≡ root_items ref n
no_root ref zero h = absurd (h refl)
no_root ref (suc n) h = refl

last_some : (n : ℕ) → 0 < n → last_items n ≡ command_items (to_nothing carrier)
last_some zero h = absurd (omega arith)
last_some (suc n) h = refl

longer : {X : Type 0} (x : X) (xs : List X) → 0 < length (x ∷ xs)
longer x xs = omega arith

some_written : (ws : List Value) (cs : List Commit) → 0 < length ws → 0 < length (fold with_commit ws cs)
some_written ws [] h = h
some_written ws (c ∷ cs) h = some_written (with_commit ws c) cs (longer (commit_value c) (with_blobs ws (contents (files_of c))))

-- the reset behind all commits
pub last_is : (cs : List Commit) → last_items (length (all_written cs)) ≡ items_of (last_reset cs)
last_is [] = refl
last_is (c ∷ cs) = last_some (length (all_written (c ∷ cs))) (some_written (with_commit [] c) cs (longer (commit_value c) (with_blobs [] (contents (files_of c)))))

-- ---- a commit's items

-- a commit's command is its lines
commit_parts : (ws : List Value) (c : Commit) → command_items (commit_command ws c) ≡ commit_lines ws (text_of c) (list_of (parents_of c)) (files_of c)
commit_parts ws c =
    let text = text_of c in
    let ps = list_of (parents_of c) in
    let front = from_line (first_parent_mark ws ps) in
    let others = map (λ p. word_line (codes "merge") (commit_ish_text p)) (other_parent_marks ws ps) in
    let changes = change_lines ws (files_of c) in
    let line = word_line_if (codes "encoding") (encoding_in text.headers) in
    ap (λ (is : List Item). author_items carrier (suc (length ws)) text ++ is)
    (ap (λ (is : List Item). line ++ (Data text.message ∷ is)) (sym (append_assoc front others changes)) ∙ sym (append_assoc line (Data text.message ∷ []) (parent_items ws ps ++ changes)))

-- the blobs of a commit, the reset before it, and its lines
pub one_commit_parts : (ws : List Value) (c : Commit)
    → items_of (one_commit ws c) ≡ items_of (blob_commands ws (contents (files_of c))) ++ (root_items carrier (length (list_of (parents_of c))) ++ commit_lines (with_blobs ws (contents (files_of c))) (text_of c) (list_of (parents_of c)) (files_of c))
one_commit_parts ws c =
    let us = with_blobs ws (contents (files_of c)) in
    let ps = list_of (parents_of c) in
    let blobs = blob_commands ws (contents (files_of c)) in
    let root = sym (root_is carrier ps) in
    let lines = append-nil (command_items (commit_command us c)) ∙ commit_parts us c in
    flat_map-append command_items blobs (root_reset ps ++ (commit_command us c ∷ []))
    ∙ ap (λ (is : List Item). items_of blobs ++ is) (flat_map-append command_items (root_reset ps) (commit_command us c ∷ [])
    ∙ ap (λ (is : List Item). is ++ items_of (commit_command us c ∷ [])) root ∙ ap (λ (is : List Item). root_items carrier (length ps) ++ is) lines)

-- a commit's lines are no empty text
lines_some : (ws : List Value) (text : CommitText) (ps : List Commit) (f : FileMap Bytes) → 0 < length (items_text (commit_lines ws text ps f))
lines_some ws text ps f = omega arith

-- where a commit's items went out, some bytes give no mark
pub some_unmarked : {W A : Type 0} (r : Records) (us : List Value) (n : ℕ) (text : CommitText) (ps : List Commit) (f : FileMap Bytes) (old new : Written W A) (result : Result (Unit {0}) ExportFault)
    → HasWritten r us old → Adds r us (root_items carrier n ++ commit_lines us text ps f) old new result → OnOk result (new.count < new.output.bytes)
some_unmarked r us n text ps f old new (Ok x) h k =
    let l = lines_some us text ps f in
    let long = ap length (items_append (root_items carrier n) (commit_lines us text ps f)) ∙ length-append (items_text (root_items carrier n)) (items_text (commit_lines us text ps f)) in
    let before = h.count in
    let each = h.each in
    let after = k.0.count in
    let bytes = k.1.0 in
    omega (arith, l, long)
some_unmarked r us n text ps f old new (Err e) h k = tt

-- ---- a held commit

module _ (name : Kind → Bytes → Bytes) (namer : IsNamer name) (r : Records) (sound : IsSound name r) where
  -- what is shown of a commit is its texts and the names of its parents
  pub record IsShownAs (c : Commit) (view : CommitParts) : Type 0 where
    pub text : view.text ≡ text_of c
    pub count : length view.parents ≡ length (list_of (parents_of c))
    pub parents : map (λ n. commit_of_value (value_of_name r.records n)) view.parents ≡ list_of (parents_of c)
    pub holds : AllByRecursion (Holds r.records kind.Commit) view.parents

  -- its items behind its blobs
  pub items_told : (c : Commit) (view : CommitParts) → IsShownAs c view → (us : List Value)
      → root_items carrier (length view.parents) ++ commit_lines us view.text (map (λ n. commit_of_value (value_of_name r.records n)) view.parents) (files_of c) ≡ root_items carrier (length (list_of (parents_of c))) ++ commit_lines us (text_of c) (list_of (parents_of c)) (files_of c)
  items_told c view s us =
      let text = s.text in
      let count = s.count in
      let parents = s.parents in
      λ i. root_items carrier (count i) ++ commit_lines us (text i) (parents i) (files_of c)

  parents_told : (ps : Commits) → AllByRecursion (IsIn (history_of r).values) (map commit_value (list_of ps)) → map (λ n. commit_of_value (value_of_name r.records n)) (names_of name ps) ≡ list_of ps
  parents_told none h = refl
  parents_told (more p ps) h =
      let one = (value_held name namer r sound kind.Commit (commit_value p) (name_of name (commit_value p)) h.0 refl refl).1 in
      let rest = parents_told ps h.1 in
      λ i. commit_of_value (one i) ∷ rest i

  parents_hold : (ps : Commits) → AllByRecursion (IsIn (history_of r).values) (map commit_value (list_of ps)) → AllByRecursion (Holds r.records kind.Commit) (names_of name ps)
  parents_hold none h = tt
  parents_hold (more p ps) h = (value_holds name namer r sound (commit_value p) h.0, parents_hold ps h.1)

  commit_files : (c : Commit) → IsIn (history_of r).values (commit_value c) → AreFiles name (history_of r).values (files_of c) (named_map name (files_of c))
  commit_files c i =
      let vs = (history_of r).values in
      let w = all_whole name namer r sound in
      let tree = (parts_in vs (commit_value c) w i).0 in
      record {
        named = refl;
        content = is_true _ (proper_in vs (tree_value (files_of c)) (passes _ w.proper) tree);
        known = all_left (IsIn vs) (blobs_of (files_of c)) (map tree_value (sub_maps (files_of c))) (parts_in vs (tree_value (files_of c)) w tree);
      }

  -- what the names of a held commit's files name is held, and these are its files
  pub files_named_so : (n : Bytes) → IsTrue (is_held r.records kind.Commit n) → IsNamedMap r.records (named_map name (files_of (commit_of_value (value_of_name r.records n))))
      × (contents_of (named_values r.records) (named_map name (files_of (commit_of_value (value_of_name r.records n)))) ≡ files_of (commit_of_value (value_of_name r.records n)))
  files_named_so n h =
      let c = commit_of_value (value_of_name r.records n) in
      let files = commit_files c (commit_stands name namer r sound n h).1 in
      (files_named name namer r sound (files_of c) (named_map name (files_of c)) files, contents_told name namer r sound (files_of c) (named_map name (files_of c)) files)

  -- the commit at a place is that of its name
  pub same_commit : (place : ℕ) (c : Commit) (n : Bytes) → slice_get (values_of r) place ≡ Some (commit_value c) → slice_get (values_of r) place ≡ Some (value_of_name r.records n) → commit_of_value (value_of_name r.records n) ≡ c
  same_commit place c n e f =
      let value : value_of_name r.records n ≡ commit_value c = (let o : Some (value_of_name r.records n) ≡ Some (commit_value c) = sym f ∙ e in cc o) in
      ap commit_of_value value

  -- what is shown of the held commit of a name
  pub shown_as : (n : Bytes) (view : CommitParts) → IsTrue (is_held r.records kind.Commit n) → view ≡ parts_of_commit name (commit_of_value (value_of_name r.records n)) → IsShownAs (commit_of_value (value_of_name r.records n)) view
  shown_as n view h e =
      let c = commit_of_value (value_of_name r.records n) in
      let ps = (parts_in (history_of r).values (commit_value c) (all_whole name namer r sound) (commit_stands name namer r sound n h).1).1 in
      record {
        text = ap (λ p. p.text) e;
        count = ap (λ p. length p.parents) e ∙ names_long name (parents_of c);
        parents = ap (λ p. map (λ m. commit_of_value (value_of_name r.records m)) p.parents) e ∙ parents_told (parents_of c) ps;
        holds = subst (λ p. AllByRecursion (Holds r.records kind.Commit) p.parents) (sym e) (parents_hold (parents_of c) ps);
      }
