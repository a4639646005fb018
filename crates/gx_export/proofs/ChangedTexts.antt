-- The items of a commit by what differs, in their parts.
use Rattle.std.proofs.Common.{◌≡◌, ◌<◌, ◌∙◌, ℕ, suc, List, [], ◌∷◌, ◌++◌, map, length, Result, Ok, Err, sym, ap, arith, append_assoc, append-nil, codes}
use Rattle.std.specs.List.{flat_map}
use Rattle.std.specs.Result.{OnOk}
use Rattle.std.proofs.lemmas.Grind.{flat_map-append}
use Rattle.std.proofs.lemmas.List.{length-append}
use Rattle.gx_model.specs.declared.objects.Kind.{Kind}
use Rattle.gx_model.specs.Changes.{base_files, commit_changes, gone_paths, named_in, own_files}
use Rattle.gx_model.specs.Export.{blob_commands, change_items, command_items, commit_ish_text, commit_on, contents, file_change, first_by, from_line, items_text, others_by, reset_before, with_blobs, word_line, word_line_if}
use Rattle.gx_model.specs.Histories.Files.{FileMap}
use Rattle.gx_model.specs.Histories.Values.{Commit, CommitText, Value, files_of, list_of, parents_of, text_of}
use Rattle.gx_model.specs.Histories.{Records}
use Rattle.gx_model.specs.Objects.{CommitParts, IsNamer}
use Rattle.gx_model.specs.Records.HistoryOf.{commit_of_value, value_of_name}
use Rattle.gx_model.specs.Records.Sound.{IsSound}
use Rattle.gx_model.specs.Streams.Commands.{CommitIsh, Remove}
use Rattle.gx_model.specs.Streams.Items.{Data, Item, Line}
use Rattle.gx_model.specs.Texts.{Bytes}
use Rattle.gx_model.specs.Texts.Headers.{encoding_in}
use Rattle.gx_model.specs.Texts.Paths.{Path}
use Rattle.gx_export.specs.ChangedParts.{AreLinesOf, differing_lines, lines_on, one_on}
use Rattle.gx_export.specs.Compared.{gone_items, gone_text}
use Rattle.gx_export.specs.Marks.{Adds, HasWritten}
use Rattle.gx_export.specs.Texts.{author_items, file_items, items_of, parents_by, root_items}
use Rattle.gx_export.specs.declared.changes.Changes.{Changes}
use Rattle.gx_export.specs.declared.fault.ExportFault.{ExportFault}
use Rattle.gx_export.specs.declared.written.Written.{Written}
use Rattle.gx_export.proofs.CommitTexts.{IsShownAs, root_is}
use Rattle.gx_export.proofs.Writing.{items_append}

-- the paths of a commit's first parent that are gone
abbrev pub gone_of : Commit → List Path
gone_of c = gone_paths (base_files (list_of (parents_of c))) (files_of c)

pub lines_found : {A : Type 0} (us : List Value) (c : Commit) (changes : Changes A) → changes.gone.items ≡ gone_text (gone_of c) → changes.files.text.items ≡ items_text (file_items us (own_files c)) → AreLinesOf us (gone_of c) (own_files c) changes
lines_found us c changes g f = record { gone = g; files = f }

changes_are : (us : List Value) (c : Commit) → flat_map change_items (commit_changes us c) ++ Line [] ∷ [] ≡ differing_lines us (gone_of c) (own_files c)
changes_are us c =
    ap (λ (is : List Item). is ++ Line [] ∷ []) (flat_map-append change_items (map Remove (gone_of c)) (map (file_change us) (own_files c)))
    ∙ append_assoc (gone_items (gone_of c)) (file_items us (own_files c)) (Line [] ∷ [])

-- a commit's command is its lines
commit_parts : (branch : Bytes) (names : Commit → CommitIsh) (us : List Value) (c : Commit) → command_items (commit_on branch names (commit_changes us c) us c) ≡ lines_on branch names us (text_of c) (list_of (parents_of c)) (gone_of c) (own_files c)
commit_parts branch names us c =
    let text = text_of c in
    let ps = list_of (parents_of c) in
    let front = from_line (first_by names ps) in
    let others = map (λ p. word_line (codes "merge") (commit_ish_text p)) (others_by names ps) in
    let changes = differing_lines us (gone_of c) (own_files c) in
    let line = word_line_if (codes "encoding") (encoding_in text.headers) in
    ap (λ (is : List Item). author_items branch (suc (length us)) text ++ (line ++ (Data text.message ∷ (front ++ (others ++ is))))) (changes_are us c)
    ∙ ap (λ (is : List Item). author_items branch (suc (length us)) text ++ is)
    (ap (λ (is : List Item). line ++ (Data text.message ∷ is)) (sym (append_assoc front others changes)) ∙ sym (append_assoc line (Data text.message ∷ []) (parents_by names ps ++ changes)))

-- the blobs of a commit, the reset before it, and its lines
pub one_on_parts : (name : Kind → Bytes → Bytes) (branch : Bytes) (ws : List Value) (c : Commit)
    → items_of (one_on name branch ws c) ≡ items_of (blob_commands ws (contents (own_files c))) ++ (root_items branch (length (list_of (parents_of c))) ++ lines_on branch (named_in name (with_blobs ws (contents (own_files c)))) (with_blobs ws (contents (own_files c))) (text_of c) (list_of (parents_of c)) (gone_of c) (own_files c))
one_on_parts name branch ws c =
    let us = with_blobs ws (contents (own_files c)) in
    let ps = list_of (parents_of c) in
    let blobs = blob_commands ws (contents (own_files c)) in
    let made = commit_on branch (named_in name us) (commit_changes us c) us c in
    let root = sym (root_is branch ps) in
    let lines = append-nil (command_items made) ∙ commit_parts branch (named_in name us) us c in
    flat_map-append command_items blobs (reset_before branch ps ++ (made ∷ []))
    ∙ ap (λ (is : List Item). items_of blobs ++ is) (flat_map-append command_items (reset_before branch ps) (made ∷ [])
    ∙ ap (λ (is : List Item). is ++ items_of (made ∷ [])) root ∙ ap (λ (is : List Item). root_items branch (length ps) ++ is) lines)

-- a commit's lines are no empty text
lines_some : (branch : Bytes) (names : Commit → CommitIsh) (ws : List Value) (text : CommitText) (ps : List Commit) (gone : List Path) (own : FileMap Bytes) → 0 < length (items_text (lines_on branch names ws text ps gone own))
lines_some branch names ws text ps gone own = omega arith

-- where a commit's items went out, some bytes give no mark
pub some_unmarked_on : {W A : Type 0} (r : Records) (branch : Bytes) (names : Commit → CommitIsh) (us : List Value) (n : ℕ) (text : CommitText) (ps : List Commit) (gone : List Path) (own : FileMap Bytes) (old new : Written W A) (result : Result (Unit {0}) ExportFault)
    → HasWritten r us old → Adds r us (root_items branch n ++ lines_on branch names us text ps gone own) old new result → OnOk result (new.count < new.output.bytes)
some_unmarked_on r branch names us n text ps gone own old new (Ok x) h k =
    let l = lines_some branch names us text ps gone own in
    let lines = lines_on branch names us text ps gone own in
    let long = ap length (items_append (root_items branch n) lines) ∙ length-append (items_text (root_items branch n)) (items_text lines) in
    let before = h.count in
    let each = h.each in
    let after = k.0.count in
    let bytes = k.1.0 in
    omega (arith, l, long)
some_unmarked_on r branch names us n text ps gone own old new (Err e) h k = tt

-- the items behind its blobs, of what is shown of a commit
pub items_told_on : (name : Kind → Bytes → Bytes) (namer : IsNamer name) (r : Records) (sound : IsSound name r) (branch : Bytes) (c : Commit) (view : CommitParts) → IsShownAs name namer r sound c view → (us : List Value)
    → root_items branch (length view.parents) ++ lines_on branch (named_in name us) us view.text (map (λ n. commit_of_value (value_of_name r.records n)) view.parents) (gone_of c) (own_files c)
    ≡ root_items branch (length (list_of (parents_of c))) ++ lines_on branch (named_in name us) us (text_of c) (list_of (parents_of c)) (gone_of c) (own_files c)
items_told_on name namer r sound branch c view s us =
    let text = s.text in
    let count = s.count in
    let parents = s.parents in
    λ i. root_items branch (count i) ++ lines_on branch (named_in name us) us (text i) (parents i) (gone_of c) (own_files c)
