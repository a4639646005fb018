-- What goes out of a commit: its blobs, the reset before it, and its lines.
use Rattle.std.proofs.Common.{◌≡◌, ◌≢◌, ◌∙◌, ◌<◌, ℕ, suc, List, [], ◌∷◌, ◌++◌, map, length, Option, Some, None, Result, Ok, Err, refl, sym, ap, subst, arith, append_assoc}
use Rattle.std.specs.Prelude.{IfErr, IfSome, OnOk}
use Rattle.std.proofs.lemmas.List.{length-append}
use Rattle.gx_model.specs.declared.objects.Kind.{Kind}
use Rattle.gx_model.specs.declared.objects.Kind.TheVariants as kinds
use Rattle.gx_model.specs.Changes.{named_in, own_files, with_changes}
use Rattle.gx_model.specs.Export.{blob_commands, contents, items_text, with_blobs}
use Rattle.gx_model.specs.Histories.Files.{FileMap}
use Rattle.gx_model.specs.Histories.Values.{Commit, CommitText, Value, list_of, parents_of, text_of}
use Rattle.gx_model.specs.Histories.{Records}
use Rattle.gx_model.specs.Objects.{CommitParts, IsNamer}
use Rattle.gx_model.specs.Records.{parts_of_commit}
use Rattle.gx_model.specs.Records.Sound.{IsSound}
use Rattle.gx_model.specs.Streams.Commands.{CommitIsh}
use Rattle.gx_model.specs.Streams.Items.{Item}
use Rattle.gx_model.specs.Texts.{Bytes}
use Rattle.gx_model.specs.Texts.Paths.{Path}
use Rattle.gx_model.proofs.Records.HeldValues.{commit_stands, kind_held}
use Rattle.gx_object.specs.declared.name.Name.{Name}
use Rattle.gx_rev.specs.Objects.{IsHeldAs, commit_at}
use Rattle.gx_export.specs.ChangedParts.{lines_on, one_on}
use Rattle.gx_export.specs.FileTexts.{AreWritten}
use Rattle.gx_export.specs.Outputs.{Writes}
use Rattle.gx_export.specs.Parts.{commits_called}
use Rattle.gx_export.specs.Texts.{items_of, root_items}
use Rattle.gx_export.proofs.ChangedTexts.{gone_of, items_told_on, one_on_parts}
use Rattle.gx_export.proofs.CommitTexts.{shown_as}
use Rattle.gx_export.proofs.Gathering.{all_written}
use Rattle.gx_export.proofs.Writing.{items_append}
use Rattle.gx_differences.specs.Differences.{HaveFiles}
use Rattle.gx_differences.specs.declared.differences.Differences.{Differences}
use Rattle.gx_sending.specs.Faults.{stop, stopped}
use Rattle.gx_sending.specs.Files.{AreShown, blobs_at, contents_at}
use Rattle.gx_sending.specs.Marks.{Adds, AddsBlobs, HasWritten, WritesValue}
use Rattle.gx_sending.specs.declared.fault.SendFault.{SendFault}
use Rattle.gx_sending.specs.declared.fault.SendFault.TheVariants.{Damaged, OutOfMemory}
use Rattle.gx_sending.specs.declared.written.Written.{Written}
use Rattle.gx_sending.proofs.Sending.{adds_later, stops_behind, stops_sooner}
use Rattle.gx_changes.specs.Commits.{AreOwn, HoldsParents, IsCommitOf, OfItsParts}

-- a commit's lines are no empty text
lines_some : (branch : Bytes) (names : Commit → CommitIsh) (ws : List Value) (text : CommitText) (ps : List Commit) (gone : List Path) (own : FileMap Bytes) → 0 < length (items_text (lines_on branch names ws text ps gone own))
lines_some branch names ws text ps gone own = omega arith

-- what stops within items stops so whatever was to be written then
stops_for : {W A : Type 0} (r : Records) (us vs : List Value) (items : List Item) (old new : Written W A) (e : SendFault) → Adds us items old new (Err e) r → Adds vs items old new (Err e) r
stops_for r us vs items old new e h = record { written = tt; told = h.told; text = h.text }

module _ {W A B : Type 0} (name : Kind → Bytes → Bytes) (namer : IsNamer name) (r : Records) (sound : IsSound name r) (branch : Bytes) (called : Name) (view : CommitParts) (is : IsCommitOf name view r called)
    (found : Differences B) (own : AreOwn r (commit_at r called) found) (ws : List Value) (old : Written W A) where
  abbrev made : Commit
  made = commit_at r called

  abbrev us : List Value
  us = with_blobs ws (contents (own_files made))

  abbrev vs : List Value
  vs = with_changes ws made

  abbrev blobs : List Item
  blobs = items_of (blob_commands ws (contents (own_files made)))

  abbrev behind : List Item
  behind = root_items branch (length (list_of (parents_of made))) ++ lines_on branch (named_in name us) us (text_of made) (list_of (parents_of made)) (gone_of made) (own_files made)

  -- the items of all
  abbrev all : List Item
  all = items_of (one_on name branch ws made)

  abbrev parts : all ≡ blobs ++ behind
  parts = one_on_parts name branch ws made

  bytes_same : blobs_at r found.files.items ≡ contents (own_files made)
  bytes_same = ap contents own.files

  blobs_out : (new : Written W A) (result : Result (Unit {0}) SendFault) → AddsBlobs ws (blobs_at r found.files.items) old new result r → AddsBlobs ws (contents (own_files made)) old new result r
  blobs_out new result k = subst (λ bs. AddsBlobs ws bs old new result r) bytes_same k

  stops_at_blobs : (new : Written W A) (e : SendFault) → AddsBlobs ws (blobs_at r found.files.items) old new (Err e) r → Adds vs all old new (Err e) r
  stops_at_blobs new e k = subst (λ items. Adds vs items old new (Err e) r) (sym parts) (stops_sooner r us vs blobs behind old new e (blobs_out new (Err e) k))

  module _ (mid : Written W A) (first : AddsBlobs ws (blobs_at r found.files.items) old mid (Ok tt) r) where
    abbrev LinesOut : Written W A → Result (Unit {0}) SendFault → Type 0
    LinesOut new result = (ws : List Value) → HasWritten r ws mid → AreShown name ws r found.files.items → HoldsParents r view
        → Adds ws (root_items branch (length view.parents) ++ lines_on branch (named_in name ws) ws view.text (commits_called r view.parents) found.gone.items (contents_at r found.files.items)) mid new result r

    lines_out : (new : Written W A) (result : Result (Unit {0}) SendFault) → LinesOut new result → Adds us behind mid new result r
    lines_out new result k =
        let s = shown_as name namer r sound called.bytes view is.held is.parts in
        let shown : AreShown name us r found.files.items = record { namer = namer; sound = sound; held = own.held; written = subst (AreWritten us) (sym bytes_same) (all_written ws (contents (own_files made))) } in
        let lines = k us (blobs_out mid (Ok tt) first).written shown s.holds in
        let front = root_items branch (length view.parents) in
        let same : front ++ lines_on branch (named_in name us) us view.text (commits_called r view.parents) found.gone.items (contents_at r found.files.items)
        ≡ front ++ lines_on branch (named_in name us) us view.text (commits_called r view.parents) (gone_of made) (own_files made) =
        (let gone = own.gone in let files = own.files in λ i. front ++ lines_on branch (named_in name us) us view.text (commits_called r view.parents) (gone i) (files i)) in
        subst (λ items. Adds us items mid new result r) (same ∙ items_told_on name namer r sound branch made view s us) lines

    both_out : (new : Written W A) (result : Result (Unit {0}) SendFault) → Adds us behind mid new result r → Adds us all old new result r
    both_out new result k = subst (λ items. Adds us items old new result r) (sym parts) (adds_later r us us blobs behind old mid new result (blobs_out mid (Ok tt) first) k)

    stops_at_lines : (new : Written W A) (e : SendFault) → LinesOut new (Err e) → Adds vs all old new (Err e) r
    stops_at_lines new e k = stops_for r us vs all old new e (both_out new (Err e) (lines_out new (Err e) k))

    module _ (last : Written W A) (lines : LinesOut last (Ok tt)) where
      -- then some bytes give no mark
      unmarked : length us < last.output.bytes
      unmarked =
          let out = lines_out last (Ok tt) lines in
          let items = lines_on branch (named_in name us) us (text_of made) (list_of (parents_of made)) (gone_of made) (own_files made) in
          let front = root_items branch (length (list_of (parents_of made))) in
          let some = lines_some branch (named_in name us) us (text_of made) (list_of (parents_of made)) (gone_of made) (own_files made) in
          let long = ap length (items_append front items) ∙ length-append (items_text front) (items_text items) in
          let each = (blobs_out mid (Ok tt) first).written.each in
          let bytes = out.text.1.0 in
          omega (arith, some, long, each, bytes)

      marked : (new : Written W A) (result : Result (Unit {0}) SendFault) → OnOk result (WritesValue called last new) → new.output ≡ last.output → IfErr result (λ fault. fault ≡ OutOfMemory) → Adds vs all old new result r
      marked new (Ok u) value out fault =
          let k = both_out last (Ok tt) (lines_out last (Ok tt) lines) in
          let there = (kind_held name namer r sound kinds.Commit called.bytes is.held).0 in
          record {
            written = subst (λ v. HasWritten r (v ∷ us) new) (commit_stands name namer r sound called.bytes is.held).0 (value name r us namer sound there k.written unmarked);
            told = tt;
            text = subst (λ s. Writes old.output s (items_text all) (Ok tt)) (sym out) k.text;
          }
      marked new (Err e) value out fault =
          let k = both_out last (Ok tt) (lines_out last (Ok tt) lines) in
          let told : e ≢ Damaged = λ q. (let o : OutOfMemory ≡ Damaged = sym fault ∙ q in cc o) in
          stops_behind r vs all old last new e told (ap stop fault) out k.text

-- ---- of the repository that is told

module _ {W A : Type 0} (name : Kind → Bytes → Bytes) (namer : IsNamer name) (branch : Bytes) (called : Name) (view : CommitParts) (old : Written W A) where
  abbrev AddsCommit : Option Records → Written W A → Result (Unit {0}) SendFault → Type 0
  AddsCommit told new result = IfSome told (λ r. (ws : List Value) → HasWritten r ws old → Adds (with_changes ws (commit_at r called)) (items_of (one_on name branch ws (commit_at r called))) old new result r)

  module _ {B : Type 0} (found : Differences B) where
    own_is : (r : Records) → IsCommitOf name view r called → OfItsParts name view r found → AreOwn r (commit_at r called) found
    own_is r is o = o called is

    pub files_told : (told : Option Records) → IfSome told (λ r. IsCommitOf name view r called) → IfSome told (λ r. OfItsParts name view r found) → IfSome told (HaveFiles found.files.items)
    files_told None is o = tt
    files_told (Some r) is o = (own_is r is o).held

    pub blobs_stop_told : (told : Option Records) (new : Written W A) (e : SendFault) → IfSome told (IsSound name) → IfSome told (λ r. IsCommitOf name view r called) → IfSome told (λ r. OfItsParts name view r found)
        → IfSome told (λ r. (ws : List Value) → HasWritten r ws old → AddsBlobs ws (blobs_at r found.files.items) old new (Err e) r) → AddsCommit told new (Err e)
    blobs_stop_told None new e s is o k = tt
    blobs_stop_told (Some r) new e s is o k = λ ws h. stops_at_blobs name namer r s branch called view is found (own_is r is o) ws old new e (k ws h)

    module _ (mid : Written W A) where
      abbrev BlobsOut : Option Records → Type 0
      BlobsOut told = IfSome told (λ r. (ws : List Value) → HasWritten r ws old → AddsBlobs ws (blobs_at r found.files.items) old mid (Ok tt) r)

      -- the lines go out, whatever was written
      abbrev AddsLines : Written W A → Result (Unit {0}) SendFault → Type 0
      AddsLines new result = (name : Kind → Bytes → Bytes) (r : Records) (ws : List Value) → HasWritten r ws mid → AreShown name ws r found.files.items → HoldsParents r view
          → Adds ws (root_items branch (length view.parents) ++ lines_on branch (named_in name ws) ws view.text (commits_called r view.parents) found.gone.items (contents_at r found.files.items)) mid new result r

      pub lines_stop_told : (told : Option Records) (new : Written W A) (e : SendFault) → IfSome told (IsSound name) → IfSome told (λ r. IsCommitOf name view r called) → IfSome told (λ r. OfItsParts name view r found)
          → BlobsOut told → AddsLines new (Err e) → AddsCommit told new (Err e)
      lines_stop_told None new e s is o b k = tt
      lines_stop_told (Some r) new e s is o b k = λ ws h. stops_at_lines name namer r s branch called view is found (own_is r is o) ws old mid (b ws h) new e (k name r)

      pub marked_told : (told : Option Records) (last new : Written W A) (result : Result (Unit {0}) SendFault) → IfSome told (IsSound name) → IfSome told (λ r. IsCommitOf name view r called) → IfSome told (λ r. OfItsParts name view r found)
          → BlobsOut told → AddsLines last (Ok tt) → OnOk result (WritesValue called last new) → new.output ≡ last.output → IfErr result (λ fault. fault ≡ OutOfMemory) → AddsCommit told new result
      marked_told None last new result s is o b k value out fault = tt
      marked_told (Some r) last new result s is o b k value out fault = λ ws h.
          marked name namer r s branch called view is found (own_is r is o) ws old mid (b ws h) last (k name r) new result value out fault
