-- The lines of what differs, sent one after another.
use Rattle.std.proofs.Common.{◌≡◌, ◌≢◌, ℕ, ◌<◌, true, false, List, [], ◌∷◌, ◌++◌, length, map, take, drop, suc, get_or, None, Some, Result, Ok, Err, sym, ap, ◌∙◌, subst}
use Rattle.std.specs.List.{flat_map}
use Rattle.std.proofs.lemmas.Grind.{flat_map-append}
use Rattle.std.proofs.lemmas.List.{map-append}
use Rattle.gx_model.specs.declared.objects.Kind.{Kind}
use Rattle.gx_model.specs.declared.objects.Kind.TheVariants as kinds
use Rattle.gx_model.specs.declared.objects.Mode.TheVariants.{Gitlink}
use Rattle.gx_model.specs.Export.{change_items, mark_text}
use Rattle.gx_model.specs.Histories.Values.{Value, blob_value}
use Rattle.gx_model.specs.Histories.{Records, is_in}
use Rattle.gx_model.specs.Objects.{hex}
use Rattle.gx_model.specs.Records.HistoryOf.{bytes_of_blob, contents_of, named_values}
use Rattle.gx_model.specs.Streams.Commands.{Remove}
use Rattle.gx_model.specs.Streams.Items.{Item, Line}
use Rattle.gx_model.specs.Texts.{Bytes}
use Rattle.gx_model.specs.Texts.Paths.{Path, path_text, printed}
use Rattle.gx_model.proofs.ObjectTexts.OneTree.{all_left, all_right}
use Rattle.gx_model.proofs.Records.HeldValues.{holds_held, kind_held}
use Rattle.gx_rev.specs.Objects.{IsHeldAs, value_at}
use Rattle.gx_export.specs.ChangedParts.{differing_lines}
use Rattle.gx_export.specs.Compared.{gone_items}
use Rattle.gx_export.specs.FileTexts.{AreWritten}
use Rattle.gx_export.specs.Outputs.{Sent, Writes}
use Rattle.gx_export.specs.Texts.{file_items, file_line}
use Rattle.gx_export.specs.declared.fault.ExportFault.{ExportFault}
use Rattle.gx_export.proofs.BlobLists.{one_bytes}
use Rattle.gx_export.proofs.CommitLines.{file_dataref, file_held}
use Rattle.gx_export.proofs.FileLines.{lines_append, one_line}
use Rattle.gx_export.proofs.Numbering.{blob_is}
use Rattle.gx_differences.specs.Differences.{shown_files}
use Rattle.gx_differences.specs.declared.differences.ChangedFile.{ChangedFile}
use Rattle.gx_sending.specs.Faults.{of_export}
use Rattle.gx_sending.specs.Files.{AreShown, blobs_at, contents_at}
use Rattle.gx_sending.specs.Marks.{Adds, HasWritten, mark_at, mark_in}
use Rattle.gx_sending.specs.declared.fault.SendFault.{SendFault}
use Rattle.gx_sending.specs.declared.written.Written.{Written}
use Rattle.gx_sending.proofs.SentBlobs.{blobs_behind, held_file}
use Rattle.gx_sending.proofs.Marks.{mark_is, no_mark}
use Rattle.gx_sending.proofs.Sending.{adds_bytes, adds_later, listed_parts, sink_fails, stops_sooner}

-- ---- what is gone

pub gone_behind : (xs ys : List Path) → gone_items (xs ++ ys) ≡ gone_items xs ++ gone_items ys
gone_behind xs ys = ap (flat_map change_items) (map-append Remove xs ys) ∙ flat_map-append change_items (map Remove xs) (map Remove ys)

-- ---- files

module _ {A : Type 0} (r : Records) (ws : List Value) where
  abbrev pub lines_at : List (ChangedFile A) → List Item
  lines_at files = file_items ws (contents_at r files)

  pub lines_behind : (fs gs : List (ChangedFile A)) → lines_at (fs ++ gs) ≡ lines_at fs ++ lines_at gs
  lines_behind fs gs =
      ap (λ es. file_items ws (contents_of (named_values r.records) es)) (map-append _ fs gs) ∙ lines_append (named_values r.records) ws (shown_files fs) (shown_files gs)

  -- the line of a gitlink
  pub link_line : (f : ChangedFile A) → f.mode ≡ Gitlink → file_line Gitlink (hex f.name.bytes) (printed (path_text f.path)) ∷ [] ≡ lines_at (f ∷ [])
  link_line f e = sym (ap (λ m. file_items ws (contents_of (named_values r.records) ((f.path, (m, f.name.bytes)) ∷ []))) e)

  module _ (name : Kind → Bytes → Bytes) where
    -- of a file at a place
    pub shown_at : (fs : List (ChangedFile A)) (i : ℕ) (f : ChangedFile A) → i < length fs → f ≡ get_or fs i f → AreShown name ws r fs → AreShown name ws r (f ∷ [])
    shown_at fs i f l e s = record {
      namer = s.namer;
      sound = s.sound;
      held = (held_file r fs i f l e s.held, tt);
      written =
          let all = subst (AreWritten ws) (ap (blobs_at r) (listed_parts fs i f l e) ∙ blobs_behind r (take i fs) (f ∷ drop (suc i) fs)) s.written in
          let behind = all_right (λ x. is_in ws (blob_value x) ≡ true) (blobs_at r (take i fs)) (blobs_at r (f ∷ drop (suc i) fs)) all in
          all_left (λ x. is_in ws (blob_value x) ≡ true) (blobs_at r (f ∷ [])) (blobs_at r (drop (suc i) fs)) (subst (AreWritten ws) (blobs_behind r (f ∷ []) (drop (suc i) fs)) behind);
    }

    -- a file that is shown has a mark
    module _ {W : Type 0} (written : Written W A) (h : HasWritten r ws written) (f : ChangedFile A) (link : f.mode ≢ Gitlink) (s : AreShown name ws r (f ∷ [])) where
      held : IsHeldAs kinds.Blob r f.name
      held = holds_held name s.namer r s.sound kinds.Blob f.name.bytes (file_held r.records f.mode f.name.bytes link s.held.0.file s.held.0.held)

      value_is : value_at r f.name ≡ blob_value (bytes_of_blob (value_at r f.name))
      value_is = blob_is name (value_at r f.name) (kind_held name s.namer r s.sound kinds.Blob f.name.bytes held).1

      mark_here : mark_at written f.name.bytes ≡ mark_in ws (blob_value (bytes_of_blob (value_at r f.name)))
      mark_here = h.marks f.name (kind_held name s.namer r s.sound kinds.Blob f.name.bytes held).0 ∙ ap (mark_in ws) value_is

      was_written : is_in ws (blob_value (bytes_of_blob (value_at r f.name))) ≡ true
      was_written = (subst (AreWritten ws) (one_bytes (named_values r.records) f.path f.mode f.name.bytes link) s.written).0

      pub not_unmarked : None ≡ mark_at written f.name.bytes → ⊥
      not_unmarked e = let o : true ≡ false = sym was_written ∙ no_mark ws (blob_value (bytes_of_blob (value_at r f.name))) (e ∙ mark_here) in cc o

      -- so its line is
      pub marked_line : (mark : ℕ) → Some mark ≡ mark_at written f.name.bytes → file_line f.mode (mark_text mark) (printed (path_text f.path)) ∷ [] ≡ lines_at (f ∷ [])
      marked_line mark e =
          let named = named_values r.records in
          let number = mark_is ws (blob_value (bytes_of_blob (value_at r f.name))) mark (e ∙ mark_here) in
          ap (λ t. file_line f.mode t (printed (path_text f.path)) ∷ []) (ap mark_text number ∙ sym (file_dataref named ws f.mode f.name.bytes link s.held.0.file))
          ∙ sym (one_line named ws f.path f.mode f.name.bytes s.held.0.file)

-- ---- all lines of a commit's differences

module _ {W A : Type 0} (r : Records) (ws : List Value) (gone : List Path) (files : List (ChangedFile A)) (old : Written W A) where
  abbrev all_lines : List Item
  all_lines = differing_lines ws gone (contents_at r files)

  abbrev ending : List Item
  ending = Line [] ∷ []

  pub gone_stops : (new : Written W A) (e : SendFault) → Adds ws (gone_items gone) old new (Err e) r → Adds ws all_lines old new (Err e) r
  gone_stops new e h = stops_sooner r ws ws (gone_items gone) (lines_at r ws files ++ ending) old new e h

  module _ (mid : Written W A) (h : Adds ws (gone_items gone) old mid (Ok tt) r) where
    pub files_stop : (new : Written W A) (e : SendFault) → Adds ws (lines_at r ws files) mid new (Err e) r → Adds ws all_lines old new (Err e) r
    files_stop new e k = adds_later r ws ws (gone_items gone) (lines_at r ws files ++ ending) old mid new (Err e) h (stops_sooner r ws ws (lines_at r ws files) ending mid new e k)

    module _ (last : Written W A) (k : Adds ws (lines_at r ws files) mid last (Ok tt) r) (after : Sent) where
      behind : (new : Written W A) (result : Result (Unit {0}) SendFault) → Adds ws ending last new result r → Adds ws all_lines old new result r
      behind new result l = adds_later r ws ws (gone_items gone) (lines_at r ws files ++ ending) old mid new result h (adds_later r ws ws (lines_at r ws files) ending mid last new result k l)

      pub end_fails : (e : ExportFault) → Writes last.output after (10 ∷ []) (Err e) → Adds ws all_lines old (record last { output = after }) (Err (of_export e)) r
      end_fails e w = behind (record last { output = after }) (Err (of_export e)) (sink_fails r ws ending last after e w)

      pub all_sent : Writes last.output after (10 ∷ []) (Ok tt) → Adds ws all_lines old (record last { output = after }) (Ok tt) r
      all_sent w = behind (record last { output = after }) (Ok tt) (adds_bytes r ws ending last after k.written w)
