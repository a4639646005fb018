-- The blobs and the lines of files, gathered one after the other.
use Rattle.std.proofs.Common.{◌≡◌, ◌≢◌, ◌++◌, ℕ, ◌-◌, ◌<◌, suc, Bool, true, false, cond, [], ◌∷◌, List, length, slice_range, drop, Option, Some, Result, Ok, Err, refl, sym, ap, ◌∙◌, subst, append_assoc, append-nil}
use Rattle.std.specs.Prelude.{◌||◌}
use Rattle.std.specs.Result.{OnOk}
use Rattle.std.specs.List.{list_all, AllByRecursion}
use Rattle.std.proofs.lemmas.List.{map-append}
use Rattle.std.proofs.lemmas.Grind.{flat_map-append}
use Rattle.gx_model.specs.declared.objects.Kind.{Kind}
use Rattle.gx_model.specs.declared.objects.Mode.{Mode}
use Rattle.gx_model.specs.declared.objects.Mode.TheVariants.{File, Exec, Link, Gitlink, Dir}
use Rattle.gx_model.specs.Export.{blob_commands, contents, item_text, items_text, mark_text, number_in, with_blobs}
use Rattle.gx_model.specs.Histories.Files.{FileMap}
use Rattle.gx_model.specs.Histories.{Records, is_in}
use Rattle.gx_model.specs.Records.HistoryOf.{Named, bytes_of_blob, content_of, contents_of, named_values, placed, value_of_name}
use Rattle.gx_model.specs.Objects.NameMaps.{IsHeldTree}
use Rattle.gx_model.specs.Objects.{Entry as TreeEntry, hex}
use Rattle.gx_model.specs.Texts.Paths.{Path, is_short, path_text, printed}
use Rattle.gx_model.specs.Records.Sound.{IsHeldAs}
use Rattle.gx_model.specs.Texts.{Bytes}
use Rattle.gx_model.specs.Histories.Values.{Commit, Value, blob_value, commit_value, same_value}
use Rattle.gx_model.specs.Streams.Commands.{Blob}
use Rattle.gx_model.proofs.Histories.SameValues.{same_value_tells}
use Rattle.gx_model.proofs.Histories.FileMapEdits.{parts_of}
use Rattle.gx_model.proofs.ObjectTexts.OneTree.{all_left, all_right}
use Rattle.gx_object.specs.declared.name.Name.{Name}
use Rattle.gx_tree.specs.HeldTrees.{IsHeldEntry, IsHeldWithin}
use Rattle.gx_tree.specs.Lists.{below}
use Rattle.gx_tree.specs.Nodes.{Kept, Level, files, file, folder, kept_map}
use Rattle.gx_tree.specs.Writes.{kept_leaf}
use Rattle.gx_tree.proofs.HeldLevels.{IsLoading, IsNext, entries_held, within_all}
use Rattle.gx_tree.proofs.LevelsOf.{IsLevel-level_of, files-level_of, level_of}
use Rattle.gx_tree.proofs.Listed.{IsListed, all_listed, below-placed, below_root, map_short}
use Rattle.gx_export.specs.FileTexts.{AreKept, AreWritten, Gathers, IsDirectoryText, IsEntryBelow, IsFileLine, IsGathered, IsKept, IsLinesOf, IsLinesOfTree, IsTreeBelow, bytes_in, entry_file, lines_text}
use Rattle.gx_export.specs.Marks.{Adds, HasWritten}
use Rattle.gx_export.specs.Outputs.{Sent, Writes}
use Rattle.gx_export.specs.Texts.{file_items, file_line, items_of}
use Rattle.gx_export.specs.declared.fault.ExportFault.{ExportFault}
use Rattle.gx_export.specs.declared.file_lines.FileLine.{FileLine}
use Rattle.gx_export.specs.declared.lines.Directory.{Directory}
use Rattle.gx_export.specs.declared.lines.Lines.{Lines}
use Rattle.gx_export.specs.declared.written.Written.{Written}
use Rattle.gx_export.proofs.BlobLists.{blobs_append, blobs_sooner, bytes_append, next_blobs, one_bytes}
use Rattle.gx_export.proofs.CommitLines.{file_dataref}
use Rattle.gx_export.proofs.Keeping.{all_mapped, some_mapped}
use Rattle.gx_export.proofs.FileLines.{lines_append, one_line}
use Rattle.gx_export.proofs.Numbering.{adds_nothing}
use Rattle.gx_export.proofs.Writing.{items_append}

-- ---- what was written keeps its mark

-- a value that wasn't written is another one than one that was
apart : (ws : List Value) (u v : Value) → is_in ws u ≡ false → is_in ws v ≡ true → same_value u v ≡ false
apart ws u v n h = by (same_value u v) refl
  where
    by : (b : Bool) → same_value u v ≡ b → same_value u v ≡ false
    by false e = e
    by true e = absurd (let o : true ≡ false = sym h ∙ ap (is_in ws) (sym ((same_value_tells u v).0 e)) ∙ n in cc o)

kept_in_more : (ws : List Value) (u v : Value) → is_in ws v ≡ true → is_in (u ∷ ws) v ≡ true
kept_in_more ws u v h = by (same_value v u)
  where
    by : (b : Bool) → (b || is_in ws v) ≡ true
    by true = refl
    by false = h

-- one more
still_one : (ws : List Value) (x : Bytes) (v : Value) → is_in ws v ≡ true → (is_in (with_blobs ws (x ∷ [])) v ≡ true) × (number_in (with_blobs ws (x ∷ [])) v ≡ number_in ws v)
still_one ws x v h = by (is_in ws (blob_value x)) refl
  where
    by : (b : Bool) → is_in ws (blob_value x) ≡ b → (is_in (cond b ws (blob_value x ∷ ws)) v ≡ true) × (number_in (cond b ws (blob_value x ∷ ws)) v ≡ number_in ws v)
    by true e = (h, refl)
    by false e = (kept_in_more ws (blob_value x) v h, ap (λ b. cond b (suc (length ws)) (number_in ws v)) (apart ws (blob_value x) v e h))

-- what was written is so, and has its mark, after more blobs
pub still : (ws : List Value) (xs : List Bytes) (v : Value) → is_in ws v ≡ true → (is_in (with_blobs ws xs) v ≡ true) × (number_in (with_blobs ws xs) v ≡ number_in ws v)
still ws [] v h = (h, refl)
still ws (x ∷ xs) v h =
    let one = still_one ws x v h in
    let rest = still (with_blobs ws (x ∷ [])) xs v one.0 in
    (rest.0, rest.1 ∙ one.1)

pub still_written : (ws : List Value) (xs ys : List Bytes) → AreWritten ws ys → AreWritten (with_blobs ws xs) ys
still_written ws xs [] h = tt
still_written ws xs (y ∷ ys) h = ((still ws xs (blob_value y) h.0).0, still_written ws xs ys h.1)

same_in : (u : Value) → same_value u u ≡ true
same_in u = (same_value_tells u u).1 refl

first_written : (ws : List Value) (x : Bytes) → is_in (with_blobs ws (x ∷ [])) (blob_value x) ≡ true
first_written ws x = by (is_in ws (blob_value x)) refl
  where
    by : (b : Bool) → is_in ws (blob_value x) ≡ b → is_in (cond b ws (blob_value x ∷ ws)) (blob_value x) ≡ true
    by true e = e
    by false e = ap (λ b. b || is_in ws (blob_value x)) (same_in (blob_value x))

-- blobs that go out are written then
pub all_written : (ws : List Value) (xs : List Bytes) → AreWritten (with_blobs ws xs) xs
all_written ws [] = tt
all_written ws (x ∷ xs) = ((still (with_blobs ws (x ∷ [])) xs (blob_value x) (first_written ws x)).0, all_written (with_blobs ws (x ∷ [])) xs)

-- ---- lines stay

module _ (named : Named) (ws us : List Value) where
  -- a mark that was given stays
  abbrev pub Keeps : Type 0
  Keeps = (x : Bytes) → is_in ws (blob_value x) ≡ true → (is_in us (blob_value x) ≡ true) × (number_in us (blob_value x) ≡ number_in ws (blob_value x))

  line_stays : (path : Path) (mode : Mode) (n : Bytes) (es : FileMap Bytes) → Keeps → (AreWritten ws (bytes_in named es) → lines_text named us es ≡ lines_text named ws es) → AreWritten ws (bytes_in named ((path, (mode, n)) ∷ es))
      → lines_text named us ((path, (mode, n)) ∷ es) ≡ lines_text named ws ((path, (mode, n)) ∷ es)
  line_stays path File n es k ih h = let e = (k (content_of named File n) h.0).1 in let rest = ih h.1 in λ i. item_text (file_line File (mark_text (e i)) (printed (path_text path))) ++ rest i
  line_stays path Exec n es k ih h = let e = (k (content_of named Exec n) h.0).1 in let rest = ih h.1 in λ i. item_text (file_line Exec (mark_text (e i)) (printed (path_text path))) ++ rest i
  line_stays path Link n es k ih h = let e = (k (content_of named Link n) h.0).1 in let rest = ih h.1 in λ i. item_text (file_line Link (mark_text (e i)) (printed (path_text path))) ++ rest i
  line_stays path Dir n es k ih h = let e = (k (content_of named Dir n) h.0).1 in let rest = ih h.1 in λ i. item_text (file_line Dir (mark_text (e i)) (printed (path_text path))) ++ rest i
  line_stays path Gitlink n es k ih h = ap (λ rest. item_text (file_line Gitlink (hex n) (printed (path_text path))) ++ rest) (ih h)

  -- the lines of files whose blobs were written stay
  pub lines_stay : (names : FileMap Bytes) → Keeps → AreWritten ws (bytes_in named names) → lines_text named us names ≡ lines_text named ws names
  lines_stay [] k h = refl
  lines_stay (e ∷ es) k h = line_stays e.0 e.1.0 e.1.1 es k (lines_stay es k) h

written_stay : (ws us : List Value) (xs : List Bytes) → ((x : Bytes) → is_in ws (blob_value x) ≡ true → (is_in us (blob_value x) ≡ true) × (number_in us (blob_value x) ≡ number_in ws (blob_value x))) → AreWritten ws xs → AreWritten us xs
written_stay ws us [] k h = tt
written_stay ws us (x ∷ xs) k h = ((k x h.0).0, written_stay ws us xs k h.1)

-- so what is kept is kept
module _ (name : Kind → Bytes → Bytes) (r : Records) (ws us : List Value) (k : Keeps [] ws us) where
  lines_still : (names : FileMap Bytes) (text : Bytes) → IsLinesOf r ws names text → IsLinesOf r us names text
  lines_still names text l = record {
    lines = l.lines ∙ sym (lines_stay (named_values r.records) ws us names k l.written);
    written = written_stay ws us (bytes_in (named_values r.records) names) k l.written;
  }

  file_still : (path text : Bytes) (line : FileLine) → IsFileLine r ws path text line → IsFileLine r us path text line
  file_still path text line k = record {
    order = k.order;
    within = k.within;
    found = λ front p. lines_still (entry_file front line.entry) (slice_range text line.start line.end) (k.found front p);
  }

  directory_still : (path : Bytes) (tree : Option Name) (files : List FileLine) (text : Bytes) → IsDirectoryText name r ws path tree files text → IsDirectoryText name r us path tree files text
  directory_still path tree files text d = record {
    whole = some_mapped (λ t. IsLinesOfTree name r ws path t.bytes text) (λ t. IsLinesOfTree name r us path t.bytes text) tree (λ t k front g p h. lines_still (below front g) text (k front g p h)) d.whole;
    each = all_mapped (IsFileLine r ws path text) (IsFileLine r us path text) files (file_still path text) d.each;
  }

  module _ {A : Type 0} where
    all_still : (text : Bytes) (ds : List (Directory A)) → AllByRecursion (IsKept name r ws text) ds → AllByRecursion (IsKept name r us text) ds
    all_still text ds = all_mapped (IsKept name r ws text) (IsKept name r us text) ds (λ d s. record { order = s.order; within = s.within; lines = directory_still d.path.items d.tree d.files.items (slice_range text d.start d.end) s.lines })

    pub kept_still : (lines : Lines A) → AreKept name r ws lines → AreKept name r us lines
    kept_still lines h = record { now = all_still lines.text.items lines.directories.items h.now; earlier = all_still lines.earlier.items lines.left.items h.earlier }

-- after more blobs
pub kept_after : {A : Type 0} (name : Kind → Bytes → Bytes) (r : Records) (ws : List Value) (xs : List Bytes) (lines : Lines A) → AreKept name r ws lines → AreKept name r (with_blobs ws xs) lines
kept_after name r ws xs = kept_still name r ws (with_blobs ws xs) (λ x h. still ws xs (blob_value x) h)

-- after a commit
pub kept_commit : {A : Type 0} (name : Kind → Bytes → Bytes) (r : Records) (ws : List Value) (c : Commit) (lines : Lines A) → AreKept name r ws lines → AreKept name r (commit_value c ∷ ws) lines
kept_commit name r ws c = kept_still name r ws (commit_value c ∷ ws) (λ x h. (h, refl))

-- blobs that were written don't go out again
skipped : (ws : List Value) (xs : List Bytes) → AreWritten ws xs → (with_blobs ws xs ≡ ws) × (blob_commands ws xs ≡ [])
skipped ws [] h = (refl, refl)
skipped ws (x ∷ xs) h =
    let rest = skipped ws xs h.1 in (
      ap (λ b. with_blobs (cond b ws (blob_value x ∷ ws)) xs) h.0 ∙ rest.0,
      ap (λ b. cond b (blob_commands ws xs) (Blob (record { mark = Some (suc (length ws)); bytes = x }) ∷ blob_commands (blob_value x ∷ ws) xs)) h.0 ∙ rest.1,
    )

text_append : (named : Named) (ws : List Value) (xs ys : FileMap Bytes) → lines_text named ws (xs ++ ys) ≡ lines_text named ws xs ++ lines_text named ws ys
text_append named ws xs ys = ap items_text (lines_append named ws xs ys) ∙ items_append (file_items ws (contents_of named xs)) (file_items ws (contents_of named ys))

-- ---- files behind others

module _ {W A : Type 0} (name : Kind → Bytes → Bytes) (r : Records) (ws : List Value) (xs ys : FileMap Bytes) (old mid new : Written W A) (first next last : Lines A) where
  abbrev named : Named
  named = named_values r.records

  abbrev us : List Value
  us = with_blobs ws (bytes_in named xs)

  both_bytes : with_blobs us (bytes_in named ys) ≡ with_blobs ws (bytes_in named (xs ++ ys))
  both_bytes = sym (blobs_append ws (bytes_in named xs) (bytes_in named ys)) ∙ ap (with_blobs ws) (sym (bytes_append named xs ys))

  both_lines : lines_text named us xs ++ lines_text named (with_blobs us (bytes_in named ys)) ys ≡ lines_text named (with_blobs us (bytes_in named ys)) (xs ++ ys)
  both_lines =
      let vs = with_blobs us (bytes_in named ys) in
      let stay = lines_stay named us vs xs (λ x h. still us (bytes_in named ys) (blob_value x) h) (all_written ws (bytes_in named xs)) in
      ap (λ t. t ++ lines_text named vs ys) (sym stay) ∙ sym (text_append named vs xs ys)

  both_add : (result : Result (Unit {0}) ExportFault) → Adds r us (items_of (blob_commands ws (bytes_in named xs))) old mid (Ok tt) → Adds r (with_blobs us (bytes_in named ys)) (items_of (blob_commands us (bytes_in named ys))) mid new result
      → Adds r (with_blobs ws (bytes_in named (xs ++ ys))) (items_of (blob_commands ws (bytes_in named (xs ++ ys)))) old new result
  both_add result h k = subst (λ bs. Adds r (with_blobs ws bs) (items_of (blob_commands ws bs)) old new result) (sym (bytes_append named xs ys)) (next_blobs r ws (bytes_in named xs) (bytes_in named ys) old mid new result h k)

  pub gathers_next : IsGathered name r ws xs old mid first next → IsGathered name r us ys mid new next last → IsGathered name r ws (xs ++ ys) old new first last
  gathers_next h k = record {
    adds = both_add (Ok tt) h.adds k.adds;
    text = k.text ∙ ap (λ t. t ++ lines_text named (with_blobs us (bytes_in named ys)) ys) h.text ∙ append_assoc first.text.items (lines_text named us xs) (lines_text named (with_blobs us (bytes_in named ys)) ys)
        ∙ ap (λ t. first.text.items ++ t) (both_lines ∙ ap (λ vs. lines_text named vs (xs ++ ys)) both_bytes);
    kept = subst (λ vs. AreKept name r vs last) both_bytes k.kept;
  }

  pub gathers_stop : (e : ExportFault) → IsGathered name r ws xs old mid first next → Writes mid.output new.output (items_text (items_of (blob_commands us (bytes_in named ys)))) (Err e) → Writes old.output new.output (items_text (items_of (blob_commands ws (bytes_in named (xs ++ ys))))) (Err e)
  gathers_stop e h k = both_add (Err e) h.adds k

pub gathers_sooner : (named : Named) (ws : List Value) (xs ys : FileMap Bytes) (old new : Sent) (e : ExportFault) → Writes old new (items_text (items_of (blob_commands ws (bytes_in named xs)))) (Err e) → Writes old new (items_text (items_of (blob_commands ws (bytes_in named (xs ++ ys))))) (Err e)
gathers_sooner named ws xs ys old new e h = subst (λ bs. Writes old new (items_text (items_of (blob_commands ws bs))) (Err e)) (sym (bytes_append named xs ys)) (blobs_sooner old new ws (bytes_in named xs) (bytes_in named ys) e h)

drop_front : (xs ys : Bytes) → drop (length xs) (xs ++ ys) ≡ ys
drop_front [] ys = refl
drop_front (x ∷ xs) ys = drop_front xs ys

-- what was gathered are the last lines
pub lines_gathered : {W A : Type 0} (name : Kind → Bytes → Bytes) (r : Records) (ws : List Value) (names : FileMap Bytes) (old new : Written W A) (first last : Lines A) (start : ℕ) → length first.text.items ≡ start → IsGathered name r ws names old new first last
    → IsLinesOf r (with_blobs ws (bytes_in (named_values r.records) names)) names (drop start last.text.items)
lines_gathered name r ws names old new first last start e k =
    let lines = lines_text (named_values r.records) (with_blobs ws (bytes_in (named_values r.records) names)) names in
    record {
      lines = ap (drop start) k.text ∙ ap (λ n. drop n (first.text.items ++ lines)) (sym e) ∙ drop_front first.text.items lines;
      written = all_written ws (bytes_in (named_values r.records) names);
    }

-- ---- one file

module _ {W A : Type 0} (name : Kind → Bytes → Bytes) (r : Records) (ws : List Value) (path : Path) (mode : Mode) (n : Bytes) (old new : Written W A) (first last : Lines A) where
  abbrev here : FileMap Bytes
  here = (path, (mode, n)) ∷ []

  -- a gitlink has no blob
  pub gathers_gitlink : mode ≡ Gitlink → HasWritten r ws old → last.text.items ≡ first.text.items ++ items_text (file_line Gitlink (hex n) (printed (path_text path)) ∷ []) → AreKept name r ws last → IsGathered name r ws here old old first last
  gathers_gitlink e h k kept =
      let link : IsGathered name r ws ((path, (Gitlink, n)) ∷ []) old old first last = record { adds = adds_nothing r ws old h; text = k; kept = kept } in
      subst (λ m. IsGathered name r ws ((path, (m, n)) ∷ []) old old first last) (sym e) link

  module _ (link : mode ≢ Gitlink) (dir : mode ≢ Dir) where
    bytes_here : bytes_in (named_values r.records) here ≡ bytes_of_blob (value_of_name r.records n) ∷ []
    bytes_here = one_bytes (named_values r.records) path mode n link

    -- another file's blob goes out
    pub gathers_file : (mark : ℕ) → Adds r (with_blobs ws (bytes_of_blob (value_of_name r.records n) ∷ [])) (items_of (blob_commands ws (bytes_of_blob (value_of_name r.records n) ∷ []))) old new (Ok tt)
        → mark ≡ number_in (with_blobs ws (bytes_of_blob (value_of_name r.records n) ∷ [])) (blob_value (bytes_of_blob (value_of_name r.records n)))
        → last.text.items ≡ first.text.items ++ items_text (file_line mode (mark_text mark) (printed (path_text path)) ∷ []) → AreKept name r ws last → IsGathered name r ws here old new first last
    gathers_file mark adds m text kept =
        let named = named_values r.records in
        let x = bytes_of_blob (value_of_name r.records n) in
        let us = with_blobs ws (x ∷ []) in
        let line = ap mark_text m ∙ sym (file_dataref named us mode n link dir) in
        let lines = ap (λ t. items_text (file_line mode t (printed (path_text path)) ∷ [])) line ∙ ap items_text (sym (one_line named us path mode n dir)) in
        record {
          adds = subst (λ bs. Adds r (with_blobs ws bs) (items_of (blob_commands ws bs)) old new (Ok tt)) (sym bytes_here) adds;
          text = text ∙ ap (λ t. first.text.items ++ t) (lines ∙ ap (λ bs. lines_text named (with_blobs ws bs) here) (sym bytes_here));
          kept = kept_after name r ws (bytes_in named here) last kept;
        }

    pub file_stops : (e : ExportFault) → Writes old.output new.output (items_text (items_of (blob_commands ws (bytes_of_blob (value_of_name r.records n) ∷ [])))) (Err e) → Writes old.output new.output (items_text (items_of (blob_commands ws (bytes_in (named_values r.records) here)))) (Err e)
    file_stops e h = subst (λ bs. Writes old.output new.output (items_text (items_of (blob_commands ws bs))) (Err e)) (sym bytes_here) h

-- ---- the entries of a tree

below_append : (front : Path) (f g : FileMap Bytes) → below front (f ++ g) ≡ below front f ++ below front g
below_append front f g = map-append _ f g

files_more : (front : Path) (done : Level) (c : Bytes) (k : Kept) → below front (files (done ++ (c, k) ∷ [])) ≡ below front (files done) ++ below front (placed c (kept_map k))
files_more front done c k =
    ap (below front) (flat_map-append (λ e. placed e.0 (kept_map e.1)) done ((c, k) ∷ []) ∙ ap (λ t. files done ++ t) (append-nil (placed c (kept_map k))))
    ∙ below_append front (files done) (placed c (kept_map k))

-- the files of these entries are gathered, and those of the others are to come
pub record IsWalking {W A : Type 0} (name : Kind → Bytes → Bytes) (r : Records) (ws : List Value) (front : Path) (all : Level) (left : List TreeEntry) (old new : Written W A) (first last : Lines A) : Type 0 where
  pub done : Level
  pub loading : IsLoading name all left done
  pub gathered : IsGathered name r ws (below front (files done)) old new first last

pub nothing_gathered : {W A : Type 0} (name : Kind → Bytes → Bytes) (r : Records) (ws : List Value) (written : Written W A) (lines : Lines A) → HasWritten r ws written → AreKept name r ws lines → IsGathered name r ws [] written written lines lines
nothing_gathered name r ws written lines h kept = record { adds = adds_nothing r ws written h; text = sym (append-nil lines.text.items); kept = kept }

-- files whose blobs were written, and whose lines are there
pub gathered_again : {W A : Type 0} (name : Kind → Bytes → Bytes) (r : Records) (ws : List Value) (names : FileMap Bytes) (written : Written W A) (first last : Lines A) (lines : Bytes) → HasWritten r ws written → last.text.items ≡ first.text.items ++ lines → IsLinesOf r ws names lines → AreKept name r ws last → IsGathered name r ws names written written first last
gathered_again name r ws names written first last lines h e l kept =
    let named = named_values r.records in
    let s = skipped ws (bytes_in named names) l.written in
    record {
      adds = subst (λ us. Adds r us (items_of (blob_commands ws (bytes_in named names))) written written (Ok tt)) (sym s.0) (subst (λ cs. Adds r ws (items_of cs) written written (Ok tt)) (sym s.1) (adds_nothing r ws written h));
      text = e ∙ ap (λ t. first.text.items ++ t) (l.lines ∙ ap (λ us. lines_text named us names) (sym s.0));
      kept = kept_after name r ws (bytes_in named names) last kept;
    }

module _ {W A : Type 0} (name : Kind → Bytes → Bytes) (r : Records) (ws : List Value) (front : Path) (all : Level) (before left : List TreeEntry) (e : TreeEntry) (P : Bytes × Kept → Type 0) (old mid new : Written W A) (first next last : Lines A) where
  module _ (w : IsWalking name r ws front all before old mid first next) (n : IsNext name P all e left w.done) where
    -- the files of one entry more
    pub walking_next : IsGathered name r (with_blobs ws (bytes_in (named_values r.records) (below front (files w.done)))) (below front (placed e.component (kept_map n.kept))) mid new next last → IsWalking name r ws front all left old new first last
    walking_next k = record {
      done = w.done ++ (e.component, n.kept) ∷ [];
      loading = n.more (e.component, n.kept) refl;
      gathered = subst (λ fs. IsGathered name r ws fs old new first last) (sym (files_more front w.done e.component n.kept))
          (gathers_next name r ws (below front (files w.done)) (below front (placed e.component (kept_map n.kept))) old mid new first next last w.gathered k);
    }

    -- or the export stops within them
    pub walking_stops : (f : FileMap Bytes) (fault : ExportFault) → files all ≡ f → Writes mid.output new.output (items_text (items_of (blob_commands (with_blobs ws (bytes_in (named_values r.records) (below front (files w.done)))) (bytes_in (named_values r.records) (below front (placed e.component (kept_map n.kept))))))) (Err fault)
        → Writes old.output new.output (items_text (items_of (blob_commands ws (bytes_in (named_values r.records) (below front f))))) (Err fault)
    walking_stops f fault whole k =
        let named = named_values r.records in
        let l = n.more (e.component, n.kept) refl in
        let here = gathers_stop name r ws (below front (files w.done)) (below front (placed e.component (kept_map n.kept))) old mid new first next last fault w.gathered k in
        let done = w.done ++ (e.component, n.kept) ∷ [] in
        let these = subst (λ fs. Writes old.output new.output (items_text (items_of (blob_commands ws (bytes_in named fs)))) (Err fault)) (sym (files_more front w.done e.component n.kept)) here in
        let parts : below front (files done) ++ below front (files l.rest) ≡ below front f = sym (below_append front (files done) (files l.rest)) ∙ ap (below front) (sym (flat_map-append (λ e. placed e.0 (kept_map e.1)) done l.rest) ∙ ap files (sym l.split) ∙ whole) in
        subst (λ fs. Writes old.output new.output (items_text (items_of (blob_commands ws (bytes_in named fs)))) (Err fault)) parts (gathers_sooner named ws (below front (files done)) (below front (files l.rest)) old.output new.output fault these)

-- ---- what is held below a path

all_placed : (P : Mode × Bytes → Type 0) (c : Bytes) (f : FileMap Bytes) → AllByRecursion (λ e. P e.1) (placed c f) → AllByRecursion (λ e. P e.1) f
all_placed P c [] h = tt
all_placed P c (e ∷ f) h = (h.0, all_placed P c f h.1)

module _ (name : Kind → Bytes → Bytes) (r : Records) (room : ℕ) (front : Path) where
  abbrev HeldLeaf : Mode × Bytes → Type 0
  HeldLeaf x = IsHeldAs r.records x.0 x.1

  all_entries : (es : Level) → AllByRecursion (IsHeldEntry name r.records room) es → AllByRecursion (IsListed front) es → AllByRecursion (λ e. HeldLeaf e.1) (files es) → AllByRecursion (IsEntryBelow name r room front) es
  all_entries [] h l a = tt
  all_entries (e ∷ es) h l a =
      let here = all_left (λ f. HeldLeaf f.1) (placed e.0 (kept_map e.1)) (files es) a in
      let rest = all_right (λ f. HeldLeaf f.1) (placed e.0 (kept_map e.1)) (files es) a in
      (record { entry = h.0; component = l.0.0; short = l.0.1; paths = l.0.2; held = all_placed HeldLeaf e.0 (kept_map e.1) here }, all_entries es h.1 l.1 rest)

  -- each entry of a tree below a path
  pub entries_below : (n : Bytes) (g : FileMap Bytes) → IsTreeBelow name r room front n g → AllByRecursion (IsEntryBelow name r room front) (level_of g)
  entries_below n g h =
      let map_is = h.within.0.map in
      let whole = files-level_of g (parts_of g map_is.file_map) in
      all_entries (level_of g) (entries_held name r.records n g room h.within)
      (all_listed front (level_of g) (IsLevel-level_of g map_is) (ap (λ z. list_all (λ e. is_short e.0) (below front z)) whole ∙ h.paths))
      (subst (λ z. AllByRecursion (λ f. HeldLeaf f.1) z) (sym whole) h.held)

  module _ (c n : Bytes) (mode : Mode) where
    -- what a file names is held
    pub file_leaf : (k : Kept) → IsEntryBelow name r room front (c, k) → kept_leaf name k ≡ (mode, n) → mode ≢ Dir → IsHeldAs r.records mode n
    file_leaf (file x) h e d = subst HeldLeaf e h.held.0
    file_leaf (folder g) h e d = absurd (d (ap (λ x. x.0) (sym e)))

    pub file_below : (k : Kept) → kept_leaf name k ≡ (mode, n) → mode ≢ Dir → (front ++ c ∷ [], (mode, n)) ∷ [] ≡ below front (placed c (kept_map k))
    file_below (file x) e d = ap (λ x. (front ++ c ∷ [], x) ∷ []) (sym e)
    file_below (folder g) e d = absurd (d (ap (λ x. x.0) (sym e)))

    -- a directory's tree is held
    pub folder_tree : (k : Kept) → IsEntryBelow name r room front (c, k) → kept_leaf name k ≡ (mode, n) → mode ≡ Dir → (length c < room) × ((g : FileMap Bytes) × IsTreeBelow name r (room - length c - 1) (front ++ c ∷ []) n g)
    folder_tree (file x) h e d = absurd (h.entry (ap (λ x. x.0) e ∙ d))
    folder_tree (folder g) h e d = (h.entry.0, (g, record { within = subst (λ m. IsHeldWithin name r.records (room - length c - 1) m g) (ap (λ x. x.1) e) h.entry.1; paths = h.paths; held = h.held }))

    pub folder_below : (most : ℕ) (k : Kept) → IsHeldEntry name r.records most (c, k) → kept_leaf name k ≡ (mode, n) → mode ≡ Dir → (g : FileMap Bytes) × IsHeldTree name r.records n g × (below (front ++ c ∷ []) g ≡ below front (placed c (kept_map k)))
    folder_below most (file x) h e d = absurd (h (ap (λ x. x.0) e ∙ d))
    folder_below most (folder g) h e d = (g, subst (λ m. IsHeldTree name r.records m g) (ap (λ x. x.1) e) h.1.0, below-placed front c g)

-- ---- a whole tree

-- a held tree, from the root
pub whole_tree : (name : Kind → Bytes → Bytes) (r : Records) (n : Bytes) (g : FileMap Bytes) → IsHeldTree name r.records n g → AllByRecursion (λ e. IsHeldAs r.records e.1.0 e.1.1) g → IsTreeBelow name r 4095 [] n g
whole_tree name r n g h held = record {
  within = (h, within_all g h.map);
  paths = ap (λ z. list_all (λ e. is_short e.0) z) (below_root g) ∙ map_short g h.map.file_map;
  held = held;
}

module _ {W A : Type 0} (name : Kind → Bytes → Bytes) (r : Records) (ws : List Value) (front : Path) (names files : FileMap Bytes) (old new : Written W A) (first last : Lines A) (result : Result (Unit {0}) ExportFault) (root : front ≡ []) (same : contents_of (named_values r.records) names ≡ files) where
  names_are : contents_of (named_values r.records) (below front names) ≡ files
  names_are = ap (contents_of (named_values r.records)) (ap (λ p. below p names) root ∙ below_root names) ∙ same

  -- the blobs of all files went out
  pub adds_gathered : Gathers name r ws (below front names) old new first last result → Adds r (with_blobs ws (contents files)) (items_of (blob_commands ws (contents files))) old new result
  adds_gathered h = subst (λ fs. Adds r (with_blobs ws (contents fs)) (items_of (blob_commands ws (contents fs))) old new result) names_are (by result h)
    where
      by : (result : Result (Unit {0}) ExportFault) → Gathers name r ws (below front names) old new first last result → Adds r (with_blobs ws (bytes_in (named_values r.records) (below front names))) (items_of (blob_commands ws (bytes_in (named_values r.records) (below front names)))) old new result
      by (Ok x) k = k.adds
      by (Err e) k = k

  -- and their lines are all that is gathered
  pub text_gathered : first.text.items ≡ [] → Gathers name r ws (below front names) old new first last result → OnOk result (last.text.items ≡ items_text (file_items (with_blobs ws (contents files)) files))
  text_gathered none h = by result h
    where
      by : (result : Result (Unit {0}) ExportFault) → Gathers name r ws (below front names) old new first last result → OnOk result (last.text.items ≡ items_text (file_items (with_blobs ws (contents files)) files))
      by (Ok x) k = k.text ∙ ap (λ t. t ++ lines_text (named_values r.records) (with_blobs ws (bytes_in (named_values r.records) (below front names))) (below front names)) none ∙ ap (λ fs. items_text (file_items (with_blobs ws (contents fs)) fs)) names_are
      by (Err e) k = tt

  -- and they are kept
  pub kept_gathered : Gathers name r ws (below front names) old new first last result → OnOk result (AreKept name r (with_blobs ws (contents files)) last)
  kept_gathered h = by result h
    where
      by : (result : Result (Unit {0}) ExportFault) → Gathers name r ws (below front names) old new first last result → OnOk result (AreKept name r (with_blobs ws (contents files)) last)
      by (Ok x) k = subst (λ fs. AreKept name r (with_blobs ws (contents fs)) last) names_are k.kept
      by (Err e) k = tt
