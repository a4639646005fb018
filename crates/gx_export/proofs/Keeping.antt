-- The lines of directories that are kept, while a text grows, and from one text to the next.
use Rattle.std.proofs.Common.{◌≡◌, ℕ, zero, suc, ◌+◌, ◌-◌, ◌<◌, ◌≤◌, List, [], ◌∷◌, ◌++◌, length, take, drop, set, slice_range, Option, Some, None, Result, Ok, Err, sym, ap, subst, ◌∙◌, arith, append_assoc}
use Rattle.std.specs.Prelude.{IfSome, slice_index_or}
use Rattle.std.specs.List.{AllByRecursion}
use Rattle.std.specs.Result.{OnOk}
use Rattle.std.proofs.lemmas.List.{drop-append-le, drop-drop, drop-take, length-append, length-drop, take-append-drop, take-append-le, take-take, take_all}
use Rattle.gx_model.specs.declared.objects.Kind.{Kind}
use Rattle.gx_model.specs.Histories.{Records}
use Rattle.gx_model.specs.Texts.Paths.{path_of}
use Rattle.gx_model.specs.Texts.{Bytes}
use Rattle.gx_model.specs.Histories.Values.{Value}
use Rattle.gx_object.specs.declared.entry.Entry.{Entry}
use Rattle.gx_object.specs.declared.name.Name.{Name}
use Rattle.gx_export.specs.FileTexts.{AreKept, IsDirectoryText, IsFileLine, IsKept, IsLineIn, IsLinesOf, IsLinesOfTree, StandsIn, StaysKept, entry_file}
use Rattle.gx_export.specs.declared.file_lines.FileLine.{FileLine}
use Rattle.gx_export.specs.declared.lines.Directory.{Directory}
use Rattle.gx_export.specs.declared.lines.Lines.{Lines}

-- ---- lists

pub item_same : {X : Type 0} (xs : List X) (i : ℕ) (x y : X) → i < length xs → x ≡ slice_index_or xs i x → y ≡ slice_index_or xs i y → x ≡ y
item_same [] i x y l e f = absurd (omega (arith, l))
item_same (z ∷ xs) zero x y l e f = e ∙ sym f
item_same (z ∷ xs) (suc i) x y l e f = item_same xs i x y (omega (arith, l)) e f

pub all_item : {X : Type 0} (P : X → Type 0) (xs : List X) (i : ℕ) (x : X) → i < length xs → x ≡ slice_index_or xs i x → AllByRecursion P xs → P x
all_item P [] i x l e h = absurd (omega (arith, l))
all_item P (y ∷ xs) zero x l e h = subst P (sym e) h.0
all_item P (y ∷ xs) (suc i) x l e h = all_item P xs i x (omega (arith, l)) e h.1

pub all_set : {X : Type 0} (P : X → Type 0) (xs : List X) (i : ℕ) (y : X) → AllByRecursion P xs → P y → AllByRecursion P (set xs i y)
all_set P [] i y h p = tt
all_set P (x ∷ xs) zero y h p = (p, h.1)
all_set P (x ∷ xs) (suc i) y h p = (h.0, all_set P xs i y h.1 p)

pub all_more : {X : Type 0} (P : X → Type 0) (xs : List X) (y : X) → AllByRecursion P xs → P y → AllByRecursion P (xs ++ y ∷ [])
all_more P [] y h p = (p, tt)
all_more P (x ∷ xs) y h p = (h.0, all_more P xs y h.1 p)

pub all_mapped : {X : Type 0} (P Q : X → Type 0) (xs : List X) → ((x : X) → P x → Q x) → AllByRecursion P xs → AllByRecursion Q xs
all_mapped P Q [] f h = tt
all_mapped P Q (x ∷ xs) f h = (f x h.0, all_mapped P Q xs f h.1)

pub some_mapped : {X : Type 0} (P Q : X → Type 0) (o : Option X) → ((x : X) → P x → Q x) → IfSome o P → IfSome o Q
some_mapped P Q None f h = tt
some_mapped P Q (Some x) f h = f x h

-- ---- parts of texts

slice_longer : (text more : Bytes) (a b : ℕ) → a ≤ b → b ≤ length text → slice_range (text ++ more) a b ≡ slice_range text a b
slice_longer text more a b l k =
    ap (take (b - a)) (drop-append-le a text more (omega (arith, l, k))) ∙ take-append-le (b - a) (drop a text) more (omega (arith, l, k, length-drop a text))

drop_past : (front rest : Bytes) (n : ℕ) → drop (length front + n) (front ++ rest) ≡ drop n rest
drop_past [] rest n = let e : length {A = ℕ} [] + n ≡ n = omega arith in ap (λ k. drop k rest) e
drop_past (x ∷ front) rest n = let e : length (x ∷ front) + n ≡ suc (length front + n) = omega arith in ap (λ k. drop k ((x ∷ front) ++ rest)) e ∙ drop_past front rest n

-- a part of a part that was appended
slice_carried : (front text : Bytes) (start end a b : ℕ) → start ≤ a → a ≤ b → b ≤ end → slice_range (front ++ slice_range text start end) (length front + (a - start)) (length front + (b - start)) ≡ slice_range text a b
slice_carried front text start end a b l m n =
    let part = slice_range text start end in
    let i = a - start in
    let long : (length front + (b - start)) - (length front + i) ≡ b - a = omega (arith, l, m, n) in
    let whole : end - start ≡ i + (end - a) = omega (arith, l, m, n) in
    let there : start + i ≡ a = omega (arith, l) in
    ap (λ k. take k (drop (length front + i) (front ++ part))) long
    ∙ ap (take (b - a)) (drop_past front part i ∙ ap (λ k. drop i (take k (drop start text))) whole ∙ drop-take i (end - a) (drop start text))
    ∙ take-take (b - a) (end - a) (drop i (drop start text)) (omega (arith, l, m, n))
    ∙ ap (take (b - a)) (drop-drop i start text ∙ ap (λ k. drop k text) there)

-- the last part of a text
pub slice_last : (text : Bytes) (start : ℕ) → start ≤ length text → slice_range text start (length text) ≡ drop start text
slice_last text start l = take_all (length text - start) (drop start text) (omega (arith, l, length-drop start text))

-- what stands from a place on begins with what stands there up to another one
last_longer : (text : Bytes) (start end : ℕ) → slice_range text start end ++ drop (end - start) (drop start text) ≡ drop start text
last_longer text start end = take-append-drop (end - start) (drop start text)

-- a last part of a last part
slice_behind : (text : Bytes) (start at : ℕ) → start ≤ at → at ≤ length text → slice_range (drop start text) (at - start) (length text - start) ≡ drop at text
slice_behind text start at l k =
    let part = drop start text in
    let long : length text - start ≡ length part = omega (arith, length-drop start text) in
    let place : at - start ≤ length part = omega (arith, l, k, length-drop start text) in
    let there : start + (at - start) ≡ at = omega (arith, l) in
    ap (slice_range part (at - start)) long ∙ slice_last part (at - start) place ∙ drop-drop (at - start) start text ∙ ap (λ n. drop n text) there

-- ---- what is kept

module _ (r : Records) (ws : List Value) (path : Bytes) where
  -- the lines of single files stay where others follow
  files_longer : (text more : Bytes) (lines : List FileLine) → AllByRecursion (IsFileLine r ws path text) lines → AllByRecursion (IsFileLine r ws path (text ++ more)) lines
  files_longer text more lines = all_mapped (IsFileLine r ws path text) (IsFileLine r ws path (text ++ more)) lines (λ l k. record {
    order = k.order;
    within = (let w = k.within in omega (arith, w, length-append text more));
    found = subst (IsLineIn r ws path l.entry) (sym (slice_longer text more l.start l.end k.order k.within)) k.found;
  })

  files_to_last : (text : Bytes) (start end : ℕ) (lines : List FileLine) → AllByRecursion (IsFileLine r ws path (slice_range text start end)) lines → AllByRecursion (IsFileLine r ws path (drop start text)) lines
  files_to_last text start end lines h = subst (λ t. AllByRecursion (IsFileLine r ws path t) lines) (last_longer text start end) (files_longer (slice_range text start end) (drop (end - start) (drop start text)) lines h)

  -- the last line is that of a file
  last_line : (text : Bytes) (start at : ℕ) (entry : Entry) → start ≤ at → at ≤ length text → IsLineIn r ws path entry (drop at text) → IsFileLine r ws path (drop start text) (record { entry = entry; start = at - start; end = length text - start })
  last_line text start at entry l k h = record {
    order = omega (arith, k);
    within = omega (arith, length-drop start text);
    found = subst (IsLineIn r ws path entry) (sym (slice_behind text start at l k)) h;
  }

module _ (name : Kind → Bytes → Bytes) (r : Records) (ws : List Value) where
  module _ (path : Bytes) (tree : Option Name) (lines : List FileLine) where
    stands_longer : (text more : Bytes) (a b : ℕ) → StandsIn name r ws text a b path tree lines → StandsIn name r ws (text ++ more) a b path tree lines
    stands_longer text more a b s = record {
      order = s.order;
      within = (let k = s.within in omega (arith, length-append text more));
      lines = subst (IsDirectoryText name r ws path tree lines) (sym (slice_longer text more a b s.order s.within)) s.lines;
    }

    -- the lines of a directory that is carried
    stands_carried : (front text : Bytes) (start end a b : ℕ) → start ≤ a → b ≤ end → length front + (end - start) ≤ length (front ++ slice_range text start end) → StandsIn name r ws text a b path tree lines
        → StandsIn name r ws (front ++ slice_range text start end) (length front + (a - start)) (length front + (b - start)) path tree lines
    stands_carried front text start end a b l n room s =
        let order = s.order in
        record {
          order = omega (arith, l, n, order);
          within = omega (arith, l, n, order, room);
          lines = subst (IsDirectoryText name r ws path tree lines) (sym (slice_carried front text start end a b l order n)) s.lines;
        }

    -- a directory that is entered has no lines yet
    pub stands_empty : (text : Bytes) (a b : ℕ) → a ≡ b → b ≤ length text → tree ≡ None → lines ≡ [] → StandsIn name r ws text a b path tree lines
    stands_empty text a b e l t n = record {
      order = omega (arith, e);
      within = l;
      lines = record {
        whole = subst (λ o. IfSome o (λ x. IsLinesOfTree name r ws path x.bytes (slice_range text a b))) (sym t) tt;
        each = subst (AllByRecursion (IsFileLine r ws path (slice_range text a b))) (sym n) tt;
      };
    }

    -- its lines are the last ones, once all were gathered
    pub stands_closed : (text : Bytes) (start end : ℕ) (known : Name) → StandsIn name r ws text start end path tree lines → IsLinesOfTree name r ws path known.bytes (drop start text) → StandsIn name r ws text start (length text) path (Some known) lines
    stands_closed text start end known s h =
        let order = s.order in
        let within = s.within in
        let l : start ≤ length text = omega (arith, order, within) in
        record {
          order = l;
          within = omega arith;
          lines = subst (IsDirectoryText name r ws path (Some known) lines) (sym (slice_last text start l)) (record { whole = h; each = files_to_last r ws path text start end lines s.lines.each });
        }

    -- the last line is that of a file in it
    pub stands_more : (text : Bytes) (start end at : ℕ) (entry : Entry) → tree ≡ None → start ≤ at → at ≤ length text → StandsIn name r ws text start end path tree lines → IsLineIn r ws path entry (drop at text)
        → StandsIn name r ws text start (length text) path tree (lines ++ record { entry = entry; start = at - start; end = length text - start } ∷ [])
    stands_more text start end at entry t l k s h =
        let line : FileLine = record { entry = entry; start = at - start; end = length text - start } in
        let whole : start ≤ length text = omega (arith, l, k) in
        record {
          order = whole;
          within = omega arith;
          lines = subst (IsDirectoryText name r ws path tree (lines ++ line ∷ [])) (sym (slice_last text start whole)) (record {
            whole = subst (λ o. IfSome o (λ x. IsLinesOfTree name r ws path x.bytes (drop start text))) (sym t) tt;
            each = all_more (IsFileLine r ws path (drop start text)) lines line (files_to_last r ws path text start end lines s.lines.each) (last_line r ws path text start at entry l k h);
          });
        }

  module _ {A : Type 0} where
    all_longer : (text more : Bytes) (ds : List (Directory A)) → AllByRecursion (IsKept name r ws text) ds → AllByRecursion (IsKept name r ws (text ++ more)) ds
    all_longer text more ds = all_mapped (IsKept name r ws text) (IsKept name r ws (text ++ more)) ds (λ d. stands_longer d.path.items d.tree d.files.items text more d.start d.end)

    -- more lines behind those that were gathered
    pub kept_longer : (old new : Lines A) (more : Bytes) → new.text.items ≡ old.text.items ++ more → new.directories.items ≡ old.directories.items → new.earlier.items ≡ old.earlier.items → new.left.items ≡ old.left.items → AreKept name r ws old → AreKept name r ws new
    kept_longer old new more e d f l h = record {
      now = subst (λ ds. AllByRecursion (IsKept name r ws new.text.items) ds) (sym d) (subst (λ t. AllByRecursion (IsKept name r ws t) old.directories.items) (sym e) (all_longer old.text.items more old.directories.items h.now));
      earlier = subst (λ ds. AllByRecursion (IsKept name r ws new.earlier.items) ds) (sym l) (subst (λ t. AllByRecursion (IsKept name r ws t) old.left.items) (sym f) h.earlier);
    }

    pub directory_carried : (old new : Directory A) (front text now : Bytes) (start end place : ℕ) → now ≡ front ++ slice_range text start end → length front ≡ place → start ≤ old.start → old.end ≤ end → place + (end - start) ≤ length now
        → new.path.items ≡ old.path.items → new.tree ≡ old.tree → new.files.items ≡ old.files.items → new.start ≡ place + (old.start - start) → new.end ≡ place + (old.end - start) → IsKept name r ws text old → IsKept name r ws now new
    directory_carried old new front text now start end place e q l n room path tree files from to h =
        let room' : length front + (end - start) ≤ length (front ++ slice_range text start end) = subst (λ t. length front + (end - start) ≤ length t) e (subst (λ p. p + (end - start) ≤ length now) (sym q) room) in
        let from' : length front + (old.start - start) ≡ new.start = ap (λ p. p + (old.start - start)) q ∙ sym from in
        let to' : length front + (old.end - start) ≡ new.end = ap (λ p. p + (old.end - start)) q ∙ sym to in
        let s = stands_carried old.path.items old.tree old.files.items front text start end old.start old.end l n room' h in
        subst (λ t. StandsIn name r ws t new.start new.end new.path.items new.tree new.files.items) (sym e)
        (subst (λ p. StandsIn name r ws (front ++ slice_range text start end) new.start new.end p new.tree new.files.items) (sym path)
        (subst (λ o. StandsIn name r ws (front ++ slice_range text start end) new.start new.end old.path.items o new.files.items) (sym tree)
        (subst (λ fs. StandsIn name r ws (front ++ slice_range text start end) new.start new.end old.path.items old.tree fs) (sym files)
        (subst (λ b. StandsIn name r ws (front ++ slice_range text start end) new.start b old.path.items old.tree old.files.items) to'
        (subst (λ a. StandsIn name r ws (front ++ slice_range text start end) a (length front + (old.end - start)) old.path.items old.tree old.files.items) from' s)))))

-- a line behind those that were gathered
pub line_kept : {A E : Type 0} (old new : Lines A) (mid a b : Bytes) (result : Result (Unit {0}) E) → mid ≡ old.text.items ++ a → OnOk result (new.text.items ≡ mid ++ b) → new.directories.items ≡ old.directories.items → new.earlier.items ≡ old.earlier.items → new.left.items ≡ old.left.items → OnOk result (StaysKept old new)
line_kept old new mid a b (Ok x) e f d g l = λ name r ws h. kept_longer name r ws old new (a ++ b) (f ∙ ap (λ t. t ++ b) e ∙ append_assoc old.text.items a b) d g l h
line_kept old new mid a b (Err x) e f d g l = tt

-- the line that is found is that of the file that was asked for
pub found_line : (r : Records) (ws : List Value) (known path text : Bytes) (line : FileLine) (entry : Entry) → known ≡ path → line.entry.mode ≡ entry.mode → line.entry.component.now ≡ entry.component.now → line.entry.name ≡ entry.name
    → IsFileLine r ws known text line → IsLineIn r ws path entry (slice_range text line.start line.end)
found_line r ws known path text line entry p m c n h = λ front at.
    let part = slice_range text line.start line.end in
    let same : entry_file front line.entry ≡ entry_file front entry = λ i. (front ++ c i ∷ [], (m i, (n i).bytes)) ∷ [] in
    subst (λ fs. IsLinesOf r ws fs part) same (h.found front (ap path_of p ∙ at))
