-- What differs between two held trees, gathered pair by pair.
use Rattle.std.proofs.Common.{◌≡◌, ◌∙◌, ℕ, List, [], ◌∷◌, ◌++◌, map, Option, Some, None, refl, sym, ap, subst, append_assoc, append-nil, Err}
use Rattle.std.specs.List.{flat_map, AllByRecursion}
use Rattle.std.proofs.lemmas.Grind.{flat_map-append}
use Rattle.std.proofs.lemmas.List.{map-append}
use Rattle.gx_model.specs.declared.objects.Kind.{Kind}
use Rattle.gx_model.specs.Changes.{changed_files, gone_paths}
use Rattle.gx_model.specs.Export.{blob_commands, change_items, items_text, with_blobs}
use Rattle.gx_model.specs.Histories.Files.{FileMap}
use Rattle.gx_model.specs.Histories.Values.{Value}
use Rattle.gx_model.specs.Histories.{Records}
use Rattle.gx_model.specs.Objects.{Entry as TreeEntry, IsNamer}
use Rattle.gx_model.specs.Records.HistoryOf.{named_values}
use Rattle.gx_model.specs.Records.Walks.{entries_named}
use Rattle.gx_model.specs.Streams.Commands.{Remove}
use Rattle.gx_model.specs.Texts.{Bytes}
use Rattle.gx_model.specs.Texts.Paths.{Path}
use Rattle.gx_model.proofs.Histories.FileMapEdits.{parts_of}
use Rattle.gx_model.proofs.ObjectTexts.OneTree.{all_right}
use Rattle.gx_object.specs.declared.name.Name.{Name}
use Rattle.gx_tree.specs.Lists.{below}
use Rattle.gx_tree.specs.Nodes.{IsLevel, Level, files}
use Rattle.gx_tree.proofs.LevelsOf.{IsLevel-level_of, files-level_of, level_of}
use Rattle.gx_tree.proofs.TreeRecords.{kept_entry}
use Rattle.gx_export.specs.Compared.{IsBelowIf, IsCompared, IsPair, IsPairBelow, IsTreeIf, entries_if, gone_items, gone_text, paths_below}
use Rattle.gx_export.specs.FileTexts.{AreKept, IsEntryBelow, IsTreeBelow, bytes_in}
use Rattle.gx_export.specs.Marks.{HasWritten}
use Rattle.gx_export.specs.Outputs.{Writes}
use Rattle.gx_export.specs.Pairs.{entry_order, shown_pair, side_by_side}
use Rattle.gx_object.specs.Parts.{bytes_if}
use Rattle.gx_export.specs.Texts.{items_of}
use Rattle.gx_export.specs.declared.changes.Changes.{Changes}
use Rattle.gx_export.specs.declared.fault.ExportFault.{ExportFault}
use Rattle.gx_export.specs.declared.pairs.Pair.{Pair}
use Rattle.gx_export.specs.declared.written.Written.{Written}
use Rattle.gx_export.proofs.Gathering.{entries_below, gathers_next, gathers_sooner, gathers_stop, nothing_gathered}
use Rattle.gx_export.proofs.HeldEntries.{entries_are, is_tree}
use Rattle.gx_export.proofs.SideBySide.{all_pairs, both_entries, changed_by, gone_by, kept_order, pairs_told}
use Rattle.gx_export.proofs.Writing.{items_append}

-- ---- what differs behind what differed

pub gone_texts : (gs hs : List Path) → gone_text (gs ++ hs) ≡ gone_text gs ++ gone_text hs
gone_texts gs hs =
    ap (λ cs. items_text (flat_map change_items cs)) (map-append Remove gs hs)
    ∙ ap items_text (flat_map-append change_items (map Remove gs) (map Remove hs))
    ∙ items_append (gone_items gs) (gone_items hs)

module _ {W A : Type 0} (name : Kind → Bytes → Bytes) (r : Records) (ws : List Value) where
  pub compared_nothing : (written : Written W A) (changes : Changes A) → HasWritten r ws written → AreKept name r ws changes.files → IsCompared name r ws [] [] written written changes changes
  compared_nothing written changes h kept = record { gathered = nothing_gathered name r ws written changes.files h kept; gone = sym (append-nil changes.gone.items) }

  module _ (xs ys : FileMap Bytes) (gs hs : List Path) (old mid new : Written W A) (first next last : Changes A) where
    pub compares_next : IsCompared name r ws xs gs old mid first next → IsCompared name r (with_blobs ws (bytes_in (named_values r.records) xs)) ys hs mid new next last → IsCompared name r ws (xs ++ ys) (gs ++ hs) old new first last
    compares_next h k = record {
      gathered = gathers_next name r ws xs ys old mid new first.files next.files last.files h.gathered k.gathered;
      gone = k.gone ∙ ap (λ t. t ++ gone_text hs) h.gone ∙ append_assoc first.gone.items (gone_text gs) (gone_text hs) ∙ ap (λ t. first.gone.items ++ t) (sym (gone_texts gs hs));
    }

-- ---- the loop over the pairs

changed_more : (front : Path) (done : List (Level × Level)) (x : Level × Level) → below front (changed_by (done ++ x ∷ [])) ≡ below front (changed_by done) ++ below front (changed_files (files x.0) (files x.1))
changed_more front done x =
    ap (below front) (flat_map-append (λ p. changed_files (files p.0) (files p.1)) done (x ∷ []) ∙ ap (λ t. changed_by done ++ t) (append-nil (changed_files (files x.0) (files x.1))))
    ∙ map-append (λ e. (front ++ e.0, e.1)) (changed_by done) (changed_files (files x.0) (files x.1))

gone_more : (front : Path) (done : List (Level × Level)) (x : Level × Level) → paths_below front (gone_by (done ++ x ∷ [])) ≡ paths_below front (gone_by done) ++ paths_below front (gone_paths (files x.0) (files x.1))
gone_more front done x =
    ap (paths_below front) (flat_map-append (λ p. gone_paths (files p.0) (files p.1)) done (x ∷ []) ∙ ap (λ t. gone_by done ++ t) (append-nil (gone_paths (files x.0) (files x.1))))
    ∙ map-append (λ p. front ++ p) (gone_by done) (gone_paths (files x.0) (files x.1))

-- what differs in some pairs is gathered, and the others are to come
pub record IsPassing {W A : Type 0} (name : Kind → Bytes → Bytes) (r : Records) (ws : List Value) (front : Path) (all : List (Level × Level)) (left : List (List TreeEntry × List TreeEntry)) (old new : Written W A) (first last : Changes A) : Type 0 where
  pub done : List (Level × Level)
  pub rest : List (Level × Level)
  pub split : all ≡ done ++ rest
  pub to_come : left ≡ map (both_entries name) rest
  pub compared : IsCompared name r ws (below front (changed_by done)) (paths_below front (gone_by done)) old new first last

-- the pair at hand, and those behind it
pub record IsAtPair (name : Kind → Bytes → Bytes) (all done : List (Level × Level)) (item : List TreeEntry × List TreeEntry) (left : List (List TreeEntry × List TreeEntry)) : Type 0 where
  pub pair : Level × Level
  pub rest : List (Level × Level)
  pub split : all ≡ done ++ pair ∷ rest
  pub told : item ≡ both_entries name pair
  pub to_come : left ≡ map (both_entries name) rest

pub next_pair : (name : Kind → Bytes → Bytes) (all done rest : List (Level × Level)) (item : List TreeEntry × List TreeEntry) (before left : List (List TreeEntry × List TreeEntry)) → all ≡ done ++ rest → before ≡ map (both_entries name) rest → before ≡ item ∷ left → IsAtPair name all done item left
next_pair name all done [] item before left s t b = absurd (let f : [] ≡ item ∷ left = sym t ∙ b in cc f)
next_pair name all done (x ∷ rest) item before left s t b =
    let both : item ∷ left ≡ both_entries name x ∷ map (both_entries name) rest = sym b ∙ t in
    record { pair = x; rest = rest; split = s; told = (let e : item ≡ both_entries name x = cc both in e); to_come = (let e : left ≡ map (both_entries name) rest = cc both in e) }

module _ {W A : Type 0} (name : Kind → Bytes → Bytes) (r : Records) (ws : List Value) (front : Path) (all : List (Level × Level)) (before left : List (List TreeEntry × List TreeEntry)) (item : List TreeEntry × List TreeEntry) (old mid new : Written W A) (first next last : Changes A) where
  abbrev named : List (Level × Level) → List Value
  named done = with_blobs ws (bytes_in (named_values r.records) (below front (changed_by done)))

  module _ (w : IsPassing name r ws front all before old mid first next) (n : IsAtPair name all w.done item left) where
    -- one pair more
    pub pair_next : IsCompared name r (named w.done) (below front (changed_files (files n.pair.0) (files n.pair.1))) (paths_below front (gone_paths (files n.pair.0) (files n.pair.1))) mid new next last → IsPassing name r ws front all left old new first last
    pair_next k = record {
      done = w.done ++ n.pair ∷ [];
      rest = n.rest;
      split = n.split ∙ sym (append_assoc w.done (n.pair ∷ []) n.rest);
      to_come = n.to_come;
      compared =
          let both = compares_next name r ws (below front (changed_by w.done)) (below front (changed_files (files n.pair.0) (files n.pair.1))) (paths_below front (gone_by w.done)) (paths_below front (gone_paths (files n.pair.0) (files n.pair.1))) old mid new first next last w.compared k in
          subst (λ gs. IsCompared name r ws (below front (changed_by (w.done ++ n.pair ∷ []))) gs old new first last) (sym (gone_more front w.done n.pair))
          (subst (λ fs. IsCompared name r ws fs (paths_below front (gone_by w.done) ++ paths_below front (gone_paths (files n.pair.0) (files n.pair.1))) old new first last) (sym (changed_more front w.done n.pair)) both);
    }

    -- or the export stops within it
    pub pair_stops : (total : FileMap Bytes) (fault : ExportFault) → total ≡ changed_by all → Writes mid.output new.output (items_text (items_of (blob_commands (named w.done) (bytes_in (named_values r.records) (below front (changed_files (files n.pair.0) (files n.pair.1))))))) (Err fault)
        → Writes old.output new.output (items_text (items_of (blob_commands ws (bytes_in (named_values r.records) (below front total))))) (Err fault)
    pair_stops total fault whole k =
        let values = named_values r.records in
        let here = gathers_stop name r ws (below front (changed_by w.done)) (below front (changed_files (files n.pair.0) (files n.pair.1))) old mid new first.files next.files last.files fault w.compared.gathered k in
        let these = subst (λ fs. Writes old.output new.output (items_text (items_of (blob_commands ws (bytes_in values fs)))) (Err fault)) (sym (changed_more front w.done n.pair)) here in
        let parts : below front (changed_by (w.done ++ n.pair ∷ [])) ++ below front (changed_by n.rest) ≡ below front total =
        sym (map-append (λ e. (front ++ e.0, e.1)) (changed_by (w.done ++ n.pair ∷ [])) (changed_by n.rest))
        ∙ ap (below front) (sym (flat_map-append (λ p. changed_files (files p.0) (files p.1)) (w.done ++ n.pair ∷ []) n.rest) ∙ ap changed_by (append_assoc w.done (n.pair ∷ []) n.rest ∙ sym n.split) ∙ sym whole) in
        subst (λ fs. Writes old.output new.output (items_text (items_of (blob_commands ws (bytes_in values fs)))) (Err fault)) parts
        (gathers_sooner values ws (below front (changed_by (w.done ++ n.pair ∷ []))) (below front (changed_by n.rest)) old.output new.output fault these)

-- with no pair left all is gathered
pub all_passed : {W A : Type 0} (name : Kind → Bytes → Bytes) (r : Records) (ws : List Value) (front : Path) (all : List (Level × Level)) (left : List (List TreeEntry × List TreeEntry)) (old new : Written W A) (first last : Changes A) (total : FileMap Bytes) (gone : List Path)
    → left ≡ [] → total ≡ changed_by all → gone ≡ gone_by all → IsPassing name r ws front all left old new first last → IsCompared name r ws (below front total) (paths_below front gone) old new first last
all_passed name r ws front all left old new first last total gone e t u w =
    let done : w.done ≡ all = by w.rest w.split (sym e ∙ w.to_come) in
    subst (λ gs. IsCompared name r ws (below front total) (paths_below front gs) old new first last) (ap gone_by done ∙ sym u)
    (subst (λ fs. IsCompared name r ws (below front fs) (paths_below front (gone_by w.done)) old new first last) (ap changed_by done ∙ sym t) w.compared)
  where
    by : (rest : List (Level × Level)) → all ≡ w.done ++ rest → [] ≡ map (both_entries name) rest → w.done ≡ all
    by [] s c = sym (s ∙ append-nil w.done)
    by (x ∷ rest) s c = absurd (cc c)

-- ---- two trees that may be there

-- the entries of such a tree's files
pub record IsLevelIf (name : Kind → Bytes → Bytes) (r : Records) (room : ℕ) (front : Path) (f : FileMap Bytes) (es : List TreeEntry) : Type 0 where
  pub level : IsLevel (level_of f)
  pub entries : es ≡ map (kept_entry name) (level_of f)
  pub below : AllByRecursion (IsEntryBelow name r room front) (level_of f)
  pub files : files (level_of f) ≡ f

module _ (name : Kind → Bytes → Bytes) (namer : IsNamer name) (r : Records) (room : ℕ) (front : Path) where
  no_level : (f : FileMap Bytes) → f ≡ [] → IsLevelIf name r room front f []
  no_level f e = subst (λ g. IsLevelIf name r room front g []) (sym e) (record { level = tt; entries = refl; below = tt; files = refl })

  a_level : (n : Bytes) (f : FileMap Bytes) → IsTreeBelow name r room front n f → IsLevelIf name r room front f (entries_named r.records n)
  a_level n f h = record {
    level = IsLevel-level_of f h.within.0.map;
    entries = entries_are name r.records namer n f h.within.0;
    below = entries_below name r room front n f h;
    files = files-level_of f (parts_of f h.within.0.map.file_map);
  }

  pub level_if : (t : Option Name) (f : FileMap Bytes) → IsBelowIf name r room front (bytes_if t) f → IsLevelIf name r room front f (entries_if r t)
  level_if None f h = no_level f h
  level_if (Some n) f h = a_level n.bytes f h

  pub tree_there : (t : Option Name) (f : FileMap Bytes) → IsBelowIf name r room front (bytes_if t) f → IsTreeIf r t
  tree_there None f h = tt
  tree_there (Some n) f h = is_tree name r.records n.bytes f h.within.0

  -- the pairs of two such trees
  pub record ArePairsOf (f g : FileMap Bytes) (left : List (List TreeEntry × List TreeEntry)) (all : List (Level × Level)) : Type 0 where
    pub items : left ≡ map (both_entries name) all
    pub changed : changed_files f g ≡ changed_by all
    pub gone : gone_paths f g ≡ gone_by all
    pub shapes : AllByRecursion IsPair all
    pub olds : AllByRecursion (λ p. AllByRecursion (IsEntryBelow name r room front) p.0) all
    pub news : AllByRecursion (λ p. AllByRecursion (IsEntryBelow name r room front) p.1) all

  pub pairs_if : (t u : Option Name) (f g : FileMap Bytes) (items : List (List TreeEntry × List TreeEntry)) → items ≡ side_by_side entry_order (entries_if r t) (entries_if r u) → IsBelowIf name r room front (bytes_if t) f → IsBelowIf name r room front (bytes_if u) g
      → ArePairsOf f g items (side_by_side kept_order (level_of f) (level_of g))
  pairs_if t u f g items e h k =
      let old = level_if t f h in
      let new = level_if u g k in
      let all = all_pairs (IsEntryBelow name r room front) (IsEntryBelow name r room front) (level_of f) (level_of g) old.level new.level old.below new.below in
      record {
        items = e ∙ (λ i. side_by_side entry_order (old.entries i) (new.entries i)) ∙ pairs_told name (level_of f) (level_of g) old.level new.level;
        changed = (λ i. changed_files (sym old.files i) (sym new.files i)) ∙ all.by.changed;
        gone = (λ i. gone_paths (sym old.files i) (sym new.files i)) ∙ all.by.gone;
        shapes = all.shapes;
        olds = all.olds;
        news = all.news;
      }

  -- each of them is held
  pub at_pair : (f g : FileMap Bytes) (left : List (List TreeEntry × List TreeEntry)) (all done : List (Level × Level)) (item : List TreeEntry × List TreeEntry) (next : List (List TreeEntry × List TreeEntry)) (pair : Pair) → ArePairsOf f g left all → (n : IsAtPair name all done item next) → shown_pair pair ≡ item → IsPairBelow name r room front pair n.pair
  at_pair f g left all done item next pair h n e = record {
    shape = here IsPair h.shapes;
    olds = here (λ (p : Level × Level). AllByRecursion (IsEntryBelow name r room front) p.0) h.olds;
    news = here (λ (p : Level × Level). AllByRecursion (IsEntryBelow name r room front) p.1) h.news;
    told = e ∙ n.told;
  }
    where
      here : (P : Level × Level → Type 0) → AllByRecursion P all → P n.pair
      here P a = (all_right P done (n.pair ∷ n.rest) (subst (AllByRecursion P) n.split a)).0
