-- The lines of a tree's files, as a walk prints them.
use Rattle.std.proofs.Common.{◌≡◌, ◌≢◌, ◌≤◌, Bool, ◌∙◌, true, false, cond, refl, sym, ap, subst, arith, List, [], ◌∷◌, ◌++◌, length, length-append, Option, Result, Err}
use Rattle.std.specs.Prelude.{IsTrue}
use Rattle.std.specs.List.{flat_map}
use Rattle.gx_model.specs.declared.objects.Kind.{Kind}
use Rattle.gx_model.specs.declared.objects.Kind.TheVariants as kinds
use Rattle.gx_model.specs.Histories.{Records}
use Rattle.gx_model.specs.Objects.{Entry, IsNamer, is_dir}
use Rattle.gx_model.specs.Records.{entries}
use Rattle.gx_model.specs.Records.HistoryOf.{placed}
use Rattle.gx_model.specs.Records.RecordFaults.{is_held}
use Rattle.gx_model.specs.Records.Sound.{IsSound}
use Rattle.gx_model.specs.Texts.{Bytes}
use Rattle.gx_model.specs.Texts.Sinks.{Taken, Took}
use Rattle.gx_model.proofs.Texts.PathTexts.{path_tells}
use Rattle.gx_model.proofs.Texts.SentTexts.{IsLeft, all_left, less_left, none_left}
use Rattle.gx_print.specs.Listings.{entry_line}
use Rattle.gx_print.specs.WalkedFiles.{HavePaths, IsPathText, IsWithin, files_in, files_of_entry, line_below}
use Rattle.gx_print.proofs.WalkedFiles.{below_dir, dir_lines, dir_paths, file_lines, held_files, inner, is_dir_mode, tree_lines, tree_paths, tree_within}
use Rattle.gx_told.specs.Printing.{PrintsText}
use Rattle.gx_told.specs.Walking.{AreWithin, IsBelow, all_lines, entry_lines}
use Rattle.gx_told.specs.declared.fault.ToldFault.{ToldFault}
use Rattle.gx_told.proofs.Pieces.{cut_short, last_sent}

-- a file's path
file_path : (name : Kind → Bytes → Bytes) (r : Records) (front : Bytes) (e : Entry) → is_dir e.mode ≡ false → HavePaths front (files_of_entry name r e) → IsPathText (front ++ e.component)
file_path name r front e h k = (subst (λ b. HavePaths front (placed e.component (cond b (files_in name r e.name) (([], (e.mode, e.name)) ∷ [])))) h k).0

-- ---- the entries of a held tree

module _ (name : Kind → Bytes → Bytes) (namer : IsNamer name) (r : Records) (sound : IsSound name r) where
  -- the root's entries, with nothing before their paths
  pub root_within : (tree : Bytes) → IsTrue (is_held r.records kinds.Tree tree) → (es : List Entry) → es ≡ entries name (files_in name r tree) → AreWithin name [] r es
  root_within tree held es same = subst (AreWithin name [] r) (sym same) (tree_within name namer r sound tree held [] (tree_paths name namer r sound tree held).1)

  -- those of a directory
  pub dir_within : (front tree : Bytes) → IsBelow name front r tree → (es : List Entry) → es ≡ entries name (files_in name r tree) → AreWithin name front r es
  dir_within front tree below es same = subst (AreWithin name front r) (sym same) (tree_within name namer r sound tree below.held front below.paths)

  -- their lines are those of its files
  pub lines_of_entries : (front tree : Bytes) → IsTrue (is_held r.records kinds.Tree tree) → (es : List Entry) → es ≡ entries name (files_in name r tree) → flat_map (line_below front) (files_in name r tree) ≡ all_lines name front r es
  lines_of_entries front tree held es same = tree_lines name namer r sound tree held front ∙ ap (all_lines name front r) (sym same)

  -- a directory with files has entries
  pub some_entries : (tree : Bytes) → IsTrue (is_held r.records kinds.Tree tree) → files_in name r tree ≢ [] → (es : List Entry) → es ≡ entries name (files_in name r tree) → es ≢ []
  some_entries tree held some es same none = some (held_files name namer r sound tree held ∙ ap (flat_map (files_of_entry name r)) (sym same ∙ none))

  -- ---- one entry

  module _ (front : Bytes) (e : Entry) (within : IsWithin name r front e) where
    -- its path isn't too long
    pub path_short : length (front ++ e.component) ≤ 4095
    path_short = by (is_dir e.mode) refl
      where
        by : (b : Bool) → is_dir e.mode ≡ b → length (front ++ e.component) ≤ 4095
        by true dir =
            let room = (dir_paths name r front e dir (tree_paths name namer r sound e.name (within.tree (is_dir_mode e.mode dir))).0 within).1 in
            let long = length-append (front ++ e.component) (47 ∷ []) in
            omega (arith, room, long)
        by false file = ((path_tells (front ++ e.component) _).0 (file_path name r front e file within.paths)).short

    -- what is below a directory
    pub below : is_dir e.mode ≡ true → IsBelow name (inner name r front e) r e.name
    below dir =
        let held = within.tree (is_dir_mode e.mode dir) in
        record {
          held = held;
          some = λ none. within.some (below_dir name r front e dir ∙ none);
          paths = (dir_paths name r front e dir (tree_paths name namer r sound e.name held).0 within).0;
        }

    pub lines_of_dir : is_dir e.mode ≡ true → flat_map (line_below (inner name r front e)) (files_in name r e.name) ≡ entry_lines name front r e
    lines_of_dir dir = dir_lines name r front e dir (tree_paths name namer r sound e.name (within.tree (is_dir_mode e.mode dir))).0

    pub line_of_file : is_dir e.mode ≡ false → entry_line (record { mode = e.mode; component = front ++ e.component; name = e.name }) ≡ entry_lines name front r e
    line_of_file file = sym (file_lines name r front e file)

-- ---- a directory: its first entry, and the others

module _ (name : Kind → Bytes → Bytes) (namer : IsNamer name) (r : Records) (sound : IsSound name r) (front tree : Bytes) (below : IsBelow name front r tree) (es : List Entry) (same : es ≡ entries name (files_in name r tree)) where
  pub dir_some : es ≡ [] → ⊥
  dir_some = some_entries name namer r sound tree below.held below.some es same

  pub first_within : (e : Entry) (left : List Entry) → es ≡ e ∷ left → IsWithin name r front e
  first_within e left is = (subst (AreWithin name front r) is (dir_within name namer r sound front tree below es same)).0

  pub others_within : (e : Entry) (left : List Entry) → es ≡ e ∷ left → AreWithin name front r left
  others_within e left is = (subst (AreWithin name front r) is (dir_within name namer r sound front tree below es same)).1

  dir_whole : (e : Entry) (left : List Entry) → es ≡ e ∷ left → flat_map (line_below front) (files_in name r tree) ≡ entry_lines name front r e ++ all_lines name front r left
  dir_whole e left is = lines_of_entries name namer r sound front tree below.held es same ∙ ap (all_lines name front r) is

  pub dir_stops : (e : Entry) (left : List Entry) → es ≡ e ∷ left → (was now : Option Taken) (fault : ToldFault) → PrintsText (entry_lines name front r e) was now (Err fault) → PrintsText (flat_map (line_below front) (files_in name r tree)) was now (Err fault)
  dir_stops e left is was now fault h =
      let whole = entry_lines name front r e ++ all_lines name front r left in
      subst (λ text. PrintsText text was now (Err fault)) (sym (dir_whole e left is)) (cut_short was was now whole (entry_lines name front r e) (all_lines name front r left) fault (all_left whole was) h)

  pub dir_printed : (e : Entry) (left : List Entry) → es ≡ e ∷ left → (was mid now : Option Taken) (answer : Result (Unit {0}) ToldFault) → Took was mid (entry_lines name front r e) → PrintsText (all_lines name front r left) mid now answer
      → PrintsText (flat_map (line_below front) (files_in name r tree)) was now answer
  dir_printed e left is was mid now answer h k =
      let whole = entry_lines name front r e ++ all_lines name front r left in
      subst (λ text. PrintsText text was now answer) (sym (dir_whole e left is))
      (last_sent was mid now whole (all_lines name front r left) answer (less_left whole was was mid (entry_lines name front r e) (all_lines name front r left) (all_left whole was) h) k)

-- ---- entries, one after the other

module _ (name : Kind → Bytes → Bytes) (front : Bytes) (all : List Entry) (was : Option Taken) where
  -- the lines of these entries are left
  pub record Goes (mid : Option Taken) (left : List Entry) (r : Records) : Type 0 where
    pub lines : IsLeft (all_lines name front r all) was mid (all_lines name front r left)
    pub within : AreWithin name front r left

  pub starts : (r : Records) → AreWithin name front r all → Goes was all r
  starts r h = record { lines = all_left (all_lines name front r all) was; within = h }

  pub next_within : (mid : Option Taken) (e : Entry) (left : List Entry) (r : Records) → Goes mid (e ∷ left) r → IsWithin name r front e
  next_within mid e left r h = h.within.0

  pub goes_on : (mid now : Option Taken) (e : Entry) (left : List Entry) (r : Records) → Goes mid (e ∷ left) r → Took mid now (entry_lines name front r e) → Goes now left r
  goes_on mid now e left r h k = record {
    lines = less_left (all_lines name front r all) was mid now (entry_lines name front r e) (all_lines name front r left) h.lines k;
    within = h.within.1;
  }

  pub stops : (mid now : Option Taken) (e : Entry) (left : List Entry) (fault : ToldFault) (r : Records) → Goes mid (e ∷ left) r → PrintsText (entry_lines name front r e) mid now (Err fault) → PrintsText (all_lines name front r all) was now (Err fault)
  stops mid now e left fault r h k = cut_short was mid now (all_lines name front r all) (entry_lines name front r e) (all_lines name front r left) fault h.lines k

  pub ends : (now : Option Taken) (r : Records) → Goes now [] r → Took was now (all_lines name front r all)
  ends now r h = none_left (all_lines name front r all) was now [] refl h.lines
