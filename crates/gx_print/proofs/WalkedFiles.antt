-- The files of a held tree are those at or below its entries, one entry after the other, and their lines are theirs.
use Rattle.std.proofs.Common.{◌≡◌, ◌≢◌, ◌≤◌, true, false, cond, refl, sym, ap, subst, ◌∙◌, arith, List, [], ◌∷◌, ◌++◌, map, length, length-append, append_assoc, append-nil, Option, Some, None, Ok, inl, inr}
use Rattle.std.specs.Prelude.{IsTrue, T}
use Rattle.std.specs.List.{AllByRecursion, flat_map, list_all}
use Rattle.std.specs.Option.{option_map}
use Rattle.std.proofs.lemmas.Bool.{leb-true}
use Rattle.std.proofs.lemmas.Grind.{flat_map-append}
use Rattle.gx_model.specs.declared.objects.Kind.{Kind}
use Rattle.gx_model.specs.declared.objects.Kind.TheVariants as kind
use Rattle.gx_model.specs.declared.objects.Mode.{Mode}
use Rattle.gx_model.specs.declared.objects.Mode.TheVariants.{File, Exec, Link, Gitlink, Dir}
use Rattle.gx_model.specs.Texts.{Bytes}
use Rattle.gx_model.specs.Texts.Paths.{Path, is_component, is_file_path, is_short, path_text}
use Rattle.gx_model.specs.Histories.Files.{FileMap, Leaf, are_file_paths, file_at, first_components, sub_map}
use Rattle.gx_model.specs.Histories.Values.{is_content, is_leaf, tree_value}
use Rattle.gx_model.specs.Histories.{IsIn, Records}
use Rattle.gx_model.specs.Objects.{Entry, IsNamer, is_dir}
use Rattle.gx_model.specs.Records.{content_name, entries, named_map, node, tree_name}
use Rattle.gx_model.specs.Records.HistoryOf.{files_of_tree, history_of, placed, value_of_name}
use Rattle.gx_model.specs.Records.RecordFaults.{is_held}
use Rattle.gx_model.specs.Records.Sound.{AnyByRecursion, IsSound}
use Rattle.gx_model.proofs.ObjectTexts.CanonicalTrees.{no_dir}
use Rattle.gx_model.proofs.Histories.FileMapEdits.{parts_of}
use Rattle.gx_model.proofs.Records.GrownRecords.{distinct_of}
use Rattle.gx_model.proofs.Records.HeldTrees.{name_map}
use Rattle.gx_model.proofs.Records.HeldValues.{all_whole, tree_stands, value_held}
use Rattle.gx_model.proofs.Records.HistoriesAreSound.{sub_some}
use Rattle.gx_model.proofs.Records.HistoriesExist.{stands}
use Rattle.gx_model.proofs.ObjectTexts.OneTree.{all_left, all_right, firsts_named, leaf_named, node_entry, node_of, only_file, rebuilt, spelling, sub_named}
use Rattle.gx_model.proofs.Texts.PathTests.{first, is_true, second}
use Rattle.gx_model.proofs.Texts.PathTexts.{parts_joined, path_again, path_tells}
use Rattle.gx_model.proofs.ObjectTexts.RebuiltValues.{has_some}
use Rattle.gx_model.proofs.ObjectTexts.TreePaths.{content_in, content_parts, leaf_at, sub_in}
use Rattle.gx_print.specs.Listings.{entry_line}
use Rattle.gx_print.specs.Stored.{file_line}
use Rattle.gx_print.specs.WalkedFiles.{HavePaths, IsPathText, IsWithin, files_in, files_named, files_of_entry, line_below}

-- ---- lists

-- what holds of each that stands in a list holds of all of it
each_in : {X : Type 0} (P : X → Type 0) (xs : List X) → ((x : X) → AnyByRecursion (λ y. y ≡ x) xs → P x) → AllByRecursion P xs
each_in P [] h = tt
each_in P (x ∷ xs) h = (h x (inl refl), each_in P xs (λ y s. h y (inr s)))

joined_same : {X Y Z : Type 0} (f : X → List Z) (g : Y → List Z) (h : X → Y) (xs : List X) → AllByRecursion (λ x. f x ≡ g (h x)) xs → flat_map f xs ≡ flat_map g (map h xs)
joined_same f g h [] a = refl
joined_same f g h (x ∷ xs) a = let first = a.0 in let rest = joined_same f g h xs a.1 in λ i. first i ++ rest i

all_mapped : {X Y : Type 0} (P : Y → Type 0) (h : X → Y) (xs : List X) → AllByRecursion (λ x. P (h x)) xs → AllByRecursion P (map h xs)
all_mapped P h [] a = tt
all_mapped P h (x ∷ xs) a = (a.0, all_mapped P h xs a.1)

-- the lines of files that stand in parts
pub lines_of_parts : {X Y : Type 0} (line : Y → Bytes) (part : X → List Y) (xs : List X) → flat_map line (flat_map part xs) ≡ flat_map (λ x. flat_map line (part x)) xs
lines_of_parts line part [] = refl
lines_of_parts line part (x ∷ xs) = flat_map-append line (part x) (flat_map part xs) ∙ ap (λ t. flat_map line (part x) ++ t) (lines_of_parts line part xs)

some_is : (f : FileMap Bytes) → T (has_some f) → f ≢ []
some_is [] h e = absurd h
some_is (e ∷ es) h k = cc k

-- ---- what a tree's entries stand for

module _ (name : Kind → Bytes → Bytes) (namer : IsNamer name) (r : Records) (sound : IsSound name r) where
  -- a directory's tree is held, and there are files at or below the entry
  pub record IsEntry (entry : Entry) : Type 0 where
    pub tree : entry.mode ≡ Dir → IsTrue (is_held r.records kind.Tree entry.name)
    pub some : files_named name r (entry.mode, entry.name) ≢ []

  module _ (n : Bytes) (held : IsTrue (is_held r.records kind.Tree n)) where
    abbrev own : FileMap Bytes
    own = files_of_tree (value_of_name r.records n)

    standing : IsIn (history_of r).values (tree_value own)
    standing = (tree_stands name namer r sound n held).1

    content : T (is_content own)
    content = content_in name namer (history_of r).values (all_whole name namer r sound) (distinct_of name namer r (history_of r) (stands name namer r sound)) own standing

    -- what stands at a first component
    record IsAt (c : Bytes) : Type 0 where
      files : sub_map (named_map name own) (c ∷ []) ≡ files_named name r (node_of name namer own c)
      entry : IsEntry (node_entry name namer own c)

    at_first : (c : Bytes) → AnyByRecursion (λ x. x ≡ c) (first_components own) → IsAt c
    at_first c s = by (file_at own (c ∷ [])) refl
      where
        node_is : (o : Option (Leaf Bytes)) → file_at own (c ∷ []) ≡ o → node_of name namer own c ≡ node name (option_map (leaf_named name namer) o) (tree_name name (sub_map own (c ∷ [])))
        node_is o e = ap (λ (p : Option (Leaf Bytes)). node name (option_map (leaf_named name namer) p) (tree_name name (sub_map own (c ∷ [])))) e

        by : (o : Option (Leaf Bytes)) → file_at own (c ∷ []) ≡ o → IsAt c
        by (Some x) e =
            let parts = content_parts own content in
            let leaf = leaf_at name namer own (c ∷ []) x content e in
            let node = node_is (Some x) e in
            let file : is_dir x.0 ≡ false = no_dir x.0 x.1 leaf in
            let alone : files_named name r (leaf_named name namer x) ≡ ([], leaf_named name namer x) ∷ [] = ap (λ b. cond b (files_in name r (content_name name x.0 x.1)) (([], leaf_named name namer x) ∷ [])) file in
            record {
              files = sub_named name own c ∙ ap (named_map name) (only_file c own x parts.apart e) ∙ sym alone ∙ ap (files_named name r) (sym node);
              entry = record {
                tree = λ d. absurd (subst (λ m. T (is_leaf m x.1)) (sym (ap (λ (y : Leaf Bytes). y.0) node) ∙ d) leaf);
                some = λ z. let k = sym alone ∙ ap (files_named name r) (sym node) ∙ z in cc k;
              };
            }
        by None e =
            let below = sub_map own (c ∷ []) in
            let node = node_is None e in
            let whole = all_whole name namer r sound in
            let distinct = distinct_of name namer r (history_of r) (stands name namer r sound) in
            let there = sub_in name namer (history_of r).values whole distinct own c standing s e in
            let stays = value_held name namer r sound kind.Tree (tree_value below) (tree_name name below) there refl refl in
            let same : files_named name r (Dir, tree_name name below) ≡ named_map name below = ap (λ v. named_map name (files_of_tree v)) stays.1 in
            record {
              files = sub_named name own c ∙ sym same ∙ ap (files_named name r) (sym node);
              entry = record {
                tree = λ d. subst (λ (y : Leaf Bytes). IsTrue (is_held r.records kind.Tree y.1)) (sym node) stays.0;
                some = λ z. some_is below (sub_some c own (content_parts own content).paths s) (none_named below (sym same ∙ ap (files_named name r) (sym node) ∙ z));
              };
            }
          where
            none_named : (f : FileMap Bytes) → named_map name f ≡ [] → f ≡ []
            none_named [] z = refl
            none_named (x ∷ xs) z = absurd (cc z)

    -- the entries of a held tree
    pub held_entries : AllByRecursion IsEntry (entries name (named_map name own))
    held_entries = subst (AllByRecursion IsEntry) (sym (spelling name namer own)) (all_mapped IsEntry (node_entry name namer own) (first_components own) (each_in (λ c. IsEntry (node_entry name namer own c)) (first_components own) (λ c s. (at_first c s).entry)))

    -- the files of a held tree are those at or below its entries
    pub held_files : files_in name r n ≡ flat_map (files_of_entry name r) (entries name (named_map name own))
    held_files =
        rebuilt (named_map name own) (parts_of (named_map name own) (name_map name namer own content).file_map)
        ∙ ap (flat_map (λ c. placed c (sub_map (named_map name own) (c ∷ [])))) (firsts_named name own)
        ∙ joined_same (λ c. placed c (sub_map (named_map name own) (c ∷ []))) (files_of_entry name r) (node_entry name namer own) (first_components own) (each_in (λ c. placed c (sub_map (named_map name own) (c ∷ [])) ≡ files_of_entry name r (node_entry name namer own c)) (first_components own) (λ c s. ap (placed c) (at_first c s).files))
        ∙ ap (flat_map (files_of_entry name r)) (sym (spelling name namer own))

-- ---- the text before the paths

-- the paths of a held tree's files have components
pub some_paths : (name : Kind → Bytes → Bytes) (f : FileMap Bytes) → T (are_file_paths f) → AllByRecursion (λ e. e.0 ≢ []) (named_map name f)
some_paths name [] h = tt
some_paths name (e ∷ es) h = (by e.0 (first (is_file_path e.0) (are_file_paths es) h), some_paths name es (second (is_file_path e.0) (are_file_paths es) h))
  where
    by : (p : Path) → T (is_file_path p) → p ≢ []
    by [] k z = absurd k
    by (c ∷ p) k z = cc z

-- what stands below a directory has its path in front
moved : (front c : Bytes) (p : Path) → p ≢ [] → front ++ path_text (c ∷ p) ≡ (front ++ c ++ 47 ∷ []) ++ path_text p
moved front c [] h = absurd (h refl)
moved front c (d ∷ p) h = sym (append_assoc (front ++ c) (47 ∷ []) (path_text (d ∷ p)) ∙ append_assoc front c (47 ∷ path_text (d ∷ p)))

pub lines_moved : (front c : Bytes) (f : FileMap Bytes) → AllByRecursion (λ e. e.0 ≢ []) f → flat_map (line_below front) (placed c f) ≡ flat_map (line_below (front ++ c ++ 47 ∷ [])) f
lines_moved front c [] h = refl
lines_moved front c (e ∷ es) h =
    let here = moved front c e.0 h.0 in
    let rest = lines_moved front c es h.1 in
    λ i. line_at (here i) ++ rest i
  where
    line_at : Bytes → Bytes
    line_at text = entry_line (record { mode = e.1.0; component = text; name = e.1.1 })

pub paths_moved : (front c : Bytes) (f : FileMap Bytes) → AllByRecursion (λ e. e.0 ≢ []) f → HavePaths front (placed c f) → HavePaths (front ++ c ++ 47 ∷ []) f
paths_moved front c [] h k = tt
paths_moved front c (e ∷ es) h k = (subst IsPathText (moved front c e.0 h.0) k.0, paths_moved front c es h.1 k.1)

-- the path of a directory with files has room behind it
pub has_room : (front : Bytes) (f : FileMap Bytes) → f ≢ [] → HavePaths front f → length front ≤ 4095
has_room front [] s h = absurd (s refl)
has_room front (e ∷ es) s h =
    let short = ((path_tells (front ++ path_text e.0) _).0 h.0).short in
    let long = length-append front (path_text e.0) in
    omega (arith, short, long)

-- the paths of files are paths
pub root_paths : (name : Kind → Bytes → Bytes) (f : FileMap Bytes) → T (are_file_paths f) → HavePaths [] (named_map name f)
root_paths name [] h = tt
root_paths name (e ∷ es) h = (by e.0 (first (is_file_path e.0) (are_file_paths es) h), root_paths name es (second (is_file_path e.0) (are_file_paths es) h))
  where
    by : (p : Path) → T (is_file_path p) → IsPathText (path_text p)
    by [] k = absurd k
    by (c ∷ p) k =
        let components = is_true _ (first (list_all is_component (c ∷ p)) (is_short (c ∷ p)) k) in
        let short = leb-true (length (path_text (c ∷ p))) 4095 (is_true _ (second (list_all is_component (c ∷ p)) (is_short (c ∷ p)) k)) in
        path_again (c ∷ p) components short ∙ ap Ok (sym (parts_joined (c ∷ p) components))

-- each entry of a tree, with its paths
pub all_within : (name : Kind → Bytes → Bytes) (namer : IsNamer name) (r : Records) (sound : IsSound name r) (front : Bytes) (es : List Entry) → AllByRecursion (IsEntry name namer r sound) es → HavePaths front (flat_map (files_of_entry name r) es)
    → AllByRecursion (IsWithin name r front) es
all_within name namer r sound front [] h k = tt
all_within name namer r sound front (e ∷ es) h k =
    let P : Path × Leaf Bytes → Type 0 = λ f. IsPathText (front ++ path_text f.0) in
    let here = all_left P (files_of_entry name r e) (flat_map (files_of_entry name r) es) k in
    let rest = all_right P (files_of_entry name r e) (flat_map (files_of_entry name r) es) k in
    (record { tree = h.0.tree; some = h.0.some; paths = here }, all_within name namer r sound front es h.1 rest)

-- ---- the lines

-- the lines of a map of names, with no text before its paths, are those of its files
pub root_lines : (name : Kind → Bytes → Bytes) (f : FileMap Bytes) → flat_map (line_below []) (named_map name f) ≡ flat_map (file_line name) f
root_lines name [] = refl
root_lines name (e ∷ es) = ap (λ x. file_line name e ++ x) (root_lines name es)

module _ (name : Kind → Bytes → Bytes) (r : Records) (front : Bytes) where
  -- the lines of the files at or below an entry
  abbrev pub lines_of : Entry → Bytes
  lines_of e = flat_map (line_below front) (files_of_entry name r e)

  -- a file's line
  pub file_lines : (e : Entry) → is_dir e.mode ≡ false → lines_of e ≡ entry_line (record { mode = e.mode; component = front ++ e.component; name = e.name })
  file_lines e h =
      ap (λ b. flat_map (line_below front) (placed e.component (cond b (files_in name r e.name) (([], (e.mode, e.name)) ∷ [])))) h
      ∙ append-nil (entry_line (record { mode = e.mode; component = front ++ e.component; name = e.name }))

  -- what is at or below a directory
  pub below_dir : (e : Entry) → is_dir e.mode ≡ true → files_named name r (e.mode, e.name) ≡ files_in name r e.name
  below_dir e h = ap (λ b. cond b (files_in name r e.name) (([], (e.mode, e.name)) ∷ [])) h

  -- the text before the paths of the files below a directory
  abbrev pub inner : Entry → Bytes
  inner e = (front ++ e.component) ++ 47 ∷ []

  -- the lines of the files below it
  pub dir_lines : (e : Entry) → is_dir e.mode ≡ true → AllByRecursion (λ f. f.0 ≢ []) (files_in name r e.name) → flat_map (line_below (inner e)) (files_in name r e.name) ≡ lines_of e
  dir_lines e h k = sym (ap (λ fs. flat_map (line_below front) (placed e.component fs)) (below_dir e h) ∙ lines_moved front e.component (files_in name r e.name) k)

  -- their paths, and the room that is left behind the directory's own
  pub dir_paths : (e : Entry) → is_dir e.mode ≡ true → AllByRecursion (λ f. f.0 ≢ []) (files_in name r e.name) → IsWithin name r front e → HavePaths (inner e) (files_in name r e.name) × (length (inner e) ≤ 4095)
  dir_paths e h k w =
      let paths = paths_moved front e.component (files_in name r e.name) k (subst (λ fs. HavePaths front (placed e.component fs)) (below_dir e h) w.paths) in
      (paths, has_room (inner e) (files_in name r e.name) (λ z. w.some (below_dir e h ∙ z)) paths)

module _ (name : Kind → Bytes → Bytes) (namer : IsNamer name) (r : Records) (sound : IsSound name r) (n : Bytes) (held : IsTrue (is_held r.records kind.Tree n)) where
  -- the lines of a held tree's files are those of its entries
  pub tree_lines : (front : Bytes) → flat_map (line_below front) (files_in name r n) ≡ flat_map (lines_of name r front) (entries name (files_in name r n))
  tree_lines front = ap (flat_map (line_below front)) (held_files name namer r sound n held) ∙ lines_of_parts (line_below front) (files_of_entry name r) (entries name (files_in name r n))

  -- each of its entries has paths, where its files have
  pub tree_within : (front : Bytes) → HavePaths front (files_in name r n) → AllByRecursion (IsWithin name r front) (entries name (files_in name r n))
  tree_within front h = all_within name namer r sound front (entries name (files_in name r n)) (held_entries name namer r sound n held) (subst (HavePaths front) (held_files name namer r sound n held) h)

  -- the paths of its files have components, and are paths
  pub tree_paths : AllByRecursion (λ f. f.0 ≢ []) (files_in name r n) × HavePaths [] (files_in name r n)
  tree_paths =
      let files = files_of_tree (value_of_name r.records n) in
      let paths = (content_parts files (content name namer r sound n held)).paths in
      (some_paths name files paths, root_paths name files paths)

-- a mode that is tested is a directory's
pub is_dir_mode : (m : Mode) → is_dir m ≡ true → m ≡ Dir
is_dir_mode Dir h = refl
is_dir_mode File h = absurd (cc h)
is_dir_mode Exec h = absurd (cc h)
is_dir_mode Link h = absurd (cc h)
is_dir_mode Gitlink h = absurd (cc h)
