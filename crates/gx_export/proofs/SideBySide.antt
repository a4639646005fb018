-- Two directories' entries side by side: what differs between their files is what differs pair by pair.
use Rattle.std.proofs.Common.{◌≡◌, ◌≢◌, ◌∙◌, true, false, cond, List, [], ◌∷◌, ◌++◌, map, inl, inr, refl, sym, ap, subst, append-nil}
use Rattle.std.specs.Prelude.{IsTrue}
use Rattle.std.specs.List.{flat_map, list_all, AllByRecursion}
use Rattle.std.specs.declared.cmp.Ordering.{Ordering}
use Rattle.std.specs.declared.cmp.Ordering.TheVariants.{Less, Equal, Greater}
use Rattle.std.specs.Ordering.{is_lt, nat_cmp, ordering_reverse}
use Rattle.std.specs.Cmp.{tied_itself}
use Rattle.std.specs.Cmp.Lexicographic.{nat_list_cmp_total, slice_cmp}
use Rattle.std.proofs.lemmas.Bool.{and_parts, false≢true, true≢false}
use Rattle.gx_model.specs.declared.objects.Kind.{Kind}
use Rattle.gx_model.specs.declared.objects.Mode.{Mode}
use Rattle.gx_model.specs.declared.objects.Mode.TheVariants.{File, Exec, Link, Gitlink, Dir}
use Rattle.gx_model.specs.Changes.{changed_files, gone_paths}
use Rattle.gx_model.specs.Histories.Files.{FileMap, Leaf}
use Rattle.gx_model.specs.Objects.{Entry as TreeEntry, entry_key, is_dir}
use Rattle.gx_model.specs.Records.HistoryOf.{placed}
use Rattle.gx_model.specs.Texts.{Bytes, same_bytes}
use Rattle.gx_model.specs.Texts.Paths.{Path}
use Rattle.gx_tree.specs.Nodes.{IsAfter, IsKept, IsLevel, Kept, Level, file, files, folder, is_inner_path, kept_map, key, precedes}
use Rattle.gx_tree.proofs.Below.{file_at-other, file_at-placed}
use Rattle.gx_tree.proofs.Levels.{key_trans}
use Rattle.gx_tree.proofs.Lookups.{no_root}
use Rattle.gx_tree.proofs.Order.{texts_equal}
use Rattle.gx_tree.proofs.Texts.{cases_bytes}
use Rattle.gx_tree.proofs.TreeRecords.{kept_entry}
use Rattle.gx_export.specs.Compared.{IsPair}
use Rattle.gx_export.specs.Pairs.{entry_order, side_by_side, with_old}
use Rattle.gx_export.proofs.ApartMaps.{IsApart, apart_both, apart_more, changed_append, changed_left, changed_right, gone_append, gone_left, gone_right, none_apart}

-- the order of a directory's entries
abbrev pub kept_order : Bytes × Kept → Bytes × Kept → Ordering
kept_order e f = slice_cmp nat_cmp (key e.0 e.1) (key f.0 f.1)

-- the entries come behind a text
abbrev pub AreBehind : Bytes → Level → Type 0
AreBehind text es = AllByRecursion (λ e. IsTrue (precedes text e)) es

-- ---- entries of other keys have no path in common

inner_apart : (c : Bytes) (x : Leaf Bytes) (g : FileMap Bytes) → list_all (λ e. is_inner_path e.0) g ≡ true → IsApart (placed c (([], x) ∷ [])) (placed c g)
inner_apart c x [] h = tt
inner_apart c x (([], y) ∷ g) h = absurd (false≢true (and_parts (is_inner_path []) (list_all (λ e. is_inner_path e.0) g) h).0)
inner_apart c x ((d ∷ p, y) ∷ g) h = (file_at-placed c (d ∷ p) (([], x) ∷ []), inner_apart c x g (and_parts (is_inner_path (d ∷ p)) (list_all (λ e. is_inner_path e.0) g) h).1)

others_apart : (c d : Bytes) (f g : FileMap Bytes) → same_bytes d c ≡ false → IsApart (placed c f) (placed d g)
others_apart c d f [] n = tt
others_apart c d f (e ∷ g) n = (file_at-other d c e.0 f n, others_apart c d f g n)

same_apart : (c : Bytes) (k l : Kept) → IsKept k → IsKept l → (key c k ≢ key c l) → IsApart (placed c (kept_map k)) (placed c (kept_map l))
same_apart c (file x) (file y) h j n = absurd (n refl)
same_apart c (folder f) (folder g) h j n = absurd (n refl)
same_apart c (file x) (folder g) h j n = inner_apart c x g j.1.paths
same_apart c (folder f) (file y) h j n = (file_at-placed c [] f ∙ no_root f h.1.paths, tt)

entries_apart : (e f : Bytes × Kept) → IsKept e.1 → IsKept f.1 → (key e.0 e.1 ≢ key f.0 f.1) → IsApart (placed e.0 (kept_map e.1)) (placed f.0 (kept_map f.1))
entries_apart e f h j n = elim (cases_bytes f.0 e.0) [
  | inl s ↦ subst (λ (d : Bytes). IsApart (placed e.0 (kept_map e.1)) (placed d (kept_map f.1))) (sym s) (same_apart e.0 e.1 f.1 h j (subst (λ (d : Bytes). key e.0 e.1 ≢ key d f.1) s n))
  | inr o ↦ others_apart e.0 f.0 (kept_map e.1) (kept_map f.1) o
]

not_less : (k : Bytes) → is_lt (slice_cmp nat_cmp k k) ≡ true → ⊥
not_less k h = true≢false (sym h ∙ ap is_lt (tied_itself nat_list_cmp_total k))

-- what comes behind a text has another
other_key : (a b : Bytes) → is_lt (slice_cmp nat_cmp a b) ≡ true → a ≢ b
other_key a b h e = not_less b (subst (λ (t : Bytes). is_lt (slice_cmp nat_cmp t b) ≡ true) e h)

turned : (a b : Bytes) → (a ≢ b) → b ≢ a
turned a b n e = n (sym e)

-- an entry before a directory's entries
pub apart_before : (e : Bytes × Kept) (es : Level) → IsKept e.1 → IsLevel es → AreBehind (key e.0 e.1) es → IsApart (placed e.0 (kept_map e.1)) (files es)
apart_before e [] h l b = tt
apart_before e (f ∷ es) h l b =
    apart_more (placed e.0 (kept_map e.1)) (placed f.0 (kept_map f.1)) (files es)
    (entries_apart e f h l.1 (other_key (key e.0 e.1) (key f.0 f.1) b.0)) (apart_before e es h l.3 b.1)

pub apart_behind : (e : Bytes × Kept) (es : Level) → IsKept e.1 → IsLevel es → AreBehind (key e.0 e.1) es → IsApart (files es) (placed e.0 (kept_map e.1))
apart_behind e [] h l b = none_apart (placed e.0 (kept_map e.1))
apart_behind e (f ∷ es) h l b =
    apart_both (placed f.0 (kept_map f.1)) (files es) (placed e.0 (kept_map e.1))
    (entries_apart f e l.1 h (turned (key e.0 e.1) (key f.0 f.1) (other_key (key e.0 e.1) (key f.0 f.1) b.0))) (apart_behind e es h l.3 b.1)

-- ---- the order

pub behind_first : (e : Bytes × Kept) (es : Level) → AllByRecursion (IsAfter e) es → AreBehind (key e.0 e.1) es
behind_first e [] h = tt
behind_first e (f ∷ es) h = (h.0.1, behind_first e es h.1)

pub behind_both : (text : Bytes) (e : Bytes × Kept) (es : Level) → is_lt (slice_cmp nat_cmp text (key e.0 e.1)) ≡ true → AreBehind (key e.0 e.1) es → AreBehind text es
behind_both text e [] l h = tt
behind_both text e (f ∷ es) l h = (key_trans text (key e.0 e.1) (key f.0 f.1) l h.0, behind_both text e es l h.1)

-- ---- pair by pair

abbrev pub changed_by : List (Level × Level) → FileMap Bytes
changed_by pairs = flat_map (λ p. changed_files (files p.0) (files p.1)) pairs

abbrev pub gone_by : List (Level × Level) → List Path
gone_by pairs = flat_map (λ p. gone_paths (files p.0) (files p.1)) pairs

-- what differs, pair by pair
pub record AreBy (es ds : Level) (pairs : List (Level × Level)) : Type 0 where
  pub changed : changed_files (files es) (files ds) ≡ changed_by pairs
  pub gone : gone_paths (files es) (files ds) ≡ gone_by pairs

-- the new ones alone
abbrev new_alone : Level → List (Level × Level)
new_alone ds = map (λ d. ([], d ∷ [])) ds

one_file : (e : Bytes × Kept) → placed e.0 (kept_map e.1) ≡ files (e ∷ [])
one_file e = sym (append-nil (placed e.0 (kept_map e.1)))

new_by : (ds : Level) → AreBy [] ds (new_alone ds)
new_by [] = record { changed = refl; gone = refl }
new_by (d ∷ ds) =
    let rest = new_by ds in
    record {
      changed = changed_append [] (placed d.0 (kept_map d.1)) (files ds) ∙ (λ i. changed_files [] (one_file d i) ++ rest.changed i);
      gone = rest.gone;
    }

module _ (e : Bytes × Kept) (es : Level) where
  abbrev E : FileMap Bytes
  E = placed e.0 (kept_map e.1)

  old_ends : (pairs : List (Level × Level)) → AreBy es [] pairs → AreBy (e ∷ es) [] ((e ∷ [], []) ∷ pairs)
  old_ends pairs h = record {
    changed = h.changed;
    gone = gone_append E (files es) [] ∙ (λ i. gone_paths (one_file e i) [] ++ h.gone i);
  }

  module _ (d : Bytes × Kept) (ds : Level) where
    abbrev D : FileMap Bytes
    D = placed d.0 (kept_map d.1)

    old_first : IsApart E (files (d ∷ ds)) → IsApart (files (d ∷ ds)) E → (pairs : List (Level × Level)) → AreBy es (d ∷ ds) pairs → AreBy (e ∷ es) (d ∷ ds) ((e ∷ [], []) ∷ pairs)
    old_first a b pairs h = record {
      changed = changed_right E (files es) (files (d ∷ ds)) a ∙ h.changed;
      gone = gone_append E (files es) (files (d ∷ ds)) ∙ (λ i. (gone_left E [] (files (d ∷ ds)) b ∙ ap (λ f. gone_paths f []) (one_file e)) i ++ h.gone i);
    }

    new_first : IsApart D (files (e ∷ es)) → IsApart (files (e ∷ es)) D → (pairs : List (Level × Level)) → AreBy (e ∷ es) ds pairs → AreBy (e ∷ es) (d ∷ ds) (([], d ∷ []) ∷ pairs)
    new_first a b pairs h = record {
      changed = changed_append (files (e ∷ es)) D (files ds) ∙ (λ i. (changed_left [] (files (e ∷ es)) D b ∙ ap (changed_files []) (one_file d)) i ++ h.changed i);
      gone = gone_right (files (e ∷ es)) D (files ds) a ∙ h.gone;
    }

    both_first : IsApart E (files ds) → IsApart (files ds) E → IsApart D (files es) → IsApart (files es) D → (pairs : List (Level × Level)) → AreBy es ds pairs → AreBy (e ∷ es) (d ∷ ds) ((e ∷ [], d ∷ []) ∷ pairs)
    both_first a b j k pairs h = record {
      changed =
          changed_append (files (e ∷ es)) D (files ds)
          ∙ (λ i. (changed_left E (files es) D k ∙ (λ j. changed_files (one_file e j) (one_file d j))) i ++ (changed_right E (files es) (files ds) a ∙ h.changed) i);
      gone =
          gone_append E (files es) (files (d ∷ ds))
          ∙ (λ i. (gone_left E D (files ds) b ∙ (λ j. gone_paths (one_file e j) (one_file d j))) i ++ (gone_right (files es) D (files ds) j ∙ h.gone) i);
    }

-- ---- all pairs

-- the pairs of two directories' entries, of which the old ones pass one test and the new ones another
pub record ArePairs (P Q : Bytes × Kept → Type 0) (es ds : Level) (pairs : List (Level × Level)) : Type 0 where
  pub by : AreBy es ds pairs
  pub shapes : AllByRecursion IsPair pairs
  pub olds : AllByRecursion (λ (p : Level × Level). AllByRecursion P p.0) pairs
  pub news : AllByRecursion (λ (p : Level × Level). AllByRecursion Q p.1) pairs

module _ (P Q : Bytes × Kept → Type 0) where
  new_pairs : (ds : Level) → AllByRecursion Q ds → ArePairs P Q [] ds (new_alone ds)
  new_pairs ds q = record { by = new_by ds; shapes = shapes ds; olds = none ds; news = each ds q }
    where
      shapes : (ds : Level) → AllByRecursion IsPair (new_alone ds)
      shapes [] = tt
      shapes (d ∷ ds) = (tt, shapes ds)

      none : (ds : Level) → AllByRecursion (λ (p : Level × Level). AllByRecursion P p.0) (new_alone ds)
      none [] = tt
      none (d ∷ ds) = (tt, none ds)

      each : (ds : Level) → AllByRecursion Q ds → AllByRecursion (λ (p : Level × Level). AllByRecursion Q p.1) (new_alone ds)
      each [] q = tt
      each (d ∷ ds) q = ((q.0, tt), each ds q.1)

  -- an old entry and those behind it
  record IsFirst (e : Bytes × Kept) (es : Level) (others : Level → List (Level × Level)) : Type 0 where
    pub passes : P e
    pub level : IsLevel (e ∷ es)
    pub rest : (ds : Level) → IsLevel ds → AllByRecursion Q ds → ArePairs P Q es ds (others ds)

  old_pairs : (e : Bytes × Kept) (es : Level) (others : Level → List (Level × Level)) → IsFirst e es others → (ds : Level) → IsLevel ds → AllByRecursion Q ds → ArePairs P Q (e ∷ es) ds (with_old kept_order e others ds)
  old_pairs e es others h [] l q =
      let rest = h.rest [] tt tt in
      record { by = old_ends e es (others []) rest.by; shapes = (tt, rest.shapes); olds = ((h.passes, tt), rest.olds); news = (tt, rest.news) }
  old_pairs e es others h (d ∷ ds) l q =
      by (old_pairs e es others h ds l.3 q.1) (kept_order e d) refl
    where
      behind_e : AreBehind (key e.0 e.1) es
      behind_e = behind_first e es h.level.2

      behind_d : AreBehind (key d.0 d.1) ds
      behind_d = behind_first d ds l.2

      by : ArePairs P Q (e ∷ es) ds (with_old kept_order e others ds) → (o : Ordering) → kept_order e d ≡ o → ArePairs P Q (e ∷ es) (d ∷ ds) (elim o [ Less ↦ (e ∷ [], []) ∷ others (d ∷ ds) | Equal ↦ (e ∷ [], d ∷ []) ∷ others ds | Greater ↦ ([], d ∷ []) ∷ with_old kept_order e others ds ])
      by after Less k =
          let rest = h.rest (d ∷ ds) l q in
          let all : AreBehind (key e.0 e.1) (d ∷ ds) = (ap is_lt k, behind_both (key e.0 e.1) d ds (ap is_lt k) behind_d) in
          record {
            by = old_first e es d ds (apart_before e (d ∷ ds) h.level.1 l all) (apart_behind e (d ∷ ds) h.level.1 l all) (others (d ∷ ds)) rest.by;
            shapes = (tt, rest.shapes);
            olds = ((h.passes, tt), rest.olds);
            news = (tt, rest.news);
          }
      by after Equal k =
          let rest = h.rest ds l.3 q.1 in
          let same : key e.0 e.1 ≡ key d.0 d.1 = texts_equal (key e.0 e.1) (key d.0 d.1) k in
          let new : AreBehind (key e.0 e.1) ds = subst (λ (t : Bytes). AreBehind t ds) (sym same) behind_d in
          let old : AreBehind (key d.0 d.1) es = subst (λ (t : Bytes). AreBehind t es) same behind_e in
          record {
            by = both_first e es d ds (apart_before e ds h.level.1 l.3 new) (apart_behind e ds h.level.1 l.3 new) (apart_before d es l.1 h.level.3 old) (apart_behind d es l.1 h.level.3 old) (others ds) rest.by;
            shapes = (same, rest.shapes);
            olds = ((h.passes, tt), rest.olds);
            news = ((q.0, tt), rest.news);
          }
      by after Greater k =
          let less : is_lt (slice_cmp nat_cmp (key d.0 d.1) (key e.0 e.1)) ≡ true = ap is_lt (nat_list_cmp_total.antisymm (key d.0 d.1) (key e.0 e.1) ∙ ap ordering_reverse k) in
          let all : AreBehind (key d.0 d.1) (e ∷ es) = (less, behind_both (key d.0 d.1) e es less behind_e) in
          record {
            by = new_first e es d ds (apart_before d (e ∷ es) l.1 h.level all) (apart_behind d (e ∷ es) l.1 h.level all) (with_old kept_order e others ds) after.by;
            shapes = (tt, after.shapes);
            olds = (tt, after.olds);
            news = ((q.0, tt), after.news);
          }

  -- the pairs of two directories' entries
  pub all_pairs : (es ds : Level) → IsLevel es → IsLevel ds → AllByRecursion P es → AllByRecursion Q ds → ArePairs P Q es ds (side_by_side kept_order es ds)
  all_pairs [] ds h l p q = new_pairs ds q
  all_pairs (e ∷ es) ds h l p q = old_pairs e es (side_by_side kept_order es) (record { passes = p.0; level = h; rest = λ fs m r. all_pairs es fs h.3 m p.1 r }) ds l q

-- ---- by the entries of trees

no_dir : (m : Mode) → (m ≢ Dir) → is_dir m ≡ false
no_dir File n = refl
no_dir Exec n = refl
no_dir Link n = refl
no_dir Gitlink n = refl
no_dir Dir n = absurd (n refl)

module _ (name : Kind → Bytes → Bytes) where
  kept_key : (e : Bytes × Kept) → IsKept e.1 → entry_key (kept_entry name e) ≡ key e.0 e.1
  kept_key e h = by e.1 h
    where
      by : (k : Kept) → IsKept k → entry_key (kept_entry name (e.0, k)) ≡ key e.0 k
      by (file x) h = ap (λ b. cond b (e.0 ++ 47 ∷ []) e.0) (no_dir x.0 h) ∙ sym (append-nil e.0)
      by (folder f) h = refl

  abbrev pub both_entries : Level × Level → List TreeEntry × List TreeEntry
  both_entries p = (map (kept_entry name) p.0, map (kept_entry name) p.1)

  orders_are : (e d : Bytes × Kept) → IsKept e.1 → IsKept d.1 → entry_order (kept_entry name e) (kept_entry name d) ≡ kept_order e d
  orders_are e d h j = let old = kept_key e h in let new = kept_key d j in λ i. slice_cmp nat_cmp (old i) (new i)

  new_entries : (ds : Level) → map (λ d. ([], d ∷ [])) (map (kept_entry name) ds) ≡ map both_entries (new_alone ds)
  new_entries [] = refl
  new_entries (d ∷ ds) = ap (λ ps. ([], kept_entry name d ∷ []) ∷ ps) (new_entries ds)

  old_entries : (e : Bytes × Kept) (others : Level → List (Level × Level)) (told : List TreeEntry → List (List TreeEntry × List TreeEntry)) → IsKept e.1 → ((ds : Level) → IsLevel ds → told (map (kept_entry name) ds) ≡ map both_entries (others ds))
      → (ds : Level) → IsLevel ds → with_old entry_order (kept_entry name e) told (map (kept_entry name) ds) ≡ map both_entries (with_old kept_order e others ds)
  old_entries e others told h t [] l = ap (λ ps. (kept_entry name e ∷ [], []) ∷ ps) (t [] tt)
  old_entries e others told h t (d ∷ ds) l = by (old_entries e others told h t ds l.3) (entry_order (kept_entry name e) (kept_entry name d)) (kept_order e d) (orders_are e d h l.1)
    where
      by : with_old entry_order (kept_entry name e) told (map (kept_entry name) ds) ≡ map both_entries (with_old kept_order e others ds) → (o p : Ordering) → o ≡ p
          → elim o [ Less ↦ (kept_entry name e ∷ [], []) ∷ told (map (kept_entry name) (d ∷ ds)) | Equal ↦ (kept_entry name e ∷ [], kept_entry name d ∷ []) ∷ told (map (kept_entry name) ds) | Greater ↦ ([], kept_entry name d ∷ []) ∷ with_old entry_order (kept_entry name e) told (map (kept_entry name) ds) ]
          ≡ map both_entries (elim p [ Less ↦ (e ∷ [], []) ∷ others (d ∷ ds) | Equal ↦ (e ∷ [], d ∷ []) ∷ others ds | Greater ↦ ([], d ∷ []) ∷ with_old kept_order e others ds ])
      by after o Less k = subst (λ q. elim q [ Less ↦ (kept_entry name e ∷ [], []) ∷ told (map (kept_entry name) (d ∷ ds)) | Equal ↦ (kept_entry name e ∷ [], kept_entry name d ∷ []) ∷ told (map (kept_entry name) ds) | Greater ↦ ([], kept_entry name d ∷ []) ∷ with_old entry_order (kept_entry name e) told (map (kept_entry name) ds) ]
          ≡ map both_entries ((e ∷ [], []) ∷ others (d ∷ ds))) (sym k) (ap (λ ps. (kept_entry name e ∷ [], []) ∷ ps) (t (d ∷ ds) l))
      by after o Equal k = subst (λ q. elim q [ Less ↦ (kept_entry name e ∷ [], []) ∷ told (map (kept_entry name) (d ∷ ds)) | Equal ↦ (kept_entry name e ∷ [], kept_entry name d ∷ []) ∷ told (map (kept_entry name) ds) | Greater ↦ ([], kept_entry name d ∷ []) ∷ with_old entry_order (kept_entry name e) told (map (kept_entry name) ds) ]
          ≡ map both_entries ((e ∷ [], d ∷ []) ∷ others ds)) (sym k) (ap (λ ps. (kept_entry name e ∷ [], kept_entry name d ∷ []) ∷ ps) (t ds l.3))
      by after o Greater k = subst (λ q. elim q [ Less ↦ (kept_entry name e ∷ [], []) ∷ told (map (kept_entry name) (d ∷ ds)) | Equal ↦ (kept_entry name e ∷ [], kept_entry name d ∷ []) ∷ told (map (kept_entry name) ds) | Greater ↦ ([], kept_entry name d ∷ []) ∷ with_old entry_order (kept_entry name e) told (map (kept_entry name) ds) ]
          ≡ map both_entries (([], d ∷ []) ∷ with_old kept_order e others ds)) (sym k) (ap (λ ps. ([], kept_entry name d ∷ []) ∷ ps) after)

  -- the pairs of entries are those of what is kept
  pub pairs_told : (es ds : Level) → IsLevel es → IsLevel ds → side_by_side entry_order (map (kept_entry name) es) (map (kept_entry name) ds) ≡ map both_entries (side_by_side kept_order es ds)
  pairs_told [] ds h l = new_entries ds
  pairs_told (e ∷ es) ds h l = old_entries e (side_by_side kept_order es) (side_by_side entry_order (map (kept_entry name) es)) h.1 (λ fs m. pairs_told es fs h.3 m) ds l
