-- Writing a directory's trees, entry by entry.
use Rattle.std.proofs.Common.{append_assoc, ◌≡◌, ℕ, ◌+◌, ◌<◌, ◌≤◌, List, [], ◌∷◌, ◌++◌, map, length, get_or, drop, take, Some, None, refl, sym, ap, ◌∙◌, subst}
use Rattle.std.specs.Prelude.{Result, Ok, Err, IfOk, IsErr, IsErrAnd}
use Rattle.std.proofs.lemmas.List.{append-nil, map_more, take-append-drop, take_all, map-append}
use Rattle.std.proofs.lemmas.Bool.{false≢true}
use Rattle.std.proofs.lemmas.Grind.{flat_map-append}
use Rattle.gx_model.specs.declared.objects.Kind.{Kind}
use Rattle.gx_model.specs.declared.objects.Kind.TheVariants as kind
use Rattle.gx_model.specs.Texts.{Bytes}
use Rattle.gx_model.specs.Histories.Files.{FileMap}
use Rattle.gx_model.specs.Objects.{tree_text}
use Rattle.gx_model.specs.Records.{tree_body}
use Rattle.gx_model.specs.Histories.{Record, record_for}
use Rattle.gx_model.specs.Records.Growth.{put, put_all, tree_record, tree_records}
use Rattle.gx_object.specs.declared.name.Name.{Name}
use Rattle.gx_store.specs.Stores.{Puts}
use Rattle.gx_store.specs.declared.fault.StoreFault.{StoreFault}
use Rattle.gx_store.specs.declared.fault.StoreFault.TheVariants as store
use Rattle.gx_tree.specs.Nodes.{IsLevel, Level, files}
use Rattle.gx_tree.specs.StoreFaults.{tree_fault}
use Rattle.gx_tree.specs.Homes.{AreAtHome}
use Rattle.gx_tree.specs.Views.{shown_item, own_entry, shown_entry, shown_entries, RememberAll}
use Rattle.gx_tree.specs.Writes.{Extends, PutsAll, PutsFront, kept_records, level_records, own_record}
use Rattle.gx_tree.specs.declared.directory.Entry.{Entry}
use Rattle.gx_tree.specs.declared.fault.TreeFault.{TreeFault}
use Rattle.gx_tree.specs.declared.fault.TreeFault.TheVariants.{OutOfMemory, NoSuchPath, RootNotTree, PathTooLong, NameHeld}
use Rattle.gx_tree.proofs.Copies.{seen_more}
use Rattle.gx_tree.proofs.Levels.{IsInner-files}
use Rattle.gx_model.proofs.Records.Puts.{front_put, front_same, front_trans, put_all_more, put_all_stops, put_none, put_one}
use Rattle.gx_tree.proofs.WrittenHomes.{own_entries, take_whole}
use Rattle.gx_tree.proofs.TreeRecords.{entries-files, tree_records-files}

-- ---- a front of records

-- nothing is put
pub front_none : (rs old : List Record) → PutsFront rs old old
front_none rs old = ([], rs, refl, refl)

front_still : (rs old new : List Record) → new ≡ old → PutsFront rs old new
front_still rs old new same = subst (PutsFront rs old) (sym same) (front_none rs old)

-- all are put
pub front_whole : (rs old new : List Record) → put_all old rs ≡ Some new → PutsFront rs old new
front_whole rs old new h = (rs, [], sym (append-nil rs), h)

-- of those behind records that are put, a front is put
pub front_behind : (all old mid new ms ns more : List Record) → all ≡ ms ++ (ns ++ more) → put_all old ms ≡ Some mid → PutsFront ns mid new → PutsFront all old new
front_behind all old mid new ms ns more split h (front, rest, is, puts) = (
  ms ++ front,
  rest ++ more,
  split ∙ ap (λ z. ms ++ (z ++ more)) is ∙ simp append_assoc,
  put_all_more old mid new ms front h puts,
)

-- what stops behind records that are put, stops all
stops : (Y Z : Type 0) (all old mid new ms ns more : List Record) (fault : TreeFault) → all ≡ ms ++ (ns ++ more) → put_all old ms ≡ Some mid → PutsAll {Y = Y} ns mid new (Err fault) → PutsAll {Y = Z} all old new (Err fault)
stops Y Z all old mid new ms ns more OutOfMemory split h p = front_behind all old mid new ms ns more split h p
stops Y Z all old mid new ms ns more NameHeld split h p = (ap (put_all old) split ∙ put_all_stops old mid ms ns more h p.0, front_behind all old mid new ms ns more split h p.1)
stops Y Z all old mid new ms ns more NoSuchPath split h p = absurd p
stops Y Z all old mid new ms ns more RootNotTree split h p = absurd p
stops Y Z all old mid new ms ns more PathTooLong split h p = absurd p

module _ (name : Kind → Bytes → Bytes) where
  -- the trees below the first i entries are put
  abbrev pub IsWriting : {A : Type 0} → List (Entry A) → ℕ → List Record → List Record → Type 0
  IsWriting es i old new = put_all old (level_records name (shown_entries (take i es))) ≡ Some new

  records_more : {A : Type 0} (es : List (Entry A)) (i : ℕ) (r : Entry A) → i < length es → r ≡ get_or es i r → level_records name (shown_entries (take (i + 1) es)) ≡ level_records name (shown_entries (take i es)) ++ kept_records name (shown_item r.item)
  records_more es i r l ir =
      ap (level_records name) (map_more shown_entry es i r l ∙ ap (λ z. shown_entries (take i es) ++ shown_entry z ∷ []) (sym ir))
      ∙ flat_map-append (λ e. kept_records name e.1) (shown_entries (take i es)) (shown_entry r ∷ [])
      ∙ ap (λ z. level_records name (shown_entries (take i es)) ++ z) (append-nil (kept_records name (shown_item r.item)))

  records_split : {A : Type 0} (es : List (Entry A)) (i : ℕ) (r : Entry A) → i < length es → r ≡ get_or es i r → level_records name (shown_entries es) ≡ level_records name (shown_entries (take i es)) ++ (kept_records name (shown_item r.item) ++ level_records name (shown_entries (drop (i + 1) es)))
  records_split es i r l ir =
      ap (λ z. level_records name (shown_entries z)) (sym (take-append-drop i es))
      ∙ ap (level_records name) (map-append shown_entry (take i es) (drop i es))
      ∙ flat_map-append (λ e. kept_records name e.1) (shown_entries (take i es)) (shown_entries (drop i es))
      ∙ ap (λ z. level_records name (shown_entries (take i es)) ++ level_records name z) (seen_more es i r l ir)

  -- one more
  pub writing_more : {A : Type 0} (es : List (Entry A)) (i : ℕ) (r : Entry A) (old mid new : List Record) → i < length es → r ≡ get_or es i r → put_all mid (kept_records name (shown_item r.item)) ≡ Some new → IsWriting es i old mid → IsWriting es (i + 1) old new
  writing_more es i r old mid new l ir p h =
      ap (put_all old) (records_more es i r l ir) ∙ put_all_more old mid new (level_records name (shown_entries (take i es))) (kept_records name (shown_item r.item)) h p

  -- an entry that isn't written stops it
  pub writing_stops : {A : Type 0} (Y Z : Type 0) (es : List (Entry A)) (i : ℕ) (r : Entry A) (old mid new : List Record) (fault : TreeFault) → i < length es → r ≡ get_or es i r → PutsAll {Y = Y} (kept_records name (shown_item r.item)) mid new (Err fault) → IsWriting es i old mid → PutsAll {Y = Z} (level_records name (shown_entries es)) old new (Err fault)
  writing_stops Y Z es i r old mid new fault l ir p h =
      stops Y Z _ old mid new (level_records name (shown_entries (take i es))) (kept_records name (shown_item r.item)) (level_records name (shown_entries (drop (i + 1) es))) fault (records_split es i r l ir) h p

  -- the first i entries are a front
  pub writing_front : {A : Type 0} (es : List (Entry A)) (i : ℕ) (old new : List Record) → IsWriting es i old new → PutsFront (level_records name (shown_entries es)) old new
  writing_front es i old new h = (
    level_records name (shown_entries (take i es)),
    level_records name (shown_entries (drop i es)),
    ap (λ z. level_records name (shown_entries z)) (sym (take-append-drop i es))
        ∙ ap (level_records name) (map-append shown_entry (take i es) (drop i es))
        ∙ flat_map-append (λ e. kept_records name e.1) (shown_entries (take i es)) (shown_entries (drop i es)),
    h,
  )

  -- the trees below all entries are put
  pub all_written : {A : Type 0} (es : List (Entry A)) (i : ℕ) (old mid : List Record) → length es ≤ i → IsWriting es i old mid → put_all old (level_records name (shown_entries es)) ≡ Some mid
  all_written es i old mid l h = ap (λ z. put_all old (level_records name (shown_entries z))) (sym (take_all i es l)) ∙ h

  -- the records of a directory's trees are those of its entries, and then its own
  whole : {A : Type 0} (es : List (Entry A)) → IsLevel (shown_entries es) → tree_records name (files (shown_entries es)) ≡ level_records name (shown_entries es) ++ tree_record name (files (shown_entries es)) ∷ []
  whole es h = tree_records-files name (shown_entries es) h (IsInner-files (shown_entries es) h).paths

  -- entries below which a tree isn't put stop that of the directory
  pub below_stops : {A : Type 0} {f : FileMap Bytes} (Y Z : Type 0) (es : List (Entry A)) (old new : List Record) (fault : TreeFault) → files (shown_entries es) ≡ f → IsLevel (shown_entries es) → PutsAll {Y = Y} (level_records name (shown_entries es)) old new (Err fault) → PutsAll {Y = Z} (tree_records name f) old new (Err fault)
  below_stops Y Z es old new fault view level p =
      stops Y Z _ old old new [] (level_records name (shown_entries es)) (tree_record name (files (shown_entries es)) ∷ []) fault (ap (tree_records name) (sym view) ∙ whole es level) refl p

  -- after the trees below the entries, that of the directory is put
  pub own_put : {A : Type 0} {f : FileMap Bytes} (es : List (Entry A)) (level : Level) (old mid new : List Record) → level ≡ shown_entries es → files (shown_entries es) ≡ f → IsLevel (shown_entries es) → put_all old (level_records name (shown_entries es)) ≡ Some mid → put_all mid (own_record name (files level)) ≡ Some new → put_all old (tree_records name f) ≡ Some new
  own_put es level old mid new alike view l below own =
      ap (λ z. put_all old (tree_records name z)) (sym view) ∙ ap (put_all old) (whole es l)
      ∙ put_all_more old mid new (level_records name (shown_entries es)) (own_record name (files (shown_entries es))) below (ap (λ z. put_all mid (own_record name (files z))) (sym alike) ∙ own)

  -- or stops
  pub own_stops : {A : Type 0} {f : FileMap Bytes} (Y Z : Type 0) (es : List (Entry A)) (level : Level) (old mid new : List Record) (fault : TreeFault) → level ≡ shown_entries es → files (shown_entries es) ≡ f → IsLevel (shown_entries es) → put_all old (level_records name (shown_entries es)) ≡ Some mid → PutsAll {Y = Y} (own_record name (files level)) mid new (Err fault) → PutsAll {Y = Z} (tree_records name f) old new (Err fault)
  own_stops Y Z es level old mid new fault alike view l below own =
      stops Y Z _ old mid new (level_records name (shown_entries es)) (own_record name (files level)) [] fault
      (ap (tree_records name) (sym view) ∙ whole es l ∙ ap (λ z. level_records name (shown_entries es) ++ own_record name (files z)) (sym alike)) below own

  -- ---- a directory's own tree

  -- its body, by the names that the entries remember
  pub own_text : {A : Type 0} (es : List (Entry A)) (body : Bytes) (rs : List Record) → IsLevel (shown_entries es) → AreAtHome name rs es → RememberAll es → body ≡ tree_text (map own_entry es) → body ≡ tree_body name (files (shown_entries es))
  own_text es body rs level home named text = text ∙ ap tree_text (own_entries name rs es home named ∙ sym (entries-files name (shown_entries es) level))

  record_is : (f : FileMap Bytes) (body : Bytes) → body ≡ tree_body name f → ◌≡◌ {A = Record} (record_for name kind.Tree body) (tree_record name f)
  record_is f body e = λ i. record { name = name kind.Tree (e i); kind = kind.Tree; body = e i }

  -- what the store answers is what the tree answers
  pub one_put : (f : FileMap Bytes) (body : Bytes) (old new : List Record) → body ≡ tree_body name f → put old (record_for name kind.Tree body) ≡ Some new → put_all old (own_record name f) ≡ Some new
  one_put f body old new e p = put_one old new (tree_record name f) (subst (λ r. put old r ≡ Some new) (record_is f body e) p)

  pub one_stops : (Y : Type 0) (f : FileMap Bytes) (body : Bytes) (old new : List Record) (s : StoreFault) → body ≡ tree_body name f → Puts old new (record_for name kind.Tree body) (Err s) → PutsAll {Y = Y} (own_record name f) old new (Err (tree_fault s))
  one_stops Y f body old new store.OutOfMemory e p = front_still (own_record name f) old new p.1
  one_stops Y f body old new store.NameHeld e p = (put_none old (tree_record name f) (subst (λ r. put old r ≡ None) (record_is f body e) p.0), front_still (own_record name f) old new p.1)

-- ---- what a call answers that passes a fault on

pub passed_on : {Y : Type 0} (rs old new : List Record) (r : Result Y TreeFault) (f : TreeFault) → IsErr r → IsErrAnd r (λ e. e ≡ f) → PutsAll {Y = Y} rs old new (Err f) → PutsAll rs old new r
passed_on rs old new (Ok y) f e h p = absurd (false≢true e)
passed_on {Y} rs old new (Err e) f t h p = subst (λ z. PutsAll {Y = Y} rs old new (Err z)) (sym h) p

-- ---- stores

pub extends_trans : {N : Type 0} {old mid new : N × List Record} → Extends old mid → Extends mid new → Extends old new
extends_trans {old = old} {mid = mid} {new = new} h k = record { namer = k.namer ∙ h.namer; front = front_trans old.1 mid.1 new.1 h.front k.front }

-- a put extends a store
pub put_extends : {N : Type 0} (old new : N × List Record) (r : Record) (a : Result Name StoreFault) → new.0 ≡ old.0 → Puts old.1 new.1 r a → Extends old new
put_extends old new r (Ok n) k p = record { namer = k; front = front_put old.1 new.1 r p.1 }
put_extends old new r (Err store.OutOfMemory) k p = record { namer = k; front = front_same old.1 new.1 p.1 }
put_extends old new r (Err store.NameHeld) k p = record { namer = k; front = front_same old.1 new.1 p.1 }

-- where nothing is put, the store is as it was
pub extends_same : {N : Type 0} (s : N × List Record) → Extends s s
extends_same s = record { namer = refl; front = take_whole s.1 }

-- where there is a fault, nothing is made
pub made_of_none : {X Y : Type 0} (P : X → Type 0) (r : Result X Y) → IsErr r → IfOk r P
made_of_none P (Ok x) e = absurd (false≢true e)
made_of_none P (Err f) e = tt
