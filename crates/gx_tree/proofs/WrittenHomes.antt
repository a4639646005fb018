-- Directories that are at home while trees are written.
use Rattle.std.proofs.Common.{◌≡◌, ℕ, ◌+◌, ◌<◌, zero, suc, true, cond, arith, get_or, List, [], ◌∷◌, ◌++◌, map, take, length, Option, Some, None, refl, sym, ap, ◌∙◌, subst}
use Rattle.std.specs.Prelude.{IsTrue}
use Rattle.std.specs.Option.{is_some, option_and_then, unwrap_or}
use Rattle.std.specs.List.{AllByRecursion}
use Rattle.std.proofs.lemmas.Bool.{false≢true}
use Rattle.std.proofs.lemmas.Grind.{flat_map-append}
use Rattle.std.proofs.lemmas.List.{append-nil, map_more}
use Rattle.gx_model.specs.Objects.{entry_text, tree_text}
use Rattle.gx_model.specs.declared.objects.Kind.{Kind}
use Rattle.gx_model.specs.declared.objects.Kind.TheVariants.{Blob, Tree, Commit, Tag}
use Rattle.gx_model.specs.declared.objects.Mode.TheVariants.{Dir}
use Rattle.gx_model.specs.Texts.{Bytes}
use Rattle.gx_model.specs.Texts.Paths.{Path}
use Rattle.gx_model.specs.Histories.Edits.{is_root}
use Rattle.gx_model.specs.Histories.Files.{FileMap, sub_map}
use Rattle.gx_model.specs.Histories.{Record}
use Rattle.gx_model.specs.Records.Growth.{put, put_all, put_under, record_named, same_kind, same_object, tree_records}
use Rattle.gx_tree.specs.Components.{bytes_of}
use Rattle.gx_tree.specs.Homes.{AreAtHome, IsItemAtHome}
use Rattle.gx_tree.specs.Named.{NamedTree, IsAtHome, IsHome, is_named, own_name}
use Rattle.gx_tree.specs.Nodes.{IsLevel, files}
use Rattle.gx_object.specs.Parts.{bytes_if}
use Rattle.gx_object.specs.declared.name.Name.{Name}
use Rattle.gx_tree.specs.Writes.{kept_leaf, kept_records, level_records, map_name}
use Rattle.gx_tree.specs.Written.{AreWritten, IsWritten}
use Rattle.gx_tree.specs.Views.{RememberAll, Remembers, item_names, shown_item, names_below, names_of, own_entry, own_leaf, shown_entries, tree_of}
use Rattle.gx_tree.specs.declared.directory.Item.{Item}
use Rattle.gx_tree.specs.declared.directory.Item.TheVariants.{File, Folder}
use Rattle.gx_tree.specs.declared.directory.Entry.{Entry}
use Rattle.gx_tree.proofs.Below.{sub_map-whole}
use Rattle.gx_tree.proofs.Homes.{all_joined, files_same, named_at_home}
use Rattle.gx_tree.proofs.TreeRecords.{kept_entry}
use Rattle.gx_tree.proofs.Texts.{same_itself}

-- ---- more records

-- what is held in one store is held in the other
abbrev pub IsKeptHeld : List Record → List Record → Type 0
IsKeptHeld old new = (n : Bytes) (s : Record) → record_named old n ≡ Some s → record_named new n ≡ Some s

pub held_longer : (old new rs : List Record) → IsKeptHeld old new → AllByRecursion (λ r. record_named old r.name ≡ Some r) rs → AllByRecursion (λ r. record_named new r.name ≡ Some r) rs
held_longer old new [] k h = tt
held_longer old new (r ∷ rs) k h = (k r.name r h.0, held_longer old new rs k h.1)

module _ (name : Kind → Bytes → Bytes) (old new : List Record) (k : IsKeptHeld old new) where
  pub home_longer : (f : FileMap Bytes) (names : List (Path × Bytes)) → IsAtHome name old (record { files = f; names = names }) → IsAtHome name new (record { files = f; names = names })
  home_longer f [] h = tt
  home_longer f (e ∷ names) h = (record { named = h.0.named; held = held_longer old new (tree_records name (sub_map f e.0)) k h.0.held }, home_longer f names h.1)

  pub item_longer : {A : Type 0} (i : Item A) → IsItemAtHome name old i → IsItemAtHome name new i
  item_longer (File m n) h = tt
  item_longer (Folder d) h = home_longer d.files d.names h

  pub entries_longer : {A : Type 0} (es : List (Entry A)) → AreAtHome name old es → AreAtHome name new es
  entries_longer [] h = tt
  entries_longer (e ∷ es) h = (item_longer e.item h.0, entries_longer es h.1)

-- ---- a remembered name

module _ (name : Kind → Bytes → Bytes) (rs : List Record) where
  home_by : (f : FileMap Bytes) (names : List (Path × Bytes)) (n : Bytes) → own_name names ≡ Some n → IsAtHome name rs (record { files = f; names = names }) → IsHome name rs n f
  home_by f [] n e h = absurd (cc)
  home_by f ((p, m) ∷ names) n e h = by p e h.0
    where
      by : (p : Path) → cond (is_root p) (Some m) None ≡ Some n → IsHome name rs m (sub_map f p) → IsHome name rs n f
      by [] e h = let same : m ≡ n = cc in subst (λ z. IsHome name rs z f) same (subst (IsHome name rs m) (sub_map-whole f) h)
      by (c ∷ p) e h = absurd (cc)

  -- it is that of the whole
  pub own_home : (t : NamedTree) (n : Bytes) → own_name t.names ≡ Some n → IsAtHome name rs t → IsHome name rs n t.files
  own_home t n e h = home_by t.files t.names n e h

-- ---- what is held is put without a change

kinds_same : (k : Kind) → same_kind k k ≡ true
kinds_same Blob = refl
kinds_same Tree = refl
kinds_same Commit = refl
kinds_same Tag = refl

object_same : (r : Record) → same_object r r ≡ true
object_same r = rw (kinds_same r.kind, same_itself r.body) refl

put_again : (rs : List Record) (r : Record) → record_named rs r.name ≡ Some r → put rs r ≡ Some rs
put_again rs r h = ap (λ o. put_under o rs r) h ∙ ap (λ b. cond b (Some rs) None) (object_same r)

pub put_all_again : (rs ns : List Record) → AllByRecursion (λ r. record_named rs r.name ≡ Some r) ns → put_all rs ns ≡ Some rs
put_all_again rs [] h = refl
put_all_again rs (n ∷ ns) h = ap (λ o. option_and_then (λ now. put_all now ns) o) (put_again rs n h.0) ∙ put_all_again rs ns h.1

pub take_whole : {X : Type 0} (xs : List X) → take (length xs) xs ≡ xs
take_whole [] = refl
take_whole (x ∷ xs) = ap (λ r. x ∷ r) (take_whole xs)

-- ---- entries that are shared

pub all_more : {X : Type 0} (P : X → Type 0) (xs : List X) (i : ℕ) (r : X) → i < length xs → r ≡ get_or xs i r → AllByRecursion P (take i xs) → P r → AllByRecursion P (take (i + 1) xs)
all_more P [] i r l ir h p = absurd (omega arith)
all_more P (x ∷ xs) zero r l ir h p = (subst P ir p, tt)
all_more P (x ∷ xs) (suc i) r l ir h p =
    let e : suc (i + 1) ≡ suc i + 1 = omega arith in
    subst (λ n. AllByRecursion P (take n (x ∷ xs))) e (h.0, all_more P xs i r (omega arith) ir h.1 p)

-- ---- entries that remember their names

-- the text of one more
pub text_more : {A : Type 0} (es : List (Entry A)) (i : ℕ) (r : Entry A) → i < length es → r ≡ get_or es i r → tree_text (map own_entry (take (i + 1) es)) ≡ tree_text (map own_entry (take i es)) ++ entry_text (own_entry r)
text_more es i r l ir =
    ap tree_text (map_more own_entry es i r l ∙ ap (λ z. map own_entry (take i es) ++ own_entry z ∷ []) (sym ir))
    ∙ flat_map-append entry_text (map own_entry (take i es)) (own_entry r ∷ [])
    ∙ ap (λ z. tree_text (map own_entry (take i es)) ++ z) (append-nil (entry_text (own_entry r)))

own_none : (c : Bytes) (names more : List (Path × Bytes)) → own_name more ≡ None → own_name (map (λ e. (c ∷ e.0, e.1)) names ++ more) ≡ None
own_none c [] more h = h
own_none c (e ∷ names) more h = refl

own_none-item : {A : Type 0} (c : Bytes) (i : Item A) (more : List (Path × Bytes)) → own_name more ≡ None → own_name (item_names c i ++ more) ≡ None
own_none-item c (File m n) more h = h
own_none-item c (Folder d) more h = own_none c d.names more h

-- what stands below entries is no name of the whole
pub own_none-below : {A : Type 0} (es : List (Entry A)) → own_name (names_below es) ≡ None
own_none-below [] = refl
own_none-below (e ∷ es) = own_none-item (bytes_of e.component) e.item (names_below es) (own_none-below es)

-- the name that a directory remembers is that of the whole
pub own_name-of : {A : Type 0} (r : Option Name) (es : List (Entry A)) → bytes_if r ≡ own_name (names_of r es)
own_name-of None es = sym (own_none-below es)
own_name-of (Some n) es = refl

module _ (name : Kind → Bytes → Bytes) (rs : List Record) where
  named_by : (d : NamedTree) (o : Option Bytes) → own_name d.names ≡ o → IsTrue (is_some o) → IsAtHome name rs d → IsHome name rs (unwrap_or o []) d.files
  named_by d None e k h = absurd (false≢true k)
  named_by d (Some n) e k h = own_home name rs d n e h

  own_leaf-is : {A : Type 0} (i : Item A) → IsItemAtHome name rs i → Remembers i → own_leaf i ≡ kept_leaf name (shown_item i)
  own_leaf-is (File m n) h k = refl
  own_leaf-is (Folder d) h k = ap (λ n. (Dir, n)) (named_by d (own_name d.names) refl k h).named

  -- they are the entries of the tree
  pub own_entries : {A : Type 0} (es : List (Entry A)) → AreAtHome name rs es → RememberAll es → map own_entry es ≡ map (kept_entry name) (shown_entries es)
  own_entries [] h k = refl
  own_entries (e ∷ es) h k =
      let leaf = own_leaf-is e.item h.0 k.0 in
      let rest = own_entries es h.1 k.1 in
      λ i. record { mode = (leaf i).0; component = bytes_of e.component; name = (leaf i).1 } ∷ rest i

  records_held : {A : Type 0} (i : Item A) → IsItemAtHome name rs i → Remembers i → AllByRecursion (λ r. record_named rs r.name ≡ Some r) (kept_records name (shown_item i))
  records_held (File m n) h k = tt
  records_held (Folder d) h k = (named_by d (own_name d.names) refl k h).held

  -- the trees below them are held
  pub below_held : {A : Type 0} (es : List (Entry A)) → AreAtHome name rs es → RememberAll es → AllByRecursion (λ r. record_named rs r.name ≡ Some r) (level_records name (shown_entries es))
  below_held [] h k = tt
  below_held (e ∷ es) h k = all_joined (λ r. record_named rs r.name ≡ Some r) (kept_records name (shown_item e.item)) (level_records name (shown_entries es)) (records_held e.item h.0 k.0) (below_held es h.1 k.1)

  -- a directory that remembers its name is held whole
  pub named_held : (d : NamedTree) → IsTrue (is_named d.names) → IsAtHome name rs d → AllByRecursion (λ r. record_named rs r.name ≡ Some r) (tree_records name d.files)
  named_held d k h = (named_by d (own_name d.names) refl k h).held

  -- the same once more is written too
  pub shared_written : (d e : NamedTree) → e ≡ d → IsTrue (is_named d.names) → IsAtHome name rs d → IsWritten name rs d.files e
  shared_written d e same k h = record { files = files_same same; home = subst (IsAtHome name rs) (sym same) h; remembers = ap (λ t. is_named t.names) same ∙ k }

-- a directory of written entries whose own tree is put
pub directory_written : {A : Type 0} (name : Kind → Bytes → Bytes) (es below : List (Entry A)) (f : FileMap Bytes) (n : Name) (mid new : List Record) → files (shown_entries es) ≡ f → IsLevel (shown_entries es) → AreWritten name mid es below → n.bytes ≡ map_name name f → AllByRecursion (λ r. record_named new r.name ≡ Some r) (tree_records name f) → IsKeptHeld mid new → IsWritten name new f (tree_of (Some n) below)
directory_written name es below f n mid new view level made named held kept =
    let same = ap files made.seen ∙ view in
    let own : IsHome name new n.bytes f = record { named = named; held = held } in
    record {
      files = same;
      home = named_at_home name new n below (subst IsLevel (sym made.seen) level) (subst (IsHome name new n.bytes) (sym same) own) (entries_longer name mid new kept below made.home);
      remembers = refl;
    }
