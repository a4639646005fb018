-- What a put does to a sound repository, and to its history.
use Rattle.std.proofs.Common.{◌≡◌, ℕ, List, map, Some, Result, Ok, Err, IsErrAnd, sym, ap, subst, ◌∙◌}
use Rattle.gx_model.specs.declared.objects.Kind.{Kind}
use Rattle.gx_model.specs.Texts.{Bytes}
use Rattle.gx_model.specs.Histories.Files.{FileMap}
use Rattle.gx_model.specs.Histories.Values.{tree_value}
use Rattle.gx_model.specs.Records.{name_of}
use Rattle.gx_model.specs.Histories.{Record, Records, record_for, with_one, with_tree}
use Rattle.gx_model.specs.Records.HistoryOf.{contents_of, history_of, named_values, value_in}
use Rattle.gx_model.specs.Records.Sound.{HasShortPaths, IsLinked, IsNamedMap, IsSound}
use Rattle.gx_model.specs.Records.Growth.{all_trees, put, put_all, tree_records}
use Rattle.gx_model.specs.Laws.RepositoryLaws.{LinksTell, PutsGrow, TreesGrow, values_of, with_records}
use Rattle.gx_object.specs.declared.name.Name.{Name}
use Rattle.gx_store.specs.declared.fault.StoreFault.{StoreFault}
use Rattle.gx_store.specs.declared.fault.StoreFault.TheVariants.{OutOfMemory, NameHeld}
use Rattle.gx_store.specs.Stores.{Puts}
use Rattle.gx_tree.specs.declared.fault.TreeFault.{TreeFault}
use Rattle.gx_tree.specs.StoreFaults.{tree_fault}
use Rattle.gx_tree.specs.Writes.{PutsAll, map_name}
use Rattle.gx_model.proofs.Records.Puts.{front_put}
use Rattle.gx_repo.specs.Additions.{Adds, AddsAll, HasValues, HidesNone}
use Rattle.gx_repo.specs.Rooms.{IsFront}
use Rattle.gx_repo.proofs.RecordRooms.{front_kept}

pub adds_by_put : (old new : List Record) (r : Record) (answer : Result Name StoreFault) → Puts old new r answer → Adds old new r answer
adds_by_put old new r (Ok n) p = p
adds_by_put old new r (Err OutOfMemory) p = p.1
adds_by_put old new r (Err NameHeld) p = p

-- a fault of a put, passed on
pub adds_refused : (old new : List Record) (r : Record) (fault : StoreFault) (answer : Result Name StoreFault) → IsErrAnd answer (λ y. y ≡ fault) → Puts old new r (Err fault) → Adds old new r answer
adds_refused old new r fault (Ok n) e p = absurd e
adds_refused old new r fault (Err y) e p = subst (λ z. Adds old new r (Err z)) (sym e) (adds_by_put old new r (Err fault) p)

-- and with what it says of the name
pub name_refused : (old new : List Record) (r : Record) (fault : StoreFault) (answer : Result Name StoreFault)
    → IsErrAnd answer (λ y. y ≡ fault) → Puts old new r (Err fault) → HidesNone old r.name answer
name_refused old new r fault (Ok n) e p = absurd e
name_refused old new r fault (Err y) e p = of y (subst (λ z. Puts old new r (Err z)) (sym e) p)
  where
    of : (y : StoreFault) → Puts old new r (Err y) → HidesNone old r.name (Err y)
    of OutOfMemory q = q.0
    of NameHeld q = tt

-- a fault of a write of trees, passed on where the records are those of before
pub writes_refused : (old now wrote rs : List Record) (called : Bytes) (fault : StoreFault) (given : TreeFault) → tree_fault fault ≡ given → PutsAll {Y = Name} rs old wrote (Err given) → now ≡ old → AddsAll old now rs called (Err fault)
writes_refused old now wrote rs called OutOfMemory given e p same = same
writes_refused old now wrote rs called NameHeld given e p same = ((subst (λ f. PutsAll {Y = Name} rs old wrote (Err f)) (sym e) p).0, same)

-- the rooms of the first records are those of the first ones after a put
pub front_after : (old new : List Record) (r : Record) (answer : Result Name StoreFault) → Puts old new r answer → (rooms : List ℕ) → IsFront rooms old → IsFront rooms new
front_after old new r (Ok n) p rooms its = front_kept old new rooms its (front_put old new r p.1)
front_after old new r (Err OutOfMemory) p rooms its = subst (IsFront rooms) (sym p.1) its
front_after old new r (Err NameHeld) p rooms its = subst (IsFront rooms) (sym p.1) its

module _ (name : Kind → Bytes → Bytes) (links : LinksTell name) (puts : PutsGrow name) (r : Records) (sound : IsSound name r)
    (kind : Kind) (body : Bytes) (linked : IsLinked r.records kind body) (short : HasShortPaths r.records (record_for name kind body)) (new : List Record) where
  -- with the put object the repository is sound, and its history has the value
  pub put_grown : put r.records (record_for name kind body) ≡ Some new
      → IsSound name (with_records r new) × HasValues r (with_records r new) (with_one (values_of r) (value_in (named_values r.records) kind body))
  put_grown e =
      let q = links r sound kind body linked short in
      puts.one r sound _ q.proper q.known new (ap (put r.records) q.recorded ∙ e)

  pub put_is_sound : (answer : Result Name StoreFault) → Puts r.records new (record_for name kind body) answer → IsSound name (with_records r new)
  put_is_sound (Ok n) p = (put_grown p.1).0
  put_is_sound (Err OutOfMemory) p = subst (λ rs. IsSound name (with_records r rs)) (sym p.1) sound
  put_is_sound (Err NameHeld) p = subst (λ rs. IsSound name (with_records r rs)) (sym p.1) sound

module _ (name : Kind → Bytes → Bytes) (trees : TreesGrow name) (puts : PutsGrow name) (r : Records) (sound : IsSound name r)
    (names : FileMap Bytes) (named : IsNamedMap r.records names) where
  -- with the trees of a map of names the repository is sound, and its history has the file map
  pub trees_grown : (new : List Record) → put_all r.records (tree_records name names) ≡ Some new
      → IsSound name (with_records r new) × HasValues r (with_records r new) (with_tree (values_of r) (contents_of (named_values r.records) names))
  trees_grown new e =
      let t = trees r sound names named in
      let g = puts.grew r sound (map tree_value (all_trees (contents_of (named_values r.records) names))) t.ready new (ap (put_all r.records) (sym t.records) ∙ e) in
      (g.sound, g.history ∙ ap (λ vs. record { values = vs; refs = (history_of r).refs }) t.added)

  -- the name of the map's tree is the file map's
  pub tree_named : map_name name names ≡ name_of name (tree_value (contents_of (named_values r.records) names))
  tree_named = ap (map_name name) (sym (trees r sound names named).named)
