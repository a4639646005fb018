-- What a tree that is held names is held.
use Rattle.std.proofs.Common.{◌≡◌, ◌≢◌, ℕ, true, false, List, [], ◌∷◌, map, take, slice_get, Option, Some, None, refl, sym, ap, subst, ◌∙◌}
use Rattle.std.specs.List.{AllByRecursion}
use Rattle.std.specs.Option.{is_some}
use Rattle.std.specs.Map.Iter.{TakesFirst}
use Rattle.gx_model.specs.declared.objects.Kind.{Kind}
use Rattle.gx_model.specs.declared.objects.Kind.TheVariants as kinds
use Rattle.gx_model.specs.declared.objects.Mode.{Mode}
use Rattle.gx_model.specs.declared.objects.Mode.TheVariants.{File, Exec, Link, Gitlink, Dir}
use Rattle.gx_model.specs.Texts.{Bytes}
use Rattle.gx_model.specs.Objects.{Entry}
use Rattle.gx_model.specs.Records.Growth.{same_kind}
use Rattle.gx_model.specs.Histories.{AreDistinct, Record}
use Rattle.gx_model.specs.Records.RecordFaults.{is_entry_held, is_held, is_of_kind}
use Rattle.gx_model.specs.Records.Sound.{AnyByRecursion, IsHeldAs, IsLinked, IsSound}
use Rattle.gx_model.proofs.Records.GrownRecords.{kind_same}
use Rattle.gx_model.proofs.Texts.PathTests.{is_true}
use Rattle.gx_model.proofs.Records.TakenRecords.{named_some}
use Rattle.gx_object.specs.declared.entry.Entry.{Entry as Shown}
use Rattle.gx_object.specs.Entries.{shown}
use Rattle.gx_repo.specs.Earlier.{IsHeldTree, IsThere, left}
use Rattle.gx_repo.proofs.Places.{held_by_all}
use Rattle.gx_repo.proofs.RecordRooms.{linked_at}

-- a body without bytes is that of a tree without entries
pub no_entries : (rs : List Record) → IsHeldTree rs []
no_entries rs = ([], (refl, refl, refl), tt)

module _ (rs : List Record) (distinct : AreDistinct (map (λ r. r.name) rs)) (k : ℕ) where
  -- what the first records hold under a name is found among all
  held_first : (P : Record → Type 0) (kind : Kind) (n : Bytes) → ((r : Record) → P r → (r.kind ≡ kind) × (r.name ≡ n)) → AnyByRecursion P (take k rs) → is_held rs kind n ≡ true
  held_first P kind n is h =
      let q = named_some P n (λ r p. (is r p).1) rs distinct (held_by_all P k rs h) in
      ap (is_of_kind kind) q.1 ∙ ap (λ j. same_kind j kind) (is q.0 q.2).0 ∙ is_true _ (kind_same kind)

  -- so is what an entry names
  entry_first : (m : Mode) (n : Bytes) → IsHeldAs (take k rs) m n → is_entry_held rs m n ≡ true
  entry_first File n h = held_first (λ r. (r.kind ≡ kinds.Blob) × (r.name ≡ n)) kinds.Blob n (λ r p. p) h
  entry_first Exec n h = held_first (λ r. (r.kind ≡ kinds.Blob) × (r.name ≡ n)) kinds.Blob n (λ r p. p) h
  entry_first Link n h = held_first (λ r. (r.kind ≡ kinds.Blob) × (r.name ≡ n)) kinds.Blob n (λ r p. p) h
  entry_first Gitlink n h = refl
  entry_first Dir n h = held_first (λ r. (r.kind ≡ kinds.Tree) × (r.name ≡ n) × (r.body ≢ [])) kinds.Tree n (λ r p. (p.0, p.1)) h

  -- and what each entry names
  entries_first : (es : List Entry) → AllByRecursion (λ e. IsHeldAs (take k rs) e.mode e.name) es → AllByRecursion (IsThere rs) es
  entries_first [] h = tt
  entries_first (e ∷ es) h = (entry_first e.mode e.name h.0, entries_first es h.1)

-- the tree at a place of a sound repository
pub tree_there : (name : Kind → Bytes → Bytes) (rs : List Record) → IsSound name (record { records = rs; refs = [] }) → (k : ℕ) (r : Record) → Some r ≡ slice_get rs k → r.kind ≡ kinds.Tree → IsHeldTree rs r.body
tree_there name rs sound k r here is =
    let linked = subst (λ j. IsLinked (take k rs) j r.body) is (linked_at name rs k r sound (sym here)) in
    (linked.0, linked.1, entries_first rs sound.distinct k linked.0 linked.2)

-- ---- what is left of an earlier tree

-- without the next entry, what is left stays held
pub left_behind : (rs : List Record) (next : Option Shown) (rest : List Entry) → AllByRecursion (IsThere rs) (left next rest) → AllByRecursion (IsThere rs) rest
left_behind rs None rest h = h
left_behind rs (Some e) rest h = h.1

-- once an entry is taken, it and the others are held
pub left_taken : (rs : List Record) (old new : List Entry) (next : Option Shown) → TakesFirst shown old next new → AllByRecursion (IsThere rs) old → AllByRecursion (IsThere rs) (left next new)
left_taken rs old new None (e, f) h = subst (AllByRecursion (IsThere rs)) (sym f) tt
left_taken rs old new (Some x) e h = subst (AllByRecursion (IsThere rs)) e h

-- where none was read already, the entry of a text that comes next is held with the others, and they stay so without it
pub left_passed : (rs : List Record) (next : Option Shown) (old new : List Entry) (e : Entry) → is_some next ≡ false → old ≡ e ∷ new → AllByRecursion (IsThere rs) (left next old) → IsThere rs e × AllByRecursion (IsThere rs) (left next new)
left_passed rs None old new e none s h = subst (AllByRecursion (IsThere rs)) s h
left_passed rs (Some x) old new e none s h = absurd (cc)
