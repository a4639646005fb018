-- How much room the entries of a tree take whose links are held.
use Rattle.std.proofs.Common.{◌≡◌, ◌≢◌, ◌⊎◌, ℕ, zero, suc, ◌+◌, ◌<◌, nat_eq, true, false, ◌&&◌, if◌then◌else◌, List, [], ◌∷◌, length, get_or, take, slice_get, Some, None, inl, inr, refl, sym, ap, ◌∙◌, arith}
use Rattle.std.specs.Bool.{passes}
use Rattle.std.proofs.lemmas.Bool.{ne_eqb}
use Rattle.std.proofs.lemmas.Option.{slice_get-get_or}
use Rattle.gx_model.specs.declared.objects.Kind.{Kind}
use Rattle.gx_model.specs.declared.objects.Kind.TheVariants as kinds
use Rattle.gx_model.specs.declared.objects.Mode.TheVariants.{Dir}
use Rattle.gx_model.specs.Texts.{Bytes}
use Rattle.gx_model.specs.Objects.{Entry, IsNamer, is_dir}
use Rattle.gx_model.specs.Histories.{Record}
use Rattle.gx_model.specs.Records.HistoryOf.{files_at, files_of_tree, named_values, placed, value_in, value_named}
use Rattle.gx_model.specs.Records.Sound.{AnyByRecursion, IsHeldAs, IsSound}
use Rattle.gx_model.specs.Records.Growth.{record_named}
use Rattle.gx_model.specs.Records.RecordFaults.{is_held, is_of_kind, is_without_entries}
use Rattle.gx_model.proofs.Texts.PathTests.{same_is}
use Rattle.gx_store.specs.Stores.{place_named}
use Rattle.gx_repo.specs.Checking.{entry_room}
use Rattle.gx_repo.specs.Places.{IsPlace}
use Rattle.gx_repo.specs.Rooms.{room, room_of, rooms_of}
use Rattle.gx_repo.proofs.EntryRooms.{directory_room}
use Rattle.gx_repo.proofs.HeldRecords.{kind_is}
use Rattle.gx_repo.proofs.PathRooms.{room_some}
use Rattle.gx_repo.proofs.Places.{is_place, no_place, no_record, no_record_named, record_at_place}
use Rattle.gx_repo.proofs.RecordRooms.{directory_full, room_at_place, room_here}

-- without a place, nothing of the name is held
pub nothing_held : (rs : List Record) (k : Kind) (n : Bytes) → None ≡ place_named rs n → is_held rs k n ≡ false
nothing_held rs k n e = ap (is_of_kind k) (no_record_named rs n (no_place rs n (sym e)))

-- what is held under a name stands at its place
pub held_at_place : (rs : List Record) (k : Kind) (n : Bytes) (i : ℕ) → Some i ≡ place_named rs n → is_held rs k n ≡ is_of_kind k (slice_get rs i)
held_at_place rs k n i e =
    let p = is_place rs n i (sym e) in
    ap (is_of_kind k) (record_at_place rs n i p ∙ sym (slice_get-get_or rs i no_record p.within))

-- the record at a place is some record
any_here : (P : Record → Type 0) (rs : List Record) (i : ℕ) → i < length rs → P (get_or rs i no_record) → AnyByRecursion P rs
any_here P [] i l p = absurd (omega (arith, l))
any_here P (r ∷ rs) zero l p = inl p
any_here P (r ∷ rs) (suc i) l p = inr (any_here P rs i (omega (arith, l)) p)

module _ (name : Kind → Bytes → Bytes) (namer : IsNamer name) (rs : List Record) (sound : IsSound name (record { records = rs; refs = [] })) where
  -- a held tree: without entries, where no room is below it, or else with the room of what is below it
  pub directory_cases : (c n : Bytes) (i : ℕ) → IsPlace rs n i → is_held rs kinds.Tree n ≡ true
      → ((get_or (rooms_of rs) i 0 ≡ 0) × (is_without_entries (record_named rs n) ≡ true))
      ⊎ ((0 < get_or (rooms_of rs) i 0) × (is_without_entries (record_named rs n) ≡ false) × (room (placed c (files_at (named_values rs) Dir n)) ≡ 1 + length c + get_or (rooms_of rs) i 0))
  directory_cases c n i p held = by (get_or rs i no_record).body refl
    where
      here : slice_get rs i ≡ Some (get_or rs i no_record)
      here = slice_get-get_or rs i no_record p.within

      kind : (get_or rs i no_record).kind ≡ kinds.Tree
      kind = kind_is (get_or rs i no_record).kind kinds.Tree (sym (ap (is_of_kind kinds.Tree) (record_at_place rs n i p)) ∙ held)

      by : (b : Bytes) → (get_or rs i no_record).body ≡ b
          → ((get_or (rooms_of rs) i 0 ≡ 0) × (is_without_entries (record_named rs n) ≡ true))
          ⊎ ((0 < get_or (rooms_of rs) i 0) × (is_without_entries (record_named rs n) ≡ false) × (room (placed c (files_at (named_values rs) Dir n)) ≡ 1 + length c + get_or (rooms_of rs) i 0))
      by [] e = inl (
        room_here rs i (get_or rs i no_record) here ∙ (λ j. room_of (value_in (named_values (take i rs)) (kind j) (e j))),
        ap is_without_entries (record_at_place rs n i p) ∙ ap (λ b. nat_eq (length b) 0) e,
      )
      by (x ∷ xs) e =
          let directory : IsHeldAs rs Dir n = any_here (λ r. (r.kind ≡ kinds.Tree) × (r.name ≡ n) × (r.body ≢ [])) rs i p.within
          (kind, sym (same_is n (get_or rs i no_record).name (passes _ (p.named no_record))), λ z. let clash = sym e ∙ z in absurd (cc)) in
          let v = value_named (named_values rs) n in
          let full = directory_full name namer rs sound n directory in
          let same = sym (ap room_of full.tree) ∙ room_at_place rs n i p in
          inr (
            omega (arith, room_some (files_of_tree v) full.some, same),
            ap is_without_entries (record_at_place rs n i p) ∙ ap (λ b. nat_eq (length b) 0) e ∙ ne_eqb (length (x ∷ xs)) 0 (λ z. absurd (omega (arith, z))),
            directory_room name namer rs sound c n i directory p,
          )

  -- an entry that names a tree without entries has no room
  pub empty_entry : (e : Entry) (i : ℕ) → e.mode ≡ Dir → Some i ≡ place_named rs e.name → is_held rs kinds.Tree e.name ≡ true → get_or (rooms_of rs) i 0 ≡ 0 → None ≡ entry_room rs e
  empty_entry e i m place held none = elim (directory_cases e.component e.name i (is_place rs e.name i (sym place)) held) [
    | inl h ↦ λ j. if is_dir (sym m j) && sym h.1 j then None else Some (room (placed e.component (files_at (named_values rs) (sym m j) e.name)))
    | inr h ↦ absurd (omega (arith, none, h.0))
  ]

  -- an entry that names a tree with entries has that of the tree below its component
  pub full_entry : (e : Entry) (i : ℕ) → e.mode ≡ Dir → Some i ≡ place_named rs e.name → is_held rs kinds.Tree e.name ≡ true → get_or (rooms_of rs) i 0 ≢ 0 → Some (1 + length e.component + get_or (rooms_of rs) i 0) ≡ entry_room rs e
  full_entry e i m place held some = elim (directory_cases e.component e.name i (is_place rs e.name i (sym place)) held) [
    | inl h ↦ absurd (some h.0)
    | inr h ↦ ap Some (sym h.2) ∙ (λ j. if is_dir (sym m j) && sym h.1 j then None else Some (room (placed e.component (files_at (named_values rs) (sym m j) e.name))))
  ]
