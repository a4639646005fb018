-- How much room the entries of a tree take whose links stand among the first records.
use Rattle.std.proofs.Common.{◌≡◌, ◌≢◌, ℕ, ◌+◌, max, List, [], ◌∷◌, length, get_or, take, Some, None, sym, ap, ◌∙◌}
use Rattle.gx_model.specs.declared.objects.Kind.{Kind}
use Rattle.gx_model.specs.declared.objects.Kind.TheVariants as kinds
use Rattle.gx_model.specs.declared.objects.Mode.TheVariants.{Dir}
use Rattle.gx_model.specs.Texts.{Bytes}
use Rattle.gx_model.specs.Objects.{Entry, IsNamer}
use Rattle.gx_model.specs.Histories.{Record}
use Rattle.gx_model.specs.Records.HistoryOf.{Named, files_at, files_of_entries, files_of_tree, named_values, placed, value_named}
use Rattle.gx_model.specs.Records.Sound.{IsHeldAs, IsSound}
use Rattle.gx_store.specs.Stores.{place_named}
use Rattle.gx_repo.specs.Places.{IsPlace}
use Rattle.gx_repo.specs.Rooms.{room, room_of, rooms_of}
use Rattle.gx_repo.proofs.PathRooms.{are_below, room_append, room_below}
use Rattle.gx_repo.proofs.Places.{found_before, held_by_all, held_nowhere, is_place, no_place, no_record, place_taken}
use Rattle.gx_repo.proofs.RecordRooms.{directory_full, room_at_place}

-- the room of entries is the greatest of theirs
pub room_of_entries : (ks : Named) (e : Entry) (es : List Entry) → room (files_of_entries ks (e ∷ es)) ≡ max (room (placed e.component (files_at ks e.mode e.name))) (room (files_of_entries ks es))
room_of_entries ks e es = room_append (placed e.component (files_at ks e.mode e.name)) (files_of_entries ks es)

-- a tree with entries, of this name
abbrev IsDirectory : Bytes → Record → Type 0
IsDirectory n r = (r.kind ≡ kinds.Tree) × (r.name ≡ n) × (r.body ≢ [])

-- a held directory has a place
pub directory_there : (rs : List Record) (k : ℕ) (n : Bytes) → IsHeldAs (take k rs) Dir n → None ≡ place_named rs n → ⊥
directory_there rs k n h e = held_nowhere (IsDirectory n) n (λ r q. q.1) rs (no_place rs n (sym e)) (held_by_all (IsDirectory n) k rs h)

-- the place of a directory that the first records hold is among these
pub directory_place : (rs : List Record) (k : ℕ) (n : Bytes) (i : ℕ) → IsHeldAs (take k rs) Dir n → Some i ≡ place_named rs n → IsPlace (take k rs) n i
directory_place rs k n i h e =
    let p = is_place rs n i (sym e) in
    place_taken rs k n i p (found_before (IsDirectory n) n (λ r q. q.1) k rs i (λ j m. p.earlier j no_record m) h)

-- the room of a held directory below a component
pub directory_room : (name : Kind → Bytes → Bytes) → IsNamer name → (rs : List Record) → IsSound name (record { records = rs; refs = [] }) → (c n : Bytes) (i : ℕ) → IsHeldAs rs Dir n → IsPlace rs n i
    → room (placed c (files_at (named_values rs) Dir n)) ≡ 1 + length c + get_or (rooms_of rs) i 0
directory_room name namer rs sound c n i h p =
    let v = value_named (named_values rs) n in
    let full = directory_full name namer rs sound n h in
    let below = room_below c (files_of_tree v) full.some (are_below (files_of_tree v) full.paths) in
    below ∙ ap (λ x. 1 + length c + x) (sym (ap room_of full.tree) ∙ room_at_place rs n i p)
