-- Repositories and their stores as the code has them.
use Rattle.std.specs.Prelude.{ℕ, List, []}
use Rattle.gx_model.specs.declared.objects.Kind.{Kind}
use Rattle.gx_model.specs.Texts.{Bytes}
use Rattle.gx_model.specs.Histories.{Record, Records}
use Rattle.gx_model.specs.Records.Publishing.{Ref}
use Rattle.gx_model.specs.Records.Sound.{IsSound}
use Rattle.gx_repo.specs.Rooms.{IsFront}

-- a namer, and what is held under the names that it gives
abbrev pub Repository : Type 0 → Type 0
Repository N = N × Records

-- what a store holds is sound
abbrev pub IsSoundStore : {N : Type 0} → (N → Kind → Bytes → Bytes) → N × List Record → Type 0
IsSoundStore names store = IsSound (names store.0) (record { records = store.1; refs = [] })

-- records and refs together
abbrev pub held_in : List Record → List Ref → Records
held_in records refs = record { records = records; refs = refs }

-- what is held is sound, and the first of the records have these rooms
abbrev pub IsRepository : {N : Type 0} → (N → Kind → Bytes → Bytes) → N × List Record → List Ref → List ℕ → Type 0
IsRepository names store refs rooms = IsSound (names store.0) (held_in store.1 refs) × IsFront rooms store.1
