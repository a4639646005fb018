-- What items may still come, whatever a source tells, and how an answer is explained: by items that may have come before it.
-- Source: this project's own.
use Rattle.std.specs.Prelude.{◌≡◌, ◌≤◌, ◌⊎◌, Option, Some, None, Result, Ok, Err, option_map}
use Rattle.std.specs.Borrow.{Bor}
use Rattle.gx_model.specs.Texts.{Bytes}
use Rattle.gx_model.specs.Streams.Items as model
use Rattle.gx_model.specs.Streams.Items.{Stream, then_comes, Finished, Failed}
use Rattle.gx_model.specs.Streams.Lines.{Read, rest_line}
use Rattle.gx_stream.specs.Faults.{ended}
use Rattle.gx_stream.specs.Input.{KeepsStream}
use Rattle.gx_stream.specs.Reading.{Seen, MayCome}
use Rattle.gx_stream.specs.declared.item.Item.{Item}
use Rattle.gx_command.specs.Ahead.{ReadNext, ReadRest, most, shown_held_item, to_come}
use Rattle.gx_command.specs.CommandFaults.{fault_of}
use Rattle.gx_command.specs.declared.fault.CommandFault.{CommandFault}
use Rattle.gx_command.specs.declared.fault.CommandFault.TheVariants.{OutOfMemory}
use Rattle.gx_command.specs.declared.ahead.Ahead.{Ahead}

-- these items may come of a reader of items, behind the one that was read ahead
abbrev pub ItemsMayCome : Option model.Item → Seen → Stream → Type 0
ItemsMayCome None items s = MayCome items s
ItemsMayCome (Some held) items s = (left : Stream) × MayCome items left × (s ≡ then_comes held left)

-- these items may be ahead
unfoldable pub MayBeAhead : {R A : Type 0} → Ahead R A → Stream → Type 0
MayBeAhead a s = ItemsMayCome (option_map shown_held_item a.held) a.items s

-- Whatever may come behind, there are items that may have come before, of which the definition gives the answer, seen so,
-- and those behind. A fault other than want of memory is what it gives of some.
unfoldable pub Explains : {X Y : Type 0} → (X → Y) → (Stream → Read Y) → (Stream → Type 0) → (Stream → Type 0) → Result X CommandFault → Type 0
Explains view reading old new (Ok x) = (t : Stream) → new t → (s : Stream) × old s × (reading s ≡ Ok (view x, t))
Explains view reading old new (Err f) = (f ≡ OutOfMemory) ⊎ ((s : Stream) × old s × (reading s ≡ Err (fault_of f)))

abbrev pub ExplainsOn : {X Y R A : Type 0} → (X → Y) → (Stream → Read Y) → Ahead R A → Ahead R A → Result X CommandFault → Type 0
ExplainsOn view reading old new answer = Explains view reading (MayBeAhead old) (MayBeAhead new) answer

-- the same where the definition goes on from an answer and what is behind it; where there is none, it gives none
abbrev pub ExplainsFrom : {X Y : Type 0} → (X → Stream → Read (Option Y)) → (Stream → Read (Option Y))
    → (Stream → Type 0) → (Stream → Type 0) → Result (Option X) CommandFault → Type 0
ExplainsFrom going reading old new (Ok (Some x)) = (t : Stream) → new t → (s : Stream) × old s × (reading s ≡ going x t)
ExplainsFrom going reading old new (Ok None) = (t : Stream) → new t → (s : Stream) × old s × (reading s ≡ Ok (None, t))
ExplainsFrom going reading old new (Err f) = (f ≡ OutOfMemory) ⊎ ((s : Stream) × old s × (reading s ≡ Err (fault_of f)))

-- An item that the function reads comes before what is behind. At the end, and where the function reads none, nothing does.
abbrev pub ExplainsTaken : {T : Type 0} → (Item → Result (Option T) CommandFault → Type 0)
    → (Stream → Type 0) → (Stream → Type 0) → Result (Option T) CommandFault → Type 0
ExplainsTaken answers old new (Ok (Some x)) = (t : Stream) → new t → (s : Stream) × old s × ReadNext answers s t (Ok (Some x))
ExplainsTaken answers old new (Ok None) = (t : Stream) → new t → old t × ((t ≡ ended Finished) ⊎ ((left : Stream) × ReadNext answers t left (Ok None)))
ExplainsTaken answers old new (Err f) =
    (f ≡ OutOfMemory) ⊎ ((s : Stream) × old s × ((s ≡ ended (Failed (fault_of f))) ⊎ ((left : Stream) × ReadNext answers s left (Err f))))

-- A line with the word comes before what is behind, and its rest is read.
abbrev pub ExplainsLine : {T : Type 0} → Bytes → (Bor Bytes → Result T CommandFault → Type 0)
    → (Stream → Type 0) → (Stream → Type 0) → Result (Option T) CommandFault → Type 0
ExplainsLine word answers old new (Ok (Some x)) = (t : Stream) → new t → (s : Stream) × old s × ReadRest answers word s t (Ok x)
ExplainsLine word answers old new (Ok None) = (t : Stream) → new t → (s : Stream) × old s × (rest_line word s ≡ Ok (None, t))
ExplainsLine word answers old new (Err f) =
    (f ≡ OutOfMemory) ⊎ ((s : Stream) × old s × ((rest_line word s ≡ Err (fault_of f)) ⊎ ((left : Stream) × ReadRest answers word s left (Err f))))

-- where the items to come are known they stay, there are no more, and none comes that might not have come before
abbrev pub KeepsAhead : {R A : Type 0} → Ahead R A → Ahead R A → Type 0
KeepsAhead old new = KeepsStream (to_come old) (to_come new) × (most new ≤ most old) × ((s : Stream) → MayBeAhead new s → MayBeAhead old s)
