-- The items that are still to come, with the one that was read ahead.
use Rattle.std.specs.Prelude.{◌≡◌, ℕ, ◌+◌, ◌≤◌, ◌<◌, ◌⊎◌, Option, Some, None, Result, Ok, Err, option_map}
use Rattle.std.specs.Borrow.{Bor}
use Rattle.gx_model.specs.Texts.{Bytes}
use Rattle.gx_model.specs.Faults.{Given}
use Rattle.gx_model.specs.Streams.Items as model
use Rattle.gx_model.specs.Streams.Items.{Stream, then_comes, Finished, Failed}
use Rattle.gx_model.specs.Streams.Lines.{Read, optional, rest_line}
use Rattle.gx_stream.specs.Faults.{ended}
use Rattle.gx_stream.specs.Reading.{item_of}
use Rattle.gx_stream.specs.declared.item.Item.{Item}
use Rattle.gx_command.specs.CommandFaults.{fault_of}
use Rattle.gx_command.specs.Lines.{rest_in}
use Rattle.gx_command.specs.declared.fault.CommandFault.{CommandFault}
use Rattle.gx_command.specs.declared.fault.CommandFault.TheVariants.{OutOfMemory}
use Rattle.gx_command.specs.declared.ahead.Ahead.{Ahead}
use Rattle.gx_command.specs.declared.ahead.Held.{Held}
use Rattle.gx_command.specs.declared.ahead.Held.TheVariants.{Line, Data}

abbrev pub shown_held_item : {A : Type 0} → Held A → model.Item
shown_held_item (Line x) = model.Line x.items
shown_held_item (Data x) = model.Data x.items

abbrev pub with_held : {A : Type 0} → Option (Held A) → Option Stream → Option Stream
with_held None s = s
with_held (Some h) s = option_map (then_comes (shown_held_item h)) s

-- what is still to come, where the source tells it
unfoldable pub to_come : {R A : Type 0} → Ahead R A → Option Stream
to_come a = with_held a.held a.items.stream

abbrev pub held_count : {A : Type 0} → Option (Held A) → ℕ
held_count None = 0
held_count (Some h) = 1

-- how many items may come at most
unfoldable pub most : {R A : Type 0} → Ahead R A → ℕ
most a = a.items.most + held_count a.held

-- The fault is the definition's, unless memory ran out.
abbrev pub Fails : {Y : Type 0} → CommandFault → Given Y → Type 0
Fails f given = (f ≡ OutOfMemory) ⊎ (given ≡ Err (fault_of f))

-- Where the items to come are told, the answer, seen so, and what is left are what the definition gives of them.
abbrev pub Reads : {X Y : Type 0} → (X → Y) → (Stream → Read Y) → Option Stream → Option Stream → Result X CommandFault → Type 0
Reads view reading None new answer = Unit {0}
Reads view reading (Some s) new (Ok x) = (t : Stream) × (new ≡ Some t) × (reading s ≡ Ok (view x, t))
Reads view reading (Some s) new (Err f) = Fails f (reading s)

-- of the items to come before a call, the definition gives the answer, seen so, and the items to come after it
abbrev pub ReadsOn : {X Y R A : Type 0} → (X → Y) → (Stream → Read Y) → Ahead R A → Ahead R A → Result X CommandFault → Type 0
ReadsOn view reading old new answer = Reads view reading (to_come old) (to_come new) answer

-- the same where the answer is seen as it is
abbrev pub ReadsPlain : {X R A : Type 0} → (Stream → Read X) → Ahead R A → Ahead R A → Result X CommandFault → Type 0
ReadsPlain reading old new answer = ReadsOn (λ x. x) reading old new answer

-- the line that comes next is read where it has the word, and otherwise none
abbrev pub ReadsLine : {X Y R A : Type 0} → (X → Y) → Bytes → (Bytes → Given Y) → Ahead R A → Ahead R A → Result (Option X) CommandFault → Type 0
ReadsLine view word reading old new answer = ReadsOn (option_map view) (optional word reading) old new answer

-- the item that comes next was read by a function that may answer so
pub record ReadNext {T : Type 0} (answers : Item → Result (Option T) CommandFault → Type 0) (s left : Stream) (answer : Result (Option T) CommandFault) : Type 0 where
  pub item : Item
  pub first : s ≡ then_comes (item_of item) left
  pub read : answers item answer

-- An item that the function reads is taken. At the end, and where the function reads none, nothing is.
abbrev pub TakesFrom : {T : Type 0} → (Item → Result (Option T) CommandFault → Type 0) → Stream → Option Stream → Result (Option T) CommandFault → Type 0
TakesFrom answers s new (Ok (Some x)) = (left : Stream) × ReadNext answers s left (Ok (Some x)) × (new ≡ Some left)
TakesFrom answers s new (Ok None) = (new ≡ Some s) × ((s ≡ ended Finished) ⊎ ((left : Stream) × ReadNext answers s left (Ok None)))
TakesFrom answers s new (Err f) = (f ≡ OutOfMemory) ⊎ ((s ≡ ended (Failed (fault_of f))) ⊎ ((left : Stream) × ReadNext answers s left (Err f)))

abbrev pub Takes : {T : Type 0} → (Item → Result (Option T) CommandFault → Type 0) → Option Stream → Option Stream → Result (Option T) CommandFault → Type 0
Takes answers None new answer = Unit {0}
Takes answers (Some s) new answer = TakesFrom answers s new answer

-- the rest of the line that comes next was read by a function that may answer so
pub record ReadRest {T : Type 0} (answers : Bor Bytes → Result T CommandFault → Type 0) (word : Bytes) (s left : Stream) (answer : Result T CommandFault) : Type 0 where
  pub rest : Bor Bytes
  pub line : rest_line word s ≡ Ok (Some rest.now, left)
  pub read : answers rest answer

-- what a function answers that reads the rest of a line with the word
pub record RestOf {T : Type 0} (answers : Bor Bytes → Result T CommandFault → Type 0) (word : Bytes) (item : Item) (answer : Result T CommandFault) : Type 0 where
  pub rest : Bor Bytes
  pub line : rest_in word (item_of item) ≡ Ok (Some rest.now)
  pub read : answers rest answer

abbrev pub AnswersRest : {T : Type 0} → (Bor Bytes → Result T CommandFault → Type 0) → Bytes → Item → Result (Option T) CommandFault → Type 0
AnswersRest answers word item (Ok None) = rest_in word (item_of item) ≡ Ok None
AnswersRest answers word item (Ok (Some x)) = RestOf answers word item (Ok x)
AnswersRest answers word item (Err f) = Fails f (rest_in word (item_of item)) ⊎ RestOf answers word item (Err f)

-- A line with the word is taken, and its rest is read.
abbrev pub TakesLineFrom : {T : Type 0} → Bytes → (Bor Bytes → Result T CommandFault → Type 0) → Stream → Option Stream → Result (Option T) CommandFault → Type 0
TakesLineFrom word answers s new (Ok (Some x)) = (left : Stream) × ReadRest answers word s left (Ok x) × (new ≡ Some left)
TakesLineFrom word answers s new (Ok None) = (left : Stream) × (rest_line word s ≡ Ok (None, left)) × (new ≡ Some left)
TakesLineFrom word answers s new (Err f) = Fails f (rest_line word s) ⊎ ((left : Stream) × ReadRest answers word s left (Err f))

abbrev pub TakesLine : {T : Type 0} → Bytes → (Bor Bytes → Result T CommandFault → Type 0) → Option Stream → Option Stream → Result (Option T) CommandFault → Type 0
TakesLine word answers None new answer = Unit {0}
TakesLine word answers (Some s) new answer = TakesLineFrom word answers s new answer

-- the bound falls with each item that is taken
abbrev pub Falls : {T : Type 0} → ℕ → ℕ → Result (Option T) CommandFault → Type 0
Falls old new (Ok None) = new ≤ old
Falls old new (Ok (Some x)) = new < old
Falls old new (Err f) = Unit {0}

abbrev pub FallsNot : {T : Type 0} → ℕ → ℕ → Result T CommandFault → Type 0
FallsNot old new (Ok x) = new ≤ old
FallsNot old new (Err f) = Unit {0}
