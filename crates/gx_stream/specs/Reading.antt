-- What a reader of items is seen as, and what one call answers and leaves.
use Rattle.std.specs.Prelude.{◌≡◌, ℕ, ◌<◌, ◌≤◌, ◌⊎◌, Bool, true, ◌++◌, Option, Some, None, Result, Ok, Err}
use Rattle.gx_model.specs.Texts.{Bytes}
use Rattle.gx_model.specs.Streams.Items.{Stream, Finished, Failed, then_comes, items_of}
use Rattle.gx_model.specs.Streams.Items as model
use Rattle.gx_text.specs.Devices.{Coming}
use Rattle.gx_stream.specs.Faults.{fault_of, shown_end, ended}
use Rattle.gx_stream.specs.declared.fault.StreamFault.{StreamFault}
use Rattle.gx_stream.specs.declared.fault.StreamFault.TheVariants.{OutOfMemory}
use Rattle.gx_stream.specs.declared.item.Item.{Item}
use Rattle.gx_stream.specs.declared.item.Item.TheVariants.{Line, Data}

-- What a reader is seen as: the items still to come with their end, where the source tells its bytes, a bound on how
-- many may come, where it is over, how: at the end, or at a fault; whether it has no room for another piece of the source;
-- and whatever the source tells, the bytes that came and aren't read yet, and where they are the last, whether they fail at
-- their end.
pub record Seen : Type 0 where
  pub stream : Option Stream
  pub most : ℕ
  pub over : Option (Option StreamFault)
  pub full : Bool
  pub unread : Bytes
  pub whole : Option Bool

-- an item as one of the model
abbrev pub item_of : Item → model.Item
item_of (Line x) = model.Line x.now
item_of (Data x) = model.Data x.now

-- an answer by its item
abbrev pub answer_of : Result (Option Item) StreamFault → Result (Option model.Item) StreamFault
answer_of (Ok None) = Ok None
answer_of (Ok (Some item)) = Ok (Some (item_of item))
answer_of (Err f) = Err f

-- Where the items to come are known, the first is answered and the others are left. A fault other than want of memory
-- is answered only where it is the end that comes next, and it is all that is left then. So is the end.
abbrev pub ReadsAs : Option Stream → Option Stream → Result (Option model.Item) StreamFault → Type 0
ReadsAs None new (Ok None) = new ≡ Some (ended Finished)
ReadsAs None new (Ok (Some item)) = Unit {0}
ReadsAs None new (Err f) = new ≡ Some (ended (Failed (fault_of f)))
ReadsAs (Some old) new (Ok None) = (old ≡ ended Finished) × (new ≡ Some (ended Finished))
ReadsAs (Some old) new (Ok (Some item)) = (left : Stream) × (old ≡ then_comes item left) × (new ≡ Some left)
ReadsAs (Some old) new (Err f) = (new ≡ Some (ended (Failed (fault_of f)))) × ((f ≡ OutOfMemory) ⊎ (old ≡ ended (Failed (fault_of f))))

abbrev pub Reads : Option Stream → Option Stream → Result (Option Item) StreamFault → Type 0
Reads old new answer = ReadsAs old new (answer_of answer)

-- each item lowers the bound
abbrev pub FallsAs : ℕ → ℕ → Result (Option model.Item) StreamFault → Type 0
FallsAs old new (Ok None) = new ≤ old
FallsAs old new (Ok (Some item)) = new < old
FallsAs old new (Err f) = new ≤ old

-- A reader is over after the end or a fault, and not after an item.
abbrev pub over_after : Result (Option model.Item) StreamFault → Option (Option StreamFault)
over_after (Ok None) = Some None
over_after (Ok (Some item)) = None
over_after (Err f) = Some (Some f)

-- what a reader answers that is over
abbrev pub last_answer : Option StreamFault → Result (Option model.Item) StreamFault
last_answer None = Ok None
last_answer (Some f) = Err f

-- Memory is wanted only where there is no room for another piece of the source: never because a read failed.
abbrev pub RefusesAs : Bool → Result (Option model.Item) StreamFault → Type 0
RefusesAs full (Ok item) = Unit {0}
RefusesAs full (Err OutOfMemory) = full ≡ true
RefusesAs full (Err f) = Unit {0}

-- A reader that is over gives the same answer again, and nothing changes.
abbrev pub RepeatsAs : Option (Option StreamFault) → Seen → Seen → Result (Option model.Item) StreamFault → Type 0
RepeatsAs None old new answer = RefusesAs new.full answer
RepeatsAs (Some last) old new answer = (answer ≡ last_answer last) × (new ≡ old)

-- the items of some text
abbrev pub AreOfText : Stream → Type 0
AreOfText s = (c : Coming) × (s ≡ items_of c.bytes c.fails)

-- those of bytes that are the last, or that any may follow
abbrev pub MayStandIn : Bytes → Option Bool → Stream → Type 0
MayStandIn unread None s = (c : Coming) × (s ≡ items_of (unread ++ c.bytes) c.fails)
MayStandIn unread (Some fails) s = s ≡ items_of unread fails

abbrev pub MayFollow : Option (Option StreamFault) → Bytes → Option Bool → Stream → Type 0
MayFollow None unread whole s = MayStandIn unread whole s
MayFollow (Some last) unread whole s = s ≡ ended (shown_end last)

-- These items may still come, whatever the source tells: those of what isn't read yet and of any bytes that may follow. Where the
-- reader is over, none do, and its last answer.
abbrev pub MayCome : Seen → Stream → Type 0
MayCome seen = MayFollow seen.over seen.unread seen.whole

-- Whatever items may come behind, they may have come behind the one that is answered. The end, and a fault other than want of
-- memory, may have come.
abbrev pub ExplainsAs : (Stream → Type 0) → (Stream → Type 0) → Result (Option model.Item) StreamFault → Type 0
ExplainsAs old new (Ok None) = old (ended Finished)
ExplainsAs old new (Ok (Some item)) = (left : Stream) → new left → old (then_comes item left)
ExplainsAs old new (Err f) = (f ≡ OutOfMemory) ⊎ old (ended (Failed (fault_of f)))

-- what one call answers and leaves
abbrev pub AnswersAs : Seen → Seen → Result (Option model.Item) StreamFault → Type 0
AnswersAs old new answer = ReadsAs old.stream new.stream answer × FallsAs old.most new.most answer
    × (new.over ≡ over_after answer) × RepeatsAs old.over old new answer × ExplainsAs (MayCome old) (MayCome new) answer

abbrev pub Answers : Seen → Seen → Result (Option Item) StreamFault → Type 0
Answers old new answer = AnswersAs old new (answer_of answer)
