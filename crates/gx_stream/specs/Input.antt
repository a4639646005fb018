-- What the fields of a reader stand for, and what each of its steps does to them.
use Rattle.std.specs.Prelude.{◌≡◌, ℕ, suc, ◌+◌, ◌-◌, ◌<◌, ◌≤◌, ◌^◌, Bool, true, false, nat_lt, [], ◌++◌, length, take, drop, Option, Some, None, Result, Ok, Err, Vec, is_ok}
use Rattle.std.specs.Vec.{vec_capacity}
use Rattle.gx_model.specs.Texts.{Bytes}
use Rattle.gx_model.specs.Streams.Items.{Stream, items_of}
use Rattle.gx_model.specs.Streams.Items as model
use Rattle.gx_model.specs.Streams.Lines.{block}
use Rattle.gx_text.specs.Devices.{Coming}
use Rattle.gx_stream.specs.Heard.{heard_upto}
use Rattle.gx_stream.specs.Faults.{shown_end, ended}
use Rattle.gx_stream.specs.Reading.{Seen, AnswersAs, MayCome}
use Rattle.gx_stream.specs.Places.{bytes_at, GoesTo, IsWithin, IsScanned, Skipped, Finds}
use Rattle.gx_stream.specs.declared.fault.StreamFault.{StreamFault}
use Rattle.gx_stream.specs.declared.fault.StreamFault.TheVariants.{OutOfMemory, ReadFailed, TruncatedData, BadNumber}
use Rattle.gx_stream.specs.declared.places.Scan.{Scan}
use Rattle.gx_stream.specs.declared.places.Found.{Found}
use Rattle.gx_stream.specs.declared.places.Found.TheVariants.{Line, Data, End}
use Rattle.gx_stream.specs.declared.input.Input.{Input}
use Rattle.gx_stream.specs.declared.input.State.{State}
use Rattle.gx_stream.specs.declared.input.State.TheVariants.{Open, Ended, Over}
use Rattle.gx_stream.specs.declared.pulls.SourceState.{SourceState}
use Rattle.gx_stream.specs.declared.pulls.SourceState.TheVariants as pulled

-- the items to come, from what the source still gives, and what came and isn't read yet
abbrev pub shown_stream : State → ℕ → Option Coming → Bytes → Option Stream
shown_stream Open room None rest = None
shown_stream Open room (Some c) rest = Some (items_of (rest ++ (heard_upto room c).bytes) (heard_upto room c).fails)
shown_stream (Ended fails) room coming rest = Some (items_of rest fails)
shown_stream (Over last) room coming rest = Some (ended (shown_end last))

-- how many items may come at most
abbrev pub shown_most : State → ℕ → Bytes → ℕ
shown_most Open room rest = length rest + room
shown_most (Ended fails) room rest = length rest
shown_most (Over last) room rest = 0

-- whether the last answer was given, and which
abbrev pub shown_over : State → Option (Option StreamFault)
shown_over Open = None
shown_over (Ended fails) = None
shown_over (Over last) = Some last

-- what came and isn't read yet, where more items may come
abbrev pub shown_unread : State → Bytes → Bytes
shown_unread Open rest = rest
shown_unread (Ended fails) rest = rest
shown_unread (Over last) rest = []

-- where it came whole, whether it fails at its end
abbrev pub shown_whole : State → Option Bool
shown_whole Open = None
shown_whole (Ended fails) = Some fails
shown_whole (Over last) = None

-- whether another piece would find no room behind what came
abbrev pub is_full : {R A : Type 0} → Input R A → Bool
is_full i = nat_lt (vec_capacity i.text) (i.came + 65536)

-- what came
abbrev pub text_of : {R A : Type 0} → Input R A → Bytes
text_of i = take i.came i.text.items

-- what isn't read of it yet
abbrev pub rest_of : {R A : Type 0} → Input R A → Bytes
rest_of i = drop i.at (text_of i)

abbrev pub shown_input : {R A : Type 0} → Input R A → Option Coming → Seen
shown_input i coming = record {
  stream = shown_stream i.state i.room coming (rest_of i);
  most = shown_most i.state i.room (rest_of i);
  over = shown_over i.state;
  full = is_full i;
  unread = shown_unread i.state (rest_of i);
  whole = shown_whole i.state;
}

-- what is known of the item that comes next counts where more of it may come
abbrev pub FitsState : Bytes → State → ℕ → Scan → Type 0
FitsState text Open at scan = IsScanned text true at scan × GoesTo text at scan.first
FitsState text (Ended fails) at scan = Unit {0}
FitsState text (Over last) at scan = Unit {0}

-- what isn't read yet begins within what came, that within the text, and no more than 2 ^ 63 - 1 bytes are taken in all
abbrev pub IsSound : {R A : Type 0} → Input R A → Type 0
IsSound i = (i.at ≤ i.came) × (i.came ≤ length i.text.items) × (i.came + i.room ≤ 2 ^ 63 - 1)
    × FitsState (text_of i) i.state i.at i.scan

-- ---- one look

-- what stands at a place, as an answer
abbrev pub answer_at : Bytes → Found → Result (Option model.Item) StreamFault
answer_at text (Line p) = Ok (Some (model.Line (bytes_at text p)))
answer_at text (Data p) = Ok (Some (model.Data (bytes_at text p)))
answer_at text (End None) = Ok None
answer_at text (End (Some f)) = Err f

abbrev pub IsFoundWithin : Bytes → Found → Type 0
IsFoundWithin text (Line p) = IsWithin text p
IsFoundWithin text (Data p) = IsWithin text p
IsFoundWithin text (End e) = Unit {0}

-- A text that isn't whole yet is looked at as one that fails.
abbrev pub Looks : Bytes → State → ℕ → ℕ → Found → Type 0
Looks text Open old new found = Skipped text true old new × Finds text true new found
Looks text (Ended fails) old new found = Skipped text fails old new × Finds text fails new found
Looks text (Over last) old new found = (new ≡ old) × (found ≡ End last)

abbrev pub is_bad_number : Option StreamFault → Bool
is_bad_number None = false
is_bad_number (Some OutOfMemory) = false
is_bad_number (Some ReadFailed) = false
is_bad_number (Some TruncatedData) = false
is_bad_number (Some BadNumber) = true

abbrev pub is_decided : Found → Bool
is_decided (Line p) = true
is_decided (Data p) = true
is_decided (End e) = is_bad_number e

-- nothing that may still come plays a part in what was found
abbrev pub is_whole : State → Found → Bool
is_whole Open found = is_decided found
is_whole (Ended fails) found = true
is_whole (Over last) found = true

-- an item is passed, the end or a fault stays
abbrev pub Takes : ℕ → State → Found → ℕ → State → Type 0
Takes old_at old (Line p) at new = (at ≡ p.next) × (new ≡ old)
Takes old_at old (Data p) at new = (at ≡ p.next) × (new ≡ old)
Takes old_at old (End last) at new = (at ≡ old_at) × (new ≡ Over last)

-- ---- one pull

-- where the items to come are known, they stay
abbrev pub KeepsStream : Option Stream → Option Stream → Type 0
KeepsStream None new = Unit {0}
KeepsStream (Some s) new = new ≡ Some s

-- what is over stays as it is, and what isn't goes on
abbrev pub KeepsOver : Option (Option StreamFault) → Seen → Seen → Type 0
KeepsOver None old new = new.over ≡ None
KeepsOver (Some last) old new = new ≡ old

-- whatever may come now, it may have come before
abbrev pub KeepsText : Seen → Seen → Type 0
KeepsText old new = (s : Stream) → MayCome new s → MayCome old s

abbrev pub Keeps : Seen → Seen → Type 0
Keeps old new = KeepsStream old.stream new.stream × (new.most ≤ old.most) × KeepsOver old.over old new × KeepsText old new

-- the same of what came from a source
abbrev pub KeepsInput : {R A : Type 0} → (R → Option Coming) → Input R A → Input R A → Type 0
KeepsInput coming old new = Keeps (shown_input old (coming old.source)) (shown_input new (coming new.source))

-- a text has more bytes at its end
abbrev pub IsLonger : Bytes → Bytes → Type 0
IsLonger old new = (more : Bytes) × (new ≡ old ++ more)

-- what is known of a text by what is known of its source
abbrev pub state_of : SourceState → State
state_of pulled.Open = Open
state_of pulled.Ended = Ended false
state_of pulled.Failed = Ended true

-- how many pulls may follow at most
abbrev pub pulls_left : State → ℕ → ℕ
pulls_left Open room = suc room
pulls_left (Ended fails) room = 0
pulls_left (Over last) room = 0

-- fewer pulls may follow
abbrev pub LeavesFewer : {R A : Type 0} → Input R A → Input R A → Type 0
LeavesFewer old new = pulls_left new.state new.room < pulls_left old.state old.room

-- ---- a block that is given away

-- the same may still come, whatever room there is
pub record SameToCome (old new : Seen) : Type 0 where
  pub stream : new.stream ≡ old.stream
  pub most : new.most ≡ old.most
  pub over : new.over ≡ old.over
  pub unread : new.unread ≡ old.unread
  pub whole : new.whole ≡ old.whole

-- the same of what came from a source
abbrev pub KeepsRest : {R A : Type 0} → (R → Option Coming) → Input R A → Input R A → Type 0
KeepsRest coming old new = SameToCome (shown_input old (coming old.source)) (shown_input new (coming new.source))

-- it is over for want of memory, and has no room for another piece
abbrev pub IsRefused : {R A : Type 0} → Input R A → Type 0
IsRefused i = (i.state ≡ Over (Some OutOfMemory)) × (is_full i ≡ true)

-- what comes next stands there, where nothing that may still come plays a part in it, or it is the end or a fault
abbrev pub FindsNext : {R A : Type 0} → Input R A → Found → Type 0
FindsNext i found = Looks (text_of i) i.state i.at i.at found × (is_whole i.state found ≡ true)

-- none of what may come next is a block
abbrev pub ComesNoBlock : Seen → Type 0
ComesNoBlock seen = (s : Stream) → MayCome seen s → is_ok (block s) ≡ false

-- A block that comes next is given. Otherwise what may come stays, and no block comes next. No fault is answered but want of memory.
abbrev pub GivesBlock : {A : Type 0} → Seen → Seen → Result (Option (Vec ℕ A)) StreamFault → Type 0
GivesBlock old new (Ok None) = Keeps old new × ComesNoBlock new
GivesBlock old new (Ok (Some bytes)) = AnswersAs old new (Ok (Some (model.Data bytes.items)))
GivesBlock old new (Err f) = (f ≡ OutOfMemory) × AnswersAs old new (Err f)
