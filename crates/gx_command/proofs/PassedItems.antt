-- Commands that were passed, and items that were counted, of a source that tells nothing: some items may have come.
use Rattle.std.proofs.Common.{◌≡◌, ℕ, ◌+◌, ◌<◌, Option, Some, None, Result, Ok, Err, [], true, false, refl, subst, inl, inr}
use Rattle.std.specs.Option.{option_map}
use Rattle.gx_model.specs.Streams.Commands.{no_features}
use Rattle.gx_model.specs.Streams.Items.{Stream, items_of}
use Rattle.gx_text.specs.Devices.{Coming}
use Rattle.gx_stream.specs.Heard.{items_from}
use Rattle.gx_stream.specs.Reading.{AreOfText, MayCome}
use Rattle.gx_stream.specs.declared.item.Item as stream
use Rattle.gx_command.specs.Ahead.{shown_held_item}
use Rattle.gx_command.specs.Behind.{ExplainsCount, ExplainsBehind, ExplainsLeft, ExplainsPasses, Passes, TellsBehind, TellsLeft, TellsOf, at_start, fault_at}
use Rattle.gx_command.specs.Explaining.{Explains, ExplainsTaken, ItemsMayCome, MayBeAhead}
use Rattle.gx_command.specs.Reading.{next_after, state_after}
use Rattle.gx_command.specs.Views.{shown_command}
use Rattle.gx_command.specs.declared.ahead.Ahead.{Ahead}
use Rattle.gx_command.specs.declared.behind.BehindFault.{BehindFault}
use Rattle.gx_command.specs.declared.behind.BehindFault.TheVariants as behind
use Rattle.gx_command.specs.declared.commands.Command.{Command}
use Rattle.gx_command.specs.declared.fault.CommandFault.{CommandFault}
use Rattle.gx_command.specs.declared.reader.Options.{Options}
use Rattle.gx_command.specs.declared.reader.State.{State}
use Rattle.gx_command.specs.declared.reader.State.TheVariants.{Open}
use Rattle.gx_command.proofs.CountedItems.{AreCounted, all_counted}
use Rattle.gx_command.proofs.ExplainedItems.{some_ahead}
use Rattle.gx_command.proofs.LastItems.{tells_behind}
use Rattle.gx_command.proofs.PassedCommands.{ArePassed, IsOver, passed_more, passed_none, passes_all, passes_end, passes_fault, passes_over}

-- whatever may come behind so many commands, it may have come behind those of some items
abbrev pub PassedOn : ℕ → State → (Stream → Type 0) → (Stream → Type 0) → Type 0
PassedOn passed state old now = (t : Stream) → now t → (s : Stream) × old s × ArePassed passed state (Some s) (Some t)

pub on_from_start : (old : Stream → Type 0) → PassedOn 0 (at_start no_features) old old
on_from_start old = λ t h. (t, h, passed_none (Some t))

pub on_one_more : {A : Type 0} (old now new : Stream → Type 0) (passed : ℕ) (o : Options) (c : Command A) → PassedOn passed (Open o) old now
    → Explains (option_map shown_command) (next_after o) now new (Ok (Some c)) → PassedOn (passed + 1) (state_after o (shown_command c)) old new
unfolding Explains
on_one_more old now new passed o c h k = λ u m.
    let t = k u m in
    let s = h t.0 t.1 in
    (s.0, s.1, passed_more passed o c (Some s.0) (Some t.0) (Some u) s.2 (u, refl, t.2))

pub on_to_all : (old now : Stream → Type 0) (passed n : ℕ) (state : State) → passed ≡ n → PassedOn passed state old now → ExplainsPasses n old now (Ok true)
on_to_all old now passed n state same h = λ t m. let s = h t m in (s.0, s.1, passes_all passed n state (Some s.0) (Some t) same s.2)

pub on_till_over : {R A : Type 0} (here : Ahead R A) (old : Stream → Type 0) (passed n : ℕ) (state : State) → passed < n → IsOver state
    → PassedOn passed state old (MayBeAhead here) → ExplainsPasses n old (MayBeAhead here) (Ok false)
on_till_over here old passed n state less over h =
    let t = some_ahead here in
    let s = h t.0 t.1 in
    (s.0, s.1, passes_over passed n state (Some s.0) (Some t.0) less over s.2)

explained_fault : (n : ℕ) (old : Stream → Type 0) (s : Stream) (f : BehindFault) → old s → Passes n (Some s) None (Err f) → ExplainsBehind n old f
explained_fault n old s behind.OutOfMemory m h = tt
explained_fault n old s (behind.Command command f) m h = (s, m, h)

pub on_till_fault : (A : Type 0) (old now new : Stream → Type 0) (passed n : ℕ) (o : Options) (f : CommandFault) → passed < n → PassedOn passed (Open o) old now
    → Explains {X = Option (Command A)} (option_map shown_command) (next_after o) now new (Err f) → ExplainsPasses n old new (Err (fault_at (passed + 1) f))
unfolding Explains
on_till_fault A old now new passed n o f less h (inl e) = rw e tt
on_till_fault A old now new passed n o f less h (inr k) =
    let s = h k.0 k.1 in
    explained_fault n old s.0 (fault_at (passed + 1) f) s.1 (passes_fault A passed n o f (Some s.0) (Some k.0) None None less s.2 (inr k.2))

pub on_till_end : {R A : Type 0} (here : Ahead R A) (old now : Stream → Type 0) (B : Type 0) (passed n : ℕ) (o : Options) → passed < n → PassedOn passed (Open o) old now
    → Explains {X = Option (Command B)} (option_map shown_command) (next_after o) now (MayBeAhead here) (Ok None) → ExplainsPasses n old (MayBeAhead here) (Ok false)
unfolding Explains
on_till_end here old now B passed n o less h k =
    let u = some_ahead here in
    let t = k u.0 u.1 in
    let s = h t.0 t.1 in
    (s.0, s.1, passes_end B passed n o (Some s.0) (Some t.0) (Some u.0) less s.2 (u.0, refl, t.2))

-- whatever may come behind so many items, it may have come behind some
abbrev pub CountedOn : ℕ → (Stream → Type 0) → (Stream → Type 0) → Type 0
CountedOn count old now = (t : Stream) → now t → (s : Stream) × old s × AreCounted count (Some s) (Some t)

pub on_counted_all : {R A T : Type 0} (here : Ahead R A) (post : stream.Item → Result (Option T) CommandFault → Type 0) (count : ℕ) (old now : Stream → Type 0)
    → ((i : stream.Item) → post i (Ok None) → ⊥) → CountedOn count old now → ExplainsTaken post now (MayBeAhead here) (Ok None) → ExplainsCount old (Ok count)
on_counted_all here post count old now says h k =
    let u = some_ahead here in
    let end = k u.0 u.1 in
    let s = h u.0 end.0 in
    (s.0, s.1, all_counted post count (Some s.0) (Some u.0) (Some u.0) says s.2 (refl, end.1))

-- ---- all of it

pub explains_left : (n m : ℕ) (old mid : Stream → Type 0) → ExplainsPasses n old mid (Ok true) → ExplainsCount mid (Ok m) → ExplainsLeft n old (Ok (Some m))
explains_left n m old mid h (t, may, count) =
    let s = h t may in
    (s.0, s.1, tells_behind n m (Some s.0) (Some t) s.2 count)

-- nothing was read yet
from_fresh : {R A : Type 0} (a : Ahead R A) (s : Stream) → a.held ≡ None → MayBeAhead a s → MayCome a.items s
unfolding MayBeAhead
from_fresh a s held may = subst (λ h. ItemsMayCome (option_map shown_held_item h) a.items s) held may

-- want of memory is told of no text
no_text : AreOfText (items_of [] false)
no_text = (record { bytes = []; fails = false }, refl)

pub of_fresh : {R A : Type 0} (n : ℕ) (a : Ahead R A) (answer : Result (Option ℕ) BehindFault) → a.held ≡ None → ((s : Stream) → MayCome a.items s → AreOfText s)
    → ExplainsLeft n (MayBeAhead a) answer → (s : Stream) × AreOfText s × TellsOf n s answer
of_fresh n a (Ok m) held text h = (h.0, text h.0 (from_fresh a h.0 held h.1), h.2)
of_fresh n a (Err behind.OutOfMemory) held text h = (items_of [] false, no_text, tt)
of_fresh n a (Err (behind.Command command f)) held text h = (h.0, text h.0 (from_fresh a h.0 held h.1), h.2)

pub behind_all : (n : ℕ) (coming : Option Coming) (answer : Result (Option ℕ) BehindFault) → TellsLeft n (option_map items_from coming) answer
    → (s : Stream) × AreOfText s × TellsOf n s answer → TellsBehind n (option_map items_from coming) answer
behind_all n None answer h k = k
behind_all n (Some c) answer h k = h
