-- The item that comes next as the line that comes next.
use Rattle.std.proofs.Common.{◌≡◌, Option, Some, None, Result, Ok, Err, refl, inl, inr, arith}
use Rattle.std.specs.Option.{option_map}
use Rattle.gx_model.specs.Faults.{Given, Gives, IsFaultOf}
use Rattle.std.proofs.lemmas.Grind.{common_steps}
use Rattle.std.specs.Borrow.{Bor}
use Rattle.gx_model.specs.Texts.{Bytes}
use Rattle.gx_model.specs.Streams.Items.{Stream, then_comes, Finished, Failed}
use Rattle.gx_model.specs.Streams.Lines.{optional, rest_line, rest_line_in}
use Rattle.gx_stream.specs.Faults.{ended}
use Rattle.gx_stream.specs.Reading.{item_of}
use Rattle.gx_stream.specs.declared.item.Item.{Item}
use Rattle.gx_command.specs.CommandFaults.{fault_of}
use Rattle.gx_command.specs.Lines.{rest_in}
use Rattle.gx_command.specs.Ahead.{AnswersRest, Fails, Reads, Takes, TakesLine, TakesLineFrom}
use Rattle.gx_command.specs.Heads.{first}
use Rattle.gx_command.specs.declared.fault.CommandFault.{CommandFault}
use Rattle.gx_command.specs.declared.fault.CommandFault.TheVariants as faults

pub line_of_none : (word : Bytes) (i : Item) (s left : Stream) → s ≡ then_comes (item_of i) left → rest_in word (item_of i) ≡ Ok None → rest_line word s ≡ Ok (None, s)
unfolding rest_line_in
line_of_none word i s left first none = grind (arith, common_steps)

pub line_of_some : (word : Bytes) (i : Item) (s left : Stream) (rest : Bytes) → s ≡ then_comes (item_of i) left → rest_in word (item_of i) ≡ Ok (Some rest) → rest_line word s ≡ Ok (Some rest, left)
unfolding rest_line_in
line_of_some word i s left rest first some = grind (arith, common_steps)

pub line_of_fault : (word : Bytes) (i : Item) (s left : Stream) (f : CommandFault) → s ≡ then_comes (item_of i) left → Fails f (rest_in word (item_of i)) → Fails f (rest_line word s)
unfolding rest_line_in
line_of_fault word i s left f first fault = grind (arith, common_steps)

pub no_line : (word : Bytes) (s : Stream) → s ≡ ended Finished → rest_line word s ≡ Ok (None, s)
unfolding rest_line_in
no_line word s end = rw end refl

pub failed_line : (word : Bytes) (s : Stream) (f : CommandFault) → s ≡ ended (Failed (fault_of f)) → Fails f (rest_line word s)
unfolding rest_line_in
failed_line word s f end = grind (arith, common_steps)

pub takes_line : {T : Type 0} (post : Item → Result (Option T) CommandFault → Type 0) (answers : Bor Bytes → Result T CommandFault → Type 0) (word : Bytes) (old new : Option Stream) (r : Result (Option T) CommandFault) → ((i : Item) (q : Result (Option T) CommandFault) → post i q → AnswersRest answers word i q) → Takes post old new r → TakesLine word answers old new r
takes_line post answers word None new r says h = tt
takes_line post answers word (Some s) new (Ok None) says (same, inl end) = (s, no_line word s end, same)
takes_line post answers word (Some s) new (Ok None) says (same, inr (left, n)) = (s, line_of_none word n.item s left n.first (says n.item (Ok None) n.read), same)
takes_line post answers word (Some s) new (Ok (Some x)) says (left, n, same) =
    let a : AnswersRest answers word n.item (Ok (Some x)) = says n.item (Ok (Some x)) n.read in
    (left, record { rest = a.rest; line = line_of_some word n.item s left a.rest.now n.first a.line; read = a.read }, same)
takes_line post answers word (Some s) new (Err f) says (inl out) = inl (inl out)
takes_line post answers word (Some s) new (Err f) says (inr (inl end)) = inl (failed_line word s f end)
takes_line post answers word (Some s) new (Err f) says (inr (inr (left, n))) = by (says n.item (Err f) n.read) where
  by : AnswersRest answers word n.item (Err f) → TakesLineFrom word answers s new (Err f)
  by (inl fault) = inl (line_of_fault word n.item s left f n.first fault)
  by (inr a) = inr (left, record { rest = a.rest; line = line_of_some word n.item s left a.rest.now n.first a.line; read = a.read })

-- ---- what is read of the rest of a line

module _ {X Y : Type 0} (view : X → Y) (reading : Bytes → Given Y) (answers : Bor Bytes → Result X CommandFault → Type 0) (word : Bytes) where
  abbrev pub Says : Type 0
  Says = (rest : Bor Bytes) (q : Result X CommandFault) → answers rest q → Gives fault_of view q (reading rest.now)

  pub line_fails : (s left : Stream) (f : CommandFault) (rest : Bor Bytes) → rest_line word s ≡ Ok (Some rest.now, left) → IsFaultOf (fault_of f) (reading rest.now) → Fails f (optional word reading s)
  line_fails s left faults.OutOfMemory rest line h = inl refl
  line_fails s left f rest line h = inr (rw (line, h) refl)

  reads_line_from : (s : Stream) (new : Option Stream) (r : Result (Option X) CommandFault) → Says → TakesLineFrom word answers s new r → Reads (option_map view) (optional word reading) (Some s) new r
  reads_line_from s new (Ok None) says (left, line, same) = (left, same, rw line refl)
  reads_line_from s new (Ok (Some x)) says (left, n, same) = (left, same, rw (n.line, says n.rest (Ok x) n.read) refl)
  reads_line_from s new (Err f) says (inl (inl out)) = inl out
  reads_line_from s new (Err f) says (inl (inr fault)) = inr (rw fault refl)
  reads_line_from s new (Err f) says (inr (left, n)) = line_fails s left f n.rest n.line (says n.rest (Err f) n.read)

  pub reads_line : (old new : Option Stream) (r : Result (Option X) CommandFault) → Says → TakesLine word answers old new r → Reads (option_map view) (optional word reading) old new r
  reads_line None new r says h = tt
  reads_line (Some s) new r says h = reads_line_from s new r says h

-- the same of what is seen as it is
pub reads_plain_line : {X : Type 0} (reading : Bytes → Given X) (answers : Bor Bytes → Result X CommandFault → Type 0) (word : Bytes) (old new : Option Stream) (r : Result (Option X) CommandFault) → ((rest : Bor Bytes) (q : Result X CommandFault) → answers rest q → Gives fault_of (λ x. x) q (reading rest.now)) → TakesLine word answers old new r → Reads (λ x. x) (optional word reading) old new r
reads_plain_line reading answers word None new r says h = tt
reads_plain_line reading answers word (Some s) new (Ok None) says h = reads_line_from (λ x. x) reading answers word s new (Ok None) says h
reads_plain_line reading answers word (Some s) new (Ok (Some x)) says h = reads_line_from (λ x. x) reading answers word s new (Ok (Some x)) says h
reads_plain_line reading answers word (Some s) new (Err f) says h = reads_line_from (λ x. x) reading answers word s new (Err f) says h
