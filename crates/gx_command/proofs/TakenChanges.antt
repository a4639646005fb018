-- The item that comes next as the change that comes next.
use Rattle.std.proofs.Common.{◌≡◌, Option, Some, None, Result, Ok, Err, refl, ap, subst, ◌∙◌, inl, inr}
use Rattle.std.specs.Option.{option_map}
use Rattle.gx_model.specs.Faults.{IsFaultOf, ◌>>=◌}
use Rattle.gx_model.specs.Streams.Items.{Stream, then_comes, Finished, Failed}
use Rattle.gx_stream.specs.Faults.{ended}
use Rattle.gx_stream.specs.Reading.{item_of}
use Rattle.gx_stream.specs.declared.item.Item.{Item}
use Rattle.gx_stream.specs.declared.item.Item.TheVariants as items
use Rattle.gx_command.specs.CommandFaults.{fault_of}
use Rattle.gx_command.specs.Ahead.{Fails, Reads, Takes}
use Rattle.gx_command.specs.Bodies.{ChangeIn, TakesChange, next_change, next_change_in}
use Rattle.gx_command.specs.ChangeLines.{completed, completed_modify}
use Rattle.gx_command.specs.Views.{shown_change, shown_modify}
use Rattle.gx_command.specs.declared.commands.Change.{Change}
use Rattle.gx_command.specs.declared.commands.Change.TheVariants as changes
use Rattle.gx_command.specs.declared.commands.Modify.{Modify}
use Rattle.gx_command.specs.declared.modify_line.ModifyLine.{ModifyLine}
use Rattle.gx_command.specs.declared.change_lines.ChangeLine.TheVariants as lines
use Rattle.gx_command.specs.Heads.{first}
use Rattle.gx_command.specs.declared.change_lines.ChangeLine.{ChangeLine}
use Rattle.gx_command.specs.declared.fault.CommandFault.{CommandFault}
use Rattle.gx_command.specs.declared.fault.CommandFault.TheVariants as faults

pub change_none : (s : Stream) → s ≡ ended Finished → next_change s ≡ Ok (None, s)
unfolding next_change_in
change_none s end = rw end refl

pub change_failed : (s : Stream) (f : CommandFault) → s ≡ ended (Failed (fault_of f)) → Fails f (next_change s)
unfolding next_change_in
change_failed s f end = inr (rw end refl)

pub change_not : (A : Type 0) (i : Item) (s left : Stream) → s ≡ then_comes (item_of i) left → ChangeIn {A = A} (item_of i) left (Ok None) → next_change s ≡ Ok (None, s)
unfolding next_change_in
change_not A (items.Data b) s left first none = rw first refl
change_not A (items.Line l) s left first none = rw (first, none) refl

pub change_begun : {A : Type 0} (i : Item) (s left : Stream) (line : ChangeLine A) → s ≡ then_comes (item_of i) left → ChangeIn (item_of i) left (Ok (Some line)) → next_change s ≡ (completed line left >>= λ x. Ok (Some x.0, x.1))
unfolding next_change_in
change_begun (items.Data b) s left line first some = absurd cc
change_begun (items.Line l) s left line first some = rw (first, some) refl

pub change_refused : (A : Type 0) (i : Item) (s left : Stream) (f : CommandFault) → s ≡ then_comes (item_of i) left → ChangeIn {A = A} (item_of i) left (Err f) → Fails f (next_change s)
unfolding next_change_in
change_refused A (items.Data b) s left f first fault = absurd cc
change_refused A (items.Line l) s left f first (given, is, fault) = by f fault where
  by : (f : CommandFault) → IsFaultOf (fault_of f) given → Fails f (next_change s)
  by faults.OutOfMemory h = inl refl
  by f h = inr (rw (first, is, h) refl)

pub takes_change : {A : Type 0} (post : Item → Result (Option (ChangeLine A)) CommandFault → Type 0) (old new : Option Stream) (r : Result (Option (ChangeLine A)) CommandFault) → ((i : Item) (q : Result (Option (ChangeLine A)) CommandFault) → post i q → (s : Stream) → ChangeIn (item_of i) s q) → Takes post old new r → TakesChange old new r
takes_change post None new r says h = tt
takes_change post (Some s) new (Ok None) says (same, inl end) = (same, change_none s end)
takes_change {A} post (Some s) new (Ok None) says (same, inr (left, n)) = (same, change_not A n.item s left n.first (says n.item (Ok None) n.read left))
takes_change post (Some s) new (Ok (Some line)) says (left, n, same) = (left, same, change_begun n.item s left line n.first (says n.item (Ok (Some line)) n.read left))
takes_change post (Some s) new (Err f) says (inl out) = inl out
takes_change post (Some s) new (Err f) says (inr (inl end)) = change_failed s f end
takes_change {A} post (Some s) new (Err f) says (inr (inr (left, n))) = change_refused A n.item s left f n.first (says n.item (Err f) n.read left)

-- ---- the change that a modify's line begins

module _ {A : Type 0} (line : ModifyLine A) where
  pub modify_reads : (made : Modify A) (old mid new : Option Stream) → TakesChange old mid (Ok (Some (lines.Modify line))) → Reads shown_modify (completed_modify line) mid new (Ok made) → Reads (option_map shown_change) next_change old new (Ok (Some (changes.Modify made)))
  modify_reads made None mid new h k = tt
  modify_reads made (Some s) mid new (left, is, e) k =
      let l = subst (λ (m : Option Stream). Reads shown_modify (completed_modify line) m new (Ok made)) is k in
      (l.0, l.1, e ∙ ap (λ r. r >>= λ x. Ok (Some x.0, x.1)) l.2)

  pub modify_fails : (old mid new new' : Option Stream) (f : CommandFault) → TakesChange old mid (Ok (Some (lines.Modify line))) → Reads {X = Modify A} shown_modify (completed_modify line) mid new (Err f) → Reads {X = Option (Change A)} (option_map shown_change) next_change old new' (Err f)
  modify_fails None mid new new' f h k = tt
  modify_fails (Some s) mid new new' f (left, is, e) k = by (subst (λ (m : Option Stream). Reads {X = Modify A} shown_modify (completed_modify line) m new (Err f)) is k) where
    by : Fails f (completed_modify line left) → Fails f (next_change s)
    by (inl out) = inl out
    by (inr g) = inr (e ∙ ap (λ r. r >>= λ x. Ok (Some x.0, x.1)) g)
