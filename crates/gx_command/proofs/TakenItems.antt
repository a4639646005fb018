-- Taking an item where none is left.
use Rattle.std.proofs.Common.{◌≡◌, Option, Some, None, Result, Ok, subst, sym, inl}
use Rattle.gx_model.specs.Streams.Items.{Stream}
use Rattle.gx_stream.specs.Reading.{ReadsAs}
use Rattle.gx_stream.specs.declared.item.Item.{Item}
use Rattle.gx_command.specs.Ahead.{Takes, with_held}
use Rattle.gx_command.specs.declared.ahead.Held.{Held}
use Rattle.gx_command.specs.declared.fault.CommandFault.{CommandFault}

none_left : {T : Type 0} (post : Item → Result (Option T) CommandFault → Type 0) (old new : Option Stream) → ReadsAs old new (Ok None) → Takes post old new (Ok None)
none_left post None new h = tt
none_left post (Some s) new (ends, same) = (subst (λ m. new ≡ Some m) (sym ends) same, inl ends)

pub none_taken : {A T : Type 0} (post : Item → Result (Option T) CommandFault → Type 0) (before after : Option (Held A)) (old new : Option Stream) → before ≡ None → after ≡ None → ReadsAs old new (Ok None) → Takes post (with_held before old) (with_held after new) (Ok None)
none_taken post before after old new b a h = rw (b, a) (none_left post old new h)
