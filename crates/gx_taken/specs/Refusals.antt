-- Refusals as the code has them, by the definitions and by their words.
use Rattle.std.specs.Prelude.{codes}
use Rattle.gx_model.specs.Texts.{Bytes}
use Rattle.gx_offered.specs.ItemFaults as item
use Rattle.gx_offered.specs.declared.fault.OfferFault.{OfferFault}
use Rattle.gx_offered.specs.declared.fault.OfferFault.TheVariants as offer
use Rattle.gx_wide.specs.Placing as model
use Rattle.gx_taken.specs.Taking.{Refusal, unread, untaken}
use Rattle.gx_taken.specs.declared.fault.Refused.{Refused}
use Rattle.gx_taken.specs.declared.fault.Refused.TheVariants.{BadObject, Dangling, DanglingRef, NameHeld, NotFastForward, Unread, WrongKind}
use Rattle.gx_taken.specs.declared.fault.TakeFault.{TakeFault}
use Rattle.gx_taken.specs.declared.fault.TakeFault.TheVariants.{Item, OutOfMemory, ReadFailed}

abbrev pub shown_refused : {A : Type 0} → Refused A → Refusal
shown_refused (Unread fault) = unread (item.shown_fault fault)
shown_refused (BadObject object) = untaken (model.BadObject object.bytes)
shown_refused (NameHeld object) = untaken (model.NameHeld object.bytes)
shown_refused (Dangling object link) = untaken (model.Dangling object.bytes link.bytes)
shown_refused (DanglingRef ref object) = untaken (model.Dangling ref.items object.bytes)
shown_refused (WrongKind ref) = untaken (model.WrongKind ref.items)
shown_refused (NotFastForward ref old new) = untaken (model.NotFastForward ref.items old.bytes new.bytes)

-- what a refusal prints
abbrev pub word : {A : Type 0} → Refused A → Bytes
word (Unread fault) = item.word fault
word (BadObject object) = codes "BadObject"
word (NameHeld object) = codes "NameHeld"
word (Dangling object link) = codes "Dangling"
word (DanglingRef ref object) = codes "Dangling"
word (WrongKind ref) = codes "WrongKind"
word (NotFastForward ref old new) = codes "NotFastForward"

-- why a text isn't taken that isn't read
abbrev pub of_offer : {A : Type 0} → OfferFault → TakeFault A
of_offer offer.OutOfMemory = OutOfMemory
of_offer offer.ReadFailed = ReadFailed
of_offer (offer.Item number fault) = Item number (Unread fault)
