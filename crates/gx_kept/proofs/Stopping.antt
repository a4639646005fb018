-- Where objects or refs aren't told, nothing goes out.
use Rattle.std.proofs.Common.{◌≡◌, [], Option, None, Some, Err, refl}
use Rattle.std.specs.Prelude.{IfSome}
use Rattle.gx_model.specs.Histories.{Records}
use Rattle.gx_model.specs.Texts.{Bytes}
use Rattle.gx_model.specs.Texts.Sinks.{Taken, TookFront}
use Rattle.gx_model.proofs.Texts.SentTexts.{took_nothing}
use Rattle.gx_objects.specs.declared.fault.LookFault.{LookFault}
use Rattle.gx_objects.specs.declared.fault.LookFault.TheVariants as look
use Rattle.gx_kept.specs.Faults.{IsOnTheWay, Stops, of_look}
use Rattle.gx_kept.specs.declared.fault.KeptFault.{KeptFault}
use Rattle.gx_kept.specs.declared.fault.KeptFault.TheVariants.{Damaged, OutOfMemory, ReadFailed, WriteFailed}

-- an empty front of a text went out
pub none_went : (was : Option Taken) (text : Bytes) → TookFront was was text
none_went was text = ([], text, refl, took_nothing was)

pub look_stops : (was : Option Taken) (fault : LookFault) (text : Bytes) → Stops text was was (of_look fault)
look_stops was look.OutOfMemory text = none_went was text
look_stops was look.ReadFailed text = none_went was text
look_stops was look.Damaged text = none_went was text

-- only of what tells no repository it is answered that it is damaged
pub look_told : (X : Type 0) (told : Option Records) (fault : LookFault) → (fault ≡ look.Damaged → told ≡ None) → IsOnTheWay {X = X} told (Err (of_look fault))
look_told X told look.OutOfMemory h = tt
look_told X told look.ReadFailed h = tt
look_told X told look.Damaged h = h refl

-- so it is whatever comes of what goes well
pub same_fault : (X Y : Type 0) (told : Option Records) (fault : KeptFault) → IsOnTheWay {X = X} told (Err fault) → IsOnTheWay {X = Y} told (Err fault)
same_fault X Y told OutOfMemory h = tt
same_fault X Y told ReadFailed h = tt
same_fault X Y told WriteFailed h = tt
same_fault X Y told Damaged h = h

-- what holds of each repository holds of the one that is told
pub of_told : (told : Option Records) (P : Records → Type 0) → ((r : Records) → P r) → IfSome told P
of_told None P f = tt
of_told (Some r) P f = f r

-- what follows of a repository that is told
pub then_told : (told : Option Records) (P Q : Records → Type 0) → ((r : Records) → P r → Q r) → IfSome told P → IfSome told Q
then_told None P Q f h = tt
then_told (Some r) P Q f h = f r h
