-- What a stream asks of the repository that it begins with. Source: git-fast-import(1), "Commands".
use Rattle.std.specs.Prelude.{◌≡◌, ℕ, Bool, List, map, None, Some, IsTrue, ⊤}
use Rattle.std.specs.declared.vec.Vec.{Vec}
use Rattle.std.specs.List.{AllByRecursion, list_any}
use Rattle.gx_model.specs.declared.features.Features.{Features}
use Rattle.gx_model.specs.Texts.{Bytes, same_bytes}
use Rattle.gx_model.specs.Histories.Values.{CommitText}
use Rattle.gx_model.specs.Streams.Commands.{Command}
use Rattle.gx_model.specs.Streams.Grammar.{commands_asked}
use Rattle.gx_model.specs.Streams.Items.{items_of}
use Rattle.gx_command.specs.CommandFaults.{fault_of}
use Rattle.gx_command.specs.declared.fault.CommandFault.{CommandFault}
use Rattle.gx_command.specs.declared.fault.CommandFault.TheVariants as command
use Rattle.gx_stand_ins.specs.Asked.{OfCommand}
use Rattle.gx_stand_ins.specs.SmallRepositories.{BeginsOtherwise}
use Rattle.gx_stand_ins.specs.declared.bodies.TheConstants.{NONCE}
use Rattle.gx_asked.specs.declared.fault.AskedFault.{AskedFault}
use Rattle.gx_asked.specs.declared.fault.AskedFault.TheVariants.{OutOfMemory, Unread, StandsForAnother}

-- the texts of these
abbrev pub texts_of : {A : Type 0} → List (Vec ℕ A) → List Bytes
texts_of texts = map (λ text. text.items) texts

-- a text is among these
abbrev pub IsAmong : List Bytes → Bytes → Type 0
IsAmong texts text = IsTrue (list_any (same_bytes text) texts)

-- a commit whose message begins otherwise than that of one that stands for another
abbrev pub HasOtherMessage : CommitText → Type 0
HasOtherMessage text = BeginsOtherwise NONCE text.message

-- All that a command asks for is among these branches and bases, and what it brings begins otherwise than what stands for others.
abbrev pub AsksAmong : List Bytes → List Bytes → Command → Type 0
AsksAmong branches bases = OfCommand (IsAmong branches) (IsAmong bases) (BeginsOtherwise NONCE) HasOtherMessage

-- so do the commands of a text
abbrev pub AskAmong : List Bytes → List Bytes → Features → Bytes → Bool → Type 0
AskAmong branches bases asks text fails = AllByRecursion (AsksAmong branches bases) (commands_asked asks (items_of text fails)).list

-- the commands of a text end without a fault
abbrev pub HasNoFault : Features → Bytes → Bool → Type 0
HasNoFault asks text fails = (commands_asked asks (items_of text fails)).fault ≡ None

-- what a command brings begins otherwise than what stands for others, whatever it asks for
abbrev pub BringsOther : Command → Type 0
BringsOther = OfCommand (λ branch. ⊤) (λ base. ⊤) (BeginsOtherwise NONCE) HasOtherMessage

-- Why it isn't told what a text asks for: a growth was refused, its commands end at this fault, or not each brings what begins
-- otherwise.
abbrev pub IsCause : Features → Bytes → Bool → AskedFault → Type 0
IsCause asks text fails OutOfMemory = ⊤
IsCause asks text fails (Unread fault) = (commands_asked asks (items_of text fails)).fault ≡ Some (fault_of fault)
IsCause asks text fails StandsForAnother = AllByRecursion BringsOther (commands_asked asks (items_of text fails)).list → ⊥

-- the fault of a stream
abbrev pub of_command : CommandFault → AskedFault
of_command command.OutOfMemory = OutOfMemory
of_command fault = Unread fault
