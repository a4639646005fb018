-- How an answer goes with what there is to print of a repository: what went out, and what a fault leaves. A store that tells a
-- repository is never damaged.
use Rattle.std.specs.Prelude.{◌≡◌, List, [], Option, Result, Ok, Err, ⊤}
use Rattle.std.specs.List.{flat_map}
use Rattle.gx_model.specs.declared.objects.Kind.{Kind}
use Rattle.gx_model.specs.Faults.{◌>>=◌}
use Rattle.gx_model.specs.Histories.{History}
use Rattle.gx_model.specs.Revisions.{Revision as Asked}
use Rattle.gx_model.specs.Revisions.Denotation.{denoted}
use Rattle.gx_model.specs.Revisions.Ranges.{each_word}
use Rattle.gx_model.specs.Texts.{Bytes}
use Rattle.gx_model.specs.Texts.Sinks.{FailedWithin, Taken, Took, TookFront}
use Rattle.gx_rev.specs.RevFaults.{fault_of}
use Rattle.gx_print.specs.Stored.{IsFrontOf, Printed, Refusal, all_words, name_line, of_word}
use Rattle.gx_told.specs.declared.fault.ToldFault.{ToldFault}
use Rattle.gx_told.specs.declared.fault.ToldFault.TheVariants.{OutOfMemory, Revision, StoreReadFailed, WriteFailed}

-- ---- a text

-- The text went out, or the sink failed within it.
abbrev pub Sent : Bytes → Option Taken → Option Taken → Result (Unit {0}) ToldFault → Type 0
Sent text was now (Ok done) = Took was now text
Sent text was now (Err WriteFailed) = FailedWithin was now text
Sent text was now (Err fault) = ⊥

-- The same, and where memory ran out or the store couldn't be read, a front of the text went out.
abbrev pub PrintsText : Bytes → Option Taken → Option Taken → Result (Unit {0}) ToldFault → Type 0
PrintsText text was now (Ok done) = Took was now text
PrintsText text was now (Err WriteFailed) = FailedWithin was now text
PrintsText text was now (Err OutOfMemory) = TookFront was now text
PrintsText text was now (Err StoreReadFailed) = TookFront was now text
PrintsText text was now (Err fault) = ⊥

-- ---- a text or a refusal

-- a front of the text went out; where it is refused, nothing
abbrev pub PrintsFront : Printed → Option Taken → Option Taken → Type 0
PrintsFront given was now = (front : Bytes) × IsFrontOf given front × Took was now front

-- The text went out, or the refusal is answered and nothing went out. Where the sink failed, memory ran out or the store couldn't
-- be read, a front of the text went out.
abbrev pub Prints : Printed → Option Taken → Option Taken → Result (Unit {0}) ToldFault → Type 0
Prints given was now (Ok done) = (text : Bytes) × (given ≡ Ok text) × Took was now text
Prints given was now (Err WriteFailed) = (text : Bytes) × (given ≡ Ok text) × FailedWithin was now text
Prints given was now (Err OutOfMemory) = PrintsFront given was now
Prints given was now (Err StoreReadFailed) = PrintsFront given was now
Prints given was now (Err (Revision number kind)) = (given ≡ Err (of_word number (fault_of kind))) × Took was now []
Prints given was now (Err fault) = ⊥

-- ---- words

-- the word that is refused; memory may run out and a read may fail whatever the words give
abbrev pub RefusesWord : {Y : Type 0} → ToldFault → Result Y Refusal → Type 0
RefusesWord OutOfMemory given = ⊤
RefusesWord StoreReadFailed given = ⊤
RefusesWord (Revision number kind) given = given ≡ Err (of_word number (fault_of kind))
RefusesWord fault given = ⊥

-- what words give, seen so, or the word that is refused
abbrev pub GivesWords : {X Y : Type 0} → (X → Y) → Result Y Refusal → Result X ToldFault → Type 0
GivesWords view given (Ok x) = given ≡ Ok (view x)
GivesWords view given (Err fault) = RefusesWord fault given

-- the line of what each revision shows
abbrev pub lines_text : (Kind → Bytes → Bytes) → History → List Asked → Printed
lines_text name h revisions = all_words (each_word (denoted name h) revisions >>= λ shown. Ok (flat_map (name_line name) shown))
