-- What comes of the import of a text of refs and objects.
-- Source: git-cat-file(1), "BATCH OUTPUT", and git-for-each-ref(1).
use Rattle.std.specs.Prelude.{◌≡◌, ◌-◌, [], length, Result, Ok, Err, codes}
use Rattle.gx_repo.specs.Repositories.{Repository}
use Rattle.gx_rev.specs.declared.fault.RevFault.TheVariants as rev
use Rattle.gx_taken.specs.Refusals.{word}
use Rattle.gx_taken.specs.declared.fault.TakeFault.{TakeFault}
use Rattle.gx_taken.specs.declared.fault.TakeFault.TheVariants.{Item, OutOfMemory, ReadFailed}
use Rattle.gx_c.specs.Answers.{word_of_why}
use Rattle.gx_c.specs.declared.answer.Answer.{Answer}
use Rattle.gx_c.specs.declared.answer.Why.TheVariants as why

-- Why a text is refused is told: for an item, its number and the word of what is against it.
abbrev pub TellsFault : {A B : Type 0} → TakeFault A → Answer B → Type 0
TellsFault OutOfMemory answer = (answer.why ≡ why.Revision rev.OutOfMemory) × (answer.number ≡ 0)
TellsFault ReadFailed answer = (word_of_why answer.why ≡ codes "ReadFailed") × (answer.number ≡ 0)
TellsFault (Item number kind) answer = (word_of_why answer.why ≡ word kind) × (answer.number ≡ number)

abbrev pub TellsRefusal : {A B : Type 0} → TakeFault A → Answer B → Type 0
TellsRefusal fault answer = TellsFault fault answer × (answer.bytes.items ≡ [])

-- The repository is what was taken, and how many objects are new is told; or it stays, and why is told.
abbrev pub TellsTaken : {N A B : Type 0} → Repository N → Repository N → Result (Repository N) (TakeFault A) → Answer B → Type 0
TellsTaken was now (Ok left) answer =
    (now ≡ left) × (answer.why ≡ why.Done) × (answer.bytes.items ≡ []) × (answer.number ≡ 0) × (answer.count ≡ length left.1.records - length was.1.records)
TellsTaken was now (Err fault) answer = (now ≡ was) × TellsRefusal fault answer
