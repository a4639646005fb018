-- What several words give, or the first of them that is refused, as it is answered.
use Rattle.std.specs.Prelude.{◌≡◌, ℕ, Result, Ok, Err, ⊤}
use Rattle.gx_rev.specs.RevFaults.{fault_of}
use Rattle.gx_rev.specs.declared.fault.RevFault.{RevFault}
use Rattle.gx_rev.specs.declared.fault.RevFault.TheVariants as rev
use Rattle.gx_print.specs.Stored.{Refusal, of_word}
use Rattle.gx_cli.specs.declared.fault.CliFault.{CliFault}
use Rattle.gx_cli.specs.declared.fault.CliFault.TheVariants.{OutOfMemory, Revision}

-- the word that is refused; memory may run out whatever the words give
abbrev pub RefusesWord : {Y : Type 0} → CliFault → Result Y Refusal → Type 0
RefusesWord OutOfMemory given = ⊤
RefusesWord (Revision number kind) given = given ≡ Err (of_word number (fault_of kind))
RefusesWord fault given = ⊥

-- what words give, seen so, or the word that is refused
abbrev pub GivesWords : {X Y : Type 0} → (X → Y) → Result X CliFault → Result Y Refusal → Type 0
GivesWords view (Ok x) given = given ≡ Ok (view x)
GivesWords view (Err fault) given = RefusesWord fault given

-- the refusal of the word with this number; want of memory is of none
abbrev pub refused_at : ℕ → RevFault → CliFault
refused_at number rev.OutOfMemory = OutOfMemory
refused_at number kind = Revision number kind
