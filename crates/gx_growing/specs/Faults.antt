-- The faults of growing texts, as they are printed. Source: this project's own format.
use Rattle.std.specs.Prelude.{codes}
use Rattle.gx_model.specs.Texts.{Bytes}
use Rattle.gx_model.specs.Faults.StoreFaults as store
use Rattle.gx_growing.specs.declared.fault.GrowingFault.{GrowingFault}
use Rattle.gx_growing.specs.declared.fault.GrowingFault.TheVariants.{Text, BadRows}

-- the word that a fault prints
abbrev pub word : GrowingFault → Bytes
word (Text fault) = store.word fault
word BadRows = codes "BadRows"
