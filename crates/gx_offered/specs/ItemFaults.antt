-- Faults of items, by the definitions and by their words.
use Rattle.std.specs.Prelude.{codes}
use Rattle.gx_model.specs.Texts.{Bytes}
use Rattle.gx_wide.specs.ObjectsTexts as model
use Rattle.gx_offered.specs.declared.fault.ItemFault.{ItemFault}
use Rattle.gx_offered.specs.declared.fault.ItemFault.TheVariants.{BadLine, BadNumber, BadRefName, Missing, NameMismatch, TruncatedData}

abbrev pub shown_fault : ItemFault → model.ItemFault
shown_fault TruncatedData = model.TruncatedData
shown_fault BadLine = model.BadLine
shown_fault BadNumber = model.BadNumber
shown_fault Missing = model.Missing
shown_fault BadRefName = model.BadRefName
shown_fault NameMismatch = model.NameMismatch

-- what a fault prints
abbrev pub word : ItemFault → Bytes
word TruncatedData = codes "TruncatedData"
word BadLine = codes "BadLine"
word BadNumber = codes "BadNumber"
word Missing = codes "Missing"
word BadRefName = codes "BadRefName"
word NameMismatch = codes "NameMismatch"
