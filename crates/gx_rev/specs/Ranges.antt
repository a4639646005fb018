-- The parts of range words that a word has in common with another.
use Rattle.std.specs.Prelude.{◌==◌, ℕ, Bool, true, false, if◌then◌else◌, Result, Ok, Err}
use Rattle.gx_model.specs.declared.faults.Fault.TheVariants.{BadRevision}
use Rattle.gx_model.specs.Faults.{Given, Gives, ◌>>=◌}
use Rattle.gx_model.specs.Revisions.{RangeWord, Revision, number_or_one}
use Rattle.gx_model.specs.Revisions as word
use Rattle.gx_model.specs.Texts.{Bytes}
use Rattle.gx_rev.specs.RevFaults.{FaultsComeFirst, fault_of}
use Rattle.gx_rev.specs.Views.{shown_range}
use Rattle.gx_rev.specs.declared.fault.RevFault.{RevFault}
use Rattle.gx_rev.specs.declared.range.Range.{Range}
use Rattle.gx_rev.specs.declared.range.Shape.{Shape}
use Rattle.gx_rev.specs.declared.range.Shape.TheVariants.{WithAncestors, WithoutAncestors, AllParents, Alone}

-- the word of two revisions, with three dots or with two
abbrev pub two_sided : Bool → Revision → Revision → RangeWord
two_sided true left right = word.Apart left right
two_sided false left right = word.Between left right

-- the word of one revision that has this shape
abbrev pub one_sided : Shape → Revision → RangeWord
one_sided WithAncestors revision = word.WithAncestors revision
one_sided WithoutAncestors revision = word.WithoutAncestors revision
one_sided AllParents revision = word.AllParents revision
one_sided Alone revision = word.Alone revision

-- a word is read as this definition has it, and no want of memory hides its fault
abbrev pub ReadsRange : {A : Type 0} → Result (Range A) RevFault → Given RangeWord → Type 0
ReadsRange result given = Gives fault_of shown_range result given × FaultsComeFirst result given

-- a parent's number, from 1
abbrev pub parent_number : Bytes → Given ℕ
parent_number digits = number_or_one digits >>= λ n. if n == 0 then Err BadRevision else Ok n
