-- How adapting a stream ends, and what is told of the lines that are lost.
use Rattle.std.specs.Prelude.{◌≡◌, ℕ, List, [], ◌∷◌, ◌++◌, Result, Ok, Err, Some, None, codes}
use Rattle.std.specs.List.{flat_map}
use Rattle.gx_model.specs.Texts.{Bytes}
use Rattle.gx_model.specs.Texts.Paths.{printed}
use Rattle.gx_adapt.specs.declared.adapting.Adapted.{Adapted}
use Rattle.gx_cli.specs.Gathering.{texts_of}
use Rattle.gx_cli.specs.declared.fault.CliFault.{CliFault}
use Rattle.gx_cli.specs.declared.serving.Outcome.{Outcome}

-- what is told of a lost line, which stands there as paths are printed
abbrev pub lost_line : Bytes → Bytes
lost_line l = codes "gx: adapt: lost: " ++ printed l ++ 10 ∷ []

-- what is told of the lost lines
abbrev pub lost_text : List Bytes → Bytes
lost_text lines = flat_map lost_line lines

-- the exit status, by the lines that are lost
abbrev pub adapt_status : List Bytes → ℕ
adapt_status [] = 0
adapt_status (l ∷ lines) = 3

-- how the command ends
abbrev pub EndsAdapted : {A : Type 0} → Result (Adapted A) CliFault → Outcome A → Type 0
EndsAdapted (Ok adapted) o = (o.status ≡ adapt_status (texts_of adapted.lost.items)) × (o.fault ≡ None) × (o.store ≡ None)
EndsAdapted (Err fault) o = (o.status ≡ 1) × (o.fault ≡ Some fault) × (o.store ≡ None)
