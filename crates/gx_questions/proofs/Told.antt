-- Answers of the repository that is told, one step after another.
use Rattle.std.proofs.Common.{◌≡◌, Option, None, Some, Result, Ok, Err, ap, ◌∙◌}
use Rattle.std.specs.Prelude.{IfSome}
use Rattle.gx_model.specs.Faults.{Given, ◌>>=◌}
use Rattle.gx_model.specs.Histories.{Records}
use Rattle.gx_questions.specs.Answers.{Answers, Refuses}
use Rattle.gx_questions.specs.declared.fault.AskFault.{AskFault}
use Rattle.gx_questions.specs.declared.fault.AskFault.TheVariants.{OutOfMemory, ReadFailed, Damaged, Revision}

-- ---- faults

-- what the first step refuses, both do
pub fails_first : {Y Z : Type 0} (told : Option Records) (given : Records → Given Y) (next : Records → Y → Given Z) (fault : AskFault) → Refuses told given fault → Refuses told (λ r. given r >>= next r) fault
fails_first told given next OutOfMemory h = tt
fails_first told given next ReadFailed h = tt
fails_first told given next Damaged h = h
fails_first None given next (Revision f) h = tt
fails_first (Some r) given next (Revision f) h = ap (λ g. g >>= next r) h

-- ---- answers

-- where the same is given, the same is answered
pub given_alike : {X Y : Type 0} (told : Option Records) (view : Records → X → Y) (given other : Records → Given Y) (result : Result X AskFault) → IfSome told (λ r. other r ≡ given r) → Answers told view given result → Answers told view other result
given_alike None view given other (Ok x) e h = tt
given_alike (Some r) view given other (Ok x) e h = e ∙ h
given_alike told view given other (Err OutOfMemory) e h = tt
given_alike told view given other (Err ReadFailed) e h = tt
given_alike told view given other (Err Damaged) e h = h
given_alike None view given other (Err (Revision f)) e h = tt
given_alike (Some r) view given other (Err (Revision f)) e h = e ∙ h

-- with what the first step gave the second is asked
pub goes_on : {X Y Z W : Type 0} (told : Option Records) (first : Records → X → Y) (given : Records → Given Y) (x : X) (view : Records → Z → W) (next : Records → Y → Given W) (result : Result Z AskFault)
    → IfSome told (λ r. given r ≡ Ok (first r x)) → Answers told view (λ r. next r (first r x)) result → Answers told view (λ r. given r >>= next r) result
goes_on told first given x view next result e h = given_alike told view (λ r. next r (first r x)) (λ r. given r >>= next r) result (so told e) h
  where
    so : (told : Option Records) → IfSome told (λ r. given r ≡ Ok (first r x)) → IfSome told (λ r. (given r >>= next r) ≡ next r (first r x))
    so None e = tt
    so (Some r) e = ap (λ g. g >>= next r) e
