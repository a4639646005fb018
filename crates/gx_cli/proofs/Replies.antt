-- What is answered to a question, with the faults of revisions among those of the commands.
use Rattle.std.proofs.Common.{◌≡◌, ℕ, refl, List, Result, Ok, Err}
use Rattle.std.specs.Prelude.{IsOk}
use Rattle.gx_model.specs.Texts.{Bytes}
use Rattle.gx_model.specs.Faults.{◌>>=◌}
use Rattle.gx_model.specs.Revisions.Ranges.{WordFault}
use Rattle.gx_rev.specs.RevFaults.{fault_of}
use Rattle.gx_rev.specs.Walking.{IsWordFault}
use Rattle.gx_rev.specs.declared.fault.RevFault.{RevFault}
use Rattle.gx_rev.specs.declared.fault.RevFault.TheVariants.{OutOfMemory}
use Rattle.gx_cli.specs.Questions.{ListsAs}
use Rattle.gx_cli.specs.Words.{refused_at}

-- a range word that is refused
pub refused_range : (A : Type 0) (given : Result (List Bytes) WordFault) (number : ℕ) (kind : RevFault) → (kind ≡ OutOfMemory → IsOk given) → IsWordFault number (fault_of kind) given → ListsAs {A = A} given (Err (refused_at number kind))
refused_range A given number OutOfMemory first h = first refl
refused_range A given number kind first h = h

-- where all words are read, commits are listed
pub all_listed : {X : Type 0} (words : Result X WordFault) (names : X → List Bytes) → IsOk words → IsOk (words >>= λ x. Ok (names x))
all_listed (Ok x) names h = refl
all_listed (Err f) names h = h
