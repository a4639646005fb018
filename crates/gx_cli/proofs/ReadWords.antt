-- Words that are read one after the other, and the first that is refused, as it is answered.
use Rattle.std.proofs.Common.{◌≡◌, ℕ, ◌+◌, arith, ap, ◌∙◌, List, ◌∷◌, Result, Err}
use Rattle.gx_model.specs.Faults.{Given, IsFaultOf}
use Rattle.gx_model.specs.Revisions.Ranges.{WordFault, each_word}
use Rattle.gx_rev.specs.declared.fault.RevFault.{RevFault}
use Rattle.gx_rev.specs.declared.fault.RevFault.TheVariants.{OutOfMemory}
use Rattle.gx_rev.specs.RevFaults.{fault_of}
use Rattle.gx_print.specs.Stored.{all_words}
use Rattle.gx_print.proofs.ReadWords.{AreRead, next_fails}
use Rattle.gx_print.specs.Words.{IsRefusedAt}
use Rattle.gx_cli.specs.Words.{RefusesWord, refused_at}

module _ {X Y : Type 0} (f : X → Given Y) where
  -- the next word is refused, and it is answered by its number, unless memory ran out
  pub word_refused : (all left : List X) (x : X) (count : ℕ) (done : List Y) (kind : RevFault) → IsFaultOf (fault_of kind) (f x) → AreRead f all (x ∷ left) count done
      → (n : ℕ) → n ≡ count + 1 → RefusesWord (refused_at n kind) (all_words (each_word f all))
  word_refused all left x count done OutOfMemory i d n s = tt
  word_refused all left x count done kind i d n s =
      let m : 1 + count ≡ n = omega arith in
      ap all_words (next_fails f all left x count done (fault_of kind) i d ∙ ap (λ k. Err (record { word = k; fault = fault_of kind })) m)

-- the first word that is refused by its number is answered
pub read_refused : {Y : Type 0} (given : Result Y WordFault) (word : ℕ) (kind : RevFault) → IsRefusedAt word (fault_of kind) given → RefusesWord (refused_at word kind) (all_words given)
read_refused given word OutOfMemory i = tt
read_refused given word kind i = ap all_words i
