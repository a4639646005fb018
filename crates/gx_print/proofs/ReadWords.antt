-- Words that are read one after the other, and the first that is refused.
use Rattle.std.proofs.Common.{◌≡◌, ℕ, ◌+◌, arith, refl, sym, ap, ◌∙◌, List, [], ◌∷◌, ◌++◌, append_assoc, append-nil, Result, Ok, Err}
use Rattle.gx_model.specs.declared.faults.Fault.{Fault}
use Rattle.gx_model.specs.Faults.{Given, IsFaultOf, ◌>>=◌}
use Rattle.gx_model.specs.Revisions.Ranges.{WordFault, at_word, each_from, each_word}
use Rattle.gx_rev.specs.declared.fault.RevFault.{RevFault}
use Rattle.gx_rev.specs.declared.fault.RevFault.TheVariants.{OutOfMemory}
use Rattle.gx_rev.specs.RevFaults.{fault_of}
use Rattle.gx_rev.specs.Walking.{refused_at}
use Rattle.gx_print.specs.Words.{IsRefusedAt}

module _ {X Y : Type 0} (f : X → Given Y) where
  -- the first words gave these, and the others are left
  abbrev pub AreRead : List X → List X → ℕ → List Y → Type 0
  AreRead all left count done = each_word f all ≡ (each_from (1 + count) f left >>= λ ys. Ok (done ++ ys))

  then_next : (done : List Y) (y : Y) (r : Result (List Y) WordFault) → ((r >>= λ ys. Ok (y ∷ ys)) >>= λ ys. Ok (done ++ ys)) ≡ (r >>= λ ys. Ok ((done ++ y ∷ []) ++ ys))
  then_next done y (Ok ys) = ap Ok (sym (append_assoc done (y ∷ []) ys))
  then_next done y (Err e) = refl

  -- one word more
  pub next_read : (all left : List X) (x : X) (count : ℕ) (done : List Y) (y : Y) → f x ≡ Ok y → AreRead all (x ∷ left) count done → AreRead all left (count + 1) (done ++ y ∷ [])
  next_read all left x count done y e d =
      d ∙ ap (λ r. (at_word (1 + count) r >>= λ z. each_from (1 + count + 1) f left >>= λ zs. Ok (z ∷ zs)) >>= λ zs. Ok (done ++ zs)) e
      ∙ then_next done y (each_from (1 + count + 1) f left) ∙ ap (λ n. each_from n f left >>= λ zs. Ok ((done ++ y ∷ []) ++ zs)) (let s : 1 + count + 1 ≡ 1 + (count + 1) = omega arith in s)

  -- all were read
  pub all_read : (all : List X) (count : ℕ) (done : List Y) → AreRead all [] count done → each_word f all ≡ Ok done
  all_read all count done d = d ∙ ap Ok (append-nil done)

  -- the next word is refused, and so are all
  pub next_fails : (all left : List X) (x : X) (count : ℕ) (done : List Y) (g : Fault) → f x ≡ Err g → AreRead all (x ∷ left) count done → each_word f all ≡ Err (record { word = 1 + count; fault = g })
  next_fails all left x count done g e d =
      d ∙ ap (λ r. (at_word (1 + count) r >>= λ z. each_from (1 + count + 1) f left >>= λ zs. Ok (z ∷ zs)) >>= λ zs. Ok (done ++ zs)) e

  -- and it is answered by its number, unless memory ran out
  pub word_refused : (all left : List X) (x : X) (count : ℕ) (done : List Y) (kind : RevFault) → IsFaultOf (fault_of kind) (f x) → AreRead all (x ∷ left) count done
      → (n : ℕ) → n ≡ count + 1 → IsRefusedAt (refused_at n kind).word (fault_of (refused_at n kind).kind) (each_word f all)
  word_refused all left x count done OutOfMemory i d n s = refl
  word_refused all left x count done kind i d n s =
      let m : 1 + count ≡ n = omega arith in
      next_fails all left x count done (fault_of kind) i d ∙ ap (λ k. Err (record { word = k; fault = fault_of kind })) m
