-- Lower-case digits are what they are in lower case.
use Rattle.std.proofs.Common.{◌≡◌, ℕ, true, refl, [], ◌∷◌, map, arith}
use Rattle.std.specs.Prelude.{T}
use Rattle.std.specs.List.{list_all}
use Rattle.std.proofs.lemmas.Grind.{common_steps}
use Rattle.gx_model.specs.Texts.{Bytes}
use Rattle.gx_model.specs.Texts.Digits.{is_lower_digit, lower}
use Rattle.gx_model.proofs.Texts.PathTests.{first, is_true, second}

same_digit : (d : ℕ) → is_lower_digit d ≡ true → lower d ≡ d
same_digit d h = grind (arith, common_steps, h)

pub lower_again : (x : Bytes) → T (list_all is_lower_digit x) → map lower x ≡ x
lower_again [] h = refl
lower_again (d ∷ x) h =
    let a : is_lower_digit d ≡ true = is_true _ (first (is_lower_digit d) (list_all is_lower_digit x) h) in
    let b : map lower x ≡ x = lower_again x (second (is_lower_digit d) (list_all is_lower_digit x) h) in
    λ i. same_digit d a i ∷ b i
