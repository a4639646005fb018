-- Marks that are held no longer.
use Rattle.std.proofs.Common.{◌≡◌, ℕ, Bool, false, if◌then◌else◌, cond, nat_cmp, nat_eq, codes, Some, sym, ap, ◌∙◌, arith}
use Rattle.std.specs.BTreeMap.{is_at}
use Rattle.std.specs.Option.{option_map_or}
use Rattle.std.proofs.lemmas.Bool.Decides.{nat_tests}
use Rattle.gx_model.specs.Texts.{Bytes}
use Rattle.gx_adapt.specs.Marks.{mark_behind, sets_mark}

is_same : (n number : ℕ) → is_at (nat_cmp n) number ≡ nat_eq number n
is_same n number = grind (arith, nat_tests)

-- a mark that a command of another kind sets is none of a blob or of a tag
pub no_longer : (l : Bytes) (n number : ℕ) (command was is : Bool) → Some n ≡ mark_behind (codes "mark") l → command ≡ false → is ≡ cond (is_at (nat_cmp n) number) false was → is ≡ (if sets_mark l number then command else was)
no_longer l n number command was is e c h =
    h ∙ ap (λ b. cond b false was) (is_same n number) ∙ ap (λ m. if option_map_or (nat_eq number) m false then false else was) e ∙ ap (λ b. if sets_mark l number then b else was) (sym c)
