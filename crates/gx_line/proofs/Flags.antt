-- What clap has for a flag, and what is read of it.
use Rattle.std.proofs.Common.{◌≡◌, Bool, true, false, Option, Some, None, [], ◌∷◌, refl, sym, subst, ap, ◌∙◌, arith, codes, unwrap_or, slice_index}
use Rattle.std.specs.Str.Parse.{ParsesBool}
use Rattle.clap.specs.Words.{ReadsOne, Text}

-- a flag is set where this text is "true", and nowhere else
abbrev Told : Option Text → Bool → Type 0
Told text true = text ≡ Some (codes "true")
Told text false = text ≡ Some (codes "true") → ⊥

pub flag_told : (E : Type 0) (text : Option Text) (read : Option Bool) → (text ≡ None → read ≡ None) → ((t : Text) → text ≡ Some t → ReadsOne {E = E} ParsesBool t read) → Told text (unwrap_or read false)
flag_told E None read none one =
    subst (λ r. Told None (unwrap_or r false)) (sym (none refl)) (λ e. let bad : 0 ≡ 116 = ap (λ (o : Option Text). slice_index (unwrap_or o (0 ∷ [])) 0) e in absurd (omega (arith, bad)))
flag_told E (Some t) read none one = by read (one t refl)
  where
    by : (r : Option Bool) → ReadsOne {E = E} ParsesBool t r → Told (Some t) (unwrap_or r false)
    by (Some true) h = ap Some h
    by (Some false) h = λ e. let bad : 102 ≡ 116 = ap (λ (o : Option Text). slice_index (unwrap_or o []) 0) (ap Some (sym h) ∙ e) in absurd (omega (arith, bad))
    by None h = λ e. h.1.0 (ap (λ (o : Option Text). unwrap_or o []) e)
