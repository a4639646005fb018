-- The front of a format: a name, two percent signs, or a byte that stands for itself.
use Rattle.std.proofs.Common.{◌≡◌, ◌≢◌, ℕ, ◌<◌, true, false, Bool, eqb, if◌then◌else◌, [], ◌∷◌, ◌++◌, length, Some, Result, Ok, Err, codes, refl, ap, subst, ◌∙◌, arith}
use Rattle.std.specs.Prelude.{◌&&◌}
use Rattle.std.specs.Borrow.{Bor}
use Rattle.std.proofs.lemmas.Bool.{eqb-true}
use Rattle.gx_model.specs.Texts.{Bytes}
use Rattle.gx_batch.specs.Formats.{GivesNamed, GivesPart, IsPlain, format_of, parts_behind, with_part}
use Rattle.gx_batch.specs.declared.fault.FormatFault.{FormatFault}
use Rattle.gx_batch.specs.declared.fault.FormatFault.TheVariants.{BadFormat, OutOfMemory}
use Rattle.gx_batch.specs.declared.format.Part.{Part}
use Rattle.gx_batch.specs.declared.format.Part.TheVariants.{Byte}

-- a name begins
pub name_begins : (bs : Bytes) → format_of (codes "%(" ++ bs) ≡ parts_behind (Some []) bs
unfolding parts_behind
name_begins bs = refl

-- two percent signs
pub percents : (bs : Bytes) → format_of (codes "%%" ++ bs) ≡ with_part (Byte 37) (format_of bs)
unfolding parts_behind
percents bs = refl

pick : {X : Type 0} (x y z : X) (s t u : Bool) → (s ≡ true → t ≡ true → ⊥) → (s ≡ true → u ≡ true → ⊥) → (if s && t then x else if s && u then y else z) ≡ z
pick x y z false t u f g = refl
pick x y z true true u f g = absurd (f refl refl)
pick x y z true false true f g = absurd (g refl refl)
pick x y z true false false f g = refl

both : (b c p q : ℕ) (bs : Bytes) → eqb b p ≡ true → eqb c q ≡ true → b ∷ c ∷ bs ≡ p ∷ q ∷ bs
both b c p q bs s t = ap (λ x. x ∷ c ∷ bs) (eqb-true b p s) ∙ ap (λ y. p ∷ y ∷ bs) (eqb-true c q t)

-- another byte
pub plain : (b : ℕ) (bs : Bytes) → IsPlain (b ∷ bs) → ((rest : Bytes) → b ∷ bs ≢ codes "%%" ++ rest) → format_of (b ∷ bs) ≡ with_part (Byte b) (format_of bs)
unfolding parts_behind
plain b [] f g = refl
plain b (c ∷ bs) f g = pick _ _ _ (eqb b 37) (eqb c 37) (eqb c 40) (λ s t. g bs (both b c 37 37 bs s t)) (λ s u. f bs (both b c 37 40 bs s u))

-- ---- the first part of a text

-- it is named
pub named_first : (text after : Bytes) (answer : Result (Part × Bor Bytes) FormatFault) → text ≡ codes "%(" ++ after → GivesNamed after answer → GivesPart (format_of text) text answer
named_first text after (Ok p) e h = (ap format_of e ∙ name_begins after ∙ h.0, let long = ap length e in let less = h.1 in omega (arith, long, less))
named_first text after (Err BadFormat) e h = ap format_of e ∙ name_begins after ∙ h
named_first text after (Err OutOfMemory) e h = absurd h

-- it is a percent sign, of two
pub percents_first : (text after : Bytes) → text ≡ codes "%%" ++ after → (format_of text ≡ with_part (Byte 37) (format_of after)) × (length after < length text)
percents_first text after e = (ap format_of e ∙ percents after, let long = ap length e in omega (arith, long))

-- it is another byte
pub plain_first : (text : Bytes) (b : ℕ) (after : Bytes) → text ≡ b ∷ after → IsPlain text → ((rest : Bytes) → text ≢ codes "%%" ++ rest) → (format_of text ≡ with_part (Byte b) (format_of after)) × (length after < length text)
plain_first text b after e f g =
    (ap format_of e ∙ plain b after (subst IsPlain e f) (subst (λ t. (rest : Bytes) → t ≢ codes "%%" ++ rest) e g), let long = ap length e in omega (arith, long))
