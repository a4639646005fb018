use Rattle.std.proofs.Common.{◌≡◌, ℕ, List, [], ◌∷◌, ◌++◌, true, false, Result, Ok, Err, Some, refl, sym, ap, ◌∙◌}
use Rattle.std.specs.Bool.{if◌then◌else◌}
use Rattle.std.specs.Result.{is_ok, OnOk}
use Rattle.gx_model.specs.Texts.Paths.{is_printed_bare, letter_of, printed_byte}
use Rattle.gx_text.proofs.printed.put_byte.Goals as goal

appended : {T E : Type 0} (r : Result T E) (old new more text : List ℕ) → new ≡ (if is_ok r then old ++ more else old) → text ≡ more → OnOk r (new ≡ old ++ text)
appended (Ok _) old new more text e s = e ∙ ap (λ t. old ++ t) (sym s)
appended (Err _) old new more text e s = tt

bare : (b : ℕ) → is_printed_bare b ≡ true → printed_byte b ≡ b ∷ []
bare b e = rw e refl

named : (b letter : ℕ) → is_printed_bare b ≡ false → letter_of b ≡ Some letter → printed_byte b ≡ 92 ∷ letter ∷ []
named b letter e s = rw (e, s) refl

pub returns-then-is_bare-clause-ok : goal.returns-then-is_bare-clause-ok
returns-then-is_bare-clause-ok g c = appended c.extend_from_slice.result _ _ _ _ c.extend_from_slice.ensures.items (bare c.args.b (sym c.is_bare.ensures ∙ c.if-is_bare.true))

pub returns-in-Some-clause-ok : goal.returns-in-Some-clause-ok
returns-in-Some-clause-ok g c = appended c.extend_from_slice-in-Some.result _ _ _ _ c.extend_from_slice-in-Some.ensures.items (named c.args.b _ (sym c.is_bare.ensures ∙ c.if-is_bare.false) (sym c.letter.ensures ∙ c.in-Some.is))
