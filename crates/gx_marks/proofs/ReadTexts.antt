-- Lines of marks, read one after the other.
use Rattle.std.proofs.Common.{◌≡◌, ℕ, ◌+◌, true, false, refl, sym, ap, subst, ◌∙◌, arith, List, [], ◌∷◌, ◌++◌, length, length-append, append_assoc, append-nil, ◌<◌, Some, None, Bool}
use Rattle.std.specs.Prelude.{◌==◌}
use Rattle.std.proofs.lemmas.Bool.Decides.{nat_tests}
use Rattle.gx_model.specs.Texts.{Bytes}
use Rattle.gx_marks.specs.Marks.{IsFirstBad, IsLed, LeadsWith, NumberedName, TellMarks, TellsMark}
use Rattle.gx_marks.specs.Reading.{first_in}
use Rattle.gx_marks.proofs.MarkLines.{first_tells, first_told}

-- these marks were told, and this is left
pub record IsLeft (text rest : Bytes) (marks : List NumberedName) : Type 0 where
  pub front : Bytes
  pub parts : text ≡ front ++ rest
  pub told : TellMarks front marks

pub all_left : (text : Bytes) → IsLeft text text []
all_left text = record { front = []; parts = refl; told = refl }

-- a line more tells a mark more
told_more : (front line : Bytes) (mark : NumberedName) (marks : List NumberedName) → TellMarks front marks → TellsMark line mark → TellMarks (front ++ (line ++ 10 ∷ [])) (marks ++ mark ∷ [])
told_more front line mark [] h t = ([], (line, ap (λ f. f ++ (line ++ 10 ∷ [])) h, t), refl)
told_more front line mark (a ∷ marks) h t = (
  h.0 ++ (line ++ 10 ∷ []),
  (h.1.0, ap (λ f. f ++ (line ++ 10 ∷ [])) h.1.1 ∙ append_assoc h.1.0 (10 ∷ h.0) (line ++ 10 ∷ []), h.1.2),
  told_more h.0 line mark marks h.2 t,
)

pub one_more : (text rest : Bytes) (marks : List NumberedName) (mark : NumberedName) (behind : Bytes) → IsLeft text rest marks → Some (mark, behind) ≡ first_in rest → IsLeft text behind (marks ++ mark ∷ [])
one_more text rest marks mark behind h e =
    let led = first_tells rest mark behind (sym e) in record {
      front = h.front ++ (led.0 ++ 10 ∷ []);
      parts = h.parts ∙ ap (λ r. h.front ++ r) (led.1 ∙ sym (append_assoc led.0 (10 ∷ []) behind)) ∙ sym (append_assoc h.front (led.0 ++ 10 ∷ []) behind);
      told = told_more h.front led.0 mark marks h.told led.2;
    }

-- where a line is led by a mark, so is the text
pub led_first : (text rest : Bytes) (marks : List NumberedName) (mark : NumberedName) (behind : Bytes) → IsLeft text rest marks → Some (mark, behind) ≡ first_in rest → IsLed text
led_first text rest marks mark behind h e = subst IsLed (sym h.parts) (by h.front marks h.told)
  where
    by : (front : Bytes) (before : List NumberedName) → TellMarks front before → IsLed (front ++ rest)
    by front [] t = let led = first_tells rest mark behind (sym e) in (mark, behind, subst (λ f. LeadsWith (f ++ rest) mark behind) (sym t) led)
    by front (a ∷ before) t = (a, t.0 ++ rest, (t.1.0, ap (λ f. f ++ rest) t.1.1 ∙ append_assoc t.1.0 (10 ∷ t.0) rest, t.1.2))

-- what follows the first line is shorter
pub shorter : (rest : Bytes) (mark : NumberedName) (behind : Bytes) → Some (mark, behind) ≡ first_in rest → length behind < length rest
shorter rest mark behind e =
    let led = first_tells rest mark behind (sym e) in
    let whole = ap length led.1 in
    let parts = length-append led.0 (10 ∷ behind) in omega arith

-- nothing is left
zero_is : (n : ℕ) → (n == 0) ≡ true → n ≡ 0
zero_is n e = grind (arith, nat_tests)

some_left : (text : Bytes) {b : Bool} → b ≡ (length text == 0) → b ≡ false → text ≡ [] → ⊥
some_left text e f g = let h : true ≡ false = ap (λ (t : Bytes). length t == 0) (sym g) ∙ sym e ∙ f in cc h

no_text_left : (text : Bytes) {b : Bool} → b ≡ (length text == 0) → b ≡ true → text ≡ []
no_text_left [] e f = refl
no_text_left (x ∷ xs) e f = absurd (let l = zero_is (length (x ∷ xs)) (sym e ∙ f) in omega (arith, l))

pub all_told : (text rest : Bytes) (marks : List NumberedName) {b : Bool} → b ≡ (length rest == 0) → b ≡ true → IsLeft text rest marks → TellMarks text marks
all_told text rest marks e f h =
    let none = no_text_left rest e f in
    subst (λ t. TellMarks t marks) (sym (h.parts ∙ ap (λ r. h.front ++ r) none ∙ append-nil h.front)) h.told

-- no mark leads what is left
pub none_more : (text rest : Bytes) (marks : List NumberedName) (number : ℕ) {b : Bool} → b ≡ (length rest == 0) → b ≡ false → IsLeft text rest marks → None ≡ first_in rest → number ≡ length marks + 1
    → IsFirstBad text number
none_more text rest marks number e f h none is = record {
  front = h.front;
  rest = rest;
  marks = marks;
  parts = h.parts;
  told = h.told;
  place = is;
  some = some_left rest e f;
  bad = λ mark behind led. let both : None ≡ Some (mark, behind) = none ∙ first_told rest mark behind led in cc both;
}
