-- A text tells one list of marks, or has one first line that tells none; and what is written of marks tells these.
use Rattle.std.proofs.Common.{◌≡◌, ℕ, suc, ◌+◌, refl, sym, ap, subst, ◌∙◌, List, [], ◌∷◌, ◌++◌, length, append_assoc, Some}
use Rattle.gx_model.specs.Export.{mark_text}
use Rattle.gx_model.specs.Objects.{hex}
use Rattle.gx_model.specs.Texts.{Bytes}
use Rattle.gx_model.proofs.Stores.StoreTexts.{line_text}
use Rattle.gx_marks.specs.MarkLaws.{MarksAreRead, OneReading}
use Rattle.gx_marks.specs.Marks.{IsFirstBad, LeadsWith, NumberedName, TellMarks, marks_text}
use Rattle.gx_marks.proofs.MarkLines.{first_told, written_tells}

-- ---- one reading

abbrev First : Type 0
First = NumberedName × Bytes

some_is : {x y : First} → Some x ≡ Some y → x ≡ y
some_is e = cc e

-- one mark leads a text, and one text follows its line
one_first : (text : Bytes) (a b : NumberedName) (r s : Bytes) → LeadsWith text a r → LeadsWith text b s → ◌≡◌ {A = First} (a, r) (b, s)
one_first text a b r s h k = some_is (sym (first_told text a r h) ∙ first_told text b s k)

-- a text that a line leads isn't empty
not_empty : (text : Bytes) (mark : NumberedName) (rest : Bytes) → LeadsWith text mark rest → text ≡ [] → ⊥
not_empty text mark rest h e = by h.0 (sym e ∙ h.1)
  where
    by : (told : Bytes) → ◌≡◌ {A = Bytes} [] (told ++ 10 ∷ rest) → ⊥
    by [] f = cc f
    by (x ∷ told) f = cc f

-- a line that leads a front leads the whole
leads_whole : (front : Bytes) (mark : NumberedName) (rest more : Bytes) → LeadsWith front mark rest → LeadsWith (front ++ more) mark (rest ++ more)
leads_whole front mark rest more h = (h.0, ap (λ f. f ++ more) h.1 ∙ append_assoc h.0 (10 ∷ rest) more, h.2)

told_once : (text : Bytes) (marks others : List NumberedName) → TellMarks text marks → TellMarks text others → marks ≡ others
told_once text [] [] h k = refl
told_once text [] (b ∷ others) h k = absurd (not_empty text b k.0 k.1 h)
told_once text (a ∷ marks) [] h k = absurd (not_empty text a h.0 h.1 k)
told_once text (a ∷ marks) (b ∷ others) h k =
    let same = one_first text a b h.0 k.0 h.1 k.1 in
    let rest = told_once k.0 marks others (subst (λ r. TellMarks r marks) (ap (λ (p : First). p.1) same) h.2) k.2 in
    λ i. (same i).0 ∷ rest i

-- what is told behind a front that tells marks
told_behind : (front rest : Bytes) (marks all : List NumberedName) → TellMarks front marks → TellMarks (front ++ rest) all → (left : List NumberedName) × TellMarks rest left
told_behind front rest [] all h k = (all, subst (λ f. TellMarks (f ++ rest) all) h k)
told_behind front rest (a ∷ marks) [] h k = absurd (not_empty (front ++ rest) a (h.0 ++ rest) (leads_whole front a h.0 rest h.1) k)
told_behind front rest (a ∷ marks) (b ∷ all) h k =
    let same = one_first (front ++ rest) a b (h.0 ++ rest) k.0 (leads_whole front a h.0 rest h.1) k.1 in
    told_behind h.0 rest marks all h.2 (subst (λ r. TellMarks r all) (sym (ap (λ (p : First). p.1) same)) k.2)

not_led : (text : Bytes) (marks : List NumberedName) → (text ≡ [] → ⊥) → ((mark : NumberedName) (behind : Bytes) → LeadsWith text mark behind → ⊥) → TellMarks text marks → ⊥
not_led text [] some bad h = some h
not_led text (a ∷ marks) some bad h = bad a h.0 h.1

told_not_bad : (text : Bytes) (marks : List NumberedName) (number : ℕ) → TellMarks text marks → IsFirstBad text number → ⊥
told_not_bad text marks number h k =
    let left = told_behind k.front k.rest k.marks marks k.told (subst (λ t. TellMarks t marks) k.parts h) in
    not_led k.rest left.0 k.some k.bad left.1

-- no line of a mark leads a text
abbrev NoneLeads : Bytes → Type 0
NoneLeads text = (mark : NumberedName) (behind : Bytes) → LeadsWith text mark behind → ⊥

-- two fronts of one text that tell marks, behind each of which none is told, tell as many
as_many : (f g r s : Bytes) (marks others : List NumberedName) → TellMarks f marks → TellMarks g others → f ++ r ≡ g ++ s → NoneLeads r → NoneLeads s → length marks ≡ length others
as_many f g r s [] [] h k e m n = refl
as_many f g r s [] (b ∷ others) h k e m n =
    let is : r ≡ g ++ s = sym (ap (λ x. x ++ r) h) ∙ e in
    absurd (m b (k.0 ++ s) (subst (λ x. LeadsWith x b (k.0 ++ s)) (sym is) (leads_whole g b k.0 s k.1)))
as_many f g r s (a ∷ marks) [] h k e m n =
    let is : s ≡ f ++ r = sym (ap (λ x. x ++ s) k) ∙ sym e in
    absurd (n a (h.0 ++ r) (subst (λ x. LeadsWith x a (h.0 ++ r)) (sym is) (leads_whole f a h.0 r h.1)))
as_many f g r s (a ∷ marks) (b ∷ others) h k e m n =
    let led = subst (λ x. LeadsWith x a (h.0 ++ r)) e (leads_whole f a h.0 r h.1) in
    let same = one_first (g ++ s) a b (h.0 ++ r) (k.0 ++ s) led (leads_whole g b k.0 s k.1) in
    ap suc (as_many h.0 k.0 r s marks others h.2 k.2 (ap (λ (p : First). p.1) same) m n)

one_bad : (text : Bytes) (number other : ℕ) → IsFirstBad text number → IsFirstBad text other → number ≡ other
one_bad text number other h k =
    let same = as_many h.front k.front h.rest k.rest h.marks k.marks h.told k.told (sym h.parts ∙ k.parts) h.bad k.bad in
    h.place ∙ ap (λ n. n + 1) same ∙ sym k.place

pub one_reading : OneReading
one_reading text = (told_once text, told_not_bad text, one_bad text)

-- ---- what is written

pub marks_are_read : MarksAreRead
marks_are_read [] h = refl
marks_are_read (mark ∷ marks) h = (
  marks_text marks,
  (
    mark_text mark.0 ++ 32 ∷ hex mark.1,
    sym (line_text (mark_text mark.0) (hex mark.1) (marks_text marks)),
    written_tells mark h.0.0.0 h.0.0.1 h.0.1,
  ),
  marks_are_read marks h.1,
)
