-- The lines that are lost, one item after the other.
use Rattle.std.proofs.Common.{◌≡◌, Bool, true, false, cond, not, ◌&&◌, ◌||◌, List, [], ◌∷◌, ◌++◌, append_assoc, append-nil, refl, sym, ap, ◌∙◌}
use Rattle.gx_model.specs.Texts.{Bytes}
use Rattle.gx_model.specs.Streams.Items.{Item, Line, Data}
use Rattle.gx_adapt.specs.Adapting.{KeepsReset, Loses, texts_of}
use Rattle.gx_adapt.specs.Lines.{behind_line, changes_marks, is_null_from, is_reset, is_reset_line, is_signature_line}
use Rattle.gx_adapt.specs.Streams.{behind_of, course_of, is_lost, lost_at, lost_from, lost_line, lost_lines, start, text_of}
use Rattle.gx_adapt.specs.declared.course.Course.{Course}
use Rattle.gx_adapt.specs.declared.losses.Losses.{Losses}
use Rattle.gx_adapt.specs.declared.lot.Behind.{Behind}
use Rattle.gx_adapt.specs.declared.lot.Behind.TheVariants.{Reset, Signature, Other}
use Rattle.gx_adapt.proofs.Counts.{after_of}

-- the line of the last of these items, or this one
abbrev pub last_of : Bytes → List Item → Bytes
last_of before [] = before
last_of before (i ∷ is) = last_of (text_of i) is

last-push : (t : Bytes) (xs : List Item) (i : Item) → last_of t (xs ++ i ∷ []) ≡ text_of i
last-push t [] i = refl
last-push t (x ∷ xs) i = last-push (text_of x) xs i

lost-push : (t : Bytes) (c : Course) (xs : List Item) (i : Item) → lost_from t c (xs ++ i ∷ []) ≡ lost_from t c xs ++ lost_at (last_of t xs) (after_of c xs) i
lost-push t c [] i = append-nil (lost_at t c i)
lost-push t c (x ∷ xs) i = ap (λ ls. lost_at t c x ++ ls) (lost-push (text_of x) (course_of c x) xs i) ∙ sym (append_assoc (lost_at t c x) (lost_from (text_of x) (course_of c x) xs) (lost_at (last_of (text_of x) xs) (after_of (course_of c x) xs) i))

-- the lost lines of these items are held, and the reset that is the last of them
pub record StandsLost {A : Type 0} (front : List Item) (course : Course) (losses : Losses A) : Type 0 where
  pub lines : texts_of losses.lines ≡ lost_lines front
  pub reset : is_reset course.behind ≡ true → losses.reset.items ≡ last_of [] front

-- which line tells of a lost one
same_line : (reset last : Bytes) (c : Course) → (is_reset c.behind ≡ true → reset ≡ last) → (i : Item) → lost_at reset c i ≡ lost_at last c i
same_line reset last c h (Data x) = refl
same_line reset last c h (Line l) = by c.done (changes_marks l) (is_reset c.behind) h (is_null_from l) where
  by : (d m r : Bool) → (r ≡ true → reset ≡ last) → (n : Bool) → cond (not d && (m || (r && n))) (cond m l reset ∷ []) [] ≡ cond (not d && (m || (r && n))) (cond m l last ∷ []) []
  by true m r h n = refl
  by false true r h n = refl
  by false false true h true = ap (λ t. t ∷ []) (h refl)
  by false false true h false = refl
  by false false false h n = refl

is_reset_behind : (l : Bytes) → is_reset (behind_line l) ≡ true → is_reset_line l ≡ true
is_reset_behind l = by (is_reset_line l) (is_signature_line l) where
  by : (r s : Bool) → is_reset (cond r Reset (cond s Signature Other)) ≡ true → r ≡ true
  by true s e = refl
  by false true e = e
  by false false e = e

-- before a stream nothing is lost
pub lost-none : {A : Type 0} (losses : Losses A) → texts_of losses.lines ≡ [] → StandsLost [] start losses
lost-none losses e = record { lines = e; reset = λ f. absurd (cc f) }

pub lost-item : {A : Type 0} (front : List Item) (c : Course) (i : Item) (was is : Losses A) → c ≡ after_of start front → StandsLost front c was → Loses c i was is → StandsLost (front ++ i ∷ []) (course_of c i) is
lost-item front c i was is at s k = record {
  lines = k.lines ∙ ap (λ ls. ls ++ lost_at was.reset.items c i) s.lines ∙ ap (λ ls. lost_lines front ++ ls) (same_line was.reset.items (last_of [] front) c s.reset i)
      ∙ ap (λ b. lost_lines front ++ lost_at (last_of [] front) b i) at ∙ sym (lost-push [] start front i);
  reset = λ e. by i k.reset e ∙ sym (last-push [] front i);
} where
  by : (i : Item) → KeepsReset i is.reset.items → is_reset (behind_of i) ≡ true → is.reset.items ≡ text_of i
  by (Line l) h e = h (is_reset_behind l e)
  by (Data x) h e = absurd (cc e)
