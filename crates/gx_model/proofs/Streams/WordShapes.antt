-- The word of a line, and its parts up to a space, are those that a cut gives.
use Rattle.std.proofs.Common.{◌≡◌, ◌⊎◌, inl, inr, ℕ, Bool, true, false, cond, eqb, Option, Some, None, List, [], ◌∷◌, ◌++◌, refl, sym, ap, ◌∙◌}
use Rattle.std.specs.Option.{option_map}
use Rattle.std.specs.List.{list_all}
use Rattle.std.specs.Str.{bytes_eq}
use Rattle.std.proofs.lemmas.Bool.{false≢true, eqb-true}
use Rattle.std.proofs.lemmas.Slice.Eq.{bytes_eq-Decides}
use Rattle.gx_model.specs.Texts.{Bytes, cut_at, lacks}
use Rattle.gx_model.specs.Streams.Lines.{words_of, words_by, is_word}
use Rattle.gx_model.specs.Streams.LineShapes.{line_of, IsOf, IsOfNone, IsOfOne, IsOneOf, BeginsPart}
use Rattle.gx_model.proofs.Texts.Idents.{and_one, and_two}
use Rattle.gx_model.proofs.Texts.Cuts.{lacks-cons}
use Rattle.gx_model.proofs.Streams.ChangeItems.{words_at}
use Rattle.gx_model.proofs.Streams.Readings.{refuted}

-- two texts are equal or differ
pub same : (x y : Bytes) → (x ≡ y) ⊎ (x ≡ y → ⊥)
same x y = by (bytes_eq x y) refl where
  by : (t : Bool) → bytes_eq x y ≡ t → (x ≡ y) ⊎ (x ≡ y → ⊥)
  by true e = inl ((bytes_eq-Decides x y).0 e)
  by false e = inr (λ h. false≢true (sym e ∙ (bytes_eq-Decides x y).1 h))

pub differs : (x y : Bytes) → (x ≡ y → ⊥) → bytes_eq x y ≡ false
differs x y h = refuted (bytes_eq x y) (λ e. h ((bytes_eq-Decides x y).0 e))

-- a test holds or doesn't
pub tested : (t : Bool) → (t ≡ true) ⊎ (t ≡ true → ⊥)
tested true = inl refl
tested false = inr false≢true

-- what a cut gives
abbrev pub Cut : ℕ → Bytes → Option (Bytes × Bytes) → Type 0
Cut c bs None = lacks c bs ≡ true
Cut c bs (Some p) = (lacks c p.0 ≡ true) × (bs ≡ p.0 ++ c ∷ p.1)

pub cut_is : (c : ℕ) (bs : Bytes) → Cut c bs (cut_at c bs)
unfolding cut_at
cut_is c [] = refl
cut_is c (b ∷ bs) = step (eqb b c) refl (cut_at c bs) (cut_is c bs) where
  step : (t : Bool) → eqb b c ≡ t → (o : Option (Bytes × Bytes)) → Cut c bs o → Cut c (b ∷ bs) (cond t (Some ([], bs)) (option_map (λ p. (b ∷ p.0, p.1)) o))
  step true e o h = (refl, ap (λ x. x ∷ bs) (eqb-true b c e))
  step false e None h = rw e h
  step false e (Some p) h = (rw e h.0, ap (λ x. b ∷ x) h.1)

pub cut_none : (c : ℕ) (bs : Bytes) → lacks c bs ≡ true → cut_at c bs ≡ None
unfolding cut_at
cut_none c [] h = refl
cut_none c (b ∷ bs) h = let p = lacks-cons c b bs h in rw (p.0, cut_none c bs p.1) refl

pub word_alone : (word : Bytes) → lacks 32 word ≡ true → words_of word ≡ record { word = word; rest = None }
word_alone word h = ap (words_by word) (cut_none 32 word h)

pub word_with : (word text : Bytes) → lacks 32 word ≡ true → words_of (line_of word text) ≡ record { word = word; rest = Some text }
word_with word text h = words_at word text h

-- ---- parts

pub part_read : (text part : Bytes) (more : Option Bytes) → BeginsPart text part more → words_of text ≡ record { word = part; rest = more }
part_read text part None h = ap words_of h.1 ∙ word_alone part h.0
part_read text part (Some more) h = ap words_of h.1 ∙ word_with part more h.0

pub part_there : (text : Bytes) → (part : Bytes) × (more : Option Bytes) × BeginsPart text part more
part_there text = by (cut_at 32 text) (cut_is 32 text) where
  by : (o : Option (Bytes × Bytes)) → Cut 32 text o → (part : Bytes) × (more : Option Bytes) × BeginsPart text part more
  by None h = (text, None, (h, refl))
  by (Some p) h = (p.0, Some p.1, h)

-- ---- words

-- no line of this word
pub other_word : (word line : Bytes) → (IsOf word line → ⊥) → is_word (words_of line) word ≡ false
other_word word line h = by (cut_at 32 line) (cut_is 32 line) where
  by : (o : Option (Bytes × Bytes)) → Cut 32 line o → is_word (words_by line o) word ≡ false
  by None c = differs line word (λ e. h (inl e))
  by (Some p) c = differs p.0 word (λ e. h (inr (p.1, c.1 ∙ ap (λ w. w ++ 32 ∷ p.1) e)))

-- a line of this word
pub its_word : (word line : Bytes) → lacks 32 word ≡ true → IsOf word line → is_word (words_of line) word ≡ true
its_word word line l (inl e) = ap (λ x. is_word x word) (ap words_of e ∙ word_alone word l) ∙ (bytes_eq-Decides word word).1 refl
its_word word line l (inr h) = ap (λ x. is_word x word) (ap words_of h.1 ∙ word_with word h.0 l) ∙ (bytes_eq-Decides word word).1 refl

pub is_of : (word line : Bytes) → lacks 32 word ≡ true → IsOf word line ⊎ (IsOf word line → ⊥)
is_of word line l = by (cut_at 32 line) (cut_is 32 line) refl where
  none : is_word (words_of line) word ≡ false → IsOf word line ⊎ (IsOf word line → ⊥)
  none e = inr (λ h. false≢true (sym e ∙ its_word word line l h))

  by : (o : Option (Bytes × Bytes)) → Cut 32 line o → cut_at 32 line ≡ o → IsOf word line ⊎ (IsOf word line → ⊥)
  by None c e = alone (same line word) where
    alone : (line ≡ word) ⊎ (line ≡ word → ⊥) → IsOf word line ⊎ (IsOf word line → ⊥)
    alone (inl s) = inl (inl s)
    alone (inr n) = none (ap (λ o. is_word (words_by line o) word) e ∙ differs line word n)
  by (Some p) c e = with_text (same p.0 word) where
    with_text : (p.0 ≡ word) ⊎ (p.0 ≡ word → ⊥) → IsOf word line ⊎ (IsOf word line → ⊥)
    with_text (inl s) = inl (inr (p.1, c.1 ∙ ap (λ w. w ++ 32 ∷ p.1) s))
    with_text (inr n) = none (ap (λ o. is_word (words_by line o) word) e ∙ differs p.0 word n)

-- a line of one of these words, or of none
pub which_word : (words : List Bytes) (line : Bytes) → list_all (lacks 32) words ≡ true → IsOfOne words line ⊎ IsOfNone words line
which_word [] line l = inr tt
which_word (word ∷ words) line l = by (is_of word line (and_one (lacks 32 word) _ l)) (which_word words line (and_two (lacks 32 word) _ l)) where
  by : IsOf word line ⊎ (IsOf word line → ⊥) → IsOfOne words line ⊎ IsOfNone words line → IsOfOne (word ∷ words) line ⊎ IsOfNone (word ∷ words) line
  by (inl h) o = inl (inl h)
  by (inr n) (inl h) = inl (inr h)
  by (inr n) (inr m) = inr (n, m)

-- ---- the empty line

abbrev pub is_some : Bytes → Bool
is_some [] = false
is_some (b ∷ bs) = true

pub blank_is_none : (words : List Bytes) → list_all is_some words ≡ true → IsOneOf words [] → ⊥
blank_is_none [] l h = h
blank_is_none ([] ∷ words) l h = false≢true l
blank_is_none ((b ∷ bs) ∷ words) l (inl e) = absurd cc
blank_is_none ((b ∷ bs) ∷ words) l (inr h) = blank_is_none words l h

pub blank_is_of_none : (words : List Bytes) → list_all is_some words ≡ true → IsOfOne words [] → ⊥
blank_is_of_none [] l h = h
blank_is_of_none ([] ∷ words) l h = false≢true l
blank_is_of_none ((b ∷ bs) ∷ words) l (inl (inl e)) = absurd cc
blank_is_of_none ((b ∷ bs) ∷ words) l (inl (inr (text, e))) = absurd cc
blank_is_of_none ((b ∷ bs) ∷ words) l (inr h) = blank_is_of_none words l h

pub blank_has_no_text : (word text : Bytes) → [] ≡ line_of word text → ⊥
blank_has_no_text [] text e = absurd cc
blank_has_no_text (b ∷ bs) text e = absurd cc
