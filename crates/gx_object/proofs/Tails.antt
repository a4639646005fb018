-- Headers and a message: what is read stands there, and what stands there is read.
use Rattle.std.proofs.Common.{◌≡◌, ℕ, ◌-◌, ◌<◌, ◌⊎◌, inl, inr, Bool, true, false, cond, not, [], ◌∷◌, ◌++◌, length, take, Option, None, Some, refl, sym, ap, subst, ◌∙◌, arith, append_assoc, append-nil, length-append}
use Rattle.std.specs.Prelude.{codes, nat_eq, ◌&&◌}
use Rattle.std.specs.Option.{option_map}
use Rattle.std.proofs.lemmas.Bool.{and_from, and_parts, eqb-true, false≢true, not-true, not_from_false}
use Rattle.std.proofs.lemmas.List.{take_at}
use Rattle.gx_model.specs.Texts.{Bytes, cut_at, is_line}
use Rattle.gx_model.specs.Texts.Headers.{are_lines}
use Rattle.gx_model.specs.Histories.Values.{is_optional_line}
use Rattle.gx_model.specs.Objects.{line, optional_line}
use Rattle.gx_model.proofs.Texts.Cuts.{cut_spelled, map_some}
use Rattle.gx_wide.specs.WideTexts.{IsTaggerApart, message_text, tail_from, tail_of, with_byte}
use Rattle.gx_object.specs.Lines.{field, or_absent}
use Rattle.gx_object.proofs.Fields.{cut_line, field_again, field_spelled}

-- ---- headers and a message

-- headers that stand before a message, or before nothing
pub record HasTail (is_start : Bool) (bytes : Bytes) (tail : Bytes × Option Bytes) : Type 0 where
  pub parts : bytes ≡ tail.0 ++ message_text tail.1
  pub lines : are_lines is_start tail.0 ≡ true

-- an LF at the front of a line is one of a message
message_first : (s : Bool) (b : ℕ) (bs : Bytes) → (s && nat_eq b 10) ≡ true → HasTail s (b ∷ bs) ([], Some bs)
message_first s b bs h = let p = and_parts s (nat_eq b 10) h in record { parts = ap (λ x. x ∷ bs) (eqb-true b 10 p.1); lines = p.0 }

byte_first : (s : Bool) (b : ℕ) (bs : Bytes) (t : Bytes × Option Bytes) → (s && nat_eq b 10) ≡ false → HasTail (nat_eq b 10) bs t → HasTail s (b ∷ bs) (with_byte b t)
byte_first s b bs t h k = record { parts = ap (λ x. b ∷ x) k.parts; lines = and_from (not (s && nat_eq b 10)) (are_lines (nat_eq b 10) t.0) (not_from_false _ h) k.lines }

pub tail_spelled : (s : Bool) (bytes : Bytes) (t : Bytes × Option Bytes) → tail_from s bytes ≡ Some t → HasTail s bytes t
tail_spelled true [] t e = let is : ([], None) ≡ t = cc in subst (HasTail true []) is (record { parts = refl; lines = refl })
tail_spelled false [] t e = absurd cc
tail_spelled s (b ∷ bs) t e = by (s && nat_eq b 10) refl e (λ q f. tail_spelled (nat_eq b 10) bs q f)
  where
    by : (now : Bool) → (s && nat_eq b 10) ≡ now → cond now (Some ([], Some bs)) (option_map (with_byte b) (tail_from (nat_eq b 10) bs)) ≡ Some t
        → ((q : Bytes × Option Bytes) → tail_from (nat_eq b 10) bs ≡ Some q → HasTail (nat_eq b 10) bs q) → HasTail s (b ∷ bs) t
    by true h f again = let is : ([], Some bs) ≡ t = cc in subst (HasTail s (b ∷ bs)) is (message_first s b bs h)
    by false h f again =
        let q = map_some (with_byte b) (tail_from (nat_eq b 10) bs) t f in
        subst (HasTail s (b ∷ bs)) q.2 (byte_first s b bs q.0 h (again q.0 q.1))

pub tail_again : (s : Bool) (h : Bytes) (m : Option Bytes) → are_lines s h ≡ true → tail_from s (h ++ message_text m) ≡ Some (h, m)
tail_again s [] None e = rw e refl
tail_again s [] (Some m) e = rw e refl
tail_again s (b ∷ h) m e =
    let p = and_parts (not (s && nat_eq b 10)) (are_lines (nat_eq b 10) h) e in
    rw (not-true _ p.0, tail_again (nat_eq b 10) h m p.1) refl

-- ---- the lines before the first empty one

-- bytes before a tail that is read
abbrev pub behind : Bytes → Bytes × Option Bytes → Bytes × Option Bytes
behind front tail = (front ++ tail.0, tail.1)

-- a line that was begun, and what follows it
tail_past : (x rest : Bytes) → is_line x ≡ true → tail_from false (x ++ 10 ∷ rest) ≡ option_map (behind (x ++ 10 ∷ [])) (tail_from true rest)
tail_past [] rest h = refl
tail_past (b ∷ x) rest h =
    let p = and_parts (not (nat_eq b 10)) (is_line x) h in
    rw (not-true _ p.0, tail_past x rest p.1) (both (tail_from true rest))
  where
    both : (o : Option (Bytes × Option Bytes)) → option_map (with_byte b) (option_map (behind (x ++ 10 ∷ [])) o) ≡ option_map (behind (b ∷ x ++ 10 ∷ [])) o
    both None = refl
    both (Some t) = refl

-- a line that isn't empty, and what follows it
pub tail_next : (b : ℕ) (x rest : Bytes) → is_line (b ∷ x) ≡ true → tail_from true ((b ∷ x) ++ 10 ∷ rest) ≡ option_map (behind ((b ∷ x) ++ 10 ∷ [])) (tail_from true rest)
tail_next b x rest h =
    let p = and_parts (not (nat_eq b 10)) (is_line x) h in
    rw (not-true _ p.0, tail_past x rest p.1) (both (tail_from true rest))
  where
    both : (o : Option (Bytes × Option Bytes)) → option_map (with_byte b) (option_map (behind (x ++ 10 ∷ [])) o) ≡ option_map (behind (b ∷ x ++ 10 ∷ [])) o
    both None = refl
    both (Some t) = refl

-- ---- which line stands first

-- what headers begin with, where a text that begins with them begins with a line
lines_front : (s : Bool) (h e w r : Bytes) → are_lines s h ≡ true → is_line w ≡ true → h ++ e ≡ w ++ (10 ∷ r) → (h ≡ []) ⊎ ((t : Bytes) × (h ≡ w ++ (10 ∷ t)))
lines_front s [] e w r a l p = inl refl
lines_front s (b ∷ bs) e [] r a l p = let first : b ≡ 10 = cc in inr (bs, ap (λ x. x ∷ bs) first)
lines_front s (b ∷ bs) e (c ∷ w) r a l p =
    let first : b ≡ c = cc in
    let others : bs ++ e ≡ w ++ (10 ∷ r) = cc in
    let word = and_parts (not (nat_eq c 10)) (is_line w) l in
    let more = and_parts (not (s && nat_eq b 10)) (are_lines (nat_eq b 10) bs) a in
    let no : nat_eq b 10 ≡ false = ap (λ x. nat_eq x 10) first ∙ not-true _ word.0 in
    let within = subst (λ t. are_lines t bs ≡ true) no more.1 in
    elim (lines_front false bs e w r within word.1 others) [
      | inl none ↦ absurd (false≢true (subst (λ t. are_lines false t ≡ true) none within))
      | inr found ↦ inr (found.0, λ i. first i ∷ found.1 i)
    ]

line_ahead : (word x r : Bytes) → line word x ++ r ≡ (word ++ 32 ∷ x) ++ (10 ∷ r)
line_ahead word x r = simp append_assoc

-- a message begins with no word
no_message_word : (b : ℕ) (w r : Bytes) (m : Option Bytes) → nat_eq b 10 ≡ false → message_text m ≡ b ∷ (w ++ (10 ∷ r)) → ⊥
no_message_word b w r None h e = cc
no_message_word b w r (Some m) h e = let same : 10 ≡ b = cc in false≢true (sym h ∙ ap (λ x. nat_eq x 10) (sym same))

-- ---- taggers

-- where no tagger is read, none stands first among the headers
pub tagger_apart : (o : Option (Bytes × Bytes)) (bytes : Bytes) (t : Bytes × Option Bytes) → field (codes "tagger") bytes ≡ o → HasTail true (or_absent o bytes).1 t
    → IsTaggerApart (or_absent o bytes).0 t.0
tagger_apart (Some q) bytes t e h = tt
tagger_apart None bytes t e h = λ x rest is first.
    let whole : bytes ≡ line (codes "tagger") x ++ (rest ++ message_text t.1) =
    h.parts ∙ ap (λ y. y ++ message_text t.1) first ∙ append_assoc (line (codes "tagger") x) rest (message_text t.1) in
    let read = ap (field (codes "tagger")) whole ∙ field_again (codes "tagger") x (rest ++ message_text t.1) is in
    cc

tagger_none : (h : Bytes) (m : Option Bytes) → are_lines true h ≡ true → IsTaggerApart None h → field (codes "tagger") (h ++ message_text m) ≡ None
tagger_none h m lines apart = by (field (codes "tagger") (h ++ message_text m)) refl
  where
    by : (o : Option (Bytes × Bytes)) → field (codes "tagger") (h ++ message_text m) ≡ o → field (codes "tagger") (h ++ message_text m) ≡ None
    by None e = e
    by (Some q) e =
        let found = field_spelled (codes "tagger") (h ++ message_text m) q e in
        let whole : h ++ message_text m ≡ (codes "tagger" ++ 32 ∷ q.0) ++ (10 ∷ q.1) = found.parts ∙ line_ahead (codes "tagger") q.0 q.1 in
        elim (lines_front true h (message_text m) (codes "tagger" ++ 32 ∷ q.0) q.1 lines found.rest whole) [
          | inl none ↦
              let alone : message_text m ≡ (codes "tagger" ++ 32 ∷ q.0) ++ (10 ∷ q.1) = ap (λ y. y ++ message_text m) (sym none) ∙ whole in
              absurd (no_message_word 116 (codes "agger" ++ 32 ∷ q.0) q.1 m refl alone)
          | inr first ↦ absurd (apart q.0 first.0 found.rest (first.1 ∙ sym (line_ahead (codes "tagger") q.0 first.0)))
        ]

pub tagger_again : (o : Option Bytes) (h : Bytes) (m : Option Bytes) → is_optional_line o ≡ true → are_lines true h ≡ true → IsTaggerApart o h
    → or_absent (field (codes "tagger") (optional_line (codes "tagger") o ++ (h ++ message_text m))) (optional_line (codes "tagger") o ++ (h ++ message_text m)) ≡ (o, h ++ message_text m)
tagger_again None h m is lines apart = ap (λ o. or_absent o (h ++ message_text m)) (tagger_none h m lines apart)
tagger_again (Some x) h m is lines apart = ap (λ o. or_absent o (line (codes "tagger") x ++ (h ++ message_text m))) (field_again (codes "tagger") x (h ++ message_text m) is)

-- ---- line by line

-- lines that aren't empty stand before what is left, and are read as further headers
pub record IsAhead (bytes rest : Bytes) : Type 0 where
  pub front : Bytes
  pub parts : bytes ≡ front ++ rest
  pub read : tail_of bytes ≡ option_map (behind front) (tail_of rest)

pub none_ahead : (bytes : Bytes) → IsAhead bytes bytes
none_ahead bytes = record { front = []; parts = refl; read = same (tail_of bytes) }
  where
    same : (o : Option (Bytes × Option Bytes)) → o ≡ option_map (behind []) o
    same None = refl
    same (Some t) = refl

-- a line more
tail_step : (rest line after : Bytes) → rest ≡ line ++ 10 ∷ after → is_line line ≡ true → 0 < length line → tail_of rest ≡ option_map (behind (line ++ 10 ∷ [])) (tail_of after)
tail_step rest [] after e l p = absurd (omega (arith, p))
tail_step rest (b ∷ x) after e l p = ap tail_of e ∙ tail_next b x after l

both_ahead : (front line : Bytes) (o : Option (Bytes × Option Bytes)) → option_map (behind front) (option_map (behind line) o) ≡ option_map (behind (front ++ line)) o
both_ahead front line None = refl
both_ahead front line (Some t) = ap (λ (x : Bytes). Some (x, t.1)) (sym (append_assoc front line t.0))

pub more_ahead : (bytes rest line after : Bytes) → IsAhead bytes rest → cut_at 10 rest ≡ Some (line, after) → 0 < length line → IsAhead bytes after
more_ahead bytes rest line after h e p =
    let spelled = cut_spelled 10 rest (line, after) e in
    let end : line ++ 10 ∷ after ≡ (line ++ 10 ∷ []) ++ after = simp append_assoc in
    record {
      front = h.front ++ (line ++ 10 ∷ []);
      parts = h.parts ∙ ap (λ x. h.front ++ x) (spelled ∙ end) ∙ sym (append_assoc h.front (line ++ 10 ∷ []) after);
      read = h.read ∙ ap (option_map (behind h.front)) (tail_step rest line after spelled (cut_line rest (line, after) e) p) ∙ both_ahead h.front (line ++ 10 ∷ []) (tail_of after);
    }

-- what is ahead of what is left
pub ahead_is : (bytes rest : Bytes) (h : IsAhead bytes rest) → take (length bytes - length rest) bytes ≡ h.front
ahead_is bytes rest h =
    let long = ap length h.parts ∙ length-append h.front rest in
    let place : length bytes - length rest ≡ length h.front = omega (arith, long) in
    ap (λ n. take n bytes) place ∙ ap (take (length h.front)) h.parts ∙ take_at h.front rest (length h.front) refl

-- an empty line ends the headers
pub empty_line : (bytes rest line after : Bytes) → IsAhead bytes rest → cut_at 10 rest ≡ Some (line, after) → length line ≡ 0
    → tail_of bytes ≡ Some (take (length bytes - length rest) bytes, Some after)
empty_line bytes rest [] after h e p =
    let spelled = cut_spelled 10 rest ([], after) e in
    h.read ∙ ap (λ x. option_map (behind h.front) (tail_of x)) spelled ∙ ap (λ (x : Bytes). Some (x, Some after)) (append-nil h.front ∙ sym (ahead_is bytes rest h))
empty_line bytes rest (b ∷ line) after h e p = absurd (omega (arith, p))

-- nothing is left: there is no message
pub nothing_left : (bytes rest : Bytes) → IsAhead bytes rest → length rest ≡ 0 → tail_of bytes ≡ Some (bytes, None)
nothing_left bytes [] h e =
    let all = h.parts ∙ append-nil h.front in
    h.read ∙ ap (λ (x : Bytes). Some (x, None)) (append-nil h.front ∙ sym all)
nothing_left bytes (b ∷ rest) h e = absurd (omega (arith, e))

-- a line without an end
unended : (s : Bool) (x : Bytes) → cut_at 10 x ≡ None → (s ≡ true → 0 < length x) → tail_from s x ≡ None
unfolding cut_at
unended true [] e p = absurd (let some = p refl in omega (arith, some))
unended false [] e p = refl
unended s (b ∷ x) e p = by (nat_eq b 10) refl e (λ f. unended false x f (λ q. absurd (false≢true q)))
  where
    by : (t : Bool) → nat_eq b 10 ≡ t → cond {A = Option (Bytes × Bytes)} t (Some ([], x)) (option_map (λ p. (b ∷ p.0, p.1)) (cut_at 10 x)) ≡ None → (cut_at 10 x ≡ None → tail_from false x ≡ None) → tail_from s (b ∷ x) ≡ None
    by true h f again = absurd cc
    by false h f again = rw (h, no s, again (none_of (cut_at 10 x) f)) refl
      where
        no : (s : Bool) → (s && false) ≡ false
        no true = refl
        no false = refl

        none_of : (o : Option (Bytes × Bytes)) → option_map {U = Bytes × Bytes} (λ p. (b ∷ p.0, p.1)) o ≡ None → o ≡ None
        none_of None g = refl
        none_of (Some p) g = absurd cc

pub no_end : (bytes rest : Bytes) → IsAhead bytes rest → cut_at 10 rest ≡ None → 0 < length rest → tail_of bytes ≡ None
no_end bytes rest h e p = h.read ∙ ap (option_map (behind h.front)) (unended true rest e (λ _. p))
