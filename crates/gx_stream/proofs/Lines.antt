-- The line that a text begins with.
use Rattle.std.proofs.Common.{◌≡◌, ℕ, zero, suc, eqb, cond, not, ◌+◌, ◌<◌, ◌-◌, ◌≤◌, ◌||◌, ◌&&◌, nat_eq, Bool, true, false, Option, Some, None, [], ◌∷◌, ◌++◌, length, take, drop, get_or, min, refl, sym, ap, ◌∙◌, arith}
use Rattle.std.specs.Option.{unwrap_or}
use Rattle.std.proofs.lemmas.Bool.{false≢true, eqb-true}
use Rattle.std.proofs.lemmas.List.{drop_min, drop-drop, drop-append-le, length-append, length-drop, take_more}
use Rattle.std.proofs.lemmas.Bool.Decides.{nat_tests}
use Rattle.std.proofs.lemmas.List.Folds.{prefix_len-append}
use Rattle.std.proofs.lemmas.List.Sums.{prefix_len-le-length, position_or_len_is, passes_at_first}
use Rattle.memchr.specs.Find.{IsFirstByte, is_byte}
use Rattle.gx_model.specs.Texts.{Bytes}
use Rattle.gx_model.specs.Streams.Items.{is_lf, line_len, has_no_line}
use Rattle.gx_stream.specs.Places.{GoesTo, IsLine}

refuted : (b : Bool) → (b ≡ true → ⊥) → b ≡ false
refuted true h = absurd (h refl)
refuted false h = refl

-- the first LF is where the line ends
pub line_len-found : (text : Bytes) (o : Option ℕ) → IsFirstByte (is_byte 10) text o → unwrap_or o (length text) ≡ line_len text
line_len-found text (Some end) h = sym (position_or_len_is is_lf text end 0 (omega arith) (λ k l. refuted _ (h.0.before k (omega arith) l)) (λ _. h.1))
line_len-found text None h = sym (position_or_len_is is_lf text (length text) 0 (omega arith) (λ k l. refuted _ (h k (omega arith) l)) (λ l. absurd (omega (arith, l))))

-- a line has some bytes, or an LF
pub not_empty : (text : Bytes) (fails : Bool) → has_no_line text fails ≡ false → 0 < length text
not_empty [] fails h = absurd (false≢true (sym h))
not_empty (b ∷ bs) fails h = omega arith

-- what stands after a line and its LF
pub after_line : (text : Bytes) (at n : ℕ) → at ≤ length text → drop (min (at + n + 1) (length text)) text ≡ drop (n + 1) (drop at text)
after_line text at n l = drop_min (at + n + 1) text ∙ ap (λ k. drop k text) (omega arith) ∙ sym (drop-drop (n + 1) at text)

-- a line with its LF
pub line_and_lf : (text : Bytes) → line_len text < length text → take (line_len text + 1) text ≡ take (line_len text) text ++ 10 ∷ []
line_and_lf text l =
    let lf = eqb-true (get_or text (line_len text) 0) 10 (passes_at_first is_lf text 0 l) in
    take_more text (line_len text) 0 l ∙ ap (λ b. take (line_len text) text ++ b ∷ []) lf

-- ---- a line that is known in part

no_test : (n : ℕ) → (nat_eq (suc n) 0 || false) ≡ true → ⊥
no_test n e = absurd (grind (arith, nat_tests))

one_more : (k b : ℕ) (bs : Bytes) → (k ≤ line_len bs → line_len bs ≡ k + line_len (drop k bs)) → (t : Bool) → is_lf b ≡ t → suc k ≤ line_len (b ∷ bs) → line_len (b ∷ bs) ≡ suc k + line_len (drop k bs)
one_more k b bs h true e l = absurd (omega (arith, rw e at l))
one_more k b bs h false e l = rw e (omega (arith, h (omega (arith, rw e at l))))

-- its length, by what stands after the part
pub line_len-from : (k : ℕ) (text : Bytes) → k ≤ line_len text → line_len text ≡ k + line_len (drop k text)
line_len-from zero text l = omega arith
line_len-from (suc k) [] l = absurd (omega (arith, l))
line_len-from (suc k) (b ∷ bs) l = one_more k b bs (line_len-from k bs) (is_lf b) refl l

pub line_len-grows : (text more : Bytes) → line_len text ≤ line_len (text ++ more)
line_len-grows text more =
    let le : line_len text ≤ length text = prefix_len-le-length (λ b. not (is_lf b)) text in
    let either : line_len text ≤ cond (eqb (line_len text) (length text)) (length text + line_len more) (line_len text) = elim (eqb (line_len text) (length text)) as (λ v. line_len text ≤ cond v (length text + line_len more) (line_len text)) [ true ↦ omega (arith, le) | false ↦ omega arith ] in
    rw (prefix_len-append (λ b. not (is_lf b)) text more) either

-- the line at a place, where it is known to go on to another
pub line_at-from : (text : Bytes) (at seen : ℕ) → GoesTo text at seen → line_len (drop at text) ≡ seen - at + line_len (drop seen text)
line_at-from text at seen g =
    let there : at + (seen - at) ≡ seen = omega (arith, g.0) in
    line_len-from (seen - at) (drop at text) (omega (arith, g.2)) ∙ ap (λ t. seen - at + line_len t) (drop-drop (seen - at) at text ∙ ap (λ k. drop k text) there)

pub GoesTo-start : (text : Bytes) (at : ℕ) → at ≤ length text → GoesTo text at at
GoesTo-start text at l = (omega arith, l, omega arith)

-- where no line stands, no LF does up to the end
pub GoesTo-end : (text : Bytes) (fails : Bool) (at : ℕ) → at ≤ length text → has_no_line (drop at text) fails ≡ true → GoesTo text at (length text)
GoesTo-end text fails at l h = (l, omega arith, omega (arith, whole (drop at text) fails h, length-drop at text)) where
  whole : (t : Bytes) (f : Bool) → has_no_line t f ≡ true → length t ≤ line_len t
  whole [] f h = omega arith
  whole (b ∷ bs) true h = grind (arith, nat_tests)
  whole (b ∷ bs) false h = absurd (no_test (length bs) h)

-- more bytes at the end don't change that
pub GoesTo-longer : (text more : Bytes) (at seen : ℕ) → GoesTo text at seen → GoesTo (text ++ more) at seen
GoesTo-longer text more at seen g =
    let rest = drop-append-le at text more (omega (arith, g.0, g.1)) in
    (g.0, omega (arith, g.1, length-append text more), omega (arith, g.2, line_len-grows (drop at text) more, ap line_len rest))

-- nor fewer at the front
pub GoesTo-shorter : (text : Bytes) (n at seen : ℕ) → n ≤ at → GoesTo text at seen → GoesTo (drop n text) (at - n) (seen - n)
GoesTo-shorter text n at seen l g =
    let there : n + (at - n) ≡ at = omega (arith, l) in
    let rest = drop-drop (at - n) n text ∙ ap (λ k. drop k text) there in
    (omega (arith, g.0), omega (arith, g.1, length-drop n text), omega (arith, g.0, g.2, l, ap line_len rest))

-- the line at a place that has one
pub line_is : (text : Bytes) (fails : Bool) (at : ℕ) → at ≤ length text → has_no_line (drop at text) fails ≡ false → IsLine text fails at (record { start = at; end = at + line_len (drop at text); next = min (at + line_len (drop at text) + 1) (length text) })
line_is text fails at l h =
    let rest = drop at text in
    let some = not_empty rest fails h in
    let le : line_len rest ≤ length rest = prefix_len-le-length (λ b. not (is_lf b)) rest in
    let long = length-drop at text in
    let wide : at + line_len rest - at ≡ line_len rest = omega arith in
    record {
      some = h;
      within = (omega arith, omega (arith, le, long, l), omega arith);
      start = refl;
      further = omega (arith, some, long);
      bytes = ap (λ k. take k rest) wide;
      rest = after_line text at (line_len rest) l;
    }

-- whether there is one, and where, by what stands after the part that is known
pub no_line-from : (text : Bytes) (fails : Bool) (at seen : ℕ) → GoesTo text at seen → has_no_line (drop at text) fails ≡ (nat_eq (length text - at) 0 || (fails && nat_eq (seen - at + line_len (drop seen text)) (length text - at)))
no_line-from text fails at seen g =
    ap (λ k. nat_eq k 0 || (fails && nat_eq (line_len (drop at text)) k)) (length-drop at text) ∙ ap (λ k. nat_eq (length text - at) 0 || (fails && nat_eq k (length text - at))) (line_at-from text at seen g)
