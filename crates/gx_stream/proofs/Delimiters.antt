-- The lines of a block up to its delimiter, one line after another.
use Rattle.std.proofs.Common.{◌≡◌, ℕ, zero, suc, ◌+◌, ◌-◌, ◌<◌, ◌≤◌, Bool, true, false, cond, Option, Some, None, [], ◌∷◌, ◌++◌, length, take, drop, refl, sym, ap, ◌∙◌, arith, slice_range, append_assoc, append-nil}
use Rattle.std.specs.Str.{bytes_eq}
use Rattle.std.proofs.Math.Seq.{take-add}
use Rattle.std.proofs.Math.Logic.{⊎_elim}
use Rattle.std.proofs.lemmas.Bool.{cases_lt}
use Rattle.std.proofs.lemmas.List.{drop_all, drop-drop, drop-append-le, take-append-le, length-append, length-drop}
use Rattle.gx_model.specs.Texts.{Bytes}
use Rattle.gx_model.specs.Streams.Items.{line_len, has_no_line, with_line, lines_before}
use Rattle.gx_stream.specs.Places.{IsLine, AreLinesAt, GoesOn, Searched, before, behind, bytes_at}
use Rattle.gx_stream.specs.declared.places.Place.{Place}
use Rattle.gx_stream.proofs.Longer.{nothing_more, goes_on_line}
use Rattle.gx_stream.proofs.Lines.{not_empty, line_and_lf}

pub no_line : (n : ℕ) (d text : Bytes) (fails : Bool) → has_no_line text fails ≡ true → lines_before (suc n) d text fails ≡ None
unfolding lines_before
no_line n d text fails h = rw h refl

pub its_line : (n : ℕ) (d text : Bytes) (fails : Bool) → has_no_line text fails ≡ false → bytes_eq (take (line_len text) text) d ≡ true → lines_before (suc n) d text fails ≡ Some ([], drop (line_len text + 1) text)
unfolding lines_before
its_line n d text fails h e = rw (h, e) refl

other_line : (n : ℕ) (d text : Bytes) (fails : Bool) → has_no_line text fails ≡ false → bytes_eq (take (line_len text) text) d ≡ false → lines_before (suc n) d text fails ≡ with_line (take (line_len text) text) (lines_before n d (drop (line_len text + 1) text) fails)
unfolding lines_before
other_line n d text fails h e = rw (h, e) refl

nothing_before : (n : ℕ) (d : Bytes) (fails : Bool) → lines_before n d [] fails ≡ None
unfolding lines_before
nothing_before zero d fails = refl
nothing_before (suc n) d fails = refl

same_cond : {A : Type 0} (b c : Bool) (x y v w : A) → (b ≡ false → c ≡ false → v ≡ w) → cond b x (cond c y v) ≡ cond b x (cond c y w)
same_cond true c x y v w h = refl
same_cond false true x y v w h = refl
same_cond false false x y v w h = h refl refl

-- enough is enough
lines_before-same : (n m : ℕ) (d text : Bytes) (fails : Bool) → length text < n → length text < m → lines_before n d text fails ≡ lines_before m d text fails
unfolding lines_before
lines_before-same zero m d text fails l k = absurd (omega (arith, l))
lines_before-same (suc n) zero d text fails l k = absurd (omega (arith, k))
lines_before-same (suc n) (suc m) d text fails l k =
    same_cond (has_no_line text fails) (bytes_eq (take (line_len text) text) d) _ _ _ _ (λ h e.
    let some = not_empty text fails h in
    let less = length-drop (line_len text + 1) text in
    ap (with_line (take (line_len text) text)) (lines_before-same n m d (drop (line_len text + 1) text) fails (omega (arith, some, less, l)) (omega (arith, some, less, k))))

behind-none : (o : Option (Bytes × Bytes)) → behind [] o ≡ o
behind-none None = refl
behind-none (Some p) = refl

behind-more : (xs ys : Bytes) (o : Option (Bytes × Bytes)) → behind xs (behind ys o) ≡ behind (xs ++ ys) o
behind-more xs ys None = refl
behind-more xs ys (Some p) = ap (λ bs. Some (bs, p.1)) (sym (append_assoc xs ys p.0))

with_line-behind : (l : Bytes) (o : Option (Bytes × Bytes)) → with_line l o ≡ behind (l ++ 10 ∷ []) o
with_line-behind l None = refl
with_line-behind l (Some p) = ap (λ bs. Some (bs, p.1)) (sym (append_assoc l (10 ∷ []) p.0))

-- one line that isn't the delimiter, with its LF; where it has none, no delimiter comes
pub past_line : (d text : Bytes) (fails : Bool) (n : ℕ) → has_no_line text fails ≡ false → bytes_eq (take (line_len text) text) d ≡ false → n ≤ length text → drop n text ≡ drop (line_len text + 1) text → lines_before (suc (length text)) d text fails ≡ behind (take n text) (lines_before (suc (length (drop n text))) d (drop n text) fails)
past_line d text fails n h e l rest =
    let some = not_empty text fails h in
    let less = length-drop (line_len text + 1) text in
    let left = length-drop n text in
    let step = other_line (length text) d text fails h e in
    let fuel = lines_before-same (length text) (suc (length (drop n text))) d (drop (line_len text + 1) text) fails (omega (arith, some, less)) (omega (arith, ap length rest)) in
    let along = step ∙ ap (with_line (take (line_len text) text)) (fuel ∙ ap (λ t. lines_before (suc (length (drop n text))) d t fails) (sym rest)) in
    let o = lines_before (suc (length (drop n text))) d (drop n text) fails in
    ⊎_elim
    (λ lt.
    let same : n ≡ line_len text + 1 = omega (arith, ap length rest, less, left, lt, l) in
    along ∙ with_line-behind (take (line_len text) text) o ∙ ap (λ xs. behind xs o) (sym (line_and_lf text lt) ∙ ap (λ k. take k text) (sym same)))
    (λ le.
    let empty : drop n text ≡ [] = rest ∙ drop_all (line_len text + 1) text (omega (arith, le)) in
    let none : o ≡ None = ap (λ t. lines_before (suc (length (drop n text))) d t fails) empty ∙ nothing_before (suc (length (drop n text))) d fails in
    along ∙ ap (with_line (take (line_len text) text)) none ∙ ap (behind (take n text)) (sym none))
    (cases_lt (line_len text) (length text))

pub Searched-none : (text d : Bytes) (fails : Bool) (start : ℕ) → start ≤ length text → Searched text d fails start start
Searched-none text d fails start l =
    let zero : start - start ≡ 0 = omega arith in
    let none : slice_range text start start ≡ [] = ap (λ k. take k (drop start text)) zero in
    record {
      from = omega arith;
      within = l;
      same = λ more then_fails g.
          let o = before d (drop start text ++ more) then_fails in
          sym (ap (λ xs. behind xs o) none ∙ behind-none o);
    }

-- two neighbouring ranges
ranges_join : (text : Bytes) (i j k : ℕ) → i ≤ j → j ≤ k → slice_range text i j ++ slice_range text j k ≡ slice_range text i k
ranges_join text i j k l m =
    let there : i + (j - i) ≡ j = omega (arith, l) in
    let long : j - i + (k - j) ≡ k - i = omega (arith, l, m) in
    let rest : drop (j - i) (drop i text) ≡ drop j text = drop-drop (j - i) i text ∙ ap (λ n. drop n text) there in
    ap (λ xs. slice_range text i j ++ take (k - j) xs) (sym rest) ∙ sym (take-add (j - i) (k - j) (drop i text)) ∙ ap (λ n. take n (drop i text)) long

-- one more line, however the text goes on
next_line : (text d : Bytes) (fails : Bool) (at : ℕ) (line : Place) → IsLine text fails at line → bytes_eq (bytes_at text line) d ≡ false → (more : Bytes) (then_fails : Bool) → GoesOn fails more then_fails → before d (drop at text ++ more) then_fails ≡ behind (slice_range text at line.next) (before d (drop line.next text ++ more) then_fails)
next_line text d fails at line is e more then_fails g =
    let rest = drop at text in
    let n : ℕ = line.next - at in
    let same = goes_on_line rest more fails then_fails is.some g in
    let there : at + n ≡ line.next = omega (arith, is.further) in
    let to : drop n rest ≡ drop line.next text = drop-drop n at text ∙ ap (λ k. drop k text) there in
    let le : n ≤ length rest = omega (arith, length-drop at text, is.within.2) in
    let back : drop n (rest ++ more) ≡ drop line.next text ++ more = drop-append-le n rest more le ∙ ap (λ t. t ++ more) to in
    let step = past_line d (rest ++ more) then_fails n same.some (ap (λ bs. bytes_eq bs d) (same.front ∙ sym is.bytes) ∙ e) (omega (arith, le, length-append rest more)) (back ∙ ap (λ t. t ++ more) is.rest ∙ sym same.back) in
    step ∙ ap (λ t. behind (take n (rest ++ more)) (before d t then_fails)) back ∙ ap (λ xs. behind xs (before d (drop line.next text ++ more) then_fails)) (take-append-le n rest more le)

pub Searched-more : (text d : Bytes) (fails : Bool) (start at : ℕ) (line : Place) → IsLine text fails at line → bytes_eq (bytes_at text line) d ≡ false → Searched text d fails start at → Searched text d fails start line.next
Searched-more text d fails start at line is e s =
    record {
      from = omega (arith, s.from, is.further);
      within = is.within.2;
      same = λ more then_fails g.
          let o = before d (drop line.next text ++ more) then_fails in
          s.same more then_fails g ∙ ap (behind (slice_range text start at)) (next_line text d fails at line is e more then_fails g) ∙ behind-more (slice_range text start at) (slice_range text at line.next) o ∙ ap (λ xs. behind xs o) (ranges_join text start at line.next s.from (omega (arith, is.further)));
    }

alone : (text d : Bytes) (fails : Bool) (start at : ℕ) → Searched text d fails start at → before d (drop start text) fails ≡ behind (slice_range text start at) (before d (drop at text) fails)
alone text d fails start at s =
    ap (λ t. before d t fails) (sym (append-nil (drop start text))) ∙ s.same [] fails (nothing_more fails) ∙ ap (λ t. behind (slice_range text start at) (before d t fails)) (append-nil (drop at text))

pub Searched-none_left : (text d : Bytes) (fails : Bool) (start at : ℕ) → has_no_line (drop at text) fails ≡ true → Searched text d fails start at → AreLinesAt text d fails start None
Searched-none_left text d fails start at h s =
    alone text d fails start at s ∙ ap (behind (slice_range text start at)) (no_line (length (drop at text)) d (drop at text) fails h)

pub Searched-found : (text d : Bytes) (fails : Bool) (start at : ℕ) (line : Place) → IsLine text fails at line → bytes_eq (bytes_at text line) d ≡ true → Searched text d fails start at → AreLinesAt text d fails start (Some (record { start = start; end = line.start; next = line.next }))
Searched-found text d fails start at line is e s =
    let here = its_line (length (drop at text)) d (drop at text) fails is.some (ap (λ bs. bytes_eq bs d) (sym is.bytes) ∙ e) in
    let lines = append-nil (slice_range text start at) ∙ ap (slice_range text start) (sym is.start) in (
      refl,
      (omega (arith, s.from, is.start), omega (arith, is.start, is.further), is.within.2),
      alone text d fails start at s ∙ ap (behind (slice_range text start at)) here ∙ ap (λ xs. Some (xs, drop (line_len (drop at text) + 1) (drop at text))) lines ∙ ap (λ xs. Some (slice_range text start line.start, xs)) (sym is.rest),
    )
