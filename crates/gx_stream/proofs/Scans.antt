-- What looks at an item that isn't whole yet have shown of it.
use Rattle.std.proofs.Common.{◌≡◌, ℕ, ◌+◌, ◌-◌, ◌<◌, ◌≤◌, ◌⊎◌, inl, inr, Bool, true, false, eqb, cond, not, ◌++◌, length, take, drop, slice_range, refl, sym, ap, subst, ◌∙◌, arith, append_assoc}
use Rattle.std.proofs.lemmas.Bool.{false≢true}
use Rattle.std.proofs.lemmas.Bool.Decides.{nat_tests}
use Rattle.std.proofs.lemmas.List.Sums.{prefix_len-le-length}
use Rattle.std.proofs.lemmas.List.{drop-drop, drop-append-le, take-append-le, length-append, length-drop, length-take}
use Rattle.gx_model.specs.Texts.{Bytes}
use Rattle.gx_model.specs.Streams.Items.{is_lf, line_len, has_no_line}
use Rattle.gx_stream.specs.Places.{IsLine, GoesTo, Searched, IsSearched, IsPast, IsScanned, before, behind, bytes_at, from_line, without, at_line, past_first}
use Rattle.gx_stream.specs.Input.{FitsState, IsLonger}
use Rattle.gx_stream.specs.declared.input.State.{State}
use Rattle.gx_stream.specs.declared.input.State.TheVariants.{Open, Ended, Over}
use Rattle.gx_stream.specs.declared.places.Place.{Place}
use Rattle.gx_stream.specs.declared.places.Scan.{Scan}
use Rattle.gx_stream.proofs.Lines.{GoesTo-start, GoesTo-longer, GoesTo-shorter}
use Rattle.gx_stream.proofs.Longer.{same_line, some_line}
use Rattle.gx_stream.proofs.Delimiters.{Searched-none}

pub scanned_none : (text : Bytes) (fails : Bool) (at : ℕ) → at ≤ length text → IsScanned text fails at (from_line at)
scanned_none text fails at l = (GoesTo-start text at l, inl refl)

-- the line at a place has no LF before its end
pub first_goes : (text : Bytes) (fails : Bool) (at : ℕ) (line : Place) → at ≤ length text → IsLine text fails at line → GoesTo text at line.end
first_goes text fails at line l is =
    let long : line.end - line.start ≡ length (take (line_len (drop at text)) (drop at text)) = sym (length-range text line.start line.end (omega (arith, is.within))) ∙ ap length is.bytes in
    (omega (arith, is.within, is.start), omega (arith, is.within), omega (arith, long, is.start, is.within, length-take (line_len (drop at text)) (drop at text)))
  where
    length-range : (text : Bytes) (s e : ℕ) → e ≤ length text → length (slice_range text s e) ≡ e - s
    length-range text s e le = omega (arith, length-take (e - s) (drop s text), length-drop s text)

-- where the first line came whole, its end is where the next one begins
whole_next : (text : Bytes) (at : ℕ) (line : Place) → at ≤ length text → IsLine text true at line → line.next ≡ at + line_len (drop at text) + 1
whole_next text at line l is =
    let rest = drop at text in
    let k : ℕ = line_len rest in
    let lt : k < length rest = some_line (length rest) k (prefix_len-le-length (λ b. not (is_lf b)) rest) is.some in
    omega (arith, ap length is.rest, length-drop line.next text, length-drop (k + 1) rest, length-drop at text, is.within.2, lt, l)

-- what the first line would give as a delimiter
abbrev pub delimiter_in : Bytes → Bytes
delimiter_in line = drop 2 (drop 5 line)

unequal : (n m : ℕ) → eqb n m ≡ false → n ≡ m → ⊥
unequal n m e same = absurd (grind (arith, nat_tests))

past_searched : (text : Bytes) (fails : Bool) (at : ℕ) (scan : Scan) (line : Place) → at ≤ length text → IsLine text fails at line → fails ≡ true → IsPast text at scan.line → Searched text (delimiter_in (bytes_at text line)) fails line.next scan.line
past_searched text false at scan line l is f past = absurd (false≢true f)
past_searched text true at scan line l is f past =
    let along = subst (λ bs. Searched text (delimiter_in bs) true (at + line_len (drop at text) + 1) scan.line) (sym is.bytes) past.searched in
    subst (λ k. Searched text (delimiter_in (bytes_at text line)) true k scan.line) (sym (whole_next text at line l is)) along

pub past_first-searched : (text : Bytes) (fails : Bool) (at : ℕ) (scan : Scan) (line : Place) → at ≤ length text → IsLine text fails at line → IsScanned text fails at scan → IsSearched text (delimiter_in (bytes_at text line)) fails line.next (past_first scan at line.next)
past_first-searched text fails at scan line l is s = by (eqb scan.line at) refl s.1 where
  by : (t : Bool) → eqb scan.line at ≡ t → (scan.line ≡ at) ⊎ ((fails ≡ true) × IsPast text at scan.line) → IsSearched text (delimiter_in (bytes_at text line)) fails line.next (cond t (at_line line.next scan) scan)
  by true e h = (GoesTo-start text line.next is.within.2, Searched-none text (delimiter_in (bytes_at text line)) fails line.next is.within.2)
  by false e (inl same) = absurd (unequal scan.line at e same)
  by false e (inr (f, past)) = (s.0, past_searched text fails at scan line l is f past)

-- what was searched is what is known of the item
pub searched-scanned : (text : Bytes) (fails : Bool) (at : ℕ) (scan : Scan) (line : Place) → at ≤ length text → IsLine text fails at line → IsSearched text (delimiter_in (bytes_at text line)) fails line.next scan → fails ≡ true → IsScanned text true at scan
searched-scanned text false at scan line l is s f = absurd (false≢true f)
searched-scanned text true at scan line l is s f =
    let along = subst (λ bs. Searched text (delimiter_in bs) true line.next scan.line) is.bytes s.1 in (
      s.0,
      inr (
        refl,
        record {
          some = is.some;
          searched = subst (λ k. Searched text (delimiter_in (take (line_len (drop at text)) (drop at text))) true k scan.line) (whole_next text at line l is) along;
        },
      ),
    )

-- ---- more bytes at the end

Searched-longer : (text more d : Bytes) (start at : ℕ) → Searched text d true start at → Searched (text ++ more) d true start at
Searched-longer text more d start at s =
    let front : drop start (text ++ more) ≡ drop start text ++ more = drop-append-le start text more (omega (arith, s.from, s.within)) in
    let back : drop at (text ++ more) ≡ drop at text ++ more = drop-append-le at text more s.within in
    let lines : slice_range (text ++ more) start at ≡ slice_range text start at = ap (take (at - start)) front ∙ take-append-le (at - start) (drop start text) more (omega (arith, s.within, length-drop start text)) in
    record {
      from = s.from;
      within = omega (arith, s.within, length-append text more);
      same = λ then_more then_fails g.
          let o = before d (drop at text ++ (more ++ then_more)) then_fails in
          let left = ap (λ t. t ++ then_more) front ∙ append_assoc (drop start text) more then_more in
          let right = ap (λ t. t ++ then_more) back ∙ append_assoc (drop at text) more then_more in
          ap (λ t. before d t then_fails) left ∙ s.same (more ++ then_more) then_fails tt ∙ sym (ap (λ t. behind (slice_range (text ++ more) start at) (before d t then_fails)) right ∙ ap (λ xs. behind xs o) lines);
    }

IsPast-longer : (text more : Bytes) (at line : ℕ) → at ≤ length text → IsPast text at line → IsPast (text ++ more) at line
IsPast-longer text more at line l p =
    let rest : drop at (text ++ more) ≡ drop at text ++ more = drop-append-le at text more l in
    let same = same_line (drop at text) more true p.some in
    let len : line_len (drop at text) ≡ line_len (drop at (text ++ more)) = sym (ap line_len rest ∙ same.len) in
    let line_text : take (line_len (drop at text)) (drop at text) ≡ take (line_len (drop at (text ++ more))) (drop at (text ++ more)) = sym (ap (λ t. take (line_len t) t) rest ∙ same.front) in
    let longer = Searched-longer text more (delimiter_in (take (line_len (drop at text)) (drop at text))) (at + line_len (drop at text) + 1) line p.searched in
    let along = subst (λ bs. Searched (text ++ more) (delimiter_in bs) true (at + line_len (drop at text) + 1) line) line_text longer in
    record {
      some = ap (λ t. has_no_line t true) rest ∙ same.some;
      searched = subst (λ k. Searched (text ++ more) (delimiter_in (take (line_len (drop at (text ++ more))) (drop at (text ++ more)))) true (at + k + 1) line) len along;
    }

pub IsScanned-longer : (text more : Bytes) (at : ℕ) (scan : Scan) → at ≤ length text → IsScanned text true at scan → IsScanned (text ++ more) true at scan
IsScanned-longer text more at scan l (g, inl e) = (GoesTo-longer text more scan.line scan.seen g, inl e)
IsScanned-longer text more at scan l (g, inr (f, past)) = (GoesTo-longer text more scan.line scan.seen g, inr (f, IsPast-longer text more at scan.line l past))

-- ---- fewer bytes at the front

Searched-shorter : (text d : Bytes) (n start at : ℕ) → n ≤ start → Searched text d true start at → Searched (drop n text) d true (start - n) (at - n)
Searched-shorter text d n start at l s =
    let there : n + (start - n) ≡ start = omega (arith, l) in
    let there_at : n + (at - n) ≡ at = omega (arith, l, s.from) in
    let wide : at - n - (start - n) ≡ at - start = omega (arith, l, s.from) in
    let front : drop (start - n) (drop n text) ≡ drop start text = drop-drop (start - n) n text ∙ ap (λ k. drop k text) there in
    let back : drop (at - n) (drop n text) ≡ drop at text = drop-drop (at - n) n text ∙ ap (λ k. drop k text) there_at in
    let lines : slice_range (drop n text) (start - n) (at - n) ≡ slice_range text start at = ap (λ t. take (at - n - (start - n)) t) front ∙ ap (λ k. take k (drop start text)) wide in
    record {
      from = omega (arith, s.from);
      within = omega (arith, s.within, length-drop n text);
      same = λ then_more then_fails g.
          let o = before d (drop at text ++ then_more) then_fails in
          ap (λ t. before d (t ++ then_more) then_fails) front ∙ s.same then_more then_fails tt ∙ sym (ap (λ t. behind (slice_range (drop n text) (start - n) (at - n)) (before d (t ++ then_more) then_fails)) back ∙ ap (λ xs. behind xs o) lines);
    }

pub scanned_from : (text : Bytes) (at : ℕ) (scan : Scan) → IsScanned text true at scan → (at ≤ scan.line) × (scan.line ≤ scan.seen)
scanned_from text at scan (g, inl e) = (omega (arith, e), g.0)
scanned_from text at scan (g, inr (f, past)) = (omega (arith, past.searched.from), g.0)

pub IsScanned-shorter : (text : Bytes) (at : ℕ) (scan : Scan) → IsScanned text true at scan → IsScanned (drop at text) true 0 (without at scan)
IsScanned-shorter text at scan (g, inl e) = (GoesTo-shorter text at scan.line scan.seen (omega (arith, e)) g, inl (omega (arith, e)))
IsScanned-shorter text at scan (g, inr (f, past)) =
    let start : at + line_len (drop at text) + 1 - at ≡ 0 + line_len (drop at text) + 1 = omega arith in (
      GoesTo-shorter text at scan.line scan.seen (omega (arith, past.searched.from)) g,
      inr (
        refl,
        record {
          some = past.some;
          searched = subst (λ k. Searched (drop at text) (delimiter_in (take (line_len (drop at text)) (drop at text))) true k (scan.line - at)) start (Searched-shorter text (delimiter_in (take (line_len (drop at text)) (drop at text))) at (at + line_len (drop at text) + 1) scan.line (omega arith) past.searched);
        },
      ),
    )

-- ---- at a state

pub fits_none : (text : Bytes) (state : State) (at : ℕ) → at ≤ length text → FitsState text state at (from_line at)
fits_none text Open at l = (scanned_none text true at l, GoesTo-start text at l)
fits_none text (Ended fails) at l = tt
fits_none text (Over last) at l = tt

-- after a pull
pub fits_after : (old new : Bytes) (state : State) (at : ℕ) (scan : Scan) → IsScanned old true at scan → GoesTo old at scan.first → IsLonger (drop at old) new → FitsState new state 0 (without at scan)
fits_after old new Open at scan s f (more, e) =
    let start : at - at ≡ 0 = omega arith in
    let first : GoesTo (drop at old) 0 (scan.first - at) = subst (λ k. GoesTo (drop at old) k (scan.first - at)) start (GoesTo-shorter old at at scan.first (omega arith) f) in (
      subst (λ t. IsScanned t true 0 (without at scan)) (sym e) (IsScanned-longer (drop at old) more 0 (without at scan) (omega arith) (IsScanned-shorter old at scan s)),
      subst (λ t. GoesTo t 0 (scan.first - at)) (sym e) (GoesTo-longer (drop at old) more 0 (scan.first - at) first),
    )
fits_after old new (Ended fails) at scan s f l = tt
fits_after old new (Over last) at scan s f l = tt
