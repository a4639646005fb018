-- What came and was passed, and what is to come then.
use Rattle.std.proofs.Common.{◌≡◌, ℕ, ◌<◌, ◌+◌, Bool, true, false, not, eqb, [], ◌∷◌, ◌++◌, Option, Some, None, Ok, Err, refl, sym, ap, subst, ◌∙◌, arith, length, length-append, append_assoc, append-nil}
use Rattle.std.proofs.lemmas.Bool.Decides.{nat_tests}
use Rattle.gx_model.specs.Texts.{Bytes, lacks}
use Rattle.gx_text.specs.Devices.{Coming}
use Rattle.gx_batch.specs.Lines.{byte_of, lines_from, lines_of, single_ended, trimmed}
use Rattle.gx_batch.specs.Reading.{Reads, TakesPart, shown_most}
use Rattle.gx_stream.specs.Heard.{heard_upto}
use Rattle.gx_stream.specs.Pulled.{Passes, behind, shown_coming}
use Rattle.gx_batch.specs.declared.ending.LineEnding.{LineEnding}
use Rattle.gx_batch.specs.declared.fault.BatchFault.TheVariants.{OutOfMemory, ReadFailed}
use Rattle.gx_stream.specs.declared.pulls.SourceState.{SourceState}
use Rattle.gx_stream.specs.declared.pulls.SourceState.TheVariants.{Open, Ended, Failed}
use Rattle.gx_batch.proofs.CutLines.{lacks_both, line_cut, line_first, line_last, no_lines}
use Rattle.gx_batch.proofs.Endings.{ended_first, ended_kept, ended_none, trimmed_lacks}

-- bytes behind bytes
pub behind_both : (a b : Bytes) (c : Coming) → behind (a ++ b) c ≡ behind a (behind b c)
behind_both a b c = ap (λ bs. record { bytes = bs; fails = c.fails }) (append_assoc a b c.bytes)

-- nothing is passed yet
pub passes_nothing : (was : Option Coming) → Passes [] was was
passes_nothing None = tt
passes_nothing (Some c) = (c, refl, refl)

pub some_same : (c d : Coming) → Some c ≡ Some d → c ≡ d
some_same c d e = cc

-- bytes at the front are passed
pub passes_front : (state : SourceState) (room : ℕ) (coming : Option Coming) (front rest : Bytes) → Passes front (shown_coming state room coming (front ++ rest)) (shown_coming state room coming rest)
passes_front Open room None front rest = tt
passes_front Open room (Some c) front rest = (_, refl, behind_both front rest _)
passes_front Ended room coming front rest = (_, refl, refl)
passes_front Failed room coming front rest = (_, refl, refl)

-- one after the other
pub passes_both : (a b : Bytes) (x y z : Option Coming) → Passes a x y → Passes b y z → Passes (a ++ b) x z
passes_both a b None y z p q = tt
passes_both a b (Some c) None z p q = absurd cc p.1
passes_both a b (Some c) (Some d) z p q =
    let same = some_same d p.0 p.1 in
    (q.0, q.1, p.2 ∙ ap (behind a) (sym same ∙ q.2) ∙ sym (behind_both a b q.0))

-- nothing more is passed
pub passes_still : (a : Bytes) (x y z : Option Coming) → Passes a x y → Passes [] y z → Passes a x z
passes_still a x y z p q = subst (λ bs. Passes bs x z) (append-nil a) (passes_both a [] x y z p q)

lines_left : (ending : LineEnding) (was left : Coming) (front : Bytes) → was ≡ behind front left → lines_from ending was ≡ lines_of (byte_of ending) (single_ended ending (front ++ left.bytes)) left.fails
lines_left ending was left front e = ap (lines_from ending) e

-- nothing has no lines
pub none_left : (ending : LineEnding) (fails : Bool) → lines_of (byte_of ending) (single_ended ending []) fails ≡ []
none_left ending fails = ap (λ bs. lines_of (byte_of ending) bs fails) (ended_none ending) ∙ no_lines (byte_of ending) fails

-- a line and its ending before what is left
line_before : (ending : LineEnding) (line : Bytes) (left : Coming) → lacks (byte_of ending) line ≡ true → lines_from ending (behind (line ++ byte_of ending ∷ []) left) ≡ trimmed ending line ∷ lines_from ending left
line_before ending line left h =
    let b = byte_of ending in
    ap (λ bs. lines_of b (single_ended ending bs) left.fails) (append_assoc line (b ∷ []) left.bytes) ∙ ap (λ bs. lines_of b bs left.fails) (ended_first ending line left.bytes h)
    ∙ line_first b (trimmed ending line) (single_ended ending left.bytes) left.fails (trimmed_lacks ending line h)

-- nothing is left of a source that ended
abbrev ended_now : Coming
ended_now = record { bytes = []; fails = false }

-- a line before the end
line_at_end : (ending : LineEnding) (line : Bytes) → 0 < length line → lacks (byte_of ending) line ≡ true → lines_from ending (behind line ended_now) ≡ line ∷ lines_from ending ended_now
line_at_end ending line some h =
    ap (λ bs. lines_of (byte_of ending) (single_ended ending bs) false) (append-nil line) ∙ ap (λ bs. lines_of (byte_of ending) bs false) (ended_kept ending line h)
    ∙ line_last (byte_of ending) line some h ∙ ap (λ ls. line ∷ ls) (sym (none_left ending false))

-- a line and its ending were passed
pub reads_line : (ending : LineEnding) (line : Bytes) (was now : Option Coming) → lacks (byte_of ending) line ≡ true → Passes (line ++ byte_of ending ∷ []) was now → Reads ending was now (trimmed ending line) (Ok true)
reads_line ending line None now h p = (line ++ byte_of ending ∷ [], λ c m. line_before ending line c h)
reads_line ending line (Some c) now h p =
    let left = p.0 in
    let b = byte_of ending in (
      left,
      p.1,
      lines_left ending c left (line ++ b ∷ []) p.2 ∙ line_before ending line left h,
      sym (ap (λ (d : Coming). d.fails) p.2),
      (line ++ b ∷ [], ap (λ (d : Coming). d.bytes) p.2),
    )

-- a text that is tested for bytes
pub has_some : (line : Bytes) (n : ℕ) (empty : Bool) → n ≡ length line → empty ≡ eqb n 0 → not empty ≡ true → 0 < length line
has_some line n empty long e h = grind (arith, nat_tests)

pub has_none : (line : Bytes) (n : ℕ) (empty : Bool) → n ≡ length line → empty ≡ eqb n 0 → not empty ≡ false → line ≡ []
has_none [] n empty long e h = refl
has_none (b ∷ bs) n empty long e h = grind (arith, nat_tests)

-- all was passed, and the source ended
pub reads_end : (ending : LineEnding) (room : ℕ) (coming : Option Coming) (line : Bytes) (was : Option Coming) (answer : Bool) → lacks (byte_of ending) line ≡ true → Passes line was (shown_coming Ended room coming []) → (answer ≡ true → 0 < length line) → (answer ≡ false → line ≡ []) → Reads ending was (shown_coming Ended room coming []) line (Ok answer)
reads_end ending room coming line None true h p some none =
    (line, λ c m. ap (λ x. lines_from ending (behind line x)) m ∙ line_at_end ending line (some refl) h ∙ ap (λ x. line ∷ lines_from ending x) (sym m))
reads_end ending room coming line None false h p some none = tt
reads_end ending room coming line (Some c) true h p some none =
    let left = p.0 in
    let same = some_same (record { bytes = []; fails = false }) left p.1 in
    let whole = p.2 ∙ ap (behind line) (sym same) in (
      left,
      p.1,
      lines_left ending c ended_now line whole ∙ line_at_end ending line (some refl) h ∙ ap (λ x. line ∷ lines_from ending x) same,
      sym (ap (λ (d : Coming). d.fails) p.2),
      (line, ap (λ (d : Coming). d.bytes) p.2),
    )
reads_end ending room coming line (Some c) false h p some none =
    let left = p.0 in
    let same = some_same (record { bytes = []; fails = false }) left p.1 in
    let whole = p.2 ∙ ap (behind line) (sym same) in
    (lines_left ending c (record { bytes = []; fails = false }) line whole ∙ ap (λ bs. lines_of (byte_of ending) (single_ended ending bs) false) (append-nil line ∙ none refl) ∙ none_left ending false, ap (λ (d : Coming). d.fails) whole)

-- all was passed, and the source failed
pub reads_failure : (ending : LineEnding) (room : ℕ) (coming : Option Coming) (line : Bytes) (was : Option Coming) → lacks (byte_of ending) line ≡ true → Passes line was (shown_coming Failed room coming []) → Reads ending was (shown_coming Failed room coming []) line (Err ReadFailed)
reads_failure ending room coming line None h p = tt
reads_failure ending room coming line (Some c) h p =
    let left = p.0 in
    let same = some_same (record { bytes = []; fails = true }) left p.1 in
    let whole = p.2 ∙ ap (behind line) (sym same) in
    (lines_left ending c (record { bytes = []; fails = true }) line whole ∙ ap (λ bs. lines_of (byte_of ending) (single_ended ending bs) true) (append-nil line) ∙ ap (λ bs. lines_of (byte_of ending) bs true) (ended_kept ending line h) ∙ line_cut (byte_of ending) line h, ap (λ (d : Coming). d.fails) whole)

-- where bytes that came are left, there were some
pub some_bytes : (state : SourceState) (room : ℕ) (coming was : Option Coming) (line rest : Bytes) (c : Coming) → was ≡ Some c → 0 < length rest → Passes line was (shown_coming state room coming rest) → 0 < length c.bytes
some_bytes state room coming None line rest c e some p = absurd cc
some_bytes Open room None (Some d) line rest c e some p = absurd cc p.1
some_bytes Open room (Some x) (Some d) line rest c e some p =
    let whole : c.bytes ≡ line ++ p.0.bytes = ap (λ (y : Coming). y.bytes) (sym (some_same d c e) ∙ p.2) in
    let left : p.0.bytes ≡ rest ++ (heard_upto room x).bytes = ap (λ (y : Coming). y.bytes) (sym (some_same (behind rest (heard_upto room x)) p.0 p.1)) in
    omega (arith, some, ap length whole, ap length left, length-append line p.0.bytes, length-append rest (heard_upto room x).bytes)
some_bytes Ended room coming (Some d) line rest c e some p =
    let whole : c.bytes ≡ line ++ p.0.bytes = ap (λ (y : Coming). y.bytes) (sym (some_same d c e) ∙ p.2) in
    let left : p.0.bytes ≡ rest = ap (λ (y : Coming). y.bytes) (sym (some_same (record { bytes = rest; fails = false }) p.0 p.1)) in
    omega (arith, some, ap length whole, ap length left, length-append line p.0.bytes)
some_bytes Failed room coming (Some d) line rest c e some p =
    let whole : c.bytes ≡ line ++ p.0.bytes = ap (λ (y : Coming). y.bytes) (sym (some_same d c e) ∙ p.2) in
    let left : p.0.bytes ≡ rest = ap (λ (y : Coming). y.bytes) (sym (some_same (record { bytes = rest; fails = true }) p.0 p.1)) in
    omega (arith, some, ap length whole, ap length left, length-append line p.0.bytes)

-- there is no room for them
pub reads_no_more : (ending : LineEnding) (state : SourceState) (room : ℕ) (coming was now : Option Coming) (line held rest : Bytes) → 0 < length rest → Passes line was (shown_coming state room coming rest) → Reads ending was now held (Err OutOfMemory)
reads_no_more ending state room coming None now line held rest some p = tt
reads_no_more ending state room coming (Some c) now line held rest some p = some_bytes state room coming (Some c) line rest c refl some p

-- ---- what one part changes

-- the bound falls by the bytes that are passed
most_less : (state : SourceState) (room : ℕ) (front rest : Bytes) → shown_most state room (front ++ rest) ≡ length front + shown_most state room rest
most_less Open room front rest = let long = length-append front rest in omega arith
most_less Ended room front rest = length-append front rest
most_less Failed room front rest = length-append front rest

module _ (ending : LineEnding) (was coming : Option Coming) (room : ℕ) (rest left line now : Bytes) where
  -- a line came whole
  pub whole_line : (state : SourceState) → lacks (byte_of ending) line ≡ true → Passes line was (shown_coming state room coming rest) → TakesPart (byte_of ending) rest left line now true → Reads ending was (shown_coming state room coming left) (trimmed ending now) (Ok true)
  whole_line state h p t =
      let front = t.0 in
      let b = byte_of ending in
      let ended = front ++ b ∷ [] in
      let parts : rest ≡ ended ++ left = t.2 ∙ sym (append_assoc front (b ∷ []) left) in
      let more = passes_both line ended was (shown_coming state room coming (ended ++ left)) (shown_coming state room coming left) (subst (λ bs. Passes line was (shown_coming state room coming bs)) parts p) (passes_front state room coming ended left) in
      let joined : line ++ ended ≡ now ++ b ∷ [] = sym (append_assoc line front (b ∷ [])) ∙ ap (λ bs. bs ++ b ∷ []) (sym t.3) in
      reads_line ending now was (shown_coming state room coming left) (rw t.3 (lacks_both (byte_of ending) line front h t.1)) (subst (λ bs. Passes bs was (shown_coming state room coming left)) joined more)

  -- all that came is part of the line
  pub all_passed : (state : SourceState) → Passes line was (shown_coming state room coming rest) → TakesPart (byte_of ending) rest left line now false → Passes now was (shown_coming state room coming left)
  all_passed state p t =
      let parts : rest ≡ rest ++ left = sym (append-nil rest) ∙ ap (λ bs. rest ++ bs) (sym t.1) in
      let more = passes_both line rest was (shown_coming state room coming (rest ++ left)) (shown_coming state room coming left) (subst (λ bs. Passes line was (shown_coming state room coming bs)) parts p) (passes_front state room coming rest left) in
      subst (λ bs. Passes bs was (shown_coming state room coming left)) (sym t.2) more

  pub still_lacks : lacks (byte_of ending) line ≡ true → TakesPart (byte_of ending) rest left line now false → lacks (byte_of ending) now ≡ true
  still_lacks h t = rw t.2 (lacks_both (byte_of ending) line rest h t.0)

  -- the bound and the line's length change alike
  pub same_most : (state : SourceState) → TakesPart (byte_of ending) rest left line now false → length now + shown_most state room left ≡ length line + shown_most state room rest
  same_most state t =
      let parts : rest ≡ rest ++ left = sym (append-nil rest) ∙ ap (λ bs. rest ++ bs) (sym t.1) in
      let less = most_less state room rest left in
      let same = ap (shown_most state room) parts in
      let long = ap length t.2 in
      let both = length-append line rest in
      omega arith

  -- all passed, and the source ended
  pub ends_so : (state : SourceState) (answer : Bool) → state ≡ Ended → lacks (byte_of ending) line ≡ true → Passes line was (shown_coming state room coming rest) → TakesPart (byte_of ending) rest left line now false → (answer ≡ true → 0 < length now) → (answer ≡ false → now ≡ []) → Reads ending was (shown_coming state room coming left) now (Ok answer)
  ends_so state answer s h p t some none =
      let passed = all_passed state p t in
      let here = subst (λ (st : SourceState). Passes now was (shown_coming st room coming left)) s passed in
      let read = reads_end ending room coming now was answer (still_lacks h t) (subst (λ bs. Passes now was (shown_coming Ended room coming bs)) t.1 here) some none in
      subst (λ (st : SourceState). Reads ending was (shown_coming st room coming left) now (Ok answer)) (sym s) (subst (λ bs. Reads ending was (shown_coming Ended room coming bs) now (Ok answer)) (sym t.1) read)

  -- all passed, and the source failed
  pub fails_so : (state : SourceState) → state ≡ Failed → lacks (byte_of ending) line ≡ true → Passes line was (shown_coming state room coming rest) → TakesPart (byte_of ending) rest left line now false → Reads ending was (shown_coming state room coming left) now (Err ReadFailed)
  fails_so state s h p t =
      let passed = all_passed state p t in
      let here = subst (λ (st : SourceState). Passes now was (shown_coming st room coming left)) s passed in
      let read = reads_failure ending room coming now was (still_lacks h t) (subst (λ bs. Passes now was (shown_coming Failed room coming bs)) t.1 here) in
      subst (λ (st : SourceState). Reads ending was (shown_coming st room coming left) now (Err ReadFailed)) (sym s) (subst (λ bs. Reads ending was (shown_coming Failed room coming bs) now (Err ReadFailed)) (sym t.1) read)
