-- What is read of a growing text in front of its rows is spelled so: its head, and the segments up to the end that the picked slot says.
use Rattle.std.proofs.Common.{◌≡◌, ℕ, ◌+◌, ◌-◌, ◌≤◌, true, refl, sym, ap, subst, ◌∙◌, List, [], ◌∷◌, ◌++◌, length, take, drop, Some, Ok, codes, arith, append_assoc, length-append, eqb→eq}
use Rattle.std.specs.Prelude.{nat_eq, nat_le}
use Rattle.std.specs.Bool.{passes}
use Rattle.std.specs.List.{flat_map}
use Rattle.std.specs.Option.{ok_or}
use Rattle.std.proofs.lemmas.Bool.Decides.{nat_tests}
use Rattle.std.proofs.lemmas.List.{length-take-le, take-append-drop}
use Rattle.gx_model.specs.declared.objects.Kind.{Kind}
use Rattle.gx_model.specs.declared.store_faults.FileFault.TheVariants as fault
use Rattle.gx_model.specs.Texts.{Bytes, same_bytes}
use Rattle.gx_model.specs.Texts.Numbers.{number_text}
use Rattle.gx_model.specs.Faults.{◌>>=◌}
use Rattle.gx_model.specs.Objects.{IsNamer, line}
use Rattle.gx_model.specs.Records.Sound.{IsSound}
use Rattle.gx_model.specs.Stores.StoreReading.{Stored, after_word, only_if, stored_body, stored_line}
use Rattle.gx_model.proofs.Texts.PathTests.{same_is}
use Rattle.gx_model.proofs.Stores.StoreTexts.{body_of, body_read, both_steps, if_there, line_of, line_text, ok_is, unless_holds, word_line_read, word_of}
use Rattle.gx_growing.specs.GrowingText.{AreSegments, IsHead, Run, Segment, Slot, head_length, head_text, picked, placed_rows, records_of, segment_text, tail_text}
use Rattle.gx_growing.specs.GrowingReading.{Front, after_third, front_of, head_of, next_segments, no_front, place_of, slot_in, slots_of}
use Rattle.gx_growing.proofs.ReadSegments.{segments_of_text}

-- ---- the head

-- the parts of a head and what follows it, grouped to the right
parts : (m p f s r : Bytes) → (m ++ (p ++ (10 ∷ (f ++ (10 ∷ (s ++ 10 ∷ [])))))) ++ r ≡ m ++ (p ++ (10 ∷ (f ++ (10 ∷ (s ++ (10 ∷ r))))))
parts m p f s r = simp append_assoc

-- a head and what follows it, grouped to the right
pub head_flat : (pick first second rest : Bytes) → head_text pick first second ++ rest ≡ line (codes "gxstore") (codes "3") ++ (pick ++ (10 ∷ (first ++ (10 ∷ (second ++ (10 ∷ rest))))))
head_flat pick first second rest = parts (line (codes "gxstore") (codes "3")) pick first second rest

-- a head has 226 bytes
pub head_long : (pick first second : Bytes) → IsHead pick first second → length (head_text pick first second) ≡ head_length
head_long pick first second h =
    let a = length-append pick (10 ∷ (first ++ (10 ∷ (second ++ 10 ∷ [])))) in
    let b = length-append first (10 ∷ (second ++ 10 ∷ [])) in
    let c = length-append second (10 ∷ []) in
    let x = h.one_byte in
    let y = h.of_first in
    let z = h.of_second in
    let m = length-append (line (codes "gxstore") (codes "3")) (pick ++ (10 ∷ (first ++ (10 ∷ (second ++ 10 ∷ []))))) in
    let k : length (line (codes "gxstore") (codes "3")) ≡ 10 = refl in
    omega arith

-- what is read once the word is
abbrev third_rest : Bytes → Bytes → Stored Bytes
third_rest rest word = only_if (same_bytes word (codes "3")) fault.BadVersion >>= λ u. Ok rest

-- what is read in the first line
abbrev third_line : Bytes × Bytes → Stored Bytes
third_line l = ok_or (after_word (codes "gxstore") l.0) fault.BadMagic >>= third_rest l.1

-- what follows the first line
third_of : (text rest : Bytes) → after_third text ≡ Ok rest → text ≡ line (codes "gxstore") (codes "3") ++ rest
third_of text rest e =
    let p = both_steps (stored_line text) third_line rest e in
    let w = both_steps (ok_or (after_word (codes "gxstore") p.0.0) fault.BadMagic) (third_rest p.0.1) rest p.2 in
    let t = both_steps (only_if (same_bytes w.0 (codes "3")) fault.BadVersion) (λ u. Ok p.0.1) rest w.2 in
    let three = same_is w.0 (codes "3") (passes _ (unless_holds (same_bytes w.0 (codes "3")) fault.BadVersion t.0 t.1)) in
    let spelled = word_of (codes "gxstore") p.0.0 w.0 (if_there fault.BadMagic (after_word (codes "gxstore") p.0.0) w.0 w.1) in
    let same : p.0.1 ≡ rest = ok_is p.0.1 rest t.2 in
    line_of text p.0 p.1 ∙ ap (λ z. z ++ 10 ∷ p.0.1) spelled ∙ line_text (codes "gxstore") w.0 p.0.1 ∙ (λ i. line (codes "gxstore") (three i) ++ same i)

-- the first line is read
third_read : (rest : Bytes) → after_third (line (codes "gxstore") (codes "3") ++ rest) ≡ Ok rest
third_read rest = ap (λ s. s >>= third_line) (word_line_read (codes "gxstore") (codes "3") rest tt tt)

-- what is read once the slots are
abbrev slot_rest : Bytes → Bytes → Bytes × Bytes → Stored (Slot × Bytes)
slot_rest pick first second = ok_or (slot_in (picked pick first second.0)) fault.BadRecord >>= λ slot. Ok (slot, second.1)

-- what is read once the first slot is
abbrev second_rest : Bytes → Bytes × Bytes → Stored (Slot × Bytes)
second_rest pick first = stored_body 106 first.1 >>= slot_rest pick first.0

-- what is read once the byte that picks is
abbrev first_rest : Bytes × Bytes → Stored (Slot × Bytes)
first_rest pick = stored_body 106 pick.1 >>= second_rest pick.0

-- a head is read: a byte, two slots of which it picks one, and what follows
pub record IsHeadRead (text : Bytes) (x : Slot × Bytes) : Type 0 where
  pub pick : Bytes
  pub first : Bytes
  pub second : Bytes
  pub head : IsHead pick first second
  pub slot : slot_in (picked pick first second) ≡ Some x.0
  pub spelled : text ≡ head_text pick first second ++ x.1
  pub ends : x.0.ends ≤ length text

-- what is read as a head is its text
pub head_of_text : (text : Bytes) (x : Slot × Bytes) → head_of text ≡ Ok x → IsHeadRead text x
head_of_text text x e =
    let a = both_steps (after_third text) (λ rest. slots_of rest >>= λ head. only_if (nat_le head.0.ends (length text)) fault.Truncated >>= λ u. Ok head) x e in
    let b = both_steps (slots_of a.0) (λ head. only_if (nat_le head.0.ends (length text)) fault.Truncated >>= λ u. Ok head) x a.2 in
    let c = both_steps (only_if (nat_le b.0.0.ends (length text)) fault.Truncated) (λ u. Ok b.0) x b.2 in
    let w = both_steps (only_if (nat_le 216 (length a.0)) fault.Truncated) (λ u. stored_body 1 a.0 >>= first_rest) b.0 b.1 in
    let p = both_steps (stored_body 1 a.0) first_rest b.0 w.2 in
    let f = both_steps (stored_body 106 p.0.1) (second_rest p.0.0) b.0 p.2 in
    let s = both_steps (stored_body 106 f.0.1) (slot_rest p.0.0 f.0.0) b.0 f.2 in
    let k = both_steps (ok_or (slot_in (picked p.0.0 f.0.0 s.0.0)) fault.BadRecord) (λ slot. Ok (slot, s.0.1)) b.0 s.2 in
    let pick = body_of 1 a.0 p.0 p.1 in
    let first = body_of 106 p.0.1 f.0 f.1 in
    let second = body_of 106 f.0.1 s.0 s.1 in
    let is : ◌≡◌ {A = Slot × Bytes} (k.0, s.0.1) b.0 = ok_is (k.0, s.0.1) b.0 k.2 in
    let same : b.0 ≡ x = ok_is b.0 x c.2 in
    let fits : nat_le b.0.0.ends (length text) ≡ true = unless_holds (nat_le b.0.0.ends (length text)) fault.Truncated c.0 c.1 in
    let within : b.0.0.ends ≤ length text = grind (arith, nat_tests) in
    let spelled : text ≡ head_text p.0.0 f.0.0 s.0.0 ++ s.0.1 =
    third_of text a.0 a.1
    ∙ ap (λ z. line (codes "gxstore") (codes "3") ++ z) (pick.0 ∙ ap (λ z. p.0.0 ++ 10 ∷ z) (first.0 ∙ ap (λ z. f.0.0 ++ 10 ∷ z) second.0))
    ∙ sym (head_flat p.0.0 f.0.0 s.0.0 s.0.1) in
    subst (IsHeadRead text) (is ∙ same) (record {
      pick = p.0.0;
      first = f.0.0;
      second = s.0.0;
      head = record { one_byte = pick.1; of_first = first.1; of_second = second.1 };
      slot = if_there fault.BadRecord (slot_in (picked p.0.0 f.0.0 s.0.0)) k.0 k.1;
      spelled = spelled;
      ends = subst (λ (z : Slot × Bytes). z.0.ends ≤ length text) (sym is) within;
    })

-- a head is read from its text
pub head_read : (pick first second rest : Bytes) (slot : Slot) → IsHead pick first second → slot_in (picked pick first second) ≡ Some slot → slot.ends ≤ length (head_text pick first second ++ rest)
    → head_of (head_text pick first second ++ rest) ≡ Ok (slot, rest)
head_read pick first second rest slot h k l =
    let text = head_text pick first second ++ rest in
    let behind = pick ++ (10 ∷ (first ++ (10 ∷ (second ++ (10 ∷ rest))))) in
    let ended : Slot × Bytes → Stored (Slot × Bytes) = λ head. only_if (nat_le head.0.ends (length text)) fault.Truncated >>= λ u. Ok head in
    let long : nat_le 216 (length behind) ≡ true = enough behind (ap length (sym (head_flat pick first second rest)) ∙ length-append (head_text pick first second) rest) (length-append (line (codes "gxstore") (codes "3")) behind) in
    let fits : nat_le slot.ends (length text) ≡ true = grind (arith, nat_tests) in
    ap (λ s. s >>= λ z. slots_of z >>= ended) (ap after_third (head_flat pick first second rest) ∙ third_read behind)
    ∙ ap (λ s. s >>= ended) (
    ap (λ t. only_if t fault.Truncated >>= λ u. stored_body 1 behind >>= first_rest) long
    ∙ ap (λ s. s >>= first_rest) (ap (λ n. stored_body n behind) (sym h.one_byte) ∙ body_read pick (first ++ (10 ∷ (second ++ (10 ∷ rest)))))
    ∙ ap (λ s. s >>= second_rest pick) (ap (λ n. stored_body n (first ++ (10 ∷ (second ++ (10 ∷ rest))))) (sym h.of_first) ∙ body_read first (second ++ (10 ∷ rest)))
    ∙ ap (λ s. s >>= slot_rest pick first) (ap (λ n. stored_body n (second ++ (10 ∷ rest))) (sym h.of_second) ∙ body_read second rest)
    ∙ ap (λ o. ok_or o fault.BadRecord >>= λ z. Ok (z, rest)) k
    )
    ∙ ap (λ t. only_if t fault.Truncated >>= λ u. Ok (slot, rest)) fits
  where
    enough : (behind : Bytes) → length (line (codes "gxstore") (codes "3") ++ behind) ≡ length (head_text pick first second) + length rest → length (line (codes "gxstore") (codes "3") ++ behind) ≡ length (line (codes "gxstore") (codes "3")) + length behind → nat_le 216 (length behind) ≡ true
    enough behind a b =
        let c = head_long pick first second h in
        let k : length (line (codes "gxstore") (codes "3")) ≡ 10 = refl in
        let g : 216 ≤ length behind = omega arith in
        grind (arith, nat_tests)

-- ---- the segments

-- a line has a byte or more
line_some : (w x : Bytes) → 1 ≤ length (line w x)
line_some w x = let a = length-append (w ++ 32 ∷ x) (10 ∷ []) in omega arith

-- so has a text that begins with one
some : (l rest : Bytes) → 1 ≤ length l → 1 ≤ length (l ++ rest)
some l rest h = let a = length-append l rest in omega arith

-- a tail has a byte or more
tail_some : (runs : List Run) (refs : List (Bytes × Bytes)) → 1 ≤ length (tail_text runs refs)
tail_some runs refs = some (line (codes "runs") (number_text (length runs))) _ (line_some (codes "runs") (number_text (length runs)))

module _ (name : Kind → Bytes → Bytes) where
  -- a head and segments are read, which the picked slot tells
  pub record IsFront (text : Bytes) (x : Slot × Front) : Type 0 where
    -- what follows the head
    pub rest : Bytes
    pub head_is : head_of text ≡ Ok (x.0, rest)
    pub read : IsHeadRead text (x.0, rest)
    pub behind : Bytes
    pub before : List Segment
    pub last : Segment
    pub spelled : text ≡ head_text read.pick read.first read.second ++ (flat_map segment_text (before ++ last ∷ []) ++ behind)
    pub ends : x.0.ends ≡ head_length + length (flat_map segment_text (before ++ last ∷ []))
    pub ended : (front_text : Bytes) × (flat_map segment_text (before ++ last ∷ []) ≡ front_text ++ x.1.tail)
    pub tail : x.1.tail ≡ tail_text last.runs last.refs
    pub begun : place_of x.0.ends x.1.tail ≡ x.0.tail
    pub segments : AreSegments name [] (before ++ last ∷ [])
    pub sound : IsSound name (record { records = x.1.records; refs = x.1.refs })
    pub records : x.1.records ≡ records_of (before ++ last ∷ [])
    pub rows : x.1.rows ≡ placed_rows head_length (before ++ last ∷ [])
    pub runs : x.1.runs ≡ last.runs
    pub refs : x.1.refs ≡ last.refs

  -- a repository of nothing is sound
  no_records : IsSound name (record { records = []; refs = [] })
  no_records = record { named = tt; distinct = tt; linked = tt; paths = tt; sorted = refl; ref_names = refl; held = tt }

  -- what is read once the segments are
  abbrev pub begun_rest : Slot → Front → Stored (Slot × Front)
  begun_rest slot front = only_if (nat_eq (place_of slot.ends front.tail) slot.tail) fault.BadRecord >>= λ u. Ok (slot, front)

  -- what is read once the head is
  abbrev pub segments_rest : Slot × Bytes → Stored (Slot × Front)
  segments_rest head = next_segments name head.0.ends head.0.ends no_front (take (head.0.ends - head_length) head.1) >>= begun_rest head.0

  -- what is read in front of the rows is its text
  pub front_is : IsNamer name → (text : Bytes) (x : Slot × Front) → front_of name text ≡ Ok x → IsFront text x
  front_is namer text x e =
      let a = both_steps (head_of text) segments_rest x e in
      let slot = a.0.0 in
      let cut = take (slot.ends - head_length) a.0.1 in
      let b = both_steps (next_segments name slot.ends slot.ends no_front cut) (begun_rest slot) x a.2 in
      let c = both_steps (only_if (nat_eq (place_of slot.ends b.0.tail) slot.tail) fault.BadRecord) (λ u. Ok (slot, b.0)) x b.2 in
      let h = head_of_text text a.0 a.1 in
      let long : length text ≡ head_length + length a.0.1 = ap length h.spelled ∙ length-append (head_text h.pick h.first h.second) a.0.1 ∙ ap (λ n. n + length a.0.1) (head_long h.pick h.first h.second h.head) in
      let size : length cut ≡ slot.ends - head_length = length-take-le (slot.ends - head_length) a.0.1 (short slot.ends (length text) (length a.0.1) h.ends long) in
      let r = segments_of_text name slot.ends namer slot.ends no_front cut b.0 no_records (fits slot.ends (length cut) size) b.1 in
      let all = r.before ++ r.last ∷ [] in
      let cut_length = ap length r.ended.1 ∙ length-append r.ended.0 b.0.tail in
      let reach : head_length ≤ slot.ends = over slot.ends (length cut) (length r.ended.0) (length b.0.tail) size cut_length (subst (λ z. 1 ≤ length z) (sym r.tail) (tail_some r.last.runs r.last.refs)) in
      let place : slot.ends - length cut ≡ head_length = back slot.ends (length cut) reach size in
      let given : Slot × Front = (slot, b.0) in
      let is : IsFront text given = record {
        rest = a.0.1;
        head_is = a.1;
        read = h;
        behind = drop (slot.ends - head_length) a.0.1;
        before = r.before;
        last = r.last;
        spelled = h.spelled ∙ ap (λ z. head_text h.pick h.first h.second ++ z) (sym (take-append-drop (slot.ends - head_length) a.0.1) ∙ ap (λ z. z ++ drop (slot.ends - head_length) a.0.1) r.spelled);
        ends = whole slot.ends (length cut) reach size ∙ ap (λ z. head_length + length z) r.spelled;
        ended = (r.ended.0, sym r.spelled ∙ r.ended.1);
        tail = r.tail;
        begun = eqb→eq (place_of slot.ends b.0.tail) slot.tail (passes _ (unless_holds (nat_eq (place_of slot.ends b.0.tail) slot.tail) fault.BadRecord c.0 c.1));
        segments = r.segments;
        sound = r.sound;
        records = r.records;
        rows = r.rows ∙ ap (λ n. placed_rows n all) place;
        runs = r.runs;
        refs = r.refs;
      } in
      subst (IsFront text) (ok_is given x c.2) is
    where
      short : (ends text rest : ℕ) → ends ≤ text → text ≡ head_length + rest → ends - head_length ≤ rest
      short ends text rest l e = omega arith

      fits : (ends cut : ℕ) → cut ≡ ends - head_length → cut ≤ ends
      fits ends cut e = omega arith

      over : (ends cut front tail : ℕ) → cut ≡ ends - head_length → cut ≡ front + tail → 1 ≤ tail → head_length ≤ ends
      over ends cut front tail e f l = omega arith

      back : (ends cut : ℕ) → head_length ≤ ends → cut ≡ ends - head_length → ends - cut ≡ head_length
      back ends cut l e = omega arith

      whole : (ends cut : ℕ) → head_length ≤ ends → cut ≡ ends - head_length → ends ≡ head_length + cut
      whole ends cut l e = omega arith
