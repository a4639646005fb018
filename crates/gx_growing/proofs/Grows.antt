-- A segment behind the end of a growing text, with a head whose slot tells it, gives a growing text with what it brings.
use Rattle.std.proofs.Common.{◌≡◌, ℕ, ◌+◌, ◌-◌, refl, sym, ap, subst, ◌∙◌, List, [], ◌∷◌, ◌++◌, length, take, drop, arith, append_assoc, append-nil, length-append}
use Rattle.std.specs.List.{AllByRecursion, flat_map}
use Rattle.std.proofs.Math.Seq.{drop-append_seam, take-append_seam}
use Rattle.gx_model.specs.declared.objects.Kind.{Kind}
use Rattle.gx_model.specs.Texts.{Bytes}
use Rattle.gx_model.specs.Histories.{Record, Records}
use Rattle.gx_model.specs.Records.Sound.{IsSound}
use Rattle.gx_growing.specs.GrowingText.{AreSegments, IsGrowingText, IsHead, IsSegment, Segment, StandsIn, first_place, head_length, head_text, live_rows, part, picked, placed, placed_rows, records_of, segment_text, slot_text, sorted_rows, tail_text}
use Rattle.gx_growing.specs.GrowingLaws.{grown_text, next_slot}
use Rattle.gx_growing.proofs.ReadFronts.{head_long}
use Rattle.gx_growing.proofs.ReadSegments.{tail_last}

-- ---- one segment more

-- the texts of two lists, one behind the other
flat_append : {X : Type 0} (f : X → Bytes) (xs ys : List X) → flat_map f (xs ++ ys) ≡ flat_map f xs ++ flat_map f ys
flat_append f [] ys = refl
flat_append f (x ∷ xs) ys = ap (λ z. f x ++ z) (flat_append f xs ys) ∙ sym (append_assoc (f x) (flat_map f xs) (flat_map f ys))

-- the text of segments with one more
segments_text : (ss : List Segment) (s : Segment) → flat_map segment_text (ss ++ s ∷ []) ≡ flat_map segment_text ss ++ segment_text s
segments_text ss s = flat_append segment_text ss (s ∷ []) ∙ ap (λ z. flat_map segment_text ss ++ z) (append-nil (segment_text s))

-- the records of segments with one more
records_more : (ss : List Segment) (s : Segment) → records_of (ss ++ s ∷ []) ≡ records_of ss ++ s.records
records_more [] s = append-nil s.records
records_more (t ∷ ss) s = ap (λ z. t.records ++ z) (records_more ss s) ∙ sym (append_assoc t.records (records_of ss) s.records)

-- the rows of segments with one more
rows_more : (place : ℕ) (ss : List Segment) (s : Segment) → placed_rows place (ss ++ s ∷ []) ≡ placed_rows place ss ++ placed (first_place (place + length (flat_map segment_text ss)) s.records) s.records
rows_more place [] s = append-nil (placed (first_place place s.records) s.records) ∙ ap (λ n. placed (first_place n s.records) s.records) (sym (none place))
  where
    none : (n : ℕ) → n + 0 ≡ n
    none n = omega arith
rows_more place (t ∷ ss) s =
    let one = placed (first_place place t.records) t.records in
    let n = place + length (segment_text t) in
    let e : n + length (flat_map segment_text ss) ≡ place + length (segment_text t ++ flat_map segment_text ss) = let a = length-append (segment_text t) (flat_map segment_text ss) in omega arith in
    ap (λ z. one ++ z) (rows_more n ss s) ∙ sym (append_assoc one (placed_rows n ss) (placed (first_place (n + length (flat_map segment_text ss)) s.records) s.records))
    ∙ ap (λ m. (one ++ placed_rows n ss) ++ placed (first_place m s.records) s.records) e

module _ (name : Kind → Bytes → Bytes) where
  -- segments with one more, where the whole is sound
  segments_more : (before : List Record) (ss : List Segment) (s : Segment) → AreSegments name before ss → IsSegment s → IsSound name (record { records = (before ++ records_of ss) ++ s.records; refs = s.refs })
      → AreSegments name before (ss ++ s ∷ [])
  segments_more before [] s h i k = (i, subst (λ z. IsSound name (record { records = z ++ s.records; refs = s.refs })) (append-nil before) k, tt)
  segments_more before (t ∷ ss) s h i k =
      (h.0, h.1, segments_more (before ++ t.records) ss s h.2 i (subst (λ z. IsSound name (record { records = z ++ s.records; refs = s.refs })) (sym (append_assoc before t.records (records_of ss))) k))

module _ (name : Kind → Bytes → Bytes) (digest : Bytes → Bytes) where
  -- the segments of a growing text
  old_segments : (text : Bytes) (r : Records) (old : IsGrowingText name digest text r) → part text head_length (old.slot.ends - head_length) ≡ flat_map segment_text (old.before ++ old.last ∷ [])
  old_segments text r old =
      let head = head_text old.pick old.first old.second in
      let all = flat_map segment_text (old.before ++ old.last ∷ []) in
      let long = head_long old.pick old.first old.second old.head in
      (λ i. take (less old.slot.ends (length all) old.ends i) (drop (sym long i) (old.spelled i)))
      ∙ ap (take (length all)) (drop-append_seam head (all ++ old.behind))
      ∙ take-append_seam all old.behind
    where
      less : (ends n : ℕ) → ends ≡ head_length + n → ends - head_length ≡ n
      less ends n e = omega arith

  -- a growing text with one segment more
  pub grows : (text : Bytes) (repository new : Records) (old : IsGrowingText name digest text repository) (pick first second behind : Bytes) (segment : Segment)
      → IsHead pick first second → picked pick first second ≡ slot_text (next_slot digest old.slot.ends segment)
      → IsSegment segment → new.records ≡ repository.records ++ segment.records → new.refs ≡ segment.refs → IsSound name new
      → AllByRecursion (StandsIn digest (grown_text pick first second old.slot.ends text segment)) segment.runs
      → sorted_rows (live_rows (grown_text pick first second old.slot.ends text segment) segment.runs)
      ≡ sorted_rows (placed_rows head_length (old.before ++ old.last ∷ []) ++ placed (first_place old.slot.ends segment.records) segment.records)
      → IsGrowingText name digest (grown_text pick first second old.slot.ends text segment ++ behind) new
  grows text repository new old pick first second behind segment h p s rs refs sound live told =
      let all = old.before ++ old.last ∷ [] in
      let held = flat_map segment_text all in
      let seg = segment_text segment in
      let tail = tail_text segment.runs segment.refs in
      let head = head_text pick first second in
      let grown = grown_text pick first second old.slot.ends text segment in
      let joined : grown ≡ head ++ flat_map segment_text (all ++ segment ∷ []) = ap (λ z. head ++ (z ++ seg)) (old_segments text repository old) ∙ ap (λ z. head ++ z) (sym (segments_text all segment)) in
      let ends : old.slot.ends + length seg ≡ head_length + length (flat_map segment_text (all ++ segment ∷ [])) =
      more old.slot.ends (length seg) (length held) (length (flat_map segment_text (all ++ segment ∷ []))) old.ends (ap length (segments_text all segment) ∙ length-append held seg) in
      let size : length grown ≡ old.slot.ends + length seg = ap length joined ∙ length-append head (flat_map segment_text (all ++ segment ∷ [])) ∙ ap (λ n. n + length (flat_map segment_text (all ++ segment ∷ []))) (head_long pick first second h) ∙ sym ends in
      let up_to : take (old.slot.ends + length seg) (grown ++ behind) ≡ grown = ap (λ n. take n (grown ++ behind)) (sym size) ∙ take-append_seam grown behind in
      let t = tail_last segment in
      let records : new.records ≡ records_of all ++ segment.records = rs ∙ ap (λ z. z ++ segment.records) (sym old.records) in
      let whole : IsSound name (record { records = records_of all ++ segment.records; refs = segment.refs }) = subst (λ (z : Records). IsSound name z) (λ i. record { records = records i; refs = refs i }) sound in
      record {
        pick = pick;
        first = first;
        second = second;
        slot = next_slot digest old.slot.ends segment;
        before = all;
        last = segment;
        behind = behind;
        spelled = ap (λ z. z ++ behind) joined ∙ append_assoc head (flat_map segment_text (all ++ segment ∷ [])) behind;
        head = h;
        slot_is = p;
        ends = ends;
        tail = back old.slot.ends (length seg) (length t.0) (length tail) (ap length t.1 ∙ length-append t.0 tail);
        tail_digest = refl;
        segments = segments_more name [] all segment old.segments s whole;
        records = records_more all segment ∙ sym records;
        refs = sym refs;
        live = subst (λ z. AllByRecursion (StandsIn digest z) segment.runs) (sym up_to) live;
        told =
            ap (λ z. sorted_rows (live_rows z segment.runs)) up_to ∙ told
            ∙ ap (λ n. sorted_rows (placed_rows head_length all ++ placed (first_place n segment.records) segment.records)) old.ends
            ∙ ap sorted_rows (sym (rows_more head_length all segment));
      }
    where
      more : (ends seg held both : ℕ) → ends ≡ head_length + held → both ≡ held + seg → ends + seg ≡ head_length + both
      more ends seg held both e f = omega arith

      back : (ends seg front tail : ℕ) → seg ≡ front + tail → ((ends + seg) - tail) + tail ≡ ends + seg
      back ends seg front tail e = omega arith
