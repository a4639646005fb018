-- As what a file is read that shows a text or one with a segment more.
use Rattle.std.proofs.Common.{◌≡◌, inl, inr, ◌^◌, ℕ, ◌+◌, ◌-◌, ◌<◌, Bool, not, [], ◌∷◌, ◌++◌, length, take, drop, refl, sym, ◌∙◌, ap, subst, arith, append_assoc, length-append, Option}
use Rattle.std.specs.Prelude.{T}
use Rattle.std.specs.Bool.{passes}
use Rattle.std.specs.List.{flat_map}
use Rattle.std.proofs.Math.Seq.{drop-append_seam, take-append_seam}
use Rattle.gx_model.specs.declared.objects.Kind.{Kind}
use Rattle.gx_model.specs.Texts.{Bytes}
use Rattle.gx_model.specs.Objects.{IsNamer}
use Rattle.gx_model.specs.Histories.{Records}
use Rattle.gx_growing.specs.GrowingText.{IsDigester, IsGrowingText, head_length, head_text, is_digest, part, segment_text, slot_text, tail_text}
use Rattle.gx_growing.specs.GrowingLaws.{grown_text, next_slot}
use Rattle.gx_growing.specs.GrowingReading.{grown_of, slot_in}
use Rattle.gx_growing.proofs.EndCounts.{alike}
use Rattle.gx_growing.proofs.Fields.{AreFields, slot_read}
use Rattle.gx_growing.proofs.Grows.{grows}
use Rattle.gx_growing.proofs.ReadFronts.{head_long}
use Rattle.gx_growing.proofs.ReadTexts.{growing_read}
use Rattle.gx_growing.proofs.WrittenTexts.{slot_long}
use Rattle.gx_append.specs.Appending.{IsAsked, IsBeforeOrAfter, IsGrowth, IsReadAs, IsReadAsEither, Shows}

module _ (name : Kind → Bytes → Bytes) (namer : IsNamer name) (digest : Bytes → Bytes) (digester : IsDigester digest)
    (told : Option Bytes) (is_first : Bool) (ends : ℕ) (bytes slot : Bytes) (repository new : Records)
    (g : IsGrowth name digest told is_first ends bytes slot repository new) where
  -- what stands behind the head
  abbrev pub segments_of : Bytes
  segments_of = flat_map segment_text (g.old.before ++ g.old.last ∷ [])

  abbrev added : Bytes
  added = segment_text g.segment

  -- the numbers of both slots are short, and their digests have 32 bytes
  old_ends : g.old.slot.ends < 2 ^ 63
  old_ends =
      let a = g.takes.is_short in
      omega arith

  old_fields : AreFields g.old.slot.ends g.old.slot.tail g.old.slot.digest
  old_fields = record {
    one = omega (arith, old_ends);
    other = let t = g.old.tail in omega (arith, old_ends);
    is = subst (λ d. T (is_digest d)) (sym g.old.tail_digest) (passes _ (digester (tail_text g.old.last.runs g.old.last.refs)));
  }

  new_fields : AreFields (next_slot digest g.old.slot.ends g.segment).ends (next_slot digest g.old.slot.ends g.segment).tail (next_slot digest g.old.slot.ends g.segment).digest
  new_fields = record {
    one = let a = g.takes.is_short in omega arith;
    other = let a = g.takes.is_short in omega arith;
    is = passes _ (digester (tail_text g.segment.runs g.segment.refs));
  }

  -- what stands behind the head up to the end
  old_part : part g.file head_length (g.old.slot.ends - head_length) ≡ segments_of
  old_part =
      let head = head_text g.old.pick g.old.first g.old.second in
      let e : g.old.slot.ends - head_length ≡ length segments_of = let a = g.old.ends in omega arith in
      let long = head_long g.old.pick g.old.first g.old.second g.old.head in
      (λ i. take (e i) (drop (sym long i) (g.old.spelled i))) ∙ ap (λ z. take (length segments_of) z) (drop-append_seam head (segments_of ++ g.old.behind)) ∙ take-append_seam segments_of g.old.behind

  -- an append is asked for
  pub growth_asked : IsAsked told is_first ends slot (slot_text g.old.slot) segments_of
  growth_asked = record {
    file = g.file;
    is = g.is;
    shows = record {
      pick = g.old.pick;
      first = g.old.first;
      second = g.old.second;
      behind = g.old.behind;
      spelled = g.old.spelled;
      head = g.old.head;
      picks = g.picks;
      slot_is = g.old.slot_is;
    };
    ends_are = g.ends_are ∙ g.old.ends;
    long = ap length g.slot_is ∙ slot_long (next_slot digest g.old.slot.ends g.segment) new_fields;
  }

  -- what shows the text is read as before
  pub before_read : (c : Bytes) → Shows is_first (slot_text g.old.slot) segments_of c → IsReadAs name digest repository c
  before_read c s =
      ap (grown_of name digest) s.spelled
      ∙ alike name digest s.pick s.first s.second g.old.pick g.old.first g.old.second segments_of s.behind g.old.behind g.old.slot s.head g.old.head (s.slot_is ∙ sym g.old.slot_is) (ap slot_in s.slot_is ∙ slot_read g.old.slot old_fields) g.old.ends
      ∙ ap (grown_of name digest) (sym g.old.spelled)
      ∙ growing_read name namer digest digester g.file repository g.old g.takes.was_short

  -- what shows a segment more is read as the text with it
  pub after_read : (c : Bytes) → Shows (not is_first) slot (segments_of ++ bytes) c → IsReadAs name digest new c
  after_read c s =
      let next = next_slot digest g.old.slot.ends g.segment in
      let head = head_text s.pick s.first s.second in
      let told_slot = s.slot_is ∙ g.slot_is in
      let grown = grown_text s.pick s.first s.second g.old.slot.ends g.file g.segment in
      let is_growing : IsGrowingText name digest (grown ++ []) new =
      grows name digest g.file repository new g.old s.pick s.first s.second [] g.segment s.head told_slot g.takes.whole g.takes.records g.takes.refs g.takes.sound (g.takes.live s.pick s.first s.second s.head) (g.takes.told s.pick s.first s.second s.head) in
      let all = segments_of ++ added in
      let parts : grown ≡ head ++ all = ap (λ z. head ++ (z ++ added)) old_part in
      let flat : grown ++ [] ≡ head ++ (all ++ []) = ap (λ z. z ++ []) parts ∙ append_assoc head all [] in
      let l1 = length-append head (all ++ []) in
      let l2 = length-append all [] in
      let l3 = length-append segments_of added in
      let l4 = head_long s.pick s.first s.second s.head in
      let l5 : length (grown ++ []) ≡ length (head ++ (all ++ [])) = ap length flat in
      let e = g.old.ends in
      let short = g.takes.is_short in
      let read = growing_read name namer digest digester (grown ++ []) new is_growing (omega arith) in
      let e2 : next.ends ≡ head_length + length all = omega arith in
      ap (grown_of name digest) (s.spelled ∙ ap (λ z. head ++ ((segments_of ++ z) ++ s.behind)) g.bytes_are)
      ∙ alike name digest s.pick s.first s.second s.pick s.first s.second all s.behind [] next s.head s.head refl (ap slot_in told_slot ∙ slot_read next new_fields) e2
      ∙ ap (grown_of name digest) (sym flat)
      ∙ read

  -- what shows one of both is read as one of both
  pub either_read : (c : Bytes) → IsBeforeOrAfter is_first (slot_text g.old.slot) segments_of slot bytes c → IsReadAsEither name digest repository new c
  either_read c (inl s) = inl (before_read c s)
  either_read c (inr s) = inr (after_read c s)
