-- What stands in a growing text up to its end, under any head and with what stands behind it.
use Rattle.std.proofs.Common.{◌≡◌, ℕ, zero, suc, ◌+◌, ◌*◌, ◌-◌, ◌≤◌, refl, sym, ap, ◌∙◌, List, [], ◌∷◌, ◌++◌, length, take, drop, arith, length-append, length-drop}
use Rattle.std.specs.Int.{w64, from_be_bytes}
use Rattle.std.specs.FinMap.Entries.{is_sorted}
use Rattle.std.specs.List.{AllByRecursion, flat_map}
use Rattle.std.proofs.lemmas.List.{drop-append-le, take-append-le}
use Rattle.std.proofs.Math.Seq.{drop-append-add, drop-append_seam, take-append-add, take-append_seam}
use Rattle.gx_model.specs.declared.objects.Kind.{Kind}
use Rattle.gx_model.specs.Texts.{Bytes, byte_cmp}
use Rattle.gx_model.specs.Histories.{Record, Records}
use Rattle.gx_growing.specs.GrowingText.{AreSegments, IsGrowingText, IsSegment, Run, Segment, StandsIn, digests_length, head_length, head_text, live_rows, page_digests, part, rows_in, run_bytes, run_rows, segment_text}
use Rattle.gx_growing.proofs.ReadFronts.{head_long}

-- the last segment is one
pub last_is : (name : Kind → Bytes → Bytes) (before : List Record) (ss : List Segment) (s : Segment) → AreSegments name before (ss ++ s ∷ []) → IsSegment s
last_is name before [] s all = all.0
last_is name before (t ∷ ss) s all = last_is name (before ++ t.records) ss s all.2

module _ (name : Kind → Bytes → Bytes) (digest : Bytes → Bytes) (text : Bytes) (repository : Records) (old : IsGrowingText name digest text repository) where
  -- the text of all segments
  abbrev pub segments_of : Bytes
  segments_of = flat_map segment_text (old.before ++ old.last ∷ [])

  -- what stands behind the head up to the end
  pub old_part : part text head_length (old.slot.ends - head_length) ≡ segments_of
  old_part =
      let head = head_text old.pick old.first old.second in
      let e : old.slot.ends - head_length ≡ length segments_of = let a = old.ends in omega arith in
      let long = head_long old.pick old.first old.second old.head in
      (λ i. take (e i) (drop (sym long i) (old.spelled i))) ∙ ap (λ z. take (length segments_of) z) (drop-append_seam head (segments_of ++ old.behind)) ∙ take-append_seam segments_of old.behind

  -- the text up to its end
  pub up_to : take old.slot.ends text ≡ head_text old.pick old.first old.second ++ segments_of
  up_to =
      let head = head_text old.pick old.first old.second in
      let e : old.slot.ends ≡ length head + length segments_of = let a = old.ends in let b = head_long old.pick old.first old.second old.head in omega arith in
      (λ i. take (e i) (old.spelled i)) ∙ take-append-add head (segments_of ++ old.behind) (length segments_of) ∙ ap (λ z. head ++ z) (take-append_seam segments_of old.behind)

-- rows are read in front of what stands behind them
rows_front : (n : ℕ) (x y : Bytes) → 28 * n ≤ length x → rows_in n (x ++ y) ≡ rows_in n x
rows_front zero x y l = refl
rows_front (suc n) x y l =
    let m = length-drop 20 x in
    let k = length-drop 28 x in
    let name = take-append-le 20 x y (omega arith) in
    let place : part (x ++ y) 20 8 ≡ part x 20 8 = ap (take 8) (drop-append-le 20 x y (omega arith)) ∙ take-append-le 8 (drop 20 x) y (omega arith) in
    let rest = ap (rows_in n) (drop-append-le 28 x y (omega arith)) ∙ rows_front n (drop 28 x) y (omega arith) in
    λ i. (name i, from_be_bytes w64 (place i)) ∷ rest i

module _ (digest : Bytes → Bytes) (h k s more : Bytes) (long : length h ≡ head_length) (other_long : length k ≡ head_length) where
  abbrev old_text : Bytes
  old_text = h ++ s

  abbrev new_text : Bytes
  new_text = k ++ (s ++ more)

  -- from a place behind the heads on the new text has what the old one has
  same_drop : (n : ℕ) → head_length ≤ n → n ≤ length old_text → drop n new_text ≡ drop n old_text ++ more
  same_drop n g l =
      let m = n - head_length in
      let a = length-append h s in
      let e : n ≡ length k + m = omega arith in
      let f : n ≡ length h + m = omega arith in
      ap (λ j. drop j new_text) e ∙ drop-append-add k (s ++ more) m ∙ drop-append-le m s more (omega arith)
      ∙ ap (λ z. z ++ more) (sym (ap (λ j. drop j old_text) f ∙ drop-append-add h s m))

  same_part : (at count : ℕ) → head_length ≤ at → at + count ≤ length old_text → part new_text at count ≡ part old_text at count
  same_part at count g l =
      let a = length-drop at old_text in
      ap (take count) (same_drop at g (omega arith)) ∙ take-append-le count (drop at old_text) more (omega arith)

  -- a run that stands in the old text stands in the new one, with the same rows
  same_rows : (run : Run) → StandsIn digest old_text run → run_rows new_text run ≡ run_rows old_text run
  same_rows run stands =
      let a = length-drop run.place old_text in
      let w = stands.within in
      ap (rows_in run.count) (same_drop run.place stands.behind (omega arith)) ∙ rows_front run.count (drop run.place old_text) more (omega arith)

  still_stands : (run : Run) → StandsIn digest old_text run → StandsIn digest new_text run
  still_stands run stands =
      let w = stands.within in
      let b = stands.behind in
      let a = length-append h s in
      let c = length-append k (s ++ more) in
      let d = length-append s more in
      let bytes : run_bytes new_text run ≡ run_bytes old_text run = same_part run.place (28 * run.count) b (omega arith) in
      let pages : part new_text (run.place + 28 * run.count) (digests_length run.count) ≡ part old_text (run.place + 28 * run.count) (digests_length run.count) =
      same_part (run.place + 28 * run.count) (digests_length run.count) (omega arith) (omega arith) in
      record {
        behind = b;
        within = omega arith;
        pages = pages ∙ stands.pages ∙ ap (page_digests digest) (sym bytes);
        told = stands.told ∙ ap (λ z. digest (page_digests digest z)) (sym bytes);
        sorted = ap (is_sorted byte_cmp) (same_rows run stands) ∙ stands.sorted;
      }

  -- so it is of all runs
  pub all_stand : (runs : List Run) → AllByRecursion (StandsIn digest old_text) runs → AllByRecursion (StandsIn digest new_text) runs
  all_stand [] all = tt
  all_stand (run ∷ runs) all = (still_stands run all.0, all_stand runs all.1)

  pub all_rows : (runs : List Run) → AllByRecursion (StandsIn digest old_text) runs → live_rows new_text runs ≡ live_rows old_text runs
  all_rows [] all = refl
  all_rows (run ∷ runs) all = let one = same_rows run all.0 in let rest = all_rows runs all.1 in λ i. one i ++ rest i
