-- A growing text is read as its repository.
use Rattle.std.proofs.Common.{◌≡◌, ℕ, zero, suc, ◌+◌, ◌-◌, ◌≤◌, ◌<◌, ◌^◌, true, false, cond, refl, sym, ap, subst, ◌∙◌, List, [], ◌∷◌, ◌++◌, length, take, None, Ok, Err, codes, arith, append_assoc, append-nil, length-append, eq-eqb}
use Rattle.std.specs.Prelude.{T, nat_eq, nat_le}
use Rattle.std.specs.Bool.{passes}
use Rattle.std.specs.List.{AllByRecursion, flat_map}
use Rattle.std.specs.Option.{ok_or}
use Rattle.std.proofs.lemmas.Bool.Decides.{nat_tests}
use Rattle.std.proofs.lemmas.List.{drop_at, take_at}
use Rattle.gx_model.specs.declared.objects.Kind.{Kind}
use Rattle.gx_model.specs.declared.store_versions.Version.TheVariants.{Two}
use Rattle.gx_model.specs.declared.store_faults.FileFault.TheVariants as fault
use Rattle.gx_model.specs.Texts.{Bytes, same_bytes}
use Rattle.gx_model.specs.Texts.Numbers.{number_text}
use Rattle.gx_model.specs.Faults.{◌>>=◌}
use Rattle.gx_model.specs.Objects.{IsNamer, line}
use Rattle.gx_model.specs.Histories.{Record, Records}
use Rattle.gx_model.specs.Records.Sound.{IsSound}
use Rattle.gx_model.specs.Stores.StoreText.{stored_record, stored_ref}
use Rattle.gx_model.specs.Stores.StoreReading.{Stored, after_word, next_records, next_refs, only_if, stored_body, stored_count}
use Rattle.gx_model.proofs.Texts.PathTests.{both, is_same, is_true}
use Rattle.gx_model.proofs.Stores.StoreTexts.{body_read, count_read, line_read, word_line_read}
use Rattle.gx_model.proofs.Stores.StoredRecords.{records_read}
use Rattle.gx_model.proofs.Stores.StoredRefs.{refs_read, targets_name, targets_test}
use Rattle.gx_growing.specs.declared.fault.GrowingFault.TheVariants.{BadRows}
use Rattle.gx_growing.specs.GrowingText.{AreSegments, IsGrowingText, IsDigester, IsHead, IsRun, IsSegment, Run, Segment, Slot, first_place, head_length, head_text, is_digest, picked, placed, placed_rows, records_of, run_text, segment_text, slot_text, table_length, tail_text}
use Rattle.gx_growing.specs.GrowingReading.{Front, Grown, after_end, after_third, front_of, grown_of, has_rows, head_of, lifted, next_runs, next_segment, next_segments, next_tail, no_front, place_of, slot_in, slots_of, with_places, with_rows}
use Rattle.gx_growing.proofs.Fields.{AreFields, next_runs_read, slot_read}
use Rattle.gx_growing.proofs.ReadFronts.{head_long, head_read}
use Rattle.gx_growing.proofs.ReadSegments.{segment_flat, tail_flat}
use Rattle.gx_growing.proofs.RowTests.{are_rows, are_standing}
use Rattle.gx_growing.proofs.TextLengths.{back_short, front_short, many_bytes, segment_short, segment_some, tail_counts}

-- ---- tails

-- what is read in the line `end`
abbrev end_rest : Bytes × Bytes → Stored Bytes
end_rest l = only_if (same_bytes l.0 (codes "end")) fault.BadRecord >>= λ u. Ok l.1

end_read : (rest : Bytes) → after_end (codes "end" ++ 10 ∷ rest) ≡ Ok rest
end_read rest = ap (λ s. s >>= end_rest) (line_read (codes "end") rest refl)

-- what is read once the refs are
abbrev named_rest : List Run → List (Bytes × Bytes) × Bytes → Stored ((List Run × List (Bytes × Bytes)) × Bytes)
named_rest runs named = after_end named.1 >>= λ rest. Ok ((runs, named.0), rest)

-- what is read once the refs are counted
abbrev refs_rest : List Record → List Run → ℕ × Bytes → Stored ((List Run × List (Bytes × Bytes)) × Bytes)
refs_rest records runs refs = next_refs refs.0 records None refs.1 >>= named_rest runs

-- what is read once the runs are
abbrev runs_rest : List Record → List Run × Bytes → Stored ((List Run × List (Bytes × Bytes)) × Bytes)
runs_rest records runs = stored_count (codes "refs") runs.1 >>= refs_rest records runs.0

-- what is read once the runs are counted
abbrev runs_count : List Record → ℕ × Bytes → Stored ((List Run × List (Bytes × Bytes)) × Bytes)
runs_count records count = next_runs count.0 count.1 >>= runs_rest records

module _ (name : Kind → Bytes → Bytes) (namer : IsNamer name) where
  -- a tail whose refs are a repository's is read
  tail_read : (rs : List Record) (runs : List Run) (refs : List (Bytes × Bytes)) (rest : Bytes) → IsSound name (record { records = rs; refs = refs }) → AllByRecursion IsRun runs
      → length (tail_text runs refs) < 2 ^ 64 → next_tail rs (tail_text runs refs ++ rest) ≡ Ok ((runs, refs), rest)
  tail_read rs runs refs rest i h l =
      let few = tail_counts runs refs (2 ^ 64) l in
      let ends = codes "end" ++ 10 ∷ rest in
      let refs_text = flat_map stored_ref refs ++ ends in
      ap (next_tail rs) (tail_flat runs refs rest)
      ∙ ap (λ s. s >>= runs_count rs) (count_read (codes "runs") (length runs) (flat_map run_text runs ++ (line (codes "refs") (number_text (length refs)) ++ refs_text)) tt few.0)
      ∙ ap (λ s. s >>= runs_rest rs) (next_runs_read runs (line (codes "refs") (number_text (length refs)) ++ refs_text) h)
      ∙ ap (λ s. s >>= refs_rest rs runs) (count_read (codes "refs") (length refs) refs_text tt few.1)
      ∙ ap (λ s. s >>= named_rest runs) (refs_read rs None refs ends (targets_name name namer rs i.distinct i.named refs i.held) (passes _ i.ref_names) (targets_test rs i.distinct refs i.held) tt (passes _ i.sorted))
      ∙ ap (λ s. s >>= λ r. Ok ((runs, refs), r)) (end_read rest)

  module _ (ends : ℕ) where
    -- ---- one segment

    -- what was read in front of a segment's tail and with it
    abbrev with_tail : Front → List Record → Bytes → Bytes → (List Run × List (Bytes × Bytes)) × Bytes → Stored (Front × Bytes)
    with_tail seen records text table tail =
        Ok (record { records = records; rows = with_places name ends seen records text; tail = table; runs = tail.0.0; refs = tail.0.1 }, tail.1)

    -- what is read once the table is
    abbrev table_rest : Front → List Record → Bytes → Bytes × Bytes → Stored (Front × Bytes)
    table_rest seen records text table = next_tail records table.1 >>= with_tail seen records text table.1

    -- what is read once the rows are counted
    abbrev rows_rest : Front → List Record → Bytes → ℕ × Bytes → Stored (Front × Bytes)
    rows_rest seen records text rows = stored_body (table_length rows.0) rows.1 >>= table_rest seen records text

    -- what is read once the records are
    abbrev records_rest : Front → Bytes → List Record × Bytes → Stored (Front × Bytes)
    records_rest seen text records = stored_count (codes "rows") records.1 >>= rows_rest seen records.0 text

    -- what is read once the records are counted
    abbrev objects_rest : Front → ℕ × Bytes → Stored (Front × Bytes)
    objects_rest seen objects = next_records name Two objects.0 seen.records objects.1 >>= records_rest seen objects.1

    -- what was read with a segment that stands at a place
    abbrev after_segment : Front → ℕ → Segment → Bytes → Front
    after_segment seen place s rest = record {
      records = seen.records ++ s.records;
      rows = seen.rows ++ placed (first_place place s.records) s.records;
      tail = tail_text s.runs s.refs ++ rest;
      runs = s.runs;
      refs = s.refs;
    }

    -- a segment's text behind its first line
    abbrev behind_objects : Segment → Bytes → Bytes
    behind_objects s rest = flat_map (stored_record Two) s.records ++ (line (codes "rows") (number_text s.count) ++ (s.table ++ 10 ∷ (tail_text s.runs s.refs ++ rest)))

    -- the first record of a segment stands behind its first line
    first_there : (s : Segment) (rest : Bytes) (place : ℕ) → ends ≡ place + length (segment_text s ++ rest) → place_of ends (behind_objects s rest) ≡ first_place place s.records
    first_there s rest place e =
        let l = line (codes "objects") (number_text (length s.records)) in
        let a = ap length (segment_flat s rest) ∙ length-append l (behind_objects s rest) in
        left ends place (length l) (length (behind_objects s rest)) (length (segment_text s ++ rest)) e a
      where
        left : (e p l b t : ℕ) → e ≡ p + t → t ≡ l + b → e - b ≡ p + l
        left e p l b t f g = omega arith

    -- a segment is read from its text
    segment_read : (seen : Front) (place : ℕ) (s : Segment) (rest : Bytes) → ends ≡ place + length (segment_text s ++ rest) → IsSegment s
        → IsSound name (record { records = seen.records ++ s.records; refs = s.refs }) → length (segment_text s) < 2 ^ 64
        → next_segment name ends seen (segment_text s ++ rest) ≡ Ok (after_segment seen place s rest, rest)
    segment_read seen place s rest e is sound l =
        let short = segment_short s (2 ^ 64) is l in
        let rs = seen.records ++ s.records in
        let tail = tail_text s.runs s.refs ++ rest in
        let rows = line (codes "rows") (number_text s.count) ++ (s.table ++ 10 ∷ tail) in
        let text = behind_objects s rest in
        let alone : IsSound name (record { records = rs; refs = [] }) = record { named = sound.named; distinct = sound.distinct; linked = sound.linked; paths = sound.paths; sorted = refl; ref_names = refl; held = tt } in
        let table : stored_body (table_length s.count) (s.table ++ 10 ∷ tail) ≡ Ok (s.table, tail) = ap (λ n. stored_body n (s.table ++ 10 ∷ tail)) (sym is.table) ∙ body_read s.table tail in
        let places : with_places name ends seen rs text ≡ seen.rows ++ placed (first_place place s.records) s.records =
        λ i. seen.rows ++ placed (first_there s rest place e i) (drop_at seen.records s.records (length seen.records) refl i) in
        ap (next_segment name ends seen) (segment_flat s rest)
        ∙ ap (λ x. x >>= objects_rest seen) (count_read (codes "objects") (length s.records) text tt short.records)
        ∙ ap (λ x. x >>= records_rest seen text) (records_read name Two namer seen.records s.records rows alone short.bodies)
        ∙ ap (λ x. x >>= rows_rest seen rs text) (count_read (codes "rows") s.count (s.table ++ 10 ∷ tail) tt short.count)
        ∙ ap (λ x. x >>= table_rest seen rs text) table
        ∙ ap (λ x. x >>= with_tail seen rs text tail) (tail_read rs s.runs s.refs rest sound is.runs short.tail)
        ∙ (λ i. Ok (record { records = rs; rows = places i; tail = tail; runs = s.runs; refs = s.refs }, rest))

    -- ---- all segments

    -- what is read once a segment is
    abbrev more_rest : ℕ → Front × Bytes → Stored Front
    more_rest n x = cond (nat_eq (length x.1) 0) (Ok x.0) (next_segments name ends n x.0 x.1)

    -- what was read with these segments, which stand at a place
    abbrev after_segments : Front → ℕ → List Segment → Segment → Front
    after_segments seen place before last = record {
      records = seen.records ++ records_of (before ++ last ∷ []);
      rows = seen.rows ++ placed_rows place (before ++ last ∷ []);
      tail = tail_text last.runs last.refs;
      runs = last.runs;
      refs = last.refs;
    }

    not_none : (n : ℕ) → 1 ≤ n → nat_eq n 0 ≡ false
    not_none n h = grind (arith, nat_tests)

    some_left : (before : List Segment) (last : Segment) → 1 ≤ length (flat_map segment_text (before ++ last ∷ []))
    some_left [] last = let s = segment_some last in let a = length-append (segment_text last) [] in omega (arith, s, a)
    some_left (s ∷ before) last = let t = segment_some s in let a = length-append (segment_text s) (flat_map segment_text (before ++ last ∷ [])) in omega (arith, t, a)

    pub segments_read : (before : List Segment) (last : Segment) (n place : ℕ) (seen : Front) → length before < n
        → ends ≡ place + length (flat_map segment_text (before ++ last ∷ [])) → AreSegments name seen.records (before ++ last ∷ [])
        → length (flat_map segment_text (before ++ last ∷ [])) < 2 ^ 64
        → next_segments name ends n seen (flat_map segment_text (before ++ last ∷ [])) ≡ Ok (after_segments seen place before last)
    segments_read before last zero place seen h e is l = absurd (omega (arith, h))
    segments_read [] last (suc n) place seen h e is l =
        let short = front_short (segment_text last) [] (2 ^ 64) l in
        let front = after_segment seen place last [] in
        ap (λ x. x >>= more_rest n) (segment_read seen place last [] e is.0 is.1 short)
        ∙ (λ i. Ok (record {
          records = seen.records ++ sym (append-nil last.records) i;
          rows = seen.rows ++ sym (append-nil (placed (first_place place last.records) last.records)) i;
          tail = append-nil (tail_text last.runs last.refs) i;
          runs = last.runs;
          refs = last.refs;
        }))
    segments_read (s ∷ before) last (suc n) place seen h e is l =
        let rest = flat_map segment_text (before ++ last ∷ []) in
        let front = after_segment seen place s rest in
        let a = length-append (segment_text s) rest in
        let some = not_none (length rest) (some_left before last) in
        let there = next_place ends place (length (segment_text s)) (length rest) (length (segment_text s ++ rest)) e a in
        let few : length before < n = omega (arith, h) in
        ap (λ x. x >>= more_rest n) (segment_read seen place s rest e is.0 is.1 (front_short (segment_text s) rest (2 ^ 64) l))
        ∙ ap (λ b. cond b (Ok front) (next_segments name ends n front rest)) some
        ∙ segments_read before last n (place + length (segment_text s)) front few there is.2 (back_short (segment_text s) rest (2 ^ 64) l)
        ∙ (λ i. Ok (record {
          records = append_assoc seen.records s.records (records_of (before ++ last ∷ [])) i;
          rows = append_assoc seen.rows (placed (first_place place s.records) s.records) (placed_rows (place + length (segment_text s)) (before ++ last ∷ [])) i;
          tail = tail_text last.runs last.refs;
          runs = last.runs;
          refs = last.refs;
        }))
      where
        next_place : (e p s r t : ℕ) → e ≡ p + t → t ≡ s + r → e ≡ (p + s) + r
        next_place e p s r t a b = omega arith

-- ---- the whole

module _ (name : Kind → Bytes → Bytes) (namer : IsNamer name) (digest : Bytes → Bytes) (digester : IsDigester digest) where
  -- what is read once the segments are
  abbrev tail_rest : Slot → Front → Stored (Slot × Front)
  tail_rest slot front = only_if (nat_eq (place_of slot.ends front.tail) slot.tail) fault.BadRecord >>= λ u. Ok (slot, front)

  -- what is read once the head is
  abbrev front_rest : Slot × Bytes → Stored (Slot × Front)
  front_rest head = next_segments name head.0.ends head.0.ends no_front (take (head.0.ends - head_length) head.1) >>= tail_rest head.0

  -- what is read once the front is
  abbrev rows_of : Bytes → Slot × Front → Grown Records
  rows_of text read = with_rows digest (take read.0.ends text) read.0 read.1

  module _ (text : Bytes) (r : Records) (g : IsGrowingText name digest text r) (l : length text < 2 ^ 63) where
    abbrev segments_text : Bytes
    segments_text = flat_map segment_text (g.before ++ g.last ∷ [])

    abbrev front : Front
    front = after_segments name namer g.slot.ends no_front head_length g.before g.last

    -- the text ends behind its segments
    whole : length text ≡ g.slot.ends + length g.behind
    whole =
        let a = ap length g.spelled ∙ length-append (head_text g.pick g.first g.second) (segments_text ++ g.behind) ∙ ap (λ n. n + length (segments_text ++ g.behind)) (head_long g.pick g.first g.second g.head) in
        let b = length-append segments_text g.behind in
        sum (length segments_text) (length g.behind) (length (segments_text ++ g.behind)) g.slot.ends (length text) a b g.ends
      where
        sum : (s b t e u : ℕ) → u ≡ 226 + t → t ≡ s + b → e ≡ 226 + s → u ≡ e + b
        sum s b t e u p q m = omega arith

    fields : AreFields g.slot.ends g.slot.tail g.slot.digest
    fields =
        let w = whole in
        let t = g.tail in
        let tail = tail_text g.last.runs g.last.refs in
        record {
          one = small (length text) g.slot.ends (length g.behind) w l;
          other = smaller g.slot.tail (length tail) g.slot.ends (small (length text) g.slot.ends (length g.behind) w l) t;
          is = subst (λ z. T (is_digest z)) (sym g.tail_digest) (passes _ (digester tail));
        }
      where
        small : (t e b : ℕ) → t ≡ e + b → t < 2 ^ 63 → e < 2 ^ 64
        small t e b w h = omega arith

        smaller : (t n e : ℕ) → e < 2 ^ 64 → t + n ≡ e → t < 2 ^ 64
        smaller t n e h w = omega arith

    -- the head and the segments of a growing text are read
    front_read : front_of name text ≡ Ok (g.slot, front)
    front_read =
        let ends = g.slot.ends in
        let inside : ends ≤ length (head_text g.pick g.first g.second ++ (segments_text ++ g.behind)) = subst (λ t. ends ≤ length t) g.spelled (before_end (length text) ends (length g.behind) whole) in
        let cut : take (ends - head_length) (segments_text ++ g.behind) ≡ segments_text =
        ap (λ n. take n (segments_text ++ g.behind)) (left ends (length segments_text) g.ends) ∙ take_at segments_text g.behind (length segments_text) refl in
        let few : length g.before < ends =
        fewer (length g.before) (length (g.before ++ g.last ∷ [])) (length segments_text) ends (many_bytes segment_text segment_some (g.before ++ g.last ∷ [])) (length-append g.before (g.last ∷ [])) g.ends in
        let short : length segments_text < 2 ^ 64 = shorter (length segments_text) ends g.ends fields.one in
        let there : nat_eq (place_of ends (tail_text g.last.runs g.last.refs)) g.slot.tail ≡ true =
        eq-eqb (place_of ends (tail_text g.last.runs g.last.refs)) g.slot.tail (begun g.slot.tail (length (tail_text g.last.runs g.last.refs)) ends g.tail) in
        ap (front_of name) g.spelled
        ∙ ap (λ s. s >>= front_rest) (head_read g.pick g.first g.second (segments_text ++ g.behind) g.slot g.head (ap slot_in g.slot_is ∙ slot_read g.slot fields) inside)
        ∙ ap (λ t. next_segments name ends ends no_front t >>= tail_rest g.slot) cut
        ∙ ap (λ s. s >>= tail_rest g.slot) (segments_read name namer ends g.before g.last ends head_length no_front few g.ends g.segments short)
        ∙ ap (λ b. only_if b fault.BadRecord >>= λ u. Ok (g.slot, front)) there
      where
        before_end : (t e b : ℕ) → t ≡ e + b → e ≤ t
        before_end t e b h = omega arith

        left : (e s : ℕ) → e ≡ 226 + s → e - 226 ≡ s
        left e s h = omega arith

        shorter : (s e : ℕ) → e ≡ 226 + s → e < 2 ^ 64 → s < 2 ^ 64
        shorter s e h k = omega arith

        begun : (t n e : ℕ) → t + n ≡ e → e - n ≡ t
        begun t n e h = omega arith

        fewer : (b n s e : ℕ) → n ≤ s → n ≡ b + 1 → e ≡ 226 + s → b < e
        fewer b n s e x y z = omega arith

    rows_right : has_rows digest (take g.slot.ends text) g.slot front ≡ true
    rows_right =
        let up_to = take g.slot.ends text in
        is_true _ (both _ _ (both _ _ (is_same g.slot.digest (digest (tail_text g.last.runs g.last.refs)) g.tail_digest) (are_standing digest up_to g.last.runs g.live)) (passes _ (are_rows _ _ g.told)))

    -- a growing text is read as its repository
    pub growing_read : grown_of name digest text ≡ Ok r
    unfolding grown_of
    growing_read =
        ap (λ s. lifted s >>= rows_of text) front_read
        ∙ ap (λ b. cond b (Ok (record { records = records_of (g.before ++ g.last ∷ []); refs = g.last.refs })) (Err BadRows)) rows_right
        ∙ (λ i. Ok (record { records = g.records i; refs = g.refs i }))
