-- A growing text takes a segment that brings objects, and whose run takes in the rows of some live runs.
use Rattle.std.proofs.Common.{◌≡◌, ℕ, suc, ◌+◌, ◌*◌, ◌-◌, ◌≤◌, ◌<◌, ◌^◌, refl, sym, ap, subst, ◌∙◌, List, [], ◌∷◌, ◌++◌, length, map, codes, arith, append_assoc, append-nil, length-append}
use Rattle.std.specs.Prelude.{IsTrue}
use Rattle.std.specs.List.{AllByRecursion, AllZip, flat_map}
use Rattle.std.specs.List.Sorted.{IsPermutation}
use Rattle.std.specs.FinMap.Entries.{is_sorted}
use Rattle.std.proofs.lemmas.Grind.{flat_map-append}
use Rattle.std.proofs.lemmas.List.Sorted.{IsPermutation-append_left, IsPermutation-sym}
use Rattle.gx_model.specs.declared.objects.Kind.{Kind}
use Rattle.gx_model.specs.declared.store_versions.Version.TheVariants.{Two}
use Rattle.gx_model.specs.Texts.{Bytes, byte_cmp}
use Rattle.gx_model.specs.Texts.Numbers.{number_text}
use Rattle.gx_model.specs.Objects.{IsNamer, line}
use Rattle.gx_model.specs.Histories.{AreDistinct, Record, Records}
use Rattle.gx_model.specs.Records.Sound.{IsSound}
use Rattle.gx_model.specs.Stores.StoreText.{stored_record}
use Rattle.gx_model.proofs.ObjectTexts.OneTree.{all_left, all_right}
use Rattle.gx_growing.specs.GrowingText.{IsDigester, IsGrowingText, IsHead, IsRun, IsSegment, Row, Run, Segment, StandsIn, first_place, head_length, head_text, live_rows, page_digests, placed, placed_rows, records_of, row_text, run_rows, segment_text, sorted_rows, table_length, tail_text}
use Rattle.gx_growing.specs.GrowingLaws.{grown_text}
use Rattle.gx_growing.proofs.ReadFronts.{head_long}
use Rattle.gx_growing.proofs.RowsTell.{same_sorted}
use Rattle.gx_growing.proofs.SortedRows.{placed_long, sorted_all, sorted_long}
use Rattle.gx_growing.proofs.StandingRuns.{IsRow, pages_long, rows_long, run_has, run_here, run_stands, table_text}
use Rattle.gx_growing_rows.specs.NextTable.{next_place, next_rows}
use Rattle.gx_growing_rows.proofs.JoinedRows.{held_apart, joined_rise, joined_told}
use Rattle.gx_append.specs.Appending.{Takes}
use Rattle.gx_additions.specs.NewObjects.{new_objects, new_run}
use Rattle.gx_additions.proofs.OldTexts.{all_rows, all_stand, last_is, old_part, segments_of, up_to}
use Rattle.gx_additions.proofs.RowLists.{Names, all_behind, named_rows, names_both, placed_named, records_within, rows_named}

-- what holds of all elements of two lists holds of those of both
all_both : {X : Type 0} (P : X → Type 0) (xs ys : List X) → AllByRecursion P xs → AllByRecursion P ys → AllByRecursion P (xs ++ ys)
all_both P [] ys h g = g
all_both P (x ∷ xs) ys h g = (h.0, all_both P xs ys h.1 g)

-- what holds of a run of some rows holds of the run of rows, if there are any
run_all : (digest : Bytes → Bytes) (P : Run → Type 0) (place : ℕ) (rows : List Row) (digests : Bytes) → P (record { place = place; count = length rows; digest = digest digests })
    → AllByRecursion P (new_run digest place (length rows) digests)
run_all digest P place [] digests p = tt
run_all digest P place (x ∷ xs) digests p = (p, tt)

-- so it is with its rows
run_live : (digest : Bytes → Bytes) (text : Bytes) (place : ℕ) (rows : List Row) (digests : Bytes) → run_rows text (record { place = place; count = length rows; digest = digest digests }) ≡ rows
    → live_rows text (new_run digest place (length rows) digests) ≡ rows
run_live digest text place [] digests e = refl
run_live digest text place (x ∷ xs) digests e = append-nil (run_rows text (record { place = place; count = length (x ∷ xs); digest = digest digests })) ∙ e

module _ (name : Kind → Bytes → Bytes) (namer : IsNamer name) (digest : Bytes → Bytes) (digester : IsDigester digest) (text : Bytes) (repository new : Records) (old : IsGrowingText name digest text repository)
    (kept taken : List Run) (news : List Record) (runs_are : kept ++ taken ≡ old.last.runs) (records_are : new.records ≡ repository.records ++ news) (sound : IsSound name new) (was_short : length text < 2 ^ 63)
    (is_short : old.slot.ends + length (segment_text (new_objects digest old.slot.ends kept (live_rows text taken) news new.refs)) < 2 ^ 63) where
  abbrev ends : ℕ
  ends = old.slot.ends

  abbrev all : List Segment
  all = old.before ++ old.last ∷ []

  abbrev segments : Bytes
  segments = segments_of name digest text repository old

  abbrev old_head : Bytes
  old_head = head_text old.pick old.first old.second

  old_long : length old_head ≡ head_length
  old_long = head_long old.pick old.first old.second old.head

  abbrev segment : Segment
  segment = new_objects digest ends kept (live_rows text taken) news new.refs

  -- the rows of the new records, and all rows of the new run
  abbrev new_rows : List Row
  new_rows = placed (first_place ends news) news

  abbrev rows : List Row
  rows = next_rows ends news (live_rows text taken)

  abbrev bytes : Bytes
  bytes = flat_map row_text rows

  abbrev pages : Bytes
  pages = page_digests digest bytes

  abbrev place : ℕ
  place = next_place ends news (length (live_rows text taken))

  -- ---- the old runs

  live_before : AllByRecursion (StandsIn digest (old_head ++ segments)) (kept ++ taken)
  live_before = subst (λ rs. AllByRecursion (StandsIn digest (old_head ++ segments)) rs) (sym runs_are)
      (subst (λ z. AllByRecursion (StandsIn digest z) old.last.runs) (up_to name digest text repository old) old.live)

  -- the rows of runs that stand up to the end are those of the file
  in_file : (runs : List Run) → AllByRecursion (StandsIn digest (old_head ++ segments)) runs → live_rows text runs ≡ live_rows (old_head ++ segments) runs
  in_file runs stand = ap (λ z. live_rows z runs) old.spelled ∙ all_rows digest old_head old_head segments old.behind old_long old_long runs stand

  -- ---- all rows, in two orders

  -- first those of all records in their order
  abbrev in_order : List Row
  in_order = placed_rows head_length all ++ new_rows

  -- and by runs
  abbrev by_runs : List Row
  by_runs = live_rows (old_head ++ segments) kept ++ (live_rows text taken ++ new_rows)

  told_before : sorted_rows (live_rows (old_head ++ segments) (kept ++ taken)) ≡ sorted_rows (placed_rows head_length all)
  told_before = (λ i. sorted_rows (live_rows (sym (up_to name digest text repository old) i) (runs_are i))) ∙ old.told

  -- those that stay, and those that are taken in
  told_apart : sorted_rows (live_rows (old_head ++ segments) kept ++ live_rows text taken) ≡ sorted_rows (placed_rows head_length all)
  told_apart =
      ap (λ z. sorted_rows (live_rows (old_head ++ segments) kept ++ z)) (in_file taken (all_right (StandsIn digest (old_head ++ segments)) kept taken live_before))
      ∙ ap sorted_rows (sym (flat_map-append (run_rows (old_head ++ segments)) kept taken)) ∙ told_before

  permuted : IsPermutation in_order by_runs
  permuted =
      let k = live_rows (old_head ++ segments) kept in
      let t = live_rows text taken in
      subst (IsPermutation in_order) (append_assoc k t new_rows)
      (IsPermutation-append_left new_rows (placed_rows head_length all) (k ++ t) (IsPermutation-sym (k ++ t) (placed_rows head_length all) (same_sorted (k ++ t) (placed_rows head_length all) told_apart)))

  named : AllZip Names in_order new.records
  named =
      let within = records_within ends segment in
      let one = rows_named head_length all (short old.ends) in
      let more = placed_named (first_place ends news) news (less (first_place ends news + length (flat_map (stored_record Two) news)) (ends + length (segment_text segment)) within is_short) in
      subst (AllZip Names in_order) (ap (λ z. z ++ news) old.records ∙ sym records_are) (names_both (placed_rows head_length all) new_rows (records_of all) news one more)
    where
      less : (a b : ℕ) → a ≤ b → b < 2 ^ 63 → a < 2 ^ 63
      less a b h l = omega arith

      short : ends ≡ head_length + length segments → head_length + length segments < 2 ^ 63
      short e = omega (arith, e, is_short)

  -- ---- the new run's rows

  rows_are : AllByRecursion IsRow rows
  rows_are = sorted_all IsRow (live_rows text taken ++ new_rows)
      (all_behind IsRow in_order (live_rows (old_head ++ segments) kept) (live_rows text taken ++ new_rows) permuted (named_rows name namer in_order new.records named sound.named))

  rows_rise : IsTrue (is_sorted byte_cmp rows)
  rows_rise =
      let distinct = subst (λ rs. AreDistinct (map (λ r. r.name) rs)) (records_are ∙ ap (λ z. z ++ news) (sym old.records)) sound.distinct in
      joined_rise (live_rows (old_head ++ segments) kept) (live_rows text taken) (placed_rows head_length all) new_rows told_apart (held_apart head_length (first_place ends news) all news distinct)

  count_is : length rows ≡ length (live_rows text taken) + length news
  count_is = sorted_long (live_rows text taken ++ new_rows) ∙ length-append (live_rows text taken) new_rows ∙ ap (λ n. length (live_rows text taken) + n) (placed_long (first_place ends news) news)

  -- ---- where they stand

  abbrev objects_line : Bytes
  objects_line = line (codes "objects") (number_text (length news))

  abbrev rows_line : Bytes
  rows_line = line (codes "rows") (number_text (length rows))

  abbrev records_bytes : Bytes
  records_bytes = flat_map (stored_record Two) news

  abbrev tail : Bytes
  tail = tail_text segment.runs segment.refs

  module _ (pick first second : Bytes) (head : IsHead pick first second) where
    -- what stands in front of the rows in the grown text, and what behind their digests
    abbrev front : Bytes
    front = head_text pick first second ++ (segments ++ (objects_line ++ (records_bytes ++ rows_line)))

    abbrev grown : Bytes
    grown = grown_text pick first second ends text segment

    split : grown ≡ table_text digest digester front (10 ∷ tail) rows rows_are
    split = ap (λ z. head_text pick first second ++ (z ++ segment_text segment)) (old_part name digest text repository old)
        ∙ grouped (head_text pick first second) segments objects_line records_bytes rows_line bytes pages tail
      where
        grouped : (h s a b c d e t : Bytes) → h ++ (s ++ (a ++ (b ++ (c ++ ((d ++ e) ++ (10 ∷ t)))))) ≡ (h ++ (s ++ (a ++ (b ++ c)))) ++ (d ++ (e ++ (10 ∷ t)))
        grouped h s a b c d e t = simp append_assoc

    place_is : place ≡ length front
    place_is =
        sums ends (length segments) (length objects_line) (length records_bytes) (length rows_line) (length (records_bytes ++ rows_line)) (length (objects_line ++ (records_bytes ++ rows_line))) (length (segments ++ (objects_line ++ (records_bytes ++ rows_line))))
        (length (head_text pick first second)) (length front) (length (line (codes "rows") (number_text (length (live_rows text taken) + length news)))) old.ends (head_long pick first second head)
        (length-append (head_text pick first second) (segments ++ (objects_line ++ (records_bytes ++ rows_line)))) (length-append segments (objects_line ++ (records_bytes ++ rows_line))) (length-append objects_line (records_bytes ++ rows_line))
        (length-append records_bytes rows_line) (ap (λ n. length (line (codes "rows") (number_text n))) count_is)
      where
        sums : (e s o r w rw orw sorw h f k : ℕ) → e ≡ 226 + s → h ≡ 226 → f ≡ h + sorw → sorw ≡ s + orw → orw ≡ o + rw → rw ≡ r + w → w ≡ k → ((e + o) + r) + k ≡ f
        sums e s o r w rw orw sorw h f k a b c d g i j = omega arith

    abbrev run : Run
    run = record { place = place; count = length rows; digest = digest pages }

    run_is : run ≡ run_here digest digester front (10 ∷ tail) rows rows_are
    run_is = λ i. record { place = place_is i; count = length rows; digest = digest pages }

    stands : StandsIn digest grown run
    stands =
        let a = length-append (head_text pick first second) (segments ++ (objects_line ++ (records_bytes ++ rows_line))) in
        let b = head_long pick first second head in
        subst (λ z. StandsIn digest z run) (sym split)
        (subst (StandsIn digest (table_text digest digester front (10 ∷ tail) rows rows_are)) (sym run_is) (run_stands digest digester front (10 ∷ tail) rows rows_are (omega (arith, a, b)) rows_rise))

    rows_there : live_rows grown (new_run digest place (length rows) pages) ≡ rows
    rows_there = run_live digest grown place rows pages ((λ i. run_rows (split i) (run_is i)) ∙ run_has digest digester front (10 ∷ tail) rows rows_are)

    -- ---- all runs

    in_grown : live_rows grown kept ≡ live_rows (old_head ++ segments) kept
    in_grown =
        ap (λ z. live_rows (head_text pick first second ++ (z ++ segment_text segment)) kept) (old_part name digest text repository old)
        ∙ all_rows digest old_head (head_text pick first second) segments (segment_text segment) old_long (head_long pick first second head) kept (all_left (StandsIn digest (old_head ++ segments)) kept taken live_before)

    live : AllByRecursion (StandsIn digest grown) segment.runs
    live =
        all_both (StandsIn digest grown) kept (new_run digest place (length rows) pages)
        (subst (λ z. AllByRecursion (StandsIn digest (head_text pick first second ++ (z ++ segment_text segment))) kept) (sym (old_part name digest text repository old))
        (all_stand digest old_head (head_text pick first second) segments (segment_text segment) old_long (head_long pick first second head) kept (all_left (StandsIn digest (old_head ++ segments)) kept taken live_before)))
        (run_all digest (StandsIn digest grown) place rows pages stands)

    told : sorted_rows (live_rows grown segment.runs) ≡ sorted_rows in_order
    told =
        ap sorted_rows (flat_map-append (run_rows grown) kept (new_run digest place (length rows) pages) ∙ (λ i. in_grown i ++ rows_there i))
        ∙ joined_told (live_rows (old_head ++ segments) kept) (live_rows text taken) (placed_rows head_length all) new_rows told_apart

  -- ---- the segment

  table_long : length segment.table ≡ table_length segment.count
  table_long = length-append bytes pages ∙ (λ i. rows_long rows rows_are i + pages_long digest digester [] [] rows rows_are i)

  segment_long : length (segment_text segment) ≡ length objects_line + (length records_bytes + (length rows_line + ((length bytes + length pages) + suc (length tail))))
  segment_long =
      length-append objects_line (records_bytes ++ (rows_line ++ ((bytes ++ pages) ++ (10 ∷ tail))))
      ∙ ap (λ n. length objects_line + n) (length-append records_bytes (rows_line ++ ((bytes ++ pages) ++ (10 ∷ tail))) ∙ ap (λ n. length records_bytes + n) (length-append rows_line ((bytes ++ pages) ++ (10 ∷ tail))
      ∙ ap (λ n. length rows_line + n) (length-append (bytes ++ pages) (10 ∷ tail) ∙ ap (λ n. n + suc (length tail)) (length-append bytes pages))))

  is_run : IsRun (record { place = place; count = length rows; digest = digest pages })
  is_run =
      let w = ap (λ n. length (line (codes "rows") (number_text n))) count_is in
      let k = length (line (codes "rows") (number_text (length (live_rows text taken) + length news))) in
      let b = bounds ends (length objects_line) (length records_bytes) (length rows_line) (length bytes) (length pages) (length tail) (length (segment_text segment)) k (length rows) segment_long w (rows_long rows rows_are) is_short in
      record { place = b.0; count = b.1; digest = digester pages }
    where
      bounds : (e o r w b p t s k n : ℕ) → s ≡ o + (r + (w + ((b + p) + suc t))) → w ≡ k → b ≡ 28 * n → e + s < 2 ^ 63 → (((e + o) + r) + k < 2 ^ 64) × (n < 2 ^ 64)
      bounds e o r w b p t s k n f g h l = (omega arith, omega arith)

  whole : IsSegment segment
  whole = record {
    table = table_long;
    runs = all_both IsRun kept (new_run digest place (length rows) pages) (all_left IsRun kept taken (subst (AllByRecursion IsRun) (sym runs_are) (last_is name [] old.before old.last old.segments).runs)) (run_all digest IsRun place rows pages is_run);
  }

  pub additions_taken : Takes name digest text repository new old segment
  additions_taken = record {
    whole = whole;
    records = records_are;
    refs = refl;
    sound = sound;
    live = live;
    told = told;
    was_short = was_short;
    is_short = is_short;
  }
