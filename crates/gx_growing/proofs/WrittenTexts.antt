-- The text that a writer makes anew is a growing one of its repository.
use Rattle.std.proofs.Common.{◌≡◌, ℕ, suc, ◌+◌, ◌*◌, ◌-◌, ◌≤◌, ◌<◌, ◌^◌, refl, sym, ap, subst, ◌∙◌, List, [], ◌∷◌, ◌++◌, length, take, codes, arith, append_assoc, append-nil, length-append, eqb→eq}
use Rattle.std.specs.Prelude.{T, nat_eq}
use Rattle.std.specs.Bool.{passes}
use Rattle.std.specs.List.{AllByRecursion, flat_map}
use Rattle.std.specs.FinMap.Entries.{is_sorted}
use Rattle.std.proofs.lemmas.List.{take_all}
use Rattle.gx_model.specs.declared.objects.Kind.{Kind}
use Rattle.gx_model.specs.declared.store_versions.Version.TheVariants.{Two}
use Rattle.gx_model.specs.Texts.{Bytes, byte_cmp}
use Rattle.gx_model.specs.Texts.Numbers.{number_text}
use Rattle.gx_model.specs.Objects.{IsNamer, hex, is_name, line}
use Rattle.gx_model.specs.Histories.{Record, Records}
use Rattle.gx_model.specs.Records.Sound.{IsSound}
use Rattle.gx_model.specs.Stores.StoreText.{stored_record}
use Rattle.gx_model.proofs.Texts.PathTests.{first, is_true}
use Rattle.gx_model.proofs.ObjectTexts.TreePaths.{name_is_name}
use Rattle.gx_model.proofs.Records.ReadRecords.{hex_long}
use Rattle.gx_growing.specs.GrowingText.{IsDigester, IsGrowingText, IsHead, IsRun, Row, Run, Segment, Slot, StandsIn, first_place, first_rows, first_runs, first_segment, first_slot, growing_text, head_length, head_text, live_rows, long_number, no_slot, page_digests, placed, rows_place, run_rows, segment_text, slot_text, sorted_rows, table_length, tail_text}
use Rattle.gx_growing.proofs.Fields.{AreFields, digest_long, long_length}
use Rattle.gx_growing.proofs.ReadFronts.{head_long}
use Rattle.gx_growing.proofs.SortedRows.{placed_apart, placed_long, rows_sorted, sorted_again, sorted_all, sorted_long}
use Rattle.gx_growing.proofs.StandingRuns.{IsRow, pages_long, rows_long, run_has, run_here, run_stands, table_text}
use Rattle.gx_growing.proofs.TextLengths.{back_short, many_bytes, record_some}

-- ---- slots

-- a slot has 106 bytes
pub slot_long : (s : Slot) → AreFields s.ends s.tail s.digest → length (slot_text s) ≡ 106
slot_long s h =
    let a = long_number s.ends in
    let b = long_number s.tail in
    let c = hex s.digest in
    let d = digest_long s.digest h.is in
    sum (length a) (length b) (length c) (length s.digest) (length (b ++ (32 ∷ c))) (length (slot_text s))
    (long_length s.ends h.one) (long_length s.tail h.other) (hex_long s.digest) d (length-append b (32 ∷ c)) (length-append a (32 ∷ (b ++ (32 ∷ c))))
  where
    sum : (a b c d e t : ℕ) → a ≡ 20 → b ≡ 20 → c ≡ 2 * d → d ≡ 32 → e ≡ b + suc c → t ≡ a + suc e → t ≡ 106
    sum a b c d e t g h i j k l = omega arith

-- ---- rows of records

-- records that stand one behind the other have rows with places below where they end
placed_are : (name : Kind → Bytes → Bytes) → IsNamer name → (place : ℕ) (rs : List Record) → AllByRecursion (λ r. r.name ≡ name r.kind r.body) rs
    → place + length (flat_map (stored_record Two) rs) < 2 ^ 64 → AllByRecursion IsRow (placed place rs)
placed_are name namer place [] h l = tt
placed_are name namer place (r ∷ rs) h l =
    let long : length r.name ≡ 20 = eqb→eq (length r.name) 20 (first (nat_eq (length r.name) 20) _ (subst (λ n. T (is_name n)) (sym h.0) (name_is_name name namer r.kind r.body))) in
    let a = length-append (stored_record Two r) (flat_map (stored_record Two) rs) in
    let t = length (stored_record Two r) in
    let m = length (flat_map (stored_record Two) rs) in
    let w = length (stored_record Two r ++ flat_map (stored_record Two) rs) in
    ((long, here place w l), placed_are name namer (place + t) rs h.1 (there place t m w a l))
  where
    here : (p w : ℕ) → p + w < 2 ^ 64 → p < 2 ^ 64
    here p w l = omega arith

    there : (p t m w : ℕ) → w ≡ t + m → p + w < 2 ^ 64 → (p + t) + m < 2 ^ 64
    there p t m w a l = omega arith

-- ---- the whole

-- the run of records that stand in the first segment
abbrev run_of : (Bytes → Bytes) → List Record → Run
run_of digest rs = record { place = rows_place rs; count = length rs; digest = digest (page_digests digest (first_rows rs)) }

-- what holds of that run holds of all
runs_all : (digest : Bytes → Bytes) (P : Run → Type 0) (rs : List Record) → P (run_of digest rs) → AllByRecursion P (first_runs digest rs)
runs_all digest P [] p = tt
runs_all digest P (r ∷ rs) p = (p, tt)

-- the rows of that run are all
runs_live : (digest : Bytes → Bytes) (text : Bytes) (rs : List Record) → run_rows text (run_of digest rs) ≡ sorted_rows (placed (first_place head_length rs) rs)
    → live_rows text (first_runs digest rs) ≡ sorted_rows (placed (first_place head_length rs) rs)
runs_live digest text [] e = refl
runs_live digest text (r ∷ rs) e = append-nil (run_rows text (run_of digest (r ∷ rs))) ∙ e

module _ (name : Kind → Bytes → Bytes) (namer : IsNamer name) (digest : Bytes → Bytes) (digester : IsDigester digest) (r : Records) (i : IsSound name r) (l : length (growing_text digest r) < 2 ^ 63) where
  abbrev segment : Segment
  segment = first_segment digest r

  abbrev slot : Slot
  slot = first_slot digest segment

  abbrev head : Bytes
  head = head_text (codes "a") (slot_text slot) (slot_text no_slot)

  abbrev tail : Bytes
  tail = tail_text segment.runs segment.refs

  -- the rows, in their order
  abbrev rows : List Row
  rows = sorted_rows (placed (first_place head_length r.records) r.records)

  abbrev objects_line : Bytes
  objects_line = line (codes "objects") (number_text (length r.records))

  abbrev rows_line : Bytes
  rows_line = line (codes "rows") (number_text (length r.records))

  abbrev records_bytes : Bytes
  records_bytes = flat_map (stored_record Two) r.records

  -- what stands in front of the rows in a segment
  abbrev front : Bytes
  front = objects_line ++ (records_bytes ++ rows_line)

  -- the segment, in front of its rows, with them, and behind them
  segment_split : segment_text segment ≡ front ++ (first_rows r.records ++ (page_digests digest (first_rows r.records) ++ (10 ∷ tail)))
  segment_split = grouped objects_line records_bytes rows_line (first_rows r.records) (page_digests digest (first_rows r.records)) tail
    where
      grouped : (a b c d e t : Bytes) → a ++ (b ++ (c ++ ((d ++ e) ++ (10 ∷ t)))) ≡ (a ++ (b ++ c)) ++ (d ++ (e ++ (10 ∷ t)))
      grouped a b c d e t = simp append_assoc

  -- how long the parts are
  pub record HaveLengths : Type 0 where
    pub segment_is : length (segment_text segment) ≡ length front + length (first_rows r.records ++ (page_digests digest (first_rows r.records) ++ (10 ∷ tail)))
    pub front_is : length front ≡ length objects_line + (length records_bytes + length rows_line)
    pub short : head_length + length (segment_text segment) < 2 ^ 64

  lengths : HaveLengths
  unfolding growing_text
  lengths = record {
    segment_is = ap length segment_split ∙ length-append front (first_rows r.records ++ (page_digests digest (first_rows r.records) ++ (10 ∷ tail)));
    front_is = length-append objects_line (records_bytes ++ rows_line) ∙ ap (λ n. length objects_line + n) (length-append records_bytes rows_line);
    short = small (length (segment_text segment)) (back_short head (segment_text segment) (2 ^ 63) l);
  }
    where
      small : (s : ℕ) → s < 2 ^ 63 → 226 + s < 2 ^ 64
      small s h = omega arith

  slot_fields : AreFields slot.ends slot.tail slot.digest
  slot_fields = record { one = lengths.short; other = below slot.ends (length tail) lengths.short; is = passes _ (digester tail) }
    where
      below : (e t : ℕ) → e < 2 ^ 64 → e - t < 2 ^ 64
      below e t h = omega arith

  is_head : IsHead (codes "a") (slot_text slot) (slot_text no_slot)
  is_head = record { one_byte = refl; of_first = slot_long slot slot_fields; of_second = slot_long no_slot (record { one = omega arith; other = omega arith; is = tt }) }

  behind_head : (text : Bytes) → length (head ++ text) ≡ head_length + length text
  behind_head text = length-append head text ∙ ap (λ n. n + length text) (head_long (codes "a") (slot_text slot) (slot_text no_slot) is_head)

  rows_are : AllByRecursion IsRow rows
  rows_are =
      let h = lengths in
      let l = below (length objects_line) (length records_bytes) (length rows_line) (length front) (length (first_rows r.records ++ (page_digests digest (first_rows r.records) ++ (10 ∷ tail)))) (length (segment_text segment)) h.front_is h.segment_is h.short in
      sorted_all IsRow (placed (first_place head_length r.records) r.records) (placed_are name namer (first_place head_length r.records) r.records i.named l)
    where
      below : (o b w f c s : ℕ) → f ≡ o + (b + w) → s ≡ f + c → 226 + s < 2 ^ 64 → (226 + o) + b < 2 ^ 64
      below o b w f c s x y z = omega arith

  rows_count : length rows ≡ length r.records
  rows_count = sorted_long (placed (first_place head_length r.records) r.records) ∙ placed_long (first_place head_length r.records) r.records

  -- the text, in front of its rows, with them, and behind them
  text_split : growing_text digest r ≡ table_text digest digester (head ++ front) (10 ∷ tail) rows rows_are
  unfolding growing_text
  text_split = ap (λ z. head ++ z) segment_split ∙ sym (append_assoc head front (first_rows r.records ++ (page_digests digest (first_rows r.records) ++ (10 ∷ tail))))

  place_is : rows_place r.records ≡ length (head ++ front)
  place_is =
      let h = lengths in
      let e = behind_head front in
      there (length objects_line) (length records_bytes) (length rows_line) (length front) (length (head ++ front)) h.front_is e
    where
      there : (o b w f t : ℕ) → f ≡ o + (b + w) → t ≡ 226 + f → ((226 + o) + b) + w ≡ t
      there o b w f t x y = omega arith

  run_is : run_of digest r.records ≡ run_here digest digester (head ++ front) (10 ∷ tail) rows rows_are
  run_is = λ j. record { place = place_is j; count = sym rows_count j; digest = digest (page_digests digest (first_rows r.records)) }

  -- the text ends where its slot says
  ends_there : length (growing_text digest r) ≡ slot.ends
  unfolding growing_text
  ends_there = behind_head (segment_text segment)

  up_to : table_text digest digester (head ++ front) (10 ∷ tail) rows rows_are ≡ take slot.ends (growing_text digest r)
  up_to = sym text_split ∙ sym (take_all slot.ends (growing_text digest r) (last (length (growing_text digest r)) slot.ends ends_there))
    where
      last : (n e : ℕ) → n ≡ e → n ≤ e
      last n e h = omega arith

  sorted : T (is_sorted byte_cmp rows)
  sorted = rows_sorted (placed (first_place head_length r.records) r.records) (placed_apart (first_place head_length r.records) r.records i.distinct)

  stands : StandsIn digest (take slot.ends (growing_text digest r)) (run_of digest r.records)
  stands =
      let here = run_stands digest digester (head ++ front) (10 ∷ tail) rows rows_are (behind (length (head ++ front)) (length front) (behind_head front)) (is_true _ sorted) in
      subst (λ t. StandsIn digest t (run_of digest r.records)) up_to
      (subst (StandsIn digest (table_text digest digester (head ++ front) (10 ∷ tail) rows rows_are)) (sym run_is) here)
    where
      behind : (t f : ℕ) → t ≡ 226 + f → 226 ≤ t
      behind t f h = omega arith

  has_rows : run_rows (take slot.ends (growing_text digest r)) (run_of digest r.records) ≡ rows
  has_rows = (λ j. run_rows (sym up_to j) (run_is j)) ∙ run_has digest digester (head ++ front) (10 ∷ tail) rows rows_are

  table_long : length segment.table ≡ table_length segment.count
  table_long =
      length-append (first_rows r.records) (page_digests digest (first_rows r.records))
      ∙ (λ j. rows_long rows rows_are j + pages_long digest digester (head ++ front) (10 ∷ tail) rows rows_are j)
      ∙ ap table_length rows_count

  is_run : IsRun (run_of digest r.records)
  is_run =
      let h = lengths in
      record {
        place = below (length objects_line) (length records_bytes) (length rows_line) (length front) (length (first_rows r.records ++ (page_digests digest (first_rows r.records) ++ (10 ∷ tail)))) (length (segment_text segment)) h.front_is h.segment_is h.short;
        count = fewer (length r.records) (length records_bytes) (many_bytes (stored_record Two) record_some r.records)
            (below_records (length objects_line) (length records_bytes) (length rows_line) (length front) (length (first_rows r.records ++ (page_digests digest (first_rows r.records) ++ (10 ∷ tail)))) (length (segment_text segment)) h.front_is h.segment_is h.short);
        digest = digester (page_digests digest (first_rows r.records));
      }
    where
      below : (o b w f c s : ℕ) → f ≡ o + (b + w) → s ≡ f + c → 226 + s < 2 ^ 64 → ((226 + o) + b) + w < 2 ^ 64
      below o b w f c s x y z = omega arith

      below_records : (o b w f c s : ℕ) → f ≡ o + (b + w) → s ≡ f + c → 226 + s < 2 ^ 64 → b < 2 ^ 64
      below_records o b w f c s x y z = omega arith

      fewer : (n b : ℕ) → n ≤ b → b < 2 ^ 64 → n < 2 ^ 64
      fewer n b x y = omega arith

  tail_there : slot.tail + length tail ≡ slot.ends
  tail_there =
      let a = length-append (first_rows r.records) (page_digests digest (first_rows r.records) ++ (10 ∷ tail)) in
      let b = length-append (page_digests digest (first_rows r.records)) (10 ∷ tail) in
      inside (length (segment_text segment)) (length tail) (length front) (length (first_rows r.records)) (length (page_digests digest (first_rows r.records))) (length (page_digests digest (first_rows r.records) ++ (10 ∷ tail)))
      (length (first_rows r.records ++ (page_digests digest (first_rows r.records) ++ (10 ∷ tail)))) lengths.segment_is a b
    where
      inside : (s t f b p q c : ℕ) → s ≡ f + c → c ≡ b + q → q ≡ p + suc t → ((226 + s) - t) + t ≡ 226 + s
      inside s t f b p q c x y z = omega arith

  -- the text of one segment is a growing one
  pub growing_written : IsGrowingText name digest (growing_text digest r) r
  unfolding growing_text
  growing_written = record {
    pick = codes "a";
    first = slot_text slot;
    second = slot_text no_slot;
    slot = slot;
    before = [];
    last = segment;
    behind = [];
    spelled = ap (λ z. head ++ z) (sym (append-nil (segment_text segment)) ∙ ap (λ z. z ++ []) (sym (append-nil (segment_text segment))));
    head = is_head;
    slot_is = refl;
    ends = ap (λ z. head_length + length z) (sym (append-nil (segment_text segment)));
    tail = tail_there;
    tail_digest = refl;
    segments = (record { table = table_long; runs = runs_all digest IsRun r.records is_run }, i, tt);
    records = append-nil r.records;
    refs = refl;
    live = runs_all digest (StandsIn digest (take slot.ends (growing_text digest r))) r.records stands;
    told =
        ap sorted_rows (runs_live digest (take slot.ends (growing_text digest r)) r.records has_rows) ∙ sorted_again rows sorted
        ∙ ap sorted_rows (sym (append-nil (placed (first_place head_length r.records) r.records)));
  }
