-- The reading of a growing store's text, from front to back: the records and the refs, or the first fault.
-- Source: this project's own format.
use Rattle.std.specs.Prelude.{ℕ, zero, suc, ◌+◌, ◌*◌, ◌-◌, Bool, true, false, ◌&&◌, nat_eq, nat_le, if◌then◌else◌, List, [], ◌∷◌, ◌++◌, length, take, drop, codes, Option, Some, None, Result, Ok, Err}
use Rattle.std.specs.Option.{ok_or, option_and_then, option_map}
use Rattle.std.specs.List.{list_all}
use Rattle.std.specs.FinMap.Entries.{is_sorted}
use Rattle.gx_model.specs.declared.objects.Kind.{Kind}
use Rattle.gx_model.specs.declared.store_versions.Version.TheVariants.{Two}
use Rattle.gx_model.specs.declared.store_faults.FileFault.TheVariants as fault
use Rattle.gx_model.specs.Texts.{Bytes, byte_cmp, cut_at, same_bytes}
use Rattle.gx_model.specs.Texts.Digits.{is_lower_digit}
use Rattle.gx_model.specs.Texts.Numbers.{decimal_of}
use Rattle.gx_model.specs.Faults.{◌>>=◌}
use Rattle.gx_model.specs.Objects.{unhex}
use Rattle.gx_model.specs.Histories.{Record, Records}
use Rattle.gx_model.specs.Stores.StoreReading.{Stored, after_word, next_records, next_refs, only_if, stored_body, stored_count, stored_line, stored_number}
use Rattle.gx_growing.specs.declared.fault.GrowingFault.{GrowingFault}
use Rattle.gx_growing.specs.declared.fault.GrowingFault.TheVariants.{Text, BadRows}
use Rattle.gx_growing.specs.GrowingText.{Row, Run, Slot, digests_length, head_length, live_rows, page_digests, part, picked, placed, run_bytes, run_rows, sorted_rows, table_length}

-- what is read of a growing text, or the first fault
abbrev pub Grown : Type 0 → Type 0
Grown A = Result A GrowingFault

-- what is read as of other store texts
abbrev pub lifted : {A : Type 0} → Stored A → Grown A
lifted (Ok x) = Ok x
lifted (Err f) = Err (Text f)

-- ---- slots and runs

-- 64 lower-case digits
abbrev pub is_digest_text : Bytes → Bool
is_digest_text text = nat_eq (length text) 64 && list_all is_lower_digit text

-- the digest that 64 digits write
abbrev pub digest_in : Bytes → Option Bytes
digest_in text = if is_digest_text text then Some (unhex text) else None

-- two numbers and a digest
abbrev pub Fields : Type 0
Fields = ℕ × (ℕ × Bytes)

-- two numbers with the digest that is written behind them
abbrev pub with_digest : ℕ → Bytes → ℕ → Option Fields
with_digest first text second = option_map (λ digest. (first, (second, digest))) (digest_in text)

-- a number with what is written behind it: another one, a space and a digest
abbrev pub with_second : (Bytes → Option ℕ) → Bytes → ℕ → Option Fields
with_second number text first = option_and_then (λ p. option_and_then (with_digest first p.1) (number p.0)) (cut_at 32 text)

-- two numbers that are read so, and a digest, with a space between
abbrev pub fields_in : (Bytes → Option ℕ) → Bytes → Option Fields
fields_in number text = option_and_then (λ p. option_and_then (with_second number p.1) (number p.0)) (cut_at 32 text)

-- a number of twenty digits
abbrev pub long_number_in : Bytes → Option ℕ
long_number_in text = if nat_eq (length text) 20 then decimal_of text else None

-- what the text of a slot says
abbrev pub slot_in : Bytes → Option Slot
slot_in text = option_map (λ p. record { ends = p.0; tail = p.1.0; digest = p.1.1 }) (fields_in long_number_in text)

-- what the line of a run says
abbrev pub run_in : Bytes → Option Run
run_in text = option_map (λ p. record { place = p.0; count = p.1.0; digest = p.1.1 }) (fields_in stored_number text)

-- ---- the head

-- what follows the first line
abbrev pub after_third : Bytes → Stored Bytes
after_third text = do
  l ← stored_line text
  word ← ok_or (after_word (codes "gxstore") l.0) fault.BadMagic
  third ← only_if (same_bytes word (codes "3")) fault.BadVersion
  Ok l.1

-- the slot that is picked, and what follows the second one
abbrev pub slots_of : Bytes → Stored (Slot × Bytes)
slots_of text = do
  whole ← only_if (nat_le 216 (length text)) fault.Truncated
  pick ← stored_body 1 text
  first ← stored_body 106 pick.1
  second ← stored_body 106 first.1
  slot ← ok_or (slot_in (picked pick.0 first.0 second.0)) fault.BadRecord
  Ok (slot, second.1)

-- the slot that is picked, which ends in the text, and what follows the head
abbrev pub head_of : Bytes → Stored (Slot × Bytes)
head_of text = do
  rest ← after_third text
  head ← slots_of rest
  ends ← only_if (nat_le head.0.ends (length text)) fault.Truncated
  Ok head

-- ---- segments

-- the run that comes next
abbrev pub next_run : Bytes → Stored (Run × Bytes)
next_run text = do
  l ← stored_line text
  run ← ok_or (run_in l.0) fault.BadRecord
  Ok (run, l.1)

-- the runs that come next
abbrev pub next_runs : ℕ → Bytes → Stored (List Run × Bytes)
next_runs zero text = Ok ([], text)
next_runs (suc n) text = next_run text >>= λ x. next_runs n x.1 >>= λ xs. Ok (x.0 ∷ xs.0, xs.1)

-- what follows the line `end`
abbrev pub after_end : Bytes → Stored Bytes
after_end text = do
  l ← stored_line text
  word ← only_if (same_bytes l.0 (codes "end")) fault.BadRecord
  Ok l.1

-- what was read of a text in front of a place
pub record Front : Type 0 where
  pub records : List Record
  -- their names and places
  pub rows : List Row
  -- the last tail with what stands behind it, and what it says
  pub tail : Bytes
  pub runs : List Run
  pub refs : List (Bytes × Bytes)

-- nothing
abbrev pub no_front : Front
no_front = record { records = []; rows = []; tail = []; runs = []; refs = [] }

-- the refs of a tail with these records, its runs, and what follows it
abbrev pub next_tail : List Record → Bytes → Stored ((List Run × List (Bytes × Bytes)) × Bytes)
next_tail records text = do
  count ← stored_count (codes "runs") text
  runs ← next_runs count.0 count.1
  refs ← stored_count (codes "refs") runs.1
  named ← next_refs refs.0 records None refs.1
  rest ← after_end named.1
  Ok ((runs.0, named.0), rest)

-- where what is left of a text begins
abbrev pub place_of : ℕ → Bytes → ℕ
place_of ends text = ends - length text

module _ (name : Kind → Bytes → Bytes) (ends : ℕ) where
  -- the rows with those of the records that are new, the first of which stands where this text begins
  abbrev pub with_places : Front → List Record → Bytes → List Row
  with_places seen records text = seen.rows ++ placed (place_of ends text) (drop (length seen.records) records)

  -- what was read with one more segment, and what follows it
  abbrev pub next_segment : Front → Bytes → Stored (Front × Bytes)
  next_segment seen text = do
    objects ← stored_count (codes "objects") text
    records ← next_records name Two objects.0 seen.records objects.1
    rows ← stored_count (codes "rows") records.1
    table ← stored_body (table_length rows.0) rows.1
    tail ← next_tail records.0 table.1
    Ok (record { records = records.0; rows = with_places seen records.0 objects.1; tail = table.1; runs = tail.0.0; refs = tail.0.1 }, tail.1)

  -- what was read with all segments that come next, of which there is one or more
  abbrev pub next_segments : ℕ → Front → Bytes → Stored Front
  next_segments zero seen text = Err fault.Truncated
  next_segments (suc n) seen text = next_segment seen text >>= λ x. if nat_eq (length x.1) 0 then Ok x.0 else next_segments n x.0 x.1

-- the picked slot, and what the segments of a text hold, the last tail of which begins where the slot says
abbrev pub front_of : (Kind → Bytes → Bytes) → Bytes → Stored (Slot × Front)
front_of name text = do
  head ← head_of text
  front ← next_segments name head.0.ends head.0.ends no_front (take (head.0.ends - head_length) head.1)
  begun ← only_if (nat_eq (place_of head.0.ends front.tail) head.0.tail) fault.BadRecord
  Ok (head.0, front)

-- ---- rows

-- whether two rows are equal
abbrev pub same_row : Row → Row → Bool
same_row row other = same_bytes row.0 other.0 && nat_eq row.1 other.1

-- whether rows are equal, one by one
abbrev pub same_rows : List Row → List Row → Bool
same_rows [] [] = true
same_rows (x ∷ xs) (y ∷ ys) = same_row x y && same_rows xs ys
same_rows _ _ = false

module _ (digest : Bytes → Bytes) where
  -- whether the digests of a run's pages, and of these, are as they are written
  abbrev pub has_digests : Bytes → Run → Bool
  has_digests text run =
      let pages : Bytes = page_digests digest (run_bytes text run) in
      same_bytes (part text (run.place + 28 * run.count) (digests_length run.count)) pages && same_bytes run.digest (digest pages)

  -- whether a run stands in the segments of a text
  abbrev pub is_standing : Bytes → Run → Bool
  is_standing text run =
      nat_le head_length run.place && nat_le (run.place + table_length run.count) (length text)
      && has_digests text run && is_sorted byte_cmp (run_rows text run)

  -- whether the last tail of a text has the digest of its slot, and the rows of its live runs are those of the records
  abbrev pub has_rows : Bytes → Slot → Front → Bool
  has_rows text slot front =
      same_bytes slot.digest (digest front.tail) && list_all (is_standing text) front.runs
      && same_rows (sorted_rows (live_rows text front.runs)) (sorted_rows front.rows)

  -- what was read, where its rows are right
  abbrev pub with_rows : Bytes → Slot → Front → Grown Records
  with_rows text slot front = if has_rows text slot front then Ok (record { records = front.records; refs = front.refs }) else Err BadRows

-- the records and refs of a growing text, or the first fault
unfoldable pub grown_of : (Kind → Bytes → Bytes) → (Bytes → Bytes) → Bytes → Grown Records
grown_of name digest text = do
  read ← lifted (front_of name text)
  with_rows digest (take read.0.ends text) read.0 read.1
