-- The parts of a text are no longer than the text.
use Rattle.std.proofs.Common.{◌≡◌, ℕ, ◌+◌, ◌*◌, ◌≤◌, ◌<◌, List, [], ◌∷◌, ◌++◌, length, codes, arith, length-append}
use Rattle.std.specs.List.{AllByRecursion, flat_map}
use Rattle.gx_model.specs.declared.store_versions.Version.TheVariants.{Two}
use Rattle.gx_model.specs.Texts.{Bytes}
use Rattle.gx_model.specs.Texts.Numbers.{number_text}
use Rattle.gx_model.specs.Objects.{hex, line}
use Rattle.gx_model.specs.Objects.Naming.{kind_word}
use Rattle.gx_model.specs.Histories.{Record}
use Rattle.gx_model.specs.Stores.StoreText.{length_text, stored_record, stored_ref}
use Rattle.gx_growing.specs.GrowingText.{IsSegment, Run, Segment, digests_length, rows_text, run_text, segment_text, tail_text}

-- ---- two parts

pub front_short : (x y : Bytes) (limit : ℕ) → length (x ++ y) < limit → length x < limit
front_short x y limit h = let a = length-append x y in omega (arith, a, h)

pub back_short : (x y : Bytes) (limit : ℕ) → length (x ++ y) < limit → length y < limit
back_short x y limit h = let a = length-append x y in omega (arith, a, h)

-- ---- many parts

-- as many texts as there are, each with a byte or more, have as many bytes or more
pub many_bytes : {X : Type 0} (f : X → Bytes) → ((x : X) → 1 ≤ length (f x)) → (xs : List X) → length xs ≤ length (flat_map f xs)
many_bytes f g [] = omega arith
many_bytes f g (x ∷ xs) =
    let one = g x in
    let rest = many_bytes f g xs in
    let l = length-append (f x) (flat_map f xs) in
    omega arith

fewer : (n m limit : ℕ) → n ≤ m → m < limit → n < limit
fewer n m limit a b = omega arith

line_some : (w x : Bytes) → 1 ≤ length (line w x)
line_some w x = let a = length-append (w ++ 32 ∷ x) (10 ∷ []) in omega arith

run_some : (r : Run) → 1 ≤ length (run_text r)
run_some r =
    let rest = number_text r.count ++ (32 ∷ (hex r.digest ++ 10 ∷ [])) in
    let a = length-append (number_text r.place) (32 ∷ rest) in
    omega arith

pub segment_some : (s : Segment) → 1 ≤ length (segment_text s)
segment_some s =
    let first = line (codes "objects") (number_text (length s.records)) in
    let rest = flat_map (stored_record Two) s.records ++ rows_text s.count s.table (tail_text s.runs s.refs) in
    let a = length-append first rest in
    let l = line_some (codes "objects") (number_text (length s.records)) in
    sum (length first) (length rest) (length (segment_text s)) a l
  where
    sum : (n m t : ℕ) → t ≡ n + m → 1 ≤ n → 1 ≤ t
    sum n m t a l = omega arith

-- ---- records

-- a record's text is longer than its body
record_long : (r : Record) → length r.body < length (stored_record Two r)
record_long r =
    let l = line (kind_word r.kind) (length_text Two (length r.body) r.name) in
    let a = length-append (l ++ r.body) (10 ∷ []) in
    let b = length-append l r.body in
    longer (length r.body) (length l) (length (l ++ r.body)) (length (stored_record Two r)) a b
  where
    longer : (n k m t : ℕ) → t ≡ m + 1 → m ≡ k + n → n < t
    longer n k m t a b = omega arith

pub record_some : (r : Record) → 1 ≤ length (stored_record Two r)
record_some r = let l = record_long r in omega arith

-- bodies are shorter than the texts of their records together
pub bodies_short : (limit : ℕ) (rs : List Record) → length (flat_map (stored_record Two) rs) < limit → AllByRecursion (λ r. length r.body < limit) rs
bodies_short limit [] h = tt
bodies_short limit (r ∷ rs) h =
    let one = front_short (stored_record Two r) (flat_map (stored_record Two) rs) limit h in
    let body = record_long r in
    (shorter (length r.body) (length (stored_record Two r)) body one, bodies_short limit rs (back_short (stored_record Two r) (flat_map (stored_record Two) rs) limit h))
  where
    shorter : (n k : ℕ) → n < k → k < limit → n < limit
    shorter n k a b = omega arith

-- ---- tails and segments

-- the runs and the refs of a tail are fewer than its bytes
pub tail_counts : (runs : List Run) (refs : List (Bytes × Bytes)) (limit : ℕ) → length (tail_text runs refs) < limit → (length runs < limit) × (length refs < limit)
tail_counts runs refs limit h =
    let refs_line = line (codes "refs") (number_text (length refs)) in
    let ends = codes "end" ++ 10 ∷ [] in
    let behind_line = back_short (line (codes "runs") (number_text (length runs))) (flat_map run_text runs ++ (refs_line ++ (flat_map stored_ref refs ++ ends))) limit h in
    let of_runs = front_short (flat_map run_text runs) (refs_line ++ (flat_map stored_ref refs ++ ends)) limit behind_line in
    let behind_runs = back_short (flat_map run_text runs) (refs_line ++ (flat_map stored_ref refs ++ ends)) limit behind_line in
    let behind_refs = back_short refs_line (flat_map stored_ref refs ++ ends) limit behind_runs in
    let of_refs = front_short (flat_map stored_ref refs) ends limit behind_refs in (
      fewer (length runs) (length (flat_map run_text runs)) limit (many_bytes run_text run_some runs) of_runs,
      fewer (length refs) (length (flat_map stored_ref refs)) limit (many_bytes stored_ref (λ x. line_some (hex x.1) x.0) refs) of_refs,
    )

-- the numbers of a segment are below its length, its bodies are shorter, and so is its tail
pub record AreShort (s : Segment) (limit : ℕ) : Type 0 where
  pub records : length s.records < limit
  pub bodies : AllByRecursion (λ r. length r.body < limit) s.records
  pub count : s.count < limit
  pub tail : length (tail_text s.runs s.refs) < limit

pub segment_short : (s : Segment) (limit : ℕ) → IsSegment s → length (segment_text s) < limit → AreShort s limit
segment_short s limit is h =
    let tail = tail_text s.runs s.refs in
    let rows_line = line (codes "rows") (number_text s.count) in
    let records = flat_map (stored_record Two) s.records in
    let rows = rows_line ++ (s.table ++ (10 ∷ tail)) in
    let behind_line = back_short (line (codes "objects") (number_text (length s.records))) (records ++ rows) limit h in
    let of_records = front_short records rows limit behind_line in
    let behind_records = back_short records rows limit behind_line in
    let behind_rows = back_short rows_line (s.table ++ (10 ∷ tail)) limit behind_records in
    let of_table = front_short s.table (10 ∷ tail) limit behind_rows in
    let of_tail = back_short s.table (10 ∷ tail) limit behind_rows in
    record {
      records = fewer (length s.records) (length records) limit (many_bytes (stored_record Two) record_some s.records) of_records;
      bodies = bodies_short limit s.records of_records;
      count = counted s.count (digests_length s.count) (length s.table) is.table of_table;
      tail = omega (arith, of_tail);
    }
  where
    counted : (c d t : ℕ) → t ≡ 28 * c + d → t < limit → c < limit
    counted c d t a b = omega arith
