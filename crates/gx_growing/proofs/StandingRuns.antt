-- A table of rows that stands in a text is a run of these rows.
use Rattle.std.proofs.Common.{◌≡◌, ℕ, zero, suc, ◌+◌, ◌*◌, ◌≤◌, ◌<◌, ◌^◌, refl, sym, ap, subst, ◌∙◌, List, [], ◌∷◌, ◌++◌, length, take, drop, arith, append_assoc, length-append}
use Rattle.std.specs.Prelude.{IsTrue}
use Rattle.std.specs.Bool.{passes}
use Rattle.std.specs.List.{AllByRecursion, flat_map}
use Rattle.std.specs.Int.{w64, from_be_bytes, to_be_bytes}
use Rattle.std.specs.FinMap.Entries.{is_sorted}
use Rattle.std.proofs.lemmas.List.{drop_at, take_at}
use Rattle.std.proofs.lemmas.Nat.{from_be_bytes-to_be_bytes_8}
use Rattle.gx_model.specs.Texts.{Bytes, byte_cmp}
use Rattle.gx_growing.specs.GrowingText.{IsDigester, Row, Run, StandsIn, digests_length, digests_of, head_length, page_count, page_digests, part, row_text, rows_in, run_bytes, run_rows}
use Rattle.gx_growing.proofs.Fields.{digest_long}

-- a name of 20 bytes, and a place below 2^64
abbrev pub IsRow : Row → Type 0
IsRow row = (length row.0 ≡ 20) × (row.1 < 2 ^ 64)

-- ---- bytes of rows

place_long : (n : ℕ) → length (to_be_bytes w64 n) ≡ 8
place_long n = refl

row_long : (x : Row) → IsRow x → length (row_text x) ≡ 28
row_long x h = let a = length-append x.0 (to_be_bytes w64 x.1) in let b = place_long x.1 in let c = h.0 in omega (arith, a, b, c)

-- rows have 28 bytes each
pub rows_long : (xs : List Row) → AllByRecursion IsRow xs → length (flat_map row_text xs) ≡ 28 * length xs
rows_long [] h = refl
rows_long (x ∷ xs) h =
    let a = length-append (row_text x) (flat_map row_text xs) in
    let b = row_long x h.0 in
    let c = rows_long xs h.1 in
    sum (length (row_text x)) (length (flat_map row_text xs)) (length (row_text x ++ flat_map row_text xs)) (length xs) a b c
  where
    sum : (n m t k : ℕ) → t ≡ n + m → n ≡ 28 → m ≡ 28 * k → t ≡ 28 * suc k
    sum n m t k a b c = omega arith

-- rows are read from their bytes
pub rows_read : (xs : List Row) (rest : Bytes) → AllByRecursion IsRow xs → rows_in (length xs) (flat_map row_text xs ++ rest) ≡ xs
rows_read [] rest h = refl
rows_read (x ∷ xs) rest h =
    let more = flat_map row_text xs ++ rest in
    let text = flat_map row_text (x ∷ xs) ++ rest in
    let place = to_be_bytes w64 x.1 in
    let whole : text ≡ row_text x ++ more = append_assoc (row_text x) (flat_map row_text xs) rest in
    let split : text ≡ x.0 ++ (place ++ more) = whole ∙ append_assoc x.0 place more in
    let name : take 20 text ≡ x.0 = ap (take 20) split ∙ take_at x.0 (place ++ more) 20 h.0.0 in
    let bytes : part text 20 8 ≡ place = ap (take 8) (ap (drop 20) split ∙ drop_at x.0 (place ++ more) 20 h.0.0) ∙ take_at place more 8 (place_long x.1) in
    let value : from_be_bytes w64 (part text 20 8) ≡ x.1 = ap (from_be_bytes w64) bytes ∙ from_be_bytes-to_be_bytes_8 x.1 h.0.1 in
    let behind : drop 28 text ≡ more = ap (drop 28) whole ∙ drop_at (row_text x) more 28 (row_long x h.0) in
    (λ i. (name i, value i) ∷ rows_in (length xs) (behind i)) ∙ ap (λ z. x ∷ z) (rows_read xs rest h.1)

-- ---- digests of pages

-- the digests of pages have 32 bytes each
pub digests_long : (digest : Bytes → Bytes) → IsDigester digest → (n : ℕ) (rows : Bytes) → length (digests_of digest n rows) ≡ 32 * n
digests_long digest h zero rows = refl
digests_long digest h (suc n) rows =
    let one = digest_long (digest (take 16380 rows)) (passes _ (h (take 16380 rows))) in
    let more = digests_long digest h n (drop 16380 rows) in
    let a = length-append (digest (take 16380 rows)) (digests_of digest n (drop 16380 rows)) in
    sum (length (digest (take 16380 rows))) (length (digests_of digest n (drop 16380 rows))) (length (digests_of digest (suc n) rows)) n a one more
  where
    sum : (p q t k : ℕ) → t ≡ p + q → p ≡ 32 → q ≡ 32 * k → t ≡ 32 * suc k
    sum p q t k a b c = omega arith

-- ---- a table in a text

module _ (digest : Bytes → Bytes) (digester : IsDigester digest) (front back : Bytes) (xs : List Row) (rows : AllByRecursion IsRow xs) where
  -- the rows, and the digests of their pages
  abbrev pub bytes : Bytes
  bytes = flat_map row_text xs

  abbrev pub pages : Bytes
  pages = page_digests digest bytes

  abbrev pub table_text : Bytes
  table_text = front ++ (bytes ++ (pages ++ back))

  -- a run of these rows
  abbrev pub run_here : Run
  run_here = record { place = length front; count = length xs; digest = digest pages }

  pub pages_long : length pages ≡ digests_length (length xs)
  pages_long = digests_long digest digester (page_count (length bytes)) bytes ∙ ap (λ n. 32 * page_count n) (rows_long xs rows)

  -- the run's rows are these
  pub run_has : run_rows table_text run_here ≡ xs
  run_has = ap (rows_in (length xs)) (drop_at front (bytes ++ (pages ++ back)) (length front) refl) ∙ rows_read xs (pages ++ back) rows

  -- the run stands in the text
  pub run_stands : head_length ≤ length front → IsTrue (is_sorted byte_cmp xs) → StandsIn digest table_text run_here
  run_stands behind sorted =
      let long = rows_long xs rows in
      let here : run_bytes table_text run_here ≡ bytes =
      ap (take (28 * length xs)) (drop_at front (bytes ++ (pages ++ back)) (length front) refl) ∙ take_at bytes (pages ++ back) (28 * length xs) long in
      let front_long = length-append front bytes ∙ ap (λ n. length front + n) long in
      let there : drop (length front + 28 * length xs) table_text ≡ pages ++ back =
      ap (drop (length front + 28 * length xs)) (sym (append_assoc front bytes (pages ++ back))) ∙ drop_at (front ++ bytes) (pages ++ back) (length front + 28 * length xs) front_long in
      let a = length-append front (bytes ++ (pages ++ back)) in
      let b = length-append bytes (pages ++ back) in
      let c = length-append pages back in
      record {
        behind = behind;
        within = inside (length front) (length bytes) (length pages) (length back) (digests_length (length xs)) (length xs) (length (pages ++ back)) (length (bytes ++ (pages ++ back))) (length table_text) a b c long pages_long;
        pages = ap (take (digests_length (length xs))) there ∙ take_at pages back (digests_length (length xs)) pages_long ∙ ap (page_digests digest) (sym here);
        told = ap (λ z. digest (page_digests digest z)) (sym here);
        sorted = subst (λ z. IsTrue (is_sorted byte_cmp z)) (sym run_has) sorted;
      }
    where
      inside : (f b p r d n q s t : ℕ) → t ≡ f + s → s ≡ b + q → q ≡ p + r → b ≡ 28 * n → p ≡ d → f + (28 * n + d) ≤ t
      inside f b p r d n q s t h i j k l = omega arith
