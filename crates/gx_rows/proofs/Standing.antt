-- Rows in a block of bytes that stands in a text.
use Rattle.std.proofs.Common.{◌≡◌, ℕ, ◌+◌, ◌*◌, ◌<◌, ◌≤◌, ◌-◌, length, take, drop, take-take, Option, Some, None, sym, ap, ◌∙◌, arith}
use Rattle.std.proofs.lemmas.List.{length-take-le, drop-drop, drop-take}
use Rattle.std.specs.Int.{from_be_bytes, w64}
use Rattle.gx_model.specs.Texts.{Bytes}
use Rattle.gx_at.specs.Reads.{StandsAt, part}
use Rattle.gx_rows.specs.declared.row.Row.{Row}
use Rattle.gx_rows.specs.Rows.{IsRow}

-- a part of a part
pub part_of_part : (text : Bytes) (at count start n : ℕ) → start + n ≤ count → part (part text at count) start n ≡ part text (at + start) n
part_of_part text at count start n h =
    let rest = count - start in
    let split : count ≡ start + rest = omega (arith, h) in
    ap (λ k. take n (drop start (take k (drop at text)))) split
    ∙ ap (take n) (drop-take start rest (drop at text))
    ∙ take-take n rest (drop start (drop at text)) (omega (arith, h))
    ∙ ap (take n) (drop-drop start at text)

module _ (at first count row : ℕ) (bytes : Bytes) (behind : first ≤ row) (within : row < first + count) (fits : 28 * count ≤ length bytes) where
  abbrev pub start : ℕ
  start = (row - first) * 28

  -- the bytes of a row in the block
  abbrev pub held : Bytes
  held = take 28 (drop start bytes)

  -- a part of a row
  row_part : (text : Bytes) (k n : ℕ) → k + n ≤ 28 → take (28 * count) bytes ≡ part text (at + 28 * first) (length (take (28 * count) bytes)) → part held k n ≡ part text (at + 28 * row + k) n
  row_part text k n short s =
      let front : part (take (28 * count) bytes) (start + k) n ≡ part bytes (start + k) n = part_of_part bytes 0 (28 * count) (start + k) n (omega (arith, behind, within, short)) ∙ ap (λ p. part bytes p n) (omega arith) in
      part_of_part bytes start 28 k n short
      ∙ sym front
      ∙ ap (λ x. part x (start + k) n) (s ∙ ap (part text (at + 28 * first)) (length-take-le (28 * count) bytes fits))
      ∙ part_of_part text (at + 28 * first) (28 * count) (start + k) n (omega (arith, behind, within, short))
      ∙ ap (λ p. part text p n) (omega (arith, behind))

  -- a row of the block stands in the text
  pub row_stands : (told : Option Bytes) (read : Row) (shown : Bytes) → shown ≡ held → StandsAt told (at + 28 * first) (take (28 * count) bytes) → read.name ≡ take 20 shown → read.place ≡ from_be_bytes w64 (drop 20 shown) → IsRow told at row read
  row_stands None read shown is s name place = tt
  row_stands (Some text) read shown is s name place =
      record {
        name = name ∙ ap (take 20) is ∙ row_part text 0 20 (omega arith) s ∙ ap (λ p. part text p 20) (omega arith);
        place = place ∙ ap (from_be_bytes w64) (ap (drop 20) is ∙ drop-take 20 8 (drop start bytes) ∙ sym (ap (take 8) (drop-take 20 8 (drop start bytes)) ∙ take-take 8 8 (drop 20 (drop start bytes)) (omega arith)) ∙ row_part text 20 8 (omega arith) s);
      }
