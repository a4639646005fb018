-- Rows and digests that are cut out of a text.
use Rattle.std.proofs.Common.{◌≡◌, ℕ, zero, suc, ◌+◌, ◌*◌, ◌≤◌, true, refl, ap, ◌∙◌, [], ◌∷◌, length, take, drop, arith}
use Rattle.std.proofs.lemmas.Bool.{and_from}
use Rattle.std.proofs.lemmas.Bool.Decides.{nat_tests}
use Rattle.std.proofs.lemmas.List.{drop-drop, drop-take}
use Rattle.std.specs.Prelude.{nat_le}
use Rattle.gx_model.specs.Texts.{Bytes}
use Rattle.gx_growing.specs.GrowingText.{digests_length, table_length}
use Rattle.gx_growing_parts.specs.Tables.{digests_at, is_within, rows_at}

-- the first bytes of the first bytes are the first ones
take_less : (n m : ℕ) (x : Bytes) → n ≤ m → take n (take m x) ≡ take n x
take_less zero m x le = refl
take_less (suc n) zero x le = absurd (omega (arith, le))
take_less (suc n) (suc m) [] le = refl
take_less (suc n) (suc m) (b ∷ x) le = ap (λ t. b ∷ t) (take_less n m x (omega (arith, le)))

-- A table behind the head stands in the text where it ends there.
pub within : (text : Bytes) (place count : ℕ) → 226 ≤ place → place + table_length count ≤ length text → is_within text place count ≡ true
within text place count head ends =
    let behind : nat_le 226 place ≡ true = grind (arith, nat_tests) in
    let whole : nat_le (place + table_length count) (length text) ≡ true = grind (arith, nat_tests) in
    and_from _ _ behind whole

-- The rows are the first bytes of the table.
pub rows_cut : (text : Bytes) (place count : ℕ) → take (28 * count) (take (table_length count) (drop place text)) ≡ rows_at text place count
rows_cut text place count = take_less (28 * count) (table_length count) (drop place text) (omega arith)

-- The digests are the others.
pub digests_cut : (text : Bytes) (place count : ℕ) → drop (28 * count) (take (table_length count) (drop place text)) ≡ digests_at text place count
digests_cut text place count =
    drop-take (28 * count) (digests_length count) (drop place text) ∙ ap (take (digests_length count)) (drop-drop (28 * count) place text)
