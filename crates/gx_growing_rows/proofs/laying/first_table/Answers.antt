use Rattle.std.proofs.Common.{◌≡◌, ℕ, ◌+◌, List, ap, arith, codes, length, refl, subst}
use Rattle.std.specs.List.{flat_map}
use Rattle.std.specs.Result.{IfOk}
use Rattle.gx_model.specs.declared.store_versions.Version.TheVariants.{Two}
use Rattle.gx_model.specs.Histories.{Record}
use Rattle.gx_model.specs.Objects.{line}
use Rattle.gx_model.specs.Stores.StoreText.{stored_record}
use Rattle.gx_model.specs.Texts.Numbers.{number_text}
use Rattle.gx_growing.specs.GrowingText.{first_place, rows_place}
use Rattle.gx_growing_rows.specs.NextTable.{next_place}
use Rattle.gx_growing_rows.proofs.laying.first_table.Goals as goal

none_taken : (rs : List Record) → next_place 226 rs 0 ≡ rows_place rs
none_taken rs = ap (λ n. first_place 226 rs + length (flat_map (stored_record Two) rs) + length (line (codes "rows") (number_text n))) (all (length rs))
  where
    all : (n : ℕ) → 0 + n ≡ n
    all n = omega arith

pub returns-clause-place : goal.returns-clause-place
returns-clause-place g c = subst (λ n. IfOk c.next_table.result (λ table. table.place ≡ n)) (none_taken c.args.store.now.1) (c.next_table.ensures.place 0 refl)

pub returns-clause-rows : goal.returns-clause-rows
returns-clause-rows g c = c.next_table.ensures.rows 0 refl
