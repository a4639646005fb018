use Rattle.std.proofs.Common.{◌≡◌, ℕ, ◌∙◌, ◌+◌, ◌-◌, ◌++◌, List, ap, codes, drop, length, length-drop, refl, subst, sym}
use Rattle.std.specs.List.{flat_map}
use Rattle.std.specs.Result.{IfOk}
use Rattle.gx_model.specs.declared.store_versions.Version.TheVariants.{Two}
use Rattle.gx_model.specs.Objects.{line}
use Rattle.gx_model.specs.Texts.{Bytes}
use Rattle.gx_model.specs.Texts.Numbers.{number_text}
use Rattle.gx_model.specs.Histories.{Record}
use Rattle.gx_model.specs.Stores.StoreText.{stored_record}
use Rattle.gx_growing.specs.GrowingText.{Row, first_place, placed, row_text, sorted_rows}
use Rattle.gx_growing_rows.specs.NextTable.{next_place}
use Rattle.gx_growing_rows.proofs.LaidOut.{placed_behind}
use Rattle.gx_growing_rows.proofs.laying.next_table.Goals as goal

-- where the first record stands
first_is : (ends held many new first : ℕ) (rs : List Record) → many ≡ length rs → new ≡ many - held → first ≡ ends + length (line (codes "objects") (number_text new)) → first ≡ first_place ends (drop held rs)
first_is ends held many new first rs e f h = h ∙ ap (λ n. ends + length (line (codes "objects") (number_text n))) (f ∙ ap (λ n. n - held) e ∙ sym (length-drop held rs))

-- where the rows stand
place_is : (ends first behind taken count : ℕ) (new : List Record) → first ≡ first_place ends new → behind ≡ first + length (flat_map (stored_record Two) new) → count ≡ taken + length new
    → behind + length (line (codes "rows") (number_text count)) ≡ next_place ends new taken
place_is ends first behind taken count new d e f =
    λ i. (e ∙ ap (λ n. n + length (flat_map (stored_record Two) new)) d) i + length (line (codes "rows") (number_text (f i)))

pub returns-clause-place : goal.returns-clause-place
returns-clause-place g c = λ taken long.
    let rs = c.args.store.now.1 in
    let new = drop c.args.held rs in
    let first = first_is c.args.ends c.args.held c.len.result c.saturating_sub.result c.in-Some.first rs c.len.ensures.count c.saturating_sub.ensures c.in-Some.ensures in
    let rows = c.in_ok-behind.ensures.rows ∙ ap (λ xs. xs ++ placed c.in-Some.first new) (c.in_ok-rows.ensures taken long) in
    let count = ap length rows ∙ placed_behind taken c.args.taken_in.now c.in-Some.first new in
    subst (λ n. IfOk c.table_behind.result (λ table. table.place ≡ n))
    (place_is c.args.ends c.in-Some.first c.in_ok-behind.behind taken (length c.push_placed.new.rows.items) new first c.in_ok-behind.ensures.behind count) c.table_behind.ensures.place

pub returns-clause-rows : goal.returns-clause-rows
returns-clause-rows g c = λ taken long.
    let rs = c.args.store.now.1 in
    let new = drop c.args.held rs in
    let first = first_is c.args.ends c.args.held c.len.result c.saturating_sub.result c.in-Some.first rs c.len.ensures.count c.saturating_sub.ensures c.in-Some.ensures in
    let rows = c.in_ok-behind.ensures.rows ∙ (λ i. c.in_ok-rows.ensures taken long i ++ placed (first i) new) in
    subst (λ (bytes : Bytes). IfOk c.table_behind.result (λ table. table.rows.items ≡ bytes)) (ap (λ (rs : List Row). flat_map row_text (sorted_rows rs)) rows) c.table_behind.ensures.rows
