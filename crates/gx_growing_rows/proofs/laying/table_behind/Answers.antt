use Rattle.std.proofs.Common.{◌≡◌, ◌∙◌, ◌+◌, ap, arith, codes, length, subst}
use Rattle.std.specs.List.{flat_map}
use Rattle.gx_model.specs.Objects.{line}
use Rattle.gx_model.specs.Texts.Numbers.{number_text}
use Rattle.gx_growing.specs.GrowingText.{row_text}
use Rattle.gx_growing_rows.proofs.SortedRows.{sorted_is}
use Rattle.gx_growing_rows.proofs.laying.table_behind.Goals as goal

pub returns-clause-place : goal.returns-clause-place
returns-clause-place g c =
    let count = c.len-count.ensures ∙ c.args.rows.ok.0 in
    let long = c.line_length.ensures.length ∙ ap (λ n. length (line (codes "rows") (number_text n))) count in
    subst (λ n. c.in-Some.place ≡ c.args.behind + n) long (omega (arith, c.in-Some.ensures))

pub returns-clause-rows : goal.returns-clause-rows
returns-clause-rows g c =
    let sorted = sorted_is c.args.rows.items c.sort_unstable.new.self.items c.sort_unstable.ensures.permutation c.sort_unstable.ensures.sorted in
    c.in_ok-rows.ensures ∙ ap (flat_map row_text) (c.as_slice.ensures.value ∙ sorted)
