use Rattle.std.proofs.Common.{◌∙◌, ◌+◌, List, ap, codes, length}
use Rattle.std.specs.List.{flat_map}
use Rattle.sha2.specs.Sha256.{sha256}
use Rattle.gx_model.specs.Histories.{Records}
use Rattle.gx_model.specs.Objects.{line}
use Rattle.gx_model.specs.Texts.Numbers.{number_text}
use Rattle.gx_growing.specs.GrowingText.{Row, first_place, first_runs, head_length, page_digests, row_text, sorted_rows, tail_text}
use Rattle.gx_growing.proofs.SortedRows.{placed_long}
use Rattle.gx_growing_file.proofs.SentGrowing.{first_runs_are, growing_ends}
use Rattle.gx_growing_file.specs.Sending.{runs_from, slot_from}
use Rattle.gx_kept.proofs.layout.layout_of.Goals as goal

pub returns : goal.returns
returns g c = λ records heads refs are spelled.
    let r : Records = record { records = records; refs = refs } in
    let laid = c.in_ok-rows.ensures records heads in
    let rows = c.in_ok-table.ensures.rows ∙ ap (λ (rows : List Row). flat_map row_text (sorted_rows rows)) laid.rows_are in
    let digests = c.in_ok-table.ensures.digests ∙ ap (page_digests sha256) rows in
    let long = ap length laid.rows_are ∙ placed_long (first_place head_length records) records in
    let count = c.len-count.ensures ∙ c.in_ok-rows.rows.ok.0 ∙ long in
    let place = c.in_ok-table.ensures.place ∙ (λ i. laid.ends i + length (line (codes "rows") (number_text (long i)))) in
    let runs = c.run_of.ensures ∙ (λ i. runs_from (place i) (count i) (digests i)) ∙ first_runs_are records in
    let tail = c.in_ok-tail.ensures refs are spelled ∙ ap (λ runs. tail_text runs refs) runs in
    let sent = c.as_slice.ensures.value ∙ tail in
    record {
      rows = rows;
      digests = digests;
      tail = tail;
      slot = c.in-Some.ensures.slot ∙ (λ i. slot_from (place i + length (rows i) + length (digests i) + 1 + length (sent i)) (sent i))
          ∙ ap (λ e. slot_from e (tail_text (first_runs sha256 records) refs)) (growing_ends r);
      short = c.in-Some.ensures.short;
    }
