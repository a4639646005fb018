use Rattle.std.proofs.Common.{◌∙◌, ◌+◌, ap, length}
use Rattle.sha2.specs.Sha256.{sha256}
use Rattle.gx_growing.specs.GrowingText.{first_rows, first_runs, page_digests, rows_place, tail_text}
use Rattle.gx_growing_file.proofs.SentGrowing.{first_runs_are, growing_ends}
use Rattle.gx_growing_file.specs.Sending.{runs_from, slot_from}
use Rattle.gx_growing_file.proofs.sending.layout_of.Goals as goal

pub returns : goal.returns
returns g c =
    let r = c.args.repo.now.1 in
    let held = ap (λ s. s.1) c.store-store.ensures.held in
    let rows = c.in_ok-table.ensures.rows ∙ ap first_rows held in
    let digests = c.in_ok-table.ensures.digests ∙ ap (page_digests sha256) rows in
    let place = c.in_ok-table.ensures.place ∙ ap rows_place held in
    let count = c.len.ensures.count ∙ ap length held in
    let runs = c.run_of-run.ensures ∙ (λ i. runs_from (place i) (count i) (digests i)) ∙ first_runs_are r.records in
    let tail = c.in_ok-tail.ensures ∙ ap (λ z. tail_text z r.refs) runs in
    let sent = c.as_slice.ensures.value ∙ tail in
    record {
      rows = rows;
      digests = digests;
      tail = tail;
      slot = c.in-Some.ensures.slot ∙ (λ i. slot_from (place i + length (rows i) + length (digests i) + 1 + length (sent i)) (sent i))
          ∙ ap (λ e. slot_from e (tail_text (first_runs sha256 r.records) r.refs)) (growing_ends r);
      short = c.in-Some.ensures.short;
    }
