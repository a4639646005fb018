use Rattle.std.proofs.Common.{◌∙◌, ◌++◌, ap, length}
use Rattle.gx_growing.specs.GrowingText.{rows_in}
use Rattle.gx_look.proofs.ListedRows.{rows_added}
use Rattle.gx_look.proofs.listing.push_rows.Goals as goal

pub returns-clause-rows : goal.returns-clause-rows
returns-clause-rows g c =
    let run = c.args.run.now in
    let room = c.read_on.new.room.items in
    let old = c.args.rows.now.items in
    let more = c.in_ok-more.ensures run.count (ap length c.as_slice.ensures.value ∙ c.in_ok-read_on.ensures.count) in
    rows_added (g.S.ReadAt.text c.args.source.now) run room old c.extend_from_slice.new.self.items c.in_ok-read_on.ensures.count c.in_ok-read_on.ensures.there
    (c.in_ok-extend_from_slice.ensures.items ∙ ap (λ z. old ++ z) (c.as_slice-2.ensures.value ∙ more ∙ ap (rows_in run.count) c.as_slice.ensures.value))
