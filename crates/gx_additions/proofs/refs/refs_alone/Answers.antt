use Rattle.std.proofs.Common.{◌∙◌, ap, map}
use Rattle.gx_growing.specs.GrowingText.{slot_text}
use Rattle.gx_growing_parts.specs.Shown.{shown_run}
use Rattle.gx_additions.proofs.Puts.{so_of_ok}
use Rattle.gx_additions.proofs.Spelled.{segment_told, slot_told}
use Rattle.gx_additions.proofs.refs.refs_alone.Goals as goal

pub returns-clause-segment : goal.returns-clause-segment
returns-clause-segment g c =
    let live = map shown_run c.args.ending.runs.now in
    so_of_ok c.with_slot.result c.with_slot.ensures.segment (λ made same named lines. same ∙ segment_told live named c.args.count c.args.refs.now c.in_ok-segment.segment.items lines c.in_ok-segment.ensures)

pub returns-clause-slot : goal.returns-clause-slot
returns-clause-slot g c =
    let live = map shown_run c.args.ending.runs.now in
    so_of_ok c.with_slot.result c.with_slot.ensures.slot (λ made slot named lines. slot ∙ ap slot_text (slot_told live named c.args.ending.ends c.in_ok-segment.segment.items
    (segment_told live named c.args.count c.args.refs.now c.in_ok-segment.segment.items lines c.in_ok-segment.ensures)))
