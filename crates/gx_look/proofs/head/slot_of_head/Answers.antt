use Rattle.std.proofs.Common.{None, Some, ap, ◌∙◌}
use Rattle.std.specs.Option.{option_map}
use Rattle.gx_look.specs.Heads.{shown_picked}
use Rattle.gx_look.proofs.HeadPlaces.{picks_told}
use Rattle.gx_look.proofs.head.slot_of_head.Goals as goal

pub returns-in_err-slot : goal.returns-in_err-slot
returns-in_err-slot c = λ pick first second head e.
    ap (option_map shown_picked) c.from_residual.ensures
    ∙ picks_told pick first second head c.args.head.now c.picks_first-is_first.result c.slot_text.result.now None e c.picks_first-is_first.ensures c.slot_text.ensures c.in_err-slot.ensures

pub returns : goal.returns
returns c = λ pick first second head e.
    picks_told pick first second head c.args.head.now c.picks_first-is_first.result c.slot_text.result.now (Some c.in_ok-slot.slot) e c.picks_first-is_first.ensures c.slot_text.ensures c.in_ok-slot.ensures
