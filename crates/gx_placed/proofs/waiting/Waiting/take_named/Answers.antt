use Rattle.std.proofs.Common.{sym, ap, ◌∙◌}
use Rattle.std.specs.Option.{option_map}
use Rattle.gx_placed.specs.Steps.{shown_taken, slots, without}
use Rattle.gx_placed.proofs.Slots.{set_none}
use Rattle.gx_placed.proofs.waiting.Waiting.take_named.Goals as goal

pub returns-in_err-object-clause-slots : goal.returns-in_err-object-clause-slots
returns-in_err-object-clause-slots g c =
    c.take_at.ensures.slots
    ∙ set_none (slots c.args.self.now) c.in_ok-place.field-0.now (sym c.in_err-object.ensures.object)
    ∙ ap (λ o. without (slots c.args.self.now) (option_map shown_taken o)) (sym c.from_residual-in_err-object.ensures)
