use Rattle.std.proofs.Common.{◌≤◌, ◌<◌, refl, sym, ap, ◌∙◌, set, length, arith}
use Rattle.std.specs.Option.{option_map}
use Rattle.std.proofs.lemmas.Option.{slice_get_past, slice_get_read}
use Rattle.gx_placed.specs.Places.{shown_object}
use Rattle.gx_placed.specs.Steps.{slots}
use Rattle.gx_placed.proofs.Slots.{map_set, no_slot, slot_of}
use Rattle.gx_placed.proofs.waiting.Waiting.take_at.Goals as goal

pub returns-in_err-get_mut-clause-object : goal.returns-in_err-get_mut-clause-object
returns-in_err-get_mut-clause-object g c =
    let items = c.args.self.now.objects.items in
    let past : length items ≤ c.args.place = grind (arith, c.in_err-get_mut.ensures.variant) in
    ap (option_map shown_object) c.from_residual.ensures ∙ sym (no_slot (option_map shown_object) items c.args.place (slice_get_past items c.args.place past))

pub returns-clause-object : goal.returns-clause-object
returns-clause-object g c =
    let items = c.args.self.now.objects.items in
    let within : c.args.place < length items = grind (arith, c.in_ok-get_mut.ensures.variant) in
    ap (option_map shown_object) c.take.ensures.value
    ∙ sym (slot_of (option_map shown_object) items c.args.place c.in_ok-get_mut.field-0.now (slice_get_read items _ c.args.place c.in_ok-get_mut.field-0.now refl within c.in_ok-get_mut.ensures.value))

pub returns-clause-slots : goal.returns-clause-slots
returns-clause-slots g c =
    map_set (option_map shown_object) c.args.self.now.objects.items c.args.place c.take.new.self ∙ ap (λ o. set (slots c.args.self.now) c.args.place (option_map shown_object o)) c.take.ensures.after
