use Rattle.std.proofs.Common.{◌≡◌, ◌+◌, refl, sym, ap, ◌∙◌, map, drop, Some}
use Rattle.std.specs.List.{slice_get}
use Rattle.std.specs.Option.{option_map}
use Rattle.std.proofs.lemmas.Option.{slice_get-map, slice_get_read}
use Rattle.gx_links.specs.Links.{shown_link}
use Rattle.gx_placed.proofs.Slots.{parted}
use Rattle.gx_placed.specs.Steps.{begun}
use Rattle.gx_placed.proofs.frame.Frame.next.Goals as goal

pub returns : goal.returns
returns g c =
    let h = c.in_ok-link.ensures.lookup in
    let frame = c.args.self.now in
    let here : slice_get frame.links.items frame.done ≡ Some c.in_ok-link.field-0.now =
    ap (λ ls. slice_get ls frame.done) (sym c.deref.ensures.value) ∙ slice_get_read c.deref.result.now _ frame.done c.in_ok-link.field-0.now refl h.3.0 h.1 in
    let seen : slice_get (map shown_link frame.links.items) frame.done ≡ Some (shown_link c.in_ok-link.field-0.now) = slice_get-map shown_link frame.links.items frame.done ∙ ap (option_map shown_link) here in
    let cut = parted (map shown_link frame.links.items) frame.done (frame.done + 1) (shown_link c.in_ok-link.field-0.now) refl seen in (
      drop (frame.done + 1) (map shown_link frame.links.items),
      cut.0,
      λ i. record { place = frame.place; new = (begun frame).new; done = cut.1 i; left = drop (frame.done + 1) (map shown_link frame.links.items) },
    )
