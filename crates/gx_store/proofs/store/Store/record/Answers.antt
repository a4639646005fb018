use Rattle.std.proofs.Common.{option_map, slice_get, sym, ap, ◌∙◌}
use Rattle.std.proofs.lemmas.Option.{slice_get-map}
use Rattle.gx_store.specs.Objects.{shown_stored}
use Rattle.gx_store.specs.Stores.{shown_record}
use Rattle.gx_store.proofs.store.Store.record.Goals as goal

pub returns : goal.returns
returns g c =
    rw c.as_slice.ensures (ap (option_map shown_stored) c.in_ok-name.ensures.entry ∙ sym (slice_get-map shown_stored c.self.inside.objects.entries c.args.place)
    ∙ ap (λ v. slice_get v.1 c.args.place) c.self.view_is)

pub returns-in_err-name : goal.returns-in_err-name
returns-in_err-name g c =
    ap (option_map shown_record) c.from_residual.ensures ∙ ap (option_map shown_stored) c.in_err-name.ensures.entry
    ∙ sym (slice_get-map shown_stored c.self.inside.objects.entries c.args.place) ∙ ap (λ v. slice_get v.1 c.args.place) c.self.view_is
