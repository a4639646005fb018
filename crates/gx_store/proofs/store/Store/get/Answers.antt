use Rattle.std.proofs.Common.{option_map, sym, ap, ◌∙◌}
use Rattle.gx_model.specs.Histories.{object_of}
use Rattle.gx_model.specs.Records.Growth.{record_named}
use Rattle.gx_store.specs.Stores.{shown_object}
use Rattle.gx_store.proofs.Keys.{found, under}
use Rattle.gx_store.proofs.store.Store.get.Goals as goal

pub returns-in_err-object : goal.returns-in_err-object
returns-in_err-object g c =
    let n = c.args.name.now in
    ap (option_map shown_object) c.from_residual.ensures ∙ ap (λ o. option_map object_of (option_map (under n) o)) c.in_err-object.ensures.value
    ∙ ap (option_map object_of) (sym (found n c.self.inside.objects.entries)) ∙ ap (λ v. option_map object_of (record_named v.1 n.bytes)) c.self.view_is

pub returns : goal.returns
returns g c =
    let n = c.args.name.now in
    rw c.as_slice.ensures (ap (λ o. option_map object_of (option_map (under n) o)) c.in_ok-object.ensures.value
    ∙ ap (option_map object_of) (sym (found n c.self.inside.objects.entries)) ∙ ap (λ v. option_map object_of (record_named v.1 n.bytes)) c.self.view_is)
