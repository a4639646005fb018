use Rattle.std.proofs.Common.{◌≡◌, List, ap, map, subst, ◌∙◌}
use Rattle.std.specs.Prelude.{IfOk}
use Rattle.std.specs.Option.{option_map}
use Rattle.gx_model.specs.Texts.{Bytes}
use Rattle.gx_ref_lines.specs.Refs.{shown_refs}
use Rattle.gx_bundled.specs.Named.{first_held}
use Rattle.gx_bundled.proofs.named.first_held.Goals as goal

pub returns : goal.returns
returns g c =
    subst (λ (ns : List Bytes). IfOk c.first_of.result (λ name. option_map (λ bytes. bytes.items) name ≡ first_held (shown_refs c.args.held.now.refs.items) ns))
    (ap (map (λ one. one.items)) c.as_slice.ensures.value ∙ c.in_ok-names.ensures) c.first_of.ensures
