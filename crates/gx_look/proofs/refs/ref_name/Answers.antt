use Rattle.std.proofs.Common.{true, false, sym, ap, ◌∙◌}
use Rattle.std.specs.Option.{option_map}
use Rattle.gx_model.specs.Texts.{Bytes}
use Rattle.gx_look.proofs.CheckedRefs.{line_read}
use Rattle.gx_look.proofs.refs.ref_name.Goals as goal

pub returns-then-is_ref_name : goal.returns-then-is_ref_name
returns-then-is_ref_name c =
    sym (ap (option_map (λ (ref : Bytes × Bytes). ref.0)) (line_read c.args.line.now c.in_ok-digits.digits.now c.in_ok-digits.name.now c.in_ok-_object._object.bytes true c.in_ok-digits.ensures c.in_ok-_object.ensures (sym c.is_ref_name.ensures ∙ c.if-is_ref_name.true)))

pub returns-else-is_ref_name : goal.returns-else-is_ref_name
returns-else-is_ref_name c =
    sym (ap (option_map (λ (ref : Bytes × Bytes). ref.0)) (line_read c.args.line.now c.in_ok-digits.digits.now c.in_ok-digits.name.now c.in_ok-_object._object.bytes false c.in_ok-digits.ensures c.in_ok-_object.ensures (sym c.is_ref_name.ensures ∙ c.if-is_ref_name.false)))
