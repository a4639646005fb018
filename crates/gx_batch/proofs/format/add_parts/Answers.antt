use Rattle.std.proofs.Common.{◌++◌, ◌∙◌, append-nil, ap, drop_of_length-le, refl, sym}
use Rattle.std.specs.List.{flat_map}
use Rattle.gx_batch.specs.Formats.{part_text}
use Rattle.gx_batch.proofs.ReadFormats.{parts_next}
use Rattle.gx_batch.proofs.format.add_parts.Goals as goal

pub loop-part-preserved : goal.loop-part-preserved
loop-part-preserved g c =
    let gives = part_text c.args.name.now.bytes c.args.kind c.args.size in
    let parts = c.args.parts.now in
    parts_next gives parts c.loop-part.part-index _ _ (c.args.line.now.items ++ flat_map gives parts) c.loop-part.line.items c.add_part.new.line.items c.loop-part-test.true refl c.loop-part.invariant c.in_ok-add_part.ensures

pub returns : goal.returns
returns g c =
    let gives = part_text c.args.name.now.bytes c.args.kind c.args.size in
    let text = c.loop-part.line.items in
    sym (append-nil text) ∙ ap (λ ps. text ++ flat_map gives ps) (sym (drop_of_length-le c.args.parts.now c.loop-part-test.false)) ∙ c.loop-part.invariant
