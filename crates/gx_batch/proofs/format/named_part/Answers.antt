use Rattle.gx_batch.proofs.ReadFormats.{name_known, name_shorter, name_uncut, name_unknown}
use Rattle.gx_batch.proofs.format.named_part.Goals as goal

pub returns-in_default : goal.returns-in_default
returns-in_default c = name_uncut c.args.text.now c.in_default.ensures

pub returns-in-Some-part_named : goal.returns-in-Some-part_named
returns-in-Some-part_named c =
    let text = c.args.text.now in
    let word = c.in-Some.word.now in
    let after = c.in-Some.after.now in
    (name_known text word after c.in-Some.ensures c.in-Some-part_named.part c.in-Some-part_named.ensures, name_shorter text word after c.in-Some.ensures)

pub returns-in-None : goal.returns-in-None
returns-in-None c = name_unknown c.args.text.now c.in-Some.word.now c.in-Some.after.now c.in-Some.ensures c.in-None.ensures
