use Rattle.gx_offered.proofs.ReadItems.{behind_line, behind_word, no_line, no_name, no_space, object_told, ref_told}
use Rattle.gx_offered.proofs.item.read_item.Goals as goal

pub returns-in_default-clause-item : goal.returns-in_default-clause-item
returns-in_default-clause-item g c = no_line (g.N.Namer.name_of c.args.namer.now) c.args.text.now c.in_default.ensures

pub returns-in_default-cut-clause-item : goal.returns-in_default-cut-clause-item
returns-in_default-cut-clause-item g c = no_space (g.N.Namer.name_of c.args.namer.now) c.args.text.now c.in-Some.line.now c.in-Some.rest.now c.in-Some.ensures c.in_default-cut.ensures

pub returns-in_default-read_lower-clause-item : goal.returns-in_default-read_lower-clause-item
returns-in_default-read_lower-clause-item g c =
    no_name (g.N.Namer.name_of c.args.namer.now) c.args.text.now c.in-Some.line.now c.in-Some.rest.now c.in-Some-cut.digits.now c.in-Some-cut.told.now c.in-Some.ensures c.in-Some-cut.ensures c.in_default-read_lower.ensures

pub returns-in-Some-cut-2-clause-item : goal.returns-in-Some-cut-2-clause-item
returns-in-Some-cut-2-clause-item g c =
    object_told (g.N.Namer.name_of c.args.namer.now) c.args.text.now c.in-Some.line.now c.in-Some.rest.now c.in-Some-cut.digits.now c.in-Some-cut.told.now c.in-Some-read_lower.name.bytes c.in-Some-cut-2.word.now c.in-Some-cut-2.size.now c.read_object.result
    c.in-Some.ensures c.in-Some-cut.ensures c.in-Some-read_lower.ensures c.in-Some-cut-2.ensures c.read_object.ensures.item

pub returns-in-Some-cut-2-clause-behind : goal.returns-in-Some-cut-2-clause-behind
returns-in-Some-cut-2-clause-behind g c = behind_line c.args.text.now c.in-Some.line.now c.in-Some.rest.now c.read_object.result c.in-Some.ensures c.read_object.ensures.behind

pub returns-in-None-clause-item : goal.returns-in-None-clause-item
returns-in-None-clause-item g c =
    ref_told (g.N.Namer.name_of c.args.namer.now) c.args.text.now c.in-Some.line.now c.in-Some.rest.now c.in-Some-cut.digits.now c.in-Some-cut.told.now c.in-Some-read_lower.name.bytes c.read_ref.result
    c.in-Some.ensures c.in-Some-cut.ensures c.in-Some-read_lower.ensures c.in-None.ensures c.read_ref.ensures.item

pub returns-in-None-clause-behind : goal.returns-in-None-clause-behind
returns-in-None-clause-behind g c =
    behind_word c.args.text.now c.in-Some.line.now c.in-Some.rest.now c.in-Some-cut.digits.now c.in-Some-cut.told.now c.read_ref.result c.in-Some.ensures c.in-Some-cut.ensures c.read_ref.ensures.behind
