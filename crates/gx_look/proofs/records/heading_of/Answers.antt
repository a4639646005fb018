use Rattle.std.proofs.Common.{None}
use Rattle.gx_model.specs.declared.store_versions.Version.TheVariants.{Two}
use Rattle.gx_look.proofs.StatedNames.{heading_read, stated, unstated}
use Rattle.gx_look.proofs.records.heading_of.Goals as goal

pub returns-in_err-name : goal.returns-in_err-name
returns-in_err-name c =
    let field = unstated c.in_ok-word.field.now c.in_ok-length.length.now c.in_ok-length.digits.now c.in_ok-length-2.length c.in_ok-length.ensures c.in_ok-length-2.ensures c.in_err-name.ensures in
    rw c.from_residual-in_err-name.ensures (heading_read Two c.args.line.now c.in_ok-word.word.now c.in_ok-word.field.now c.in_ok-kind.kind None c.in_ok-word.ensures c.in_ok-kind.ensures field)

pub returns : goal.returns
returns c =
    let field = stated c.in_ok-word.field.now c.in_ok-length.length.now c.in_ok-length.digits.now c.in_ok-length-2.length c.in_ok-length.ensures c.in_ok-length-2.ensures c.in_ok-name.name.bytes c.in_ok-name.ensures in
    heading_read Two c.args.line.now c.in_ok-word.word.now c.in_ok-word.field.now c.in_ok-kind.kind _ c.in_ok-word.ensures c.in_ok-kind.ensures field
