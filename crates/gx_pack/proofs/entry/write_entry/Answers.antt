use Rattle.std.proofs.Common.{length}
use Rattle.std.proofs.lemmas.Result.{err_from_is_err_and}
use Rattle.gx_pack.specs.Packs.{entry_head, entry_text}
use Rattle.gx_pack.specs.Zlib.{stored_text}
use Rattle.gx_pack.proofs.Pieces.{writes_both, writes_sooner}
use Rattle.gx_pack.proofs.entry.write_entry.Goals as goal

pub returns-in_err-write_head : goal.returns-in_err-write_head
unfolding entry_text
returns-in_err-write_head g c =
    let head = entry_head c.args.kind (length c.args.body.now) in
    let p = err_from_is_err_and c.from_residual.result c.from_residual.ensures.1 in
    rw p.1 (writes_sooner head (stored_text c.args.body.now) c.args.output.now c.write_head.new.output c.in_err-write_head.field-0.0 c.in_err-write_head.ensures)

pub returns : goal.returns
unfolding entry_text
returns g c =
    let head = entry_head c.args.kind (length c.args.body.now) in
    writes_both head (stored_text c.args.body.now) c.args.output.now c.write_head.new.output c.write_stored.new.output c.write_stored.result c.in_ok-write_head.ensures c.write_stored.ensures
