use Rattle.std.proofs.lemmas.Result.{err_from_is_err_and}
use Rattle.gx_kept.proofs.WrittenPacks.{end_fails, entries_stop, head_fails, pack_went}
use Rattle.gx_kept.proofs.bundling.write_pack.Goals as goal

pub returns-in_err-write_head-clause-pack : goal.returns-in_err-write_head-clause-pack
returns-in_err-write_head-clause-pack g c =
    let p = err_from_is_err_and c.from_residual.result c.from_residual.ensures.1 in
    rw (p.1, p.2) (head_fails (g.O.Objects.name_of c.args.objects.now) (g.O.Objects.stands c.args.objects.now) (g.O.Objects.told c.args.objects.now) c.args.listing.now c.args.marks.now c.requires.listed c.requires.long
    c.args.count c.requires.count c.args.pack.now c.write_head.new.self c.in_err-write_head.field-0.0 c.in_err-write_head.ensures)

pub returns-in_err-write_objects-clause-pack : goal.returns-in_err-write_objects-clause-pack
returns-in_err-write_objects-clause-pack g c =
    let p = err_from_is_err_and c.from_residual-in_err-write_objects.result c.from_residual-in_err-write_objects.ensures.1 in
    rw (p.1, p.2) (entries_stop (g.O.Objects.name_of c.args.objects.now) (g.O.Objects.stands c.args.objects.now) (g.O.Objects.told c.args.objects.now) c.args.listing.now c.args.marks.now c.requires.listed c.requires.long
    c.args.count c.requires.count c.args.pack.now c.write_head.new.self c.in_ok-write_head.ensures c.write_objects.new.pack c.in_err-write_objects.field-0.0 c.in_err-write_objects.ensures.objects)

pub returns-in_err-write_end-clause-pack : goal.returns-in_err-write_end-clause-pack
returns-in_err-write_end-clause-pack g c =
    let p = err_from_is_err_and c.from_residual-in_err-write_end.result c.from_residual-in_err-write_end.ensures.1 in
    rw (p.1, p.2) (end_fails (g.O.Objects.name_of c.args.objects.now) (g.O.Objects.stands c.args.objects.now) (g.O.Objects.told c.args.objects.now) c.args.listing.now c.args.marks.now c.requires.listed c.requires.long
    c.args.count c.requires.count c.args.pack.now c.write_head.new.self c.in_ok-write_head.ensures c.write_objects.new.pack c.in_ok-write_objects.ensures.objects c.requires.digested
    c.write_end.new.self c.in_err-write_end.field-0.0 c.in_err-write_end.ensures)

pub returns-clause-pack : goal.returns-clause-pack
returns-clause-pack g c =
    pack_went (g.O.Objects.name_of c.args.objects.now) (g.O.Objects.stands c.args.objects.now) (g.O.Objects.told c.args.objects.now) c.args.listing.now c.args.marks.now c.requires.listed c.requires.long
    c.args.count c.requires.count c.args.pack.now c.write_head.new.self c.in_ok-write_head.ensures c.write_objects.new.pack c.in_ok-write_objects.ensures.objects c.requires.digested
    c.write_end.new.self c.in_ok-write_end.ensures
