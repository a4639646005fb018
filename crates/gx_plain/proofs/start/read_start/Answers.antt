use Rattle.std.proofs.Common.{sym, ap, ◌∙◌, codes, arith}
use Rattle.std.proofs.lemmas.Result.{err_from_is_err_and}
use Rattle.gx_model.specs.Stores.StoreReading.{after_magic, stored_count}
use Rattle.gx_lines.specs.Reads.{shown_count, shown_start}
use Rattle.gx_plain.proofs.Fronts.{refuses}
use Rattle.gx_plain.proofs.ToldStarts.{no_magic_told, no_objects_told, start_fits, start_told, unknown_start}
use Rattle.gx_plain.proofs.start.read_start.Goals as goal

pub returns-in_err-read_front : goal.returns-in_err-read_front
returns-in_err-read_front g c =
    let p = err_from_is_err_and c.from_residual.result c.from_residual.ensures.1 in
    rw (p.1, p.2) (unknown_start (g.S.ReadAt.text c.args.source.now) c.in_err-read_front.field-0.0 c.in_err-read_front.ensures.fault)

pub returns-in_default : goal.returns-in_default
returns-in_default g c =
    let room = c.read_front.new.room.items in
    let magic = ap after_magic (sym c.as_slice.ensures.value) ∙ refuses shown_start c.read_magic.result (after_magic c.as_slice.result.now) c.in_default.field-0 c.read_magic.ensures.start c.read_magic.ensures.memory c.in_default.is in
    no_magic_told (g.S.ReadAt.text c.args.source.now) room c.in_ok-read_front.ensures.front c.in_default.field-0 magic

pub returns-in_default-read_count : goal.returns-in_default-read_count
returns-in_default-read_count g c =
    let room = c.read_front.new.room.items in
    let x = shown_start (c.in-Ok.version, c.in-Ok.behind) in
    let magic = ap after_magic (sym c.as_slice.ensures.value) ∙ c.in-Ok.ensures.start in
    no_objects_told room x magic (g.S.ReadAt.text c.args.source.now) c.in_ok-read_front.ensures.front c.in_default-read_count.field-0
    (refuses shown_count c.read_count.result (stored_count (codes "objects") x.1) c.in_default-read_count.field-0 c.read_count.ensures.count c.read_count.ensures.memory c.in_default-read_count.is)

pub overflow_sub-result : goal.overflow_sub-result
overflow_sub-result g c =
    let room = c.read_front.new.room.items in
    let magic = ap after_magic (sym c.as_slice.ensures.value) ∙ c.in-Ok.ensures.start in
    let fits = start_fits room (shown_start (c.in-Ok.version, c.in-Ok.behind)) magic (shown_count (c.in-Ok-read_count.count, c.in-Ok-read_count.behind)) c.in-Ok-read_count.ensures.count in
    grind arith

pub returns : goal.returns
returns g c =
    let room = c.read_front.new.room.items in
    let magic = ap after_magic (sym c.as_slice.ensures.value) ∙ c.in-Ok.ensures.start in
    start_told room (shown_start (c.in-Ok.version, c.in-Ok.behind)) magic (shown_count (c.in-Ok-read_count.count, c.in-Ok-read_count.behind)) c.in-Ok-read_count.ensures.count (g.S.ReadAt.text c.args.source.now) c.in_ok-read_front.ensures.front _ (grind arith)
