use Rattle.std.proofs.Common.{◌++◌, refl}
use Rattle.gx_additions.specs.Parts.{refs_front}
use Rattle.gx_additions.proofs.Brought.{brought}
use Rattle.gx_additions.proofs.Spelled.{lines_put}
use Rattle.gx_additions.proofs.objects.new_additions.Goals as goal

pub returns-clause-objects : goal.returns-clause-objects
returns-clause-objects g c named lines =
    let segment = c.in_ok-segment.segment.items in
    let last = c.put_all.new.bytes.items in
    let put = lines_put named c.args.count c.args.refs.now segment c.put_count.new.bytes.items last lines c.in_ok-put_count.ensures c.in_ok-put_all.ensures in
    brought c.args.ending c.args.store.now.1 named segment (segment ++ refs_front named) last c.in_ok-added.added.segment.items c.in_ok-added.added.slot.items c.in_ok-segment.front
    (g.S.ReadAt.text c.args.source.now) c.in_ok-segment.ensures.front refl put c.in_ok-added.ensures.segment c.in_ok-added.ensures.slot c.in_ok-added.ensures.short
