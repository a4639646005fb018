use Rattle.std.proofs.Common.{map, refl}
use Rattle.gx_repo.specs.Refs.{ref_of}
use Rattle.gx_repo.proofs.RefMaps.{next_added}
use Rattle.gx_repo.proofs.publishing.add_in_order.Goals as goal

pub loop-name-preserved : goal.loop-name-preserved
loop-name-preserved g c =
    next_added c.loop-name.refs.items c.push.new.self.items (record { name = c.in-Some.name; object = c.in-Some.object }) (c.in-Some.name, c.in-Some.object) c.loop-name.name-iterator c.next.new.self
    (map ref_of c.args.objects.entries) c.in_ok-push.ensures.items c.in-Some.ensures.steps refl c.loop-name.invariant
