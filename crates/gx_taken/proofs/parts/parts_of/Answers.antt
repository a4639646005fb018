use Rattle.std.proofs.Common.{refl, sym, rules, ◌∙◌}
use Rattle.gx_taken.proofs.SplitOffers.{all_off, empty, object_off, ref_off}
use Rattle.gx_taken.proofs.parts.parts_of.Goals as goal

pub loop-item-preserved-in-Continue-branch-2 : goal.loop-item-preserved-in-Continue-branch-2
loop-item-preserved-in-Continue-branch-2 g c =
    object_off {A = g.row.A.Denot} c.args.items.items c.loop-item.item-iterator.rest.items c.next.new.self.rest.items c.in-Some.item c.loop-item.objects.items c.loop-item.labels.items c.loop-item.refs.items c.in-Some.ensures.steps.0
    c.loop-item.invariant c.in-Object.object _ c.push-in-Object.new.self.items c.push.new.self.items c.in-Object.is (search rules) refl c.in_ok-push-in-Object-2.ensures.items c.in_ok-push-in-Object.ensures.items

pub loop-item-preserved : goal.loop-item-preserved
loop-item-preserved g c =
    ref_off {A = g.row.A.Denot} c.args.items.items c.loop-item.item-iterator.rest.items c.next.new.self.rest.items c.in-Some.item c.loop-item.objects.items c.loop-item.labels.items c.loop-item.refs.items c.in-Some.ensures.steps.0
    c.loop-item.invariant c.in-Ref.offered _ c.push-in-Ref.new.self.items c.in-Ref.is (search rules) refl c.in_ok-push-in-Ref.ensures.items

pub returns : goal.returns
returns g c =
    all_off {A = g.row.A.Denot} c.args.items c.loop-item.item-iterator.rest.items (record { objects = c.loop-item.objects; labels = c.loop-item.labels; refs = c.loop-item.refs }) (empty c.loop-item.item-iterator.rest.items (sym c.loop-item.item-iterator.rest.ok.0 ∙ c.in-None.ensures.steps.0)) c.loop-item.invariant
