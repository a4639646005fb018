use Rattle.std.proofs.Common.{ap, drop, subst}
use Rattle.gx_additions.specs.NewObjects.{Begins}
use Rattle.gx_additions.proofs.Brought.{brought}
use Rattle.gx_additions.proofs.objects.new_objects.Goals as goal

pub returns-clause-objects : goal.returns-clause-objects
returns-clause-objects g c =
    let repository = c.args.repo.now.1 in
    let text = g.S.ReadAt.text c.args.source.now in
    let segment = c.in_ok-segment.segment.items in
    let front = c.in_ok-segment.front in
    let begins = subst (λ rs. Begins text c.args.ending rs segment front) (ap (λ s. drop c.args.held s.1) c.store.ensures.held) c.in_ok-segment.ensures.front in
    brought c.args.ending (drop c.args.held repository.records) repository.refs segment c.put_refs.new.bytes.items c.extend_from_slice.new.self.items c.in_ok-added.added.segment.items c.in_ok-added.added.slot.items front
    text begins c.in_ok-put_refs.ensures c.in_ok-extend_from_slice.ensures.items c.in_ok-added.ensures.segment c.in_ok-added.ensures.slot c.in_ok-added.ensures.short
