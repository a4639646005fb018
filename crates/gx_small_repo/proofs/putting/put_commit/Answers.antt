use Rattle.gx_model.specs.declared.objects.Kind.TheVariants as kinds
use Rattle.gx_small_repo.proofs.OfWhole.{commit_stays, own_stays}
use Rattle.gx_small_repo.proofs.putting.put_commit.Goals as goal

pub returns-then-are_parents_held-clause-small : goal.returns-then-are_parents_held-clause-small
returns-then-are_parents_held-clause-small g c =
    let old = c.put_tree.new.repo in
    own_stays (g.O.Objects.told c.args.origin.now.objects.now) (g.N.Namer.name_of old.0.namer) old.1 c.put.new.repo.1 c.args.name.now.bytes c.in_ok-body.body.now c.put.result c.in_ok-put_tree.ensures.small
    kinds.Commit c.in_ok-body.ensures.held c.put.ensures.put

pub returns-clause-small : goal.returns-clause-small
returns-clause-small g c =
    let old = c.put_tree.new.repo in
    commit_stays (g.O.Objects.told c.args.origin.now.objects.now) (g.N.Namer.name_of old.0.namer) old.1 c.put-2.new.repo.1 c.args.name.now.bytes c.as_slice.result.now c.put-2.result c.in_ok-put_tree.ensures.small
    c.in_ok-body.body.now c.in_ok-body.ensures.held c.in_ok-view.view c.in_ok-view.ensures.found c.tree-root.result.bytes c.in_ok-stand_in.stand_in.items c.tree-root.ensures c.as_slice.ensures.value c.in_ok-stand_in.ensures c.put-2.ensures.put
