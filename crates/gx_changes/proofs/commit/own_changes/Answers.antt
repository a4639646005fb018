use Rattle.gx_changes.proofs.OwnFiles.{base_told, own_answered, parent_told, tree_told}
use Rattle.gx_changes.proofs.commit.own_changes.Goals as goal

pub tree_of-requires : goal.tree_of-requires
tree_of-requires g c =
    let o = c.args.objects.now in
    let s = c.sound_if_told.ensures in
    parent_told (g.O.Objects.name_of o) s.namer c.args.commit.now c.parent.result c.parent.ensures (g.O.Objects.told o) s.sound c.requires

pub compare-requires-clause-old : goal.compare-requires-clause-old
compare-requires-clause-old g c =
    let o = c.args.objects.now in
    let s = c.sound_if_told.ensures in
    base_told (g.O.Objects.name_of o) s.namer c.args.commit.now c.parent.result c.parent.ensures c.in_ok-base.base (g.O.Objects.told o) s.sound c.requires c.in_ok-base.ensures.tree

pub compare-requires-clause-new : goal.compare-requires-clause-new
compare-requires-clause-new g c =
    let o = c.args.objects.now in
    let s = c.sound_if_told.ensures in
    tree_told (g.O.Objects.name_of o) s.namer c.args.commit.now c.parent.result c.parent.ensures c.in_ok-base.base c.tree.result c.tree.ensures (g.O.Objects.told o) s.sound c.requires

pub returns-clause-found : goal.returns-clause-found
returns-clause-found g c =
    let o = c.args.objects.now in
    let s = c.sound_if_told.ensures in
    own_answered (g.O.Objects.name_of o) s.namer c.args.commit.now c.parent.result c.parent.ensures c.in_ok-base.base c.tree.result c.tree.ensures (g.O.Objects.told o) c.compare.result s.sound c.in_ok-base.ensures.tree c.compare.ensures.held c.compare.ensures.found
