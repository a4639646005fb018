use Rattle.gx_differences.proofs.HeldLeaves.{leaves_listed}
use Rattle.gx_differences.proofs.ListedSteps.{roots_listed}
use Rattle.gx_differences.proofs.Roots.{roots_told}
use Rattle.gx_differences.proofs.listed.list.Goals as goal

pub list_trees-requires : goal.list_trees-requires
list_trees-requires g c =
    let o = c.args.objects.now in
    let s = c.sound_if_told.ensures in
    record { held = roots_told (g.O.Objects.name_of o) s.namer (g.O.Objects.told o) c.args.old c.args.new c.root-root.result c.root-root.ensures s.sound c.requires.old c.requires.new }

pub returns-clause-found : goal.returns-clause-found
returns-clause-found g c =
    let o = c.args.objects.now in
    let s = c.sound_if_told.ensures in
    roots_listed (g.O.Objects.name_of o) s.namer (g.O.Objects.told o) c.args.old c.args.new c.root-root.result c.root-root.ensures c.new-found.result.items c.list_trees.new.found.items
    c.new-found.ensures.items s.sound c.requires.old c.requires.new c.in_ok-list_trees.ensures.found

pub returns-clause-held : goal.returns-clause-held
returns-clause-held g c =
    let o = c.args.objects.now in
    let s = c.sound_if_told.ensures in
    let found = roots_listed (g.O.Objects.name_of o) s.namer (g.O.Objects.told o) c.args.old c.args.new c.root-root.result c.root-root.ensures c.new-found.result.items c.list_trees.new.found.items
    c.new-found.ensures.items s.sound c.requires.old c.requires.new c.in_ok-list_trees.ensures.found in
    leaves_listed (g.O.Objects.name_of o) s.namer (g.O.Objects.told o) c.args.old c.args.new c.list_trees.new.found.items s.sound c.requires.old c.requires.new found
