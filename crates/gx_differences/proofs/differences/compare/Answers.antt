use Rattle.gx_differences.proofs.Roots.{roots_differ, roots_held, roots_told}
use Rattle.gx_differences.proofs.differences.compare.Goals as goal

pub compare_trees-requires : goal.compare_trees-requires
compare_trees-requires g c =
    let o = c.args.objects.now in
    let s = c.sound_if_told.ensures in
    record { held = roots_told (g.O.Objects.name_of o) s.namer (g.O.Objects.told o) c.args.old c.args.new c.root-root.result c.root-root.ensures s.sound c.requires.old c.requires.new }

pub returns-clause-found : goal.returns-clause-found
returns-clause-found g c =
    let o = c.args.objects.now in
    let s = c.sound_if_told.ensures in
    roots_differ (g.O.Objects.name_of o) s.namer (g.O.Objects.told o) c.args.old c.args.new c.root-root.result c.root-root.ensures (record { gone = c.new.result; files = c.new-2.result }) c.compare_trees.new.found
    c.new.ensures.items c.new-2.ensures.items s.sound c.requires.old c.requires.new c.in_ok-compare_trees.ensures.found

pub returns-clause-held : goal.returns-clause-held
returns-clause-held g c =
    let o = c.args.objects.now in
    let s = c.sound_if_told.ensures in
    let found = roots_differ (g.O.Objects.name_of o) s.namer (g.O.Objects.told o) c.args.old c.args.new c.root-root.result c.root-root.ensures (record { gone = c.new.result; files = c.new-2.result }) c.compare_trees.new.found
    c.new.ensures.items c.new-2.ensures.items s.sound c.requires.old c.requires.new c.in_ok-compare_trees.ensures.found in
    roots_held (g.O.Objects.name_of o) s.namer (g.O.Objects.told o) c.args.old c.args.new c.root-root.result c.root-root.ensures c.compare_trees.new.found s.sound c.requires.new found
