use Rattle.std.proofs.Common.{subst}
use Rattle.gx_questions.specs.Answers.{IfTold}
use Rattle.gx_rev.specs.Answers.{IsNamed}
use Rattle.gx_told.proofs.ShownBodies.{tree_held}
use Rattle.gx_told.proofs.show.print_shown.Goals as goal

pub print_entries-requires : goal.print_entries-requires
print_entries-requires g c =
    let told = g.O.Objects.told c.args.objects.now in
    let name = g.O.Objects.name_of c.args.objects.now in
    let named = subst (IfTold told (IsNamed name)) c.in-Object.is c.requires in
    tree_held name told c.in-Object.kind c.in-Object.name c.sound_if_told.ensures.namer c.in-Tree.is c.sound_if_told.ensures.sound named
