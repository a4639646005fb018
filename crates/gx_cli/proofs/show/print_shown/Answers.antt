use Rattle.std.proofs.Common.{subst, sym, ◌∙◌}
use Rattle.gx_model.specs.declared.objects.Kind.TheVariants as kinds
use Rattle.gx_model.proofs.Records.HeldValues.{held_kind}
use Rattle.gx_rev.specs.Answers.{IsNamed}
use Rattle.gx_cli.proofs.show.print_shown.Goals as goal

pub print_entries-requires : goal.print_entries-requires
print_entries-requires g c =
    let name = g.N.Namer.name_of c.args.repo.now.0 in
    let r = c.args.repo.now.1 in
    let named = subst (IsNamed name r) c.in-Object.is c.requires in
    held_kind name (g.met.N.Namer.is_namer c.args.repo.now.0) r c.sound.ensures kinds.Tree c.in-Object.name.bytes named.2 (sym named.0 ∙ c.in-Tree.is)
