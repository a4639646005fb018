use Rattle.std.proofs.Common.{sym}
use Rattle.gx_model.proofs.Records.HeldValues.{held_kind, tree_found}
use Rattle.gx_model.specs.declared.objects.Kind.TheVariants as kinds
use Rattle.gx_rev.proofs.objects.tree_of.Goals as goal

pub returns-in-Tree-clause-held : goal.returns-in-Tree-clause-held
returns-in-Tree-clause-held g c =
    held_kind (g.N.Namer.name_of c.args.repo.now.0) (g.met.N.Namer.is_namer c.args.repo.now.0) c.args.repo.now.1 c.sound.ensures kinds.Tree c.args.name.now.bytes c.requires (sym c.in-Tree.ensures)

pub returns-in_ok-commit-in-Commit-clause-files : goal.returns-in_ok-commit-in-Commit-clause-files
returns-in_ok-commit-in-Commit-clause-files g c =
    (tree_found (g.N.Namer.name_of c.args.repo.now.0) (g.met.N.Namer.is_namer c.args.repo.now.0) c.args.repo.now.1 c.sound.ensures c.args.name.now.bytes c.in_ok-commit-in-Commit.commit.bytes c.tree.result.bytes c.requires c.in_ok-commit-in-Commit.ensures.commit c.in_ok-commit-in-Commit.ensures.held (rw c.view_of.ensures at c.tree.ensures)).0

pub returns-in_ok-commit-in-Commit-clause-held : goal.returns-in_ok-commit-in-Commit-clause-held
returns-in_ok-commit-in-Commit-clause-held g c =
    (tree_found (g.N.Namer.name_of c.args.repo.now.0) (g.met.N.Namer.is_namer c.args.repo.now.0) c.args.repo.now.1 c.sound.ensures c.args.name.now.bytes c.in_ok-commit-in-Commit.commit.bytes c.tree.result.bytes c.requires c.in_ok-commit-in-Commit.ensures.commit c.in_ok-commit-in-Commit.ensures.held (rw c.view_of.ensures at c.tree.ensures)).1
