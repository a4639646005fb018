use Rattle.std.proofs.Common.{◌≡◌, IfSome, Option, None, Some, sym, rules}
use Rattle.gx_object.specs.declared.name.Name.{Name}
use Rattle.gx_tree.specs.Named.{NamedTree}
use Rattle.gx_import.specs.declared.branches.Tip.{Tip}
use Rattle.gx_import.specs.Standing.{HasFiles}
use Rattle.gx_import.proofs.branches.Tip.take_files.Goals as goal

has_files : {A : Type 0} (tip : Tip A) (called : Name) (files : Option NamedTree) → tip.commit ≡ Some called → tip.files ≡ files → IfSome files (HasFiles tip called)
has_files tip called None stands are = tt
has_files tip called (Some files) stands are = (stands, are)

pub returns-then-eq-clause-files : goal.returns-then-eq-clause-files
returns-then-eq-clause-files g c =
    let stands : c.args.self.now.commit ≡ Some c.args.commit.now = search rules in
    has_files c.args.self.now c.args.commit.now c.take.result stands (sym c.take.ensures.value)
