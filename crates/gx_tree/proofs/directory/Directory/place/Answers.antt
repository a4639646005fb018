use Rattle.std.proofs.Common.{sym, ap, ◌∙◌, arith, subst}
use Rattle.gx_tree.specs.Nodes.{IsKept, kept_map}
use Rattle.gx_tree.specs.Steps.{grafted}
use Rattle.gx_tree.specs.Views.{shown_item}
use Rattle.gx_tree.proofs.CopyLaws.{grafted_at_root}
use Rattle.gx_tree.proofs.directory.Directory.place.Goals as goal

pub returns-clause-files : goal.returns-clause-files
returns-clause-files g c =
    sym (ap (λ z. grafted c.args.path.now (kept_map (shown_item z)) c.args.self.now.files) c.in-Folder.is ∙ grafted_at_root c.args.path.now c.args.self.now.files c.in-Folder.below.files (omega arith) (subst (λ z. IsKept (shown_item z)) c.in-Folder.is c.requires.kept))
