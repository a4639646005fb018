use Rattle.std.proofs.Common.{sym, ap}
use Rattle.gx_tree.specs.Nodes.{mark}
use Rattle.gx_tree.specs.Views.{shown_item}
use Rattle.gx_tree.proofs.directory.Entry.mark.Goals as goal

pub returns-in-File : goal.returns-in-File
returns-in-File g c = ap (λ i. mark (shown_item i)) (sym c.in-File.is)

pub returns-in-Folder : goal.returns-in-Folder
returns-in-Folder g c = ap (λ i. mark (shown_item i)) (sym c.in-Folder.is)
