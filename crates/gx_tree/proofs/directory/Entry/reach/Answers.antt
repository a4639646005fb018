use Rattle.std.proofs.Common.{ap, arith}
use Rattle.gx_tree.specs.Components.{bytes_of}
use Rattle.gx_tree.specs.Views.{shown_item}
use Rattle.gx_tree.proofs.Rooms.{file_reach, folder_reach}
use Rattle.gx_tree.proofs.directory.Entry.reach.Goals as goal

pub returns-in-File : goal.returns-in-File
returns-in-File g c = file_reach c.args.self.now.item (bytes_of c.args.self.now.component) c.component-used.result.now c.in-File.is c.component-used.ensures (omega arith)

pub returns-in-Folder : goal.returns-in-Folder
returns-in-Folder g c = folder_reach c.args.self.now.item c.in-Folder.below.files (bytes_of c.args.self.now.component) c.component-used.result.now c.reach.result c.saturating_add.result (ap shown_item c.in-Folder.is) c.component-used.ensures c.reach.ensures c.saturating_add.ensures
