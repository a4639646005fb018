use Rattle.std.proofs.Common.{◌∙◌, ap}
use Rattle.gx_tree.specs.Named.{NamedTree, own_name}
use Rattle.gx_tree.proofs.WrittenHomes.{own_name-of}
use Rattle.gx_tree.proofs.directory.Directory.own_name.Goals as goal

pub returns : goal.returns
returns g c = own_name-of c.self.inside.remembered c.self.inside.entries.value.items ∙ ap (λ (t : NamedTree). own_name t.names) c.self.view_is
