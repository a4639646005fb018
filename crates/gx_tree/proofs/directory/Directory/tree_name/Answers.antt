use Rattle.std.proofs.Common.{sym, ap, ◌∙◌}
use Rattle.std.specs.Option.{is_some}
use Rattle.std.proofs.lemmas.Bool.{false≢true}
use Rattle.gx_tree.specs.Named.{NamedTree, is_named, own_name}
use Rattle.gx_tree.specs.Views.{names_of}
use Rattle.gx_tree.proofs.WrittenHomes.{own_none-below}
use Rattle.gx_tree.proofs.directory.Directory.tree_name.Goals as goal

pub unreachable-requires : goal.unreachable-requires
unreachable-requires g c =
    let es = c.self.inside.entries.value.items in
    let none = ap (λ r. own_name (names_of r es)) c.in-None.is ∙ own_none-below es in
    false≢true (sym (ap is_some none) ∙ ap (λ (t : NamedTree). is_named t.names) c.self.view_is ∙ c.requires)
