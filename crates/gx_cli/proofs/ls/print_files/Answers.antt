use Rattle.std.proofs.Common.{◌∙◌, ap, subst, sym}
use Rattle.std.specs.List.{flat_map}
use Rattle.gx_rev.specs.Objects.{files_at}
use Rattle.gx_cli.specs.Sending.{PrintsText}
use Rattle.gx_print.specs.WalkedFiles.{HavePaths, files_in, line_below}
use Rattle.gx_print.proofs.WalkedFiles.{root_lines, tree_paths}
use Rattle.gx_cli.proofs.ls.print_files.Goals as goal

pub print_below-requires : goal.print_below-requires
print_below-requires g c =
    let name = g.N.Namer.name_of c.args.repo.now.0 in
    let r = c.args.repo.now.1 in
    let n = c.args.tree.now.bytes in
    let paths = (tree_paths name (g.met.N.Namer.is_namer c.args.repo.now.0) r c.sound.ensures n c.requires).1 in
    (c.requires, subst (λ front. HavePaths front (files_in name r n)) (sym c.new-path.ensures.items) paths)

pub returns : goal.returns
returns g c =
    let name = g.N.Namer.name_of c.args.repo.now.0 in
    let r = c.args.repo.now.1 in
    let n = c.args.tree.now.bytes in
    let lines = ap (λ front. flat_map (line_below front) (files_in name r n)) c.new-path.ensures.items ∙ root_lines name (files_at r c.args.tree.now) in
    subst (λ text. PrintsText text (g.W.Sink.taken c.args.sink.now) (g.W.Sink.taken c.print_below.new.sink) c.print_below.result) lines c.print_below.ensures.lines
