use Rattle.std.proofs.Common.{sym, ap, ◌∙◌, arith}
use Rattle.std.proofs.lemmas.Bool.{and_parts}
use Rattle.gx_model.specs.Histories.Edits.{removed}
use Rattle.gx_tree.specs.Nodes.{files}
use Rattle.gx_tree.specs.Views.{shown_entries, shown_item}
use Rattle.gx_tree.proofs.Renamed.{ends_at, parted}
use Rattle.gx_tree.proofs.parting.rename_apart.Goals as goal

pub returns-then-depth-length-clause-files : goal.returns-then-depth-length-clause-files
returns-then-depth-length-clause-files g c =
    let from = ends_at c.args.from.now c.args.depth c.requires.from (omega (arith, c.if-depth-length.true, c.len-length.ensures.length)) c.component.ensures.component in
    parted c.args.from.now c.args.to.now c.args.depth (shown_item c.args.item.now) (shown_entries c.args.entries.now.items) c.requires.from c.requires.to c.requires.apart (and_parts _ _ c.len.ensures.path).0 c.requires.kept c.requires.level c.in_ok-reach.ensures.files
    (c.take_out.ensures.files ∙ ap (removed (files (shown_entries c.graft_among.new.entries.items))) (sym from))

pub returns-then-depth-length-clause-home : goal.returns-then-depth-length-clause-home
returns-then-depth-length-clause-home g c = λ name rs h. c.take_out.ensures.home name rs (c.in_ok-reach.ensures.home name rs h)
