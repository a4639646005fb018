use Rattle.std.proofs.Common.{◌++◌, ◌∙◌}
use Rattle.gx_object.specs.Commits.{bytes_of_names}
use Rattle.gx_repo.specs.Pruning.{tips_of}
use Rattle.gx_repo.proofs.PrunedRecords.{names_marked, none_marked, tips_marked}
use Rattle.gx_repo.proofs.pruning.mark_reachable.Goals as goal

pub returns : goal.returns
returns g c =
    let rs = c.args.store.now.1 in
    let refs = c.args.refs.now in
    let names = bytes_of_names c.args.kept.now in
    c.spread.ensures (refs ++ tips_of names)
    (names_marked refs names rs c.mark_tips.new.marks c.mark_names.new.marks (tips_marked refs rs c.args.marks.now c.mark_tips.new.marks (c.requires.none ∙ none_marked rs) c.mark_tips.ensures) c.mark_names.ensures)
