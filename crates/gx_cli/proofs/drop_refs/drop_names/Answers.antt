use Rattle.std.proofs.Common.{◌++◌, ap, map, ◌∙◌}
use Rattle.gx_text.specs.Lent.{lent_texts}
use Rattle.gx_print.specs.Words.{with_lines}
use Rattle.gx_cli.proofs.DroppedStores.{names_dropped}
use Rattle.gx_cli.proofs.drop_refs.drop_names.Goals as goal

pub returns-in-Ok : goal.returns-in-Ok
returns-in-Ok g c =
    let added = c.in_ok-add_lines.ensures ∙ ap (λ texts. texts ++ map (λ line. line.items) c.args.lines.now) c.in_ok-names.ensures in
    names_dropped c.args.repo.now c.drop_refs.new.self (with_lines c.args.words.now c.args.lines.now) c.as_slice.result.now (ap lent_texts c.as_slice.ensures.value ∙ added) c.drop_refs.ensures.namer c.drop_refs.ensures.records c.in-Ok.ensures.refs
