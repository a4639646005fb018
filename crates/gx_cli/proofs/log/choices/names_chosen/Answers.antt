use Rattle.std.proofs.Common.{◌∙◌, ap}
use Rattle.gx_print.specs.Logs.{limited, skipped, turned}
use Rattle.gx_cli.proofs.KeptCommits.{kept_chosen}
use Rattle.gx_cli.proofs.log.choices.names_chosen.Goals as goal

pub returns : goal.returns
returns g c =
    let o = c.args.options in
    let kept = c.in_ok-kept.kept.items in
    let taken = c.arrange.ensures ∙ ap (λ ns. turned o.reverse (limited o.max_count ns)) (c.in_ok-chosen.ensures.items ∙ c.behind.ensures ∙ ap (skipped o.skip) c.as_slice.ensures.value) in
    kept_chosen (g.N.Namer.name_of c.args.repo.now.0) o c.args.repo.now.1 c.args.names.now kept c.arrange.new.names.items c.in_ok-kept.ensures.0 c.in_ok-kept.ensures.1 taken
