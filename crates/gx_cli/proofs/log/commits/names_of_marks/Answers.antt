use Rattle.std.specs.Prelude.{◌&&◌, ◌||◌}
use Rattle.gx_rev.specs.Reached.{is_wanted}
use Rattle.gx_cli.proofs.log.commits.names_of_marks.Goals as goal

pub returns : goal.returns
returns g c = λ wanted unwanted e f.
    c.in_ok-names.ensures (λ made. wanted made || (c.args.refs && is_wanted c.args.repo.now.1 made)) unwanted (c.in_ok-include_refs.ensures.marked wanted e) f
