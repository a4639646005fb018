use Rattle.gx_rev.specs.Reached.{is_wanted}
use Rattle.gx_rev.proofs.refs.mark_all.Goals as goal

pub spread-requires : goal.spread-requires
spread-requires g c = (is_wanted c.args.repo.now.1, c.mark_refs.ensures)

pub returns : goal.returns
returns g c = c.spread.ensures (is_wanted c.args.repo.now.1) c.mark_refs.ensures
