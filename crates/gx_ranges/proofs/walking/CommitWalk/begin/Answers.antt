use Rattle.std.proofs.Common.{map}
use Rattle.gx_rev.specs.Views.{shown_range}
use Rattle.gx_ranges.proofs.WordTips.{begun}
use Rattle.gx_ranges.proofs.walking.CommitWalk.begin.Goals as goal

pub returns : goal.returns
returns g c =
    let o = c.args.objects.now in
    begun (g.O.Objects.name_of o) (g.O.Objects.stands o) (map shown_range c.args.words.now) (record { wanted = c.add_asked.new.front; unwanted = c.add_words.new.unwanted; left = c.args.most }) c.add_words.new.wanted.entries
    c.args.refs (g.O.Objects.told o) c.in_ok-add_words.ensures c.in_ok-add_asked.ensures.adds
