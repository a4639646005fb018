use Rattle.std.proofs.Common.{map}
use Rattle.gx_rev.specs.Views.{shown_range}
use Rattle.gx_tips.proofs.SetRefs.{spans_found}
use Rattle.gx_tips.proofs.spans.Spans.of_words.Goals as goal

pub returns : goal.returns
returns g c =
    let o = c.args.objects.now in
    spans_found (g.O.Objects.name_of o) (g.O.Objects.stands o) (g.O.Objects.told o) (map shown_range c.args.words.now) (record { wanted = c.add_words.new.wanted; unwanted = c.add_words.new.unwanted }) c.in_ok-add_words.ensures
