use Rattle.std.proofs.Common.{map}
use Rattle.gx_rev.specs.Views.{shown_range}
use Rattle.gx_changes.proofs.Found.{sent_found}
use Rattle.gx_changes.proofs.finding.find_sent.Goals as goal

pub returns : goal.returns
returns g c =
    let o = c.args.objects.now in
    sent_found (g.O.Objects.name_of o) (g.O.Objects.stands o) (map shown_range c.args.words.now) (g.O.Objects.told o) c.in_ok-spans.spans c.in_ok-found_in.field-0 c.in_ok-spans.ensures c.in_ok-found_in.ensures.found
