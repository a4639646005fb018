use Rattle.std.proofs.Common.{map}
use Rattle.gx_rev.specs.Views.{shown_range}
use Rattle.gx_ranges.proofs.Listings.{begun_tips, names_logged}
use Rattle.gx_ranges.proofs.walking.walk.Goals as goal

pub all_names-requires : goal.all_names-requires
all_names-requires g c =
    let o = c.args.objects.now in
    record { tips = begun_tips (g.O.Objects.name_of o) (g.O.Objects.stands o) (g.O.Objects.told o) (map shown_range c.args.words.now) c.args.refs c.args.most c.in_ok-walk.walk c.in_ok-walk.ensures }

pub returns : goal.returns
returns g c =
    let o = c.args.objects.now in
    names_logged (g.O.Objects.name_of o) (g.O.Objects.stands o) (g.O.Objects.told o) (map shown_range c.args.words.now) c.args.refs c.args.most c.in_ok-walk.walk c.in_ok-names.names.items c.in_ok-walk.ensures c.in_ok-names.ensures.names
