use Rattle.std.proofs.Common.{map}
use Rattle.gx_rev.specs.Views.{shown_range}
use Rattle.gx_bundled.proofs.ExcludedCommits.{excluded_found}
use Rattle.gx_bundled.proofs.excluded.excluded.Goals as goal

pub returns : goal.returns
returns g c =
    let o = c.args.objects.now in
    excluded_found (g.O.Objects.name_of o) (g.O.Objects.stands o) (g.O.Objects.told o) (map shown_range c.args.words.now) c.add_words.new.wanted.entries c.add_words.new.unwanted.entries _ c.in_ok-names_in.ensures.names c.in_ok-add_words.ensures
