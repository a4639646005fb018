use Rattle.std.proofs.Common.{ap, ◌∙◌}
use Rattle.gx_listed.specs.Listings.{number_named}
use Rattle.gx_listed.proofs.Numbers.{number_found}
use Rattle.gx_listed.proofs.listing.Listing.number.Goals as goal

pub returns : goal.returns
returns g c = c.get_index_of.ensures.index ∙ number_found c.args.name.now c.self.inside.objects.entries ∙ ap (λ v. number_named v c.args.name.now.bytes) c.self.view_is
