use Rattle.std.proofs.Common.{subst}
use Rattle.gx_listed.specs.Listings.{ListsIfTold}
use Rattle.gx_plain.specs.Plain.{places_in, told_by}
use Rattle.gx_plain.proofs.PlainTexts.{listing_tells}
use Rattle.gx_plain.proofs.plain.Plain.listing.Goals as goal

pub returns : goal.returns
returns g c =
    let it = c.self.inside in
    subst (λ v. ListsIfTold (told_by (g.N.Namer.name_of v.0) v.1) (places_in (g.N.Namer.name_of v.0) v.1) it.listing) c.self.view_is
    (listing_tells (g.N.Namer.name_of it.namer) (g.S.ReadAt.text it.source) it.version it.listing it.tail c.self.invariant)
