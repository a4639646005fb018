use Rattle.std.proofs.Common.{◌≡◌, length}
use Rattle.std.specs.Prelude.{◌⊎◌}
use Rattle.gx_offered.specs.Ends.{EndsWith}
use Rattle.gx_offered.specs.Items.{shown_offer}
use Rattle.gx_offered.specs.Offers.{BeginsWell}
use Rattle.gx_offered.proofs.ReadOffers.{AreReadTo}
use Rattle.gx_offered.proofs.offer.offer_in.Given as goal

abbrev pub invariant-loop-rest : goal.invariant-loop-rest
invariant-loop-rest g l = record {
  left : EndsWith l.text l.rest;
  read : AreReadTo (g.N.Namer.name_of l.namer) l.text (shown_offer l.items) l.rest;
  begun : (l.rest ≡ l.text) ⊎ BeginsWell (g.N.Namer.name_of l.namer) l.text;
}

abbrev pub decreases-loop-rest : goal.decreases-loop-rest
decreases-loop-rest g l = length l.rest
