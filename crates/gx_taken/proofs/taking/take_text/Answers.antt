use Rattle.std.proofs.Common.{Ok, subst}
use Rattle.gx_offered.specs.Items.{shown_offer}
use Rattle.gx_offered.specs.Offers.{GivesOffer}
use Rattle.gx_taken.specs.Calls.{AreGoodItems}
use Rattle.gx_taken.proofs.TakenTexts.{offered_good, text_given}
use Rattle.gx_taken.proofs.taking.take_text.Goals as goal

pub take-requires : goal.take-requires
take-requires g c =
    let coming = g.R.Source.coming c.args.source in
    record { good = subst (λ name. AreGoodItems name (shown_offer c.in_ok-items.items)) c.requires.same (offered_good (g.N.Namer.name_of c.args.namer.now) coming c.in_ok-items.items c.in_ok-items.ensures) }

pub returns-clause-taken : goal.returns-clause-taken
returns-clause-taken g c =
    let coming = g.R.Source.coming c.args.source in
    let name = g.N.Namer.name_of c.args.repo.0 in
    text_given name c.args.force c.args.repo.1 coming c.in_ok-items.items (subst (λ n. GivesOffer n coming (Ok c.in_ok-items.items)) c.requires.same c.in_ok-items.ensures) c.take.result c.take.ensures.taken
