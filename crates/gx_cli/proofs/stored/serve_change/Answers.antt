use Rattle.std.proofs.Common.{subst, sym}
use Rattle.gx_cli.specs.Serving.{ChangesExported, ImportsText, ImportsTextAgain, ServesChange}
use Rattle.gx_cli.proofs.ServedLines.{change_served, other_again}
use Rattle.gx_cli.proofs.stored.serve_change.Goals as goal

pub returns-in-Import-clause-served : goal.returns-in-Import-clause-served
returns-in-Import-clause-served g c =
    let name = g.N.Namer.name_of c.args.namer in
    let coming = g.R.Source.coming c.args.source in
    let was = g.W.Sink.taken c.args.sink.now in
    let now = g.W.Sink.taken c.import_text.new.sink in
    let imported = subst (λ asks. ImportsText name asks c.args.store.items coming was now c.import_text.result) c.features_of-features.ensures c.import_text.ensures.imported in
    subst (λ l. ServesChange name l c.args.store.items coming was now c.import_text.result) (sym c.in-Import.is) imported

pub returns-in-Import-clause-again : goal.returns-in-Import-clause-again
returns-in-Import-clause-again g c =
    let name = g.N.Namer.name_of c.args.namer in
    let coming = g.R.Source.coming c.args.source in
    let again = subst (λ asks. ImportsTextAgain name asks c.args.store.items coming c.import_text.result) c.features_of-features.ensures c.import_text.ensures.again in
    subst (λ l. ChangesExported name l c.args.store.items coming c.import_text.result) (sym c.in-Import.is) again

pub returns-in_default : goal.returns-in_default
returns-in_default g c =
    let name = g.N.Namer.name_of c.args.namer in
    let coming = g.R.Source.coming c.args.source in
    let was = g.W.Sink.taken c.args.sink.now in
    let o = c.change_stored.result in
    record {
      served = change_served name o coming was was c.args.change.now c.args.store.items c.requires c.in_default.not-Import (c.change_stored.ensures was);
      again = other_again name o coming was was c.args.change.now c.args.store.items c.in_default.not-Import;
    }
