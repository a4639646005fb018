use Rattle.std.proofs.Common.{Err, Some, ap, false, refl, subst}
use Rattle.gx_import.specs.Imports.{Imports}
use Rattle.gx_c.specs.Importing.{features_of}
use Rattle.gx_c.specs.declared.answer.Why.TheVariants.{Import}
use Rattle.gx_c.proofs.importing.import.Goals as goal

pub returns-in-Err-clause-imported : goal.returns-in-Err-clause-imported
returns-in-Err-clause-imported g c =
    let asks = features_of c.args.done c.args.force in
    let old = c.args.repo.now in
    let new = c.import_asking-answer.new.repo in
    let name = g.N.Namer.name_of old.0 in
    let lines = c.import_asking-answer.new.sink in
    let fault = c.in-Err.fault in
    let heard = subst (λ coming. Imports asks name old.1 new.1 (Some coming) (Some c.new-lines.result) (Some lines) (Err fault)) c.new-source.ensures.coming c.in-Err.ensures.replayed in
    record {
      result = Err fault;
      lines = lines;
      imported = subst (λ was. Imports asks name old.1 new.1 (Some (record { bytes = c.args.stream.now; fails = false })) (Some was) (Some lines) (Err fault)) c.new-lines.ensures heard;
      unchanged = c.in-Err.ensures.unchanged;
      told = (ap Import c.told_fault.ensures, refl, refl, c.into_bytes-in-Err.ensures);
    }
