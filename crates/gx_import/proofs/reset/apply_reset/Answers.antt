use Rattle.std.proofs.Common.{None, Ok, refl, sym, ap, subst, ◌∙◌}
use Rattle.std.proofs.lemmas.Result.{err_from_is_err_and}
use Rattle.std.specs.Option.{option_map}
use Rattle.gx_model.specs.Faults.{IsFaultOf, ◌>>=◌}
use Rattle.gx_model.specs.Replay.{on_branch}
use Rattle.gx_model.specs.declared.faults.Fault.TheVariants.{OutOfMemory}
use Rattle.gx_command.specs.Views.{shown_commit_ish, shown_reset}
use Rattle.gx_import.specs.Asking.{AsksInVain}
use Rattle.gx_import.specs.Standing.{tip_at}
use Rattle.gx_import.proofs.AskedReferences.{none_vain, reset_vain}
use Rattle.gx_import.proofs.FaultSteps.{fault_then}
use Rattle.gx_import.proofs.Resets.{reset_by}
use Rattle.gx_import.proofs.Standings.{moved_branch}
use Rattle.gx_import.proofs.TipHomes.{AreHome, homes_put, tips_with}
use Rattle.gx_import.proofs.reset.apply_reset.Goals as goal

pub returns-in-Err-clause-steps : goal.returns-in-Err-clause-steps
returns-in-Err-clause-steps g c = λ s h.
    let name = g.N.Namer.name_of c.args.repo.now.0 in
    let b = c.args.reset.branch.bytes.items in
    let x = option_map shown_commit_ish c.args.reset.from in
    let k = c.in-Err.ensures s h in
    subst (IsFaultOf c.in-Err.kind) (sym (reset_by name s b x)) (fault_then c.in-Err.kind _ (λ y. Ok (on_branch b y s)) k)

pub returns-in-Err-clause-asked : goal.returns-in-Err-clause-asked
returns-in-Err-clause-asked g c = λ s h.
    reset_vain (g.N.Namer.name_of c.args.repo.now.0) c.args.reset.branch.bytes.items s (option_map shown_commit_ish c.args.reset.from) c.in-Err.kind c.of_line.result c.of_line.ensures (c.in-Err.ensures s h)

pub returns-clause-asked : goal.returns-clause-asked
returns-clause-asked g c = λ s h. c.requires.unasked

pub returns-in_err-set_tip-clause-asked : goal.returns-in_err-set_tip-clause-asked
returns-in_err-set_tip-clause-asked g c = λ s h.
    let name = g.N.Namer.name_of c.args.repo.now.0 in
    let p = err_from_is_err_and c.from_residual.result c.from_residual.ensures.1 in
    rw (p.1, p.2) (none_vain (AsksInVain name s (shown_reset c.args.reset) OutOfMemory) OutOfMemory c.args.asked.now c.requires.unasked refl)

pub returns-clause-steps : goal.returns-clause-steps
returns-clause-steps g c = λ s h.
    let name = g.N.Namer.name_of c.args.repo.now.0 in
    let b = c.args.reset.branch.bytes.items in
    let x = option_map shown_commit_ish c.args.reset.from in
    let k = c.in-Ok.ensures s h in (
      on_branch b k.0 s,
      reset_by name s b x ∙ ap (λ r. r >>= λ y. Ok (on_branch b y s)) k.1,
      record { stands = moved_branch name c.args.repo.now.1 c.args.tables.now _ s h b c.args.reset.branch.proper k.0 (tip_at c.in-Ok.commit None c.args.tables.now.branches b) (record { commit = k.2; files = tt }) refl c.set_tip.ensures.others c.in_ok-set_tip.ensures.branches; progress = refl; held = refl },
    )

pub returns-clause-homes : goal.returns-clause-homes
returns-clause-homes g c = λ name records h.
    tips_with name records c.args.tables.now c.set_tip.new.self h (ap (λ t. t.loaded) c.set_tip.ensures.others) (subst (AreHome name records) (sym c.in_ok-set_tip.ensures.branches) (homes_put name records _ _ _ tt h.tips))

pub returns-in_err-set_tip-clause-steps : goal.returns-in_err-set_tip-clause-steps
returns-in_err-set_tip-clause-steps g c = λ s h.
    let p = err_from_is_err_and c.from_residual.result c.from_residual.ensures.1 in
    rw (p.1, p.2) tt
