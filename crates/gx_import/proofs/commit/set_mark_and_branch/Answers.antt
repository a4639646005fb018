use Rattle.std.proofs.Common.{Some, refl, ap, sym, subst}
use Rattle.gx_import.specs.Standing.{tip_at}
use Rattle.gx_import.proofs.MarkedStates.{commit_set}
use Rattle.gx_import.proofs.TipHomes.{AreHome, homes_put, kept_files, kept_home, tips_with}
use Rattle.gx_import.proofs.commit.set_mark_and_branch.Goals as goal

pub returns-clause-homes : goal.returns-clause-homes
returns-clause-homes g c = λ name records home homes.
    let tip = tip_at (Some c.args.name) c.unless_held-files.result c.args.tables.now.branches c.args.branch.bytes.items in
    tips_with name records c.args.tables.now c.set_tip.new.self homes (ap (λ t. t.loaded) c.set_tip.ensures.others)
    (subst (AreHome name records) (sym c.in_ok-set_tip.ensures.branches) (homes_put name records c.args.branch.bytes.items tip _ (kept_home name records c.args.files c.unless_held-files.result c.unless_held-files.ensures home) homes.tips))

pub returns-clause-steps : goal.returns-clause-steps
returns-clause-steps g c = λ name repository s made h is files.
    commit_set name repository c.args.tables.now s s (record { stands = h; progress = refl; held = refl }) made c.args.name is.stands is.named c.args.mark c.set.new.self _ refl refl c.in_ok-set.ensures.sets c.args.branch.bytes.items c.args.branch.proper
    c.unless_held-files.result (kept_files name made c.args.files c.unless_held-files.result c.unless_held-files.ensures files) _ c.set_tip.ensures.others c.in_ok-set_tip.ensures.branches
