use Rattle.std.proofs.Common.{◌∙◌, List, length, sym, ap, subst}
use Rattle.gx_model.specs.Histories.{Record}
use Rattle.gx_repo.specs.Objects.{AreTargets}
use Rattle.gx_placed.proofs.Going.{front_kept}
use Rattle.gx_placed.proofs.placing.place.Goals as goal

pub truncate-requires : goal.truncate-requires
truncate-requires g c =
    let front = front_kept c.args.repo.now.1.records c.place_all.new.repo.1.records c.len-held.result (c.len-held.ensures.count ∙ ap (λ (z : g.row.N.Denot × List Record). length z.1) c.store.ensures.held) c.in-Err.ensures.extends in
    record { targets = subst (λ rs. AreTargets rs c.place_all.new.repo.1.refs) (sym front) (subst (AreTargets c.args.repo.now.1.records) (sym c.in-Err.ensures.refs) c.sound.ensures.held) }
