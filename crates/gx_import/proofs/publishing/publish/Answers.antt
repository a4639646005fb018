use Rattle.std.specs.Prelude.{MatchOption}
use Rattle.std.proofs.Common.{◌≡◌, true, false, IfSome, inr, is_some, length, map, refl, sym, ap, subst, ◌∙◌}
use Rattle.std.proofs.lemmas.Result.{err_from_is_err_and}
use Rattle.std.specs.List.{filter}
use Rattle.gx_model.specs.Records.Publishing.{changes_fault, with_changes}
use Rattle.gx_repo.specs.Refs.{shown_update}
use Rattle.gx_model.specs.declared.faults.Fault.TheVariants.{OutOfMemory}
use Rattle.gx_import.specs.Losing.{LosesCommit}
use Rattle.gx_import.specs.Publishing.{published_count}
use Rattle.gx_import.specs.Standing.{Stands}
use Rattle.gx_model.specs.Replay.{checkpointed}
use Rattle.gx_import.specs.RefChanges.{branch_changes, is_due, is_moved, moved_of, tag_changes}
use Rattle.gx_import.proofs.Losses.{forward_so_none, lost_so, memory_forward, none_lost}
use Rattle.gx_import.proofs.MovedChanges.{fewer_behind, fewer_free, moved_set}
use Rattle.gx_import.proofs.PublishedNames.{published_counted, published_stands}
use Rattle.gx_import.proofs.SetRefs.{changes_free, final_set}
use Rattle.gx_import.proofs.TipHomes.{AreHome, homes_published, tips_with}
use Rattle.gx_import.proofs.publishing.publish.Goals as goal

pub publish_all-requires : goal.publish_all-requires
publish_all-requires g c =
    let r = c.args.repo.now.1 in
    let tables = c.args.tables.now in
    let asked_for = subst (λ o. IfSome o (λ cs. map shown_update cs.items ≡ moved_of r.refs tables)) c.in-Some.is c.in_ok-changes.ensures.changes in
    ap (λ cs. changes_fault r.records (map shown_update cs)) c.as_slice.ensures.value ∙ ap (changes_fault r.records) asked_for
    ∙ fewer_behind (is_due tables.branches r.refs) r.records (filter (is_moved r.refs) (branch_changes tables.branches)) (tag_changes tables.tags)
    (fewer_free (is_moved r.refs) r.records (branch_changes tables.branches) (tag_changes tables.tags)
    (changes_free (g.N.Namer.name_of c.args.repo.now.0) (g.met.N.Namer.is_namer c.args.repo.now.0) r c.sound.ensures tables c.requires.stands.0 c.requires.stands.1))

pub returns-in_default-clause-published : goal.returns-in_default-clause-published
returns-in_default-clause-published g c = λ s h. inr (refl, sym (c.in_ok-changes.ensures.forward s h) ∙ ap is_some c.in_default.is)

pub returns-clause-published : goal.returns-clause-published
returns-clause-published g c = λ s h.
    let name = g.N.Namer.name_of c.args.repo.now.0 in
    let r = c.args.repo.now.1 in
    let tables = c.args.tables.now in
    let new = c.publish_all.new.repo.1 in
    let asked_for = subst (λ o. IfSome o (λ cs. map shown_update cs.items ≡ moved_of r.refs tables)) c.in-Some.is c.in_ok-changes.ensures.changes in
    let moved = c.in_ok-publish_all.ensures.refs ∙ ap (λ cs. with_changes r.refs (map shown_update cs)) c.as_slice.ensures.value ∙ ap (with_changes r.refs) asked_for in
    let set = moved ∙ moved_set r.refs tables c.sound.ensures.sorted c.sorted.ensures c.sorted-2.ensures in
    let final = final_set name (g.met.N.Namer.is_namer c.args.repo.now.0) r c.sound.ensures tables s h (c.histories_of_records.ensures name (g.met.N.Namer.is_namer c.args.repo.now.0)) new c.in_ok-publish_all.ensures.records set in (
      sym (c.in_ok-changes.ensures.forward s h) ∙ ap is_some c.in-Some.is,
      subst (λ branches. Stands name new (record tables { branches = branches }) (checkpointed s)) (sym c.set_published.ensures) (published_stands name r tables s h c.sorted.ensures new final),
      subst (λ branches. published_count (record tables { branches = branches }) ≡ length (checkpointed s).published) (sym c.set_published.ensures) (published_counted name r tables s h c.sorted.ensures c.sorted-2.ensures),
    )

pub returns-clause-homes : goal.returns-clause-homes
returns-clause-homes g c = λ name records h.
    tips_with name records c.args.tables.now (record c.args.tables.now { branches = c.set_published.new.branches }) h refl
    (subst (AreHome name records) (sym c.set_published.ensures) (homes_published name records c.args.tables.now.branches h.tips))

-- ---- what is told

pub returns-in_default-clause-loss : goal.returns-in_default-clause-loss
returns-in_default-clause-loss g c = λ s h.
    let name = g.N.Namer.name_of c.args.repo.now.0 in
    let who = subst (λ o. MatchOption c.changes.new.loss (is_some o ≡ true) (λ loss. (is_some o ≡ false) × LosesCommit name s loss)) c.in_default.is (c.in_ok-changes.ensures.loss s h) in
    lost_so name s c.changes.new.loss who

pub returns-clause-loss : goal.returns-clause-loss
returns-clause-loss g c = λ s h.
    let name = g.N.Namer.name_of c.args.repo.now.0 in
    let who = subst (λ o. MatchOption c.changes.new.loss (is_some o ≡ true) (λ loss. (is_some o ≡ false) × LosesCommit name s loss)) c.in-Some.is (c.in_ok-changes.ensures.loss s h) in
    forward_so_none name s c.changes.new.loss who

pub returns-in_err-changes-clause-loss : goal.returns-in_err-changes-clause-loss
returns-in_err-changes-clause-loss g c = λ s h.
    let p = err_from_is_err_and c.from_residual.result c.from_residual.ensures.1 in
    rw (p.1, p.2) (none_lost (g.N.Namer.name_of c.args.repo.now.0) s OutOfMemory c.changes.new.loss (c.in_err-changes.ensures.loss s h) memory_forward)

pub returns-in_err-publish_all-clause-loss : goal.returns-in_err-publish_all-clause-loss
returns-in_err-publish_all-clause-loss g c = λ s h.
    let name = g.N.Namer.name_of c.args.repo.now.0 in
    let p = err_from_is_err_and c.from_residual-in_err-publish_all.result c.from_residual-in_err-publish_all.ensures.1 in
    let who = subst (λ o. MatchOption c.changes.new.loss (is_some o ≡ true) (λ loss. (is_some o ≡ false) × LosesCommit name s loss)) c.in-Some.is (c.in_ok-changes.ensures.loss s h) in
    rw (p.1, p.2, c.in_err-publish_all.ensures.fault) (none_lost name s OutOfMemory c.changes.new.loss (forward_so_none name s c.changes.new.loss who) memory_forward)
