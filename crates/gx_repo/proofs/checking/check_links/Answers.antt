use Rattle.std.proofs.Common.{refl, sym, ◌∙◌}
use Rattle.gx_model.specs.declared.objects.Kind.TheVariants as kinds
use Rattle.gx_object.specs.Entries.{shown}
use Rattle.gx_repo.proofs.ContentFaults.{held_at_end, next_dangling, next_held, not_canonical, not_held, told_bad, told_good}
use Rattle.gx_repo.proofs.checking.check_links.Goals as goal

pub returns-in_default-clause-fault : goal.returns-in_default-clause-fault
returns-in_default-clause-fault g c =
    not_canonical c.args.store.now.1 kinds.Tree c.args.body.now (told_bad c.bodies_are_read.ensures kinds.Tree c.args.body.now (λ p. c.in_default.ensures.only p.0 p.1))

pub loop-entry-preserved : goal.loop-entry-preserved
loop-entry-preserved g c =
    next_held c.args.store.now.1 c.args.body.now (shown c.in-Some.entry) c.loop-entry.entry-iterator c.next.new.self c.in-Some.ensures.steps c.loop-entry.invariant (sym c.is_entry_held.ensures ∙ c.if-not-is_entry_held.false)

pub returns-then-not-is_entry_held-clause-fault : goal.returns-then-not-is_entry_held-clause-fault
returns-then-not-is_entry_held-clause-fault g c =
    let rs = c.args.store.now.1 in
    let body = c.args.body.now in
    let good = told_good c.bodies_are_read.ensures kinds.Tree body (c.in-Ok.entries, c.in-Ok.ensures.found) in
    let missing = sym c.is_entry_held.ensures ∙ c.if-not-is_entry_held.true in
    not_held rs kinds.Tree body good (next_dangling rs body (shown c.in-Some.entry) c.loop-entry.entry-iterator c.next.new.self c.in-Some.ensures.steps c.loop-entry.invariant missing)

pub returns-clause-ok : goal.returns-clause-ok
returns-clause-ok g c =
    let body = c.args.body.now in
    let good = told_good c.bodies_are_read.ensures kinds.Tree body (c.in-Ok.entries, c.in-Ok.ensures.found) in
    (refl, good, held_at_end c.args.store.now.1 body c.loop-entry.entry-iterator c.in-None.ensures.steps.0 c.loop-entry.invariant)
