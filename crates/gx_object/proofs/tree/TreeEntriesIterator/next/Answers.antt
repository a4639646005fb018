use Rattle.std.proofs.Common.{◌≡◌, [], sym, ◌∙◌}
use Rattle.gx_object.specs.Entries.{shown}
use Rattle.gx_object.proofs.Bodies.{is_some-step, left-step, left-end, goes-on}
use Rattle.gx_object.proofs.tree.TreeEntriesIterator.next.Goals as goal

pub returns-in_err-entry-clause-steps : goal.returns-in_err-entry-clause-steps
returns-in_err-entry-clause-steps c =
    let e : c.args.self.now ≡ [] = sym c.self.view_is ∙ left-end c.self.inside.rest.now (sym c.in_err-entry.ensures) c.self.invariant in
    rw c.from_residual.ensures (e, e)

pub invariant_of-self : goal.invariant_of-self
invariant_of-self c = is_some-step c.self.inside.rest.now (shown c.in_ok-entry.entry, c.in_ok-entry.rest.now) (sym c.in_ok-entry.ensures) ∙ c.self.invariant

pub returns-clause-steps : goal.returns-clause-steps
returns-clause-steps c = sym c.self.view_is ∙ left-step c.self.inside.rest.now (shown c.in_ok-entry.entry, c.in_ok-entry.rest.now) (sym c.in_ok-entry.ensures) c.self.invariant

pub returns-clause-goes : goal.returns-clause-goes
returns-clause-goes c = goes-on _ (λ _. tt) _ _ c.in_ok-entry.entry (sym c.self.view_is ∙ left-step c.self.inside.rest.now (shown c.in_ok-entry.entry, c.in_ok-entry.rest.now) (sym c.in_ok-entry.ensures) c.self.invariant)
