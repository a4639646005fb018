use Rattle.std.proofs.Common.{◌++◌, ap, ◌∙◌}
use Rattle.gx_import.specs.RefChanges.{due_tags}
use Rattle.gx_import.proofs.publishing.changes.Goals as goal

pub returns-clause-changes : goal.returns-clause-changes
returns-clause-changes g c =
    let moved = rw c.new-changes.ensures.items at c.in_ok-append_branches.ensures.appended c.if-not-branch.false in
    c.in_ok-append_tags.ensures ∙ ap (λ xs. xs ++ due_tags c.args.repo.now.1.refs c.args.tables.now) moved

-- the branch that would lose a commit was told
pub returns-then-not-branch-clause-loss : goal.returns-then-not-branch-clause-loss
returns-then-not-branch-clause-loss g c = λ s h. rw c.if-not-branch.true at c.in_ok-append_branches.ensures.loss s h

pub returns-clause-loss : goal.returns-clause-loss
returns-clause-loss g c = λ s h. rw c.if-not-branch.false at c.in_ok-append_branches.ensures.loss s h
