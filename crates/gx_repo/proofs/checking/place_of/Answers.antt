use Rattle.std.proofs.Common.{sym, ◌∙◌}
use Rattle.gx_repo.proofs.CheckedEntries.{held_at_place, nothing_held}
use Rattle.gx_repo.proofs.checking.place_of.Goals as goal

pub returns-in_default-clause-dangling : goal.returns-in_default-clause-dangling
returns-in_default-clause-dangling g c = nothing_held c.args.store.now.1 c.args.kind c.args.name.now.bytes c.in_default.ensures

pub returns-then-is_of_kind-clause-held : goal.returns-then-is_of_kind-clause-held
returns-then-is_of_kind-clause-held g c =
    held_at_place c.args.store.now.1 c.args.kind c.args.name.now.bytes c.in-Some.place c.in-Some.ensures ∙ sym c.is_of_kind.ensures ∙ c.if-is_of_kind.true

pub returns-else-is_of_kind-clause-dangling : goal.returns-else-is_of_kind-clause-dangling
returns-else-is_of_kind-clause-dangling g c =
    held_at_place c.args.store.now.1 c.args.kind c.args.name.now.bytes c.in-Some.place c.in-Some.ensures ∙ sym c.is_of_kind.ensures ∙ c.if-is_of_kind.false
