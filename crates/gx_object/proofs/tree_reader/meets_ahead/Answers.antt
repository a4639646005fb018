use Rattle.std.proofs.Common.{sym, ap, ◌∙◌}
use Rattle.gx_object.specs.Entries.{shown}
use Rattle.gx_object.specs.Order.{meets}
use Rattle.gx_object.specs.Trees.{entries_left}
use Rattle.gx_object.proofs.Bodies.{is_some-step, left-step, left-end, entry_shorter}
use Rattle.gx_object.proofs.Steps.{meets_not, meets_here, meets_later}
use Rattle.gx_object.proofs.tree_reader.meets_ahead.Goals as goal

pub returns-then-not-starts_with : goal.returns-then-not-starts_with
returns-then-not-starts_with c h =
    let before = c.loop-entry.invariant h in
    let step = left-step c.loop-entry.rest.now (shown c.in-Some.entry, c.in-Some.after.now) (sym c.in-Some.ensures) before.0 in
    sym (sym before.1 ∙ ap (meets c.args.component.now) step ∙ meets_not c.args.component.now (shown c.in-Some.entry) (entries_left c.in-Some.after.now) (sym c.if-not-starts_with.ensures.value))

pub returns-then-eq : goal.returns-then-eq
returns-then-eq c h =
    let before = c.loop-entry.invariant h in
    let step = left-step c.loop-entry.rest.now (shown c.in-Some.entry, c.in-Some.after.now) (sym c.in-Some.ensures) before.0 in
    sym (sym before.1 ∙ ap (meets c.args.component.now) step ∙ meets_here c.args.component.now (shown c.in-Some.entry) (entries_left c.in-Some.after.now) (sym c.if-not-starts_with.ensures.value) (sym c.if-eq.ensures))

pub loop-entry-smaller : goal.loop-entry-smaller
loop-entry-smaller c = entry_shorter c.loop-entry.rest.now (shown c.in-Some.entry, c.in-Some.after.now) (sym c.in-Some.ensures)

pub loop-entry-preserved : goal.loop-entry-preserved
loop-entry-preserved c h =
    let before = c.loop-entry.invariant h in
    let step = left-step c.loop-entry.rest.now (shown c.in-Some.entry, c.in-Some.after.now) (sym c.in-Some.ensures) before.0 in
    let later = meets_later c.args.component.now (shown c.in-Some.entry) (entries_left c.in-Some.after.now) (sym c.if-not-starts_with.ensures.value) (sym c.if-eq.ensures) in
    (is_some-step c.loop-entry.rest.now (shown c.in-Some.entry, c.in-Some.after.now) (sym c.in-Some.ensures) ∙ before.0, sym later ∙ ap (meets c.args.component.now) (sym step) ∙ before.1)

pub returns : goal.returns
returns c h =
    let before = c.loop-entry.invariant h in
    sym (sym before.1 ∙ ap (meets c.args.component.now) (left-end c.loop-entry.rest.now (sym c.in_default.ensures) before.0))
