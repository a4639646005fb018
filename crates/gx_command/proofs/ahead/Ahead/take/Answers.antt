use Rattle.std.proofs.Common.{◌≡◌, Some, None, rules, sym, ◌∙◌}
use Rattle.std.proofs.lemmas.Result.{err_from_is_err_and}
use Rattle.gx_command.specs.Ahead.{shown_held_item, to_come}
use Rattle.gx_command.specs.Explaining.{MayBeAhead}
use Rattle.gx_command.proofs.ExplainedItems.{ahead_read, ahead_unread, held_refused, item_left, item_refused, item_taken, none_left, none_read}
use Rattle.gx_command.proofs.TakenItems.{none_taken}
use Rattle.gx_command.proofs.ahead.Ahead.take.Goals.{then-is_some+in-Some+in-Line-1, then-is_some+in-Some+in-Data-1, then-is_some+in-None-1, else-is_some}
use Rattle.gx_command.proofs.ahead.Ahead.take.Goals as goal

pub returns-in_default-2-clause-takes : goal.returns-in_default-2-clause-takes
unfolding to_come
returns-in_default-2-clause-takes g c =
    let read = rw (c.in_ok-item.was, c.in_default-2.is) at c.next.follows.holds-at-none in
    let before : c.args.self.now.held ≡ None = search rules in
    none_taken _ _ _ _ _ before before read.0

-- ---- what explains it

pub returns-in_err-taken-clause-explains : goal.returns-in_err-taken-clause-explains
unfolding MayBeAhead
returns-in_err-taken-clause-explains g c =
    let before : c.args.self.now.held ≡ Some c.in-Some.held = search rules in
    let p = err_from_is_err_and c.from_residual.result c.from_residual.ensures.1 in
    rw (p.1, p.2, before) (held_refused _ c.lent.result (shown_held_item c.in-Some.held) c.lent.ensures c.args.self.now.items (λ s. Unit {0}) c.in_err-taken.field-0.0 c.in_err-taken.ensures)

pub returns-in-Some-clause-explains : goal.returns-in-Some-clause-explains
returns-in-Some-clause-explains g c =
    let before : c.args.self.now.held ≡ Some c.in-Some.held = search rules in
    let taken = ahead_read _ c.args.self.now c.if-is_some.self c.in-Some.held c.lent.result before c.lent.ensures c.in_ok-taken.taken in
    let stays = ahead_unread _ c.args.self.now c.if-is_some.self c.in-Some.held c.lent.result before c.lent.ensures c.in_ok-taken.taken in
    elim c.if-is_some.branch [
      | then-is_some+in-Some+in-Line-1 w ↦ taken w.self-is (sym c.is_some.ensures ∙ w.if-is_some.true) c.in_ok-taken.ensures
      | then-is_some+in-Some+in-Data-1 w ↦ taken w.self-is (sym c.is_some.ensures ∙ w.if-is_some.true) c.in_ok-taken.ensures
      | then-is_some+in-None-1 w ↦ taken w.self-is (sym c.is_some.ensures ∙ w.if-is_some.true) c.in_ok-taken.ensures
      | else-is_some w ↦ stays w.self-is (sym c.is_some.ensures ∙ w.if-is_some.false) c.in_ok-taken.ensures
    ]

pub returns-in_err-item-clause-explains : goal.returns-in_err-item-clause-explains
unfolding MayBeAhead
returns-in_err-item-clause-explains g c =
    let before : c.args.self.now.held ≡ None = search rules in
    let read = rw c.in_err-item.was at c.next.follows.holds-at-none in
    let p = err_from_is_err_and c.from_residual-in_err-item.result c.from_residual-in_err-item.ensures.1 in
    rw (p.1, p.2, before) (none_read _ c.args.self.now.items c.next.follows.lender-at-none c.in_err-item.field-0.0 read (λ s. Unit {0}))

pub returns-in_default-2-clause-explains : goal.returns-in_default-2-clause-explains
unfolding MayBeAhead
returns-in_default-2-clause-explains g c =
    let before : c.args.self.now.held ≡ None = search rules in
    let read = rw (c.in_ok-item.was, c.in_default-2.is) at c.next.follows.holds-at-none in
    rw before (none_left _ c.args.self.now.items c.next.follows.lender-at-none read)

pub returns-in_err-taken-2-clause-explains : goal.returns-in_err-taken-2-clause-explains
unfolding MayBeAhead
returns-in_err-taken-2-clause-explains g c =
    let before : c.args.self.now.held ≡ None = search rules in
    let read = rw (c.in_ok-item.was, c.in-Some-2.is) at c.next.follows.holds-at-none in
    let p = err_from_is_err_and c.from_residual-in_err-taken-2.result c.from_residual-in_err-taken-2.ensures.1 in
    rw (p.1, p.2, before) (item_refused _ c.args.self.now.items c.next.follows.lender-at-none c.in-Some-2.item read (λ s. Unit {0}) c.in_err-taken-2.field-0.0 c.in_err-taken-2.ensures)

pub returns-in-Some-3-clause-explains : goal.returns-in-Some-3-clause-explains
unfolding MayBeAhead
returns-in-Some-3-clause-explains g c =
    let before : c.args.self.now.held ≡ None = search rules in
    let read = rw (c.in_ok-item.was, c.in-Some-2.is) at c.next.follows.holds-at-none in
    rw before (item_taken _ c.args.self.now.items c.next.follows.lender-at-none c.in-Some-2.item read c.in-Some-3.taken (rw c.in-Some-3.is at c.in_ok-taken-2.ensures))

pub returns-clause-explains : goal.returns-clause-explains
unfolding MayBeAhead
returns-clause-explains g c =
    let before : c.args.self.now.held ≡ None = search rules in
    let read = rw (c.in_ok-item.was, c.in-Some-2.is) at c.next.follows.holds-at-none in
    rw before (item_left _ c.args.self.now.items c.next.follows.lender-at-none c.in-Some-2.item read (shown_held_item c.in_ok-copy.field-0) c.in_ok-copy.ensures (rw c.in_default-3.is at c.in_ok-taken-2.ensures))
