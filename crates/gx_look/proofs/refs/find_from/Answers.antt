use Rattle.std.proofs.Common.{sym, ap, ◌∙◌, ◌++◌}
use Rattle.std.specs.Ordering.{is_lt}
use Rattle.gx_look.proofs.LinesOfRefs.{behind_short, found_behind, found_here, never_none, none_left}
use Rattle.gx_look.proofs.RefsInOrder.{none_later}
use Rattle.gx_look.proofs.refs.find_from.Goals as goal

pub returns-in_err-digits : goal.returns-in_err-digits
returns-in_err-digits c = λ refs h.
    let left = c.loop-line.invariant refs h in
    let name = c.args.before.now ++ c.args.word.now ++ c.args.after.now in
    rw c.from_residual.ensures
    (sym (left.same ∙ none_left name c.loop-line.rest.now c.in-Some.line.now c.in-Some.behind.now left.left left.lines (sym c.in-Some.ensures) (sym c.in_err-digits.ensures)))

pub returns-then-is_joined : goal.returns-then-is_joined
returns-then-is_joined c = λ refs h.
    let left = c.loop-line.invariant refs h in
    let name = c.args.before.now ++ c.args.word.now ++ c.args.after.now in
    c.read_lower.ensures
    ∙ found_here name c.loop-line.rest.now c.in-Some.line.now c.in-Some.behind.now c.in_ok-digits.digits.now c.in_ok-digits.name.now left.left left.lines (sym c.in-Some.ensures) (sym c.in_ok-digits.ensures) (sym c.is_joined.ensures ∙ c.if-is_joined.true)
    ∙ sym left.same

pub returns-then-not-is_lt : goal.returns-then-not-is_lt
returns-then-not-is_lt c = λ refs h.
    let left = c.loop-line.invariant refs h in
    let name = c.args.before.now ++ c.args.word.now ++ c.args.after.now in
    sym (left.same ∙ none_later name c.loop-line.rest.now c.in-Some.line.now c.in-Some.behind.now c.in_ok-digits.digits.now c.in_ok-digits.name.now left.left left.lines (sym c.in-Some.ensures) (sym c.in_ok-digits.ensures)
    (sym c.is_joined.ensures ∙ c.if-is_joined.false) (ap is_lt (sym c.compare.ensures) ∙ sym c.is_lt.ensures ∙ c.if-not-is_lt.true))

pub loop-line-smaller : goal.loop-line-smaller
loop-line-smaller c = behind_short c.loop-line.rest.now c.in-Some.line.now c.in-Some.behind.now (sym c.in-Some.ensures)

pub loop-line-preserved : goal.loop-line-preserved
loop-line-preserved c = λ refs h.
    let left = c.loop-line.invariant refs h in
    let name = c.args.before.now ++ c.args.word.now ++ c.args.after.now in
    found_behind name c.loop-line.rest.now c.in-Some.line.now c.in-Some.behind.now c.in_ok-digits.digits.now c.in_ok-digits.name.now left.left refs left.lines left.same (sym c.in-Some.ensures) (sym c.in_ok-digits.ensures) (sym c.is_joined.ensures ∙ c.if-is_joined.false)

pub returns : goal.returns
returns c = λ refs h.
    let left = c.loop-line.invariant refs h in
    absurd (never_none c.loop-line.rest.now left.left left.lines (sym c.in_default.ensures))
