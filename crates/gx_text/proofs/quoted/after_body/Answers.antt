use Rattle.std.proofs.Common.{◌≡◌, ◌∙◌, Some, ap, sym, length}
use Rattle.gx_model.specs.Texts.Paths.{char_at, unquote_within}
use Rattle.gx_text.proofs.Unquoting.{stops, closes, goes_on, ends, rest_in, skip_byte}
use Rattle.gx_text.proofs.quoted.after_body.Goals as goal

pub returns-in_err-byte : goal.returns-in_err-byte
returns-in_err-byte c = rw c.from_residual.ensures (sym (ap rest_in (stops c.loop-turn.rest.now (length c.args.body.now) c.loop-turn._turn c.loop-turn-test.true (sym c.in_err-byte.ensures))) ∙ c.loop-turn.invariant)

pub returns-in_default : goal.returns-in_default
returns-in_default c =
    let h : char_at c.loop-turn.rest.now ≡ Some (c.in_ok-byte.byte, c.in_ok-byte.after.now) = sym c.in_ok-byte.ensures in
    sym (ap rest_in (closes c.loop-turn.rest.now c.in_ok-byte.after.now (length c.args.body.now) c.loop-turn._turn c.loop-turn-test.true (rw c.in_default.is at h))) ∙ c.loop-turn.invariant

pub loop-turn-preserved : goal.loop-turn-preserved
loop-turn-preserved c =
    let h : char_at c.loop-turn.rest.now ≡ Some (c.in_ok-byte.byte, c.in_ok-byte.after.now) = sym c.in_ok-byte.ensures in
    sym (ap rest_in (goes_on c.loop-turn.rest.now c.in_ok-byte.after.now _ (length c.args.body.now) c.loop-turn._turn c.loop-turn-test.true (rw c.in-Some.is at h)) ∙ skip_byte c.in-Some._byte (unquote_within _ c.in_ok-byte.after.now)) ∙ c.loop-turn.invariant

pub returns : goal.returns
returns c = sym (ap rest_in (ends c.loop-turn.rest.now (length c.args.body.now) c.loop-turn._turn c.loop-turn-test.false)) ∙ c.loop-turn.invariant
