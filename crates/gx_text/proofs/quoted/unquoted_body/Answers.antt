use Rattle.std.proofs.Common.{◌≡◌, Some, ap, sym, length}
use Rattle.gx_model.specs.Texts.Paths.{or_bad_path, char_at}
use Rattle.gx_text.proofs.Unquoting.{char_stops, char_closes, char_goes_on, char_ends}
use Rattle.gx_text.proofs.quoted.unquoted_body.Goals as goal

pub returns-in_default : goal.returns-in_default
returns-in_default g c = ap or_bad_path (char_stops c.loop-turn.text.items c.loop-turn.rest.now (length c.args.body.now) c.loop-turn._turn _ c.loop-turn-test.true (sym c.in_default.ensures) c.loop-turn.invariant)

pub returns-in_default-byte : goal.returns-in_default-byte
returns-in_default-byte g c =
    let h : char_at c.loop-turn.rest.now ≡ Some (c.in-Some.byte, c.in-Some.after.now) = sym c.in-Some.ensures in
    ap or_bad_path (char_closes c.loop-turn.text.items c.loop-turn.rest.now c.in-Some.after.now (length c.args.body.now) c.loop-turn._turn _ c.loop-turn-test.true (rw c.in_default-byte.is at h) c.loop-turn.invariant)

pub loop-turn-preserved : goal.loop-turn-preserved
loop-turn-preserved g c =
    let h : char_at c.loop-turn.rest.now ≡ Some (c.in-Some.byte, c.in-Some.after.now) = sym c.in-Some.ensures in
    rw c.in_ok-push.ensures.items (char_goes_on c.loop-turn.text.items c.loop-turn.rest.now c.in-Some.after.now _ (length c.args.body.now) c.loop-turn._turn _ c.loop-turn-test.true (rw c.in-Some-byte.is at h) c.loop-turn.invariant)

pub returns : goal.returns
returns g c = ap or_bad_path (char_ends c.loop-turn.text.items c.loop-turn.rest.now (length c.args.body.now) c.loop-turn._turn _ c.loop-turn-test.false c.loop-turn.invariant)
