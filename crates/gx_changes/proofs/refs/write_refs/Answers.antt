use Rattle.std.proofs.Common.{◌≤◌, [], arith, get_or, length}
use Rattle.std.proofs.lemmas.Result.{err_from_is_err_and}
use Rattle.gx_tips.specs.declared.tips.Tip.{Tip}
use Rattle.gx_changes.proofs.SentRefs.{all_refs, next_ref, stops_at_ref}
use Rattle.gx_changes.proofs.Told.{got}
use Rattle.gx_changes.proofs.refs.write_refs.Goals as goal

abbrev none : Tip
none = record { name = record { ref_ptr = (0, 0); now = [] }; object = record { bytes = [] }; commit = record { bytes = [] }; place = 0 }

pub returns-in_err-write_ref-clause-adds : goal.returns-in_err-write_ref-clause-adds
returns-in_err-write_ref-clause-adds g c =
    let o = c.args.objects.now in
    let refs = c.args.refs.now in
    let i = c.loop-tip.tip-index in
    let p = err_from_is_err_and c.from_residual.result c.from_residual.ensures.1 in
    rw (p.1, p.2) (stops_at_ref (g.O.Objects.name_of o) refs c.args.written.now i (get_or refs i none) c.loop-tip-test.true (got refs i none c.loop-tip-test.true) c.loop-tip.written (g.O.Objects.told o) c.write_ref.new.written c.in_err-write_ref.field-0.0 c.loop-tip.invariant c.in_err-write_ref.ensures.adds)

pub loop-tip-preserved : goal.loop-tip-preserved
loop-tip-preserved g c =
    let o = c.args.objects.now in
    let refs = c.args.refs.now in
    let i = c.loop-tip.tip-index in
    next_ref (g.O.Objects.name_of o) refs c.args.written.now i (get_or refs i none) c.loop-tip-test.true (got refs i none c.loop-tip-test.true) c.loop-tip.written (g.O.Objects.told o) c.write_ref.new.written c.loop-tip.invariant c.in_ok-write_ref.ensures.adds

pub returns-clause-adds : goal.returns-clause-adds
returns-clause-adds g c =
    let o = c.args.objects.now in
    let all : length c.args.refs.now ≤ c.loop-tip.tip-index = omega (arith, c.loop-tip-test.false) in
    all_refs (g.O.Objects.name_of o) c.args.refs.now c.args.written.now (g.O.Objects.told o) c.loop-tip.tip-index c.loop-tip.written all c.loop-tip.invariant
