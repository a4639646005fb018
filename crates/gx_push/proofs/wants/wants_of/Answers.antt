use Rattle.std.proofs.Common.{Err, ap, subst, sym, ◌∙◌}
use Rattle.gx_push.specs.Calls.{ReadsWants, texts}
use Rattle.gx_push.specs.Wants.{ref_of, refs_of, shown_want, shown_wants, want_of}
use Rattle.gx_push.proofs.ReadLines.{read_next, refused_next}
use Rattle.gx_push.proofs.wants.wants_of.Goals as goal

pub returns-in-Err : goal.returns-in-Err
returns-in-Err g c =
    let r = c.loop-place in
    let line = c.as_slice.ensures.value ∙ ap (λ v. v.items) c.index-lines-place.is in
    let held = c.in-Err.ensures (refs_of (shown_wants r.list.items)) r.invariant.are in
    subst (λ fault. ReadsWants {A = g.row.A.Denot} c.args.repo.now.1.refs (texts c.args.lines.now) (Err fault)) (sym c.refused.ensures)
    (refused_next {A = g.row.A.Denot} ref_of (want_of c.args.repo.now.1.refs) shown_want c.args.lines.now r.list.items r.names r.place c.index-lines-place.result c.loop-place-test.true r.invariant c.as_slice.result.now line c.in-Err.kind held)

pub loop-place-preserved : goal.loop-place-preserved
loop-place-preserved g c =
    let r = c.loop-place in
    let line = c.as_slice.ensures.value ∙ ap (λ v. v.items) c.index-lines-place.is in
    let held = c.in-Ok.ensures (refs_of (shown_wants r.list.items)) r.invariant.are in
    read_next {A = g.row.A.Denot} ref_of (want_of c.args.repo.now.1.refs) shown_want c.args.lines.now r.list.items r.names r.place c.index-lines-place.result c.loop-place-test.true r.invariant c.as_slice.result.now line c.in-Ok.want c.insert.new.self c.push.new.self.items c.in_ok-push-in-Ok.ensures.items held c.in_ok-insert-in-Ok.ensures.updates.0
