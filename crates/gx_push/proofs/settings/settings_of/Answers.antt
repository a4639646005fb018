use Rattle.std.proofs.Common.{Err, ap, map, subst, sym, ◌∙◌}
use Rattle.gx_push.specs.Calls.{IsAllowed, ReadsSets, texts}
use Rattle.gx_push.specs.Settings.{ref_of, set_of, shown_setting, shown_settings}
use Rattle.gx_push.proofs.ReadLines.{none_read, read_next, refused_next}
use Rattle.gx_push.proofs.SetRefs.{line_refused}
use Rattle.gx_push.proofs.settings.settings_of.Goals as goal

pub loop-place-init : goal.loop-place-init
loop-place-init g c =
    let r = c.args.repo.now.1 in
    (c.new-parents.ensures r, none_read {A = g.row.A.Denot} ref_of (set_of c.args.forced r) shown_setting c.args.lines.now c.new-list.result.items c.new-names.result c.new-list.ensures.items c.new-names.ensures.empty)

pub returns-in-Err : goal.returns-in-Err
returns-in-Err g c =
    let r = c.args.repo.now.1 in
    let l = c.loop-place in
    let names = map ref_of (shown_settings l.list.items) in
    let read = set_of c.args.forced r in
    let line = c.as_slice.ensures.value ∙ ap (λ v. v.items) c.index-lines-place.is in
    let told = c.in-Err.ensures.allowed names l.invariant.1.are in
    let refused = line_refused g.row.A.Denot c.args.forced r (texts c.args.lines.now) l.place c.in-Err.against (λ fault e.
    refused_next {A = g.row.A.Denot} ref_of read shown_setting c.args.lines.now l.list.items l.names l.place c.index-lines-place.result c.loop-place-test.true l.invariant.1 c.as_slice.result.now line fault
    (subst (λ why. IsAllowed (read names c.as_slice.result.now) (Err why)) e told)) in
    subst (λ fault. ReadsSets {A = g.row.A.Denot} c.args.forced r (texts c.args.lines.now) (Err fault)) (sym c.refused.ensures) refused

pub loop-place-preserved : goal.loop-place-preserved
loop-place-preserved g c =
    let r = c.args.repo.now.1 in
    let l = c.loop-place in
    let line = c.as_slice.ensures.value ∙ ap (λ v. v.items) c.index-lines-place.is in
    let told = c.in-Ok.ensures.allowed (map ref_of (shown_settings l.list.items)) l.invariant.1.are in (
      c.in-Ok.ensures.holds,
      read_next {A = g.row.A.Denot} ref_of (set_of c.args.forced r) shown_setting c.args.lines.now l.list.items l.names l.place c.index-lines-place.result c.loop-place-test.true l.invariant.1
          c.as_slice.result.now line c.in-Ok.setting c.insert.new.self c.push.new.self.items c.in_ok-push-in-Ok.ensures.items told c.in_ok-insert-in-Ok.ensures.updates.0,
    )
