use Rattle.std.proofs.Common.{◌≡◌, ◌+◌, ◌≤◌, sym, ap, subst, ◌∙◌, arith, length, map, drop, Some, None, Ok, Err}
use Rattle.std.specs.Prelude.{IfOk, IfSome, slice_get, ◌++◌}
use Rattle.std.proofs.lemmas.Result.{err_from_is_err_and}
use Rattle.gx_model.specs.Histories.{AreDistinct, Record}
use Rattle.gx_model.specs.Records.Growth.{put_all}
use Rattle.gx_store.specs.Stores.{record_under}
use Rattle.gx_brought.specs.Brought.{IsLookedFor}
use Rattle.gx_brought.specs.declared.fault.BroughtFault.TheVariants as faults
use Rattle.gx_brought.proofs.NewRecords.{AreLeft, held_next, never, none_at, none_left, not_refused, nothing, put_next, same_fault, stand_in_next, told_none}
use Rattle.gx_brought.proofs.objects.new_objects.Goals as goal
use Rattle.gx_brought.proofs.objects.new_objects.Goals.{then-not-branch+in_ok-put, else-not-branch}

pub returns-in_err-is_held-clause-held : goal.returns-in_err-is_held-clause-held
returns-in_err-is_held-clause-held g c =
    let told = g.O.Objects.told c.args.objects.now in
    let rs = c.args.small.now.1.records in
    let name = g.N.Namer.name_of c.args.namer in
    let place = c.loop-place.place in
    let r = record_under c.in-Some.name c.in-Some.kind c.in-Some.body.now in
    let at : slice_get rs place ≡ Some r = sym (c.in-Some.ensures ∙ (λ i. slice_get (c.store-store.ensures.held i).1 place)) in
    let p = err_from_is_err_and c.from_residual.result c.from_residual.ensures.1 in
    subst (λ answer. IfSome told (λ whole. answer ≡ Err faults.NameHeld → put_all whole.records (drop c.args.held rs) ≡ None)) (sym (p.1 ∙ ap Err p.2))
    (none_at _ c.in_err-is_held.field-0.0 name told rs c.args.held place r c.loop-place.new.1 at c.loop-place.invariant.1 c.in_err-is_held.ensures.found)

pub returns-in_err-is_held-clause-told : goal.returns-in_err-is_held-clause-told
returns-in_err-is_held-clause-told g c =
    let told = g.O.Objects.told c.args.objects.now in
    let rs = c.args.small.now.1.records in
    let name = g.N.Namer.name_of c.args.namer in
    let place = c.loop-place.place in
    let r = record_under c.in-Some.name c.in-Some.kind c.in-Some.body.now in
    let at : slice_get rs place ≡ Some r = sym (c.in-Some.ensures ∙ (λ i. slice_get (c.store-store.ensures.held i).1 place)) in
    let p = err_from_is_err_and c.from_residual.result c.from_residual.ensures.1 in
    λ e. told_none _ c.in_err-is_held.field-0.0 told r c.in_err-is_held.ensures.found (sym (p.1 ∙ ap Err p.2) ∙ e)

pub returns-in_err-put-clause-records : goal.returns-in_err-put-clause-records
returns-in_err-put-clause-records g c =
    let told = g.O.Objects.told c.args.objects.now in
    let rs = c.args.small.now.1.records in
    let name = g.N.Namer.name_of c.args.namer in
    let place = c.loop-place.place in
    let p = err_from_is_err_and c.from_residual-in_err-put.result c.from_residual-in_err-put.ensures.1 in
    subst (λ answer. IfSome told (λ whole. IfOk answer (λ new. put_all whole.records (drop c.args.held rs) ≡ Some (whole.records ++ new.1)))) (sym p.1) (nothing told)

pub returns-in_err-put-clause-held : goal.returns-in_err-put-clause-held
returns-in_err-put-clause-held g c =
    let told = g.O.Objects.told c.args.objects.now in
    let rs = c.args.small.now.1.records in
    let name = g.N.Namer.name_of c.args.namer in
    let place = c.loop-place.place in
    let p = err_from_is_err_and c.from_residual-in_err-put.result c.from_residual-in_err-put.ensures.1 in
    never _ told rs c.args.held (λ e. c.in_err-put.ensures.held (ap Err (sym p.2 ∙ same_fault (sym p.1 ∙ e))))

pub returns-in_err-put-clause-taken : goal.returns-in_err-put-clause-taken
returns-in_err-put-clause-taken g c =
    let told = g.O.Objects.told c.args.objects.now in
    let rs = c.args.small.now.1.records in
    let name = g.N.Namer.name_of c.args.namer in
    let place = c.loop-place.place in
    let r = record_under c.in-Some.name c.in-Some.kind c.in-Some.body.now in
    let at : slice_get rs place ≡ Some r = sym (c.in-Some.ensures ∙ (λ i. slice_get (c.store-store.ensures.held i).1 place)) in
    let p = err_from_is_err_and c.from_residual-in_err-put.result c.from_residual-in_err-put.ensures.1 in
    let distinct = subst (λ xs. AreDistinct (map (λ (q : Record). q.name) xs)) (λ i. (c.store-store.ensures.held i).1) c.len-place-end.ensures.held.distinct in
    λ e. stand_in_next name told rs c.args.held place r c.loop-place.new.1 at c.loop-place.invariant.1 distinct
    (λ named. c.in_err-put.ensures.taken (ap Err (sym p.2 ∙ same_fault (sym p.1 ∙ e))) (named ∙ ap (λ namer. g.N.Namer.name_of namer c.in-Some.kind c.in-Some.body.now) (sym c.loop-place.invariant.0)))

pub loop-place-preserved : goal.loop-place-preserved
loop-place-preserved g c =
    let told = g.O.Objects.told c.args.objects.now in
    let rs = c.args.small.now.1.records in
    let name = g.N.Namer.name_of c.args.namer in
    let place = c.loop-place.place in
    let r = record_under c.in-Some.name c.in-Some.kind c.in-Some.body.now in
    let at : slice_get rs place ≡ Some r = sym (c.in-Some.ensures ∙ (λ i. slice_get (c.store-store.ensures.held i).1 place)) in
    let found = c.in_ok-is_held.ensures.found in
    elim c.if-not-branch.branch [
      | then-not-branch+in_ok-put w ↦ subst (λ s. (s.0 ≡ c.args.namer) × AreLeft name told rs c.args.held (place + 1) s.1) (sym w.new-is) (
        w.in_ok-put.ensures.namer ∙ c.loop-place.invariant.0,
        put_next name told rs c.args.held place r c.loop-place.new.1 at c.loop-place.invariant.1 w.put.new.new.1
            (subst (λ b. IfSome told (λ whole. IsLookedFor r whole (Ok b))) w.if-not-branch.true found) w.in_ok-put.ensures.put,
      )
      | else-not-branch w ↦ subst (λ s. (s.0 ≡ c.args.namer) × AreLeft name told rs c.args.held (place + 1) s.1) (sym w.new-is)
          (c.loop-place.invariant.0, held_next name told rs c.args.held place r c.loop-place.new.1 at c.loop-place.invariant.1 (subst (λ b. IfSome told (λ whole. IsLookedFor r whole (Ok b))) w.if-not-branch.false found))
    ]

pub returns-clause-records : goal.returns-clause-records
returns-clause-records g c =
    let told = g.O.Objects.told c.args.objects.now in
    let rs = c.args.small.now.1.records in
    let name = g.N.Namer.name_of c.args.namer in
    let place = c.loop-place.place in
    let count = c.len-place-end.ensures.count ∙ (λ i. length (c.store-store.ensures.held i).1) in
    let past : length rs ≤ place = omega (arith, count, c.loop-place-test.false) in
    none_left name told rs c.args.held place c.loop-place.new.1 past c.loop-place.invariant.1

pub returns-clause-held : goal.returns-clause-held
returns-clause-held g c =
    never _ (g.O.Objects.told c.args.objects.now) c.args.small.now.1.records c.args.held (λ e. not_refused e)
