use Rattle.std.proofs.Common.{ℕ, List, [], ◌∷◌, ◌++◌, sym, subst, arith}
use Rattle.std.specs.Prelude.{IfSome}
use Rattle.std.proofs.lemmas.Result.{err_from_is_err_and}
use Rattle.gx_model.specs.Histories.{Record}
use Rattle.gx_listed.specs.Listings.{Listed}
use Rattle.gx_plain.specs.Held.{IsHeld}
use Rattle.gx_plain.proofs.FarRecords.{AreRead, far_all, far_begun, far_next, far_refused, none_held}
use Rattle.gx_plain.proofs.listing.list_records.Goals as goal

pub loop-init : goal.loop-init
loop-init g c =
    let name = g.N.Namer.name_of c.args.namer.now in
    let told = g.S.ReadAt.text c.args.source.now in
    let start = c.args.start.now in
    subst (λ (listed : List Listed). (rs : List Record) × IsHeld name listed c.new-rooms.result.items rs × IfSome told (λ text. AreRead name text start 0 start.place listed rs)) (sym c.new-listing.ensures)
    (subst (λ (rooms : List ℕ). (rs : List Record) × IsHeld name [] rooms rs × IfSome told (λ text. AreRead name text start 0 start.place [] rs)) (sym c.new-rooms.ensures.items)
    ([], none_held name (g.met.N.Namer.is_namer c.args.namer.now), far_begun name told start))

pub add_record-requires : goal.add_record-requires
add_record-requires g c = record { held = (g.N.Namer.name_of c.args.namer.now, c.loop.invariant.0, c.loop.invariant.1) }

pub returns-in_err-place : goal.returns-in_err-place
returns-in_err-place g c =
    let p = err_from_is_err_and c.from_residual.result c.from_residual.ensures.1 in
    let i = c.loop.invariant in
    rw (p.1, p.2) (far_refused (g.N.Namer.name_of c.args.namer.now) (g.S.ReadAt.text c.args.source.now) c.args.start.now c.loop.counter c.loop.place c.loop.listing i.0 i.2 c.in_err-place.field-0.0 c.loop-test.true (c.in_err-place.ensures i.0 i.1))

pub loop-preserved : goal.loop-preserved
loop-preserved g c =
    let i = c.loop.invariant in
    let more = c.in_ok-place.ensures i.0 i.1 in (
      i.0 ++ more.held ∷ [],
      more.more,
      far_next (g.N.Namer.name_of c.args.namer.now) (g.S.ReadAt.text c.args.source.now) c.args.start.now c.loop.counter c.loop.place c.loop.listing i.0 i.2 c.add_record.new.listing c.add_record.new.rooms.items c.in_ok-place.place c.loop-test.true more,
    )

pub returns : goal.returns
returns g c =
    let i = c.loop.invariant in
    far_all (g.N.Namer.name_of c.args.namer.now) (g.S.ReadAt.text c.args.source.now) c.args.start.now c.loop.counter c.loop.place c.loop.listing i.0 i.2 c.loop.rooms.items i.1 (omega (arith, c.loop-test.false))
