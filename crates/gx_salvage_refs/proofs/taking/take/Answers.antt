use Rattle.std.proofs.Common.{◌∙◌, ◌+◌, ◌≤◌, ap, arith, length, sym}
use Rattle.gx_objects.specs.Answers.{IsHeldThere}
use Rattle.gx_reached.specs.Damages.{Enters}
use Rattle.gx_reached.specs.declared.damage.Damage.{Damage}
use Rattle.gx_reached.proofs.Entering.{on_ok, only_unread}
use Rattle.gx_reached.proofs.Stepping.{told_both}
use Rattle.gx_salvage_refs.specs.Saved.{AreOf, body_bytes}
use Rattle.gx_salvage_refs.specs.Taking.{AreUnsaved, IsReady}
use Rattle.gx_salvage_refs.proofs.Refusals.{unsaved_itself}
use Rattle.gx_salvage_refs.proofs.SavedBytes.{if_ok}
use Rattle.gx_salvage_refs.proofs.Settling.{settles_now, unsettled}
use Rattle.gx_salvage_refs.proofs.taking.take.Goals as goal

pub returns-then-is_settled-clause-settles : goal.returns-then-is_settled-clause-settles
returns-then-is_settled-clause-settles g c =
    settles_now (g.O.Objects.told c.args.objects.now) c.args.repo.now.1.records c.args.bad.now c.args.name.now.bytes (sym c.is_settled.ensures ∙ c.if-is_settled.true) c.requires.ready

pub add-requires-clause-named : goal.add-requires-clause-named
add-requires-clause-named g c = ap (λ f. f c.in-Ok.object.kind c.in-Ok.object.body.now) (sym c.requires.names) ∙ c.in-Ok.ensures.named

pub add-requires-clause-unheld : goal.add-requires-clause-unheld
add-requires-clause-unheld g c = (unsettled c.args.repo.now.1.records c.args.bad.now c.args.name.now.bytes (sym c.is_settled.ensures ∙ c.if-is_settled.false)).1

pub add-requires-clause-fresh : goal.add-requires-clause-fresh
add-requires-clause-fresh g c = (unsettled c.args.repo.now.1.records c.args.bad.now c.args.name.now.bytes (sym c.is_settled.ensures ∙ c.if-is_settled.false)).0

pub add-requires-clause-ready : goal.add-requires-clause-ready
add-requires-clause-ready g c =
    let rs = c.args.repo.now.1.records in
    let bad = c.args.bad.now in
    let called = c.args.name.now.bytes in
    let object = c.in-Ok.object in
    told_both (g.O.Objects.told c.args.objects.now) (λ r. AreOf r rs × IsReady r rs bad called) (λ r. IsHeldThere called r object) (λ r. AreOf r rs × IsReady r rs bad called × IsHeldThere called r object)
    (λ r h k. (h.0, h.1, k)) c.requires.ready c.in-Ok.ensures.held

pub returns-in_ok-cause_of-in-Err-clause-bad : goal.returns-in_ok-cause_of-in-Err-clause-bad
returns-in_ok-cause_of-in-Err-clause-bad g c =
    let o = c.args.objects.now in
    let name = g.O.Objects.name_of o in
    let told = g.O.Objects.told o in
    let rs = c.args.repo.now.1.records in
    let then = c.enter_itself.new.self in
    let damage : Damage = record { object = c.args.name.now; cause = c.in_ok-cause_of-in-Err.field-0 } in
    on_ok (Enters c.args.bad.now then damage.object.bytes damage) (AreUnsaved name told rs then) c.enter_itself.result
    (λ e. unsaved_itself c.args.bad.now then damage e name told rs (unsettled rs c.args.bad.now c.args.name.now.bytes (sym c.is_settled.ensures ∙ c.if-is_settled.false)).1
    (only_unread told c.in-Err.fault damage.cause c.in_ok-cause_of-in-Err.ensures.cause c.in-Err.ensures.fault) c.requires.bad) c.enter_itself.ensures

pub returns-in-Ok-clause-within : goal.returns-in-Ok-clause-within
returns-in-Ok-clause-within g c =
    let old = body_bytes c.args.repo.now.1.records in
    let new = body_bytes c.add.new.repo.1.records in
    let size = length c.in-Ok.object.body.now in
    let read = c.in-Ok.ensures.within in
    on_ok (new ≤ old + size) (new + c.read_within.new.bytes ≤ old + c.args.bytes.now) c.add.result (λ more. omega (arith, read, more)) c.add.ensures.within

pub returns-in_ok-cause_of-in-Err-clause-within : goal.returns-in_ok-cause_of-in-Err-clause-within
returns-in_ok-cause_of-in-Err-clause-within g c = let less = c.in-Err.ensures.less in if_ok c.enter_itself.result _ (omega (arith, less))
