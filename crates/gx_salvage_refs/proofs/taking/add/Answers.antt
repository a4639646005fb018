use Rattle.std.proofs.Common.{◌∙◌, ◌+◌, ◌≤◌, ap, arith, inr, length, subst, sym}
use Rattle.std.specs.Prelude.{IfSome, OnOk}
use Rattle.gx_model.specs.Histories.{Record, record_for}
use Rattle.gx_model.specs.Objects.{IsNamer}
use Rattle.gx_model.specs.Records.Sound.{IsSound}
use Rattle.gx_objects.specs.Answers.{IsHeldThere}
use Rattle.gx_repo.specs.Records.{add_fault}
use Rattle.gx_reached.specs.Damages.{Enters, damage_in}
use Rattle.gx_reached.specs.declared.damage.Damage.{Damage}
use Rattle.gx_reached.proofs.Entering.{bad_now, on_ok}
use Rattle.gx_reached.proofs.Stepping.{told_alone}
use Rattle.gx_salvage_refs.specs.Saved.{AreOf, KeepsSaved, body_bytes}
use Rattle.gx_salvage_refs.specs.Taking.{AreUnsaved, IsReady, Settles}
use Rattle.gx_salvage_refs.proofs.Refusals.{grown, refused}
use Rattle.gx_salvage_refs.proofs.SavedBytes.{bytes_with, if_ok}
use Rattle.gx_salvage_refs.proofs.Settling.{keeps_with, refusal_is, refused_stays, took_told, unread_told, without_refs}
use Rattle.gx_salvage_refs.proofs.taking.add.Goals as goal

pub returns-in-Ok-clause-bad : goal.returns-in-Ok-clause-bad
returns-in-Ok-clause-bad g c =
    let o = c.args.objects.now in
    let name = g.O.Objects.name_of o in
    let told = g.O.Objects.told o in
    let old = c.args.repo.now.1.records in
    let bad = c.args.bad.now in
    let added = record_for (g.N.Namer.name_of c.args.repo.now.0) c.args.object.kind c.args.object.body.now in
    subst (λ rs. AreUnsaved name told rs bad) (sym c.in-Ok.ensures.adds.2) (grown name told old bad added (ap (damage_in bad) c.requires.named ∙ c.requires.fresh) c.requires.bad)

pub returns-in-Ok-clause-keeps : goal.returns-in-Ok-clause-keeps
returns-in-Ok-clause-keeps g c =
    let old = c.args.repo.now.1.records in
    let added = record_for (g.N.Namer.name_of c.args.repo.now.0) c.args.object.kind c.args.object.body.now in
    subst (KeepsSaved old) (sym c.in-Ok.ensures.adds.2) (keeps_with old added)

pub returns-in-Ok-clause-settles : goal.returns-in-Ok-clause-settles
returns-in-Ok-clause-settles g c =
    let o = c.args.objects.now in
    let told = g.O.Objects.told o in
    let name = g.N.Namer.name_of c.args.repo.now.0 in
    let bad = c.args.bad.now in
    let called = c.args.name.now.bytes in
    let s = c.sound_if_told.ensures in
    subst (λ rs. IfSome told (λ r. Settles r called rs bad)) (sym c.in-Ok.ensures.adds.2)
    (took_told name (subst IsNamer c.requires.names s.namer) (g.O.Objects.stands o) c.args.repo.now.1.records (without_refs name c.args.repo.now.1 c.sound.ensures) bad called c.args.object c.requires.named told
    (subst (λ f. IfSome told (IsSound f)) c.requires.names s.sound) c.requires.ready)

pub returns-in_err-cause-in-Err-clause-keeps : goal.returns-in_err-cause-in-Err-clause-keeps
returns-in_err-cause-in-Err-clause-keeps g c =
    let old = c.args.repo.now.1.records in
    let added = record_for (g.N.Namer.name_of c.args.repo.now.0) c.args.object.kind c.args.object.body.now in
    subst (KeepsSaved old) (sym (refused_stays old c.add_record.new.self.1.records added c.in-Err.fault c.in-Err.ensures.adds)) (λ n h. h)

pub returns-in_err-damage-in-Err-clause-keeps : goal.returns-in_err-damage-in-Err-clause-keeps
returns-in_err-damage-in-Err-clause-keeps g c =
    let old = c.args.repo.now.1.records in
    let added = record_for (g.N.Namer.name_of c.args.repo.now.0) c.args.object.kind c.args.object.body.now in
    subst (KeepsSaved old) (sym (refused_stays old c.add_record.new.self.1.records added c.in-Err.fault c.in-Err.ensures.adds)) (λ n h. h)

pub returns-in_ok-damage-in-Err-clause-keeps : goal.returns-in_ok-damage-in-Err-clause-keeps
returns-in_ok-damage-in-Err-clause-keeps g c =
    let old = c.args.repo.now.1.records in
    let added = record_for (g.N.Namer.name_of c.args.repo.now.0) c.args.object.kind c.args.object.body.now in
    subst (KeepsSaved old) (sym (refused_stays old c.add_record.new.self.1.records added c.in-Err.fault c.in-Err.ensures.adds)) (λ n h. h)

pub returns-in_ok-damage-in-Err-clause-bad : goal.returns-in_ok-damage-in-Err-clause-bad
returns-in_ok-damage-in-Err-clause-bad g c =
    let o = c.args.objects.now in
    let told = g.O.Objects.told o in
    let name = g.N.Namer.name_of c.args.repo.now.0 in
    let old = c.args.repo.now.1.records in
    let bad = c.args.bad.now in
    let then = c.enter.new.self in
    let called = c.args.name.now.bytes in
    let object = c.args.object in
    let s = c.sound_if_told.ensures in
    let added : Record = record_for name object.kind object.body.now in
    let own : Damage = record { object = c.args.name.now; cause = c.in_ok-cause-in-Err.cause } in
    let damage = c.in_ok-damage-in-Err.damage in
    let finds = c.in_ok-damage-in-Err.ensures in
    let are = subst (λ f. AreUnsaved f told old bad) c.requires.names c.requires.bad in
    let same = refused_stays old c.add_record.new.self.1.records added c.in-Err.fault c.in-Err.ensures.adds in
    let unread = unread_told name (subst IsNamer c.requires.names s.namer) (g.O.Objects.stands o) old (without_refs name c.args.repo.now.1 c.sound.ensures) bad called object c.requires.named told
    (subst (λ f. IfSome told (IsSound f)) c.requires.names s.sound) s.order c.requires.ready c.requires.fresh c.requires.unheld (add_fault c.in-Err.fault)
    (refusal_is old c.add_record.new.self.1.records added c.in-Err.fault own.cause c.in_ok-cause-in-Err.ensures.cause c.in-Err.ensures.adds) are own damage finds in
    on_ok (Enters bad then called damage) (AreUnsaved (g.O.Objects.name_of o) told c.add_record.new.self.1.records then) c.enter.result
    (λ e. subst (λ rs. AreUnsaved (g.O.Objects.name_of o) told rs then) (sym same)
    (subst (λ f. AreUnsaved f told old then) (sym c.requires.names) (refused bad then own damage e name told old object.kind object.body.now c.requires.named c.requires.unheld are finds unread))) c.enter.ensures

pub returns-in_ok-damage-in-Err-clause-settles : goal.returns-in_ok-damage-in-Err-clause-settles
returns-in_ok-damage-in-Err-clause-settles g c =
    let told = g.O.Objects.told c.args.objects.now in
    let old = c.args.repo.now.1.records in
    let new = c.add_record.new.self.1.records in
    let bad = c.args.bad.now in
    let then = c.enter.new.self in
    let called = c.args.name.now.bytes in
    let object = c.args.object in
    let damage = c.in_ok-damage-in-Err.damage in
    let same = refused_stays old new (record_for (g.N.Namer.name_of c.args.repo.now.0) object.kind object.body.now) c.in-Err.fault c.in-Err.ensures.adds in
    told_alone told (λ r. AreOf r old × IsReady r old bad called × IsHeldThere called r object) (λ r. OnOk c.enter.result (Settles r called new then))
    (λ r h. on_ok (Enters bad then called damage) (Settles r called new then) c.enter.result (λ e. record { records_are = subst (AreOf r) (sym same) h.0; settled = inr (bad_now bad then called damage e) }) c.enter.ensures) c.requires.ready

pub returns-in-Ok-clause-within : goal.returns-in-Ok-clause-within
returns-in-Ok-clause-within g c =
    let old = c.args.repo.now.1.records in
    let body = c.args.object.body.now in
    let added = record_for (g.N.Namer.name_of c.args.repo.now.0) c.args.object.kind body in
    subst (λ rs. body_bytes rs ≤ body_bytes old + length body) (sym c.in-Ok.ensures.adds.2) (bytes_with old added)

pub returns-in_ok-damage-in-Err-clause-within : goal.returns-in_ok-damage-in-Err-clause-within
returns-in_ok-damage-in-Err-clause-within g c =
    let old = c.args.repo.now.1.records in
    let body = c.args.object.body.now in
    let added = record_for (g.N.Namer.name_of c.args.repo.now.0) c.args.object.kind body in
    let more : body_bytes old ≤ body_bytes old + length body = omega arith in
    if_ok c.enter.result _ (subst (λ rs. body_bytes rs ≤ body_bytes old + length body) (sym (refused_stays old c.add_record.new.self.1.records added c.in-Err.fault c.in-Err.ensures.adds)) more)
