use Rattle.std.proofs.Common.{◌≡◌, None, Ok, ◌++◌, ◌∷◌, [], take, sym, subst, ap, ◌∙◌}
use Rattle.gx_model.specs.Histories.{Record, Records, record_for, with_one}
use Rattle.gx_model.specs.Records.HistoryOf.{named_values, value_in}
use Rattle.gx_model.specs.Laws.RepositoryLaws.{values_of}
use Rattle.gx_model.specs.Records.Growth.{record_named}
use Rattle.gx_model.specs.Records.Sound.{Holds, IsSound, Keeps}
use Rattle.gx_model.proofs.Records.Puts.{front_put}
use Rattle.gx_repo.specs.Offered.{bytes_offered}
use Rattle.gx_repo.specs.Additions.{Adds, HasValues, HidesNone}
use Rattle.gx_repo.specs.Rooms.{IsFront, rooms_of}
use Rattle.gx_repo.proofs.PutRecords.{adds_refused, front_after, name_refused, put_grown, put_is_sound}
use Rattle.gx_repo.proofs.HeldRecords.{keeps_front, keeps_same, put_holds, put_last}
use Rattle.gx_repo.proofs.RecordRooms.{rooms_more}
use Rattle.gx_repo.proofs.repo.Repo.add.Goals as goal

pub enter_room-requires-clause-front : goal.enter_room-requires-clause-front
enter_room-requires-clause-front g c =
    let rs = c.self.inside.store.1 in
    let r : Record = record_for (g.N.Namer.name_of c.self.inside.store.0) c.args.kind (bytes_offered c.args.body) in
    let old = ap (λ k. take k c.put_into.new.store.1) c.len-held.ensures.count ∙ front_put rs c.put_into.new.store.1 r c.in_ok-name.ensures.puts.1 in
    subst (IsFront c.self.inside.rooms.items) (sym old) c.self.invariant.1

pub enter_room-requires-clause-room : goal.enter_room-requires-clause-room
enter_room-requires-clause-room g c =
    let rs = c.self.inside.store.1 in
    let r : Record = record_for (g.N.Namer.name_of c.self.inside.store.0) c.args.kind (bytes_offered c.args.body) in
    let room = rw (sym c.self.view_is) at c.requires.room in
    let old = ap (λ k. take k c.put_into.new.store.1) c.len-held.ensures.count ∙ front_put rs c.put_into.new.store.1 r c.in_ok-name.ensures.puts.1 in
    λ more. ap rooms_of (put_last rs c.put_into.new.store.1 r c.in_ok-name.ensures.puts.1 (λ e. more (e ∙ sym c.len-held.ensures.count))).0 ∙ rooms_more rs r ∙ (λ i. rooms_of (sym old i) ++ sym room i ∷ [])

pub invariant_of-self : goal.invariant_of-self
invariant_of-self g c =
    let names = g.N.Namer.name_of c.self.inside.store.0 in
    let namer = g.met.N.Namer.is_namer c.self.inside.store.0 in
    let rs = c.self.inside.store.1 in
    let r : Records = record { records = rs; refs = c.self.inside.refs } in
    let l = rw (sym c.self.view_is) at c.requires.linked in
    let s = rw (sym c.self.view_is) at c.requires.short in (
      subst (λ n. IsSound (g.N.Namer.name_of n) (record { records = c.put_into.new.store.1; refs = c.self.inside.refs })) (sym c.put_into.ensures.namer)
          (put_is_sound names (c.links_tell_values.ensures names namer) (c.puts_add_values.ensures names namer) r c.self.invariant.0 c.args.kind (bytes_offered c.args.body) l s c.put_into.new.store.1 c.put_into.result c.put_into.ensures.puts),
      front_after rs c.put_into.new.store.1 (record_for names c.args.kind (bytes_offered c.args.body)) c.put_into.result c.put_into.ensures.puts c.self.inside.rooms.items c.self.invariant.1,
    )

pub returns-in_err-name-clause-adds : goal.returns-in_err-name-clause-adds
returns-in_err-name-clause-adds g c =
    subst (λ v. Adds v.1.records c.put_into.new.store.1 (record_for (g.N.Namer.name_of v.0) c.args.kind (bytes_offered c.args.body)) c.from_residual.result) c.self.view_is
    (adds_refused c.self.inside.store.1 c.put_into.new.store.1 (record_for (g.N.Namer.name_of c.self.inside.store.0) c.args.kind (bytes_offered c.args.body)) c.in_err-name.field-0.0 c.from_residual.result c.from_residual.ensures.1 c.in_err-name.ensures.puts)

pub invariant_of-self-in-Ok : goal.invariant_of-self-in-Ok
invariant_of-self-in-Ok g c =
    let names = g.N.Namer.name_of c.self.inside.store.0 in
    let namer = g.met.N.Namer.is_namer c.self.inside.store.0 in
    let rs = c.self.inside.store.1 in
    let r : Records = record { records = rs; refs = c.self.inside.refs } in
    let l = rw (sym c.self.view_is) at c.requires.linked in
    let s = rw (sym c.self.view_is) at c.requires.short in (
      subst (λ n. IsSound (g.N.Namer.name_of n) (record { records = c.put_into.new.store.1; refs = c.self.inside.refs })) (sym c.put_into.ensures.namer)
          (put_is_sound names (c.links_tell_values.ensures names namer) (c.puts_add_values.ensures names namer) r c.self.invariant.0 c.args.kind (bytes_offered c.args.body) l s c.put_into.new.store.1 c.put_into.result c.put_into.ensures.puts),
      c.in-Ok.ensures.ok,
    )

pub invariant_of-self-in_default : goal.invariant_of-self-in_default
invariant_of-self-in_default g c =
    let rs = c.self.inside.store.1 in
    let new : Record = record_for (g.N.Namer.name_of c.self.inside.store.0) c.args.kind (bytes_offered c.args.body) in
    let old = ap (λ v. v.1) c.truncate.ensures ∙ ap (λ k. take k c.put_into.new.store.1) c.len-held.ensures.count ∙ front_put rs c.put_into.new.store.1 new c.in_ok-name.ensures.puts.1 in
    let namer = ap (λ v. v.0) c.truncate.ensures ∙ c.put_into.ensures.namer in (
      subst (λ n. IsSound (g.N.Namer.name_of n) (record { records = c.truncate.new.self.1; refs = c.self.inside.refs })) (sym namer)
          (subst (λ z. IsSound (g.N.Namer.name_of c.self.inside.store.0) (record { records = z; refs = c.self.inside.refs })) (sym old) c.self.invariant.0),
      subst (λ xs. IsFront xs c.truncate.new.self.1) (sym c.in_default.ensures.err) (subst (IsFront c.self.inside.rooms.items) (sym old) c.self.invariant.1),
    )

pub returns-in_default-clause-adds : goal.returns-in_default-clause-adds
returns-in_default-clause-adds g c =
    let rs = c.self.inside.store.1 in
    let new : Record = record_for (g.N.Namer.name_of c.self.inside.store.0) c.args.kind (bytes_offered c.args.body) in
    ap (λ v. v.1) c.truncate.ensures ∙ ap (λ k. take k c.put_into.new.store.1) c.len-held.ensures.count ∙ front_put rs c.put_into.new.store.1 new c.in_ok-name.ensures.puts.1 ∙ ap (λ v. v.1.records) c.self.view_is

pub returns-in_default-clause-keeps : goal.returns-in_default-clause-keeps
returns-in_default-clause-keeps g c =
    let rs = c.self.inside.store.1 in
    let new : Record = record_for (g.N.Namer.name_of c.self.inside.store.0) c.args.kind (bytes_offered c.args.body) in
    let old = ap (λ v. v.1) c.truncate.ensures ∙ ap (λ k. take k c.put_into.new.store.1) c.len-held.ensures.count ∙ front_put rs c.put_into.new.store.1 new c.in_ok-name.ensures.puts.1 in
    subst (λ v. Keeps v.1.records c.truncate.new.self.1) c.self.view_is (keeps_same rs c.truncate.new.self.1 old)

pub returns-clause-held : goal.returns-clause-held
returns-clause-held g c =
    let r = record_for (g.N.Namer.name_of c.self.inside.store.0) c.args.kind (bytes_offered c.args.body) in
    subst (Holds c.put_into.new.store.1 c.args.kind) (sym c.in_ok-name.ensures.puts.0) (put_holds c.self.inside.store.1 c.put_into.new.store.1 r c.in_ok-name.ensures.puts.1)

pub returns-clause-keeps : goal.returns-clause-keeps
returns-clause-keeps g c =
    let r = record_for (g.N.Namer.name_of c.self.inside.store.0) c.args.kind (bytes_offered c.args.body) in
    subst (λ v. Keeps v.1.records c.put_into.new.store.1) c.self.view_is (keeps_front c.self.inside.store.1 c.put_into.new.store.1 (front_put c.self.inside.store.1 c.put_into.new.store.1 r c.in_ok-name.ensures.puts.1))

pub returns-clause-history : goal.returns-clause-history
returns-clause-history g c =
    let names = g.N.Namer.name_of c.self.inside.store.0 in
    let namer = g.met.N.Namer.is_namer c.self.inside.store.0 in
    let r : Records = record { records = c.self.inside.store.1; refs = c.self.inside.refs } in
    let l = rw (sym c.self.view_is) at c.requires.linked in
    let s = rw (sym c.self.view_is) at c.requires.short in
    subst (λ v. HasValues v.1 (record { records = c.put_into.new.store.1; refs = c.self.inside.refs }) (with_one (values_of v.1) (value_in (named_values v.1.records) c.args.kind (bytes_offered c.args.body)))) c.self.view_is
    (put_grown names (c.links_tell_values.ensures names namer) (c.puts_add_values.ensures names namer) r c.self.invariant.0 c.args.kind (bytes_offered c.args.body) l s c.put_into.new.store.1 c.in_ok-name.ensures.puts.1).1

pub returns-in_err-name-clause-namer : goal.returns-in_err-name-clause-namer
returns-in_err-name-clause-namer g c = c.put_into.ensures.namer ∙ ap (λ v. v.0) c.self.view_is

pub returns-in_err-name-clause-refs : goal.returns-in_err-name-clause-refs
returns-in_err-name-clause-refs g c = ap (λ v. v.1.refs) c.self.view_is

pub returns-in_default-clause-namer : goal.returns-in_default-clause-namer
returns-in_default-clause-namer g c = ap (λ v. v.0) c.truncate.ensures ∙ c.put_into.ensures.namer ∙ ap (λ v. v.0) c.self.view_is

pub returns-in_default-clause-refs : goal.returns-in_default-clause-refs
returns-in_default-clause-refs g c = ap (λ v. v.1.refs) c.self.view_is

pub returns-clause-namer : goal.returns-clause-namer
returns-clause-namer g c = c.put_into.ensures.namer ∙ ap (λ v. v.0) c.self.view_is

pub returns-clause-adds : goal.returns-clause-adds
returns-clause-adds g c =
    let body = bytes_offered c.args.body in
    subst (λ v. Adds v.1.records c.put_into.new.store.1 (record_for (g.N.Namer.name_of v.0) c.args.kind body) (Ok c.in_ok-name.name)) c.self.view_is c.in_ok-name.ensures.puts

pub returns-clause-refs : goal.returns-clause-refs
returns-clause-refs g c = ap (λ v. v.1.refs) c.self.view_is

pub returns-in_err-name-clause-unhidden : goal.returns-in_err-name-clause-unhidden
returns-in_err-name-clause-unhidden g c =
    subst (λ v. HidesNone v.1.records (g.N.Namer.name_of v.0 c.args.kind (bytes_offered c.args.body)) c.from_residual.result) c.self.view_is
    (name_refused c.self.inside.store.1 c.put_into.new.store.1 (record_for (g.N.Namer.name_of c.self.inside.store.0) c.args.kind (bytes_offered c.args.body)) c.in_err-name.field-0.0 c.from_residual.result c.from_residual.ensures.1 c.in_err-name.ensures.puts)

pub returns-in_default-clause-unhidden : goal.returns-in_default-clause-unhidden
returns-in_default-clause-unhidden g c =
    let rs = c.self.inside.store.1 in
    let r : Record = record_for (g.N.Namer.name_of c.self.inside.store.0) c.args.kind (bytes_offered c.args.body) in
    subst (λ v. record_named v.1.records (g.N.Namer.name_of v.0 c.args.kind (bytes_offered c.args.body)) ≡ None) c.self.view_is
    (put_last rs c.put_into.new.store.1 r c.in_ok-name.ensures.puts.1 (λ e. c.in_default.ensures.grown (e ∙ sym c.len-held.ensures.count))).1
