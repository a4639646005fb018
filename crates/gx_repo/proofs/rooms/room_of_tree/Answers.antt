use Rattle.std.proofs.Common.{◌≡◌, length, take, sym, subst, ap, ◌∙◌, arith}
use Rattle.std.specs.List.{AllByRecursion}
use Rattle.gx_model.specs.Records.HistoryOf.{files_of_entries, named_values}
use Rattle.gx_model.specs.Records.Sound.{IsHeldAs}
use Rattle.gx_model.proofs.ObjectTexts.BodiesReadBack.{entries_read}
use Rattle.gx_object.specs.Entries.{shown}
use Rattle.gx_repo.specs.Rooms.{room}
use Rattle.gx_repo.proofs.EntryRooms.{room_of_entries}
use Rattle.gx_repo.proofs.rooms.room_of_tree.Goals as goal

pub unreachable-requires : goal.unreachable-requires
unreachable-requires g c = c.in_default.ensures.only c.requires.linked.0 c.requires.linked.1

pub loop-entry-init : goal.loop-entry-init
loop-entry-init g c =
    let rs = take (length c.args.rooms.now) c.args.store.now.1 in
    let es = c.requires.linked.0 in
    let text = c.requires.linked.1 in
    let same : c.into_iter-entry-iterator.result ≡ es = c.into_iter-entry-iterator.ensures.into_iter_gives ∙ c.in-Ok.ensures.only es text in
    let whole = ap (λ xs. room (files_of_entries (named_values rs) xs)) (same ∙ sym (entries_read es c.args.body.now text)) in
    (subst (AllByRecursion (λ e. IsHeldAs rs e.mode e.name)) (sym same) c.requires.linked.2, omega (arith, whole))

pub room_at-requires-clause-held : goal.room_at-requires-clause-held
room_at-requires-clause-held g c =
    let rs = take (length c.args.rooms.now) c.args.store.now.1 in
    (subst (AllByRecursion (λ e. IsHeldAs rs e.mode e.name)) c.in-Some.ensures.steps c.loop-entry.invariant.0).0

pub loop-entry-preserved : goal.loop-entry-preserved
loop-entry-preserved g c =
    let rs = take (length c.args.rooms.now) c.args.store.now.1 in
    let ks = named_values rs in
    let step = ap (λ xs. room (files_of_entries ks xs)) c.in-Some.ensures.steps in
    let more = room_of_entries ks (shown c.in-Some.entry) c.next.new.self in (
      (subst (AllByRecursion (λ e. IsHeldAs rs e.mode e.name)) c.in-Some.ensures.steps c.loop-entry.invariant.0).1,
      omega (arith, step, more, c.loop-entry.invariant.1, c.room_at.ensures, c.max-widest.ensures),
    )

pub returns : goal.returns
returns g c =
    let rs = take (length c.args.rooms.now) c.args.store.now.1 in
    let end = ap (λ xs. room (files_of_entries (named_values rs) xs)) c.in-None.ensures.steps.0 in
    omega (arith, end, c.loop-entry.invariant.1)
