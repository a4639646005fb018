use Rattle.std.proofs.Common.{List, length, ◌≤◌, ap, map, refl, subst, sym}
use Rattle.gx_model.specs.Histories.{AreDistinct, Record}
use Rattle.gx_file.proofs.SentTexts.{is_within}
use Rattle.gx_listed.specs.Listings.{Listed}
use Rattle.gx_kept.proofs.ListedStores.{AreListed, all_listed, none_listed, one_more}
use Rattle.gx_kept.proofs.listing.list.Goals as goal

pub loop-number-init : goal.loop-number-init
loop-number-init g c = subst (λ (listed : List Listed). AreListed c.store-store.result.now.1 0 listed) (sym c.new-listing.ensures) (none_listed c.store-store.result.now.1)

pub unreachable-requires : goal.unreachable-requires
unreachable-requires g c = is_within c.store-store.result.now.1 c.loop-number.number c.in_default.ensures (rw c.len-number-end.ensures.count at c.loop-number-test.true)

pub loop-number-preserved : goal.loop-number-preserved
loop-number-preserved g c =
    let rs = c.store-store.result.now.1 in
    let same = ap (λ s. s.1) c.store-store.ensures.held in
    let distinct = subst (λ (xs : List Record). AreDistinct (map (λ r. r.name) xs)) (sym same) c.store-store.ensures.sound.distinct in
    let held : Record = record { name = c.in-Some.name.bytes; kind = c.in-Some.kind; body = c.in-Some.body.now } in
    one_more rs c.loop-number.number c.loop-number.listing c.loop-number.invariant held (sym c.in-Some.ensures) distinct (c.in-Some.name, _) refl refl c.push.new.self c.in_ok-push.field-0 c.in_ok-push.ensures.pushes

pub returns : goal.returns
returns g c =
    let rs = c.store-store.result.now.1 in
    let same = ap (λ s. s.1) c.store-store.ensures.held in
    all_listed c.args.repo.now.1 c.loop-number.number c.loop-number.listing
    (subst (λ (xs : List Record). AreListed xs c.loop-number.number c.loop-number.listing) same c.loop-number.invariant)
    (subst (λ (xs : List Record). length xs ≤ c.loop-number.number) same (rw c.len-number-end.ensures.count at c.loop-number-test.false))
