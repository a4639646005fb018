use Rattle.std.proofs.Common.{◌≡◌, ◌-◌, ◌<◌, ◌∙◌, get_or, length, map, ap, sym, subst, arith, rules}
use Rattle.std.specs.Prelude.{reverse}
use Rattle.std.specs.Bool.{passes}
use Rattle.gx_repo.specs.Refs.{shown_update}
use Rattle.gx_text.specs.Lent.{lent_texts}
use Rattle.gx_taken.specs.Parts.{shown_ref_items}
use Rattle.gx_taken.specs.Setting.{IsTurned}
use Rattle.gx_taken.proofs.FreeRefs.{all_free}
use Rattle.gx_taken.proofs.TurnedRefs.{AreLooked, all_looked, before, lent_more, looked_absent, looked_held, looked_seen, looked_set, near, reversed_more}
use Rattle.gx_taken.proofs.setting.turns_of.Goals as goal

pub loop-place-preserved-then-contains : goal.loop-place-preserved-then-contains
loop-place-preserved-then-contains g c =
    let r = c.args.repo.now.1 in
    let l = c.loop-place in
    let d = c.index-refs-place.result in
    let fits = l.invariant.0 in
    let some = c.loop-place-test.true in
    let lt : l.place - 1 < length c.args.refs.now = omega (arith, fits, some) in
    let object = (get_or c.args.refs.now (l.place - 1) d).offered.object in (
      omega (arith, fits),
      looked_seen {A = g.row.A.Denot} r.refs c.args.refs.now (l.place - 1) l.seen (lent_texts l.dropped.items) (map shown_update (reverse l.changes.items)) d (c.as_slice-name.result.now, object.bytes) lt
          (λ i. (c.as_slice-name.ensures i, object.bytes)) (before {A = g.row.A.Denot} r.refs c.args.refs.now l.place l.seen (lent_texts l.dropped.items) (map shown_update (reverse l.changes.items)) some l.invariant.1)
          (sym c.contains.ensures ∙ c.if-contains.true),
    )

pub loop-place-preserved-then-not-is_none : goal.loop-place-preserved-then-not-is_none
loop-place-preserved-then-not-is_none g c =
    let r = c.args.repo.now.1 in
    let l = c.loop-place in
    let d = c.index-refs-place.result in
    let fits = l.invariant.0 in
    let some = c.loop-place-test.true in
    let lt : l.place - 1 < length c.args.refs.now = omega (arith, fits, some) in
    let object = (get_or c.args.refs.now (l.place - 1) d).offered.object in (
      omega (arith, fits),
      looked_set {A = g.row.A.Denot} r.refs c.args.refs.now (l.place - 1) l.seen (lent_texts l.dropped.items) (map shown_update (reverse l.changes.items)) d (c.as_slice-name.result.now, object.bytes) lt
          (λ i. (c.as_slice-name.ensures i, object.bytes)) (before {A = g.row.A.Denot} r.refs c.args.refs.now l.place l.seen (lent_texts l.dropped.items) (map shown_update (reverse l.changes.items)) some l.invariant.1)
          (sym c.contains.ensures ∙ c.if-contains.false) (search rules) (map shown_update (reverse c.push.new.self.items))
          (reversed_more shown_update l.changes.items c.push.new.self.items (record { name = c.as_slice-name.result; target = object }) c.in_ok-push.ensures.items),
    )

pub loop-place-preserved-in-Continue-branch-3 : goal.loop-place-preserved-in-Continue-branch-3
loop-place-preserved-in-Continue-branch-3 g c =
    let r = c.args.repo.now.1 in
    let l = c.loop-place in
    let d = c.index-refs-place.result in
    let fits = l.invariant.0 in
    let some = c.loop-place-test.true in
    let lt : l.place - 1 < length c.args.refs.now = omega (arith, fits, some) in
    let object = (get_or c.args.refs.now (l.place - 1) d).offered.object in (
      omega (arith, fits),
      looked_held {A = g.row.A.Denot} r.refs c.args.refs.now (l.place - 1) l.seen (lent_texts l.dropped.items) (map shown_update (reverse l.changes.items)) d (c.as_slice-name.result.now, object.bytes) lt
          (λ i. (c.as_slice-name.ensures i, object.bytes)) (before {A = g.row.A.Denot} r.refs c.args.refs.now l.place l.seen (lent_texts l.dropped.items) (map shown_update (reverse l.changes.items)) some l.invariant.1)
          (sym c.contains.ensures ∙ c.if-contains.false) (search rules)
          (near r.refs c.as_slice-name.result.now c.ref_near.result.1 _ c.ref_near.ensures.object (sym c.is_some.ensures ∙ c.if-is_some.true))
          c.insert.new.self c.in_ok-insert.ensures.updates.0 (lent_texts c.push-then-is_some.new.self.items)
          (lent_more l.dropped.items c.push-then-is_some.new.self.items c.as_slice-name.result c.in_ok-push-2.ensures.items),
    )

pub loop-place-preserved : goal.loop-place-preserved
loop-place-preserved g c =
    let r = c.args.repo.now.1 in
    let l = c.loop-place in
    let d = c.index-refs-place.result in
    let fits = l.invariant.0 in
    let some = c.loop-place-test.true in
    let lt : l.place - 1 < length c.args.refs.now = omega (arith, fits, some) in
    let object = (get_or c.args.refs.now (l.place - 1) d).offered.object in (
      omega (arith, fits),
      looked_absent {A = g.row.A.Denot} r.refs c.args.refs.now (l.place - 1) l.seen (lent_texts l.dropped.items) (map shown_update (reverse l.changes.items)) d (c.as_slice-name.result.now, object.bytes) lt
          (λ i. (c.as_slice-name.ensures i, object.bytes)) (before {A = g.row.A.Denot} r.refs c.args.refs.now l.place l.seen (lent_texts l.dropped.items) (map shown_update (reverse l.changes.items)) some l.invariant.1)
          (sym c.contains.ensures ∙ c.if-contains.false) (search rules)
          (near r.refs c.as_slice-name.result.now c.ref_near.result.1 _ c.ref_near.ensures.object (sym c.is_some.ensures ∙ c.if-is_some.false))
          c.insert.new.self c.in_ok-insert.ensures.updates.0,
    )

pub returns : goal.returns
returns g c =
    let r = c.args.repo.now.1 in
    let l = c.loop-place in
    let none = c.loop-place-test.false in
    let first : l.place ≡ 0 = omega (arith, none) in
    let end = subst (λ n. AreLooked {A = g.row.A.Denot} r.refs c.args.refs.now n l.seen (lent_texts l.dropped.items) (map shown_update (reverse l.changes.items))) first l.invariant.1 in
    subst (λ cs. IsTurned r (shown_ref_items c.args.refs.now) (lent_texts l.dropped.items) cs) (sym (ap (map shown_update) c.reverse.ensures.items))
    (all_looked {A = g.row.A.Denot} r c.args.refs.now l.seen (lent_texts l.dropped.items) (map shown_update (reverse l.changes.items)) (passes _ c.sound.ensures.sorted)
    (all_free c.requires.free.0 r (shown_ref_items c.args.refs.now) c.requires.names c.requires.free.1) end)
