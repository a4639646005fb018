use Rattle.std.proofs.Common.{◌≡◌, ◌+◌, ◌-◌, ◌≤◌, ◌++◌, length, take, replicate, refl, sym, ap, ◌∙◌, subst, rules, arith}
use Rattle.gx_model.specs.Texts.{Bytes}
use Rattle.gx_at.specs.Reads.{StandsAt}
use Rattle.gx_plain.specs.Reading.{IsFrontAt}
use Rattle.gx_plain.proofs.Fronts.{came_short, came_there, came_within, front_whole}
use Rattle.gx_plain.proofs.fill.read_front.Goals as goal

pub returns-then-came-eq0-clause-front : goal.returns-then-came-eq0-clause-front
returns-then-came-eq0-clause-front g c =
    let told = g.S.ReadAt.text c.args.source.now in
    let old = c.loop-room.room.items in
    let done = c.len-done.result in
    let more = c.min-more.result in
    let is : done ≡ length old = search rules in
    let size : c.resize.new.self.len ≡ done + more = search rules in
    let read : length c.read_at.new.room ≡ more = search rules in
    let made : c.resize.new.self.items ≡ take (done + more) old ++ replicate ((done + more) - done) 0 = c.in_ok-resize.ensures.items ∙ ap (λ n. take (done + more) old ++ replicate ((done + more) - n) 0) (sym c.len-done.ensures) in
    subst (IsFrontAt told c.args.at c.args.count) (sym c.truncate.ensures.items)
    (came_short told c.args.at old c.resize.new.self.items c.as_mut_slice.result.now c.read_at.new.room _ _ done more (done + more) c.resize.new.self.len c.in_ok-came.came made c.as_mut_slice.ensures.value is refl read size c.args.count (search rules) c.loop-room.invariant.there c.in_ok-came.ensures.bytes c.if-came-eq0.true)

pub loop-room-preserved : goal.loop-room-preserved
loop-room-preserved g c =
    let told = g.S.ReadAt.text c.args.source.now in
    let old = c.loop-room.room.items in
    let done = c.len-done.result in
    let more = c.min-more.result in
    let is : done ≡ length old = search rules in
    let size : c.resize.new.self.len ≡ done + more = search rules in
    let read : length c.read_at.new.room ≡ more = search rules in
    let made : c.resize.new.self.items ≡ take (done + more) old ++ replicate ((done + more) - done) 0 = c.in_ok-resize.ensures.items ∙ ap (λ n. take (done + more) old ++ replicate ((done + more) - n) 0) (sym c.len-done.ensures) in
    record {
      within = subst (λ (z : Bytes). length z ≤ c.args.count) (sym c.truncate.ensures.items)
          (came_within told c.args.at old c.resize.new.self.items c.as_mut_slice.result.now c.read_at.new.room _ _ done more (done + more) c.resize.new.self.len c.in_ok-came.came made c.as_mut_slice.ensures.value is refl read size c.args.count (search rules) (search rules));
      there = subst (StandsAt told c.args.at) (sym c.truncate.ensures.items)
          (came_there told c.args.at old c.resize.new.self.items c.as_mut_slice.result.now c.read_at.new.room _ _ done more (done + more) c.resize.new.self.len c.in_ok-came.came made c.as_mut_slice.ensures.value is refl read size (search rules) c.loop-room.invariant.there c.in_ok-came.ensures.bytes);
    }

pub returns-clause-front : goal.returns-clause-front
returns-clause-front g c =
    front_whole (g.S.ReadAt.text c.args.source.now) c.args.at c.args.count c.loop-room.room.items c.loop-room.invariant.there (omega (arith, c.loop-room.invariant.within, c.loop-room-test.false, c.len.ensures))
