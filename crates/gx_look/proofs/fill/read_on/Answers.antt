use Rattle.std.proofs.Common.{rules, refl, sym, ap, ◌∙◌, ◌+◌, ◌-◌, ◌≡◌, ◌++◌, length, take, replicate}
use Rattle.gx_look.proofs.ReadOn.{grown_there, grown_within}
use Rattle.gx_look.proofs.fill.read_on.Goals as goal

pub loop-room-preserved : goal.loop-room-preserved
loop-room-preserved g c =
    let told = g.S.ReadAt.text c.args.source.now in
    let old = c.loop-room.room.items in
    let done = c.len-done.result in
    let more = c.min-more.result in
    let is : done ≡ length old = search rules in
    let size : c.resize.new.self.len ≡ done + more = search rules in
    let read : length c.fill.new.room ≡ more = search rules in
    let made : c.resize.new.self.items ≡ take (done + more) old ++ replicate ((done + more) - done) 0 = c.in_ok-resize.ensures.items ∙ ap (λ n. take (done + more) old ++ replicate ((done + more) - n) 0) (sym c.len-done.ensures) in
    record {
      within = grown_within told c.args.at c.args.count old c.resize.new.self.items c.as_mut_slice.result.now c.fill.new.room _ _ done more (done + more) c.resize.new.self.len made c.as_mut_slice.ensures.value is refl read size (search rules);
      there = grown_there told c.args.at c.args.count old c.resize.new.self.items c.as_mut_slice.result.now c.fill.new.room _ _ done more (done + more) c.resize.new.self.len made c.as_mut_slice.ensures.value is refl read size c.loop-room.invariant.there c.in_ok-fill.ensures.there;
    }
