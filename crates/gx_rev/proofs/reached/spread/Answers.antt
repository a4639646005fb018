use Rattle.std.proofs.Common.{◌≡◌, ◌+◌, ◌-◌, subst, arith}
use Rattle.gx_rev.specs.Objects.{commit_at}
use Rattle.gx_model.proofs.Records.Standing.{commit_at_place, commit_name_there}
use Rattle.gx_rev.proofs.Tips.{AreSpread, all_spread, none_spread, passed, spread_one}
use Rattle.gx_rev.proofs.reached.spread.Goals as goal

pub loop-left-init : goal.loop-left-init
loop-left-init g c = record {
  within = omega arith;
  spread = none_spread c.args.repo.now.1 c.args.marks.now;
}

pub name_at-requires : goal.name_at-requires
name_at-requires g c =
    let long = (c.loop-left.invariant.spread.kept c.requires.0 c.requires.1).long in
    let within = c.loop-left.invariant.within in
    omega (arith, long, within)

pub mark_parents-requires-clause-held : goal.mark_parents-requires-clause-held
mark_parents-requires-clause-held g c =
    let name = g.N.Namer.name_of c.args.repo.now.0 in
    let namer = g.met.N.Namer.is_namer c.args.repo.now.0 in
    let r = c.args.repo.now.1 in
    let s = (c.loop-left.invariant.spread.kept c.requires.0 c.requires.1).only (c.loop-left.left - 1) c.if-marks-left.true in
    commit_name_there name namer r c.sound.ensures c.name_at.result.bytes (c.loop-left.left - 1) s.0 c.name_at.ensures.held c.name_at.ensures.value s.1

pub mark_parents-requires-clause-long : goal.mark_parents-requires-clause-long
mark_parents-requires-clause-long g c = (c.loop-left.invariant.spread.kept c.requires.0 c.requires.1).long

pub loop-left-preserved-then-marks-left : goal.loop-left-preserved-then-marks-left
loop-left-preserved-then-marks-left g c =
    let name = g.N.Namer.name_of c.args.repo.now.0 in
    let namer = g.met.N.Namer.is_namer c.args.repo.now.0 in
    let r = c.args.repo.now.1 in
    let s = (c.loop-left.invariant.spread.kept c.requires.0 c.requires.1).only (c.loop-left.left - 1) c.if-marks-left.true in
    let held = commit_name_there name namer r c.sound.ensures c.name_at.result.bytes (c.loop-left.left - 1) s.0 c.name_at.ensures.held c.name_at.ensures.value s.1 in
    let at = commit_at_place name namer r c.sound.ensures c.name_at.result.bytes (c.loop-left.left - 1) held c.name_at.ensures.value in
    let next : c.loop-left.left ≡ c.loop-left.left - 1 + 1 = omega arith in
    record {
      within = omega (arith, c.mark_parents.auto.marks, c.loop-left.invariant.within);
      spread = spread_one name namer r c.sound.ensures (commit_at r c.name_at.result) c.args.marks.now c.loop-left.marks c.mark_parents.new.marks (c.loop-left.left - 1) c.if-marks-left.true at c.mark_parents.auto.marks c.mark_parents.ensures.marked
          (subst (AreSpread r c.args.marks.now c.loop-left.marks) next c.loop-left.invariant.spread);
    }

pub loop-left-preserved : goal.loop-left-preserved
loop-left-preserved g c =
    let name = g.N.Namer.name_of c.args.repo.now.0 in
    let namer = g.met.N.Namer.is_namer c.args.repo.now.0 in
    let r = c.args.repo.now.1 in
    let next : c.loop-left.left ≡ c.loop-left.left - 1 + 1 = omega arith in
    record {
      within = omega (arith, c.loop-left.invariant.within);
      spread = passed name namer r c.sound.ensures c.args.marks.now c.loop-left.marks (c.loop-left.left - 1) c.if-marks-left.false (subst (AreSpread r c.args.marks.now c.loop-left.marks) next c.loop-left.invariant.spread);
    }

pub returns : goal.returns
returns g c =
    let name = g.N.Namer.name_of c.args.repo.now.0 in
    let namer = g.met.N.Namer.is_namer c.args.repo.now.0 in
    let r = c.args.repo.now.1 in
    let none : c.loop-left.left ≡ 0 = omega arith in
    λ test tips. all_spread name namer r c.sound.ensures test c.args.marks.now c.loop-left.marks tips (subst (AreSpread r c.args.marks.now c.loop-left.marks) none c.loop-left.invariant.spread)
