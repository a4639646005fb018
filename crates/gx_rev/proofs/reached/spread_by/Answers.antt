use Rattle.std.proofs.Common.{◌≡◌, ◌+◌, ◌-◌, subst, sym, arith}
use Rattle.std.specs.List.{AllByRecursion}
use Rattle.gx_model.specs.Histories.Values.{list_of, parents_of}
use Rattle.gx_rev.specs.Parents.{IsCommitPlace, MarksPlaces}
use Rattle.gx_rev.proofs.ParentPlaces.{commits_stand}
use Rattle.gx_rev.proofs.Tips.{AreSpread, all_spread, none_spread, passed, spread_one}
use Rattle.gx_rev.proofs.reached.spread_by.Goals as goal

pub loop-left-init : goal.loop-left-init
loop-left-init g c = record {
  within = omega arith;
  spread = none_spread c.args.repo.now.1 c.args.marks.now;
  holds = c.requires.holds;
}

pub learn-requires-clause-commit : goal.learn-requires-clause-commit
learn-requires-clause-commit g c =
    let s = (c.loop-left.invariant.spread.kept c.requires.tips.0 c.requires.tips.1).only (c.loop-left.left - 1) c.if-marks-left.true in
    (s.0, s.1)

pub mark_at-requires-clause-long : goal.mark_at-requires-clause-long
mark_at-requires-clause-long g c = (c.loop-left.invariant.spread.kept c.requires.tips.0 c.requires.tips.1).long

pub mark_at-requires-clause-commits : goal.mark_at-requires-clause-commits
mark_at-requires-clause-commits g c =
    let r = c.args.repo.now.1 in
    let s = (c.loop-left.invariant.spread.kept c.requires.tips.0 c.requires.tips.1).only (c.loop-left.left - 1) c.if-marks-left.true in
    subst (AllByRecursion (IsCommitPlace r)) (sym c.of.ensures) (commits_stand r (list_of (parents_of s.0)) _ (c.in_ok-learn.ensures.known s.0 s.1))

pub loop-left-preserved-then-marks-left : goal.loop-left-preserved-then-marks-left
loop-left-preserved-then-marks-left g c =
    let name = g.N.Namer.name_of c.args.repo.now.0 in
    let namer = g.met.N.Namer.is_namer c.args.repo.now.0 in
    let r = c.args.repo.now.1 in
    let s = (c.loop-left.invariant.spread.kept c.requires.tips.0 c.requires.tips.1).only (c.loop-left.left - 1) c.if-marks-left.true in
    let next : c.loop-left.left ≡ c.loop-left.left - 1 + 1 = omega arith in
    let marked = subst (λ ps. MarksPlaces r ps c.loop-left.marks c.mark_at.new.marks) c.of.ensures c.mark_at.ensures (parents_of s.0) (c.in_ok-learn.ensures.known s.0 s.1) in
    record {
      within = omega (arith, c.mark_at.auto.marks, c.loop-left.invariant.within);
      spread = spread_one name namer r c.sound.ensures s.0 c.args.marks.now c.loop-left.marks c.mark_at.new.marks (c.loop-left.left - 1) c.if-marks-left.true s.1 c.mark_at.auto.marks marked
          (subst (AreSpread r c.args.marks.now c.loop-left.marks) next c.loop-left.invariant.spread);
      holds = c.in_ok-learn.ensures.holds;
    }

pub loop-left-preserved : goal.loop-left-preserved
loop-left-preserved g c =
    let name = g.N.Namer.name_of c.args.repo.now.0 in
    let namer = g.met.N.Namer.is_namer c.args.repo.now.0 in
    let r = c.args.repo.now.1 in
    let next : c.loop-left.left ≡ c.loop-left.left - 1 + 1 = omega arith in
    record {
      within = omega (arith, c.loop-left.invariant.within);
      spread = passed name namer r c.sound.ensures c.args.marks.now c.loop-left.marks (c.loop-left.left - 1) c.if-marks-left.false (subst (AreSpread r c.args.marks.now c.loop-left.marks) next c.loop-left.invariant.spread);
      holds = c.loop-left.invariant.holds;
    }

pub returns-clause-spread : goal.returns-clause-spread
returns-clause-spread g c =
    let name = g.N.Namer.name_of c.args.repo.now.0 in
    let namer = g.met.N.Namer.is_namer c.args.repo.now.0 in
    let r = c.args.repo.now.1 in
    let none : c.loop-left.left ≡ 0 = omega arith in
    λ test tips. all_spread name namer r c.sound.ensures test c.args.marks.now c.loop-left.marks tips (subst (AreSpread r c.args.marks.now c.loop-left.marks) none c.loop-left.invariant.spread)
