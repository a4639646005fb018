use Rattle.std.proofs.Common.{◌≡◌, ◌+◌, ◌-◌, ◌<◌, ◌≤◌, ◌∙◌, subst, arith, length, get_or}
use Rattle.gx_model.specs.Laws.RepositoryLaws.{values_of}
use Rattle.gx_model.proofs.Records.Standing.{commit_at_place, commit_name_there}
use Rattle.gx_rev.specs.Objects.{commit_at}
use Rattle.gx_export.specs.Branches.{shown_tips, targets}
use Rattle.gx_export.proofs.FoundBranches.{tips_long}
use Rattle.gx_export.proofs.RankedRefs.{AreHanded, all_handed, handed_down, handed_past, none_handed, ranked_commit}
use Rattle.gx_export.proofs.branches.hand_down.Goals as goal

pub loop-left-init : goal.loop-left-init
loop-left-init g c = record { within = omega arith; handed = none_handed c.args.repo.now.1 (length (targets c.args.repo.now.1 (shown_tips c.args.tips.now))) c.args.ranks.now }

pub name_at-requires : goal.name_at-requires
name_at-requires g c =
    let long : length c.args.ranks.now ≡ length (values_of c.args.repo.now.1) = c.requires.long in
    omega (arith, long, c.loop-left.invariant.within, c.loop-left.auto.ranks, c.loop-left-test.true)

pub lower_parents-requires : goal.lower_parents-requires
lower_parents-requires g c =
    let name = g.N.Namer.name_of c.args.repo.now.0 in
    let namer = g.met.N.Namer.is_namer c.args.repo.now.0 in
    let r = c.args.repo.now.1 in
    let refs = targets r (shown_tips c.args.tips.now) in
    let within : c.loop-left.left - 1 < length c.loop-left.ranks = omega (arith, c.loop-left.invariant.within, c.loop-left-test.true) in
    let rank : get_or c.loop-left.ranks (c.loop-left.left - 1) 0 < length refs = omega (arith, c.if-rank-tips.true, tips_long r c.args.tips.now) in
    let s = ranked_commit name namer r c.sound.ensures refs c.args.ranks.now c.loop-left.ranks c.loop-left.left (c.loop-left.left - 1) within rank c.requires c.loop-left.invariant.handed in
    record {
      held = commit_name_there name namer r c.sound.ensures c.name_at.result.bytes (c.loop-left.left - 1) s.0 c.name_at.ensures.held c.name_at.ensures.value s.1;
      long = c.loop-left.auto.ranks ∙ c.requires.long;
    }

pub loop-left-preserved-then-rank-tips : goal.loop-left-preserved-then-rank-tips
loop-left-preserved-then-rank-tips g c =
    let name = g.N.Namer.name_of c.args.repo.now.0 in
    let namer = g.met.N.Namer.is_namer c.args.repo.now.0 in
    let r = c.args.repo.now.1 in
    let refs = targets r (shown_tips c.args.tips.now) in
    let within : c.loop-left.left - 1 < length c.loop-left.ranks = omega (arith, c.loop-left.invariant.within, c.loop-left-test.true) in
    let rank : get_or c.loop-left.ranks (c.loop-left.left - 1) 0 < length refs = omega (arith, c.if-rank-tips.true, tips_long r c.args.tips.now) in
    let s = ranked_commit name namer r c.sound.ensures refs c.args.ranks.now c.loop-left.ranks c.loop-left.left (c.loop-left.left - 1) within rank c.requires c.loop-left.invariant.handed in
    let held = commit_name_there name namer r c.sound.ensures c.name_at.result.bytes (c.loop-left.left - 1) s.0 c.name_at.ensures.held c.name_at.ensures.value s.1 in
    let at = commit_at_place name namer r c.sound.ensures c.name_at.result.bytes (c.loop-left.left - 1) held c.name_at.ensures.value in
    let next : c.loop-left.left ≡ c.loop-left.left - 1 + 1 = omega (arith, c.loop-left-test.true) in
    record {
      within = omega (arith, c.lower_parents.ensures.long, within);
      handed = handed_down name namer r c.sound.ensures (commit_at r c.name_at.result) (length refs) c.args.ranks.now c.loop-left.ranks c.lower_parents.new.ranks (c.loop-left.left - 1) within at c.lower_parents.ensures
          (subst (AreHanded r (length refs) c.args.ranks.now c.loop-left.ranks) next c.loop-left.invariant.handed);
    }

pub loop-left-preserved : goal.loop-left-preserved
loop-left-preserved g c =
    let name = g.N.Namer.name_of c.args.repo.now.0 in
    let namer = g.met.N.Namer.is_namer c.args.repo.now.0 in
    let r = c.args.repo.now.1 in
    let refs = targets r (shown_tips c.args.tips.now) in
    let within : c.loop-left.left - 1 < length c.loop-left.ranks = omega (arith, c.loop-left.invariant.within, c.loop-left-test.true) in
    let rank : length refs ≤ get_or c.loop-left.ranks (c.loop-left.left - 1) 0 = omega (arith, c.if-rank-tips.false, tips_long r c.args.tips.now) in
    let next : c.loop-left.left ≡ c.loop-left.left - 1 + 1 = omega (arith, c.loop-left-test.true) in
    record {
      within = omega (arith, within);
      handed = handed_past name namer r c.sound.ensures (length refs) c.args.ranks.now c.loop-left.ranks (c.loop-left.left - 1) within rank (subst (AreHanded r (length refs) c.args.ranks.now c.loop-left.ranks) next c.loop-left.invariant.handed);
    }

pub returns : goal.returns
returns g c =
    let name = g.N.Namer.name_of c.args.repo.now.0 in
    let namer = g.met.N.Namer.is_namer c.args.repo.now.0 in
    let r = c.args.repo.now.1 in
    all_handed name namer r c.sound.ensures (targets r (shown_tips c.args.tips.now)) c.args.ranks.now c.loop-left.ranks c.loop-left.left c.args.first (omega (arith, c.loop-left-test.false)) c.requires c.loop-left.invariant.handed
