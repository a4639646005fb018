use Rattle.std.proofs.Common.{◌≤◌, ◌∙◌, [], ap, sym, arith, length, replicate, get_or}
use Rattle.std.specs.Borrow.{Bor}
use Rattle.gx_model.specs.Laws.RepositoryLaws.{values_of}
use Rattle.gx_model.specs.Records.HistoryOf.{target_in, value_of_name}
use Rattle.gx_model.specs.Records.Sound.{IsTarget}
use Rattle.gx_model.specs.Texts.{Bytes}
use Rattle.gx_model.proofs.Records.HeldValues.{commit_held, peeled_to}
use Rattle.gx_model.proofs.Records.PeeledRefs.{not_unpeeled, target_peels}
use Rattle.gx_model.proofs.Records.Standing.{commit_at_place, stands_at}
use Rattle.gx_object.specs.declared.name.Name.{Name}
use Rattle.gx_repo.specs.Refs.{shown_lent_ref}
use Rattle.gx_rev.specs.Objects.{commit_at}
use Rattle.gx_rev.proofs.RefTips.{tip_is}
use Rattle.gx_export.specs.Branches.{shown_tips, targets}
use Rattle.gx_export.proofs.FoundBranches.{got_there, held_there, shown_there, tip_there, tips_long}
use Rattle.gx_export.proofs.RankedRefs.{all_ranked, next_ranked, none_passed}
use Rattle.gx_export.proofs.branches.rank_tips.Goals as goal
use Rattle.gx_export.proofs.branches.rank_tips.Goals.{in-Some, in_default}

pub loop-rank-init : goal.loop-rank-init
loop-rank-init g c =
    let r = c.args.repo.now.1 in
    none_passed r (targets r (shown_tips c.args.tips.now)) c.args.ranks.now (c.requires.none ∙ ap (replicate (length (values_of r))) (sym (tips_long r c.args.tips.now)))

pub lower-requires-clause-held : goal.lower-requires-clause-held
lower-requires-clause-held g c =
    let name = g.N.Namer.name_of c.args.repo.now.0 in
    let namer = g.met.N.Namer.is_namer c.args.repo.now.0 in
    let r = c.args.repo.now.1 in
    let none : Bor Bytes × Name = (record { ref_ptr = (0, 0); now = [] }, record { bytes = [] }) in
    let tip : Bor Bytes × Name = get_or c.args.tips.now c.loop-rank.rank none in
    let at = got_there c.args.tips.now c.loop-rank.rank none c.loop-rank-test.true in
    let target = held_there (λ ref. IsTarget r.records ref.0 ref.1) (shown_tips c.args.tips.now) c.loop-rank.rank (shown_lent_ref tip) (shown_there c.args.tips.now c.loop-rank.rank tip at) c.requires.tips in
    (peeled_to name namer r c.sound.ensures tip.1.bytes c.in-Some.commit.bytes (target_peels name namer r c.sound.ensures tip.0.now tip.1.bytes target).held c.in-Some.ensures.commit).1

pub loop-rank-preserved : goal.loop-rank-preserved
loop-rank-preserved g c =
    let name = g.N.Namer.name_of c.args.repo.now.0 in
    let namer = g.met.N.Namer.is_namer c.args.repo.now.0 in
    let r = c.args.repo.now.1 in
    let rank = c.loop-rank.rank in
    let none : Bor Bytes × Name = (record { ref_ptr = (0, 0); now = [] }, record { bytes = [] }) in
    let tip : Bor Bytes × Name = get_or c.args.tips.now rank none in
    let at = got_there c.args.tips.now rank none c.loop-rank-test.true in
    let target = held_there (λ ref. IsTarget r.records ref.0 ref.1) (shown_tips c.args.tips.now) rank (shown_lent_ref tip) (shown_there c.args.tips.now rank tip at) c.requires.tips in
    elim c.match-peel.branch [
      | in-Some w ↦
          let n = w.in-Some.commit.bytes in
          let held = (peeled_to name namer r c.sound.ensures tip.1.bytes n (target_peels name namer r c.sound.ensures tip.0.now tip.1.bytes target).held w.in-Some.ensures.commit).1 in
          let place = stands_at name namer r c.sound.ensures n (commit_held name namer r c.sound.ensures n held) in
          rw w.ranks-is (next_ranked r (targets r (shown_tips c.args.tips.now)) (tip.0.now, target_in (value_of_name r.records tip.1.bytes)) (commit_at r w.in-Some.commit) rank place.0 c.loop-rank.ranks w.lower.new.ranks (tip_there r c.args.tips.now rank tip at)
          (tip_is name namer r c.sound.ensures tip.0.now tip.1.bytes n target w.in-Some.ensures.commit) (commit_at_place name namer r c.sound.ensures n place.0 held place.1) w.lower.ensures c.loop-rank.invariant)
      | in_default w ↦ absurd (not_unpeeled name namer r c.sound.ensures tip.0.now tip.1.bytes target w.in_default.ensures.commit)
    ]

pub returns : goal.returns
returns g c =
    let r = c.args.repo.now.1 in
    let done : length (targets r (shown_tips c.args.tips.now)) ≤ c.loop-rank.rank = omega (arith, tips_long r c.args.tips.now, c.loop-rank-test.false) in
    all_ranked r (targets r (shown_tips c.args.tips.now)) c.loop-rank.ranks c.loop-rank.rank done c.loop-rank.invariant
