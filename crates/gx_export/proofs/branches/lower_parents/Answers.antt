use Rattle.std.proofs.Common.{◌≡◌, ◌≤◌, ◌∙◌, ap, arith, length}
use Rattle.gx_model.specs.Histories.Values.{list_of, parents_of}
use Rattle.gx_rev.specs.Objects.{commit_at}
use Rattle.gx_model.proofs.Records.HeldValues.{names_long, no_parent_there, parent_there}
use Rattle.gx_export.proofs.RankedRefs.{lowered_all, lowered_next, lowered_none, lowered_passed}
use Rattle.gx_export.proofs.branches.lower_parents.Goals as goal
use Rattle.gx_export.proofs.branches.lower_parents.Goals.{in-Some, in_default}

pub loop-number-init : goal.loop-number-init
loop-number-init g c = lowered_none c.args.repo.now.1 (list_of (parents_of (commit_at c.args.repo.now.1 c.args.commit.now))) c.args.rank c.args.ranks.now

pub lower-requires-clause-held : goal.lower-requires-clause-held
lower-requires-clause-held g c =
    (parent_there (g.N.Namer.name_of c.args.repo.now.0) (g.met.N.Namer.is_namer c.args.repo.now.0) c.args.repo.now.1 c.sound.ensures c.args.commit.now.bytes c.in-Some.parent.bytes c.loop-number.number c.requires.held (rw c.view_of-view.ensures at c.in-Some.ensures)).1

pub lower-requires-clause-long : goal.lower-requires-clause-long
lower-requires-clause-long g c = c.loop-number.invariant.long ∙ c.requires.long

pub loop-number-preserved : goal.loop-number-preserved
loop-number-preserved g c =
    let name = g.N.Namer.name_of c.args.repo.now.0 in
    let namer = g.met.N.Namer.is_namer c.args.repo.now.0 in
    let r = c.args.repo.now.1 in
    let parents = list_of (parents_of (commit_at r c.args.commit.now)) in
    elim c.match-parent.branch [
      | in-Some w ↦ rw w.ranks-is (lowered_next r parents c.loop-number.number c.args.rank (commit_at r w.in-Some.parent) c.args.ranks.now c.loop-number.ranks w.lower.new.ranks (parent_there name namer r c.sound.ensures c.args.commit.now.bytes w.in-Some.parent.bytes c.loop-number.number c.requires.held (rw c.view_of-view.ensures at w.in-Some.ensures)).0 c.loop-number.invariant w.lower.ensures)
      | in_default w ↦ rw w.ranks-is (lowered_passed r parents c.loop-number.number c.args.rank c.args.ranks.now c.loop-number.ranks (no_parent_there name namer r c.sound.ensures c.args.commit.now.bytes c.loop-number.number (rw c.view_of-view.ensures at w.in_default.ensures)) c.loop-number.invariant)
    ]

pub returns : goal.returns
returns g c =
    let name = g.N.Namer.name_of c.args.repo.now.0 in
    let r = c.args.repo.now.1 in
    let made = commit_at r c.args.commit.now in
    let count : c.parent_count-number-end.result ≡ length (list_of (parents_of made)) = c.parent_count-number-end.ensures ∙ ap (λ v. length v.parents) c.view_of-view.ensures ∙ names_long name (parents_of made) in
    let done : length (list_of (parents_of made)) ≤ c.loop-number.number = omega (arith, count) in
    lowered_all r (parents_of made) c.loop-number.number c.args.rank c.args.ranks.now c.loop-number.ranks done c.loop-number.invariant
