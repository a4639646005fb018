use Rattle.std.proofs.Common.{◌≡◌, ◌≤◌, ◌∙◌, ap, sym, arith, length, rules}
use Rattle.gx_model.specs.Histories.Values.{list_of, parents_of}
use Rattle.gx_rev.specs.Objects.{commit_at}
use Rattle.gx_model.proofs.Records.HeldValues.{commit_held, names_long, no_parent_there, parent_there}
use Rattle.gx_model.proofs.Revisions.Marking.{all_parents, next_marked, no_next}
use Rattle.gx_model.proofs.Records.Standing.{commit_at_place, stands_at}
use Rattle.gx_rev.proofs.Tips.{parents_more}
use Rattle.gx_rev.proofs.reached.mark_parents.Goals as goal
use Rattle.gx_rev.proofs.reached.mark_parents.Goals.{in-Some, in_default}

pub mark-requires-clause-held : goal.mark-requires-clause-held
mark-requires-clause-held g c =
    (parent_there (g.N.Namer.name_of c.args.repo.now.0) (g.met.N.Namer.is_namer c.args.repo.now.0) c.args.repo.now.1 c.sound.ensures c.args.commit.now.bytes c.in-Some.parent.bytes c.loop-number.number c.requires.held (rw c.view_of-view.ensures at c.in-Some.ensures)).1

pub loop-number-preserved : goal.loop-number-preserved
loop-number-preserved g c =
    let name = g.N.Namer.name_of c.args.repo.now.0 in
    let namer = g.met.N.Namer.is_namer c.args.repo.now.0 in
    let r = c.args.repo.now.1 in
    let parents = list_of (parents_of (commit_at r c.args.commit.now)) in
    elim c.match-parent.branch [
      | in-Some w ↦ record {
        long = search rules;
        marked = rw w.marks-is (next_marked r parents c.loop-number.number (commit_at r w.in-Some.parent) c.args.marks.now c.loop-number.marks w.mark.new.marks (parent_there name namer r c.sound.ensures c.args.commit.now.bytes w.in-Some.parent.bytes c.loop-number.number c.requires.held (rw c.view_of-view.ensures at w.in-Some.ensures)).0 c.loop-number.invariant.marked w.mark.ensures.marked);
      }
      | in_default w ↦ record {
        long = search rules;
        marked = rw w.marks-is (no_next r parents c.loop-number.number c.args.marks.now c.loop-number.marks (no_parent_there name namer r c.sound.ensures c.args.commit.now.bytes c.loop-number.number (rw c.view_of-view.ensures at w.in_default.ensures)) c.loop-number.invariant.marked);
      }
    ]

pub returns-clause-marked : goal.returns-clause-marked
returns-clause-marked g c =
    let name = g.N.Namer.name_of c.args.repo.now.0 in
    let r = c.args.repo.now.1 in
    let made = commit_at r c.args.commit.now in
    let count : c.parent_count-number-end.result ≡ length (list_of (parents_of made)) = c.parent_count-number-end.ensures ∙ ap (λ v. length v.parents) c.view_of-view.ensures ∙ names_long name (parents_of made) in
    let done : length (list_of (parents_of made)) ≤ c.loop-number.number = omega (arith, count) in
    all_parents r (parents_of made) c.loop-number.number c.args.marks.now c.loop-number.marks done c.loop-number.invariant.marked

pub returns-clause-tips : goal.returns-clause-tips
returns-clause-tips g c =
    let name = g.N.Namer.name_of c.args.repo.now.0 in
    let namer = g.met.N.Namer.is_namer c.args.repo.now.0 in
    let r = c.args.repo.now.1 in
    let at = stands_at name namer r c.sound.ensures c.args.commit.now.bytes (commit_held name namer r c.sound.ensures c.args.commit.now.bytes c.requires.held) in
    parents_more name namer r c.sound.ensures (commit_at r c.args.commit.now) at.0 c.args.marks.now c.loop-number.marks (commit_at_place name namer r c.sound.ensures c.args.commit.now.bytes at.0 c.requires.held at.1)
    (c.loop-number.invariant.long ∙ sym c.requires.long) (returns-clause-marked g c)
