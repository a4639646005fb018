use Rattle.std.proofs.Common.{◌≡◌, ◌≤◌, ◌∙◌, [], ◌∷◌, ◌++◌, refl, sym, ap, subst, arith, length, append-nil, append_assoc}
use Rattle.gx_model.specs.Histories.Values.{list_of, parents_of}
use Rattle.gx_rev.specs.Objects.{commit_at}
use Rattle.gx_rev.specs.Parents.{StandAt}
use Rattle.gx_model.proofs.Records.HeldValues.{commit_held, names_long, no_parent_there, parent_there}
use Rattle.gx_model.proofs.Records.Standing.{commit_at_place}
use Rattle.gx_rev.proofs.ParentPlaces.{no_more, take_all, stand_more}
use Rattle.gx_rev.proofs.parents.append_parents.Goals as goal
use Rattle.gx_rev.proofs.parents.append_parents.Goals.{in-Some+in_ok-push, in_default}

pub loop-number-init : goal.loop-number-init
loop-number-init g c = ([], sym (append-nil c.args.places.now.items), refl)

pub place_of-requires : goal.place_of-requires
place_of-requires g c =
    let name = g.N.Namer.name_of c.args.repo.now.0 in
    let namer = g.met.N.Namer.is_namer c.args.repo.now.0 in
    let r = c.args.repo.now.1 in
    commit_held name namer r c.sound.ensures c.in-Some.parent.bytes
    (parent_there name namer r c.sound.ensures c.args.commit.now.bytes c.in-Some.parent.bytes c.loop-number.number c.requires.held (rw c.view_of-view.ensures at c.in-Some.ensures)).1

pub returns-in_err-push-clause-front : goal.returns-in_err-push-clause-front
returns-in_err-push-clause-front g c = (c.loop-number.invariant.0, c.in_err-push.ensures.items ∙ c.loop-number.invariant.1)

pub loop-number-preserved : goal.loop-number-preserved
loop-number-preserved g c =
    let name = g.N.Namer.name_of c.args.repo.now.0 in
    let namer = g.met.N.Namer.is_namer c.args.repo.now.0 in
    let r = c.args.repo.now.1 in
    let parents = list_of (parents_of (commit_at r c.args.commit.now)) in
    let i = c.loop-number.invariant in
    let n = c.loop-number.number in
    elim c.match-parent.branch [
      | in-Some+in_ok-push w ↦
          let there = parent_there name namer r c.sound.ensures c.args.commit.now.bytes w.in-Some.parent.bytes n c.requires.held (rw c.view_of-view.ensures at w.in-Some.ensures) in
          let at = commit_at_place name namer r c.sound.ensures w.in-Some.parent.bytes w.place_of.result there.1 w.place_of.ensures in (
            i.0 ++ w.place_of.result ∷ [],
            ap (λ v. v.items) w.places-is ∙ w.in_ok-push.ensures.items ∙ ap (λ xs. xs ++ w.place_of.result ∷ []) i.1 ∙ append_assoc c.args.places.now.items i.0 (w.place_of.result ∷ []),
            stand_more r parents n (commit_at r w.in-Some.parent) i.0 w.place_of.result there.0 at i.2,
          )
      | in_default w ↦ (
        i.0,
        ap (λ v. v.items) w.places-is ∙ i.1,
        subst (λ cs. StandAt r cs i.0) (sym (no_more parents n (no_parent_there name namer r c.sound.ensures c.args.commit.now.bytes n (rw c.view_of-view.ensures at w.in_default.ensures)))) i.2,
      )
    ]

pub returns-clause-front : goal.returns-clause-front
returns-clause-front g c = (c.loop-number.invariant.0, c.loop-number.invariant.1)

pub returns-clause-parents : goal.returns-clause-parents
returns-clause-parents g c =
    let name = g.N.Namer.name_of c.args.repo.now.0 in
    let r = c.args.repo.now.1 in
    let parents = list_of (parents_of (commit_at r c.args.commit.now)) in
    let count : c.parent_count-number-end.result ≡ length parents = c.parent_count-number-end.ensures ∙ ap (λ v. length v.parents) c.view_of-view.ensures ∙ names_long name (parents_of (commit_at r c.args.commit.now)) in
    let done : length parents ≤ c.loop-number.number = omega (arith, count) in
    let i = c.loop-number.invariant in
    (i.0, i.1, subst (λ cs. StandAt r cs i.0) (take_all parents c.loop-number.number done) i.2)
