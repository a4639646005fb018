use Rattle.std.proofs.Common.{◌≡◌, ◌≤◌, ◌∙◌, ap, sym, length, arith, false, refl}
use Rattle.std.specs.Prelude.{slice_index_or}
use Rattle.std.specs.List.{list_all}
use Rattle.std.proofs.lemmas.List.{length-map, take_all}
use Rattle.gx_model.specs.Export.{is_reached}
use Rattle.gx_model.specs.Histories.Marks.{holds}
use Rattle.gx_model.specs.Laws.RepositoryLaws.{values_of}
use Rattle.gx_export.specs.Branches.{picked, refs_of}
use Rattle.gx_export.proofs.CommitLists.{marked_commit, picked_next, picked_parts, picked_passed}
use Rattle.gx_export.proofs.FoundBranches.{fails_all, passes_all}
use Rattle.gx_export.proofs.branches.Branches.reach_all.Goals as goal
use Rattle.gx_export.proofs.branches.Branches.reach_all.Goals.{else-sent-place-via-then-sent-place+else-not-reach, else-sent-place-via-else-sent-place}

pub loop-place-init : goal.loop-place-init
loop-place-init g c = λ repository test h e. refl

pub returns-then-not-reach : goal.returns-then-not-reach
returns-then-not-reach g c = λ repository test h e.
    let vs = values_of repository in
    let place = c.loop-place.place in
    let reached = is_reached (refs_of repository c.args.self.now) in
    let m = marked_commit test vs place (sym (ap (λ ms. slice_index_or ms place false) e) ∙ c.if-sent-place.true) in
    let parts = picked_parts test vs place m.0 m.1 m.2 in
    let no = sym (h.reached place m.0 c.if-sent-place.true m.1) ∙ sym c.reach.ensures ∙ c.if-not-reach.true in
    sym (ap (list_all reached) parts.1 ∙ fails_all reached _ m.0 parts.0 no)

pub loop-place-preserved : goal.loop-place-preserved
loop-place-preserved g c = λ repository test h e.
    let vs = values_of repository in
    let place = c.loop-place.place in
    let reached = is_reached (refs_of repository c.args.self.now) in
    let before = c.loop-place.invariant repository test h e in
    elim c.else-sent-place.branch [
      | else-sent-place-via-then-sent-place+else-not-reach w ↦
          let m = marked_commit test vs place (sym (ap (λ ms. slice_index_or ms place false) e) ∙ w.if-sent-place.true) in
          let yes = sym (h.reached place m.0 w.if-sent-place.true m.1) ∙ sym w.reach.ensures ∙ w.if-not-reach.false in
          ap (list_all reached) (picked_next test vs place m.0 m.1 m.2) ∙ passes_all reached _ m.0 yes before
      | else-sent-place-via-else-sent-place w ↦
          ap (list_all reached) (picked_passed test vs place (sym (ap (λ ms. slice_index_or ms place false) e) ∙ w.if-sent-place.false)) ∙ before
    ]

pub returns : goal.returns
returns g c = λ repository test h e.
    let vs = values_of repository in
    let long : length c.args.sent.now ≡ length vs = ap length e ∙ length-map vs (holds test) in
    let all : length vs ≤ c.loop-place.place = omega (arith, long, c.loop-place-test.false) in
    sym (ap (λ us. list_all (is_reached (refs_of repository c.args.self.now)) (picked test us)) (sym (take_all c.loop-place.place vs all)) ∙ c.loop-place.invariant repository test h e)
