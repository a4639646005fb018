use Rattle.std.proofs.Common.{◌≡◌, ◌≤◌, ◌∙◌, ap, sym, subst, arith, length, take, false}
use Rattle.std.specs.Prelude.{slice_index_or}
use Rattle.std.proofs.lemmas.Result.{err_from_is_err_and}
use Rattle.std.proofs.lemmas.List.{length-map, take_all}
use Rattle.gx_model.specs.Histories.Marks.{holds}
use Rattle.gx_model.specs.Laws.ExportLaws.{HaveEncodingsAlone}
use Rattle.gx_model.specs.Laws.RepositoryLaws.{values_of}
use Rattle.gx_export.specs.Branches.{picked}
use Rattle.gx_export.specs.Sayable.{TellsSayable}
use Rattle.gx_export.proofs.CommitLists.{marked_commit, picked_next, picked_parts, picked_passed}
use Rattle.gx_export.proofs.SayableCommits.{one_more, refused_among}
use Rattle.gx_export.proofs.sayable.check_sayable.Goals as goal
use Rattle.gx_export.proofs.sayable.check_sayable.Goals.{then-marks-place+in_ok-check_commit, else-marks-place}

pub loop-place-init : goal.loop-place-init
loop-place-init g c = λ test e. tt

pub check_commit-requires : goal.check_commit-requires
check_commit-requires g c =
    let t = c.requires in
    let m = marked_commit t.0 (values_of c.args.repo.now.1) c.loop-place.place (sym (ap (λ ms. slice_index_or ms c.loop-place.place false) t.1) ∙ c.if-marks-place.true) in
    (m.0, m.1)

pub returns-in_err-check_commit : goal.returns-in_err-check_commit
returns-in_err-check_commit g c =
    let vs = values_of c.args.repo.now.1 in
    let p = err_from_is_err_and c.from_residual.result c.from_residual.ensures.1 in
    rw (p.1, p.2) (λ test e.
    let m = marked_commit test vs c.loop-place.place (sym (ap (λ ms. slice_index_or ms c.loop-place.place false) e) ∙ c.if-marks-place.true) in
    let parts = picked_parts test vs c.loop-place.place m.0 m.1 m.2 in
    refused_among (picked test (take c.loop-place.place vs)) m.0 parts.0 (picked test vs) c.in_err-check_commit.field-0.0 parts.1 (c.in_err-check_commit.ensures m.0 m.1))

pub loop-place-preserved : goal.loop-place-preserved
loop-place-preserved g c =
    let vs = values_of c.args.repo.now.1 in
    elim c.if-marks-place.branch [
      | then-marks-place+in_ok-check_commit w ↦ λ test e.
          let m = marked_commit test vs c.loop-place.place (sym (ap (λ ms. slice_index_or ms c.loop-place.place false) e) ∙ w.if-marks-place.true) in
          subst HaveEncodingsAlone (sym (picked_next test vs c.loop-place.place m.0 m.1 m.2))
          (one_more (picked test (take c.loop-place.place vs)) m.0 (c.loop-place.invariant test e) (w.in_ok-check_commit.ensures m.0 m.1).0)
      | else-marks-place w ↦ λ test e.
          let next = picked_passed test vs c.loop-place.place (sym (ap (λ ms. slice_index_or ms c.loop-place.place false) e) ∙ w.if-marks-place.false) in
          subst HaveEncodingsAlone (sym next) (c.loop-place.invariant test e)
    ]

pub returns : goal.returns
returns g c = λ test e.
    let vs = values_of c.args.repo.now.1 in
    let long : length c.args.marks.now ≡ length vs = ap length e ∙ length-map vs (holds test) in
    let all : length vs ≤ c.loop-place.place = omega (arith, long, c.loop-place-test.false) in
    subst (λ us. HaveEncodingsAlone (picked test us)) (take_all c.loop-place.place vs all) (c.loop-place.invariant test e)
