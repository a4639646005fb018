use Rattle.std.proofs.Common.{◌≡◌, ◌≤◌, ◌∙◌, ap, sym, subst, [], ◌∷◌, ◌++◌, arith, length, take, false, Ok, Err}
use Rattle.std.specs.Prelude.{slice_index_or}
use Rattle.std.proofs.lemmas.Result.{err_from_is_err_and}
use Rattle.std.proofs.lemmas.List.{length-map, take_all}
use Rattle.gx_model.specs.Changes.{all_changes, with_changes}
use Rattle.gx_model.specs.Laws.RepositoryLaws.{values_of}
use Rattle.gx_model.specs.Histories.Marks.{holds}
use Rattle.gx_export.specs.Branches.{picked, refs_of}
use Rattle.gx_export.specs.ChangedParts.{one_on}
use Rattle.gx_export.specs.FileTexts.{AreKept}
use Rattle.gx_export.specs.Marks.{Adds}
use Rattle.gx_export.specs.Outputs.{Writes}
use Rattle.gx_export.specs.Texts.{items_of}
use Rattle.gx_model.specs.Export.{items_text}
use Rattle.gx_export.proofs.ChangedLists.{changed_first, changed_items, changed_last, changed_parted, changes_append, one_items}
use Rattle.gx_export.proofs.CommitLists.{marked_commit, picked_next, picked_parts, picked_passed}
use Rattle.gx_export.proofs.Numbering.{adds_later, adds_nothing}
use Rattle.gx_export.proofs.Writing.{items_sooner}
use Rattle.gx_export.proofs.exporting_changes.write_commits.Goals as goal
use Rattle.gx_export.proofs.exporting_changes.write_commits.Goals.{then-sent-place+in_ok-write_changed_commit, else-sent-place}

pub loop-place-init : goal.loop-place-init
loop-place-init g c = λ test e. (
  adds_nothing c.args.repo.now.1 [] c.args.written.now c.requires.written,
  c.new-changes.ensures (g.N.Namer.name_of c.args.repo.now.0) c.args.repo.now.1 [],
)

pub write_changed_commit-requires-clause-commit : goal.write_changed_commit-requires-clause-commit
write_changed_commit-requires-clause-commit g c =
    let t = c.requires.sent in
    let m = marked_commit t.0 (values_of c.args.repo.now.1) c.loop-place.place (sym (ap (λ ms. slice_index_or ms c.loop-place.place false) t.1) ∙ c.if-sent-place.true) in
    (m.0, m.1)

pub write_changed_commit-requires-clause-written : goal.write_changed_commit-requires-clause-written
write_changed_commit-requires-clause-written g c =
    let t = c.requires.sent in
    let i = c.loop-place.invariant t.0 t.1 in
    (all_changes (picked t.0 (take c.loop-place.place (values_of c.args.repo.now.1))), i.0.0, i.1)

pub returns-in_err-write_changed_commit : goal.returns-in_err-write_changed_commit
returns-in_err-write_changed_commit g c =
    let name = g.N.Namer.name_of c.args.repo.now.0 in
    let r = c.args.repo.now.1 in
    let vs = values_of r in
    let refs = refs_of r c.args.branches.now in
    let fault = c.in_err-write_changed_commit.field-0.0 in
    let p = err_from_is_err_and c.from_residual.result c.from_residual.ensures.1 in
    rw (p.1, p.2) (λ test e.
    let m = marked_commit test vs c.loop-place.place (sym (ap (λ ms. slice_index_or ms c.loop-place.place false) e) ∙ c.if-sent-place.true) in
    let cs = picked test (take c.loop-place.place vs) in
    let i = c.loop-place.invariant test e in
    let branch = c.of-branch.ensures ∙ c.requires.branches.found c.loop-place.place m.0 c.if-sent-place.true m.1 in
    let stop = subst (λ b. Writes c.loop-place.written.output c.write_changed_commit.new.written.output (items_text (items_of (one_on name b (all_changes cs) m.0))) (Err fault)) branch (c.in_err-write_changed_commit.ensures.adds m.0 m.1 (all_changes cs) i.0.0 i.1) in
    let parts = picked_parts test vs c.loop-place.place m.0 m.1 m.2 in
    let rest = changed_items name refs (with_changes (all_changes cs) m.0) parts.0 in
    let all = ap (changed_items name refs []) parts.1 ∙ changed_parted name refs [] cs (m.0 ∷ parts.0) ∙ ap (λ is. changed_items name refs [] cs ++ is) (changed_first name refs (all_changes cs) m.0 parts.0) in
    let later = adds_later r (all_changes cs) (all_changes cs) (changed_items name refs [] cs) (one_items name refs (all_changes cs) m.0 ++ rest) c.args.written.now c.loop-place.written c.write_changed_commit.new.written (Err fault) i.0
    (items_sooner c.loop-place.written.output c.write_changed_commit.new.written.output (one_items name refs (all_changes cs) m.0) rest fault stop) in
    subst (λ is. Writes c.args.written.now.output c.write_changed_commit.new.written.output (items_text is) (Err fault)) (sym all) later)

pub loop-place-preserved : goal.loop-place-preserved
loop-place-preserved g c =
    let name = g.N.Namer.name_of c.args.repo.now.0 in
    let r = c.args.repo.now.1 in
    let vs = values_of r in
    let refs = refs_of r c.args.branches.now in
    elim c.if-sent-place.branch [
      | then-sent-place+in_ok-write_changed_commit w ↦
          rw (w.written-is, w.changes-is) (λ test e.
          let cs = picked test (take c.loop-place.place vs) in
          let i = c.loop-place.invariant test e in
          let m = marked_commit test vs c.loop-place.place (sym (ap (λ ms. slice_index_or ms c.loop-place.place false) e) ∙ w.if-sent-place.true) in
          let branch = w.of-branch.ensures ∙ c.requires.branches.found c.loop-place.place m.0 w.if-sent-place.true m.1 in
          let done = subst (λ b. Adds r (with_changes (all_changes cs) m.0) (items_of (one_on name b (all_changes cs) m.0)) c.loop-place.written w.write_changed_commit.new.written (Ok tt)) branch
          (w.in_ok-write_changed_commit.ensures.adds m.0 m.1 (all_changes cs) i.0.0 i.1) in
          let later = adds_later r (all_changes cs) (with_changes (all_changes cs) m.0) (changed_items name refs [] cs) (one_items name refs (all_changes cs) m.0) c.args.written.now c.loop-place.written w.write_changed_commit.new.written (Ok tt) i.0 done in
          let next = picked_next test vs c.loop-place.place m.0 m.1 m.2 in (
            subst (λ ds. Adds r (all_changes ds) (changed_items name refs [] ds) c.args.written.now w.write_changed_commit.new.written (Ok tt)) (sym next)
                (subst (λ ws. Adds r ws (changed_items name refs [] (cs ++ m.0 ∷ [])) c.args.written.now w.write_changed_commit.new.written (Ok tt)) (sym (changes_append [] cs (m.0 ∷ [])))
                (subst (λ is. Adds r (with_changes (all_changes cs) m.0) is c.args.written.now w.write_changed_commit.new.written (Ok tt)) (sym (changed_last name refs cs m.0)) later)),
            subst (λ ds. AreKept name r (all_changes ds) w.write_changed_commit.new.changes.files) (sym next)
                (subst (λ ws. AreKept name r ws w.write_changed_commit.new.changes.files) (sym (changes_append [] cs (m.0 ∷ []))) (w.in_ok-write_changed_commit.ensures.kept m.0 m.1 (all_changes cs) i.0.0 i.1)),
          ))
      | else-sent-place w ↦
          rw (w.written-is, w.changes-is) (λ test e.
          let i = c.loop-place.invariant test e in
          let next = picked_passed test vs c.loop-place.place (sym (ap (λ ms. slice_index_or ms c.loop-place.place false) e) ∙ w.if-sent-place.false) in (
            subst (λ ds. Adds r (all_changes ds) (changed_items name refs [] ds) c.args.written.now c.loop-place.written (Ok tt)) (sym next) i.0,
            subst (λ ds. AreKept name r (all_changes ds) c.loop-place.changes.files) (sym next) i.1,
          ))
    ]

pub returns : goal.returns
returns g c = λ test e.
    let name = g.N.Namer.name_of c.args.repo.now.0 in
    let r = c.args.repo.now.1 in
    let vs = values_of r in
    let refs = refs_of r c.args.branches.now in
    let long : length c.args.sent.now ≡ length vs = ap length e ∙ length-map vs (holds test) in
    let all : length vs ≤ c.loop-place.place = omega (arith, long, c.loop-place-test.false) in
    subst (λ us. Adds r (all_changes (picked test us)) (changed_items name refs [] (picked test us)) c.args.written.now c.loop-place.written (Ok tt)) (take_all c.loop-place.place vs all) (c.loop-place.invariant test e).0
