use Rattle.std.proofs.Common.{◌≡◌, ◌≤◌, ◌∙◌, ap, sym, subst, [], ◌∷◌, ◌++◌, arith, length, take, false, Ok, Err}
use Rattle.std.specs.Prelude.{slice_index_or}
use Rattle.std.proofs.lemmas.Result.{err_from_is_err_and}
use Rattle.std.proofs.lemmas.List.{length-map, take_all}
use Rattle.gx_model.specs.Export.{all_written, items_text, one_commit, with_commit}
use Rattle.gx_model.specs.Laws.RepositoryLaws.{values_of}
use Rattle.gx_model.specs.Histories.Marks.{holds}
use Rattle.gx_export.specs.Branches.{picked}
use Rattle.gx_export.specs.FileTexts.{AreKept}
use Rattle.gx_export.specs.Marks.{Adds}
use Rattle.gx_export.specs.Outputs.{Writes}
use Rattle.gx_rev.specs.Reached.{is_wanted}
use Rattle.gx_export.specs.Texts.{items_of}
use Rattle.gx_export.proofs.CommitLists.{commits_items, items_first, items_last, items_parted, marked_commit, picked_next, picked_parts, picked_passed, written_append}
use Rattle.gx_export.proofs.Numbering.{adds_later, adds_nothing}
use Rattle.gx_export.proofs.Writing.{items_sooner}
use Rattle.gx_export.proofs.exporting.write_commits.Goals as goal
use Rattle.gx_export.proofs.exporting.write_commits.Goals.{then-reached-place+in_ok-write_commit, else-reached-place}

pub loop-place-init : goal.loop-place-init
loop-place-init g c = record {
  adds = adds_nothing c.args.repo.now.1 [] c.args.written.now c.requires.written;
  kept = c.new-lines.ensures (g.N.Namer.name_of c.args.repo.now.0) c.args.repo.now.1 [];
}

pub write_commit-requires-clause-commit : goal.write_commit-requires-clause-commit
write_commit-requires-clause-commit g c =
    let name = g.N.Namer.name_of c.args.repo.now.0 in
    let r = c.args.repo.now.1 in
    let vs = values_of r in
    let test = is_wanted r in
    let m = marked_commit test vs c.loop-place.place (sym (ap (λ ms. slice_index_or ms c.loop-place.place false) c.requires.reached) ∙ c.if-reached-place.true) in
    (m.0, m.1)

pub write_commit-requires-clause-written : goal.write_commit-requires-clause-written
write_commit-requires-clause-written g c = (all_written (picked (is_wanted c.args.repo.now.1) (take c.loop-place.place (values_of c.args.repo.now.1))), c.loop-place.invariant.adds.0, c.loop-place.invariant.kept)

pub returns-in_err-write_commit : goal.returns-in_err-write_commit
returns-in_err-write_commit g c =
    let name = g.N.Namer.name_of c.args.repo.now.0 in
    let r = c.args.repo.now.1 in
    let vs = values_of r in
    let test = is_wanted r in
    let p = err_from_is_err_and c.from_residual.result c.from_residual.ensures.1 in
    let m = marked_commit test vs c.loop-place.place (sym (ap (λ ms. slice_index_or ms c.loop-place.place false) c.requires.reached) ∙ c.if-reached-place.true) in
    let cs = picked test (take c.loop-place.place vs) in
    let i = c.loop-place.invariant.adds in
    let stop = c.in_err-write_commit.ensures.adds m.0 m.1 (all_written cs) i.0 c.loop-place.invariant.kept in
    let parts = picked_parts test vs c.loop-place.place m.0 m.1 m.2 in
    let rest = commits_items (with_commit (all_written cs) m.0) parts.0 in
    let all = ap (commits_items []) parts.1 ∙ items_parted [] cs (m.0 ∷ parts.0) ∙ ap (λ is. commits_items [] cs ++ is) (items_first (all_written cs) m.0 parts.0) in
    let later = adds_later r (all_written cs) (all_written cs) (commits_items [] cs) (items_of (one_commit (all_written cs) m.0) ++ rest) c.args.written.now c.loop-place.written c.write_commit.new.written (Err c.in_err-write_commit.field-0.0) i
    (items_sooner c.loop-place.written.output c.write_commit.new.written.output (items_of (one_commit (all_written cs) m.0)) rest c.in_err-write_commit.field-0.0 stop) in
    rw (p.1, p.2) (subst (λ is. Writes c.args.written.now.output c.write_commit.new.written.output (items_text is) (Err c.in_err-write_commit.field-0.0)) (sym all) later)

pub loop-place-preserved : goal.loop-place-preserved
loop-place-preserved g c =
    let name = g.N.Namer.name_of c.args.repo.now.0 in
    let r = c.args.repo.now.1 in
    let vs = values_of r in
    let test = is_wanted r in
    let cs = picked test (take c.loop-place.place vs) in
    let i = c.loop-place.invariant.adds in
    elim c.if-reached-place.branch [
      | then-reached-place+in_ok-write_commit w ↦
          let m = marked_commit test vs c.loop-place.place (sym (ap (λ ms. slice_index_or ms c.loop-place.place false) c.requires.reached) ∙ w.if-reached-place.true) in
          let done = w.in_ok-write_commit.ensures.adds m.0 m.1 (all_written cs) i.0 c.loop-place.invariant.kept in
          let later = adds_later r (all_written cs) (with_commit (all_written cs) m.0) (commits_items [] cs) (items_of (one_commit (all_written cs) m.0)) c.args.written.now c.loop-place.written w.write_commit.new.written (Ok tt) i done in
          let next = picked_next test vs c.loop-place.place m.0 m.1 m.2 in
          rw (w.written-is, w.lines-is) (record {
            adds = subst (λ ds. Adds r (all_written ds) (commits_items [] ds) c.args.written.now w.write_commit.new.written (Ok tt)) (sym next)
                (subst (λ ws. Adds r ws (commits_items [] (cs ++ m.0 ∷ [])) c.args.written.now w.write_commit.new.written (Ok tt)) (sym (written_append [] cs (m.0 ∷ [])))
                (subst (λ is. Adds r (with_commit (all_written cs) m.0) is c.args.written.now w.write_commit.new.written (Ok tt)) (sym (items_last cs m.0)) later));
            kept = subst (λ ds. AreKept name r (all_written ds) w.write_commit.new.lines) (sym next) (subst (λ ws. AreKept name r ws w.write_commit.new.lines) (sym (written_append [] cs (m.0 ∷ []))) (w.in_ok-write_commit.ensures.kept m.0 m.1 (all_written cs) i.0 c.loop-place.invariant.kept));
          })
      | else-reached-place w ↦
          let next = picked_passed test vs c.loop-place.place (sym (ap (λ ms. slice_index_or ms c.loop-place.place false) c.requires.reached) ∙ w.if-reached-place.false) in
          rw (w.written-is, w.lines-is) (record {
            adds = subst (λ ds. Adds r (all_written ds) (commits_items [] ds) c.args.written.now c.loop-place.written (Ok tt)) (sym next) i;
            kept = subst (λ ds. AreKept name r (all_written ds) c.loop-place.lines) (sym next) c.loop-place.invariant.kept;
          })
    ]

pub returns : goal.returns
returns g c =
    let name = g.N.Namer.name_of c.args.repo.now.0 in
    let r = c.args.repo.now.1 in
    let vs = values_of r in
    let test = is_wanted r in
    let long : length c.args.reached.now ≡ length vs = ap length c.requires.reached ∙ length-map vs (holds test) in
    let all : length vs ≤ c.loop-place.place = omega (arith, long, c.loop-place-test.false) in
    subst (λ us. Adds r (all_written (picked test us)) (commits_items [] (picked test us)) c.args.written.now c.loop-place.written (Ok tt)) (take_all c.loop-place.place vs all) c.loop-place.invariant.adds
