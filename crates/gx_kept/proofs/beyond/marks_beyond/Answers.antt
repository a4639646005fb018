use Rattle.std.proofs.Common.{◌≡◌, ◌∙◌, List, Bool, subst, sym}
use Rattle.std.specs.Prelude.{IfSome}
use Rattle.std.proofs.lemmas.List.{with_items_is}
use Rattle.gx_object.specs.Commits.{bytes_of_names}
use Rattle.gx_object.specs.Parts.{bytes_if}
use Rattle.gx_repo.specs.Pruning.{marks_by}
use Rattle.gx_kept.specs.Marking.{without_marks}
use Rattle.gx_kept.specs.Telling.{OfRefs, is_sent}
use Rattle.gx_kept.proofs.MarkedBeyond.{beyond_are}
use Rattle.gx_kept.proofs.beyond.marks_beyond.Goals as goal

pub returns-clause-marks : goal.returns-clause-marks
returns-clause-marks g c =
    let told = g.O.Objects.told c.args.objects.now in
    let wanted = c.in_ok-marks.marks.items in
    let other = c.in_ok-reached.reached.items in
    let bundled = c.args.bundled.now in
    let same = c.unmark.ensures.same_room ∙ c.deref_mut.ensures.len in
    let left : c.unmark.new.marks ≡ without_marks wanted other = c.unmark.ensures.left ∙ (λ i. without_marks (c.deref_mut.ensures.value i) (c.as_slice.ensures.value i)) in
    subst (λ (ms : List Bool). IfSome told (λ r. OfRefs bundled.refs.now (λ refs. ms ≡ marks_by (is_sent bundled refs r) r.records))) (sym (with_items_is c.in_ok-marks.marks c.unmark.new.marks same))
    (beyond_are told bundled.refs.now (bytes_if bundled.head) (bytes_of_names bundled.had.now) wanted other c.unmark.new.marks left c.in_ok-marks.ensures.marks c.in_ok-reached.ensures.marks)
