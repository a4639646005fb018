use Rattle.std.proofs.Common.{◌≡◌, ◌∙◌, List, Bool, subst, sym}
use Rattle.std.specs.Prelude.{IfSome}
use Rattle.std.proofs.lemmas.List.{with_items_is}
use Rattle.gx_object.specs.Commits.{bytes_of_names}
use Rattle.gx_repo.specs.Pruning.{is_kept_beside, marks_by}
use Rattle.gx_kept.proofs.marking.marks_of.Goals as goal

pub returns-clause-marks : goal.returns-clause-marks
returns-clause-marks g c =
    let told = g.O.Objects.told c.args.objects.now in
    let same = c.mark_kept.ensures.same_room ∙ c.deref_mut.ensures.len in
    subst (λ (ms : List Bool). IfSome told (λ r. ms ≡ marks_by (is_kept_beside (bytes_of_names c.args.kept.now) r) r.records)) (sym (with_items_is c.in_ok-marks.marks c.mark_kept.new.marks same)) c.in_ok-mark_kept.ensures.marks
