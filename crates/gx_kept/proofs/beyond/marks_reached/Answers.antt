use Rattle.std.proofs.Common.{◌≡◌, ◌∙◌, List, Bool, subst, sym}
use Rattle.std.specs.Prelude.{IfSome}
use Rattle.std.proofs.lemmas.List.{with_items_is}
use Rattle.gx_object.specs.Commits.{bytes_of_names}
use Rattle.gx_kept.proofs.MarkedBeyond.{Reaches}
use Rattle.gx_kept.proofs.beyond.marks_reached.Goals as goal

pub returns-clause-marks : goal.returns-clause-marks
returns-clause-marks g c =
    let o = c.args.objects.now in
    let same = c.mark_reached.ensures.same_room ∙ c.deref_mut.ensures.len in
    subst (λ (ms : List Bool). IfSome (g.O.Objects.told o) (Reaches c.args.refs.now (bytes_of_names c.args.names.now) ms)) (sym (with_items_is c.in_ok-marks.marks c.mark_reached.new.marks same)) c.in_ok-mark_reached.ensures.marks
