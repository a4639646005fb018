use Rattle.std.proofs.Common.{sym, subst, ◌∙◌}
use Rattle.std.proofs.lemmas.List.{with_items_is}
use Rattle.gx_model.specs.Revisions.Ranges.{no_commit}
use Rattle.gx_rev.specs.Tips.{AreTips}
use Rattle.gx_rev.proofs.refs.reached_from_refs.Goals as goal

pub mark_all-requires : goal.mark_all-requires
mark_all-requires g c = subst (AreTips c.args.repo.now.1 no_commit) (sym c.deref_mut.ensures.value) c.in_ok-marks.ensures

pub returns : goal.returns
returns g c = with_items_is c.in_ok-marks.marks c.mark_all.new.marks (c.mark_all.auto.marks ∙ c.deref_mut.ensures.len) ∙ c.mark_all.ensures
