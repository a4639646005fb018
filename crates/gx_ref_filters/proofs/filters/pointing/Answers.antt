use Rattle.gx_model.specs.Records.HistoryOf.{history_of}
use Rattle.gx_model.specs.Revisions.Denotation.{value_denoted}
use Rattle.gx_rev.specs.Objects.{value_at}
use Rattle.gx_ref_filters.specs.Filters.{points_at}
use Rattle.gx_ref_filters.proofs.Kept.{given_kept}
use Rattle.gx_ref_filters.proofs.filters.pointing.Goals as goal

pub returns : goal.returns
returns g c =
    let o = c.args.objects.now in
    let name = g.O.Objects.name_of o in
    let asked = c.args.revision.now in
    given_kept (g.O.Objects.stands o) (g.O.Objects.told o) c.args.refs.now c.in_ok-pointing_at.field-0.items (λ r. value_denoted name (history_of r) asked) (λ r. value_at r c.in_ok-object.object) (λ r v. points_at name v) c.in_ok-object.ensures.value c.in_ok-pointing_at.ensures.kept
