use Rattle.gx_model.specs.Records.HistoryOf.{history_of}
use Rattle.gx_model.specs.Replay.{peeled_at}
use Rattle.gx_model.specs.Revisions.Denotation.{commit_denoted}
use Rattle.gx_model.specs.Revisions.Ranges.{reaches}
use Rattle.gx_rev.specs.Objects.{commit_at}
use Rattle.gx_ref_filters.specs.Filters.{agrees}
use Rattle.gx_ref_filters.proofs.Kept.{given_kept}
use Rattle.gx_ref_filters.proofs.filters.containing.Goals as goal

pub returns : goal.returns
returns g c =
    let o = c.args.objects.now in
    let name = g.O.Objects.name_of o in
    let asked = c.args.revision.now in
    given_kept (g.O.Objects.stands o) (g.O.Objects.told o) c.args.refs.now c.in_ok-reaching.field-0.items (λ r. commit_denoted name (history_of r) asked) (λ r. commit_at r c.in_ok-commit.commit) (λ r made held. agrees c.args.so (reaches (peeled_at held) made)) c.in_ok-commit.ensures.commit c.in_ok-reaching.ensures.kept
