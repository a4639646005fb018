use Rattle.std.proofs.Common.{map}
use Rattle.gx_model.specs.Records.HistoryOf.{history_of}
use Rattle.gx_ref_filters.specs.Filters.{shown_filter}
use Rattle.gx_text.specs.Lent.{lent_texts}
use Rattle.gx_told.specs.Filtering.{kept_text}
use Rattle.gx_told.proofs.FilteredRefs.{look_prints}
use Rattle.gx_told.proofs.refs.print_kept.Goals as goal

pub returns : goal.returns
returns g c =
    let o = c.args.objects.now in
    rw c.from.ensures (look_prints (g.O.Objects.told o) (λ r. kept_text (g.O.Objects.name_of o) (history_of r) (map shown_filter c.args.filters.now) (lent_texts c.args.patterns.now)) (g.W.Sink.taken c.args.sink.now) c.in-Err.fault c.in-Err.ensures.fault)
