use Rattle.std.proofs.Common.{map, subst, sym}
use Rattle.std.specs.Prelude.{IfSome}
use Rattle.gx_model.specs.Records.HistoryOf.{history_of}
use Rattle.gx_ref_filters.specs.Filters.{shown_filter}
use Rattle.gx_text.specs.Lent.{lent_texts}
use Rattle.gx_tips.specs.Tips.{AreAllRefs, shown_tip}
use Rattle.gx_told.specs.Filtering.{kept_text, shown_text}
use Rattle.gx_told.specs.Printing.{PrintsText}
use Rattle.gx_told.proofs.FilteredRefs.{filter_stops, kept_prints, look_prints}
use Rattle.gx_told.proofs.refs.print_kept_of.Goals as goal

pub kept_refs-requires : goal.kept_refs-requires
kept_refs-requires g c =
    let o = c.args.objects.now in
    record { refs = subst (λ xs. IfSome (g.O.Objects.told o) (λ r. AreAllRefs (g.O.Objects.stands o) r xs)) (sym c.as_slice.ensures.value) c.in-Ok.ensures.tips }

pub returns-in-Err : goal.returns-in-Err
returns-in-Err g c =
    let o = c.args.objects.now in
    rw c.from.ensures (look_prints (g.O.Objects.told o) (λ r. kept_text (g.O.Objects.name_of o) (history_of r) (map shown_filter c.args.filters.now) (lent_texts c.args.patterns.now)) (g.W.Sink.taken c.args.sink.now) c.in-Err.fault c.in-Err.ensures.fault)

pub returns-in-Ok-kept_refs : goal.returns-in-Ok-kept_refs
returns-in-Ok-kept_refs g c =
    let o = c.args.objects.now in
    let s = c.sound_if_told.ensures in
    let was = g.W.Sink.taken c.args.sink.now in
    let now = g.W.Sink.taken c.print_lines.new.sink in
    let kept = c.in-Ok-kept_refs.kept.items in
    kept_prints (g.O.Objects.name_of o) s.namer (g.O.Objects.stands o) (g.O.Objects.told o) (map shown_filter c.args.filters.now) (lent_texts c.args.patterns.now) kept was now c.print_lines.result s.sound c.in-Ok-kept_refs.ensures
    (subst (λ xs. PrintsText (shown_text (map shown_tip xs)) was now c.print_lines.result) c.as_slice-in-Ok-kept_refs.ensures.value c.print_lines.ensures)

pub returns : goal.returns
returns g c =
    let o = c.args.objects.now in
    rw c.refused.ensures (filter_stops (g.O.Objects.name_of o) (g.O.Objects.told o) (map shown_filter c.args.filters.now) (lent_texts c.args.patterns.now) (g.W.Sink.taken c.args.sink.now) c.in-Err-kept_refs.fault.word c.in-Err-kept_refs.fault.kind c.in-Err-kept_refs.ensures)
