use Rattle.std.proofs.Common.{◌≡◌, ◌∙◌, ap, sym, subst, drop, length, Some}
use Rattle.std.specs.Prelude.{◌++◌, IfSome}
use Rattle.gx_model.specs.Records.Growth.{put_all}
use Rattle.gx_model.specs.Records.Sound.{IsSound}
use Rattle.gx_ref_lines.specs.Refs.{shown_refs}
use Rattle.gx_growing_import.specs.Alike.{AreAlike}
use Rattle.gx_growing_import.specs.Importing.{GivesTold, TakesText}
use Rattle.gx_growing_import.proofs.RefsTold.{sorted_lines, told_lines}
use Rattle.gx_growing_import.proofs.WholeImports.{gives_told, small_named}
use Rattle.gx_growing_import.proofs.importing.import_over.Goals as goal

pub compare-requires-clause-lines : goal.compare-requires-clause-lines
compare-requires-clause-lines g c =
    told_lines (g.O.Objects.name_of c.args.objects.now) c.sound_if_told.ensures.namer (g.O.Objects.told c.args.objects.now) c.sound_if_told.ensures.sound
    c.in_ok-ref_lines.field-0.now (shown_refs c.in_ok-lines.lines.refs.items) c.in_ok-lines.ensures.all c.in_ok-ref_lines.ensures.lines

pub next_refs-requires : goal.next_refs-requires
next_refs-requires g c =
    record { sorted = sorted_lines c.in_ok-ref_lines.field-0.now (shown_refs c.in_ok-lines.lines.refs.items) c.in_ok-lines.ensures.all c.in_ok-ref_lines.ensures.spelled }

pub returns-clause-whole : goal.returns-clause-whole
returns-clause-whole g c =
    let name = g.N.Namer.name_of c.args.namer in
    let namer = g.met.N.Namer.is_namer c.args.namer in
    let told = g.O.Objects.told c.args.objects.now in
    let asks = c.args.features in
    let text = c.args.stream.now in
    let fails = c.args.fails in
    let small = c.in_ok-small.small in
    let now = c.import_small.new.small.1 in
    let refs = shown_refs c.in_ok-lines.lines.refs.items in
    let progress = c.in_ok-report.progress.items in
    let report = c.in_ok-report.report in
    let new = c.in_ok-new.new.1 in
    let by_namer = small_named (λ n. g.N.Namer.name_of n) in
    let sound = subst (λ nm. IfSome told (IsSound nm)) c.requires.names c.sound_if_told.ensures.sound in
    let small_sound = by_namer (λ nm. IsSound nm small.1) small.0 c.args.namer c.in_ok-small.ensures.namer c.store.ensures.sound in
    let same = told_lines (g.O.Objects.name_of c.args.objects.now) c.sound_if_told.ensures.namer told c.sound_if_told.ensures.sound
    c.in_ok-ref_lines.field-0.now refs c.in_ok-lines.ensures.all c.in_ok-ref_lines.ensures.lines in
    let alike = subst (λ nm. IfSome told (λ whole. AreAlike nm whole small.1 c.in_ok-asked.asked)) c.requires.names c.in_ok-compare.ensures.alike in
    let takes = by_namer (λ nm. TakesText nm asks small.1 now text fails progress report) small.0 c.args.namer c.in_ok-small.ensures.namer c.in_ok-report.ensures.takes in
    let held : c.len-held.result ≡ length small.1.records = c.len-held.ensures.count ∙ ap (λ r. length r.1) c.store.ensures.held in
    let puts = subst (λ n. IfSome told (λ whole. put_all whole.records (drop n now.records) ≡ Some (whole.records ++ new))) held c.in_ok-new.ensures.records in
    subst (λ n. GivesTold name asks told text fails new c.in_ok-refs.refs.items c.in_ok-refs.ref_count progress (record report { objects = n })) (sym c.len.ensures.count)
    (gives_told name (c.histories_of_records.ensures name namer) (c.stand_ins_bring.ensures name namer) asks text fails told small.1 now refs c.in_ok-asked.asked
    sound small_sound (c.in_ok-small.ensures.small same) same c.in_ok-asked.ensures.asked alike progress report takes new puts
    c.in_ok-refs.refs.items c.in_ok-refs.ref_count c.in_ok-refs.ensures.lines c.in_ok-refs.ensures.count)
