use Rattle.std.proofs.Common.{ap, map, sym, subst}
use Rattle.std.specs.Prelude.{Err, IsTrue}
use Rattle.std.specs.FinMap.Entries.{is_sorted}
use Rattle.std.proofs.lemmas.Result.{err_from_is_err_and}
use Rattle.gx_model.specs.Records.HistoryOf.{history_of}
use Rattle.gx_model.specs.Records.Publishing.{Ref}
use Rattle.std.specs.Prelude.{List}
use Rattle.gx_model.specs.Revisions.Ranges.{words_denoted}
use Rattle.gx_model.specs.Texts.{byte_cmp}
use Rattle.gx_ref_lines.specs.Refs.{shown_refs}
use Rattle.gx_rev.specs.Views.{shown_range}
use Rattle.gx_bundled.specs.Named.{is_told, names_of}
use Rattle.gx_bundled.proofs.ExcludedCommits.{no_damage, refused_look}
use Rattle.gx_bundled.proofs.ToldRefs.{told_held, told_made, told_spelled}
use Rattle.gx_bundled.proofs.told.told_by.Goals as goal

pub returns-in_err-ref_lines-clause-excluded : goal.returns-in_err-ref_lines-clause-excluded
returns-in_err-ref_lines-clause-excluded g c =
    let p = err_from_is_err_and c.from_residual.result c.from_residual.ensures.1 in
    rw (p.1, p.2) (refused_look (g.O.Objects.told c.args.objects.now) (λ r. words_denoted (g.O.Objects.name_of c.args.objects.now) (history_of r) (map shown_range c.args.words.now)) c.in_err-ref_lines.field-0.0 c.in_err-ref_lines.ensures.fault)

pub returns-in_err-held-clause-excluded : goal.returns-in_err-held-clause-excluded
returns-in_err-held-clause-excluded g c =
    let p = err_from_is_err_and c.from_residual-in_err-held.result c.from_residual-in_err-held.ensures.1 in
    rw (p.1, p.2) (refused_look (g.O.Objects.told c.args.objects.now) (λ r. words_denoted (g.O.Objects.name_of c.args.objects.now) (history_of r) (map shown_range c.args.words.now)) c.in_err-held.field-0.0
    (λ e. absurd (c.in_err-held.ensures.damaged (ap (λ f. Err f) e) c.in_ok-ref_lines.ensures.spelled)))

pub told_lines-requires : goal.told_lines-requires
told_lines-requires g c =
    let s = c.in_ok-ref_lines.ensures.spelled in
    record { sorted = subst (λ (rs : List Ref). IsTrue (is_sorted byte_cmp rs)) (sym (c.in_ok-held.ensures.all s.0 s.1 s.2)) s.2.sorted }

pub returns-in_err-refs-clause-excluded : goal.returns-in_err-refs-clause-excluded
returns-in_err-refs-clause-excluded g c =
    let p = err_from_is_err_and c.from_residual-in_err-refs.result c.from_residual-in_err-refs.ensures.1 in
    rw (p.1, p.2) (refused_look (g.O.Objects.told c.args.objects.now) (λ r. words_denoted (g.O.Objects.name_of c.args.objects.now) (history_of r) (map shown_range c.args.words.now)) c.in_err-refs.field-0.0
    (no_damage (g.O.Objects.told c.args.objects.now) c.in_err-refs.field-0.0 c.in_err-refs.ensures.memory))

pub returns-in_err-had-clause-excluded : goal.returns-in_err-had-clause-excluded
returns-in_err-had-clause-excluded g c =
    let p = err_from_is_err_and c.from_residual-in_err-had.result c.from_residual-in_err-had.ensures.1 in
    rw (p.1, p.2) c.in_err-had.ensures

pub returns-clause-refs : goal.returns-clause-refs
returns-clause-refs g c =
    let o = c.args.objects.now in
    told_made (λ refs ref. is_told c.args.all c.args.with_head (names_of refs (map shown_range c.args.words.now)) ref.0) c.in_ok-ref_lines.field-0.now (shown_refs c.in_ok-held.held.refs.items) c.in_ok-held.ensures.lines c.in_ok-held.ensures.all
    c.in_ok-refs.refs.items c.in_ok-refs.ensures.lines (g.O.Objects.name_of o) c.sound_if_told.ensures.namer (g.O.Objects.told o) c.sound_if_told.ensures.sound c.in_ok-ref_lines.ensures.lines

pub returns-clause-spelled : goal.returns-clause-spelled
returns-clause-spelled g c =
    told_spelled (λ refs ref. is_told c.args.all c.args.with_head (names_of refs (map shown_range c.args.words.now)) ref.0) c.in_ok-ref_lines.field-0.now (shown_refs c.in_ok-held.held.refs.items) c.in_ok-held.ensures.lines c.in_ok-held.ensures.all
    c.in_ok-refs.refs.items c.in_ok-refs.ensures.lines c.in_ok-ref_lines.ensures.spelled

pub returns-clause-held : goal.returns-clause-held
returns-clause-held g c =
    let o = c.args.objects.now in
    told_held (λ refs ref. is_told c.args.all c.args.with_head (names_of refs (map shown_range c.args.words.now)) ref.0) c.in_ok-ref_lines.field-0.now (shown_refs c.in_ok-held.held.refs.items) c.in_ok-held.ensures.lines c.in_ok-held.ensures.all
    c.in_ok-refs.refs.items c.in_ok-refs.ensures.lines (g.O.Objects.name_of o) c.sound_if_told.ensures.namer (g.O.Objects.told o) c.sound_if_told.ensures.sound c.in_ok-ref_lines.ensures.lines
