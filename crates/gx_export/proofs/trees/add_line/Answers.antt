use Rattle.std.proofs.Common.{◌≡◌, ◌≤◌, ◌∙◌, ◌++◌, [], ◌∷◌, length, drop, true, false, ap, sym, subst, arith, Ok, Err}
use Rattle.std.proofs.lemmas.List.{length-append}
use Rattle.std.proofs.lemmas.Result.{err_from_is_err_and}
use Rattle.gx_model.specs.Export.{blob_commands, items_text, with_blobs}
use Rattle.gx_model.specs.Records.HistoryOf.{named_values}
use Rattle.gx_export.specs.FileTexts.{Gathers, IsGathered, IsLineIn, IsLinesOf, TakesLine, bytes_in, entry_file, lines_text}
use Rattle.gx_export.specs.Texts.{items_of}
use Rattle.gx_export.proofs.Gathering.{gathered_again, lines_gathered}
use Rattle.gx_export.proofs.Writing.{stops_first, stops_last}
use Rattle.gx_export.proofs.trees.add_line.Goals as goal

pub returns-in_err-take_line : goal.returns-in_err-take_line
returns-in_err-take_line g c = λ ws h kept.
    let p = err_from_is_err_and c.from_residual.result c.from_residual.ensures.1 in
    rw (p.1, p.2) (stops_first c.args.written.now.output (items_text (items_of (blob_commands ws (bytes_in (named_values c.args.repo.now.1.records) (entry_file c.args.front.now c.args.entry.now))))))

pub returns-in_err-path : goal.returns-in_err-path
returns-in_err-path g c = λ ws h kept.
    let p = err_from_is_err_and c.from_residual-in_err-path.result c.from_residual-in_err-path.ensures.1 in
    rw (p.1, p.2) (stops_first c.args.written.now.output (items_text (items_of (blob_commands ws (bytes_in (named_values c.args.repo.now.1.records) (entry_file c.args.front.now c.args.entry.now))))))

pub returns-then-branch : goal.returns-then-branch
returns-then-branch g c = λ ws h kept.
    let name = g.N.Namer.name_of c.args.repo.now.0 in
    let r = c.args.repo.now.1 in
    let e = c.args.entry.now in
    let front = c.args.front.now in
    let taken : TakesLine name r ws c.joined.result.now e c.args.lines.now c.take_line.new.self true = subst (TakesLine name r ws c.joined.result.now e c.args.lines.now c.take_line.new.self) c.if-branch.true (c.in_ok-take_line.ensures name r ws kept) in
    gathered_again name r ws (entry_file front e) c.args.written.now c.args.lines.now c.take_line.new.self taken.1.0 h taken.1.1 (taken.1.2 front c.joined.ensures.path) taken.0

pub add_file-requires-clause-written : goal.add_file-requires-clause-written
add_file-requires-clause-written g c =
    let name = g.N.Namer.name_of c.args.repo.now.0 in
    let r = c.args.repo.now.1 in
    let w = c.requires.written in
    let none : TakesLine name r w.0 c.joined.result.now c.args.entry.now c.args.lines.now c.take_line.new.self false = subst (TakesLine name r w.0 c.joined.result.now c.args.entry.now c.args.lines.now c.take_line.new.self) c.if-branch.false (c.in_ok-take_line.ensures name r w.0 w.2) in
    (w.0, w.1, none.0)

pub returns-in_err-add_file : goal.returns-in_err-add_file
returns-in_err-add_file g c = λ ws h kept.
    let name = g.N.Namer.name_of c.args.repo.now.0 in
    let r = c.args.repo.now.1 in
    let e = c.args.entry.now in
    let none : TakesLine name r ws c.joined.result.now e c.args.lines.now c.take_line.new.self false = subst (TakesLine name r ws c.joined.result.now e c.args.lines.now c.take_line.new.self) c.if-branch.false (c.in_ok-take_line.ensures name r ws kept) in
    let p = err_from_is_err_and c.from_residual-in_err-add_file.result c.from_residual-in_err-add_file.ensures.1 in
    let fault = c.in_err-add_file.field-0.0 in
    let stop = c.in_err-add_file.ensures ws h none.0 in
    rw (p.1, p.2) (subst (λ q. Gathers name r ws ((q, (e.mode, e.name.bytes)) ∷ []) c.args.written.now c.add_file.new.written c.take_line.new.self c.add_file.new.lines (Err fault)) c.in_ok-path.ensures stop)

pub returns-in_err-keep : goal.returns-in_err-keep
returns-in_err-keep g c = λ ws h kept.
    let name = g.N.Namer.name_of c.args.repo.now.0 in
    let r = c.args.repo.now.1 in
    let e = c.args.entry.now in
    let names = entry_file c.args.front.now e in
    let none : TakesLine name r ws c.joined.result.now e c.args.lines.now c.take_line.new.self false = subst (TakesLine name r ws c.joined.result.now e c.args.lines.now c.take_line.new.self) c.if-branch.false (c.in_ok-take_line.ensures name r ws kept) in
    let p = err_from_is_err_and c.from_residual-in_err-keep.result c.from_residual-in_err-keep.ensures.1 in
    let all : IsGathered name r ws names c.args.written.now c.add_file.new.written c.take_line.new.self c.add_file.new.lines = subst (λ q. IsGathered name r ws ((q, (e.mode, e.name.bytes)) ∷ []) c.args.written.now c.add_file.new.written c.take_line.new.self c.add_file.new.lines) c.in_ok-path.ensures (c.in_ok-add_file.ensures ws h none.0) in
    rw (p.1, p.2) (stops_last c.args.written.now.output c.add_file.new.written.output (items_text (items_of (blob_commands ws (bytes_in (named_values r.records) names)))) all.adds.1)

pub returns : goal.returns
returns g c = λ ws h kept.
    let name = g.N.Namer.name_of c.args.repo.now.0 in
    let r = c.args.repo.now.1 in
    let e = c.args.entry.now in
    let front = c.args.front.now in
    let names = entry_file front e in
    let us = with_blobs ws (bytes_in (named_values r.records) names) in
    let taken = c.take_line.new.self in
    let none : TakesLine name r ws c.joined.result.now e c.args.lines.now taken false = subst (TakesLine name r ws c.joined.result.now e c.args.lines.now taken) c.if-branch.false (c.in_ok-take_line.ensures name r ws kept) in
    let all : IsGathered name r ws names c.args.written.now c.add_file.new.written taken c.add_file.new.lines = subst (λ q. IsGathered name r ws ((q, (e.mode, e.name.bytes)) ∷ []) c.args.written.now c.add_file.new.written taken c.add_file.new.lines) c.in_ok-path.ensures (c.in_ok-add_file.ensures ws h none.0) in
    let start : length taken.text.items ≡ c.len-start.result = omega (arith, c.len-start.ensures, taken.text.ok) in
    let lines = lines_gathered name r ws names c.args.written.now c.add_file.new.written taken c.add_file.new.lines c.len-start.result start all in
    let within : c.len-start.result ≤ length c.add_file.new.lines.text.items = omega (arith, start, ap length all.text, length-append taken.text.items (lines_text (named_values r.records) us names)) in
    let claim : IsLineIn r us c.joined-2.result.now e (drop c.len-start.result c.add_file.new.lines.text.items) = λ other p.
    (let both : Ok front ≡ Ok other = sym c.joined-2.ensures.path ∙ p in
    let same : front ≡ other = cc in
    subst (λ q. IsLinesOf r us (entry_file q e) (drop c.len-start.result c.add_file.new.lines.text.items)) same lines) in
    record {
      adds = all.adds;
      text = ap (λ x. x.items) c.keep.ensures.text ∙ all.text ∙ ap (λ x. x ++ lines_text (named_values r.records) us names) (ap (λ x. x.items) none.1);
      kept = c.in_ok-keep.ensures.kept name r us all.kept within claim;
    }
