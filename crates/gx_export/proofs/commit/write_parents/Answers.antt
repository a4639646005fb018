use Rattle.std.proofs.Common.{◌<◌, ◌≤◌, length, arith, ◌∙◌, ap, sym, subst, [], ◌∷◌, map, take, Ok, Err}
use Rattle.std.proofs.lemmas.List.{length-map, take_all}
use Rattle.std.proofs.lemmas.Result.{err_from_is_err_and}
use Rattle.gx_model.specs.declared.objects.Kind.TheVariants as kind
use Rattle.gx_model.specs.Export.{items_text, number_in}
use Rattle.gx_model.specs.Streams.Commands.{Marked}
use Rattle.gx_model.specs.Records.HistoryOf.{commit_of_value, value_of_name}
use Rattle.gx_model.specs.Records.Sound.{Holds}
use Rattle.gx_model.specs.Texts.{Bytes}
use Rattle.gx_rev.specs.Objects.{commit_at}
use Rattle.gx_model.proofs.Records.HeldValues.{commit_stands, holds_held, kind_held}
use Rattle.gx_export.specs.Outputs.{Writes}
use Rattle.gx_export.specs.Texts.{parent_items}
use Rattle.gx_export.proofs.CommitLines.{by_marks, image_at, line_is, none_at, parent_line, parents_next, parents_parts, passes_at}
use Rattle.gx_export.proofs.Numbering.{adds_bytes, adds_later, adds_nothing}
use Rattle.gx_export.proofs.Writing.{items_sooner}
use Rattle.gx_export.specs.Marks.{Adds}
use Rattle.gx_export.proofs.commit.write_parents.Goals as goal
use Rattle.gx_export.proofs.commit.write_parents.Goals.{in-Some+in_ok-write_parent, in_default}

pub loop-number-init : goal.loop-number-init
loop-number-init g c = λ ws h. adds_nothing c.args.repo.now.1 ws c.args.written.now h

pub mark_of-mark-requires-clause-held : goal.mark_of-mark-requires-clause-held
mark_of-mark-requires-clause-held g c =
    let name = g.N.Namer.name_of c.args.repo.now.0 in
    let namer = g.met.N.Namer.is_namer c.args.repo.now.0 in
    let r = c.args.repo.now.1 in
    let n = c.in-Some.parent.bytes in
    (kind_held name namer r c.sound.ensures kind.Commit n (holds_held name namer r c.sound.ensures kind.Commit n (passes_at (Holds r.records kind.Commit) c.args.commit.now.parents c.loop-number.number n c.requires.parents c.in-Some.ensures))).0

pub mark_of-mark-requires-clause-long : goal.mark_of-mark-requires-clause-long
mark_of-mark-requires-clause-long g c = let w = c.requires.written in (c.loop-number.invariant w.0 w.1).0.marks.long

pub returns-in_err-write_parent-clause-adds : goal.returns-in_err-write_parent-clause-adds
returns-in_err-write_parent-clause-adds g c = λ ws h.
    let name = g.N.Namer.name_of c.args.repo.now.0 in
    let namer = g.met.N.Namer.is_namer c.args.repo.now.0 in
    let r = c.args.repo.now.1 in
    let n = c.in-Some.parent.bytes in
    let p = err_from_is_err_and c.from_residual.result c.from_residual.ensures.1 in
    let parents = map (λ m. commit_of_value (value_of_name r.records m)) c.args.commit.now.parents in
    let held = holds_held name namer r c.sound.ensures kind.Commit n (passes_at (Holds r.records kind.Commit) c.args.commit.now.parents c.loop-number.number n c.requires.parents c.in-Some.ensures) in
    let i = c.loop-number.invariant ws h in
    let mark = c.mark_of-mark.ensures ws i.0.marks ∙ ap (number_in ws) (commit_stands name namer r c.sound.ensures n held).0 in
    let line = line_is (by_marks ws) c.loop-number.number (commit_at r c.in-Some.parent) c.parent_word.result.now (Marked c.mark_of-mark.result) c.parent_word.ensures.first c.parent_word.ensures.other (ap Marked mark) in
    let parts = parents_parts (by_marks ws) parents c.loop-number.number (commit_at r c.in-Some.parent) (image_at (λ m. commit_of_value (value_of_name r.records m)) c.args.commit.now.parents c.loop-number.number n c.in-Some.ensures) in
    let stop = subst (λ l. Writes c.loop-number.written.output c.write_parent.new.output (items_text (l ∷ [])) (Err c.in_err-write_parent.field-0.0)) line c.in_err-write_parent.ensures.text in
    let later = adds_later r ws ws (parent_items ws (take c.loop-number.number parents)) (parent_line (by_marks ws) c.loop-number.number (commit_at r c.in-Some.parent) ∷ parts.0) c.args.written.now c.loop-number.written (record c.loop-number.written { output = c.write_parent.new.output }) (Err c.in_err-write_parent.field-0.0) i
    (items_sooner c.loop-number.written.output c.write_parent.new.output (parent_line (by_marks ws) c.loop-number.number (commit_at r c.in-Some.parent) ∷ []) parts.0 c.in_err-write_parent.field-0.0 stop) in
    rw (p.1, p.2) (subst (λ is. Writes c.args.written.now.output c.write_parent.new.output (items_text is) (Err c.in_err-write_parent.field-0.0)) (sym parts.1) later)

pub loop-number-preserved : goal.loop-number-preserved
loop-number-preserved g c =
    let name = g.N.Namer.name_of c.args.repo.now.0 in
    let namer = g.met.N.Namer.is_namer c.args.repo.now.0 in
    let r = c.args.repo.now.1 in
    let parents = map (λ m. commit_of_value (value_of_name r.records m)) c.args.commit.now.parents in
    elim c.match-parent.branch [
      | in-Some+in_ok-write_parent w ↦ λ ws h.
          let n = w.in-Some.parent.bytes in
          let held = holds_held name namer r c.sound.ensures kind.Commit n (passes_at (Holds r.records kind.Commit) c.args.commit.now.parents c.loop-number.number n c.requires.parents w.in-Some.ensures) in
          let i = c.loop-number.invariant ws h in
          let mark = w.mark_of-mark.ensures ws i.0.marks ∙ ap (number_in ws) (commit_stands name namer r c.sound.ensures n held).0 in
          let made = commit_at r w.in-Some.parent in
          let line = line_is (by_marks ws) c.loop-number.number made w.parent_word.result.now (Marked w.mark_of-mark.result) w.parent_word.ensures.first w.parent_word.ensures.other (ap Marked mark) in
          let now = record c.loop-number.written { output = w.write_parent.new.output } in
          let done = subst (λ l. Writes c.loop-number.written.output w.write_parent.new.output (items_text (l ∷ [])) (Ok tt)) line w.in_ok-write_parent.ensures.text in
          let next = parents_next (by_marks ws) parents c.loop-number.number made (image_at (λ m. commit_of_value (value_of_name r.records m)) c.args.commit.now.parents c.loop-number.number n w.in-Some.ensures) in
          rw w.written-is (subst (λ is. Adds r ws is c.args.written.now now (Ok tt)) (sym next)
          (adds_later r ws ws (parent_items ws (take c.loop-number.number parents)) (parent_line (by_marks ws) c.loop-number.number made ∷ []) c.args.written.now c.loop-number.written now (Ok tt) i
          (adds_bytes r ws (parent_line (by_marks ws) c.loop-number.number made ∷ []) c.loop-number.written w.write_parent.new.output (Ok tt) i.0 done)))
      | in_default w ↦
          let within : c.loop-number.number < length c.args.commit.now.parents = omega (arith, c.loop-number-test.true, c.parent_count-number-end.ensures) in
          absurd (none_at c.args.commit.now.parents c.loop-number.number within w.in_default.ensures)
    ]

pub returns-clause-adds : goal.returns-clause-adds
returns-clause-adds g c = λ ws h.
    let r = c.args.repo.now.1 in
    let called = λ (m : Bytes). commit_of_value (value_of_name r.records m) in
    let names = c.args.commit.now.parents in
    let all : length (map called names) ≤ c.loop-number.number = omega (arith, c.loop-number-test.false, c.parent_count-number-end.ensures, length-map names called) in
    subst (λ parents. Adds r ws (parent_items ws parents) c.args.written.now c.loop-number.written (Ok tt)) (take_all c.loop-number.number (map called names) all) (c.loop-number.invariant ws h)
