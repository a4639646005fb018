use Rattle.std.proofs.Common.{◌≡◌, ◌≢◌, ◌++◌, ◌∙◌, true, false, ap}
use denote.Enum.Bare.{sameb}
use Rattle.gx_model.specs.contracts.objects.Mode.{the_type}
use Rattle.gx_model.specs.declared.objects.Mode.TheVariants.{Gitlink}
use Rattle.gx_model.specs.Export.{items_text}
use Rattle.gx_sending.proofs.SentLines.{marked_line, not_unmarked}
use Rattle.gx_sending.proofs.lines.put_file.Goals as goal

pub returns-in_default : goal.returns-in_default
returns-in_default g c = λ name r ws h s.
    let link : c.args.file.now.mode ≢ Gitlink = λ q. (let f : false ≡ true = c.if-eq.ensures ∙ ap (λ m. sameb the_type m Gitlink) q in cc f) in
    absurd (not_unmarked r ws name c.args.written.now h c.args.file.now link s c.in_default.ensures)

pub returns : goal.returns
returns g c = λ name r ws h s.
    let link : c.args.file.now.mode ≢ Gitlink = λ q. (let f : false ≡ true = c.if-eq.ensures ∙ ap (λ m. sameb the_type m Gitlink) q in cc f) in
    let line = marked_line r ws name c.args.written.now h c.args.file.now link s c.in-Some.mark c.in-Some.ensures in
    c.in_ok-put_marked.ensures ∙ ap (λ is. c.args.line.now.items ++ items_text is) line
