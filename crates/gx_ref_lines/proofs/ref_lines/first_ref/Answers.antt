use Rattle.std.proofs.Common.{◌≡◌, ap, sym, ◌∙◌, ◌++◌, Some, None}
use Rattle.std.specs.Option.{option_and_then, option_map}
use Rattle.gx_model.specs.Objects.Naming.{lower_name_in}
use Rattle.gx_model.specs.Texts.{cut_at}
use Rattle.gx_ref_lines.proofs.LinesRead.{front_spelled, none_cut_off, of_line, of_parts, ref_cut}
use Rattle.gx_ref_lines.proofs.ref_lines.first_ref.Goals as goal

pub returns-in_err-line-clause-first : goal.returns-in_err-line-clause-first
returns-in_err-line-clause-first c ref rest e r n =
    let none : None ≡ cut_at 10 c.args.text.now = c.in_err-line.ensures in
    absurd (none_cut_off c.args.text.now (ap (option_and_then of_line) none) ref rest e r n)

pub returns-in_err-digits-clause-first : goal.returns-in_err-digits-clause-first
returns-in_err-digits-clause-first c ref rest e r n =
    let line : Some (c.in_ok-line.line.now, c.in_ok-line.rest.now) ≡ cut_at 10 c.args.text.now = c.in_ok-line.ensures in
    let none : None ≡ cut_at 32 c.in_ok-line.line.now = c.in_err-digits.ensures in
    absurd (none_cut_off c.args.text.now (ap (option_and_then (of_parts c.in_ok-line.rest.now)) none ∙ ap (option_and_then of_line) line) ref rest e r n)

pub returns-in_err-object-clause-first : goal.returns-in_err-object-clause-first
returns-in_err-object-clause-first c ref rest e r n =
    let line : Some (c.in_ok-line.line.now, c.in_ok-line.rest.now) ≡ cut_at 10 c.args.text.now = c.in_ok-line.ensures in
    let digits : Some (c.in_ok-digits.digits.now, c.in_ok-digits.name.now) ≡ cut_at 32 c.in_ok-line.line.now = c.in_ok-digits.ensures in
    let none : None ≡ lower_name_in c.in_ok-digits.digits.now = c.in_err-object.ensures in
    absurd (none_cut_off c.args.text.now
    (ap (option_map (λ called. ((c.in_ok-digits.name.now, called), c.in_ok-line.rest.now))) none ∙ ap (option_and_then (of_parts c.in_ok-line.rest.now)) digits ∙ ap (option_and_then of_line) line) ref rest e r n)

pub returns-clause-spelled : goal.returns-clause-spelled
returns-clause-spelled c =
    let line : Some (c.in_ok-line.line.now, c.in_ok-line.rest.now) ≡ cut_at 10 c.args.text.now = c.in_ok-line.ensures in
    let digits : Some (c.in_ok-digits.digits.now, c.in_ok-digits.name.now) ≡ cut_at 32 c.in_ok-line.line.now = c.in_ok-digits.ensures in
    let object : Some c.in_ok-object.object.bytes ≡ lower_name_in c.in_ok-digits.digits.now = c.in_ok-object.ensures in
    front_spelled c.args.text.now ((c.in_ok-digits.name.now, c.in_ok-object.object.bytes), c.in_ok-line.rest.now)
    (sym (ap (option_map (λ called. ((c.in_ok-digits.name.now, called), c.in_ok-line.rest.now))) object ∙ ap (option_and_then (of_parts c.in_ok-line.rest.now)) digits ∙ ap (option_and_then of_line) line))

pub returns-clause-first : goal.returns-clause-first
returns-clause-first c ref rest e r n =
    let line : Some (c.in_ok-line.line.now, c.in_ok-line.rest.now) ≡ cut_at 10 c.args.text.now = c.in_ok-line.ensures in
    let digits : Some (c.in_ok-digits.digits.now, c.in_ok-digits.name.now) ≡ cut_at 32 c.in_ok-line.line.now = c.in_ok-digits.ensures in
    let object : Some c.in_ok-object.object.bytes ≡ lower_name_in c.in_ok-digits.digits.now = c.in_ok-object.ensures in
    ap (option_map (λ called. ((c.in_ok-digits.name.now, called), c.in_ok-line.rest.now))) object ∙ ap (option_and_then (of_parts c.in_ok-line.rest.now)) digits ∙ ap (option_and_then of_line) line
    ∙ ap (λ t. option_and_then of_line (cut_at 10 t)) e ∙ ref_cut ref rest r n
