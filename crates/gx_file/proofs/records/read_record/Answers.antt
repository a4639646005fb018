use Rattle.std.proofs.Common.{ap, sym}
use Rattle.std.proofs.lemmas.Result.{err_from_is_err_and}
use Rattle.std.specs.Option.{ok_or}
use Rattle.gx_model.specs.declared.store_faults.FileFault.TheVariants.{BadRecord}
use Rattle.gx_file.specs.Texts.{shown_heading}
use Rattle.gx_file.proofs.LeftTexts.{left_after, left_body, left_line}
use Rattle.gx_file.proofs.records.read_record.Goals as goal

pub add-requires : goal.add-requires
add-requires g c =
    let k = c.args.whole.now in
    let rest = c.in_ok-line.rest.now in
    record { left = left_body k c.in-Some.length rest c.in_ok-body.body.now c.in_ok-body.rest.now (left_line k c.args.text.now c.in_ok-line.line.now rest c.requires.left c.in_ok-line.ensures.line) c.in_ok-body.ensures.body }

pub returns-clause-left : goal.returns-clause-left
returns-clause-left g c =
    let k = c.args.whole.now in
    let rest = c.in_ok-line.rest.now in
    left_after k c.in_ok-body.body.now c.in_ok-body.rest.now
    (left_body k c.in-Some.length rest c.in_ok-body.body.now c.in_ok-body.rest.now (left_line k c.args.text.now c.in_ok-line.line.now rest c.requires.left c.in_ok-line.ensures.line) c.in_ok-body.ensures.body)

pub returns-in_err-add-clause-memory : goal.returns-in_err-add-clause-memory
returns-in_err-add-clause-memory g c =
    let p = err_from_is_err_and c.from_residual-in_err-add.result c.from_residual-in_err-add.ensures.1 in
    rw (p.1, p.2) (λ w. (
      (c.in_ok-line.line.now, c.in_ok-line.rest.now),
      c.in_ok-line.ensures.line,
      (
        shown_heading (c.in-Some.kind, (c.in-Some.length, c.in-Some.stated)),
        ap (λ o. ok_or o BadRecord) (sym c.in-Some.ensures),
        ((c.in_ok-body.body.now, c.in_ok-body.rest.now), c.in_ok-body.ensures.body, c.in_err-add.ensures.memory w),
      ),
    ))
