use Rattle.std.proofs.Common.{◌≡◌, ◌∙◌, None, Some, arith}
use Rattle.gx_kept.proofs.SetMarks.{listed_there}
use Rattle.gx_kept.proofs.links.mark_below.Goals as goal

pub returns-in_default-clause-refused : goal.returns-in_default-clause-refused
returns-in_default-clause-refused g c = λ below. let clash : None ≡ Some below.0 = c.in_default.ensures ∙ below.1 in cc clash

pub returns-then-limit-number-clause-refused : goal.returns-then-limit-number-clause-refused
returns-then-limit-number-clause-refused g c = λ below.
    let same : c.in-Some.number ≡ below.0 = (let e : Some c.in-Some.number ≡ Some below.0 = c.in-Some.ensures ∙ below.1 in cc e) in
    let less = below.2 in
    omega (arith, c.if-limit-number.true, same, less)

pub returns-clause-marks : goal.returns-clause-marks
returns-clause-marks g c = listed_there c.args.listing.now c.args.name.now.bytes c.in-Some.number c.args.marks.now c.in-Some.ensures
