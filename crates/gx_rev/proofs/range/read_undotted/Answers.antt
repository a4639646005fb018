use Rattle.std.proofs.Common.{sym, subst}
use Rattle.gx_rev.specs.Ranges.{ReadsRange}
use Rattle.gx_rev.proofs.WordShapes.{begins, ends_alone, ends_in_parents, ends_otherwise}
use Rattle.gx_rev.proofs.range.read_undotted.Goals as goal

pub returns-in-Some : goal.returns-in-Some
returns-in-Some g c =
    subst (ReadsRange c.read_alone.result) (sym (begins c.args.text.now c.in-Some.text.now c.in-Some.ensures.cases.0 c.in-Some.ensures.cases.1)) c.read_alone.ensures

pub returns-in-Some-strip_suffix : goal.returns-in-Some-strip_suffix
returns-in-Some-strip_suffix g c =
    let there = c.in-Some-strip_suffix.ensures.cases in
    subst (ReadsRange c.read_alone-in-Some-strip_suffix.result) (sym (ends_in_parents c.args.text.now c.in-Some-strip_suffix.text.now c.in_default.ensures.cases there.0 there.1)) c.read_alone-in-Some-strip_suffix.ensures

pub returns-in-Some-strip_suffix-2 : goal.returns-in-Some-strip_suffix-2
returns-in-Some-strip_suffix-2 g c =
    let there = c.in-Some-strip_suffix-2.ensures.cases in
    subst (ReadsRange c.read_alone-in-Some-strip_suffix-2.result)
    (sym (ends_alone c.args.text.now c.in-Some-strip_suffix-2.text.now c.in_default.ensures.cases c.in_default-strip_suffix.ensures.cases there.0 there.1)) c.read_alone-in-Some-strip_suffix-2.ensures

pub returns : goal.returns
returns g c =
    subst (ReadsRange c.read_last.result)
    (sym (ends_otherwise c.args.text.now c.in_default.ensures.cases c.in_default-strip_suffix.ensures.cases c.in_default-strip_suffix-2.ensures.cases)) c.read_last.ensures
