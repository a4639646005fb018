use Rattle.std.proofs.Common.{◌≡◌, ◌-◌, length, take, drop, arith, rules, refl, length-drop}
use Rattle.std.proofs.lemmas.List.{take_all}
use Rattle.gx_rev.proofs.Suffixes.{base_alone, base_before}
use Rattle.gx_rev.proofs.revision.cut_base.Goals as goal

pub returns-in-Some-clause-base : goal.returns-in-Some-clause-base
returns-in-Some-clause-base c = let found = c.in-Some.ensures in (base_before c.args.text.now c.in-Some.end found.0.high found.0.before found.1).0

pub returns-in-Some-clause-suffixes : goal.returns-in-Some-clause-suffixes
returns-in-Some-clause-suffixes c =
    let found = c.in-Some.ensures in
    let end = c.in-Some.end in
    let bs = c.args.text.now in
    let whole : take (length bs - end) (drop end bs) ≡ drop end bs = grind (arith, take_all, length-drop) in
    rw whole (base_before bs end found.0.high found.0.before found.1).1

pub returns-in-None-clause-base : goal.returns-in-None-clause-base
returns-in-None-clause-base c = rw (base_alone c.args.text.now c.in-None.ensures) refl

pub returns-in-None-clause-suffixes : goal.returns-in-None-clause-suffixes
returns-in-None-clause-suffixes c =
    rw (base_alone c.args.text.now c.in-None.ensures) (search rules)
