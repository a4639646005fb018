use Rattle.std.proofs.Common.{◌≡◌, ◌-◌, length, take, sym, ap, ◌∙◌, arith, refl}
use Rattle.std.proofs.lemmas.List.{length-append, take_at}
use Rattle.gx_object.specs.Commits.{parent_lines, parents_of}
use Rattle.gx_object.proofs.Parents.{after_shorter, parents_step, parents_end, parents_spelled}
use Rattle.gx_object.proofs.commit.split_parents.Goals as goal

pub loop-name-smaller : goal.loop-name-smaller
loop-name-smaller c = after_shorter c.loop-name.rest.now (c.in-Some._name.bytes, c.in-Some.after.now) (sym c.in-Some.ensures)

pub loop-name-preserved : goal.loop-name-preserved
loop-name-preserved c =
    let e = sym c.in-Some.ensures in
    let s = after_shorter c.loop-name.rest.now (c.in-Some._name.bytes, c.in-Some.after.now) e in
    (sym (ap (λ p. p.1) (parents_step c.loop-name.rest.now (c.in-Some._name.bytes, c.in-Some.after.now) e)) ∙ c.loop-name.invariant.0, omega arith)

pub returns-clause-rest : goal.returns-clause-rest
returns-clause-rest c = sym (ap (λ p. p.1) (parents_end c.loop-name.rest.now (sym c.in_default.ensures))) ∙ c.loop-name.invariant.0

pub returns-clause-names : goal.returns-clause-names
returns-clause-names c = (parents_spelled c.args.bytes.now).names

pub returns-clause-lines : goal.returns-clause-lines
returns-clause-lines c =
    let parts = (parents_spelled c.args.bytes.now).parts in
    let names = (parents_of c.args.bytes.now).0 in
    let rest : c.loop-name.rest.now ≡ (parents_of c.args.bytes.now).1 = sym (ap (λ p. p.1) (parents_end c.loop-name.rest.now (sym c.in_default.ensures))) ∙ c.loop-name.invariant.0 in
    let whole = ap length parts ∙ length-append (parent_lines names) (parents_of c.args.bytes.now).1 in
    let end = ap length rest in
    let front : length c.args.bytes.now - length c.loop-name.rest.now ≡ length (parent_lines names) = omega arith in
    (λ i. take (front i) (parts i)) ∙ take_at (parent_lines names) (parents_of c.args.bytes.now).1 (length (parent_lines names)) refl
