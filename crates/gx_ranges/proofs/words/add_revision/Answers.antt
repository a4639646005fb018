use Rattle.std.proofs.lemmas.Result.{err_from_is_err_and}
use Rattle.gx_model.specs.Revisions as words
use Rattle.gx_model.specs.Records.HistoryOf.{history_of}
use Rattle.gx_model.specs.Revisions.Denotation.{commit_denoted}
use Rattle.gx_model.specs.Revisions.Ranges as model
use Rattle.std.proofs.Common.{Ok}
use Rattle.gx_ranges.proofs.Spans.{fails_first, look_refuses, span_with, span_without}
use Rattle.gx_ranges.proofs.words.add_revision.Goals as goal

pub returns-in_err-commit-clause-included : goal.returns-in_err-commit-clause-included
returns-in_err-commit-clause-included g c = λ rest tips.
    let o = c.args.objects.now in
    let name = g.O.Objects.name_of o in
    let stands = g.O.Objects.stands o in
    let told = g.O.Objects.told o in
    let p = err_from_is_err_and c.from_residual.result c.from_residual.ensures.1 in
    rw (p.1, p.2) (fails_first told (λ r. commit_denoted name (history_of r) c.args.revision.now) (λ r made. Ok (model.with_ancestors made)) _ c.in_err-commit.ensures.commit)

pub returns-in_err-add-clause-included : goal.returns-in_err-add-clause-included
returns-in_err-add-clause-included g c = λ rest tips.
    let o = c.args.objects.now in
    let name = g.O.Objects.name_of o in
    let stands = g.O.Objects.stands o in
    let told = g.O.Objects.told o in
    let p = err_from_is_err_and c.from_residual-in_err-add.result c.from_residual-in_err-add.ensures.1 in
    rw (p.1, p.2) (look_refuses told (λ r. model.word_denoted name (history_of r) (words.WithAncestors c.args.revision.now)) _ c.in_err-add.ensures.fault)

pub returns-in_err-commit-clause-excluded : goal.returns-in_err-commit-clause-excluded
returns-in_err-commit-clause-excluded g c = λ rest tips.
    let o = c.args.objects.now in
    let name = g.O.Objects.name_of o in
    let stands = g.O.Objects.stands o in
    let told = g.O.Objects.told o in
    let p = err_from_is_err_and c.from_residual.result c.from_residual.ensures.1 in
    rw (p.1, p.2) (fails_first told (λ r. commit_denoted name (history_of r) c.args.revision.now) (λ r made. Ok (model.without_ancestors made)) _ c.in_err-commit.ensures.commit)

pub returns-in_err-add-clause-excluded : goal.returns-in_err-add-clause-excluded
returns-in_err-add-clause-excluded g c = λ rest tips.
    let o = c.args.objects.now in
    let name = g.O.Objects.name_of o in
    let stands = g.O.Objects.stands o in
    let told = g.O.Objects.told o in
    let p = err_from_is_err_and c.from_residual-in_err-add.result c.from_residual-in_err-add.ensures.1 in
    rw (p.1, p.2) (look_refuses told (λ r. model.word_denoted name (history_of r) (words.WithoutAncestors c.args.revision.now)) _ c.in_err-add.ensures.fault)

pub returns-clause-included : goal.returns-clause-included
returns-clause-included g c = λ rest tips.
    let o = c.args.objects.now in
    let name = g.O.Objects.name_of o in
    let stands = g.O.Objects.stands o in
    let told = g.O.Objects.told o in
    span_with name stands told c.args.revision.now c.in_ok-commit.commit c.args.front.now.entries c.add.new.front.entries rest c.in_ok-commit.ensures.commit c.in_ok-add.ensures.adds tips

pub returns-clause-excluded : goal.returns-clause-excluded
returns-clause-excluded g c = λ rest tips.
    let o = c.args.objects.now in
    let name = g.O.Objects.name_of o in
    let stands = g.O.Objects.stands o in
    let told = g.O.Objects.told o in
    span_without name stands told c.args.revision.now c.in_ok-commit.commit c.args.front.now.entries c.add.new.front.entries rest c.in_ok-commit.ensures.commit c.in_ok-add.ensures.adds tips
