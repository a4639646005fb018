use Rattle.std.proofs.lemmas.Result.{err_from_is_err_and}
use Rattle.gx_model.specs.Revisions as words
use Rattle.gx_model.specs.Records.HistoryOf.{history_of}
use Rattle.gx_model.specs.Revisions.Denotation.{commit_denoted}
use Rattle.gx_model.specs.Revisions.Ranges as model
use Rattle.std.proofs.Common.{Ok}
use Rattle.gx_ranges.proofs.Spans.{fails_first, look_refuses, span_alone}
use Rattle.gx_ranges.proofs.words.add_alone.Goals as goal

pub returns-in_err-commit : goal.returns-in_err-commit
returns-in_err-commit g c =
    let o = c.args.objects.now in
    let name = g.O.Objects.name_of o in
    let stands = g.O.Objects.stands o in
    let told = g.O.Objects.told o in
    let p = err_from_is_err_and c.from_residual.result c.from_residual.ensures.1 in
    rw (p.1, p.2) (fails_first told (λ r. commit_denoted name (history_of r) c.args.revision.now) (λ r made. Ok (model.alone made)) _ c.in_err-commit.ensures.commit)

pub returns-in_err-place : goal.returns-in_err-place
returns-in_err-place g c =
    let o = c.args.objects.now in
    let name = g.O.Objects.name_of o in
    let stands = g.O.Objects.stands o in
    let told = g.O.Objects.told o in
    let p = err_from_is_err_and c.from_residual-in_err-place.result c.from_residual-in_err-place.ensures.1 in
    rw (p.1, p.2) (look_refuses told (λ r. model.word_denoted name (history_of r) (words.Alone c.args.revision.now)) _ c.in_err-place.ensures.fault)

pub returns-in_err-add : goal.returns-in_err-add
returns-in_err-add g c =
    let o = c.args.objects.now in
    let name = g.O.Objects.name_of o in
    let stands = g.O.Objects.stands o in
    let told = g.O.Objects.told o in
    let p = err_from_is_err_and c.from_residual-in_err-add.result c.from_residual-in_err-add.ensures.1 in
    rw (p.1, p.2) (look_refuses told (λ r. model.word_denoted name (history_of r) (words.Alone c.args.revision.now)) _ c.in_err-add.ensures.fault)

pub returns-in_err-add_parents : goal.returns-in_err-add_parents
returns-in_err-add_parents g c =
    let o = c.args.objects.now in
    let name = g.O.Objects.name_of o in
    let stands = g.O.Objects.stands o in
    let told = g.O.Objects.told o in
    let p = err_from_is_err_and c.from_residual-in_err-add_parents.result c.from_residual-in_err-add_parents.ensures.1 in
    rw (p.1, p.2) (look_refuses told (λ r. model.word_denoted name (history_of r) (words.Alone c.args.revision.now)) _ c.in_err-add_parents.ensures.fault)

pub returns : goal.returns
returns g c =
    let o = c.args.objects.now in
    let name = g.O.Objects.name_of o in
    let stands = g.O.Objects.stands o in
    let told = g.O.Objects.told o in
    span_alone name stands told c.args.revision.now c.in_ok-commit.commit c.args.wanted.now.entries c.args.unwanted.now.entries c.add.new.front.entries c.add_parents.new.front.entries c.in_ok-commit.ensures.commit c.in_ok-add.ensures.adds c.in_ok-add_parents.ensures.adds
