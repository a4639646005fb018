use Rattle.std.proofs.lemmas.Result.{err_from_is_err_and}
use Rattle.gx_model.specs.Revisions as words
use Rattle.gx_model.specs.Records.HistoryOf.{history_of}
use Rattle.gx_model.specs.Revisions.Denotation.{commit_denoted}
use Rattle.gx_model.specs.Revisions.Ranges as model
use Rattle.std.proofs.Common.{Ok}
use Rattle.gx_model.specs.Faults.{◌>>=◌}
use Rattle.gx_ranges.proofs.Spans.{fails_first, look_refuses, second_refused, span_between}
use Rattle.gx_ranges.proofs.words.add_between.Goals as goal

pub returns-in_err-left : goal.returns-in_err-left
returns-in_err-left g c =
    let o = c.args.objects.now in
    let name = g.O.Objects.name_of o in
    let stands = g.O.Objects.stands o in
    let told = g.O.Objects.told o in
    let p = err_from_is_err_and c.from_residual.result c.from_residual.ensures.1 in
    rw (p.1, p.2) (fails_first told (λ r. commit_denoted name (history_of r) c.args.left.now) (λ r made. commit_denoted name (history_of r) c.args.right.now >>= λ d. Ok (model.between made d)) _ c.in_err-left.ensures.commit)

pub returns-in_err-right : goal.returns-in_err-right
returns-in_err-right g c =
    let o = c.args.objects.now in
    let name = g.O.Objects.name_of o in
    let stands = g.O.Objects.stands o in
    let told = g.O.Objects.told o in
    let p = err_from_is_err_and c.from_residual-in_err-right.result c.from_residual-in_err-right.ensures.1 in
    rw (p.1, p.2) (second_refused name model.between told c.args.left.now c.args.right.now c.in_ok-left.left _ c.in_ok-left.ensures.commit c.in_err-right.ensures.commit)

pub returns-in_err-add : goal.returns-in_err-add
returns-in_err-add g c =
    let o = c.args.objects.now in
    let name = g.O.Objects.name_of o in
    let stands = g.O.Objects.stands o in
    let told = g.O.Objects.told o in
    let p = err_from_is_err_and c.from_residual-in_err-add.result c.from_residual-in_err-add.ensures.1 in
    rw (p.1, p.2) (look_refuses told (λ r. model.word_denoted name (history_of r) (words.Between c.args.left.now c.args.right.now)) _ c.in_err-add.ensures.fault)

pub returns-in_err-add-2 : goal.returns-in_err-add-2
returns-in_err-add-2 g c =
    let o = c.args.objects.now in
    let name = g.O.Objects.name_of o in
    let stands = g.O.Objects.stands o in
    let told = g.O.Objects.told o in
    let p = err_from_is_err_and c.from_residual-in_err-add-2.result c.from_residual-in_err-add-2.ensures.1 in
    rw (p.1, p.2) (look_refuses told (λ r. model.word_denoted name (history_of r) (words.Between c.args.left.now c.args.right.now)) _ c.in_err-add-2.ensures.fault)

pub returns : goal.returns
returns g c =
    let o = c.args.objects.now in
    let name = g.O.Objects.name_of o in
    let stands = g.O.Objects.stands o in
    let told = g.O.Objects.told o in
    span_between name stands told c.args.left.now c.args.right.now c.in_ok-left.left c.in_ok-right.right c.args.wanted.now.entries c.args.unwanted.now.entries c.add.new.front.entries c.add-2.new.front.entries c.in_ok-left.ensures.commit c.in_ok-right.ensures.commit c.in_ok-add.ensures.adds c.in_ok-add-2.ensures.adds
