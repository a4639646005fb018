use Rattle.std.proofs.lemmas.Result.{err_from_is_err_and}
use Rattle.gx_model.specs.Revisions as words
use Rattle.gx_model.specs.Records.HistoryOf.{history_of}
use Rattle.gx_model.specs.Revisions.Denotation.{commit_denoted, nth_parent}
use Rattle.gx_model.specs.Revisions.Ranges as model
use Rattle.std.proofs.Common.{Ok}
use Rattle.gx_model.specs.Faults.{◌>>=◌}
use Rattle.gx_ranges.proofs.Spans.{fails_first, look_refuses, parent_refused, span_without_one}
use Rattle.gx_ranges.proofs.words.add_without_one.Goals as goal

pub returns-in_err-commit : goal.returns-in_err-commit
returns-in_err-commit g c =
    let o = c.args.objects.now in
    let name = g.O.Objects.name_of o in
    let stands = g.O.Objects.stands o in
    let told = g.O.Objects.told o in
    let p = err_from_is_err_and c.from_residual.result c.from_residual.ensures.1 in
    rw (p.1, p.2) (fails_first told (λ r. commit_denoted name (history_of r) c.args.revision.now) (λ r made. nth_parent c.args.number made >>= λ q. Ok (model.without_one made q)) _ c.in_err-commit.ensures.commit)

pub returns-in_err-parent : goal.returns-in_err-parent
returns-in_err-parent g c =
    let o = c.args.objects.now in
    let name = g.O.Objects.name_of o in
    let stands = g.O.Objects.stands o in
    let told = g.O.Objects.told o in
    let p = err_from_is_err_and c.from_residual-in_err-parent.result c.from_residual-in_err-parent.ensures.1 in
    rw (p.1, p.2) (parent_refused name told c.args.revision.now c.args.number c.in_ok-commit.commit _ c.in_ok-commit.ensures.commit c.in_err-parent.ensures.parent)

pub returns-in_err-add : goal.returns-in_err-add
returns-in_err-add g c =
    let o = c.args.objects.now in
    let name = g.O.Objects.name_of o in
    let stands = g.O.Objects.stands o in
    let told = g.O.Objects.told o in
    let p = err_from_is_err_and c.from_residual-in_err-add.result c.from_residual-in_err-add.ensures.1 in
    rw (p.1, p.2) (look_refuses told (λ r. model.word_denoted name (history_of r) (words.WithoutOne c.args.revision.now c.args.number)) _ c.in_err-add.ensures.fault)

pub returns-in_err-add-2 : goal.returns-in_err-add-2
returns-in_err-add-2 g c =
    let o = c.args.objects.now in
    let name = g.O.Objects.name_of o in
    let stands = g.O.Objects.stands o in
    let told = g.O.Objects.told o in
    let p = err_from_is_err_and c.from_residual-in_err-add-2.result c.from_residual-in_err-add-2.ensures.1 in
    rw (p.1, p.2) (look_refuses told (λ r. model.word_denoted name (history_of r) (words.WithoutOne c.args.revision.now c.args.number)) _ c.in_err-add-2.ensures.fault)

pub returns : goal.returns
returns g c =
    let o = c.args.objects.now in
    let name = g.O.Objects.name_of o in
    let stands = g.O.Objects.stands o in
    let told = g.O.Objects.told o in
    span_without_one name stands told c.args.revision.now c.args.number c.in_ok-commit.commit c.in_ok-parent.parent c.args.wanted.now.entries c.args.unwanted.now.entries c.add.new.front.entries c.add-2.new.front.entries c.in_ok-commit.ensures.commit c.in_ok-parent.ensures.parent c.in_ok-add.ensures.adds c.in_ok-add-2.ensures.adds
