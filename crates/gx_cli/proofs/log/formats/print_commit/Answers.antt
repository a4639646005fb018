use Rattle.std.proofs.Common.{◌++◌, ◌∙◌, subst, sym, Err}
use Rattle.std.proofs.lemmas.Result.{err_from_is_err_and}
use Rattle.gx_model.specs.declared.objects.Kind.TheVariants as kinds
use Rattle.gx_model.specs.Objects.{commit_text}
use Rattle.gx_model.proofs.Records.HeldValues.{commit_text_held, kind_held}
use Rattle.gx_model.proofs.Texts.SentTexts.{all_left, less_left}
use Rattle.gx_rev.specs.Objects.{commit_at}
use Rattle.gx_print.specs.Logs.{entry_of, entry_of_parts}
use Rattle.gx_print.proofs.ListedCommits.{commit_called}
use Rattle.gx_cli.specs.Sending.{PrintsText}
use Rattle.gx_cli.proofs.Pieces.{sent_prints}
use Rattle.gx_cli.proofs.SentLines.{cut_short, last_sent}
use Rattle.gx_cli.proofs.log.formats.print_commit.Goals as goal

pub body_of-requires : goal.body_of-requires
body_of-requires g c =
    (kind_held (g.N.Namer.name_of c.args.repo.now.0) (g.met.N.Namer.is_namer c.args.repo.now.0) c.args.repo.now.1 c.sound.ensures kinds.Commit c.args.commit.now.bytes c.requires).0

pub put_commit-requires-clause-body : goal.put_commit-requires-clause-body
put_commit-requires-clause-body g c =
    let name = g.N.Namer.name_of c.args.repo.now.0 in
    let namer = g.met.N.Namer.is_namer c.args.repo.now.0 in
    let body = (commit_text_held name namer c.args.repo.now.1 c.sound.ensures c.args.commit.now.bytes c.body_of.result.now c.requires c.body_of.ensures).0 in
    body ∙ (λ i. commit_text (sym c.view_of-view.ensures i))

pub returns-in_err-put_text : goal.returns-in_err-put_text
returns-in_err-put_text g c =
    let p = err_from_is_err_and c.from_residual-in_err-put_text.result c.from_residual-in_err-put_text.ensures.1 in
    let was = g.W.Sink.taken c.args.sink.now in
    let mid = g.W.Sink.taken c.put_text.new.sink in
    let fault = c.in_err-put_text.field-0.0 in
    let entry = entry_of (g.N.Namer.name_of c.args.repo.now.0) c.args.options (commit_at c.args.repo.now.1 c.args.commit.now) in
    let whole = c.args.before.now ++ entry in
    rw (p.1, p.2) (cut_short was was mid whole c.args.before.now entry fault (all_left whole was) (sent_prints c.args.before.now was mid (Err fault) c.in_err-put_text.ensures))

pub returns : goal.returns
returns g c =
    let name = g.N.Namer.name_of c.args.repo.now.0 in
    let r = c.args.repo.now.1 in
    let was = g.W.Sink.taken c.args.sink.now in
    let mid = g.W.Sink.taken c.put_text.new.sink in
    let now = g.W.Sink.taken c.put_text-2.new.sink in
    let entry = entry_of name c.args.options (commit_at r c.args.commit.now) in
    let whole = c.args.before.now ++ entry in
    let called = commit_called name (g.met.N.Namer.is_namer c.args.repo.now.0) r c.sound.ensures c.args.commit.now.bytes c.requires in
    let made = c.in_ok-put_commit.ensures ∙ (λ i. entry_of_parts c.args.options (called i) (c.view_of-view.ensures i)) in
    let printed = subst (λ t. PrintsText t mid now c.put_text-2.result) (c.as_slice.ensures.value ∙ made) (sent_prints c.as_slice.result.now mid now c.put_text-2.result c.put_text-2.ensures) in
    last_sent was mid now whole entry c.put_text-2.result (less_left whole was was mid c.args.before.now entry (all_left whole was) c.in_ok-put_text.ensures) printed
