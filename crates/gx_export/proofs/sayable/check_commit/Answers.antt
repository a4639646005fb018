use Rattle.std.proofs.Common.{◌≡◌, ◌∙◌, ap, sym, true, false}
use Rattle.gx_model.specs.Histories.Values.{commit_value, text_of}
use Rattle.gx_model.specs.Laws.RepositoryLaws.{values_of}
use Rattle.gx_model.specs.Texts.Headers.{is_encoding_alone}
use Rattle.gx_model.proofs.Records.Standing.{at_within, commit_name_there}
use Rattle.gx_model.proofs.Texts.AloneHeaders.{alone_decides}
use Rattle.gx_export.proofs.CommitTexts.{same_commit, shown_as}
use Rattle.gx_export.proofs.SayableCommits.{not_alone}
use Rattle.gx_export.proofs.sayable.check_commit.Goals as goal

pub name_at-commit-requires : goal.name_at-commit-requires
name_at-commit-requires g c = at_within (values_of c.args.repo.now.1) c.args.place (commit_value c.requires.0) c.requires.1

pub view_of-view-requires : goal.view_of-view-requires
view_of-view-requires g c =
    commit_name_there (g.N.Namer.name_of c.args.repo.now.0) (g.met.N.Namer.is_namer c.args.repo.now.0) c.args.repo.now.1 c.sound.ensures c.name_at-commit.result.bytes c.args.place c.requires.0
    c.name_at-commit.ensures.held c.name_at-commit.ensures.value c.requires.1

pub returns-else-has_encoding_alone : goal.returns-else-has_encoding_alone
returns-else-has_encoding_alone g c = λ made e each.
    let name = g.N.Namer.name_of c.args.repo.now.0 in
    let namer = g.met.N.Namer.is_namer c.args.repo.now.0 in
    let r = c.args.repo.now.1 in
    let same = same_commit name namer r c.sound.ensures c.args.place made c.name_at-commit.result.bytes e c.name_at-commit.ensures.value in
    let held = commit_name_there name namer r c.sound.ensures c.name_at-commit.result.bytes c.args.place c.requires.0 c.name_at-commit.ensures.held c.name_at-commit.ensures.value c.requires.1 in
    let text = (shown_as name namer r c.sound.ensures c.name_at-commit.result.bytes c.view_of-view.result held c.view_of-view.ensures).text ∙ ap text_of same in
    not_alone (text_of made).headers (ap (λ t. is_encoding_alone t.headers) (sym text) ∙ sym c.has_encoding_alone.ensures ∙ c.if-has_encoding_alone.false) each.0

pub returns-then-has_encoding_alone : goal.returns-then-has_encoding_alone
returns-then-has_encoding_alone g c = λ made e.
    let name = g.N.Namer.name_of c.args.repo.now.0 in
    let namer = g.met.N.Namer.is_namer c.args.repo.now.0 in
    let r = c.args.repo.now.1 in
    let same = same_commit name namer r c.sound.ensures c.args.place made c.name_at-commit.result.bytes e c.name_at-commit.ensures.value in
    let held = commit_name_there name namer r c.sound.ensures c.name_at-commit.result.bytes c.args.place c.requires.0 c.name_at-commit.ensures.held c.name_at-commit.ensures.value c.requires.1 in
    let text = (shown_as name namer r c.sound.ensures c.name_at-commit.result.bytes c.view_of-view.result held c.view_of-view.ensures).text ∙ ap text_of same in
    ((alone_decides (text_of made).headers).0 (ap (λ t. is_encoding_alone t.headers) (sym text) ∙ sym c.has_encoding_alone.ensures ∙ c.if-has_encoding_alone.true), tt)
