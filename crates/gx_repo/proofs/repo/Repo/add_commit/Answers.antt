use Rattle.std.proofs.Common.{◌≡◌, sym, subst}
use Rattle.std.specs.Prelude.{IfOk}
use Rattle.gx_model.specs.declared.objects.Kind.TheVariants as kinds
use Rattle.gx_model.specs.Histories.{record_for, with_one}
use Rattle.gx_model.specs.Records.HistoryOf.{commit_of_parts, named_values}
use Rattle.gx_model.specs.Objects.{IsCommitText}
use Rattle.gx_model.specs.Records.{name_of}
use Rattle.gx_model.specs.Laws.RepositoryLaws.{values_of}
use Rattle.gx_model.specs.Histories.Values.{commit_value}
use Rattle.gx_model.proofs.ObjectTexts.BodiesReadBack.{commit_read}
use Rattle.gx_object.specs.Parts.{commit_parts}
use Rattle.gx_repo.specs.Additions.{Adds, HasValues}
use Rattle.gx_repo.proofs.repo.Repo.add_commit.Goals as goal

pub add-requires-clause-linked : goal.add-requires-clause-linked
add-requires-clause-linked g c = (commit_parts c.args.parts.now, subst (IsCommitText (commit_parts c.args.parts.now)) (sym c.deref.ensures.value) c.in-Ok.ensures, c.requires.tree, c.requires.parents)

pub returns-clause-adds : goal.returns-clause-adds
returns-clause-adds g c =
    let text = subst (IsCommitText (commit_parts c.args.parts.now)) (sym c.deref.ensures.value) c.in-Ok.ensures in
    subst (λ body. Adds c.args.self.now.1.records c.add.new.self.1.records (record_for (g.N.Namer.name_of c.args.self.now.0) kinds.Commit body) c.add.result) text.0 c.add.ensures.adds

pub returns-clause-history : goal.returns-clause-history
returns-clause-history g c =
    let rs = c.args.self.now.1.records in
    let text = subst (IsCommitText (commit_parts c.args.parts.now)) (sym c.deref.ensures.value) c.in-Ok.ensures in
    subst (λ p. IfOk c.add.result (λ _. HasValues c.args.self.now.1 c.add.new.self.1 (with_one (values_of c.args.self.now.1) (commit_value (commit_of_parts (named_values rs) p)))))
    (commit_read (commit_parts c.args.parts.now) c.deref.result.now text) c.add.ensures.history

pub returns-clause-value : goal.returns-clause-value
returns-clause-value g c =
    let rs = c.args.self.now.1.records in
    let text = subst (IsCommitText (commit_parts c.args.parts.now)) (sym c.deref.ensures.value) c.in-Ok.ensures in
    subst (λ p. IfOk c.add.result (λ name. name.bytes ≡ name_of (g.N.Namer.name_of c.args.self.now.0) (commit_value (commit_of_parts (named_values rs) p))))
    (commit_read (commit_parts c.args.parts.now) c.deref.result.now text) c.add.ensures.value

pub returns-clause-namer : goal.returns-clause-namer
returns-clause-namer g c = c.add.ensures.namer

pub returns-clause-refs : goal.returns-clause-refs
returns-clause-refs g c = c.add.ensures.refs

pub returns-clause-held : goal.returns-clause-held
returns-clause-held g c = c.add.ensures.held

pub returns-clause-keeps : goal.returns-clause-keeps
returns-clause-keeps g c = c.add.ensures.keeps
