use Rattle.std.proofs.Common.{◌≡◌, Ok, refl, sym, ap, subst, ◌∙◌}
use Rattle.std.proofs.lemmas.Result.{err_from_is_err_and}
use Rattle.std.specs.List.{AllByRecursion}
use Rattle.std.specs.Prelude.{IsTrue}
use Rattle.gx_model.specs.declared.objects.Kind.TheVariants as kinds
use Rattle.gx_model.specs.Records.Sound.{Holds}
use Rattle.gx_model.specs.Records.{name_of}
use Rattle.gx_model.specs.Objects.{CommitParts}
use Rattle.gx_model.specs.Texts.Headers.{is_headers}
use Rattle.gx_model.specs.Histories.{with_one}
use Rattle.gx_model.specs.Replay.{State, text_made}
use Rattle.gx_model.specs.Laws.RepositoryLaws.{values_of}
use Rattle.gx_model.specs.Histories.Values.{commit, commit_value, commits_of}
use Rattle.gx_command.specs.Views.{commit_parts}
use Rattle.gx_object.specs.declared.name.Name.{Name}
use Rattle.gx_repo.specs.Additions.{HasValues}
use Rattle.gx_import.specs.Additions.{added_alone}
use Rattle.gx_import.specs.Objects.{IsCommitOf, IsTreeOf}
use Rattle.gx_import.specs.Rows.{AreAll}
use Rattle.gx_import.specs.Standing.{Follows}
use Rattle.gx_import.proofs.Extended.{extended_one}
use Rattle.gx_import.proofs.GrownStates.{alone_stands}
use Rattle.gx_import.proofs.HeldParts.{commit_clashes, commit_is, headers_proper, holds_named, text_proper}
use Rattle.gx_import.proofs.PartAnswers.{put_refused}
use Rattle.gx_import.proofs.commit.add_alone.Goals as goal

pub add_commit-requires-clause-headers : goal.add_commit-requires-clause-headers
add_commit-requires-clause-headers g c =
    subst (λ (p : CommitParts). IsTrue (is_headers p.text.headers)) (sym c.object_parts.ensures) (headers_proper c.args.commit.now)

pub add_commit-requires-clause-parents : goal.add_commit-requires-clause-parents
add_commit-requires-clause-parents g c =
    subst (AllByRecursion (Holds c.args.repo.now.1.records kinds.Commit)) (sym (ap (λ p. p.parents) c.object_parts.ensures)) (holds_named c.args.repo.now.1.records c.args.parents.now c.requires.parents)

pub returns-in_err-add_commit-clause-steps : goal.returns-in_err-add_commit-clause-steps
returns-in_err-add_commit-clause-steps g c = λ tables s f ps h tree parents.
    let name = g.N.Namer.name_of c.args.repo.now.0 in
    let namer = g.met.N.Namer.is_namer c.args.repo.now.0 in
    let r = c.args.repo.now.1 in
    let p = err_from_is_err_and c.from_residual.result c.from_residual.ensures.1 in
    let text = text_made (commit_parts c.args.commit.now) in
    let v = commit_value (commit f (commits_of ps) text) in
    let of_tree = subst (λ z. IsTreeOf name z.values f c.args.tree) (sym h.history) tree in
    let of_parents = subst (λ z. AreAll (IsCommitOf name z.values) ps c.args.parents.now) (sym h.history) parents in
    rw (p.1, p.2) (put_refused {X = Name} {Y = State} _ (λ u called. Follows name c.add_commit.new.self.1 tables s u × (called.bytes ≡ name_of name v)) (Ok (added_alone v s)) _ _ _ c.in_err-add_commit.field-0.0
    (commit_clashes name namer r c.sound.ensures f c.args.tree of_tree ps c.args.parents.now of_parents text (c.puts_add_values.ensures name namer) (text_proper c.args.commit.now) _ c.object_parts.ensures)
    c.in_err-add_commit.ensures.adds)

pub returns-clause-only : goal.returns-clause-only
returns-clause-only g c = record { namer = c.add_commit.ensures.namer; refs = c.add_commit.ensures.refs; extends = extended_one _ _ _ _ c.add_commit.ensures.adds }

pub returns-clause-steps : goal.returns-clause-steps
returns-clause-steps g c = λ tables s f ps h tree parents.
    let name = g.N.Namer.name_of c.args.repo.now.0 in
    let namer = g.met.N.Namer.is_namer c.args.repo.now.0 in
    let r = c.args.repo.now.1 in
    let now = c.add_commit.new.self.1 in
    let text = text_made (commit_parts c.args.commit.now) in
    let v = commit_value (commit f (commits_of ps) text) in
    let of_tree = subst (λ z. IsTreeOf name z.values f c.args.tree) (sym h.history) tree in
    let of_parents = subst (λ z. AreAll (IsCommitOf name z.values) ps c.args.parents.now) (sym h.history) parents in
    let same = commit_is name namer r c.sound.ensures f c.args.tree of_tree ps c.args.parents.now of_parents text _ c.object_parts.ensures in (
      added_alone v s,
      refl,
      (record { stands = alone_stands name r now tables s h v (subst (λ v. HasValues r now (with_one (values_of r) v)) same c.in_ok-add_commit.ensures.history); progress = refl; held = refl }, c.in_ok-add_commit.ensures.value ∙ ap (name_of name) same),
    )
