use Rattle.std.proofs.Common.{◌≡◌, refl, sym, ap, subst, ◌∙◌}
use Rattle.std.proofs.lemmas.Result.{err_from_is_err_and}
use Rattle.std.specs.FinMap.Entries.{put}
use Rattle.gx_model.specs.Faults.{◌>>=◌}
use Rattle.gx_model.specs.Texts.RefNames.{tag_ref}
use Rattle.gx_model.specs.Replay.{added}
use Rattle.gx_model.specs.Texts.{byte_cmp}
use Rattle.gx_model.specs.Laws.RepositoryLaws.{values_of}
use Rattle.gx_model.specs.Histories.Values.{tag_value}
use Rattle.gx_command.specs.Views.{tag_parts}
use Rattle.gx_import.specs.Additions.{tag_made}
use Rattle.gx_import.specs.Objects.{IsCommitOf}
use Rattle.gx_import.specs.Standing.{Follows}
use Rattle.gx_import.proofs.HeldParts.{commit_holds}
use Rattle.gx_import.proofs.MarkedStates.{tag_set}
use Rattle.gx_import.proofs.Standings.{one_has}
use Rattle.gx_import.proofs.TagTargets.{tag_next, tag_refused, tag_step, tagged}
use Rattle.gx_import.proofs.tag.make_tag.Goals as goal

pub returns-in_err-name-clause-steps : goal.returns-in_err-name-clause-steps
returns-in_err-name-clause-steps g c = λ s h.
    let name = g.N.Namer.name_of c.args.repo.now.0 in
    let p = err_from_is_err_and c.from_residual.result c.from_residual.ensures.1 in
    let t = tag_parts c.args.tag.now in
    let d = c.requires.target s h in
    rw (p.1, p.2) (tag_refused name {X = Unit {0}} {Z = Unit {0}} (values_of c.args.repo.now.1) s t d.0 d.1 (λ u x. Unit {0}) (λ u x. Unit {0}) c.in_err-name.field-0.0
    (c.in_err-name.ensures.steps c.args.tables.now s d.0 h d.2))

pub add-requires : goal.add-requires
add-requires g c =
    let name = g.N.Namer.name_of c.args.repo.now.0 in
    let t = tag_parts c.args.tag.now in
    let s = c.requires.stands.0 in
    let h = c.requires.stands.1 in
    let d = c.requires.target s h in
    record { object = commit_holds name (g.met.N.Namer.is_namer c.args.repo.now.0) c.args.repo.now.1 c.sound.ensures d.0 c.args.target (subst (λ z. IsCommitOf name z.values d.0 c.args.target) (sym h.history) d.2) }

pub returns-clause-steps : goal.returns-clause-steps
returns-clause-steps g c = λ s h.
    let name = g.N.Namer.name_of c.args.repo.now.0 in
    let t = tag_parts c.args.tag.now in
    let called = c.in_ok-name.name in
    let d = c.requires.target s h in
    let v = tag_made d.0 t in
    let a = c.in_ok-name.ensures.steps c.args.tables.now s d.0 h d.2 in
    let same : added (tag_value v) s ≡ a.0 = cc a.1 in
    let f = subst (Follows name c.add.new.repo.1 c.args.tables.now s) (sym same) a.2.0 in
    let ref = c.in_ok-tag_ref.ensures ∙ ap tag_ref c.as_slice.ensures.value in (
      tagged t v (added (tag_value v) s),
      tag_step name s t ∙ ap (λ o. o >>= tag_next t s) d.1,
      tag_set name c.add.new.repo.1 c.args.tables.now s (added (tag_value v) s) f v called (one_has s.history.values (tag_value v)) a.2.1 t.mark c.set.new.self _ refl refl c.in_ok-set.ensures.sets c.set-2.new.self
          (c.in_ok-set-2.ensures ∙ ap (λ n. put byte_cmp n called c.args.tables.now.tags) ref),
    )

pub returns-in_err-set-clause-steps : goal.returns-in_err-set-clause-steps
returns-in_err-set-clause-steps g c = λ s h.
    let p = err_from_is_err_and c.from_residual-in_err-set.result c.from_residual-in_err-set.ensures.1 in
    rw (p.1, p.2) tt

pub returns-in_err-tag_ref-clause-steps : goal.returns-in_err-tag_ref-clause-steps
returns-in_err-tag_ref-clause-steps g c = λ s h.
    let p = err_from_is_err_and c.from_residual-in_err-tag_ref.result c.from_residual-in_err-tag_ref.ensures.1 in
    rw (p.1, p.2) tt

pub returns-in_err-set-2-clause-steps : goal.returns-in_err-set-2-clause-steps
returns-in_err-set-2-clause-steps g c = λ s h.
    let p = err_from_is_err_and c.from_residual-in_err-set-2.result c.from_residual-in_err-set-2.ensures.1 in
    rw (p.1, p.2) tt
