use Rattle.std.proofs.Common.{◌≡◌, Ok, refl, sym, ap, subst, ◌∙◌}
use Rattle.std.proofs.lemmas.Result.{err_from_is_err_and}
use Rattle.gx_model.specs.Records.{name_of}
use Rattle.gx_model.specs.Histories.{with_one}
use Rattle.gx_model.specs.Replay.{State, added}
use Rattle.gx_model.specs.Laws.RepositoryLaws.{values_of}
use Rattle.gx_model.specs.Histories.Values.{tag_value}
use Rattle.gx_command.specs.Views.{tag_parts}
use Rattle.gx_repo.specs.Additions.{HasValues}
use Rattle.gx_import.specs.Additions.{tag_made}
use Rattle.gx_object.specs.declared.name.Name.{Name}
use Rattle.gx_import.specs.Standing.{Follows}
use Rattle.gx_import.specs.Objects.{IsCommitOf}
use Rattle.gx_import.proofs.Extended.{extended_one}
use Rattle.gx_import.proofs.HeldParts.{tag_clashes, tag_is, tagger_proper}
use Rattle.gx_import.proofs.PartAnswers.{put_refused}
use Rattle.gx_import.proofs.Standings.{added_one}
use Rattle.gx_import.proofs.tag.add.Goals as goal

pub returns-in_err-add_tag-clause-steps : goal.returns-in_err-add_tag-clause-steps
returns-in_err-add_tag-clause-steps g c = λ tables s target h is.
    let name = g.N.Namer.name_of c.args.repo.now.0 in
    let namer = g.met.N.Namer.is_namer c.args.repo.now.0 in
    let r = c.args.repo.now.1 in
    let p = err_from_is_err_and c.from_residual.result c.from_residual.ensures.1 in
    let t = tag_made target (tag_parts c.args.tag.now) in
    let of = subst (λ z. IsCommitOf name z.values target c.args.object) (sym h.history) is in
    rw (p.1, p.2) (put_refused {X = Name} {Y = State} _ (λ u called. Follows name c.add_tag.new.self.1 tables s u × (called.bytes ≡ name_of name (tag_value t))) (Ok (added (tag_value t) s)) _ _ _ c.in_err-add_tag.field-0.0
    (tag_clashes name namer r c.sound.ensures t c.args.object of (c.puts_add_values.ensures name namer) c.args.tag.now.name.proper (tagger_proper c.args.tag.now) _ c.object_parts.ensures)
    c.in_err-add_tag.ensures.adds)

pub returns-clause-only : goal.returns-clause-only
returns-clause-only g c = record { namer = c.add_tag.ensures.namer; refs = c.add_tag.ensures.refs; extends = extended_one _ _ _ _ c.add_tag.ensures.adds }

pub returns-clause-steps : goal.returns-clause-steps
returns-clause-steps g c = λ tables s target h is.
    let name = g.N.Namer.name_of c.args.repo.now.0 in
    let namer = g.met.N.Namer.is_namer c.args.repo.now.0 in
    let r = c.args.repo.now.1 in
    let now = c.add_tag.new.self.1 in
    let t = tag_made target (tag_parts c.args.tag.now) in
    let of = subst (λ z. IsCommitOf name z.values target c.args.object) (sym h.history) is in
    let same = tag_is name namer r c.sound.ensures t c.args.object of _ c.object_parts.ensures in (
      added (tag_value t) s,
      refl,
      (
        record { stands = added_one name r now tables s h (tag_value t) refl (subst (λ v. HasValues r now (with_one (values_of r) v)) same c.in_ok-add_tag.ensures.history); progress = refl; held = refl },
        c.in_ok-add_tag.ensures.value ∙ ap (name_of name) same,
      ),
    )
