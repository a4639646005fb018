use Rattle.std.proofs.Common.{◌∙◌, ap, sym, subst}
use Rattle.std.specs.Prelude.{IsTrue}
use Rattle.gx_model.specs.declared.objects.Kind.TheVariants as kind
use Rattle.gx_model.specs.Changes.{named_in}
use Rattle.gx_model.specs.Export.{command_items, ref_by}
use Rattle.gx_model.specs.Records.RecordFaults.{is_held}
use Rattle.gx_model.specs.Records.{kind_of}
use Rattle.gx_model.specs.Records.HistoryOf.{commit_of_value, target_in, value_of_name}
use Rattle.gx_model.proofs.Records.HeldValues.{commit_stands, held_kind}
use Rattle.gx_model.proofs.Records.PeeledRefs.{target_peels}
use Rattle.gx_export.specs.Outputs.{Writes}
use Rattle.gx_export.specs.Texts.{command_text, tag_command, to_commit}
use Rattle.gx_export.proofs.Numbering.{adds_bytes}
use Rattle.gx_export.proofs.RefLines.{commit_kind, other_kind, tag_held}
use Rattle.gx_export.proofs.exporting_changes.write_ref.Goals as goal

pub tag_of-requires : goal.tag_of-requires
tag_of-requires g c = (target_peels (g.N.Namer.name_of c.args.repo.now.0) (g.met.N.Namer.is_namer c.args.repo.now.0) c.args.repo.now.1 c.sound.ensures c.args.name.now c.args.object.now.bytes c.requires.target).held

pub commit_ish-commit-requires-clause-held : goal.commit_ish-commit-requires-clause-held
commit_ish-commit-requires-clause-held g c =
    let name = g.N.Namer.name_of c.args.repo.now.0 in
    let namer = g.met.N.Namer.is_namer c.args.repo.now.0 in
    let r = c.args.repo.now.1 in
    let n = c.args.object.now.bytes in
    let v = value_of_name r.records n in
    let peels = target_peels name namer r c.sound.ensures c.args.name.now n c.requires.target in
    held_kind name namer r c.sound.ensures kind.Commit n peels.held (commit_kind name v (other_kind name v c.in-None.ensures) peels.to)

pub returns-in-None-clause-adds : goal.returns-in-None-clause-adds
returns-in-None-clause-adds g c = λ ws h.
    let name = g.N.Namer.name_of c.args.repo.now.0 in
    let namer = g.met.N.Namer.is_namer c.args.repo.now.0 in
    let r = c.args.repo.now.1 in
    let ref = c.args.name.now in
    let n = c.args.object.now.bytes in
    let v = value_of_name r.records n in
    let peels = target_peels name namer r c.sound.ensures ref n c.requires.target in
    let held = held_kind name namer r c.sound.ensures kind.Commit n peels.held (commit_kind name v (other_kind name v c.in-None.ensures) peels.to) in
    let value = (commit_stands name namer r c.sound.ensures n held).0 in
    let text = ap (λ m. command_text (to_commit ref m)) (c.commit_ish-commit.ensures ws h.marks) ∙ ap (λ u. command_text (ref_by (named_in name ws) (ref, target_in u))) (sym value) in
    adds_bytes r ws (command_items (ref_by (named_in name ws) (ref, target_in v))) c.args.written.now c.write_reset_to.new.output c.write_reset_to.result h
    (subst (λ t. Writes c.args.written.now.output c.write_reset_to.new.output t c.write_reset_to.result) text c.write_reset_to.ensures.text)

pub commit_ish-commit-requires-in-Some-clause-held : goal.commit_ish-commit-requires-in-Some-clause-held
commit_ish-commit-requires-in-Some-clause-held g c =
    let name = g.N.Namer.name_of c.args.repo.now.0 in
    let namer = g.met.N.Namer.is_namer c.args.repo.now.0 in
    let r = c.args.repo.now.1 in
    let n = c.args.object.now.bytes in
    let peels = target_peels name namer r c.sound.ensures c.args.name.now n c.requires.target in
    let t = tag_held name namer r c.sound.ensures n c.in-Some.tag peels.held c.in-Some.ensures in
    let object = c.object.ensures ∙ ap (λ p. p.object) t.1.told in
    subst (λ m. IsTrue (is_held r.records kind.Commit m)) (sym object) (held_kind name namer r c.sound.ensures kind.Commit _ t.1.held (ap (kind_of name) t.1.target))

pub returns-in-Some-clause-adds : goal.returns-in-Some-clause-adds
returns-in-Some-clause-adds g c = λ ws h.
    let name = g.N.Namer.name_of c.args.repo.now.0 in
    let namer = g.met.N.Namer.is_namer c.args.repo.now.0 in
    let r = c.args.repo.now.1 in
    let ref = c.args.name.now in
    let n = c.args.object.now.bytes in
    let v = value_of_name r.records n in
    let peels = target_peels name namer r c.sound.ensures ref n c.requires.target in
    let t = tag_held name namer r c.sound.ensures n c.in-Some.tag peels.held c.in-Some.ensures in
    let object = c.object.ensures ∙ ap (λ p. p.object) t.1.told in
    let named = c.commit_ish-commit-in-Some.ensures ws h.marks ∙ ap (λ m. named_in name ws (commit_of_value (value_of_name r.records m))) object ∙ ap (λ u. named_in name ws (commit_of_value u)) t.1.target in
    let text = ap (λ m. command_text (tag_command m c.in-Some.tag)) named ∙ ap (λ p. command_text (tag_command (named_in name ws t.0.target) p)) t.1.told ∙ ap (λ u. command_text (ref_by (named_in name ws) (ref, target_in u))) (sym t.1.value) in
    adds_bytes r ws (command_items (ref_by (named_in name ws) (ref, target_in v))) c.args.written.now c.write_tag.new.output c.write_tag.result h
    (subst (λ t. Writes c.args.written.now.output c.write_tag.new.output t c.write_tag.result) text c.write_tag.ensures.text)
