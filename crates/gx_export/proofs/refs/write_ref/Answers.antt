use Rattle.std.proofs.Common.{◌∙◌, ap, sym, subst, Some}
use Rattle.std.specs.Prelude.{IsTrue, is_some}
use Rattle.gx_model.specs.Streams.Commands.{Marked, Reset}
use Rattle.gx_model.specs.Export.{command_items, number_in, ref_command}
use Rattle.gx_model.specs.Records.Growth.{record_named}
use Rattle.gx_model.specs.Records.HistoryOf.{target_in, value_of_name}
use Rattle.gx_model.specs.Histories.Values.{commit_value}
use Rattle.gx_model.proofs.Records.PeeledRefs.{target_peels}
use Rattle.gx_export.specs.Outputs.{Writes}
use Rattle.gx_export.specs.Texts.{command_text, tag_command}
use Rattle.gx_export.proofs.Numbering.{adds_bytes}
use Rattle.gx_export.proofs.RefLines.{other_kind, reset_is, tag_held}
use Rattle.gx_export.proofs.refs.write_ref.Goals as goal

pub tag_of-requires : goal.tag_of-requires
tag_of-requires g c = (target_peels (g.N.Namer.name_of c.args.repo.now.0) (g.met.N.Namer.is_namer c.args.repo.now.0) c.args.repo.now.1 c.sound.ensures c.args.name.now c.args.object.now.bytes c.requires.target).held

pub mark_of-mark-requires-clause-held : goal.mark_of-mark-requires-clause-held
mark_of-mark-requires-clause-held g c = (target_peels (g.N.Namer.name_of c.args.repo.now.0) (g.met.N.Namer.is_namer c.args.repo.now.0) c.args.repo.now.1 c.sound.ensures c.args.name.now c.args.object.now.bytes c.requires.target).held

pub returns-in-None-clause-adds : goal.returns-in-None-clause-adds
returns-in-None-clause-adds g c = λ ws h.
    let name = g.N.Namer.name_of c.args.repo.now.0 in
    let namer = g.met.N.Namer.is_namer c.args.repo.now.0 in
    let r = c.args.repo.now.1 in
    let ref = c.args.name.now in
    let n = c.args.object.now.bytes in
    let v = value_of_name r.records n in
    let peels = target_peels name namer r c.sound.ensures ref n c.requires.target in
    let other = other_kind name v c.in-None.ensures in
    let text = ap (λ m. command_text (Reset (record { ref = ref; parent = Some (Marked m) }))) (c.mark_of-mark.ensures ws h.marks) ∙ ap command_text (sym (reset_is name ws ref v other peels.to)) in
    adds_bytes r ws (command_items (ref_command ws (ref, target_in v))) c.args.written.now c.write_reset_to.new.output c.write_reset_to.result h
    (subst (λ t. Writes c.args.written.now.output c.write_reset_to.new.output t c.write_reset_to.result) text c.write_reset_to.ensures.text)

pub mark_of-mark-requires-in-Some-clause-held : goal.mark_of-mark-requires-in-Some-clause-held
mark_of-mark-requires-in-Some-clause-held g c =
    let name = g.N.Namer.name_of c.args.repo.now.0 in
    let namer = g.met.N.Namer.is_namer c.args.repo.now.0 in
    let r = c.args.repo.now.1 in
    let n = c.args.object.now.bytes in
    let peels = target_peels name namer r c.sound.ensures c.args.name.now n c.requires.target in
    let t = tag_held name namer r c.sound.ensures n c.in-Some.tag peels.held c.in-Some.ensures in
    subst (λ m. IsTrue (is_some (record_named r.records m))) (sym (c.object.ensures ∙ ap (λ p. p.object) t.1.told)) t.1.held

pub returns-in-Some-clause-adds : goal.returns-in-Some-clause-adds
returns-in-Some-clause-adds g c = λ ws h.
    let name = g.N.Namer.name_of c.args.repo.now.0 in
    let namer = g.met.N.Namer.is_namer c.args.repo.now.0 in
    let r = c.args.repo.now.1 in
    let ref = c.args.name.now in
    let n = c.args.object.now.bytes in
    let v = value_of_name r.records n in
    let peels = target_peels name namer r c.sound.ensures ref n c.requires.target in
    let t = tag_held name namer r c.sound.ensures n c.in-Some.tag peels.held c.in-Some.ensures in
    let mark = c.mark_of-mark-in-Some.ensures ws h.marks ∙ ap (λ m. number_in ws (value_of_name r.records m)) (c.object.ensures ∙ ap (λ p. p.object) t.1.told) ∙ ap (number_in ws) t.1.target in
    let text = ap (λ m. command_text (tag_command (Marked m) c.in-Some.tag)) mark ∙ ap (λ p. command_text (tag_command (Marked (number_in ws (commit_value t.0.target))) p)) t.1.told ∙ ap (λ u. command_text (ref_command ws (ref, target_in u))) (sym t.1.value) in
    adds_bytes r ws (command_items (ref_command ws (ref, target_in v))) c.args.written.now c.write_tag.new.output c.write_tag.result h
    (subst (λ t. Writes c.args.written.now.output c.write_tag.new.output t c.write_tag.result) text c.write_tag.ensures.text)
