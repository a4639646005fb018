use Rattle.std.proofs.Common.{◌≤◌, [], ◌++◌, ◌∙◌, sym, subst, ap, drop, length, suc, get_or, arith, Bor, Ok, Err}
use Rattle.std.specs.List.{flat_map}
use Rattle.std.proofs.lemmas.List.{take_all}
use Rattle.std.proofs.lemmas.Result.{err_from_is_err_and}
use Rattle.gx_model.specs.Changes.{named_in}
use Rattle.gx_model.specs.Records.Sound.{IsTarget}
use Rattle.gx_model.specs.Texts.{Bytes}
use Rattle.gx_object.specs.declared.name.Name.{Name}
use Rattle.gx_repo.specs.Refs.{shown_lent_ref}
use Rattle.gx_export.specs.Branches.{shown_tips}
use Rattle.gx_export.specs.Marks.{Adds}
use Rattle.gx_export.specs.Outputs.{Writes}
use Rattle.gx_model.specs.Export.{items_text}
use Rattle.gx_export.proofs.FoundBranches.{got_there, held_there, shown_there}
use Rattle.gx_export.proofs.Numbering.{adds_later, adds_nothing}
use Rattle.gx_export.proofs.RefLines.{tip_items, tips_items}
use Rattle.gx_export.proofs.Writing.{items_sooner, text_next, text_parts}
use Rattle.gx_export.proofs.exporting_changes.write_refs.Goals as goal

pub loop-tip-init : goal.loop-tip-init
loop-tip-init g c = λ ws h. adds_nothing c.args.repo.now.1 ws c.args.written.now h

pub write_ref-requires-clause-target : goal.write_ref-requires-clause-target
write_ref-requires-clause-target g c =
    let r = c.args.repo.now.1 in
    let none : Bor Bytes × Name = (record { ref_ptr = (0, 0); now = [] }, record { bytes = [] }) in
    let tip : Bor Bytes × Name = get_or c.args.refs.now c.loop-tip.tip-index none in
    let at = got_there c.args.refs.now c.loop-tip.tip-index none c.loop-tip-test.true in
    held_there (λ ref. IsTarget r.records ref.0 ref.1) (shown_tips c.args.refs.now) c.loop-tip.tip-index (shown_lent_ref tip) (shown_there c.args.refs.now c.loop-tip.tip-index tip at) c.requires.targets

pub write_ref-requires-clause-written : goal.write_ref-requires-clause-written
write_ref-requires-clause-written g c = (c.requires.written.0, (c.loop-tip.invariant c.requires.written.0 c.requires.written.1).0)

pub returns-in_err-write_ref-clause-adds : goal.returns-in_err-write_ref-clause-adds
returns-in_err-write_ref-clause-adds g c = λ ws h.
    let r = c.args.repo.now.1 in
    let none : Bor Bytes × Name = (record { ref_ptr = (0, 0); now = [] }, record { bytes = [] }) in
    let refs = c.args.refs.now in
    let i = c.loop-tip.tip-index in
    let names = named_in (g.N.Namer.name_of c.args.repo.now.0) ws in
    let one = tip_items r names in
    let behind = flat_map one (drop (suc i) refs) in
    let fault = c.in_err-write_ref.field-0.0 in
    let p = err_from_is_err_and c.from_residual.result c.from_residual.ensures.1 in
    let done = c.loop-tip.invariant ws h in
    let stop = c.in_err-write_ref.ensures.adds ws done.0 in
    let all = sym (tips_items r names refs) ∙ text_parts one refs i none c.loop-tip-test.true in
    let later = adds_later r ws ws _ (one (get_or refs i none) ++ behind) c.args.written.now c.loop-tip.written c.write_ref.new.written (Err fault) done
    (items_sooner c.loop-tip.written.output c.write_ref.new.written.output (one (get_or refs i none)) behind fault stop) in
    rw (p.1, p.2) (subst (λ is. Writes c.args.written.now.output c.write_ref.new.written.output (items_text is) (Err fault)) (sym all) later)

pub loop-tip-preserved : goal.loop-tip-preserved
loop-tip-preserved g c = λ ws h.
    let r = c.args.repo.now.1 in
    let none : Bor Bytes × Name = (record { ref_ptr = (0, 0); now = [] }, record { bytes = [] }) in
    let refs = c.args.refs.now in
    let i = c.loop-tip.tip-index in
    let one = tip_items r (named_in (g.N.Namer.name_of c.args.repo.now.0) ws) in
    let done = c.loop-tip.invariant ws h in
    subst (λ is. Adds r ws is c.args.written.now c.write_ref.new.written (Ok tt)) (sym (text_next one refs i none c.loop-tip-test.true))
    (adds_later r ws ws _ (one (get_or refs i none)) c.args.written.now c.loop-tip.written c.write_ref.new.written (Ok tt) done (c.in_ok-write_ref.ensures.adds ws done.0))

pub returns-clause-adds : goal.returns-clause-adds
returns-clause-adds g c = λ ws h.
    let r = c.args.repo.now.1 in
    let refs = c.args.refs.now in
    let names = named_in (g.N.Namer.name_of c.args.repo.now.0) ws in
    let past : length refs ≤ c.loop-tip.tip-index = omega (arith, c.loop-tip-test.false) in
    let all = ap (flat_map (tip_items r names)) (take_all c.loop-tip.tip-index refs past) ∙ tips_items r names refs in
    subst (λ is. Adds r ws is c.args.written.now c.loop-tip.written (Ok tt)) all (c.loop-tip.invariant ws h)
