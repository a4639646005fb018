use Rattle.std.proofs.Common.{[], ◌∷◌, ◌++◌, ◌∙◌, sym, subst, ap, append_assoc, Ok, Err}
use Rattle.std.specs.List.{AllByRecursion}
use Rattle.std.proofs.lemmas.List.{append-nil}
use Rattle.std.proofs.lemmas.Result.{err_from_is_err_and}
use Rattle.gx_model.specs.Export.{command_items, items_text, ref_command}
use Rattle.gx_model.specs.Records.Sound.{IsTarget}
use Rattle.gx_model.specs.Texts.{Bytes}
use Rattle.gx_model.proofs.Records.PeeledRefs.{told}
use Rattle.gx_export.specs.Marks.{Adds}
use Rattle.gx_export.specs.Outputs.{Writes}
use Rattle.gx_export.proofs.CommitLines.{by_marks}
use Rattle.gx_export.proofs.Numbering.{adds_later, adds_nothing}
use Rattle.gx_export.proofs.RefLines.{ref_items, refs_append, refs_next}
use Rattle.gx_export.proofs.Writing.{items_sooner}
use Rattle.gx_export.proofs.refs.write_refs.Goals as goal

pub loop-name-init : goal.loop-name-init
loop-name-init g c =
    let all = c.into_iter-name-iterator.ensures.into_iter_gives ∙ c.refs-name-items.ensures.held in (
      tt,
      ([], sym all, λ ws h. adds_nothing c.args.repo.now.1 ws c.args.written.now h),
      subst (AllByRecursion (λ ref. IsTarget c.args.repo.now.1.records ref.0 ref.1)) (sym all) c.refs-name-items.ensures.sound.held,
    )

pub write_ref-requires-clause-target : goal.write_ref-requires-clause-target
write_ref-requires-clause-target g c = (subst (AllByRecursion (λ ref. IsTarget c.args.repo.now.1.records ref.0 ref.1)) c.in-Some.ensures.steps c.loop-name.invariant.2).0

pub write_ref-requires-clause-written : goal.write_ref-requires-clause-written
write_ref-requires-clause-written g c = (c.requires.written.0, (c.loop-name.invariant.1.2 c.requires.written.0 c.requires.written.1).0)

pub returns-in_err-write_ref-clause-adds : goal.returns-in_err-write_ref-clause-adds
returns-in_err-write_ref-clause-adds g c = λ ws h.
    let r = c.args.repo.now.1 in
    let i = c.loop-name.invariant.1 in
    let ref : Bytes × Bytes = (c.in-Some.name.now, c.in-Some.object.bytes) in
    let p = err_from_is_err_and c.from_residual.result c.from_residual.ensures.1 in
    let done = i.2 ws h in
    let stop = c.in_err-write_ref.ensures.adds ws done.0 in
    let items = command_items (ref_command ws (told r ref)) in
    let all = ap (ref_items r (by_marks ws)) (i.1 ∙ ap (λ x. i.0 ++ x) c.in-Some.ensures.steps) ∙ refs_append r (by_marks ws) i.0 (ref ∷ c.next.new.self) in
    let later = adds_later r ws ws (ref_items r (by_marks ws) i.0) (items ++ ref_items r (by_marks ws) c.next.new.self) c.args.written.now c.loop-name.written c.write_ref.new.written (Err c.in_err-write_ref.field-0.0) done
    (items_sooner c.loop-name.written.output c.write_ref.new.written.output items (ref_items r (by_marks ws) c.next.new.self) c.in_err-write_ref.field-0.0 stop) in
    rw (p.1, p.2) (subst (λ is. Writes c.args.written.now.output c.write_ref.new.written.output (items_text is) (Err c.in_err-write_ref.field-0.0)) (sym all) later)

pub loop-name-preserved : goal.loop-name-preserved
loop-name-preserved g c =
    let r = c.args.repo.now.1 in
    let i = c.loop-name.invariant.1 in
    let ref : Bytes × Bytes = (c.in-Some.name.now, c.in-Some.object.bytes) in
    let rest = subst (AllByRecursion (λ q. IsTarget r.records q.0 q.1)) c.in-Some.ensures.steps c.loop-name.invariant.2 in (
      tt,
      (
        i.0 ++ ref ∷ [],
        i.1 ∙ ap (λ x. i.0 ++ x) c.in-Some.ensures.steps ∙ sym (append_assoc i.0 (ref ∷ []) c.next.new.self),
        λ ws h.
            let done = i.2 ws h in
            subst (λ is. Adds r ws is c.args.written.now c.write_ref.new.written (Ok tt)) (sym (refs_next r (by_marks ws) i.0 ref))
            (adds_later r ws ws (ref_items r (by_marks ws) i.0) (command_items (ref_command ws (told r ref))) c.args.written.now c.loop-name.written c.write_ref.new.written (Ok tt) done (c.in_ok-write_ref.ensures.adds ws done.0)),
      ),
      rest.1,
    )

pub returns-clause-adds : goal.returns-clause-adds
returns-clause-adds g c = λ ws h.
    let r = c.args.repo.now.1 in
    let i = c.loop-name.invariant.1 in
    let all = i.1 ∙ ap (λ x. i.0 ++ x) c.in-None.ensures.steps.0 ∙ append-nil i.0 in
    subst (λ refs. Adds r ws (ref_items r (by_marks ws) refs) c.args.written.now c.loop-name.written (Ok tt)) (sym all) (i.2 ws h)
