use Rattle.std.proofs.Common.{◌++◌, map, subst, sym, Ok, Err}
use Rattle.std.proofs.lemmas.Result.{err_from_is_err_and}
use Rattle.gx_model.specs.Changes.{carrier_reset, named_in}
use Rattle.gx_model.specs.Export.{items_text, ref_by}
use Rattle.gx_model.specs.Laws.RepositoryLaws.{values_of}
use Rattle.gx_export.specs.Branches.{AreTargets, picked, refs_of, shown_tips, targets}
use Rattle.gx_export.specs.ChangedParts.{closing}
use Rattle.gx_export.specs.Marks.{Adds}
use Rattle.gx_export.specs.Outputs.{Writes}
use Rattle.gx_export.specs.Texts.{items_of}
use Rattle.gx_export.proofs.Numbering.{adds_bytes, adds_later}
use Rattle.gx_export.proofs.Writing.{items_sooner}
use Rattle.gx_export.proofs.exporting_changes.write_rest.Goals as goal

pub returns-in_err-write_carrier-clause-adds : goal.returns-in_err-write_carrier-clause-adds
returns-in_err-write_carrier-clause-adds g c = λ test e ws h.
    let name = g.N.Namer.name_of c.args.repo.now.0 in
    let r = c.args.repo.now.1 in
    let old = c.args.written.now in
    let refs = refs_of r c.args.branches.now in
    let reset = items_of (carrier_reset refs (picked test (values_of r))) in
    let last = items_of (map (ref_by (named_in name ws)) refs) in
    let p = err_from_is_err_and c.from_residual.result c.from_residual.ensures.1 in
    let fault = c.in_err-write_carrier.field-0.0 in
    rw (p.1, p.2) (items_sooner c.args.written.now.output c.write_carrier.new.output reset (last ++ closing c.args.closed) fault (c.in_err-write_carrier.ensures.text r test c.requires.branches e))

pub write_refs-requires-clause-targets : goal.write_refs-requires-clause-targets
write_refs-requires-clause-targets g c = subst (AreTargets c.args.repo.now.1) (sym c.deref.ensures.value) c.requires.branches.targets

pub write_refs-requires-clause-written : goal.write_refs-requires-clause-written
write_refs-requires-clause-written g c =
    let r = c.args.repo.now.1 in
    let s = c.requires.sent in
    let ws = c.requires.written.0 in
    let reset = items_of (carrier_reset (refs_of r c.args.branches.now) (picked s.0 (values_of r))) in
    let first = adds_bytes r ws reset c.args.written.now c.write_carrier.new.output (Ok tt) c.requires.written.1 (c.in_ok-write_carrier.ensures.text r s.0 c.requires.branches s.1) in
    (ws, first.0)

pub returns-in_err-write_refs-clause-adds : goal.returns-in_err-write_refs-clause-adds
returns-in_err-write_refs-clause-adds g c = λ test e ws h.
    let name = g.N.Namer.name_of c.args.repo.now.0 in
    let r = c.args.repo.now.1 in
    let old = c.args.written.now in
    let mid = record old { output = c.write_carrier.new.output } in
    let refs = refs_of r c.args.branches.now in
    let reset = items_of (carrier_reset refs (picked test (values_of r))) in
    let last = items_of (map (ref_by (named_in name ws)) refs) in
    let first = adds_bytes r ws reset old c.write_carrier.new.output (Ok tt) h (c.in_ok-write_carrier.ensures.text r test c.requires.branches e) in
    let p = err_from_is_err_and c.from_residual-in_err-write_refs.result c.from_residual-in_err-write_refs.ensures.1 in
    let fault = c.in_err-write_refs.field-0.0 in
    let stop = subst (λ rs. Writes c.write_carrier.new.output c.write_refs.new.written.output (items_text (items_of (map (ref_by (named_in name ws)) (targets r (shown_tips rs))))) (Err fault)) c.deref.ensures.value (c.in_err-write_refs.ensures.adds ws first.0) in
    rw (p.1, p.2) (adds_later r ws ws reset (last ++ closing c.args.closed) old mid c.write_refs.new.written (Err fault) first (items_sooner c.write_carrier.new.output c.write_refs.new.written.output last (closing c.args.closed) fault stop))

pub returns-clause-adds : goal.returns-clause-adds
returns-clause-adds g c = λ test e ws h.
    let name = g.N.Namer.name_of c.args.repo.now.0 in
    let r = c.args.repo.now.1 in
    let old = c.args.written.now in
    let mid = record old { output = c.write_carrier.new.output } in
    let with_refs = c.write_refs.new.written in
    let new = record with_refs { output = c.write_closing.new.output } in
    let refs = refs_of r c.args.branches.now in
    let reset = items_of (carrier_reset refs (picked test (values_of r))) in
    let last = items_of (map (ref_by (named_in name ws)) refs) in
    let first = adds_bytes r ws reset old c.write_carrier.new.output (Ok tt) h (c.in_ok-write_carrier.ensures.text r test c.requires.branches e) in
    let told = subst (λ rs. Adds r ws (items_of (map (ref_by (named_in name ws)) (targets r (shown_tips rs)))) mid with_refs (Ok tt)) c.deref.ensures.value (c.in_ok-write_refs.ensures.adds ws first.0) in
    adds_later r ws ws reset (last ++ closing c.args.closed) old mid new c.write_closing.result first
    (adds_later r ws ws last (closing c.args.closed) mid with_refs new c.write_closing.result told (adds_bytes r ws (closing c.args.closed) with_refs c.write_closing.new.output c.write_closing.result told.0 c.write_closing.ensures.text))
