use Rattle.std.proofs.Common.{◌≡◌, [], ◌∷◌, ◌++◌, List, Ok, refl, subst, sym}
use Rattle.std.specs.Option.{option_map}
use Rattle.std.proofs.lemmas.Result.{err_from_is_err_and}
use Rattle.gx_batch.specs.Formats.{GivesFirst, format_of}
use Rattle.gx_batch.specs.declared.format.Part.{Part}
use Rattle.gx_batch.proofs.ReadFormats.{all_done, none_done, none_read, one_done, unread_behind}
use Rattle.gx_batch.proofs.format.Format.read.Goals as goal

pub loop-parts-init : goal.loop-parts-init
loop-parts-init g c =
    let all = format_of c.args.text.now in
    subst (λ (done : List Part). all ≡ option_map (λ ps. done ++ ps) all) (sym c.new-parts.ensures.items) (none_done all)

pub returns-in_err-part : goal.returns-in_err-part
returns-in_err-part g c =
    let p = err_from_is_err_and c.from_residual.result c.from_residual.ensures.1 in
    rw (p.1, p.2) (none_read g.row.A.Denot c.args.text.now c.loop-parts.rest.now c.loop-parts.parts.items c.in_err-part.field-0.0 c.loop-parts.invariant c.in_err-part.ensures)

pub loop-parts-preserved : goal.loop-parts-preserved
loop-parts-preserved g c =
    let rest = c.loop-parts.rest.now in
    let first = subst (λ found. GivesFirst rest (Ok found)) c.in-Some.is c.in_ok-part.ensures in
    one_done (format_of c.args.text.now) c.loop-parts.parts.items (format_of rest) (format_of c.in-Some.after.now) c.push.new.self.items c.in-Some.part c.loop-parts.invariant first.0 c.in-Ok.ensures.items

pub returns : goal.returns
returns g c =
    let rest = c.loop-parts.rest.now in
    let none = subst (λ found. GivesFirst rest (Ok found)) c.in_default.is c.in_ok-part.ensures in
    all_done (format_of c.args.text.now) c.loop-parts.parts.items rest none c.loop-parts.invariant

pub returns-in-Err : goal.returns-in-Err
returns-in-Err g c =
    let rest = c.loop-parts.rest.now in
    let all = format_of c.args.text.now in
    let first = subst (λ found. GivesFirst rest (Ok found)) c.in-Some.is c.in_ok-part.ensures in
    let behind = one_done all c.loop-parts.parts.items (format_of rest) (format_of c.in-Some.after.now) (c.loop-parts.parts.items ++ c.in-Some.part ∷ []) c.in-Some.part c.loop-parts.invariant first.0 refl in
    unread_behind all (format_of c.in-Some.after.now) (c.loop-parts.parts.items ++ c.in-Some.part ∷ []) c.fault_without_room.result behind c.fault_without_room.ensures
