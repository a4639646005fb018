use Rattle.std.proofs.Common.{◌≡◌, map, Some, None, sym, ap, subst, ◌∙◌, refl, option_map, true≢false}
use Rattle.gx_model.specs.Histories.{Record}
use Rattle.gx_model.specs.Records.Growth.{put, record_named}
use Rattle.gx_model.proofs.Records.GrownRecords.{put_held}
use Rattle.gx_store.specs.Objects.{shown_stored}
use Rattle.gx_store.proofs.Keys.{found, under}
use Rattle.gx_store.proofs.Putting.{put_other}
use Rattle.gx_store.proofs.store.Store.is_held.Goals as goal

pub returns-in_default : goal.returns-in_default
returns-in_default g c =
    let n = c.args.name.now in
    subst (λ v. record_named v.1 n.bytes ≡ None) c.self.view_is (found n c.self.inside.objects.entries ∙ ap (option_map (under n)) (sym c.in_default.ensures.value))

pub returns-then-is_object : goal.returns-then-is_object
returns-then-is_object g c =
    let is = c.if-is_object.ensures.0 refl in
    let n = c.args.name.now in
    let es = c.self.inside.objects.entries in
    let new : Record = record { name = n.bytes; kind = c.args.kind; body = c.args.body.now } in
    let here = found n es ∙ ap (option_map (under n)) (sym c.in-Some.ensures.value) in
    subst (λ v. put v.1 new ≡ Some v.1) c.self.view_is (put_held (map shown_stored es) new _ here is.0 is.1)

pub returns-else-is_object : goal.returns-else-is_object
returns-else-is_object g c =
    let n = c.args.name.now in
    let es = c.self.inside.objects.entries in
    let new : Record = record { name = n.bytes; kind = c.args.kind; body = c.args.body.now } in
    let here = found n es ∙ ap (option_map (under n)) (sym c.in-Some.ensures.value) in
    subst (λ v. put v.1 new ≡ None) c.self.view_is (put_other (map shown_stored es) new _ here (λ same. true≢false (sym (c.is_object.ensures.1 same) ∙ c.if-is_object.false)))
