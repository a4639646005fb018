use Rattle.std.proofs.Common.{Some, false, true, ap, refl, sym, ◌∙◌, arith}
use Rattle.std.specs.List.{list_any}
use Rattle.gx_model.specs.Records.Publishing.{Ref}
use Rattle.gx_model.specs.Texts.{same_bytes}
use Rattle.gx_ref_lines.specs.Refs.{shown_refs}
use Rattle.gx_bundled.proofs.NamedRefs.{found_held, name_found, name_passed, none_found}
use Rattle.gx_bundled.proofs.named.first_of.Goals as goal

pub loop-name-init : goal.loop-name-init
loop-name-init g c = refl

pub returns-then-is_some : goal.returns-then-is_some
returns-then-is_some g c =
    let refs = shown_refs c.args.held.now.refs.items in
    let found = found_held refs c.as_slice.result.now c.find.result (c.find.ensures c.requires.sorted) true (sym c.is_some.ensures ∙ c.if-is_some.true) in
    let same = ap (λ name. name.items) (sym c.name-item.is) ∙ sym c.as_slice.ensures.value in
    ap Some (c.in_ok-from_slice.ensures.items ∙ c.as_slice-then-is_some.ensures.value ∙ ap (λ name. name.items) c.name-item.is)
    ∙ name_found refs (λ one. one.items) c.args.names.now c.loop-name.name-index c.name-item.result c.loop-name-test.true c.loop-name.invariant (ap (λ name. list_any (λ (ref : Ref). same_bytes name ref.0) refs) same ∙ found)

pub loop-name-preserved : goal.loop-name-preserved
loop-name-preserved g c =
    let refs = shown_refs c.args.held.now.refs.items in
    let found = found_held refs c.as_slice.result.now c.find.result (c.find.ensures c.requires.sorted) false (sym c.is_some.ensures ∙ c.if-is_some.false) in
    let same = ap (λ name. name.items) (sym c.name-item.is) ∙ sym c.as_slice.ensures.value in
    name_passed refs (λ one. one.items) c.args.names.now c.loop-name.name-index c.name-item.result c.loop-name-test.true c.loop-name.invariant (ap (λ name. list_any (λ (ref : Ref). same_bytes name ref.0) refs) same ∙ found)

pub returns : goal.returns
returns g c = none_found (shown_refs c.args.held.now.refs.items) (λ one. one.items) c.args.names.now c.loop-name.name-index (omega (arith, c.loop-name-test.false)) c.loop-name.invariant
