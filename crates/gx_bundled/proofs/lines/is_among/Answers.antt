use Rattle.std.proofs.Common.{ap, refl, sym, ◌∙◌, arith}
use Rattle.gx_model.specs.Texts.{same_bytes}
use Rattle.gx_bundled.proofs.NamedRefs.{none_among, some_among, still_none}
use Rattle.gx_bundled.proofs.lines.is_among.Goals as goal

pub loop-one-init : goal.loop-one-init
loop-one-init g c = refl

pub returns-then-eq : goal.returns-then-eq
returns-then-eq g c =
    let name = c.args.name.now in
    let same = ap (λ one. same_bytes name one.items) (sym c.one-item.is) ∙ ap (same_bytes name) (sym c.as_slice.ensures.value) ∙ sym c.eq.ensures ∙ c.if-eq.true in
    sym (some_among (λ one. one.items) name c.args.names.now c.loop-one.one-index c.one-item.result c.loop-one-test.true same)

pub loop-one-preserved : goal.loop-one-preserved
loop-one-preserved g c =
    let name = c.args.name.now in
    let same = ap (λ one. same_bytes name one.items) (sym c.one-item.is) ∙ ap (same_bytes name) (sym c.as_slice.ensures.value) ∙ sym c.eq.ensures ∙ c.if-eq.false in
    still_none (λ one. one.items) name c.args.names.now c.loop-one.one-index c.one-item.result c.loop-one-test.true c.loop-one.invariant same

pub returns : goal.returns
returns g c = sym (none_among (λ one. one.items) c.args.name.now c.args.names.now c.loop-one.one-index (omega (arith, c.loop-one-test.false)) c.loop-one.invariant)
