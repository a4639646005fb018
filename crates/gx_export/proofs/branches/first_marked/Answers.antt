use Rattle.std.proofs.Common.{◌≡◌, ◌≤◌, ◌∙◌, ap, sym, arith, true, false, inl, inr}
use Rattle.std.specs.Prelude.{slice_index_or}
use Rattle.std.proofs.lemmas.Bool.Decides.{eqb_tells}
use Rattle.gx_export.proofs.branches.first_marked.Goals as goal

pub loop-place-init : goal.loop-place-init
loop-place-init c = λ k m. omega arith

pub loop-place-preserved : goal.loop-place-preserved
loop-place-preserved c = λ k m.
    let before : c.loop-place.place ≤ k = c.loop-place.invariant k m in
    elim (eqb_tells k c.loop-place.place) [
      | inl t ↦ absurd (let o : true ≡ false = sym m ∙ ap (λ n. slice_index_or c.args.marks.now n false) t.1 ∙ c.if-marks-place.false in cc o)
      | inr o ↦ let n = o.1 in omega (arith, before, n)
    ]

pub returns : goal.returns
returns c = λ k m. let before = c.loop-place.invariant k m in omega (arith, before, c.loop-place-test.false)
