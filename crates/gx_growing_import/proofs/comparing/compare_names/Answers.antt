use Rattle.std.proofs.Common.{◌∙◌, subst, arith}
use Rattle.std.proofs.lemmas.List.{take_all}
use Rattle.std.specs.List.{AllByRecursion}
use Rattle.gx_ref_lines.specs.Refs.{shown_refs}
use Rattle.gx_growing_import.specs.Alike.{IsSameRefIn}
use Rattle.gx_growing_import.proofs.AlikeTexts.{all_owned}
use Rattle.gx_growing_import.proofs.comparing.compare_names.Goals as goal

pub returns : goal.returns
returns g c =
    let Same = IsSameRefIn (shown_refs c.args.lines.now.refs.items) c.args.small.now.1.refs in
    let names = c.deref-name-items.result.now in
    let all = subst (AllByRecursion (λ name. Same name.items)) (take_all c.loop-name.name-index names (omega (arith, c.loop-name-test.false)) ∙ c.deref-name-items.ensures.value) c.loop-name.invariant in
    record { same = subst (AllByRecursion Same) c.in_ok-ref_names.ensures (all_owned Same c.in_ok-ref_names.field-0.items all) }
