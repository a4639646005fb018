use Rattle.std.proofs.Common.{◌≤◌, ◌∙◌, ◌++◌, [], ap, sym, length, get_or, take, arith, Bor}
use Rattle.std.specs.List.{filter}
use Rattle.std.proofs.lemmas.List.{map-append, take_all}
use Rattle.gx_model.specs.Changes.{is_branch}
use Rattle.gx_model.specs.Texts.{Bytes}
use Rattle.gx_object.specs.declared.name.Name.{Name}
use Rattle.gx_repo.specs.Refs.{shown_lent_ref}
use Rattle.gx_export.specs.Branches.{shown_tips}
use Rattle.gx_export.proofs.FoundBranches.{filter_more, filter_same, shown_more, shown_next}
use Rattle.gx_export.proofs.branches.candidates.Goals as goal
use Rattle.gx_export.proofs.branches.candidates.Goals.{then-is_branch+in_ok-push, else-is_branch}

pub loop-tip-init : goal.loop-tip-init
loop-tip-init g c = ap shown_tips c.new-tips.ensures.items

pub loop-tip-preserved : goal.loop-tip-preserved
loop-tip-preserved g c =
    let none : Bor Bytes × Name = (record { ref_ptr = (0, 0); now = [] }, record { bytes = [] }) in
    let refs = c.args.refs.now in
    let i = c.loop-tip.tip-index in
    let tip = get_or refs i none in
    let next = ap (filter (λ ref. is_branch ref.0)) (sym (shown_next refs i none c.loop-tip-test.true)) in
    elim c.if-is_branch.branch [
      | then-is_branch+in_ok-push w ↦
          rw w.tips-is
          (shown_more _ c.loop-tip.tips.items w.push.new.self.items tip w.in_ok-push.ensures.items c.loop-tip.invariant
          ∙ sym (filter_more (λ ref. is_branch ref.0) (shown_tips (take i refs)) (shown_lent_ref tip) (sym c.is_branch.ensures ∙ w.if-is_branch.true)) ∙ next)
      | else-is_branch w ↦
          rw w.tips-is (c.loop-tip.invariant ∙ sym (filter_same (λ ref. is_branch ref.0) (shown_tips (take i refs)) (shown_lent_ref tip) (sym c.is_branch.ensures ∙ w.if-is_branch.false)) ∙ next)
    ]

pub returns : goal.returns
returns g c =
    let refs = c.args.refs.now in
    let past : length refs ≤ c.loop-tip.tip-index = omega (arith, c.loop-tip-test.false) in
    ap shown_tips c.in_ok-extend_from_slice.ensures.items ∙ map-append shown_lent_ref c.loop-tip.tips.items refs
    ∙ ap (λ ts. ts ++ shown_tips refs) (c.loop-tip.invariant ∙ ap (λ ts. filter (λ ref. is_branch ref.0) (shown_tips ts)) (take_all c.loop-tip.tip-index refs past))
