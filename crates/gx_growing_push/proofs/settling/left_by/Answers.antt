use Rattle.std.proofs.Common.{ap, ap₂, sym, ◌∙◌, length}
use Rattle.std.specs.List.{flat_map}
use Rattle.gx_model.specs.Stores.StoreText.{stored_ref}
use Rattle.gx_push.specs.Pushes.{are_kept, vanishing}
use Rattle.gx_push.specs.Wants.{refs_of, shown_wants}
use Rattle.gx_ref_lines.specs.Refs.{shown_refs}
use Rattle.gx_repo.specs.Dropping.{without}
use Rattle.gx_text.specs.Lent.{lent_texts}
use Rattle.gx_growing_push.proofs.LeftPushes.{those_left}
use Rattle.gx_growing_push.proofs.settling.left_by.Goals as goal

pub returns-in-Ok : goal.returns-in-Ok
returns-in-Ok g c sorted =
    let before = shown_refs c.args.before.now.refs.items in
    let made = shown_refs c.args.after.now.refs.items in
    let wants = shown_wants c.args.wants.now.list.items in
    let kept = ap₂ (λ was now. are_kept (refs_of wants) (shown_refs was) (shown_refs now)) (sym c.as_slice.ensures.value) (sym c.as_slice-2.ensures.value)
    ∙ sym (c.are_others_kept.ensures (refs_of wants) c.requires.names) ∙ c.if-not-are_others_kept.false in
    let names = ap lent_texts c.as_slice-4.ensures.value ∙ c.in_ok-names.ensures sorted ∙ ap (λ ws. vanishing made (shown_wants ws)) c.as_slice-3.ensures.value in
    record {
      named = without (vanishing made wants) made;
      left = those_left before made wants c.requires.free kept;
      spelled = c.in-Ok.ensures.lines ∙ ap (λ ns. flat_map stored_ref (without ns made)) names;
      counted = c.in-Ok.ensures.count ∙ ap (λ ns. length (without ns made)) names;
    }
