use Rattle.std.proofs.Common.{Err, ap, ap₂, subst, sym, ◌∙◌}
use Rattle.gx_text.specs.Lent.{lent_texts}
use Rattle.gx_repo.specs.Dropping.{Drops}
use Rattle.gx_push.specs.Forward.{first_lost}
use Rattle.gx_push.specs.Pushes.{are_kept, vanishing}
use Rattle.gx_push.specs.Wants.{refs_of, shown_wants}
use Rattle.gx_push.proofs.SettledPushes.{refs_settled}
use Rattle.gx_push.proofs.VanishingRefs.{all_vanish}
use Rattle.gx_push.proofs.pushing.settle.Goals as goal

pub returns-in-Ok-clause-settled : goal.returns-in-Ok-clause-settled
returns-in-Ok-clause-settled g c =
    let wants = shown_wants c.args.wants.now.list.items in
    let old = c.args.repo.now.1 in
    let kept = sym (ap₂ (λ was now. are_kept (refs_of wants) was now) c.refs.ensures.held c.refs-2.ensures.held) ∙ sym (c.are_others_kept.ensures (refs_of wants) c.requires.1.names) ∙ c.if-not-are_others_kept.false in
    let names = ap lent_texts c.as_slice-3.ensures.value ∙ c.in_ok-names.ensures ∙ ap (λ ws. vanishing old.refs (shown_wants ws)) c.as_slice-2.ensures.value in
    let forward = sym (ap (λ ws. first_lost old 1 (shown_wants ws)) c.as_slice.ensures.value) ∙ c.in_ok-want_forward.ensures in
    refs_settled c.args.before.now old wants forward c.drop_refs.new.self.1 (lent_texts c.as_slice-3.result.now) kept names c.in-Ok.ensures.records c.in-Ok.ensures.refs

pub unreachable-requires : goal.unreachable-requires
unreachable-requires g c =
    let wants = shown_wants c.args.wants.now.list.items in
    let old = c.args.repo.now.1 in
    let names = ap lent_texts c.as_slice-3.ensures.value ∙ c.in_ok-names.ensures ∙ ap (λ ws. vanishing old.refs (shown_wants ws)) c.as_slice-2.ensures.value in
    all_vanish old.refs c.args.before.now c.requires.0 wants c.requires.1.list (lent_texts c.as_slice-3.result.now) names c.in-Err-UnknownRef.field-0-0
    (subst (λ fault. Drops old.refs c.drop_refs.new.self.1.refs (lent_texts c.as_slice-3.result.now) (Err fault)) c.in-Err-UnknownRef.field-0-is c.in-Err-UnknownRef.ensures.refs)
