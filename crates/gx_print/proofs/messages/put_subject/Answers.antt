use Rattle.std.proofs.Common.{List, ◌++◌, ◌∷◌, append_assoc, sym, ap, ◌∙◌}
use Rattle.std.specs.List.{flat_map}
use Rattle.gx_model.specs.Texts.{Bytes}
use Rattle.gx_print.specs.Messages.{behind_blank, paragraph}
use Rattle.gx_print.proofs.MessageTexts.{subject_parts}
use Rattle.gx_print.proofs.messages.put_subject.Goals as goal

pub loop-line-init : goal.loop-line-init
loop-line-init g c =
    let out = c.args.out.now.items in
    let first = c.in-Some.first.now in
    let rest = c.pass_blank.new.self in
    let told = subject_parts c.args.message.now first rest (ap behind_blank (sym c.of-lines.ensures) ∙ c.in-Some.ensures) in
    let left : List Bytes → Bytes = λ lines. flat_map (λ line. 32 ∷ line) (paragraph lines) in
    ap (λ x. x ++ left c.into_iter-line-iterator.result) c.in_ok-extend_from_slice.ensures.items ∙ ap (λ lines. (out ++ first) ++ left lines) c.into_iter-line-iterator.ensures.into_iter_gives ∙ append_assoc out first (left rest)
    ∙ ap (λ x. out ++ x) (sym told)
