use Rattle.std.proofs.Common.{◌∙◌, ap, arith, length, sym}
use Rattle.gx_model.specs.Texts.Numbers.{number_text}
use Rattle.gx_growing_rows.proofs.LaidOut.{ends_behind}
use Rattle.gx_growing_rows.proofs.laying.record_end.Goals as goal

pub returns : goal.returns
returns c = λ body long.
    ends_behind c.args.name.now.bytes c.args.kind body c.args.place c.in_ok-begins.begins c.in_ok-behind.behind (length c.word.result.now) c.digits_length-digits.result (length c.as_slice.result.now)
    (ap length c.word.ensures) (c.digits_length-digits.ensures.length ∙ ap (λ n. length (number_text n)) (sym long)) (ap length c.as_slice.ensures) (omega (arith, c.in_ok-begins.ensures)) (omega (arith, c.in_ok-behind.ensures, long))
