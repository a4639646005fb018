use Rattle.std.proofs.Common.{◌≡◌, ◌+◌, ◌-◌, ◌*◌, length, take, drop, sym, ap, ◌∙◌, arith}
use Rattle.gx_model.specs.Objects.Naming.{lower_name_in}
use Rattle.gx_object.proofs.Parents.{lines_long, none_at, name_at}
use Rattle.gx_object.proofs.commit.parent_at.Goals as goal

pub returns-then-place-lines : goal.returns-then-place-lines
returns-then-place-lines c names are e =
    let long = ap length e ∙ lines_long names are in
    sym (none_at names c.args.place (omega arith))

pub returns : goal.returns
returns c names are e =
    let long = ap length e ∙ lines_long names are in
    let at = name_at names c.args.place are (omega arith) in
    let width : c.args.place * 48 + 48 - c.args.place * 48 ≡ 48 = omega arith in
    c.read_lower.ensures ∙ (λ i. lower_name_in (take 40 (drop 7 (take (width i) (drop (c.args.place * 48) (e i)))))) ∙ at
