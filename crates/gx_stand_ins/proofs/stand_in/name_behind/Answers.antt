use Rattle.std.proofs.Common.{Some, sym, ap, ◌∙◌, arith}
use Rattle.std.proofs.lemmas.Bool.Decides.{Decides-eqb}
use Rattle.std.proofs.lemmas.Slice.Eq.{strip_prefix_is}
use Rattle.gx_stand_ins.proofs.ReadNames.{name_found}
use Rattle.gx_stand_ins.proofs.stand_in.name_behind.Goals as goal

pub returns : goal.returns
returns c =
    let whole = c.in_ok-bytes.ensures.cases in
    let rest = c.in_ok-strip_prefix.field-0 in
    let cases = c.in_ok-strip_prefix.ensures.cases in
    let begins = strip_prefix_is Decides-eqb c.args.text.now c.args.front.now (Some rest) cases in
    ap Some whole.same ∙ sym (name_found c.args.front.now c.args.text.now rest.now begins whole.long cases.1 (λ i. let fits = c.type_inv.text i in omega arith))
