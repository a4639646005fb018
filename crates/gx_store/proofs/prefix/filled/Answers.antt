use Rattle.std.proofs.Common.{◌≡◌, ◌≤◌, ◌++◌, ◌-◌, cond, length, None, sym, ap, ◌∙◌, arith}
use Rattle.std.specs.Prelude.{replicate}
use Rattle.std.proofs.lemmas.Bool.{le-leb, false_from_ne_true, leb-true}
use Rattle.std.proofs.lemmas.List.{drop-replicate}
use Rattle.gx_model.specs.Objects.Naming.{name_in}
use Rattle.gx_store.specs.Prefixes.{filled}
use Rattle.gx_store.proofs.prefix.filled.Goals as goal

pub returns-then-digits-gt40 : goal.returns-then-digits-gt40
unfolding filled
returns-then-digits-gt40 c = ap (λ b. cond b (name_in (c.args.digits.now ++ replicate (40 - length c.args.digits.now) c.args.digit)) None) (sym (false_from_ne_true _ (λ h. let short = leb-true _ _ h in omega (arith, c.if-digits-gt40.true))))

pub returns : goal.returns
unfolding filled
returns c =
    let digits = c.args.digits.now in
    let short : length digits ≤ 40 = omega (arith, c.if-digits-gt40.false) in
    let text : c.as_slice.result.now ≡ digits ++ replicate (40 - length digits) c.args.digit = c.as_slice.ensures ∙ c.overwrite.ensures ∙ ap (λ rest. digits ++ rest) (drop-replicate (length digits) 40 c.args.digit) in
    c.read.ensures ∙ ap name_in text ∙ ap (λ b. cond b (name_in (digits ++ replicate (40 - length digits) c.args.digit)) None) (sym (le-leb (length digits) 40 short))
