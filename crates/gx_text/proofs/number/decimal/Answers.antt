use Rattle.std.proofs.Common.{rules, ◌≡◌, tests, sym, ◌∙◌}
use Rattle.std.specs.Char.{is_ascii_digit}
use Rattle.std.proofs.lemmas.Iterator.{YieldsList-from_slice}
use Rattle.std.proofs.lemmas.Iterator.Search.{all_from_yields_List}
use Rattle.gx_text.proofs.Numbers.{not_digits, read, digits_are_text, is_text}
use Rattle.gx_text.proofs.number.decimal.Goals as goal

pub returns-then-not-all : goal.returns-then-not-all
returns-then-not-all c =
    let e = all_from_yields_List is_ascii_digit _ _ c.all.result c.all.ensures.ran (YieldsList-from_slice c.args.bytes.now c.iter.ensures.rest) (λ x b q k. search (rules, tests)) in
    not_digits c.args.bytes.now (sym e ∙ c.if-not-all.true)

pub returns-in_err-ok : goal.returns-in_err-ok
returns-in_err-ok c =
    let e = all_from_yields_List is_ascii_digit _ _ c.all.result c.all.ensures.ran (YieldsList-from_slice c.args.bytes.now c.iter.ensures.rest) (λ x b q k. search (rules, tests)) in
    let t = digits_are_text c.args.bytes.now (sym e ∙ c.if-not-all.false) in
    absurd (is_text c.from_utf8.result _ _ _ c.from_utf8.ensures.cases t (sym c.ok.ensures.value ∙ c.in_err-ok.was))

pub returns : goal.returns
returns c =
    let e = all_from_yields_List is_ascii_digit _ _ c.all.result c.all.ensures.ran (YieldsList-from_slice c.args.bytes.now c.iter.ensures.rest) (λ x b q k. search (rules, tests)) in
    let same : c.in_ok-ok.field-0.now ≡ c.args.bytes.now = search rules in
    c.ok-2.ensures.value ∙ read c.args.bytes.now c.parse.result (sym e ∙ c.if-not-all.false) (rw same at c.parse.ensures.value.0)
