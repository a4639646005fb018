use Rattle.std.proofs.Common.{◌≡◌, ◌≤◌, ◌+◌, ◌-◌, ◌||◌, ◌&&◌, false, nat_eq, length, drop, min, sym, ap, subst, ◌∙◌, arith}
use Rattle.std.proofs.lemmas.List.{take_rest}
use Rattle.gx_model.specs.Streams.Items.{line_len, has_no_line}
use Rattle.gx_stream.specs.Places.{IsLine}
use Rattle.gx_stream.proofs.Lines.{line_is, line_at-from, no_line-from}
use Rattle.gx_stream.proofs.places.find_line.Goals as goal

pub returns-then-has_no_line : goal.returns-then-has_no_line
returns-then-has_no_line c =
    let text = c.args.text.now in
    let at = c.args.at in
    let len = ap line_len (sym (take_rest text c.args.seen)) ∙ sym c.line_len.ensures.value in
    no_line-from text c.args.fails at c.args.seen c.requires ∙ ap (λ k. nat_eq (length text - at) 0 || (c.args.fails && nat_eq (c.args.seen - at + k) (length text - at))) len ∙ sym c.has_no_line.ensures ∙ c.if-has_no_line.true

pub returns : goal.returns
returns c =
    let text = c.args.text.now in
    let at = c.args.at in
    let len = ap line_len (sym (take_rest text c.args.seen)) ∙ sym c.line_len.ensures.value in
    let some : has_no_line (drop at text) c.args.fails ≡ false = no_line-from text c.args.fails at c.args.seen c.requires ∙ ap (λ k. nat_eq (length text - at) 0 || (c.args.fails && nat_eq (c.args.seen - at + k) (length text - at))) len ∙ sym c.has_no_line.ensures ∙ c.if-has_no_line.false in
    let there : line_len (drop at text) ≡ c.args.seen - at + c.line_len.result = line_at-from text at c.args.seen c.requires ∙ ap (λ k. c.args.seen - at + k) len in
    let within : at ≤ length text = omega (arith, c.requires) in
    let is = subst (λ k. IsLine text c.args.fails at (record { start = at; end = at + k; next = min (at + k + 1) (length text) })) there (line_is text c.args.fails at within some) in
    subst (λ n. IsLine text c.args.fails at (record { start = at; end = at + (c.args.seen - at + c.line_len.result); next = n })) (sym c.min.ensures) is
