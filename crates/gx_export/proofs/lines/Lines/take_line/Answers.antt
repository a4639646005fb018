use Rattle.std.proofs.Common.{◌≡◌, ◌≤◌, ◌∙◌, ◌++◌, drop, length, refl, ap, sym, subst, arith}
use Rattle.std.proofs.Math.Seq.{drop-append_seam}
use Rattle.std.specs.List.{AllByRecursion}
use Rattle.std.proofs.lemmas.List.{length-append}
use Rattle.gx_export.specs.FileTexts.{IsKept, IsLineIn}
use Rattle.gx_export.proofs.Keeping.{kept_longer}
use Rattle.gx_export.proofs.lines.Lines.take_line.Goals as goal

pub returns : goal.returns
returns g c = λ name r ws h.
    let s = c.args.self.now in
    let e = c.args.entry.now in
    let line = c.in-Some.line.now in
    let longer = kept_longer name r ws s (record s { text = c.extend_from_slice.new.self }) line c.in_ok-extend_from_slice.ensures.items refl refl refl h in
    let long : length s.text.items ≡ c.len-start.result = omega (arith, c.len-start.ensures, s.text.ok) in
    let within : c.len-start.result ≤ length c.extend_from_slice.new.self.items = omega (arith, long, ap length c.in_ok-extend_from_slice.ensures.items, length-append s.text.items line) in
    let last : drop c.len-start.result c.extend_from_slice.new.self.items ≡ line = ap (drop c.len-start.result) c.in_ok-extend_from_slice.ensures.items ∙ ap (λ n. drop n (s.text.items ++ line)) (sym long) ∙ drop-append_seam s.text.items line in
    let before = subst (AllByRecursion (IsKept name r ws c.deref.result.now)) (sym c.deref-2.ensures.value) (subst (λ t. AllByRecursion (IsKept name r ws t) s.left.items) (sym c.deref.ensures.value) h.earlier) in
    let known : IsLineIn r ws c.args.path.now e line = c.in-Some.ensures name r ws before in (
      c.in_ok-keep.ensures.kept name r ws longer within (subst (IsLineIn r ws c.args.path.now e) (sym last) known),
      (line, ap (λ x. x.items) c.in_ok-keep.ensures.text ∙ c.in_ok-extend_from_slice.ensures.items, known),
    )
