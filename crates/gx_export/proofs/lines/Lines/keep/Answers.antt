use Rattle.std.proofs.Common.{◌≡◌, ◌<◌, ◌≤◌, ◌-◌, ◌∙◌, ◌++◌, [], ◌∷◌, drop, length, ap, sym, subst, arith}
use Rattle.gx_export.specs.FileTexts.{IsKept, IsLineIn, StandsIn}
use Rattle.gx_export.proofs.Keeping.{all_item, all_set, item_same, stands_more}
use Rattle.gx_export.proofs.lines.Lines.keep.Goals as goal

pub overflow_sub-line : goal.overflow_sub-line
overflow_sub-line g c =
    let s = c.args.self.now in
    let number = c.args.opened.now.number in
    let within : number < length s.directories.items = omega (arith, c.if-opened-len.false, c.len.ensures, s.directories.ok) in
    let same = item_same s.directories.items number c.index.result.now c.index_mut-directory.result.now within c.index.ensures c.index_mut-directory.ensures.value in
    subst (λ d. d.start ≤ c.args.start) same (c.is_open.ensures.start c.if-is_open.true)

pub overflow_sub-line-then-is_open : goal.overflow_sub-line-then-is_open
overflow_sub-line-then-is_open g c =
    let s = c.args.self.now in
    let number = c.args.opened.now.number in
    let within : number < length s.directories.items = omega (arith, c.if-opened-len.false, c.len.ensures, s.directories.ok) in
    let same = item_same s.directories.items number c.index.result.now c.index_mut-directory.result.now within c.index.ensures c.index_mut-directory.ensures.value in
    let start = subst (λ d. d.start ≤ c.args.start) same (c.is_open.ensures.start c.if-is_open.true) in
    omega (arith, start, c.if-start-end.true)

pub returns-in_ok-push-clause-kept : goal.returns-in_ok-push-clause-kept
returns-in_ok-push-clause-kept g c = λ name r ws h l line.
    let s = c.args.self.now in
    let text = s.text.items in
    let e = c.args.entry.now in
    let number = c.args.opened.now.number in
    let within : number < length s.directories.items = omega (arith, c.if-opened-len.false, c.len.ensures, s.directories.ok) in
    let d = c.index_mut-directory.result.now in
    let same = item_same s.directories.items number c.index.result.now d within c.index.ensures c.index_mut-directory.ensures.value in
    let path = ap (λ d. d.path.items) (sym same) ∙ c.is_open.ensures.path c.if-is_open.true in
    let start = subst (λ d. d.start ≤ c.args.start) same (c.is_open.ensures.start c.if-is_open.true) in
    let tree = ap (λ d. d.tree) (sym same) ∙ c.is_open.ensures.tree c.if-is_open.true in
    let long : length text ≡ c.len-end.result = omega (arith, c.len-end.ensures, s.text.ok) in
    let old = all_item (IsKept name r ws text) s.directories.items number d within c.index_mut-directory.ensures.value h.now in
    let more = stands_more name r ws d.path.items d.tree d.files.items text d.start d.end c.args.start e tree start l old (subst (λ p. IsLineIn r ws p e (drop c.args.start text)) (sym path) line) in
    let here = subst (λ n. StandsIn name r ws text d.start n d.path.items d.tree (d.files.items ++ record { entry = e; start = c.args.start - d.start; end = n - d.start } ∷ [])) long more in
    record {
      now = all_set (IsKept name r ws text) s.directories.items number _ h.now (subst (λ fs. StandsIn name r ws text d.start c.len-end.result d.path.items d.tree fs) (sym c.in_ok-push.ensures.items) here);
      earlier = h.earlier;
    }
