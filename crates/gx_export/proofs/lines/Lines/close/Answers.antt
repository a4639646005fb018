use Rattle.std.proofs.Common.{◌≡◌, ◌<◌, ◌∙◌, drop, length, Some, ap, sym, subst, arith}
use Rattle.gx_export.specs.FileTexts.{IsKept, IsLinesOfTree, StandsIn}
use Rattle.gx_export.proofs.Keeping.{all_item, all_set, item_same, stands_closed}
use Rattle.gx_export.proofs.lines.Lines.close.Goals as goal

pub returns-then-begins_at-clause-kept : goal.returns-then-begins_at-clause-kept
returns-then-begins_at-clause-kept g c = λ name r ws h l lines.
    let s = c.args.self.now in
    let text = s.text.items in
    let tree = c.args.tree.now in
    let number = c.args.opened.now.number in
    let within : number < length s.directories.items = omega (arith, c.if-opened-len.false, c.len.ensures, s.directories.ok) in
    let d = c.index_mut-directory.result.now in
    let same = item_same s.directories.items number c.index.result.now d within c.index.ensures c.index_mut-directory.ensures.value in
    let path = ap (λ d. d.path.items) (sym same) ∙ c.begins_at.ensures.path c.if-begins_at.true in
    let start = ap (λ d. d.start) (sym same) ∙ c.begins_at.ensures.start c.if-begins_at.true in
    let long : length text ≡ c.len-end.result = omega (arith, c.len-end.ensures, s.text.ok) in
    let old = all_item (IsKept name r ws text) s.directories.items number d within c.index_mut-directory.ensures.value h.now in
    let known : IsLinesOfTree name r ws d.path.items tree.bytes (drop d.start text) = subst (λ p. IsLinesOfTree name r ws p tree.bytes (drop d.start text)) (sym path) (subst (λ a. IsLinesOfTree name r ws c.args.path.now tree.bytes (drop a text)) (sym start) lines) in
    let closed = stands_closed name r ws d.path.items d.tree d.files.items text d.start d.end tree old known in
    record {
      now = all_set (IsKept name r ws text) s.directories.items number _ h.now (subst (λ n. StandsIn name r ws text d.start n d.path.items (Some tree) d.files.items) long closed);
      earlier = h.earlier;
    }
