use Rattle.std.proofs.Common.{◌≡◌, ◌<◌, ◌∙◌, ◌++◌, length, slice_range, refl, ap, sym, subst, arith}
use Rattle.std.specs.Prelude.{IfSome}
use Rattle.gx_model.specs.Texts.Paths.{path_of}
use Rattle.gx_tree.specs.Lists.{below}
use Rattle.gx_export.specs.FileTexts.{AreKept, IsKept, IsLinesOf, IsLinesOfTree}
use Rattle.gx_export.proofs.Keeping.{all_item, item_same, kept_longer}
use Rattle.gx_export.proofs.lines.Lines.take_over.Goals as goal

pub returns-then-end-len : goal.returns-then-end-len
returns-then-end-len g c = λ name r ws h.
    let n = c.pass.new.self in
    let d = c.index.result.now in
    let k : AreKept name r ws n = subst (AreKept name r ws) (sym c.pass.ensures) (record { now = h.now; earlier = h.earlier }) in
    let within : n.next < length n.left.items = omega (arith, c.if-self-len.false, c.len.ensures, n.left.ok) in
    let item = all_item (IsKept name r ws n.earlier.items) n.left.items n.next d within c.index.ensures k.earlier in
    let stands : IsLinesOfTree name r ws d.path.items c.args.tree.now.bytes (slice_range n.earlier.items d.start d.end) = subst (λ o. IfSome o (λ t. IsLinesOfTree name r ws d.path.items t.bytes (slice_range n.earlier.items d.start d.end))) (c.is_of.ensures.tree c.if-is_of.true) item.lines.whole in
    let start = c.index-then-is_of.result.now.start in
    let end = c.index-then-is_of-2.result.now.end in
    let from = ap (λ x. x.start) (item_same n.left.items n.next d c.index-then-is_of.result.now within c.index.ensures c.index-then-is_of.ensures) in
    let to = ap (λ x. x.end) (item_same n.left.items n.next d c.index-then-is_of-2.result.now within c.index.ensures c.index-then-is_of-2.ensures) in
    let lines = c.in_ok-extend_from_slice.ensures.items ∙ ap (λ t. n.text.items ++ slice_range t start end) c.deref.ensures.value in
    let longer = kept_longer name r ws n (record n { text = c.extend_from_slice.new.self }) (slice_range n.earlier.items start end) lines refl refl refl k in
    let place : length n.text.items ≡ c.len-place.result = omega (arith, c.len-place.ensures, n.text.ok) in (
      c.in_ok-carry.ensures.kept name r ws n.text.items lines place longer,
      λ front g p t. (
        slice_range n.earlier.items start end,
        ap (λ x. x.items) c.in_ok-carry.ensures.text ∙ lines ∙ ap (λ x. x.text.items ++ slice_range n.earlier.items start end) c.pass.ensures,
        subst (λ b. IsLinesOf r ws (below front g) (slice_range n.earlier.items start b)) to (subst (λ a. IsLinesOf r ws (below front g) (slice_range n.earlier.items a d.end)) from
            (stands front g (ap path_of (c.is_of.ensures.path c.if-is_of.true) ∙ p) t)),
      ),
    )

pub returns-then-self-len : goal.returns-then-self-len
returns-then-self-len g c = λ name r ws h. (subst (AreKept name r ws) (sym c.pass.ensures) (record { now = h.now; earlier = h.earlier }), ap (λ x. x.text) c.pass.ensures)

pub returns-else-is_of : goal.returns-else-is_of
returns-else-is_of g c = λ name r ws h. (subst (AreKept name r ws) (sym c.pass.ensures) (record { now = h.now; earlier = h.earlier }), ap (λ x. x.text) c.pass.ensures)

pub returns-else-start-end : goal.returns-else-start-end
returns-else-start-end g c = λ name r ws h. (subst (AreKept name r ws) (sym c.pass.ensures) (record { now = h.now; earlier = h.earlier }), ap (λ x. x.text) c.pass.ensures)
