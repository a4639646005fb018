use Rattle.std.proofs.Common.{◌≡◌, ℕ, ◌+◌, ◌*◌, ◌/◌, ◌%◌, ◌<◌, [], ◌∷◌, sym, ap, subst, arith}
use Rattle.std.proofs.lemmas.Result.{err_from_is_err_and}
use Rattle.gx_pack.specs.Packs.{chained, entry_head, sevens}
use Rattle.gx_pack.proofs.Numbers.{chained_more, sevens_step}
use Rattle.gx_pack.proofs.Pieces.{IsLeft, all_left, last_left, left_fails, less_left}
use Rattle.gx_pack.proofs.entry.write_head.Goals as goal

pub loop-left-init : goal.loop-left-init
unfolding entry_head
loop-left-init g c =
    let size = c.args.size in
    let head = λ (n : ℕ). chained ((16 * n + size % 16) ∷ sevens (size / 16)) in (
      all_left (entry_head c.args.kind size) (head c.type_of.result) c.args.output.now (ap head (sym c.type_of.ensures.type_of)),
      omega (arith, c.type_of.ensures.bound),
    )

pub overflow_add-byte-in-loop-left : goal.overflow_add-byte-in-loop-left
overflow_add-byte-in-loop-left g c = omega (arith, c.loop-left.invariant.1)

pub loop-left-preserved : goal.loop-left-preserved
loop-left-preserved g c =
    let whole = entry_head c.args.kind c.args.size in
    let byte = c.loop-left.byte in
    let left = c.loop-left.left in
    let old = c.args.output.now in
    let mid = c.loop-left.output in
    let now = c.write.new.self in
    let some : 0 < left = omega arith in
    let held = subst (λ t. IsLeft whole old mid t) (chained_more byte left some) c.loop-left.invariant.0 in
    let next : chained (sevens left) ≡ chained ((left % 128) ∷ sevens (left / 128)) = ap chained (sevens_step left some) in
    (subst (λ t. IsLeft whole old now t) next (less_left whole ((128 + byte) ∷ []) (chained (sevens left)) old mid now held c.in_ok-write.ensures), omega arith)

pub returns-in_err-write : goal.returns-in_err-write
returns-in_err-write g c =
    let whole = entry_head c.args.kind c.args.size in
    let byte = c.loop-left.byte in
    let left = c.loop-left.left in
    let some : 0 < left = omega arith in
    let held = subst (λ t. IsLeft whole c.args.output.now c.loop-left.output t) (chained_more byte left some) c.loop-left.invariant.0 in
    let p = err_from_is_err_and c.from_residual.result c.from_residual.ensures.1 in
    rw p.1 (left_fails whole ((128 + byte) ∷ []) (chained (sevens left)) c.args.output.now c.loop-left.output c.write.new.self c.in_err-write.field-0.0 held c.in_err-write.ensures)

pub returns : goal.returns
returns g c =
    let whole = entry_head c.args.kind c.args.size in
    let byte = c.loop-left.byte in
    let none : c.loop-left.left ≡ 0 = omega arith in
    let held = subst (λ n. IsLeft whole c.args.output.now c.loop-left.output (chained (byte ∷ sevens n))) none c.loop-left.invariant.0 in
    last_left whole (byte ∷ []) c.args.output.now c.loop-left.output c.write-2.new.self c.write-2.result held c.write-2.ensures
