use Rattle.std.proofs.Common.{◌<◌, ◌∷◌, ◌++◌, length, length-append, slice_range, sym, ap, ◌∙◌, arith}
use Rattle.std.proofs.lemmas.Result.{err_from_is_err_and}
use Rattle.gx_model.proofs.Texts.Cuts.{cut_spelled}
use Rattle.gx_batch.proofs.CutLines.{cut_lacks, uncut_lacks}
use Rattle.gx_batch.proofs.RestParts.{left_behind, none_left}
use Rattle.gx_batch.proofs.lines.take_part.Goals as goal

pub overflow_sub-at : goal.overflow_sub-at
overflow_sub-at g c =
    let spelled = cut_spelled c.args.byte _ (c.in-Some.front.now, c.in-Some.after.now) (sym c.in-Some.ensures) in
    (left_behind c.args.piece.now c.in-Some.front.now c.in-Some.after.now c.args.byte c.args.at.now c.args.end c.requires.0 c.requires.1 spelled).within

pub returns-in_ok-extend_from_slice-in-Some-clause-takes : goal.returns-in_ok-extend_from_slice-in-Some-clause-takes
returns-in_ok-extend_from_slice-in-Some-clause-takes g c =
    let front = c.in-Some.front.now in
    let after = c.in-Some.after.now in
    let spelled = cut_spelled c.args.byte _ (front, after) (sym c.in-Some.ensures) in
    let left = left_behind c.args.piece.now front after c.args.byte c.args.at.now c.args.end c.requires.0 c.requires.1 spelled in
    (front, cut_lacks c.args.byte _ (front, after) (sym c.in-Some.ensures), spelled ∙ ap (λ xs. front ++ c.args.byte ∷ xs) (sym left.left), c.in_ok-extend_from_slice-in-Some.ensures.items)

pub returns-in_ok-extend_from_slice-in-None-clause-takes : goal.returns-in_ok-extend_from_slice-in-None-clause-takes
returns-in_ok-extend_from_slice-in-None-clause-takes g c =
    (uncut_lacks c.args.byte _ c.in-None.ensures, none_left c.args.piece.now c.args.end, c.in_ok-extend_from_slice-in-None.ensures.items)

pub returns-in_err-extend_from_slice-in-Some-clause-refused : goal.returns-in_err-extend_from_slice-in-Some-clause-refused
returns-in_err-extend_from_slice-in-Some-clause-refused g c =
    let front = c.in-Some.front.now in
    let after = c.in-Some.after.now in
    let p = err_from_is_err_and c.from_residual.result c.from_residual.ensures.1 in
    let spelled = cut_spelled c.args.byte _ (front, after) (sym c.in-Some.ensures) in
    let some : 0 < length (slice_range c.args.piece.now c.args.at.now c.args.end) = omega (arith, ap length spelled, length-append front (c.args.byte ∷ after)) in
    rw p.1 some
