use Rattle.std.proofs.Common.{◌≡◌, ◌+◌, [], ◌∷◌, ◌∙◌, None, Some, ap, sym, subst, arith, drop, get_or}
use Rattle.std.proofs.lemmas.Option.{slice_get-get_or}
use Rattle.gx_model.specs.declared.objects.Kind.TheVariants as kinds
use Rattle.gx_model.specs.Pruning.{links_of}
use Rattle.gx_model.proofs.ObjectTexts.BodiesReadBack.{commit_read}
use Rattle.gx_repo.proofs.PrunedRecords.{MarksSoFar, next_parent, so_far_next, so_far_none}
use Rattle.gx_repo.proofs.pruning.mark_tree_and_parents.Goals as goal

pub loop-number-init : goal.loop-number-init
loop-number-init g c =
    let rs = c.args.store.now.1 in
    let ns = c.in-Ok.commit.parents in
    let names = links_of kinds.Commit c.args.body.now in
    let all : names ≡ c.tree.result.bytes ∷ ns = ap (λ p. p.tree ∷ p.parents) (commit_read c.in-Ok.commit c.args.body.now c.in-Ok.ensures.found) ∙ ap (λ n. n ∷ ns) (sym c.tree.ensures) in (
      omega (arith, c.requires.long, c.mark.auto.marks),
      so_far_next rs names ns c.tree.result.bytes c.args.marks.now c.args.marks.now c.mark.new.marks
          (subst (λ left. MarksSoFar rs names left c.args.marks.now c.args.marks.now) all (so_far_none rs names c.args.marks.now)) c.mark.ensures,
    )

pub unreachable-requires-in_default-parent : goal.unreachable-requires-in_default-parent
unreachable-requires-in_default-parent g c =
    let ns = c.in-Ok.commit.parents in
    let there = slice_get-get_or ns c.loop-number.number [] (omega (arith, c.loop-number-test.true, c.parent_count-number-end.ensures)) in
    let clash : None ≡ Some (get_or ns c.loop-number.number []) = c.in_default-parent.ensures ∙ there in
    cc

pub loop-number-preserved : goal.loop-number-preserved
loop-number-preserved g c =
    let rs = c.args.store.now.1 in
    let ns = c.in-Ok.commit.parents in
    let names = links_of kinds.Commit c.args.body.now in
    let i = c.loop-number.number in (
      omega (arith, c.loop-number.invariant.0, c.mark-in-loop-number.auto.marks),
      so_far_next rs names (drop (i + 1) ns) c.in-Some.parent.bytes c.args.marks.now c.loop-number.marks c.mark-in-loop-number.new.marks
          (subst (λ left. MarksSoFar rs names left c.args.marks.now c.loop-number.marks) (next_parent ns i c.in-Some.parent.bytes c.in-Some.ensures) c.loop-number.invariant.1) c.mark-in-loop-number.ensures,
    )
