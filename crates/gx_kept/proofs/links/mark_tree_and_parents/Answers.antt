use Rattle.std.proofs.Common.{◌≡◌, ◌+◌, [], ◌∷◌, ◌∙◌, None, Some, ap, sym, subst, arith, drop, drop_of_length-le, get_or}
use Rattle.std.proofs.lemmas.Option.{slice_get-get_or}
use Rattle.std.proofs.lemmas.Result.{err_from_is_err_and}
use Rattle.gx_model.specs.declared.objects.Kind.TheVariants as kinds
use Rattle.gx_model.specs.Pruning.{links_of}
use Rattle.gx_model.proofs.ObjectTexts.BodiesReadBack.{commit_read}
use Rattle.gx_repo.proofs.PrunedRecords.{next_parent}
use Rattle.gx_kept.specs.Marking.{IsBelow}
use Rattle.gx_kept.proofs.SetMarks.{MarksListedSoFar, listed_all, listed_next, listed_none, next_has}
use Rattle.gx_kept.proofs.links.mark_tree_and_parents.Goals as goal

pub returns-in_default-clause-refused : goal.returns-in_default-clause-refused
returns-in_default-clause-refused g c = λ body below. c.in_default.ensures.only body.0 body.1

pub returns-in_err-mark_below-clause-marks : goal.returns-in_err-mark_below-clause-marks
returns-in_err-mark_below-clause-marks g c =
    let p = err_from_is_err_and c.from_residual.result c.from_residual.ensures.1 in
    rw p.1 tt

pub returns-in_err-mark_below-clause-refused : goal.returns-in_err-mark_below-clause-refused
returns-in_err-mark_below-clause-refused g c =
    let p = err_from_is_err_and c.from_residual.result c.from_residual.ensures.1 in
    let listed = c.args.listing.now in
    let ns = c.in-Ok.commit.parents in
    let names = links_of kinds.Commit c.args.body.now in
    let all : names ≡ c.tree.result.bytes ∷ ns = ap (λ p. p.tree ∷ p.parents) (commit_read c.in-Ok.commit c.args.body.now c.in-Ok.ensures.found) ∙ ap (λ n. n ∷ ns) (sym c.tree.ensures) in
    let ahead = subst (λ left. MarksListedSoFar listed names left c.args.marks.now c.args.marks.now) all (listed_none listed names c.args.marks.now) in
    rw p.1 (λ body below. c.in_err-mark_below.ensures.refused (next_has (IsBelow listed c.args.limit) listed names ns c.tree.result.bytes c.args.marks.now c.args.marks.now ahead below))

pub loop-number-init : goal.loop-number-init
loop-number-init g c =
    let listed = c.args.listing.now in
    let ns = c.in-Ok.commit.parents in
    let names = links_of kinds.Commit c.args.body.now in
    let all : names ≡ c.tree.result.bytes ∷ ns = ap (λ p. p.tree ∷ p.parents) (commit_read c.in-Ok.commit c.args.body.now c.in-Ok.ensures.found) ∙ ap (λ n. n ∷ ns) (sym c.tree.ensures) in
    let ahead = subst (λ left. MarksListedSoFar listed names left c.args.marks.now c.args.marks.now) all (listed_none listed names c.args.marks.now) in (
      c.mark_below.ensures.same_room,
      listed_next listed names ns c.tree.result.bytes c.args.marks.now c.args.marks.now c.mark_below.new.marks ahead c.in_ok-mark_below.ensures.marks,
    )

pub unreachable-requires : goal.unreachable-requires
unreachable-requires g c =
    let ns = c.in-Ok.commit.parents in
    let there = slice_get-get_or ns c.loop-number.number [] (omega (arith, c.loop-number-test.true, c.parent_count-number-end.ensures)) in
    let clash : None ≡ Some (get_or ns c.loop-number.number []) = c.in_default-parent.ensures ∙ there in
    cc

pub returns-in_err-mark_below-2-clause-marks : goal.returns-in_err-mark_below-2-clause-marks
returns-in_err-mark_below-2-clause-marks g c =
    let p = err_from_is_err_and c.from_residual-in_err-mark_below-2.result c.from_residual-in_err-mark_below-2.ensures.1 in
    rw p.1 tt

pub returns-in_err-mark_below-2-clause-refused : goal.returns-in_err-mark_below-2-clause-refused
returns-in_err-mark_below-2-clause-refused g c =
    let p = err_from_is_err_and c.from_residual-in_err-mark_below-2.result c.from_residual-in_err-mark_below-2.ensures.1 in
    let listed = c.args.listing.now in
    let ns = c.in-Ok.commit.parents in
    let names = links_of kinds.Commit c.args.body.now in
    let i = c.loop-number.number in
    let ahead = subst (λ left. MarksListedSoFar listed names left c.args.marks.now c.loop-number.marks) (next_parent ns i c.in-Some.parent.bytes c.in-Some.ensures) c.loop-number.invariant.1 in
    rw p.1 (λ body below. c.in_err-mark_below-2.ensures.refused (next_has (IsBelow listed c.args.limit) listed names (drop (i + 1) ns) c.in-Some.parent.bytes c.args.marks.now c.loop-number.marks ahead below))

pub loop-number-preserved : goal.loop-number-preserved
loop-number-preserved g c =
    let listed = c.args.listing.now in
    let ns = c.in-Ok.commit.parents in
    let names = links_of kinds.Commit c.args.body.now in
    let i = c.loop-number.number in
    let ahead = subst (λ left. MarksListedSoFar listed names left c.args.marks.now c.loop-number.marks) (next_parent ns i c.in-Some.parent.bytes c.in-Some.ensures) c.loop-number.invariant.1 in (
      omega (arith, c.loop-number.invariant.0, c.mark_below-in-loop-number.ensures.same_room),
      listed_next listed names (drop (i + 1) ns) c.in-Some.parent.bytes c.args.marks.now c.loop-number.marks c.mark_below-in-loop-number.new.marks ahead c.in_ok-mark_below-2.ensures.marks,
    )

pub returns-clause-marks : goal.returns-clause-marks
returns-clause-marks g c =
    let listed = c.args.listing.now in
    let ns = c.in-Ok.commit.parents in
    let names = links_of kinds.Commit c.args.body.now in
    let none = drop_of_length-le ns (omega (arith, c.loop-number-test.false, c.parent_count-number-end.ensures)) in
    listed_all listed names c.args.marks.now c.loop-number.marks (subst (λ left. MarksListedSoFar listed names left c.args.marks.now c.loop-number.marks) none c.loop-number.invariant.1)
