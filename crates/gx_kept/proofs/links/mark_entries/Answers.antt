use Rattle.std.proofs.Common.{◌≡◌, ◌∙◌, ap, refl, sym, subst, arith, rules}
use Rattle.std.specs.List.{filter_map}
use Rattle.std.proofs.lemmas.Result.{err_from_is_err_and}
use Rattle.gx_model.specs.declared.objects.Kind.TheVariants as kinds
use Rattle.gx_model.specs.Pruning.{link_of, links_of}
use Rattle.gx_model.proofs.ObjectTexts.BodiesReadBack.{entries_read}
use Rattle.gx_object.specs.Entries.{shown}
use Rattle.gx_repo.proofs.PrunedRecords.{entry_links, gitlink_links}
use Rattle.gx_kept.specs.Marking.{IsBelow}
use Rattle.gx_kept.proofs.SetMarks.{MarksListedSoFar, listed_all, listed_next, listed_none, next_has}
use Rattle.gx_kept.proofs.links.mark_entries.Goals as goal

pub returns-in_default-clause-refused : goal.returns-in_default-clause-refused
returns-in_default-clause-refused g c = λ body below. c.in_default.ensures.only body.0 body.1

pub loop-entry-init : goal.loop-entry-init
loop-entry-init g c =
    let listed = c.args.listing.now in
    let body = c.args.body.now in
    let es = c.in-Ok.entries in
    let names = links_of kinds.Tree body in
    let same : c.into_iter-entry-iterator.result ≡ es = c.into_iter-entry-iterator.ensures.into_iter_gives in (
      refl,
      subst (λ left. MarksListedSoFar listed names left c.args.marks.now c.args.marks.now) (ap (filter_map link_of) (entries_read es body c.in-Ok.ensures.found ∙ sym same)) (listed_none listed names c.args.marks.now),
    )

pub returns-in_err-mark_below-clause-marks : goal.returns-in_err-mark_below-clause-marks
returns-in_err-mark_below-clause-marks g c =
    let p = err_from_is_err_and c.from_residual.result c.from_residual.ensures.1 in
    rw p.1 tt

pub returns-in_err-mark_below-clause-refused : goal.returns-in_err-mark_below-clause-refused
returns-in_err-mark_below-clause-refused g c =
    let p = err_from_is_err_and c.from_residual.result c.from_residual.ensures.1 in
    let listed = c.args.listing.now in
    let names = links_of kinds.Tree c.args.body.now in
    let e = shown c.in-Some.entry in
    let step = ap (filter_map link_of) c.in-Some.ensures.steps ∙ entry_links e c.next.new.self (λ q. absurd (search (rules, c.if-ne.true, c.ne.ensures, q))) in
    let ahead = subst (λ left. MarksListedSoFar listed names left c.args.marks.now c.loop-entry.marks) step c.loop-entry.invariant.1 in
    rw p.1 (λ body below. c.in_err-mark_below.ensures.refused (next_has (IsBelow listed c.args.limit) listed names (filter_map link_of c.next.new.self) e.name c.args.marks.now c.loop-entry.marks ahead below))

pub loop-entry-preserved-in-Continue-1 : goal.loop-entry-preserved-in-Continue-1
loop-entry-preserved-in-Continue-1 g c =
    let listed = c.args.listing.now in
    let names = links_of kinds.Tree c.args.body.now in
    let e = shown c.in-Some.entry in
    let step = ap (filter_map link_of) c.in-Some.ensures.steps ∙ entry_links e c.next.new.self (λ q. absurd (search (rules, c.if-ne.true, c.ne.ensures, q))) in
    let ahead = subst (λ left. MarksListedSoFar listed names left c.args.marks.now c.loop-entry.marks) step c.loop-entry.invariant.1 in (
      omega (arith, c.loop-entry.invariant.0, c.mark_below.ensures.same_room),
      listed_next listed names (filter_map link_of c.next.new.self) e.name c.args.marks.now c.loop-entry.marks c.mark_below.new.marks ahead c.in_ok-mark_below.ensures.marks,
    )

pub loop-entry-preserved : goal.loop-entry-preserved
loop-entry-preserved g c =
    let e = shown c.in-Some.entry in
    let step = ap (filter_map link_of) c.in-Some.ensures.steps ∙ gitlink_links e c.next.new.self (search (rules, c.if-ne.false, c.ne.ensures)) in
    (c.loop-entry.invariant.0, subst (λ left. MarksListedSoFar c.args.listing.now (links_of kinds.Tree c.args.body.now) left c.args.marks.now c.loop-entry.marks) step c.loop-entry.invariant.1)

pub returns-clause-marks : goal.returns-clause-marks
returns-clause-marks g c =
    let listed = c.args.listing.now in
    let names = links_of kinds.Tree c.args.body.now in
    listed_all listed names c.args.marks.now c.loop-entry.marks
    (subst (λ left. MarksListedSoFar listed names left c.args.marks.now c.loop-entry.marks) (ap (filter_map link_of) c.in-None.ensures.steps.0) c.loop-entry.invariant.1)
