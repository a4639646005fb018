use Rattle.std.proofs.Common.{Ok, arith, length, ◌<◌}
use Rattle.std.proofs.lemmas.Result.{err_from_is_err_and}
use Rattle.gx_ranges.proofs.WordTips.{look_word}
use Rattle.gx_merge_base.specs.Asked.{ancestry_denoted, first_is_ancestor}
use Rattle.gx_merge_base.specs.Words.{commits_denoted}
use Rattle.gx_merge_base.proofs.Answered.{first_two, given_held, refused_then}
use Rattle.gx_merge_base.proofs.Given.{held_next}
use Rattle.gx_merge_base.proofs.asked.ancestry_asked.Goals as goal

pub returns-in_err-commits : goal.returns-in_err-commits
returns-in_err-commits g c =
    let p = err_from_is_err_and c.from_residual.result c.from_residual.ensures.1 in
    let o = c.args.objects.now in
    rw (p.1, p.2) (refused_then (g.O.Objects.told o) (commits_denoted (g.O.Objects.name_of o) c.args.revisions.now) (λ r cs. Ok (first_is_ancestor cs)) c.in_err-commits.field-0.0.word c.in_err-commits.field-0.0.kind c.in_err-commits.ensures)

pub returns-in_err-answer : goal.returns-in_err-answer
returns-in_err-answer g c =
    let p = err_from_is_err_and c.from_residual-in_err-answer.result c.from_residual-in_err-answer.ensures.1 in
    let o = c.args.objects.now in
    rw (p.1, p.2) (look_word (g.O.Objects.told o) (ancestry_denoted (g.O.Objects.name_of o) c.args.revisions.now) c.in_err-answer.field-0.0 c.in_err-answer.ensures.fault)

pub is_ancestor-requires-clause-ancestor : goal.is_ancestor-requires-clause-ancestor
is_ancestor-requires-clause-ancestor g c =
    let o = c.args.objects.now in
    let some : 0 < length c.as_slice-names.result.now = omega arith in
    held_next (g.O.Objects.stands o) c.as_slice-names.result.now (g.O.Objects.told o) 0 _ some (given_held (g.O.Objects.name_of o) c.args.revisions.now c.in_ok-commits.commits.items c.as_slice-names.result.now c.as_slice-names.ensures.value (g.O.Objects.told o) c.in_ok-commits.ensures)

pub is_ancestor-requires-clause-descendant : goal.is_ancestor-requires-clause-descendant
is_ancestor-requires-clause-descendant g c =
    let o = c.args.objects.now in
    let two : 1 < length c.as_slice-names.result.now = omega arith in
    held_next (g.O.Objects.stands o) c.as_slice-names.result.now (g.O.Objects.told o) 1 _ two (given_held (g.O.Objects.name_of o) c.args.revisions.now c.in_ok-commits.commits.items c.as_slice-names.result.now c.as_slice-names.ensures.value (g.O.Objects.told o) c.in_ok-commits.ensures)

pub returns : goal.returns
returns g c =
    let o = c.args.objects.now in
    let two : 1 < length c.as_slice-names.result.now = omega arith in
    first_two (g.O.Objects.name_of o) c.args.revisions.now c.in_ok-commits.commits.items c.as_slice-names.result.now c.as_slice-names.ensures.value (g.O.Objects.told o) c.in_ok-answer.answer _ _ two c.in_ok-commits.ensures c.in_ok-answer.ensures.answer
