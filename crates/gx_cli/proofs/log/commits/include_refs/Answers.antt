use Rattle.std.proofs.Common.{◌∙◌, sym, ap, length}
use Rattle.gx_model.specs.Laws.RepositoryLaws.{values_of}
use Rattle.gx_rev.specs.Reached.{is_wanted}
use Rattle.gx_cli.proofs.MarkedNames.{marks_long, refs_added, refs_left}
use Rattle.gx_cli.proofs.log.commits.include_refs.Goals as goal

pub returns-then-not-refs-clause-marked : goal.returns-then-not-refs-clause-marked
returns-then-not-refs-clause-marked g c = refs_left c.args.repo.now.1 c.args.refs c.args.marks.now c.if-not-refs.true

pub add_marks-requires : goal.add_marks-requires
add_marks-requires g c =
    let r = c.args.repo.now.1 in
    c.requires ∙ sym (ap length (c.as_slice.ensures.value ∙ c.in_ok-reached.ensures) ∙ marks_long (values_of r) (is_wanted r))

pub returns-clause-marked : goal.returns-clause-marked
returns-clause-marked g c =
    refs_added c.args.repo.now.1 c.args.refs c.args.marks.now c.as_slice.result.now c.add_marks.new.marks c.if-not-refs.false (c.as_slice.ensures.value ∙ c.in_ok-reached.ensures) c.add_marks.ensures.long c.add_marks.ensures.either
