use Rattle.gx_model.specs.Revisions.Denotation.{nth_parent}
use Rattle.gx_questions.proofs.Suffixes.{behind_commit}
use Rattle.gx_questions.proofs.suffix.parent.Goals as goal

pub returns-clause-value : goal.returns-clause-value
returns-clause-value g c =
    behind_commit (g.O.Objects.name_of c.args.objects.now) c.sound_if_told.ensures.namer (g.O.Objects.told c.args.objects.now) c.args.name.now c.in_ok-commit.commit (nth_parent c.args.number) c.parent_of.result c.sound_if_told.ensures.sound c.in_ok-commit.ensures.commit c.parent_of.ensures.parent c.parent_of.ensures.held
