use Rattle.gx_model.specs.Revisions.Denotation.{nth_ancestor}
use Rattle.gx_questions.proofs.Suffixes.{behind_commit}
use Rattle.gx_questions.proofs.suffix.ancestor.Goals as goal

pub returns-clause-value : goal.returns-clause-value
returns-clause-value g c =
    behind_commit (g.O.Objects.name_of c.args.objects.now) c.sound_if_told.ensures.namer (g.O.Objects.told c.args.objects.now) c.args.name.now c.in_ok-commit.commit (nth_ancestor c.args.number) c.ancestor_of.result c.sound_if_told.ensures.sound c.in_ok-commit.ensures.commit c.ancestor_of.ensures.ancestor c.ancestor_of.ensures.held
