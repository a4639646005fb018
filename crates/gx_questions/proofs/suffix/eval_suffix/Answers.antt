use Rattle.gx_model.specs.Faults.{◌>>=◌}
use Rattle.gx_model.specs.Histories.Values.{commit_value}
use Rattle.std.proofs.Common.{◌≡◌, Ok}
use Rattle.gx_model.specs.Revisions.Denotation.{commit_in, files_in, only_commit, peel}
use Rattle.gx_rev.specs.Objects.{value_at}
use Rattle.gx_questions.proofs.Suffixes.{always, commit_value_is, peeled_commit, tree_value_is}
use Rattle.gx_questions.proofs.Told.{given_alike}
use Rattle.gx_questions.proofs.suffix.eval_suffix.Goals as goal

pub returns-in-Commit-clause-value : goal.returns-in-Commit-clause-value
returns-in-Commit-clause-value g c =
    let n = c.args.name.now in
    rw c.in-Commit.is
    (given_alike (g.O.Objects.told c.args.objects.now) value_at (λ r. commit_in (value_at r n) >>= λ c. Ok (commit_value c)) (λ r. only_commit (peel (value_at r n))) c.commit_of.result
    (always (g.O.Objects.told c.args.objects.now) (λ r. only_commit (peel (value_at r n)) ≡ (commit_in (value_at r n) >>= λ c. Ok (commit_value c))) (λ r. peeled_commit (value_at r n)))
    (commit_value_is (g.O.Objects.name_of c.args.objects.now) c.sound_if_told.ensures.namer (g.O.Objects.told c.args.objects.now) (λ r. commit_in (value_at r n)) c.commit_of.result c.sound_if_told.ensures.sound c.commit_of.ensures.held c.commit_of.ensures.commit).0)

pub returns-in-Tree-clause-value : goal.returns-in-Tree-clause-value
returns-in-Tree-clause-value g c =
    rw c.in-Tree.is (tree_value_is (g.O.Objects.name_of c.args.objects.now) c.sound_if_told.ensures.namer (g.O.Objects.told c.args.objects.now) (λ r. files_in (value_at r c.args.name.now)) c.tree_of.result c.sound_if_told.ensures.sound c.tree_of.ensures.held c.tree_of.ensures.files).0
