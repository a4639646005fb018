use Rattle.std.proofs.lemmas.Result.{err_from_is_err_and}
use Rattle.gx_model.specs.declared.objects.Kind.TheVariants as kinds
use Rattle.gx_questions.proofs.Found.{commit_is, commit_reads, no_commit_kind, not_other}
use Rattle.gx_questions.proofs.objects.commit_in.Goals as goal

pub returns-in_err-decode_commit-in-Commit-clause-fault : goal.returns-in_err-decode_commit-in-Commit-clause-fault
returns-in_err-decode_commit-in-Commit-clause-fault g c =
    let p = err_from_is_err_and c.from_residual-in_err-decode_commit-in-Commit.result c.from_residual-in_err-decode_commit-in-Commit.ensures.1 in
    rw (p.1, p.2) (commit_reads (g.O.Objects.name_of c.args.objects.now) c.sound_if_told.ensures.namer (g.O.Objects.told c.args.objects.now) c.args.name.now c.in_ok-object.object c.sound_if_told.ensures.sound c.requires.held c.in_ok-object.ensures.object c.in_err-decode_commit-in-Commit.ensures.only)

pub returns-in_ok-decode_commit-in-Commit-clause-commit : goal.returns-in_ok-decode_commit-in-Commit-clause-commit
returns-in_ok-decode_commit-in-Commit-clause-commit g c =
    commit_is (g.O.Objects.name_of c.args.objects.now) c.sound_if_told.ensures.namer (g.O.Objects.told c.args.objects.now) c.args.name.now c.in_ok-object.object _ c.sound_if_told.ensures.sound c.requires.held c.in_ok-object.ensures.object c.in_ok-decode_commit-in-Commit.ensures.only

pub returns-in-Blob : goal.returns-in-Blob
returns-in-Blob g c =
    record { commit = tt; named = tt; text = tt; fault = not_other (g.O.Objects.name_of c.args.objects.now) c.sound_if_told.ensures.namer (g.O.Objects.told c.args.objects.now) kinds.Commit c.args.name.now c.in_ok-object.object c.sound_if_told.ensures.sound c.requires.held c.in_ok-object.ensures.object (no_commit_kind c.in_ok-object.object.kind c.in-Blob.is); sure = λ _. tt }
