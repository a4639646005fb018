use Rattle.std.proofs.Common.{◌≡◌, false, IfSome, refl, sym, ap, subst, ◌∙◌}
use Rattle.std.specs.Option.{option_map}
use Rattle.std.proofs.lemmas.Bool.{true≢false}
use Rattle.gx_model.specs.Laws.RepositoryLaws.{values_of}
use Rattle.gx_model.specs.Replay.{is_forward}
use Rattle.gx_model.proofs.Records.PeeledRefs.{not_unpeeled}
use Rattle.gx_import.specs.Objects.{IsCommitOf}
use Rattle.gx_import.specs.RefChanges.{IsHeldByRef}
use Rattle.gx_import.specs.Rows.{AreBoth}
use Rattle.gx_import.proofs.ForwardBranches.{forward_new, target_of}
use Rattle.gx_import.proofs.Losses.{loss_told, without_made}
use Rattle.gx_import.proofs.publishing.loss_of.Goals as goal

-- a ref that isn't there loses nothing
pub returns-in_default : goal.returns-in_default
returns-in_default g c = λ made h lost.
    let target = target_of c.args.repo.now.1 in
    absurd (true≢false (sym (ap (λ held. is_forward (option_map target held) made) c.in_default.is ∙ forward_new made) ∙ lost))

-- nor does one without a commit to move to
pub returns-in_default-commit : goal.returns-in_default-commit
returns-in_default-commit g c = λ made h lost.
    let both = subst (AreBoth (IsCommitOf (g.N.Namer.name_of c.args.repo.now.0) (values_of c.args.repo.now.1)) made) c.in_default-commit.is h in
    absurd (true≢false (sym (without_made (IsCommitOf (g.N.Namer.name_of c.args.repo.now.0) (values_of c.args.repo.now.1)) (option_map (target_of c.args.repo.now.1) c.args.object) made both) ∙ lost))

-- what a ref holds peels to a commit
pub returns-in_default-peel : goal.returns-in_default-peel
returns-in_default-peel g c = λ made h lost.
    let held = subst (λ object. IfSome object (IsHeldByRef c.args.repo.now.1)) c.in-Some.is c.requires.target in
    absurd (not_unpeeled (g.N.Namer.name_of c.args.repo.now.0) (g.met.N.Namer.is_namer c.args.repo.now.0) c.args.repo.now.1 c.peel.ensures.sound held.0 c.in-Some.object.bytes held.1 c.in_default-peel.ensures.commit)

pub returns : goal.returns
returns g c = λ made h lost.
    let name = g.N.Namer.name_of c.args.repo.now.0 in
    let r = c.args.repo.now.1 in
    let held = subst (λ object. IfSome object (IsHeldByRef r)) c.in-Some.is c.requires.target in
    let both = subst (AreBoth (IsCommitOf name (values_of r)) made) c.in-Some-commit.is h in
    rw c.in-Some.is (loss_told name (g.met.N.Namer.is_namer c.args.repo.now.0) r c.peel.ensures.sound c.args.name.now c.in-Some.object made c.in-Some-commit.new c.in-Some-peel.old held.0 held.1 c.in-Some-peel.ensures.commit both
    (subst (λ o. is_forward (option_map (target_of r) o) made ≡ false) c.in-Some.is lost) _ c.in_ok-name.ensures.items refl refl)
