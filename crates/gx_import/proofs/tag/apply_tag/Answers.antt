use Rattle.std.proofs.Common.{ap, ◌∙◌}
use Rattle.gx_model.specs.Replay.{State, commit_alone, committed, step}
use Rattle.gx_model.specs.Faults.{◌>>=◌}
use Rattle.gx_model.specs.Histories.Values.{Commit}
use Rattle.gx_command.specs.Views.{shown_commit_ish, shown_tag, tag_parts}
use Rattle.gx_import.specs.Asking.{AsksInVain}
use Rattle.gx_import.specs.Standing.{Follows}
use Rattle.gx_import.proofs.AddedAnswers.{fault_so}
use Rattle.gx_import.proofs.AskedCommands.{made_vain}
use Rattle.gx_import.proofs.PartAnswers.{gives_refused}
use Rattle.gx_import.proofs.Refusals.{target_answers}
use Rattle.gx_import.proofs.TagTargets.{tag_next, tag_step}
use Rattle.gx_import.proofs.tag.apply_tag.Goals as goal

pub make_tag-requires : goal.make_tag-requires
make_tag-requires g c = record { stands = c.requires.stands; target = c.in-Ok.ensures }

pub returns-in-Err-clause-steps : goal.returns-in-Err-clause-steps
returns-in-Err-clause-steps g c = λ s h.
    let name = g.N.Namer.name_of c.args.repo.now.0 in
    let t = tag_parts c.args.tag in
    gives_refused {Y = Commit} {Z = Unit {0}} {W = State} _ (λ u x. Follows name c.args.repo.now.1 c.args.tables.now s u) c.in-Err.kind (committed name commit_alone s t.target) (tag_next t s)
    (target_answers name s t.target) (c.in-Err.ensures s h)

pub returns-in-Err-clause-asked : goal.returns-in-Err-clause-asked
returns-in-Err-clause-asked g c = λ s h.
    let name = g.N.Namer.name_of c.args.repo.now.0 in
    let x = shown_commit_ish c.args.tag.from in
    (c.of_commit_ish.ensures, fault_so c.in-Err.kind (committed name commit_alone s x) (c.in-Err.ensures s h))

pub returns-in-Ok-clause-asked : goal.returns-in-Ok-clause-asked
returns-in-Ok-clause-asked g c = λ s h.
    let name = g.N.Namer.name_of c.args.repo.now.0 in
    let t = tag_parts c.args.tag in
    let k = c.in-Ok.ensures s h in
    made_vain (AsksInVain name s (shown_tag c.args.tag)) c.args.asked.now c.requires.unasked _ _ c.make_tag.result (step name s (shown_tag c.args.tag)) _ (tag_step name s t ∙ ap (λ o. o >>= tag_next t s) k.1) (c.make_tag.ensures.steps s h)
