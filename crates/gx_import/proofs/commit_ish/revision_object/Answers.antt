use Rattle.std.proofs.Common.{ap, ◌∙◌}
use Rattle.gx_model.specs.Faults.{◌>>=◌}
use Rattle.gx_model.specs.Revisions.Denotation.{shown_value, value_denoted}
use Rattle.gx_model.specs.Records.HistoryOf.{history_of}
use Rattle.gx_model.proofs.Records.HeldValues.{held_is}
use Rattle.gx_import.proofs.commit_ish.revision_object.Goals as goal

pub returns-in-Object-clause-shows : goal.returns-in-Object-clause-shows
returns-in-Object-clause-shows g c =
    let name = g.N.Namer.name_of c.args.repo.now.0 in
    let r = c.args.repo.now.1 in
    let shown = rw c.in-Object.is at c.in_ok-kind.ensures.shown in
    let named = rw c.in-Object.is at c.in_ok-kind.ensures.named in
    let held = held_is name (g.met.N.Namer.is_namer c.args.repo.now.0) r c.sound.ensures c.in-Object.name.bytes named.2 in
    (_, ap (λ x. x >>= λ v. value_denoted name (history_of r) v) c.in_ok-revision.ensures.revision ∙ ap (λ d. d >>= shown_value) shown, record { stands = held.stands; kind = named.0; named = named.1 })
