use Rattle.std.proofs.Common.{◌≡◌, ◌-◌, length, Ok, Err, sym, ap, subst, ◌∙◌, arith}
use Rattle.std.proofs.lemmas.Result.{err_from_is_err_and}
use Rattle.gx_model.specs.Histories.{Records}
use Rattle.gx_model.specs.Records.HistoryOf.{history_of}
use Rattle.gx_model.specs.Records.Sound.{IsSound}
use Rattle.gx_model.specs.Streams.Gitlinks.{HoldsSayable}
use Rattle.gx_import.specs.Imports.{Imports, Leaves}
use Rattle.gx_import.specs.Keeping.{IsLeft, left_of}
use Rattle.gx_import.specs.Losing.{TellsLoss}
use Rattle.gx_import.specs.Publishing.{Publishes}
use Rattle.gx_import.specs.Reading.{IsAskedOf}
use Rattle.gx_import.specs.Replaying.{EndsAs}
use Rattle.gx_import.specs.Standing.{Stands}
use Rattle.gx_import.specs.declared.explanation.Explanation.{Explanation}
use Rattle.gx_import.specs.declared.report.Report.{Report}
use Rattle.gx_import.proofs.Publications.{imports_all, imports_none, one_last}
use Rattle.gx_import.proofs.ReachedStates.{same_records_keep, told_last}
use Rattle.gx_import.proofs.importing.replay_into.Goals as goal

pub replay_commands-requires : goal.replay_commands-requires
replay_commands-requires g c = record { blank = c.requires.blank; empty = c.requires.empty; none = c.requires.none; most = omega (arith, c.asking-reader.ensures.most) }

pub publish-requires : goal.publish-requires
publish-requires g c =
    let k = c.in_ok-commands.ensures.replayed c.args.features (g.R.Source.coming c.args.source) (sym c.requires.forced) (record { commands = c.asking-reader.ensures.commands; items = c.asking-reader.ensures.explains }) in
    record { blank = (c.in_ok-commands.ensures.explained c.args.features (g.R.Source.coming c.args.source) (sym c.requires.forced) (record { commands = c.asking-reader.ensures.commands; items = c.asking-reader.ensures.explains })).loss; stands = (k.0, subst (λ n. Stands (g.N.Namer.name_of n) c.replay_commands.new.repo.1 c.replay_commands.new.tables k.0) {y = c.replay_commands.new.repo.0} (sym {a = c.replay_commands.new.repo.0} c.replay_commands.ensures.namer) k.1) }

pub returns-in-Err-clause-replayed : goal.returns-in-Err-clause-replayed
returns-in-Err-clause-replayed g c =
    let k = c.in_ok-commands.ensures.replayed c.args.features (g.R.Source.coming c.args.source) (sym c.requires.forced) (record { commands = c.asking-reader.ensures.commands; items = c.asking-reader.ensures.explains }) in
    let stands = subst (λ n. Stands (g.N.Namer.name_of n) c.replay_commands.new.repo.1 c.replay_commands.new.tables k.0) {y = c.replay_commands.new.repo.0} (sym {a = c.replay_commands.new.repo.0} c.replay_commands.ensures.namer) k.1 in
    let left = left_of c.replay_commands.new.checkpoints c.publish.new.repo.1 in
    let leaves = subst (λ (r : g.row.N.Denot × Records). Leaves (left_of c.replay_commands.new.checkpoints r.1) c.replay_commands.new.checkpoints.count k.0.kept) (sym c.in-Err.ensures.unchanged) k.2 in
    imports_none c.args.features (g.N.Namer.name_of c.args.repo.now.0) c.args.repo.now.1 left c.publish.new.repo.1 c.publish.new.tables (g.R.Source.coming c.args.source) c.in_ok-commands.commands k.0 (g.W.Sink.taken c.args.sink.now) (g.W.Sink.taken c.replay_commands.new.sink) k.3
    c.replay_commands.new.checkpoints.count leaves c.in-Err.kind (subst (λ n. Publishes (g.N.Namer.name_of n) k.0 c.publish.new.repo.1 c.publish.new.tables (Err c.in-Err.kind)) {y = c.args.repo.now.0} c.replay_commands.ensures.namer (c.in-Err.ensures.published k.0 stands))

pub returns-in-Err-clause-left : goal.returns-in-Err-clause-left
returns-in-Err-clause-left g c =
    let left = subst (λ (r : g.row.N.Denot × Records). IsLeft c.args.repo.now.1 r.1 c.replay_commands.new.checkpoints) (sym c.in-Err.ensures.unchanged) c.replay_commands.ensures.left in
    record { fits = left.fits; front = left.front; targets = left.targets; none = left.none }

pub returns-in-Err-clause-gitlinks : goal.returns-in-Err-clause-gitlinks
returns-in-Err-clause-gitlinks g c = λ none.
    let name = g.N.Namer.name_of c.args.repo.now.0 in
    let law = c.histories_of_records.ensures name (g.met.N.Namer.is_namer c.args.repo.now.0) in
    let left = c.replay_commands.ensures.gitlinks_left (law.stands c.args.repo.now.1 c.store.ensures.sound).history none in
    subst (λ (r : g.row.N.Denot × Records). HoldsSayable (history_of (left_of c.replay_commands.new.checkpoints r.1))) (sym c.in-Err.ensures.unchanged) left

pub returns-clause-replayed : goal.returns-clause-replayed
returns-clause-replayed g c =
    let k = c.in_ok-commands.ensures.replayed c.args.features (g.R.Source.coming c.args.source) (sym c.requires.forced) (record { commands = c.asking-reader.ensures.commands; items = c.asking-reader.ensures.explains }) in
    let name = g.N.Namer.name_of c.args.repo.now.0 in
    let old = c.args.repo.now.1 in
    let new = c.publish.new.repo.1 in
    let coming = g.R.Source.coming c.args.source in
    let was = g.W.Sink.taken c.args.sink.now in
    let now = g.W.Sink.taken c.replay_commands.new.sink in
    let stands = subst (λ n. Stands (g.N.Namer.name_of n) c.replay_commands.new.repo.1 c.replay_commands.new.tables k.0) {y = c.replay_commands.new.repo.0} (sym {a = c.replay_commands.new.repo.0} c.replay_commands.ensures.namer) k.1 in
    let sounds = subst (λ n. IsSound (g.N.Namer.name_of n) new) {y = c.args.repo.now.0} (c.publish.ensures.namer ∙ c.replay_commands.ensures.namer) c.store-2.ensures.sound in
    let law = c.histories_of_records.ensures name (g.met.N.Namer.is_namer c.args.repo.now.0) in
    let held = c.len-held.ensures.count ∙ ap (λ z. length z.1) c.store.ensures.held in
    let published = subst (λ n. Publishes (g.N.Namer.name_of n) k.0 new c.publish.new.tables (Ok tt)) {y = c.args.repo.now.0} c.replay_commands.ensures.namer (c.in_default.ensures.published k.0 stands) in
    let len = c.len.ensures.count ∙ ap (λ z. length z.1) c.store-2.ensures.held in
    let all = imports_all c.args.features name old new c.publish.new.tables coming c.in_ok-commands.commands k.0 was now k.3 law c.store.ensures.sound sounds c.published_refs.result published (c.published_refs.ensures ∙ published.2) in
    let objects : length new.records - length old.records ≡ c.len.result - c.len-held.result = ap (λ x. x - length old.records) (sym len) ∙ ap (λ x. c.len.result - x) (sym held) in
    subst (λ x. Imports c.args.features name old new coming was now (Ok (record { commands = c.in_ok-commands.commands; objects = x; refs = c.published_refs.result }))) objects all

pub returns-in_err-commands-clause-gitlinks : goal.returns-in_err-commands-clause-gitlinks
returns-in_err-commands-clause-gitlinks g c = λ none.
    let p = err_from_is_err_and c.from_residual.result c.from_residual.ensures.1 in
    let law = c.histories_of_records.ensures (g.N.Namer.name_of c.args.repo.now.0) (g.met.N.Namer.is_namer c.args.repo.now.0) in
    rw p.1 (c.replay_commands.ensures.gitlinks_left (law.stands c.args.repo.now.1 c.store.ensures.sound).history none)

pub returns-clause-gitlinks : goal.returns-clause-gitlinks
returns-clause-gitlinks g c = λ none.
    let name = g.N.Namer.name_of c.args.repo.now.0 in
    let law = c.histories_of_records.ensures name (g.met.N.Namer.is_namer c.args.repo.now.0) in
    same_records_keep c.replay_commands.new.repo.1 c.publish.new.repo.1 c.publish.ensures.records (c.in_ok-commands.ensures.gitlinks (law.stands c.args.repo.now.1 c.store.ensures.sound).history none)

pub returns-in_err-commands-clause-replayed : goal.returns-in_err-commands-clause-replayed
returns-in_err-commands-clause-replayed g c =
    let p = err_from_is_err_and c.from_residual.result c.from_residual.ensures.1 in
    rw (p.1, p.2) (c.in_err-commands.ensures.replayed c.args.features (g.R.Source.coming c.args.source) (sym c.requires.forced) (record { commands = c.asking-reader.ensures.commands; items = c.asking-reader.ensures.explains }))

-- ---- what is told

pub returns-in_err-commands-clause-explained : goal.returns-in_err-commands-clause-explained
returns-in_err-commands-clause-explained g c =
    let p = err_from_is_err_and c.from_residual.result c.from_residual.ensures.1 in
    rw (p.1, p.2) (c.in_err-commands.ensures.explained c.args.features (g.R.Source.coming c.args.source) (sym c.requires.forced) (record { commands = c.asking-reader.ensures.commands; items = c.asking-reader.ensures.explains }))

pub returns-in-Err-clause-explained : goal.returns-in-Err-clause-explained
returns-in-Err-clause-explained g c =
    let blank = c.in_ok-commands.ensures.explained c.args.features (g.R.Source.coming c.args.source) (sym c.requires.forced) (record { commands = c.asking-reader.ensures.commands; items = c.asking-reader.ensures.explains }) in
    let k = c.in_ok-commands.ensures.replayed c.args.features (g.R.Source.coming c.args.source) (sym c.requires.forced) (record { commands = c.asking-reader.ensures.commands; items = c.asking-reader.ensures.explains }) in
    let stands = subst (λ n. Stands (g.N.Namer.name_of n) c.replay_commands.new.repo.1 c.replay_commands.new.tables k.0) {y = c.replay_commands.new.repo.0} (sym {a = c.replay_commands.new.repo.0} c.replay_commands.ensures.namer) k.1 in
    let told : Explanation g.row.A.Denot = record { change = c.replay_commands.new.told.change; path = c.replay_commands.new.told.path; asked = c.replay_commands.new.told.asked; loss = c.publish.new.loss } in
    let loss = subst (λ n. TellsLoss (g.N.Namer.name_of n) k.0 c.in-Err.kind c.publish.new.loss) {y = c.args.repo.now.0} c.replay_commands.ensures.namer (c.in-Err.ensures.loss k.0 stands) in
    told_last c.args.features (g.N.Namer.name_of c.args.repo.now.0) c.args.repo.now.1 (g.R.Source.coming c.args.source) c.in_ok-commands.commands k.0 (g.W.Sink.taken c.args.sink.now) (g.W.Sink.taken c.replay_commands.new.sink) k.3 c.in-Err.kind told ((blank.change, blank.path), loss, blank.asked)
    c.replay_commands.new.checkpoints.count

pub returns-clause-explained : goal.returns-clause-explained
returns-clause-explained g c =
    let blank = c.in_ok-commands.ensures.explained c.args.features (g.R.Source.coming c.args.source) (sym c.requires.forced) (record { commands = c.asking-reader.ensures.commands; items = c.asking-reader.ensures.explains }) in
    let k = c.in_ok-commands.ensures.replayed c.args.features (g.R.Source.coming c.args.source) (sym c.requires.forced) (record { commands = c.asking-reader.ensures.commands; items = c.asking-reader.ensures.explains }) in
    let stands = subst (λ n. Stands (g.N.Namer.name_of n) c.replay_commands.new.repo.1 c.replay_commands.new.tables k.0) {y = c.replay_commands.new.repo.0} (sym {a = c.replay_commands.new.repo.0} c.replay_commands.ensures.namer) k.1 in
    record { change = blank.change; path = blank.path; asked = blank.asked; loss = c.in_default.ensures.loss k.0 stands }

-- ---- where the source tells nothing, all of it is of one replay

pub returns-in_err-commands-clause-retold : goal.returns-in_err-commands-clause-retold
returns-in_err-commands-clause-retold g c = λ none.
    let p = err_from_is_err_and c.from_residual.result c.from_residual.ensures.1 in
    let is = subst (λ o. IsAskedOf c.args.features o c.asking-reader.result) none (record { commands = c.asking-reader.ensures.commands; items = c.asking-reader.ensures.explains }) in
    rw (p.1, p.2) (c.in_err-commands.ensures.retold c.args.features (sym c.requires.forced) is)

pub returns-in-Err-clause-retold : goal.returns-in-Err-clause-retold
returns-in-Err-clause-retold g c = λ none.
    let is : IsAskedOf c.args.features (g.R.Source.coming c.args.source) c.asking-reader.result = record { commands = c.asking-reader.ensures.commands; items = c.asking-reader.ensures.explains } in
    let k = c.in_ok-commands.ensures.replayed c.args.features (g.R.Source.coming c.args.source) (sym c.requires.forced) is in
    let blank = c.in_ok-commands.ensures.explained c.args.features (g.R.Source.coming c.args.source) (sym c.requires.forced) is in
    let name = g.N.Namer.name_of c.args.repo.now.0 in
    let old = c.args.repo.now.1 in
    let n = c.in_ok-commands.commands in
    let was = g.W.Sink.taken c.args.sink.now in
    let now = g.W.Sink.taken c.replay_commands.new.sink in
    let stands = subst (λ n. Stands (g.N.Namer.name_of n) c.replay_commands.new.repo.1 c.replay_commands.new.tables k.0) {y = c.replay_commands.new.repo.0} (sym {a = c.replay_commands.new.repo.0} c.replay_commands.ensures.namer) k.1 in
    let told : Explanation g.row.A.Denot = record { change = c.replay_commands.new.told.change; path = c.replay_commands.new.told.path; asked = c.replay_commands.new.told.asked; loss = c.publish.new.loss } in
    let loss = subst (λ n. TellsLoss (g.N.Namer.name_of n) k.0 c.in-Err.kind c.publish.new.loss) {y = c.args.repo.now.0} c.replay_commands.ensures.namer (c.in-Err.ensures.loss k.0 stands) in
    let left = left_of c.replay_commands.new.checkpoints c.publish.new.repo.1 in
    let leaves = subst (λ (r : g.row.N.Denot × Records). Leaves (left_of c.replay_commands.new.checkpoints r.1) c.replay_commands.new.checkpoints.count k.0.kept) (sym c.in-Err.ensures.unchanged) k.2 in
    let published = subst (λ n. Publishes (g.N.Namer.name_of n) k.0 c.publish.new.repo.1 c.publish.new.tables (Err c.in-Err.kind)) {y = c.args.repo.now.0} c.replay_commands.ensures.namer (c.in-Err.ensures.published k.0 stands) in
    one_last c.args.features name old left c.publish.new.repo.1 c.publish.new.tables n k.0 was now (subst (λ o. EndsAs c.args.features name old o n k.0 was now) none k.3) c.replay_commands.new.checkpoints.count leaves c.in-Err.kind published told ((blank.change, blank.path), loss, blank.asked)

pub returns-clause-retold : goal.returns-clause-retold
returns-clause-retold g c = λ none.
    let name = g.N.Namer.name_of c.args.repo.now.0 in
    let report : Report = record { commands = c.in_ok-commands.commands; objects = c.len.result - c.len-held.result; refs = c.published_refs.result } in
    let replays = subst (λ o. Imports c.args.features name c.args.repo.now.1 c.publish.new.repo.1 o (g.W.Sink.taken c.args.sink.now) (g.W.Sink.taken c.replay_commands.new.sink) (Ok report)) none (returns-clause-replayed g c) in
    (replays.0, replays.1, replays.2, returns-clause-explained g c)
