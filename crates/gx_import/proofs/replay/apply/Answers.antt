use Rattle.std.proofs.Common.{◌≡◌, Result, Ok, ap, inl, inr, sym, subst, ◌∙◌}
use Rattle.gx_model.specs.declared.faults.Fault.{Fault}
use Rattle.gx_command.specs.declared.commands.Command.{Command}
use Rattle.gx_model.specs.Replay.{State, step}
use Rattle.gx_command.specs.Views.{shown_blob, shown_command, shown_commit, shown_reset, shown_tag}
use Rattle.gx_import.specs.Additions.{values_added}
use Rattle.gx_import.proofs.AppliedCommands.{added_as, clash_here, given_as, progress_as, unchanged}
use Rattle.std.proofs.Common.{refl}
use Rattle.gx_model.specs.Streams.Commands.{Asks, Progress}
use Rattle.gx_import.specs.Asking.{AsksInVain}
use Rattle.gx_import.proofs.AskedCommands.{made_vain, published_free, written_vain}
use Rattle.gx_import.proofs.Losses.{all_told, checkpoint_told}
use Rattle.gx_import.proofs.ToldCommits.{nothing_told}
use Rattle.gx_import.specs.declared.explanation.Explanation.{Explanation}
use Rattle.gx_import.proofs.KeptCheckpoints.{checkpoint_as, kept_anew, kept_here, kept_on, moved}
use Rattle.gx_import.proofs.Extended.{extended_same}
use Rattle.gx_import.proofs.ProgressTexts.{IsOther}
use Rattle.gx_import.specs.Standing.{AreTipsAtHome}
use Rattle.gx_import.proofs.TipHomes.{AreHome, always, tips_longer, tips_with}
use Rattle.gx_import.proofs.replay.apply.Goals as goal

pub returns-in-Blob-clause-steps : goal.returns-in-Blob-clause-steps
returns-in-Blob-clause-steps g c = λ s h.
    let name = g.N.Namer.name_of c.args.repo.now.0 in
    let made = shown_blob c.in-Blob.blob in
    rw c.in-Blob.is (added_as name c.args.repo.now.1 c.apply_blob.new.repo.1 c.apply_blob.new.tables s made (g.W.Sink.taken c.args.sink.now) _ (clash_here name c.args.repo.now.1 c.args.tables.now s h (values_added name s made)) c.apply_blob.result (c.apply_blob.ensures.steps s h))

pub returns-in-Commit-clause-steps : goal.returns-in-Commit-clause-steps
returns-in-Commit-clause-steps g c = λ s h.
    let name = g.N.Namer.name_of c.args.repo.now.0 in
    let made = shown_commit c.in-Commit.commit in
    rw c.in-Commit.is (added_as name c.args.repo.now.1 c.apply_commit.new.repo.1 c.apply_commit.new.tables s made (g.W.Sink.taken c.args.sink.now) _ (clash_here name c.args.repo.now.1 c.args.tables.now s h (values_added name s made)) c.apply_commit.result (c.apply_commit.ensures.steps s h))

pub returns-in-Tag-clause-steps : goal.returns-in-Tag-clause-steps
returns-in-Tag-clause-steps g c = λ s h.
    let name = g.N.Namer.name_of c.args.repo.now.0 in
    let made = shown_tag c.in-Tag.tag in
    rw c.in-Tag.is (added_as name c.args.repo.now.1 c.apply_tag.new.repo.1 c.apply_tag.new.tables s made (g.W.Sink.taken c.args.sink.now) _ (clash_here name c.args.repo.now.1 c.args.tables.now s h (values_added name s made)) c.apply_tag.result (c.apply_tag.ensures.steps s h))

pub returns-in-Reset-clause-steps : goal.returns-in-Reset-clause-steps
returns-in-Reset-clause-steps g c = λ s h.
    let name = g.N.Namer.name_of c.args.repo.now.0 in
    rw c.in-Reset.is (given_as name c.args.repo.now.1 c.args.repo.now.1 c.apply_reset.new.tables s (shown_reset c.in-Reset.reset) (g.W.Sink.taken c.args.sink.now) c.apply_reset.result (c.apply_reset.ensures.steps s h))

pub returns-in-Progress-clause-steps : goal.returns-in-Progress-clause-steps
returns-in-Progress-clause-steps g c = λ s h.
    let name = g.N.Namer.name_of c.args.repo.now.0 in
    let taken = g.W.Sink.taken in
    let wrote = rw c.as_slice.ensures.value at c.apply_progress.ensures in
    rw c.in-Progress.is (progress_as name c.args.repo.now.1 c.args.tables.now s c.in-Progress.text.items (taken c.args.sink.now) (taken c.apply_progress.new.sink) c.apply_progress.result h wrote)

pub returns-in-Checkpoint-clause-steps : goal.returns-in-Checkpoint-clause-steps
returns-in-Checkpoint-clause-steps g c = λ s h.
    let name = g.N.Namer.name_of c.args.repo.now.0 in
    rw c.in-Checkpoint.is (checkpoint_as name c.args.repo.now.1 c.apply_checkpoint.new.repo.1 c.apply_checkpoint.new.tables s (g.W.Sink.taken c.args.sink.now) c.apply_checkpoint.result (c.apply_checkpoint.ensures.published s h))

pub returns-clause-steps : goal.returns-clause-steps
returns-clause-steps g c = λ s h.
    let name = g.N.Namer.name_of c.args.repo.now.0 in
    let step_of : Command g.row.A.Denot → Result State Fault = λ command. step name s (shown_command command) in
    let is : step_of c.args.command ≡ Ok s =
    elim c.in-OptionLine.is as (λ _. step_of c.args.command ≡ Ok s) [
      | inl e ↦ ap step_of e.1
      | inr e ↦ ap step_of e
    ] in
    unchanged name c.args.repo.now.1 c.args.tables.now s (shown_command c.args.command) (g.W.Sink.taken c.args.sink.now) h is

-- ---- what is kept

pub returns-in-Blob-clause-keeps : goal.returns-in-Blob-clause-keeps
returns-in-Blob-clause-keeps g c =
    let name = g.N.Namer.name_of c.args.repo.now.0 in
    rw c.in-Blob.is (kept_on name c.args.repo.now.1 c.apply_blob.new.repo.1 c.args.tables.now c.args.checkpoints.now (shown_blob c.in-Blob.blob) tt c.requires.fits c.apply_blob.ensures.only.extends c.apply_blob.ensures.only.refs c.apply_blob.result)

pub returns-in-Blob-clause-moves : goal.returns-in-Blob-clause-moves
returns-in-Blob-clause-moves g c = inl (record { count = refl; records = refl; refs = c.apply_blob.ensures.only.refs })

pub returns-in-Commit-clause-keeps : goal.returns-in-Commit-clause-keeps
returns-in-Commit-clause-keeps g c =
    let name = g.N.Namer.name_of c.args.repo.now.0 in
    rw c.in-Commit.is (kept_on name c.args.repo.now.1 c.apply_commit.new.repo.1 c.args.tables.now c.args.checkpoints.now (shown_commit c.in-Commit.commit) tt c.requires.fits c.apply_commit.ensures.only.extends c.apply_commit.ensures.only.refs c.apply_commit.result)

pub returns-in-Commit-clause-moves : goal.returns-in-Commit-clause-moves
returns-in-Commit-clause-moves g c = inl (record { count = refl; records = refl; refs = c.apply_commit.ensures.only.refs })

pub returns-in-Tag-clause-keeps : goal.returns-in-Tag-clause-keeps
returns-in-Tag-clause-keeps g c =
    let name = g.N.Namer.name_of c.args.repo.now.0 in
    rw c.in-Tag.is (kept_on name c.args.repo.now.1 c.apply_tag.new.repo.1 c.args.tables.now c.args.checkpoints.now (shown_tag c.in-Tag.tag) tt c.requires.fits c.apply_tag.ensures.only.extends c.apply_tag.ensures.only.refs c.apply_tag.result)

pub returns-in-Tag-clause-moves : goal.returns-in-Tag-clause-moves
returns-in-Tag-clause-moves g c = inl (record { count = refl; records = refl; refs = c.apply_tag.ensures.only.refs })

pub returns-in-Reset-clause-keeps : goal.returns-in-Reset-clause-keeps
returns-in-Reset-clause-keeps g c =
    let name = g.N.Namer.name_of c.args.repo.now.0 in
    rw c.in-Reset.is (kept_here name c.args.repo.now.1 c.args.tables.now c.args.checkpoints.now (shown_reset c.in-Reset.reset) tt c.requires.fits c.apply_reset.result)

pub returns-in-Reset-clause-moves : goal.returns-in-Reset-clause-moves
returns-in-Reset-clause-moves g c = inl (record { count = refl; records = refl; refs = refl })

pub returns-in-Progress-clause-keeps : goal.returns-in-Progress-clause-keeps
returns-in-Progress-clause-keeps g c =
    let name = g.N.Namer.name_of c.args.repo.now.0 in
    rw c.in-Progress.is (kept_here name c.args.repo.now.1 c.args.tables.now c.args.checkpoints.now (Progress c.in-Progress.text.items) tt c.requires.fits c.apply_progress.result)

pub returns-in-Progress-clause-moves : goal.returns-in-Progress-clause-moves
returns-in-Progress-clause-moves g c = inl (record { count = refl; records = refl; refs = refl })

pub returns-in-Feature-clause-keeps : goal.returns-in-Feature-clause-keeps
returns-in-Feature-clause-keeps g c =
    let name = g.N.Namer.name_of c.args.repo.now.0 in
    rw c.in-Feature.is (kept_here name c.args.repo.now.1 c.args.tables.now c.args.checkpoints.now (Asks c.in-Feature.feature) tt c.requires.fits (Ok tt))

pub returns-in-Feature-clause-moves : goal.returns-in-Feature-clause-moves
returns-in-Feature-clause-moves g c = inl (record { count = refl; records = refl; refs = refl })

pub returns-clause-keeps : goal.returns-clause-keeps
returns-clause-keeps g c =
    let name = g.N.Namer.name_of c.args.repo.now.0 in
    let is_other : Command g.row.A.Denot → Type 0 = λ command. IsOther (shown_command command) in
    let other : is_other c.args.command =
    elim c.in-OptionLine.is as (λ _. is_other c.args.command) [
      | inl e ↦ subst is_other (sym e.1) tt
      | inr e ↦ subst is_other (sym e) tt
    ] in
    kept_here name c.args.repo.now.1 c.args.tables.now c.args.checkpoints.now (shown_command c.args.command) other c.requires.fits (Ok tt)

pub returns-clause-moves : goal.returns-clause-moves
returns-clause-moves g c = inl (record { count = refl; records = refl; refs = refl })

pub returns-in-Checkpoint-clause-keeps : goal.returns-in-Checkpoint-clause-keeps
returns-in-Checkpoint-clause-keeps g c =
    let name = g.N.Namer.name_of c.args.repo.now.0 in
    let ensures = c.apply_checkpoint.ensures in
    rw c.in-Checkpoint.is (kept_anew name c.args.repo.now.1 c.apply_checkpoint.new.repo.1 c.args.tables.now c.apply_checkpoint.new.tables c.args.checkpoints.now c.apply_checkpoint.new.checkpoints c.apply_checkpoint.result ensures.records ensures.next ensures.still ensures.published)

pub returns-in-Checkpoint-clause-moves : goal.returns-in-Checkpoint-clause-moves
returns-in-Checkpoint-clause-moves g c =
    moved c.args.repo.now.1 c.apply_checkpoint.new.repo.1 c.args.checkpoints.now c.apply_checkpoint.new.checkpoints c.apply_checkpoint.result c.apply_checkpoint.ensures.next c.apply_checkpoint.ensures.still

pub returns-in-Checkpoint-clause-extends : goal.returns-in-Checkpoint-clause-extends
returns-in-Checkpoint-clause-extends g c = extended_same c.args.repo.now.1.records c.apply_checkpoint.new.repo.1.records c.apply_checkpoint.ensures.records

pub returns-in-Checkpoint-clause-homes : goal.returns-in-Checkpoint-clause-homes
returns-in-Checkpoint-clause-homes g c =
    let name = g.N.Namer.name_of c.args.repo.now.0 in
    let records = c.apply_checkpoint.new.repo.1.records in
    c.apply_checkpoint.ensures.homes name records (subst (λ rs. AreTipsAtHome name rs c.args.tables.now) (sym c.apply_checkpoint.ensures.records) c.requires.homes)

pub returns-in-Blob-clause-homes : goal.returns-in-Blob-clause-homes
returns-in-Blob-clause-homes g c =
    let name = g.N.Namer.name_of c.args.repo.now.0 in
    let new = c.apply_blob.new.repo.1.records in
    let homes = tips_longer name c.records_keep_home.ensures c.records_keep_loaded.ensures c.args.repo.now.1.records new c.args.tables.now c.apply_blob.ensures.only.extends c.requires.homes in
    always _ c.apply_blob.result (tips_with name new c.args.tables.now c.apply_blob.new.tables homes c.apply_blob.ensures.loaded (subst (λ b. AreHome name new b) (sym c.apply_blob.ensures.branches) homes.tips))

pub returns-in-Tag-clause-homes : goal.returns-in-Tag-clause-homes
returns-in-Tag-clause-homes g c =
    let name = g.N.Namer.name_of c.args.repo.now.0 in
    let new = c.apply_tag.new.repo.1.records in
    let homes = tips_longer name c.records_keep_home.ensures c.records_keep_loaded.ensures c.args.repo.now.1.records new c.args.tables.now c.apply_tag.ensures.only.extends c.requires.homes in
    always _ c.apply_tag.result (tips_with name new c.args.tables.now c.apply_tag.new.tables homes c.apply_tag.ensures.loaded (subst (λ b. AreHome name new b) (sym c.apply_tag.ensures.branches) homes.tips))

pub returns-in-Reset-clause-homes : goal.returns-in-Reset-clause-homes
returns-in-Reset-clause-homes g c = c.apply_reset.ensures.homes (g.N.Namer.name_of c.args.repo.now.0) c.args.repo.now.1.records c.requires.homes

pub returns-in-Feature-clause-steps : goal.returns-in-Feature-clause-steps
returns-in-Feature-clause-steps g c = λ s h.
    let name = g.N.Namer.name_of c.args.repo.now.0 in
    rw c.in-Feature.is (given_as name c.args.repo.now.1 c.args.repo.now.1 c.apply_feature.new.tables s (Asks c.in-Feature.feature) (g.W.Sink.taken c.args.sink.now) (Ok tt) (c.apply_feature.ensures.steps name c.args.repo.now.1 s h))

pub returns-in-Feature-clause-homes : goal.returns-in-Feature-clause-homes
returns-in-Feature-clause-homes g c =
    let name = g.N.Namer.name_of c.args.repo.now.0 in
    let records = c.args.repo.now.1.records in
    tips_with name records c.args.tables.now c.apply_feature.new.tables c.requires.homes c.apply_feature.ensures.loaded (subst (λ b. AreHome name records b) (sym c.apply_feature.ensures.branches) c.requires.homes.tips)

-- ---- what is told

pub apply_commit-requires : goal.apply_commit-requires
apply_commit-requires g c = record { blank = (c.requires.blank.change, c.requires.blank.path); unasked = c.requires.blank.asked; stands = c.requires.stands; homes = c.requires.homes }

pub apply_tag-requires : goal.apply_tag-requires
apply_tag-requires g c = record { stands = c.requires.stands; unasked = c.requires.blank.asked }

pub apply_reset-requires : goal.apply_reset-requires
apply_reset-requires g c = record { unasked = c.requires.blank.asked }

pub apply_checkpoint-requires : goal.apply_checkpoint-requires
apply_checkpoint-requires g c = record { stands = c.requires.stands; room = c.requires.room; blank = c.requires.blank.loss }

pub returns-in-Commit-clause-told : goal.returns-in-Commit-clause-told
returns-in-Commit-clause-told g c = λ s h.
    let name = g.N.Namer.name_of c.args.repo.now.0 in
    rw c.in-Commit.is (all_told name s (shown_commit c.in-Commit.commit) (λ is. absurd (cc is)) c.apply_commit.new.told c.apply_commit.result (c.apply_commit.ensures.told s h) (c.apply_commit.ensures.loss ∙ c.requires.blank.loss) (c.apply_commit.ensures.asked s h))

pub returns-in-Blob-clause-told : goal.returns-in-Blob-clause-told
returns-in-Blob-clause-told g c = λ s h.
    let name = g.N.Namer.name_of c.args.repo.now.0 in
    let command = shown_blob c.in-Blob.blob in
    let none = nothing_told name s command (λ e number path none. none) c.args.told.now (c.requires.blank.change, c.requires.blank.path) c.apply_blob.result in
    let free = made_vain (AsksInVain name s command) c.args.told.now.asked c.requires.blank.asked _ _ c.apply_blob.result (step name s command) _ refl (c.apply_blob.ensures.steps s h) in
    rw c.in-Blob.is (all_told name s command (λ is. absurd (cc is)) c.args.told.now c.apply_blob.result none c.requires.blank.loss free)

pub returns-in-Tag-clause-told : goal.returns-in-Tag-clause-told
returns-in-Tag-clause-told g c = λ s h.
    let name = g.N.Namer.name_of c.args.repo.now.0 in
    let told : Explanation g.row.A.Denot = record { change = c.args.told.now.change; path = c.args.told.now.path; asked = c.apply_tag.new.asked; loss = c.args.told.now.loss } in
    let none = nothing_told name s (shown_tag c.in-Tag.tag) (λ e number path none. none) told (c.requires.blank.change, c.requires.blank.path) c.apply_tag.result in
    rw c.in-Tag.is (all_told name s (shown_tag c.in-Tag.tag) (λ is. absurd (cc is)) told c.apply_tag.result none c.requires.blank.loss (c.apply_tag.ensures.asked s h))

pub returns-in-Reset-clause-told : goal.returns-in-Reset-clause-told
returns-in-Reset-clause-told g c = λ s h.
    let name = g.N.Namer.name_of c.args.repo.now.0 in
    let told : Explanation g.row.A.Denot = record { change = c.args.told.now.change; path = c.args.told.now.path; asked = c.apply_reset.new.asked; loss = c.args.told.now.loss } in
    let none = nothing_told name s (shown_reset c.in-Reset.reset) (λ e number path none. none) told (c.requires.blank.change, c.requires.blank.path) c.apply_reset.result in
    rw c.in-Reset.is (all_told name s (shown_reset c.in-Reset.reset) (λ is. absurd (cc is)) told c.apply_reset.result none c.requires.blank.loss (c.apply_reset.ensures.asked s h))

pub returns-in-Progress-clause-told : goal.returns-in-Progress-clause-told
returns-in-Progress-clause-told g c = λ s h.
    let name = g.N.Namer.name_of c.args.repo.now.0 in
    let command = Progress c.in-Progress.text.items in
    let none = nothing_told name s command (λ e number path none. none) c.args.told.now (c.requires.blank.change, c.requires.blank.path) c.apply_progress.result in
    let free = written_vain (AsksInVain name s command) c.args.told.now.asked c.requires.blank.asked _ _ _ c.apply_progress.result c.apply_progress.ensures in
    rw c.in-Progress.is (all_told name s command (λ is. absurd (cc is)) c.args.told.now c.apply_progress.result none c.requires.blank.loss free)

pub returns-in-Feature-clause-told : goal.returns-in-Feature-clause-told
returns-in-Feature-clause-told g c = λ s h. c.requires.blank

pub returns-clause-told : goal.returns-clause-told
returns-clause-told g c = λ s h. c.requires.blank

pub returns-in-Checkpoint-clause-told : goal.returns-in-Checkpoint-clause-told
returns-in-Checkpoint-clause-told g c = λ s h.
    let name = g.N.Namer.name_of c.args.repo.now.0 in
    let told : Explanation g.row.A.Denot = record { change = c.args.told.now.change; path = c.args.told.now.path; asked = c.args.told.now.asked; loss = c.apply_checkpoint.new.loss } in
    let free = published_free name s c.apply_checkpoint.new.repo.1 c.apply_checkpoint.new.tables c.apply_checkpoint.result (c.apply_checkpoint.ensures.published s h) in
    rw c.in-Checkpoint.is (checkpoint_told name s told (c.requires.blank.change, c.requires.blank.path) c.requires.blank.asked c.apply_checkpoint.result (c.apply_checkpoint.ensures.loss s h) free)
