-- What a text gives from nothing comes back from its export, and from its export of changes.
use Rattle.gx_model.specs.Laws.ChangesLaws.{TextsComeBackByChanges}
use Rattle.gx_model.specs.Histories.{no_history}
use Rattle.gx_model.specs.Streams.Gitlinks.{TextsComeBack}
use Rattle.gx_model.proofs.Replay.GitlinkSteps.{none_from_text, none_reached}
use Rattle.gx_model.proofs.Replay.HistorySteps.{nothing_is, texts_give}
use Rattle.gx_model.proofs.Changes.ReadableChanges.{changes_readable}
use Rattle.gx_model.proofs.Export.ReadableExports.{formed_readable}
use Rattle.gx_model.proofs.Changes.SpelledChanges.{changes_imported}
use Rattle.gx_model.proofs.Export.SpelledExports.{export_imported}

pub texts_back : TextsComeBack
texts_back name h given fails text report e short =
    let is = texts_give name no_history h given fails text report nothing_is e in
    let none = none_reached h (none_from_text name no_history h given fails text report nothing_is tt e) in
    export_imported name h is (formed_readable h is none short)

pub changes_back : TextsComeBackByChanges
changes_back name closed h given fails text report e short =
    let is = texts_give name no_history h given fails text report nothing_is e in
    let none = none_reached h (none_from_text name no_history h given fails text report nothing_is tt e) in
    changes_imported name closed h is (changes_readable name closed h is none short)
