use Rattle.gx_model.proofs.Streams.AskedFeatures.{changes_ask_once, exports_ask_once}
use Rattle.gx_model.proofs.replay_laws.features_are_asked.Goals as goal

pub returns-clause-exports : goal.returns-clause-exports
returns-clause-exports c = exports_ask_once

pub returns-clause-changes : goal.returns-clause-changes
returns-clause-changes c = changes_ask_once
