use Rattle.gx_model.proofs.Texts.Quotes.{quoted_text_tells, quoted_path_tells, quoted_path_refused}
use Rattle.gx_model.proofs.text_laws.quoted_paths_are_read.Goals as goal

pub returns-clause-text : goal.returns-clause-text
returns-clause-text c = quoted_text_tells

pub returns-clause-path : goal.returns-clause-path
returns-clause-path c = quoted_path_tells

pub returns-clause-fault : goal.returns-clause-fault
returns-clause-fault c = quoted_path_refused
