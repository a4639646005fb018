use Rattle.gx_model.proofs.Headlines.ShownImports.{headline}
use Rattle.gx_model.proofs.headline.texts_are_shown.Goals as goal

pub returns : goal.returns
returns c = headline
