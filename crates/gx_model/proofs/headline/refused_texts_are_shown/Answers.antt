use Rattle.gx_model.proofs.Headlines.ShownImports.{refused_headline}
use Rattle.gx_model.proofs.headline.refused_texts_are_shown.Goals as goal

pub returns : goal.returns
returns c = refused_headline
