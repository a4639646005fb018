use Rattle.std.proofs.Common.{Err, ap, subst, ◌∙◌}
use Rattle.gx_model.specs.Records.HistoryOf.{history_of}
use Rattle.gx_cli.specs.Forms.{text_as}
use Rattle.gx_cli.specs.Headline.{GivesText}
use Rattle.gx_cli.proofs.trips.export_again.Goals as goal

pub import_again-requires : goal.import_again-requires
import_again-requires g c =
    record {
      namer = c.requires.namer;
      text = c.as_slice.ensures.value ∙ c.in-Ok.ensures.0 ∙ ap (λ (n : g.row.N.Denot). text_as (g.N.Namer.name_of n) c.args.form (history_of c.args.first.now.1)) c.requires.namer;
      short = rw c.as_slice.ensures.value c.in-Ok.ensures.1;
      gitlinks = c.requires.gitlinks;
    }

pub returns-in-Ok-import_again-clause-made : goal.returns-in-Ok-import_again-clause-made
returns-in-Ok-import_again-clause-made g c = (
  c.in-Ok.ensures.0 ∙ ap (λ (n : g.row.N.Denot). text_as (g.N.Namer.name_of n) c.args.form (history_of c.args.first.now.1)) c.requires.namer,
  c.in-Ok-import_again.ensures.again,
)

pub returns-in-Err-clause-made : goal.returns-in-Err-clause-made
returns-in-Err-clause-made g c =
    subst (λ (n : g.row.N.Denot). GivesText {A = g.row.A.Denot} (text_as (g.N.Namer.name_of n) c.args.form (history_of c.args.first.now.1)) (Err c.in-Err.fault)) c.requires.namer c.in-Err.ensures
