use Rattle.std.proofs.Common.{ap}
use Rattle.gx_model.specs.Revisions.{revision_of}
use Rattle.gx_model.specs.Revisions.Ranges.{each_word}
use Rattle.gx_text.specs.Lent.{lent_texts}
use Rattle.gx_print.specs.Stored.{all_words}
use Rattle.gx_cli.proofs.ReadWords.{read_refused}
use Rattle.gx_cli.proofs.rev_parse.revisions_of.Goals as goal

pub returns-in-Ok : goal.returns-in-Ok
returns-in-Ok g c = ap all_words c.in-Ok.ensures

pub returns-in-Err : goal.returns-in-Err
returns-in-Err g c = rw c.refused.ensures (read_refused (each_word revision_of (lent_texts c.args.words.now)) c.in-Err.fault.word c.in-Err.fault.kind c.in-Err.ensures)
