use Rattle.gx_batch.proofs.SpelledLines.{lines_spell}
use Rattle.gx_batch.proofs.line_laws.lines_spell_texts.Goals as goal

pub returns : goal.returns
returns c = lines_spell
