-- Lines as they end: with one byte, once a CR before an LF is left out.
use Rattle.std.proofs.Common.{◌≡◌, true, [], ◌∷◌, ◌++◌, refl}
use Rattle.gx_model.specs.Texts.{Bytes, lacks}
use Rattle.gx_batch.specs.Lines.{byte_of, single_ended, trimmed}
use Rattle.gx_batch.specs.declared.ending.LineEnding.{LineEnding}
use Rattle.gx_batch.specs.declared.ending.LineEnding.TheVariants.{Lf, Nul}
use Rattle.gx_batch.proofs.LeftOutCrs.{crs_first, crs_kept, crs_none, strip_lacks}

-- a line, its ending and more
pub ended_first : (ending : LineEnding) (l rest : Bytes) → lacks (byte_of ending) l ≡ true → single_ended ending (l ++ byte_of ending ∷ rest) ≡ trimmed ending l ++ byte_of ending ∷ single_ended ending rest
ended_first Lf l rest h = crs_first l rest h
ended_first Nul l rest h = refl

pub ended_none : (ending : LineEnding) → single_ended ending [] ≡ []
ended_none Lf = crs_none
ended_none Nul = refl

-- a text without an ending stays
pub ended_kept : (ending : LineEnding) (l : Bytes) → lacks (byte_of ending) l ≡ true → single_ended ending l ≡ l
ended_kept Lf l h = crs_kept l h
ended_kept Nul l h = refl

-- a line has no ending within
pub trimmed_lacks : (ending : LineEnding) (l : Bytes) → lacks (byte_of ending) l ≡ true → lacks (byte_of ending) (trimmed ending l) ≡ true
trimmed_lacks Lf l h = strip_lacks l h
trimmed_lacks Nul l h = h
