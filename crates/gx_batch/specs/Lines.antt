-- The lines of a text. Source: git-cat-file(1), "BATCH OUTPUT" and `-z`, and what git 2.39 does with a CR.
use Rattle.std.specs.Prelude.{ℕ, Bool, false, ◌==◌, ◌&&◌, if◌then◌else◌, List, [], ◌∷◌}
use Rattle.std.specs.Io.BufRead.{strip_last}
use Rattle.gx_model.specs.Texts.{Bytes}
use Rattle.gx_text.specs.Devices.{Coming}
use Rattle.gx_batch.specs.declared.ending.LineEnding.{LineEnding}
use Rattle.gx_batch.specs.declared.ending.LineEnding.TheVariants.{Lf, Nul}

-- the byte behind a line
abbrev pub byte_of : LineEnding → ℕ
byte_of Lf = 10
byte_of Nul = 0

-- a byte before the lines that follow it: the first of them begins with it, and where there is none, it is a line where the text
-- ends, and none where it fails
abbrev pub begun_with : ℕ → Bool → List Bytes → List Bytes
begun_with b fails [] = if fails then [] else (b ∷ []) ∷ []
begun_with b fails (l ∷ ls) = (b ∷ l) ∷ ls

-- the lines of a text that end with a byte, without it. The last one needs none where the text ends; where it fails, a line came only
-- with its ending
unfoldable pub lines_of : ℕ → Bytes → Bool → List Bytes
lines_of e [] fails = []
lines_of e (b ∷ bs) fails = if b == e then [] ∷ lines_of e bs fails else begun_with b fails (lines_of e bs fails)

-- whether an LF stands at the front
abbrev pub begins_with_lf : Bytes → Bool
begins_with_lf [] = false
begins_with_lf (b ∷ bs) = b == 10

-- a text without each CR that stands directly before an LF: so a line ends with CR LF as with LF
unfoldable pub without_crs : Bytes → Bytes
without_crs [] = []
without_crs (b ∷ bs) = if b == 13 && begins_with_lf bs then without_crs bs else b ∷ without_crs bs

-- a text whose lines end with one byte each
abbrev pub single_ended : LineEnding → Bytes → Bytes
single_ended Lf text = without_crs text
single_ended Nul text = text

-- a line that stood before its byte: a CR at its end isn't its own, where it ends with LF
abbrev pub trimmed : LineEnding → Bytes → Bytes
trimmed Lf line = strip_last 13 line
trimmed Nul line = line

-- the lines that a source gives
abbrev pub lines_from : LineEnding → Coming → List Bytes
lines_from ending c = lines_of (byte_of ending) (single_ended ending c.bytes) c.fails
