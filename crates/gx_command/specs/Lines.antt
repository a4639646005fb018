-- Lines and their parts, without where they lie in memory.
use Rattle.std.specs.Prelude.{Option, Some, None, Ok, if◌then◌else◌}
use Rattle.std.specs.Borrow.{Bor}
use Rattle.std.specs.Option.{option_map}
use Rattle.gx_model.specs.Texts.{Bytes}
use Rattle.gx_model.specs.Faults.{Given, ◌>>=◌}
use Rattle.gx_model.specs.Streams.Items as model
use Rattle.gx_model.specs.Streams.Items.{Line, Data}
use Rattle.gx_model.specs.Streams.Lines as grammar
use Rattle.gx_model.specs.Streams.Lines.{words_of, is_word, rest_of, bare}
use Rattle.gx_command.specs.declared.lines.Words.{Words}

-- the bytes that are lent
abbrev pub lent_bytes : Bor Bytes → Bytes
lent_bytes = λ r. r.now

-- the rest of a line, where it has one
abbrev pub shown_rest : Option (Bor Bytes) → Option Bytes
shown_rest = option_map lent_bytes

abbrev pub shown_words : Words → grammar.Words
shown_words w = record { word = w.word.now; rest = shown_rest w.rest }

-- the rest of a line that has this word
abbrev pub rest_in : Bytes → model.Item → Given (Option Bytes)
rest_in name (Data b) = Ok None
rest_in name (Line l) = if is_word (words_of l) name then (rest_of (words_of l) >>= λ r. Ok (Some r)) else Ok None

-- what a line stands for that needs no rest
abbrev pub bare_as : {Y : Type 0} → Y → grammar.Words → Given Y
bare_as y w = bare w >>= λ u. Ok y
