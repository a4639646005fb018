-- What a text in memory begins with, as the model has it.
use Rattle.std.specs.Prelude.{◌≡◌, ◌≤◌, ◌-◌, length, drop}
use Rattle.gx_model.specs.Texts.{Bytes}
use Rattle.gx_model.specs.Streams.Items as model
use Rattle.gx_stream.specs.Faults.{shown_end}
use Rattle.gx_stream.specs.Reading.{item_of}
use Rattle.gx_stream.specs.declared.first.First.{First}
use Rattle.gx_stream.specs.declared.first.First.TheVariants.{Item, Comment, End}

abbrev pub shown_first : First → model.First
shown_first (Item item rest) = model.takes (item_of item) rest.now
shown_first (Comment rest) = model.drops rest.now
shown_first (End last) = model.ends (shown_end last)

-- the bytes of a text from some place on
abbrev pub IsEndOf : Bytes → Bytes → Type 0
IsEndOf text rest = (length rest ≤ length text) × (rest ≡ drop (length text - length rest) text)

-- what follows it is the text's own end
abbrev pub StandsBehind : Bytes → First → Type 0
StandsBehind text (Item item rest) = IsEndOf text rest.now
StandsBehind text (Comment rest) = IsEndOf text rest.now
StandsBehind text (End last) = Unit {0}
