-- The items that a source stands for.
use Rattle.std.specs.Prelude.{ℕ, ◌-◌, ◌^◌, true, length, take, nat_le, if◌then◌else◌}
use Rattle.gx_text.specs.Devices.{Coming}
use Rattle.gx_model.specs.Streams.Items.{Stream, items_of}

-- what is taken where at most so many bytes are: a source that gives more has failed after those
unfoldable pub heard_upto : ℕ → Coming → Coming
heard_upto room c = if nat_le (length c.bytes) room then c else record { bytes = take room c.bytes; fails = true }

-- what is taken from a source: at most 2 ^ 63 - 1 bytes
abbrev pub heard : Coming → Coming
heard c = heard_upto (2 ^ 63 - 1) c

-- the items of all that a source gives, with their end
abbrev pub items_from : Coming → Stream
items_from c = items_of (heard c).bytes (heard c).fails
