-- The byte order of names.
use Rattle.std.specs.Prelude.{Bool, not, ◌&&◌}
use Rattle.std.specs.Ordering.{is_le, is_lt}
use Rattle.gx_model.specs.Texts.{Bytes, byte_cmp}

-- from the first to the second, both included
abbrev pub is_within : Bytes → Bytes → Bytes → Bool
is_within least greatest name = is_le (byte_cmp least name) && not (is_lt (byte_cmp greatest name))
