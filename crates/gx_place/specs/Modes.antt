-- The numbers of modes. Source: inode(7), "The file type and mode".
use Rattle.std.specs.Prelude.{ℕ, ◌+◌, ◌*◌, Bool, true, false}
use Rattle.gx_place.specs.declared.rights.Access.{Access}
use Rattle.gx_place.specs.declared.rights.Mode.{Mode}

-- 1 of what is so
abbrev pub bit : Bool → ℕ
bit true = 1
bit false = 0

-- 4 for reading, 2 for writing, 1 for running
abbrev pub access_number : Access → ℕ
access_number a = bit a.reads * 4 + bit a.writes * 2 + bit a.runs

-- the owner's, the group's and all others', as three octal digits
abbrev pub mode_number : Mode → ℕ
mode_number m = access_number m.owner * 64 + access_number m.group * 8 + access_number m.others
