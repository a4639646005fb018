-- What a pointer owns that is kept for C.
use Rattle.std.specs.Prelude.{Option, Some, None}
use base.Fml.{Fml, ftrue}
use denote.RattleType.{RattleType}
use denote.RawPtr.{Ptr}
use Rattle.std.specs.contracts.impls.GlobalAllocator.TheImpl.{ghosts}
use Rattle.std.specs.Box.Ownership.{box_owns}
use Rattle.std.specs.declared.alloc.Global.{Global}

-- the heap of the C library
abbrev pub heap : Global
heap = record { memory = record { seal = tt } }

-- the value of this type in a block of that heap, with the right to free it
abbrev pub is_owned : (R : RattleType) → Ptr → R.Denot → Fml
is_owned R p x = box_owns (ghosts.dealloc_token heap) R p x

-- the same, where there is a value
abbrev pub is_held : (R : RattleType) → Ptr → Option R.Denot → Fml
is_held R p None = ftrue
is_held R p (Some x) = is_owned R p x
