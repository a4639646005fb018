-- Lines that tell of refs, each of one that no line before it tells of.
use Rattle.std.specs.Prelude.{ℕ, ◌+◌, List, [], ◌∷◌, ◌++◌, length, map, Result, Ok, Err}
use Rattle.gx_model.specs.Texts.{Bytes}
use Rattle.gx_push.specs.declared.fault.RefFault.{RefFault}

-- the line with this number, from 1, and what is against it
abbrev pub Refusal : Type 0
Refusal = ℕ × RefFault

module _ {X : Type 0} (name : X → Bytes) (read : List Bytes → Bytes → Result X RefFault) where
  -- what lines tell, behind those that tell this, each by the names that are told of before it; or the first that is refused
  abbrev pub read_behind : List X → List Bytes → Result (List X) Refusal
  read_behind before [] = Ok before
  read_behind before (l ∷ ls) =
      elim (read (map name before) l) [
        | Ok told ↦ read_behind (before ++ told ∷ []) ls
        | Err fault ↦ Err (length before + 1, fault)
      ]

  -- what lines tell, or the first that is refused
  abbrev pub read_lines : List Bytes → Result (List X) Refusal
  read_lines lines = read_behind [] lines
