-- How given objects are placed among those that are held: each behind what it names. Source: gitglossary(7), "reachable".
use Rattle.std.specs.Prelude.{◌≡◌, ℕ, zero, suc, not, if◌then◌else◌, List, [], ◌∷◌, ◌++◌, length, Some, None, Ok, Err}
use Rattle.std.specs.List.{filter, AllByRecursion}
use Rattle.gx_model.specs.Texts.{Bytes, same_bytes}
use Rattle.gx_model.specs.Faults.{◌>>=◌}
use Rattle.gx_model.specs.Histories.{Record}
use Rattle.gx_model.specs.Records.Growth.{record_named, same_object}
use Rattle.gx_model.specs.Records.Sound.{AnyByRecursion}
use Rattle.gx_model.specs.Records.RecordFaults.{is_body}
use Rattle.gx_wide.specs.Placing.{BadObject, Dangling, NameHeld, Placed, links_placed, put_last, wide_links}

-- the objects of other names
abbrev pub others : Bytes → List Record → List Record
others called given = filter (λ one. not (same_bytes called one.name)) given

-- An object behind what it names, which is held, or given beside it: so one that is needed for itself dangles. What it names is so
-- many links deep at most.
unfoldable pub placed_within : ℕ → List Record → List Record → Record → Placed
placed_within zero given held new = Err (Dangling new.name new.name)
placed_within (suc n) given held new = elim (record_named held new.name) [
  | None ↦
      if is_body new.kind new.body then
      (links_placed (placed_within n (others new.name given)) (others new.name given) new.name (wide_links new.kind new.body) held >>= put_last new)
      else Err (BadObject new.name)
  | Some known ↦ if same_object known new then Ok held else Err (NameHeld new.name)
]

-- those that are left, in their order: none is more links deep than so many are given
abbrev pub placed_in_order : List Record → List Record → List Record → Placed
placed_in_order given [] held = Ok held
placed_in_order given (new ∷ later) held = placed_within (suc (length given)) given held new >>= placed_in_order given later

-- all given objects
abbrev pub placed_all : List Record → List Record → Placed
placed_all given held = placed_in_order given given held

-- ---- what comes of it

-- an object is one of these
abbrev pub IsOneOf : List Record → Record → Type 0
IsOneOf given new = AnyByRecursion (λ one. one ≡ new) given

-- Given objects are held among the others: those of before stand in front, each given one stands under its name, and none else.
pub record ArePlaced (held given now : List Record) : Type 0 where
  pub added : List Record
  pub front : now ≡ held ++ added
  pub each : AllByRecursion (λ (one : Record). record_named now one.name ≡ Some one) given
  pub none_else : AllByRecursion (IsOneOf given) added
