-- The commits of refs, line by line.
use Rattle.std.specs.Prelude.{◌≡◌, Option, Ok}
use Rattle.std.specs.Option.{option_and_then, option_map}
use Rattle.gx_model.specs.Histories.{Records}
use Rattle.gx_model.specs.Histories.Values.{Commit}
use Rattle.gx_model.specs.Objects.Naming.{lower_name_in}
use Rattle.gx_model.specs.Revisions.Denotation.{commit_in}
use Rattle.gx_model.specs.Texts.{Bytes, cut_at}
use Rattle.gx_object.specs.declared.name.Name.{Name}
use Rattle.gx_rev.specs.Objects.{IsHeld, value_at}

-- the object of a ref peels to a commit
abbrev pub IsPeeled : Name → Records → Type 0
IsPeeled called repository = IsHeld repository called × ((target : Commit) × (commit_in (value_at repository called) ≡ Ok target))

-- a ref's name, and that of its object by the digits in front of a space, with what follows the line
abbrev pub with_rest : Bytes → Bytes × Bytes → Option ((Bytes × Bytes) × Bytes)
with_rest rest parts = option_map (λ called. ((parts.1, called), rest)) (lower_name_in parts.0)

abbrev pub named_in : Bytes × Bytes → Option ((Bytes × Bytes) × Bytes)
named_in line = option_and_then (with_rest line.1) (cut_at 32 line.0)

-- the ref in the first line, and what follows the line
unfoldable pub first_ref : Bytes → Option ((Bytes × Bytes) × Bytes)
first_ref text = option_and_then named_in (cut_at 10 text)
