-- What the lines of a push want of refs. Source: git-push(1), "--force-with-lease", "--force" and "--delete".
use Rattle.std.specs.Prelude.{◌==◌, if◌then◌else◌, List, [], ◌∷◌, map, take, drop, replicate, Option, None, Some, Result, Ok, Err}
use Rattle.std.specs.Option.{option_eq}
use Rattle.std.specs.Borrow.{Bor}
use Rattle.gx_model.specs.Objects.Naming.{name_in}
use Rattle.gx_model.specs.Records.Publishing.{Ref}
use Rattle.gx_model.specs.Texts.{Bytes, same_bytes}
use Rattle.gx_object.specs.Parts.{bytes_if}
use Rattle.gx_object.specs.declared.name.Name.{Name}
use Rattle.gx_repo.specs.Dropping.{is_among}
use Rattle.gx_repo.specs.Refs.{object_named}
use Rattle.gx_push.specs.Lines.{Refusal, read_lines}
use Rattle.gx_push.specs.declared.want.Fate.{Fate}
use Rattle.gx_push.specs.declared.want.Fate.TheVariants.{Advance, Lose, Vanish}
use Rattle.gx_push.specs.declared.want.Want.{Want}
use Rattle.gx_push.specs.declared.fault.RefFault.{RefFault}
use Rattle.gx_push.specs.declared.fault.RefFault.TheVariants.{BadLine, RefMoved}

-- a ref, the object that it has to hold before, if any, and what may become of it
pub record Wanted : Type 0 where
  pub fate : Fate
  pub old : Option Bytes
  pub ref : Bytes

-- the sign at the front of a line, and what follows it
abbrev pub fate_in : Bytes → Fate × Bytes
fate_in [] = (Advance, [])
fate_in (b ∷ bs) = if b == 43 then (Lose, bs) else if b == 45 then (Vanish, bs) else (Advance, b ∷ bs)

-- what 40 digits give, by the object that is named: zeros name none
abbrev pub unless_zeros : Option Bytes → Option (Option Bytes)
unless_zeros None = None
unless_zeros (Some object) = Some (if same_bytes object (replicate 20 0) then None else Some object)

-- the object of 40 digits, which is none where they are zeros
abbrev pub value_in : Bytes → Option (Option Bytes)
value_in digits = unless_zeros (name_in digits)

-- what stands behind a space
abbrev pub behind_space : Bytes → Option Bytes
behind_space [] = None
behind_space (b ∷ bs) = if b == 32 then Some bs else None

-- a fate, an object and a name, where there are those
abbrev pub wanted : Fate → Option (Option Bytes) → Option Bytes → Option Wanted
wanted fate None name = None
wanted fate (Some old) None = None
wanted fate (Some old) (Some name) = Some (record { fate = fate; old = old; ref = name })

-- what a line wants: a sign, where there is one, 40 digits, a space and a ref's name
abbrev pub want_in : Bytes → Option Wanted
want_in line = wanted (fate_in line).0 (value_in (take 40 (fate_in line).1)) (behind_space (drop 40 (fate_in line).1))

-- ---- all lines

-- the ref that is told of
abbrev pub ref_of : Wanted → Bytes
ref_of want = want.ref

-- the names of the refs that are told of
abbrev pub refs_of : List Wanted → List Bytes
refs_of = map ref_of

-- what is wanted of a ref, where it is so
abbrev pub unless_moved : List Ref → Wanted → Result Wanted RefFault
unless_moved refs want = if option_eq same_bytes want.old (object_named refs want.ref) then Ok want else Err RefMoved

-- what a line wants, where it is a line, its ref none of these, and so as the line has it
abbrev pub held_want : List Ref → List Bytes → Option Wanted → Result Wanted RefFault
held_want refs names None = Err BadLine
held_want refs names (Some want) = if is_among names want.ref then Err BadLine else unless_moved refs want

-- what a line wants of a ref that is none of these, and so as the line has it
abbrev pub want_of : List Ref → List Bytes → Bytes → Result Wanted RefFault
want_of refs names line = held_want refs names (want_in line)

-- what lines want, or the first that is refused
abbrev pub wants_in : List Ref → List Bytes → Result (List Wanted) Refusal
wants_in refs lines = read_lines ref_of (want_of refs) lines

-- ---- as the code has them

abbrev pub shown_want : Want → Wanted
shown_want want = record { fate = want.fate; old = bytes_if want.old; ref = want.name.now }

abbrev pub shown_fate : Fate × Bor Bytes → Fate × Bytes
shown_fate given = (given.0, given.1.now)

abbrev pub shown_value : Option Name → Option Bytes
shown_value = bytes_if

abbrev pub shown_wants : List Want → List Wanted
shown_wants = map shown_want
