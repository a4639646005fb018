-- What is printed of where a command of a stream begins.
-- Source: git-fast-import(1), and grep(1), "Output Line Prefix Control".
use Rattle.std.specs.Prelude.{◌≡◌, ℕ, ◌<◌, ◌≤◌, [], ◌∷◌, ◌++◌, length, Option, Result, Err}
use Rattle.std.specs.Fmt.{decimal}
use Rattle.gx_model.specs.Texts.{Bytes}
use Rattle.gx_model.specs.Texts.Sinks.{Taken}
use Rattle.gx_text.specs.Devices.{Coming}
use Rattle.gx_where.specs.Faults.{IsWhy}
use Rattle.gx_where.specs.Places.{BeginsWith, GoesOnWith, front_line, line_at, rest_at}
use Rattle.gx_where.specs.Rests.{BeginsNoComment, Reaches}
use Rattle.gx_where.specs.declared.place.Place.{Place}
use Rattle.gx_cli.specs.Gathering.{EndsBadly, IsAllOf}
use Rattle.gx_cli.specs.Sending.{Sent}
use Rattle.gx_cli.specs.declared.fault.CliFault.{CliFault}
use Rattle.gx_cli.specs.declared.fault.CliFault.TheVariants.{OutOfMemory, ReadFailed, Where}

-- the number of the line, the byte, and what stands in the line, as `grep -bn` prints a line
abbrev pub place_line : Place → Bytes
place_line place = decimal place.line ++ 58 ∷ (decimal place.byte ++ 58 ∷ (place.first.now ++ 10 ∷ []))

-- The place at which a command of a text begins: its items are the first of what follows the place, and the commands before it come
-- before. It is behind comments and empty lines, and the end where nothing is left.
pub record IsPlace (command : ℕ) (text : Bytes) (place : Place) : Type 0 where
  pub number : 0 < command
  pub begins : BeginsWith command text (rest_at text place)
  pub commands : GoesOnWith command text (rest_at text place)
  pub within : place.byte ≤ length text
  pub reached : Reaches text (rest_at text place)
  pub item : BeginsNoComment (rest_at text place)
  pub line : place.line ≡ line_at text place.byte
  pub first : place.first.now ≡ front_line (rest_at text place)

-- the line of a place goes out; for want of memory nothing does
abbrev pub PutsPlace : Place → Option Taken → Option Taken → Result (Unit {0}) CliFault → Type 0
PutsPlace place was now (Err OutOfMemory) = now ≡ was
PutsPlace place was now result = Sent (place_line place) was now result

-- the line of a command's place in a text goes out, or it is answered why it isn't told
abbrev pub Places : ℕ → Bytes → Option Taken → Option Taken → Result (Unit {0}) CliFault → Type 0
Places command text was now (Err (Where why)) = IsWhy command text why × (now ≡ was)
Places command text was now r = (place : Place) × IsPlace command text place × PutsPlace place was now r

-- the same of all that a source gives
abbrev pub PlacesFrom : ℕ → Option Coming → Option Taken → Option Taken → Result (Unit {0}) CliFault → Type 0
PlacesFrom command coming was now (Err ReadFailed) = EndsBadly coming × (now ≡ was)
PlacesFrom command coming was now (Err OutOfMemory) = now ≡ was
PlacesFrom command coming was now r = (text : Bytes) × IsAllOf coming text × Places command text was now r
