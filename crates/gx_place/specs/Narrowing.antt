-- What a mode is cut to where a file gets another group, or another owner.
use Rattle.std.specs.Prelude.{Bool, true, false}
use Rattle.gx_place.specs.declared.rights.Mode.{Mode}
use Rattle.gx_place.specs.Permissions.{both}

-- one of the old group may be one of the others now, and one of the others one of the new group
abbrev pub regrouped : Bool → Mode → Mode
regrouped true m = m
regrouped false m = record { owner = m.owner; group = both m.group m.others; others = both m.group m.others }

-- who owned it is one of the group or of the others now
abbrev pub reowned : Bool → Mode → Mode
reowned true m = m
reowned false m = record { owner = m.owner; group = both m.group m.owner; others = both m.others m.owner }
