-- Some items may always come.
use Rattle.std.proofs.Common.{Bool, Option, Some, None, [], ◌++◌, false, refl}
use Rattle.gx_model.specs.Texts.{Bytes}
use Rattle.gx_model.specs.Streams.Items.{Stream, items_of}
use Rattle.gx_stream.specs.Faults.{shown_end, ended}
use Rattle.gx_stream.specs.Reading.{Seen, MayCome, MayFollow, MayStandIn}
use Rattle.gx_stream.specs.declared.fault.StreamFault.{StreamFault}

some_stand : (unread : Bytes) (whole : Option Bool) → (s : Stream) × MayStandIn unread whole s
some_stand unread None = (items_of (unread ++ []) false, (record { bytes = []; fails = false }, refl))
some_stand unread (Some fails) = (items_of unread fails, refl)

some_follow : (over : Option (Option StreamFault)) (unread : Bytes) (whole : Option Bool) → (s : Stream) × MayFollow over unread whole s
some_follow None unread whole = some_stand unread whole
some_follow (Some last) unread whole = (ended (shown_end last), refl)

pub some_come : (seen : Seen) → (s : Stream) × MayCome seen s
some_come seen = some_follow seen.over seen.unread seen.whole
