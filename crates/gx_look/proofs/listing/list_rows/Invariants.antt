use Rattle.gx_look.proofs.FollowingRecords.{LeavesBehind, StandUpTo}
use Rattle.gx_look.proofs.ListedTexts.{ListsFront}
use Rattle.gx_look.proofs.listing.list_rows.Given as goal

abbrev pub invariant-loop-row : goal.invariant-loop-row
invariant-loop-row g l =
    let told = g.S.ReadAt.text l.source in
    ListsFront told l.ends l.rows l.row-index l.listing × LeavesBehind told l.ends l.rows l.row-index l.end × StandUpTo l.end 0 l.listing
