use Rattle.std.proofs.Common.{◌≡◌, map, take}
use Rattle.gx_repo.specs.Refs.{shown_ref, ref_of}
use Rattle.gx_repo.proofs.ref_list.RefList.enter_into.Given as goal

abbrev pub invariant-loop-held : goal.invariant-loop-held
invariant-loop-held g l = map ref_of l.objects.entries ≡ map shown_ref (take l.held-index l.held-items)
