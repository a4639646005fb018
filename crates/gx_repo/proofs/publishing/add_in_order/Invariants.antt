use Rattle.std.proofs.Common.{◌≡◌, ◌++◌, map}
use Rattle.gx_repo.specs.Refs.{shown_ref, ref_of}
use Rattle.gx_repo.proofs.publishing.add_in_order.Given as goal

abbrev pub invariant-loop-name : goal.invariant-loop-name
invariant-loop-name g l = map shown_ref l.refs.items ++ map ref_of l.name-iterator ≡ map ref_of l.fn.objects.entries
