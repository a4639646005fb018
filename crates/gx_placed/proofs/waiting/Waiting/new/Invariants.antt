use Rattle.std.proofs.Common.{◌≡◌, map, Some}
use Rattle.gx_placed.proofs.waiting.Waiting.new.Given as goal

abbrev pub invariant-loop-object : goal.invariant-loop-object
invariant-loop-object g l = l.objects.items ≡ map Some l.yielded
