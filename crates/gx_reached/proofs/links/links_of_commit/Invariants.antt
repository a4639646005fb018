use Rattle.std.proofs.Common.{◌≡◌, ◌++◌, drop, map}
use Rattle.gx_model.specs.declared.objects.Kind.TheVariants as kinds
use Rattle.gx_reached.specs.Links.{links_in, no_blob, shown_link}
use Rattle.gx_reached.proofs.links.links_of_commit.Given as goal

abbrev pub invariant-loop-number : goal.invariant-loop-number
invariant-loop-number g l = map shown_link l.links.items ++ map no_blob (drop l.number l.commit.parents) ≡ links_in kinds.Commit l.body
