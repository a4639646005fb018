use Rattle.std.proofs.Common.{◌≡◌, length}
use Rattle.std.specs.List.{filter_map}
use Rattle.gx_model.specs.declared.objects.Kind.TheVariants as kinds
use Rattle.gx_model.specs.Pruning.{link_of, links_of}
use Rattle.gx_kept.proofs.SetMarks.{MarksListedSoFar}
use Rattle.gx_kept.proofs.links.mark_entries.Given as goal

abbrev pub invariant-loop-entry : goal.invariant-loop-entry
invariant-loop-entry g l = (length l.marks ≡ length l.fn.marks) × MarksListedSoFar l.listing (links_of kinds.Tree l.body) (filter_map link_of l.entry-iterator) l.fn.marks l.marks
