use Rattle.std.proofs.Common.{drop, map}
use Rattle.std.specs.Prelude.{IfSome}
use Rattle.gx_text.specs.Lent.{lent_texts}
use Rattle.gx_ref_filters.specs.Filters.{shown_filter}
use Rattle.gx_ref_filters.proofs.Filtered.{AreFiltered}
use Rattle.gx_ref_filters.proofs.filters.kept_refs.Given as goal

abbrev pub invariant-loop-place : goal.invariant-loop-place
invariant-loop-place g l = IfSome (g.O.Objects.told l.objects) (AreFiltered (g.O.Objects.name_of l.objects) (g.O.Objects.stands l.objects) (lent_texts l.patterns) (map shown_filter l.filters) l.refs (map shown_filter (drop l.place l.filters)) l.place l.kept.items)
