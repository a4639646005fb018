use Rattle.std.proofs.Common.{drop, map}
use Rattle.std.specs.Prelude.{IfSome}
use Rattle.gx_rev.specs.Views.{shown_range}
use Rattle.gx_ranges.proofs.Spans.{AreWordsAdded}
use Rattle.gx_ranges.proofs.words.add_words.Given as goal

abbrev pub invariant-loop-place : goal.invariant-loop-place
invariant-loop-place g l = IfSome (g.O.Objects.told l.objects) (AreWordsAdded (g.O.Objects.name_of l.objects) (g.O.Objects.stands l.objects) (map shown_range l.words) (map shown_range (drop l.place l.words)) l.place l.wanted.entries l.unwanted.entries)
