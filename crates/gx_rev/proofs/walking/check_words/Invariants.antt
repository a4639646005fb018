use Rattle.std.proofs.Common.{List, drop, map}
use Rattle.gx_model.specs.Records.HistoryOf.{history_of}
use Rattle.gx_model.specs.Revisions.Ranges.{Word, word_denoted}
use Rattle.gx_rev.specs.Views.{shown_range}
use Rattle.gx_rev.proofs.Listings.{AreRead}
use Rattle.gx_rev.proofs.walking.check_words.Given as goal

abbrev pub invariant-loop-place : goal.invariant-loop-place
invariant-loop-place g l =
    (done : List Word) × AreRead (word_denoted (g.N.Namer.name_of l.repo.0) (history_of l.repo.1)) (map shown_range l.words) (map shown_range (drop l.place l.words)) l.place done
