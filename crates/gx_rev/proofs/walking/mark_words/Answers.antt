use Rattle.std.proofs.Common.{◌+◌, ◌≤◌, ◌++◌, ◌∷◌, [], ap, subst, arith, drop, length, map}
use Rattle.gx_model.specs.Records.HistoryOf.{history_of}
use Rattle.gx_model.specs.Revisions.Ranges.{word_denoted}
use Rattle.gx_rev.specs.Views.{shown_range}
use Rattle.gx_rev.proofs.Listings.{AreDone, all_done, next_done, next_fails, none_done, word_fails, words_end, words_from}
use Rattle.gx_rev.proofs.walking.mark_words.Goals as goal

pub loop-place-init : goal.loop-place-init
loop-place-init g c = (
  ([], none_done (word_denoted (g.N.Namer.name_of c.args.repo.now.0) (history_of c.args.repo.now.1)) c.args.repo.now.1 (map shown_range c.args.words.now) c.args.included.now c.args.excluded.now c.requires.included c.requires.excluded),
  c.requires.holds,
)

pub mark_word-requires-clause-included : goal.mark_word-requires-clause-included
mark_word-requires-clause-included g c = c.loop-place.invariant.0.1.included.long

pub mark_word-requires-clause-excluded : goal.mark_word-requires-clause-excluded
mark_word-requires-clause-excluded g c = c.loop-place.invariant.0.1.excluded.long

pub returns-in-Err-clause-tips : goal.returns-in-Err-clause-tips
returns-in-Err-clause-tips g c =
    let name = g.N.Namer.name_of c.args.repo.now.0 in
    let h = history_of c.args.repo.now.1 in
    let f = word_denoted name h in
    let all = map shown_range c.args.words.now in
    let x = c.index-words-place.result in
    let left = map shown_range (drop (c.loop-place.place + 1) c.args.words.now) in
    let inv = c.loop-place.invariant.0 in
    let from = ap (map shown_range) (words_from c.args.words.now c.loop-place.place x c.loop-place-test.true c.index-words-place.is) in
    let now = subst (λ ws. AreDone f c.args.repo.now.1 all ws c.loop-place.place c.loop-place.included c.loop-place.excluded inv.0) from inv.1 in
    rw c.refused.ensures (word_fails name h all c.loop-place.place c.in-Err.kind (shown_range x) c.in-Err.ensures.marks
    (λ k e. next_fails f all left (shown_range x) c.loop-place.place inv.0 k e now.words) (c.loop-place.place + 1) (omega arith))

pub loop-place-preserved : goal.loop-place-preserved
loop-place-preserved g c =
    let name = g.N.Namer.name_of c.args.repo.now.0 in
    let h = history_of c.args.repo.now.1 in
    let r = c.args.repo.now.1 in
    let f = word_denoted name h in
    let all = map shown_range c.args.words.now in
    let x = c.index-words-place.result in
    let left = map shown_range (drop (c.loop-place.place + 1) c.args.words.now) in
    let inv = c.loop-place.invariant.0 in
    let from = ap (map shown_range) (words_from c.args.words.now c.loop-place.place x c.loop-place-test.true c.index-words-place.is) in
    let now = subst (λ ws. AreDone f r all ws c.loop-place.place c.loop-place.included c.loop-place.excluded inv.0) from inv.1 in
    let word = c.in-Ok.ensures.marks in (
      (inv.0 ++ word.0 ∷ [], next_done f r all left (shown_range x) c.loop-place.place c.loop-place.included c.loop-place.excluded c.mark_word.new.included c.mark_word.new.excluded inv.0 word.0 word.1 word.2 word.3 now),
      c.in-Ok.ensures.holds,
    )

pub returns-clause-tips : goal.returns-clause-tips
returns-clause-tips g c =
    let r = c.args.repo.now.1 in
    let f = word_denoted (g.N.Namer.name_of c.args.repo.now.0) (history_of r) in
    let all = map shown_range c.args.words.now in
    let inv = c.loop-place.invariant.0 in
    let past : length c.args.words.now ≤ c.loop-place.place = omega arith in
    let over = ap (map shown_range) (words_end c.args.words.now c.loop-place.place past) in
    let now = subst (λ ws. AreDone f r all ws c.loop-place.place c.loop-place.included c.loop-place.excluded inv.0) over inv.1 in
    (inv.0, all_done f all c.loop-place.place inv.0 now.words, inv.1.included, inv.1.excluded)
