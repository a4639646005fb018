use Rattle.std.proofs.Common.{◌+◌, ◌≤◌, ◌++◌, ◌∷◌, [], ap, subst, arith, drop, length, map}
use Rattle.gx_model.specs.Records.HistoryOf.{history_of}
use Rattle.gx_model.specs.Revisions.Ranges.{word_denoted}
use Rattle.gx_rev.specs.Views.{shown_range}
use Rattle.gx_rev.specs.RevFaults.{fault_of}
use Rattle.gx_rev.proofs.Answers.{given, is_fault, right}
use Rattle.gx_rev.proofs.Listings.{AreRead, all_done, next_fails, none_read, word_done, word_fails, words_end, words_from}
use Rattle.gx_rev.proofs.walking.check_words.Goals as goal

pub loop-place-init : goal.loop-place-init
loop-place-init g c = ([], none_read (word_denoted (g.N.Namer.name_of c.args.repo.now.0) (history_of c.args.repo.now.1)) (map shown_range c.args.words.now))

pub returns-in-Err-clause-fault : goal.returns-in-Err-clause-fault
returns-in-Err-clause-fault g c =
    let name = g.N.Namer.name_of c.args.repo.now.0 in
    let h = history_of c.args.repo.now.1 in
    let f = word_denoted name h in
    let all = map shown_range c.args.words.now in
    let x = c.index-words-place.result in
    let left = map shown_range (drop (c.loop-place.place + 1) c.args.words.now) in
    let inv = c.loop-place.invariant in
    let from = ap (map shown_range) (words_from c.args.words.now c.loop-place.place x c.loop-place-test.true c.index-words-place.is) in
    let now = subst (λ ws. AreRead f all ws c.loop-place.place inv.0) from inv.1 in
    rw c.refused.ensures (word_fails name h all c.loop-place.place c.in-Err.kind (shown_range x) (is_fault (fault_of c.in-Err.kind) (f (shown_range x)) c.in-Err.ensures.fault)
    (λ k e. next_fails f all left (shown_range x) c.loop-place.place inv.0 k e now) (c.loop-place.place + 1) (omega arith))

pub loop-place-preserved : goal.loop-place-preserved
loop-place-preserved g c =
    let f = word_denoted (g.N.Namer.name_of c.args.repo.now.0) (history_of c.args.repo.now.1) in
    let all = map shown_range c.args.words.now in
    let x = c.index-words-place.result in
    let left = map shown_range (drop (c.loop-place.place + 1) c.args.words.now) in
    let inv = c.loop-place.invariant in
    let from = ap (map shown_range) (words_from c.args.words.now c.loop-place.place x c.loop-place-test.true c.index-words-place.is) in
    let now = subst (λ ws. AreRead f all ws c.loop-place.place inv.0) from inv.1 in
    let word = given (f (shown_range x)) c.in-Ok.ensures.right in
    (inv.0 ++ word.0 ∷ [], word_done f all left (shown_range x) c.loop-place.place inv.0 word.0 word.1 now)

pub returns-clause-right : goal.returns-clause-right
returns-clause-right g c =
    let f = word_denoted (g.N.Namer.name_of c.args.repo.now.0) (history_of c.args.repo.now.1) in
    let all = map shown_range c.args.words.now in
    let inv = c.loop-place.invariant in
    let past : length c.args.words.now ≤ c.loop-place.place = omega arith in
    let over = ap (map shown_range) (words_end c.args.words.now c.loop-place.place past) in
    let now = subst (λ ws. AreRead f all ws c.loop-place.place inv.0) over inv.1 in
    right _ inv.0 (all_done f all c.loop-place.place inv.0 now)
