use Rattle.std.proofs.Common.{◌+◌, ◌≤◌, ap, arith, drop, length, map}
use Rattle.gx_rev.specs.Views.{shown_range}
use Rattle.gx_rev.proofs.Listings.{words_end, words_from}
use Rattle.gx_ranges.proofs.Spans.{all_words_added, next_word_added, next_word_refused, no_word_yet, unwanted_of_words, wanted_of_words}
use Rattle.gx_ranges.proofs.words.add_words.Goals as goal

pub loop-place-init : goal.loop-place-init
loop-place-init g c =
    let o = c.args.objects.now in
    no_word_yet (g.O.Objects.name_of o) (g.O.Objects.stands o) (map shown_range c.args.words.now) (g.O.Objects.told o) c.args.wanted.now.entries c.args.unwanted.now.entries c.requires.wanted c.requires.unwanted

pub add_word-requires-clause-wanted : goal.add_word-requires-clause-wanted
add_word-requires-clause-wanted g c =
    let o = c.args.objects.now in
    let l = c.loop-place in
    wanted_of_words (g.O.Objects.name_of o) (g.O.Objects.stands o) (map shown_range c.args.words.now) (g.O.Objects.told o) (map shown_range (drop l.place c.args.words.now)) l.place l.wanted.entries l.unwanted.entries l.invariant

pub add_word-requires-clause-unwanted : goal.add_word-requires-clause-unwanted
add_word-requires-clause-unwanted g c =
    let o = c.args.objects.now in
    let l = c.loop-place in
    unwanted_of_words (g.O.Objects.name_of o) (g.O.Objects.stands o) (map shown_range c.args.words.now) (g.O.Objects.told o) (map shown_range (drop l.place c.args.words.now)) l.place l.wanted.entries l.unwanted.entries l.invariant

pub returns-in-Err : goal.returns-in-Err
returns-in-Err g c =
    let o = c.args.objects.now in
    let l = c.loop-place in
    let words = c.args.words.now in
    let x = c.index-words-place.result in
    let from = ap (map shown_range) (words_from words l.place x c.loop-place-test.true c.index-words-place.is) in
    rw c.refused.ensures
    (next_word_refused (g.O.Objects.name_of o) (g.O.Objects.stands o) (map shown_range words) (shown_range x) (map shown_range (drop l.place words)) (map shown_range (drop (l.place + 1) words)) l.place l.wanted.entries l.unwanted.entries from
    (g.O.Objects.told o) c.in-Err.kind (l.place + 1) (omega arith) l.invariant c.in-Err.ensures)

pub loop-place-preserved : goal.loop-place-preserved
loop-place-preserved g c =
    let o = c.args.objects.now in
    let l = c.loop-place in
    let words = c.args.words.now in
    let x = c.index-words-place.result in
    let from = ap (map shown_range) (words_from words l.place x c.loop-place-test.true c.index-words-place.is) in
    next_word_added (g.O.Objects.name_of o) (g.O.Objects.stands o) (map shown_range words) (shown_range x) (map shown_range (drop l.place words)) (map shown_range (drop (l.place + 1) words)) l.place l.wanted.entries l.unwanted.entries from
    (g.O.Objects.told o) c.add_word.new.wanted.entries c.add_word.new.unwanted.entries l.invariant c.in-Ok.ensures

pub returns : goal.returns
returns g c =
    let o = c.args.objects.now in
    let l = c.loop-place in
    let words = c.args.words.now in
    let past : length words ≤ l.place = omega arith in
    let over = ap (map shown_range) (words_end words l.place past) in
    all_words_added (g.O.Objects.name_of o) (g.O.Objects.stands o) (map shown_range words) (g.O.Objects.told o) (map shown_range (drop l.place words)) l.place l.wanted.entries l.unwanted.entries over l.invariant
