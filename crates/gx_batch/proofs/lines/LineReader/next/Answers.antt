use Rattle.std.proofs.Common.{◌≡◌, ◌<◌, true, false, Ok, sym, subst, arith, length, slice_range}
use Rattle.std.proofs.lemmas.Result.{err_from_is_err_and}
use Rattle.gx_batch.specs.Reading.{Reads, TakesPart, rest_of, shown_reader}
use Rattle.gx_stream.specs.Pulled.{shown_coming}
use Rattle.gx_batch.proofs.PassedBytes.{all_passed, ends_so, fails_so, has_none, has_some, passes_still, reads_no_more, same_most, still_lacks, whole_line}
use Rattle.gx_batch.proofs.lines.LineReader.next.Goals as goal

pub returns-then-branch-clause-reads : goal.returns-then-branch-clause-reads
returns-then-branch-clause-reads g c =
    let old = c.args.self.now in
    let byte = c.byte-byte.result in
    let i = c.loop-line.self in
    let line = c.loop-line.line.items in
    let now = c.take_part.new.line.items in
    let part = subst (λ t. TakesPart byte (slice_range t i.at i.end) (slice_range t c.take_part.new.at i.end) line now c.in_ok-take_part.field-0) c.deref.ensures.value c.in_ok-take_part.ensures.takes in
    let read = whole_line c.args.ending (shown_reader old (g.R.Source.coming old.source)) (g.R.Source.coming i.source) i.room (rest_of i) (slice_range i.piece.items c.take_part.new.at i.end) line now i.state c.loop-line.invariant.line c.loop-line.invariant.passes (subst (λ b. TakesPart b (rest_of i) (slice_range i.piece.items c.take_part.new.at i.end) line now true) c.byte-byte.ensures (subst (TakesPart byte (rest_of i) (slice_range i.piece.items c.take_part.new.at i.end) line now) c.if-branch.true part)) in
    subst (λ l. Reads c.args.ending (shown_reader old (g.R.Source.coming old.source)) (shown_coming i.state i.room (g.R.Source.coming i.source) (slice_range i.piece.items c.take_part.new.at i.end)) l (Ok true)) (sym c.trim.ensures) read

pub loop-line-preserved : goal.loop-line-preserved
loop-line-preserved g c =
    let old = c.args.self.now in
    let byte = c.byte-byte.result in
    let i = c.loop-line.self in
    let line = c.loop-line.line.items in
    let now = c.take_part.new.line.items in
    let was = shown_reader old (g.R.Source.coming old.source) in
    let coming = g.R.Source.coming i.source in
    let left = slice_range i.piece.items c.take_part.new.at i.end in
    let given = subst (λ t. TakesPart byte (slice_range t i.at i.end) (slice_range t c.take_part.new.at i.end) line now c.in_ok-take_part.field-0) c.deref.ensures.value c.in_ok-take_part.ensures.takes in
    let part = subst (λ b. TakesPart b (rest_of i) left line now false) c.byte-byte.ensures (subst (TakesPart byte (rest_of i) left line now) c.if-branch.false given) in
    let same = same_most c.args.ending was coming i.room (rest_of i) left line now i.state part in
    record {
      sound = c.pull.ensures.sound;
      line = still_lacks c.args.ending was coming i.room (rest_of i) left line now c.loop-line.invariant.line part;
      passes = passes_still now was _ _ (all_passed c.args.ending was coming i.room (rest_of i) left line now i.state c.loop-line.invariant.passes part) c.pull.ensures.keeps;
      most = omega (arith, c.pull.ensures.most, same, c.loop-line.invariant.most);
    }

pub returns-in-Ended-clause-reads : goal.returns-in-Ended-clause-reads
returns-in-Ended-clause-reads g c =
    let old = c.args.self.now in
    let byte = c.byte-byte.result in
    let i = c.loop-line.self in
    let line = c.loop-line.line.items in
    let now = c.take_part.new.line.items in
    let was = shown_reader old (g.R.Source.coming old.source) in
    let coming = g.R.Source.coming i.source in
    let left = slice_range i.piece.items c.take_part.new.at i.end in
    let given = subst (λ t. TakesPart byte (slice_range t i.at i.end) (slice_range t c.take_part.new.at i.end) line now c.in_ok-take_part.field-0) c.deref.ensures.value c.in_ok-take_part.ensures.takes in
    let part = subst (λ b. TakesPart b (rest_of i) left line now false) c.byte-byte.ensures (subst (TakesPart byte (rest_of i) left line now) c.if-branch.false given) in
    let long : c.take_part.new.line.len ≡ length now = omega (arith, c.take_part.new.line.ok.0) in
    ends_so c.args.ending was coming i.room (rest_of i) left line now i.state _ c.in-Ended.is c.loop-line.invariant.line c.loop-line.invariant.passes part (has_some now c.take_part.new.line.len c.is_empty.result long c.is_empty.ensures) (has_none now c.take_part.new.line.len c.is_empty.result long c.is_empty.ensures)

pub returns-in-Failed-clause-reads : goal.returns-in-Failed-clause-reads
returns-in-Failed-clause-reads g c =
    let old = c.args.self.now in
    let byte = c.byte-byte.result in
    let i = c.loop-line.self in
    let line = c.loop-line.line.items in
    let now = c.take_part.new.line.items in
    let was = shown_reader old (g.R.Source.coming old.source) in
    let coming = g.R.Source.coming i.source in
    let left = slice_range i.piece.items c.take_part.new.at i.end in
    let given = subst (λ t. TakesPart byte (slice_range t i.at i.end) (slice_range t c.take_part.new.at i.end) line now c.in_ok-take_part.field-0) c.deref.ensures.value c.in_ok-take_part.ensures.takes in
    let part = subst (λ b. TakesPart b (rest_of i) left line now false) c.byte-byte.ensures (subst (TakesPart byte (rest_of i) left line now) c.if-branch.false given) in
    fails_so c.args.ending was coming i.room (rest_of i) left line now i.state c.in-Failed.is c.loop-line.invariant.line c.loop-line.invariant.passes part

pub returns-in_err-take_part-clause-reads : goal.returns-in_err-take_part-clause-reads
returns-in_err-take_part-clause-reads g c =
    let old = c.args.self.now in
    let i = c.loop-line.self in
    let p = err_from_is_err_and c.from_residual.result c.from_residual.ensures.1 in
    let some = subst (λ t. 0 < length (slice_range t i.at i.end)) c.deref.ensures.value c.in_err-take_part.ensures.refused in
    rw (p.1, p.2) (reads_no_more c.args.ending i.state i.room (g.R.Source.coming i.source) (shown_reader old (g.R.Source.coming old.source)) _ c.loop-line.line.items _ (rest_of i) some c.loop-line.invariant.passes)
