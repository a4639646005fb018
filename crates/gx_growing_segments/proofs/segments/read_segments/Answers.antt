use Rattle.std.proofs.Common.{[], ap, length, refl, subst, sym, ◌∙◌}
use Rattle.std.proofs.lemmas.Result.{err_from_is_err_and}
use Rattle.gx_growing_segments.specs.Seen.{seen_with}
use Rattle.gx_growing_segments.proofs.Ahead.{SegmentsAhead, last_segment, no_segments, one_segment, segment_refused}
use Rattle.gx_growing_segments.proofs.Ends.{none_behind}
use Rattle.gx_growing_segments.proofs.segments.read_segments.Goals as goal

pub loop-tail-init : goal.loop-tail-init
loop-tail-init g c =
    let name = g.N.Namer.name_of c.args.repo.now.0 in
    let k = length c.args.whole.now in
    let text = c.args.text.now in
    let ps = c.args.places.now.items in
    let none = sym c.requires.none in
    let bare = sym (ap (λ r. r.records) c.requires.empty) in
    record {
      left = c.requires.left;
      namer = refl;
      refs = refl;
      aligned = ap length c.requires.none ∙ ap length bare;
      ahead = subst (λ rs. SegmentsAhead name k k text rs ps text) bare (subst (λ qs. SegmentsAhead name k k text [] qs text) none (no_segments name k k text c.requires.less));
    }

pub returns-in_err-tail-clause-segments : goal.returns-in_err-tail-clause-segments
returns-in_err-tail-clause-segments g c =
    let p = err_from_is_err_and c.from_residual.result c.from_residual.ensures.1 in
    let name = g.N.Namer.name_of c.args.repo.now.0 in
    let k = length c.args.whole.now in
    rw (p.1, p.2) (segment_refused name k k c.args.text.now c.loop-tail.repo.1.records c.loop-tail.places.items c.loop-tail.rest.now c.loop-tail.invariant.ahead
    c.in_err-tail.field-0.0 (rw c.loop-tail.invariant.namer at c.in_err-tail.ensures.segment))

pub returns-then-is_empty-clause-segments : goal.returns-then-is_empty-clause-segments
returns-then-is_empty-clause-segments g c =
    let name = g.N.Namer.name_of c.args.repo.now.0 in
    let k = length c.args.whole.now in
    let behind = c.in_ok-tail.behind.now in
    last_segment name k k c.args.text.now c.loop-tail.repo.1.records c.loop-tail.places.items c.loop-tail.rest.now c.loop-tail.invariant.ahead
    (seen_with c.read_segment.new.repo.1.records c.read_segment.new.places.items c.in_ok-tail.tail) behind (rw c.loop-tail.invariant.namer at c.in_ok-tail.ensures.segment) (none_behind behind c.if-is_empty.ensures)

pub loop-tail-preserved : goal.loop-tail-preserved
loop-tail-preserved g c =
    let name = g.N.Namer.name_of c.args.repo.now.0 in
    let k = length c.args.whole.now in
    let records = c.read_segment.new.repo.1.records in
    let places = c.read_segment.new.places.items in
    record {
      left = c.in_ok-tail.ensures.left;
      namer = c.in_ok-tail.ensures.namer ∙ c.loop-tail.invariant.namer;
      refs = c.in_ok-tail.ensures.refs ∙ c.loop-tail.invariant.refs;
      aligned = c.in_ok-tail.ensures.aligned;
      ahead = one_segment name k k c.args.text.now c.loop-tail.repo.1.records c.loop-tail.places.items c.loop-tail.rest.now c.loop-tail.invariant.ahead
          (seen_with records places c.in_ok-tail.tail) c.in_ok-tail.behind.now records places (rw c.loop-tail.invariant.namer at c.in_ok-tail.ensures.segment) refl refl (sym c.if-is_empty.ensures) c.in_ok-tail.ensures.less;
    }
