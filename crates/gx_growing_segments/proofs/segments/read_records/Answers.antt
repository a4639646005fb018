use Rattle.std.proofs.Common.{◌-◌, ◌∷◌, ◌++◌, [], ap, length, subst, sym, ◌∙◌}
use Rattle.std.proofs.lemmas.Result.{err_from_is_err_and}
use Rattle.gx_model.specs.declared.store_versions.Version.TheVariants.{Two}
use Rattle.gx_model.specs.Stores.StoreReading.{next_records}
use Rattle.gx_growing_segments.proofs.Placed.{ArePlaced, one_placed}
use Rattle.gx_growing_segments.proofs.Steps.{one_read, one_refused}
use Rattle.gx_growing_segments.proofs.Ends.{ends_long}
use Rattle.gx_growing_segments.proofs.segments.read_records.Goals as goal

pub returns-in_err-rest-clause-records : goal.returns-in_err-rest-clause-records
returns-in_err-rest-clause-records g c =
    let p = err_from_is_err_and c.from_residual.result c.from_residual.ensures.1 in
    let name = g.N.Namer.name_of c.args.repo.now.0 in
    rw (p.1, p.2) (one_refused name (next_records name Two c.args.count c.args.repo.now.1.records c.args.text.now) c.args.count c.loop.counter c.loop.repo.1.records c.loop.rest.now c.loop.invariant.records
    c.in_err-rest.field-0.0 c.loop-test.true (rw c.loop.invariant.namer at c.in_err-rest.ensures.record))

pub loop-preserved : goal.loop-preserved
loop-preserved g c =
    let name = g.N.Namer.name_of c.args.repo.now.0 in
    let whole = c.args.whole.now in
    let before = c.args.repo.now.1.records in
    let first = c.args.places.now.items in
    let text = c.args.text.now in
    let rest = c.loop.rest.now in
    let records = c.read_record.new.repo.1.records in
    let behind = c.in_ok-rest.rest.now in
    let read = rw c.loop.invariant.namer at c.in_ok-rest.ensures.record in
    let pushed = c.in_ok-push.ensures.items ∙ ap (λ w. c.loop.places.items ++ (length w - length rest) ∷ []) c.as_slice.ensures in
    record {
      left = c.in_ok-rest.ensures.left;
      namer = c.in_ok-rest.ensures.namer ∙ c.loop.invariant.namer;
      refs = c.in_ok-rest.ensures.refs ∙ c.loop.invariant.refs;
      records = one_read name (next_records name Two c.args.count before text) c.args.count c.loop.counter c.loop.repo.1.records rest c.loop.invariant.records records behind c.loop-test.true read;
      placed = subst (λ ps. ArePlaced (length whole) before first text records ps behind) (sym pushed)
          (one_placed name (length whole) before first text c.loop.repo.1.records c.loop.places.items rest c.loop.invariant.placed (ends_long whole text c.requires.left) (records, behind) read);
    }
