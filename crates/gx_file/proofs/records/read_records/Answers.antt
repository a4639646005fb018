use Rattle.std.proofs.Common.{◌∙◌}
use Rattle.std.proofs.lemmas.Result.{err_from_is_err_and}
use Rattle.gx_model.specs.Stores.StoreReading.{next_records}
use Rattle.gx_file.proofs.CountedRecords.{front_read, one_behind, one_read, one_refused}
use Rattle.gx_file.proofs.records.read_records.Goals as goal

pub returns-in_err-rest-clause-records : goal.returns-in_err-rest-clause-records
returns-in_err-rest-clause-records g c =
    let p = err_from_is_err_and c.from_residual.result c.from_residual.ensures.1 in
    let name = g.N.Namer.name_of c.args.repo.now.0 in
    rw (p.1, p.2) (one_refused name c.args.version (next_records name c.args.version c.args.count c.args.repo.now.1.records c.args.text.now) c.args.count c.loop.counter c.loop.repo.1.records c.loop.rest.now c.loop.invariant.records
    c.in_err-rest.field-0.0 c.loop-test.true (rw c.loop.invariant.namer at c.in_err-rest.ensures.record))

pub loop-preserved : goal.loop-preserved
loop-preserved g c =
    let name = g.N.Namer.name_of c.args.repo.now.0 in
    record {
      left = c.in_ok-rest.ensures.left;
      namer = c.in_ok-rest.ensures.namer ∙ c.loop.invariant.namer;
      refs = c.in_ok-rest.ensures.refs ∙ c.loop.invariant.refs;
      records = one_read name c.args.version (next_records name c.args.version c.args.count c.args.repo.now.1.records c.args.text.now) c.args.count c.loop.counter c.loop.repo.1.records c.loop.rest.now c.loop.invariant.records
          c.read_record.new.repo.1.records c.in_ok-rest.rest.now c.loop-test.true (rw c.loop.invariant.namer at c.in_ok-rest.ensures.record);
      ahead = one_behind name c.args.version c.args.repo.now.1.records c.args.text.now c.loop.counter c.loop.repo.1.records c.loop.rest.now c.loop.invariant.ahead c.read_record.new.repo.1.records c.in_ok-rest.rest.now (rw c.loop.invariant.namer at c.in_ok-rest.ensures.record);
    }

pub returns-in_err-rest-clause-memory : goal.returns-in_err-rest-clause-memory
returns-in_err-rest-clause-memory g c =
    let p = err_from_is_err_and c.from_residual.result c.from_residual.ensures.1 in
    let name = g.N.Namer.name_of c.args.repo.now.0 in
    rw (p.1, p.2) (λ w. (
      c.loop.counter,
      c.loop-test.true,
      (
        (c.loop.repo.1.records, c.loop.rest.now),
        front_read name c.args.version c.args.repo.now.1.records c.args.text.now c.loop.counter c.loop.repo.1.records c.loop.rest.now c.loop.invariant.ahead,
        rw c.loop.invariant.namer at c.in_err-rest.ensures.memory w,
      ),
    ))
