use Rattle.std.proofs.Common.{codes, inl, inr}
use Rattle.std.proofs.lemmas.Result.{err_from_is_err_and}
use Rattle.gx_file.proofs.LeftTexts.{left_count, left_magic}
use Rattle.gx_file.proofs.reading.read_into.Goals as goal

pub read_records-requires : goal.read_records-requires
read_records-requires g c =
    let k = c.args.whole.now in
    let rest = c.in_ok-version.rest.now in
    let magic = left_magic k c.args.text.now c.in_ok-version.version rest c.requires.left c.in_ok-version.ensures.start in
    record { left = left_count k (codes "objects") rest c.in_ok-objects.objects c.in_ok-objects.rest.now magic c.in_ok-objects.ensures.count }

pub returns-in_err-rest-clause-memory : goal.returns-in_err-rest-clause-memory
returns-in_err-rest-clause-memory g c =
    let p = err_from_is_err_and c.from_residual-in_err-rest.result c.from_residual-in_err-rest.ensures.1 in
    rw (p.1, p.2) (λ w. (
      (c.in_ok-version.version, c.in_ok-version.rest.now),
      c.in_ok-version.ensures.start,
      (
        (c.in_ok-objects.objects, c.in_ok-objects.rest.now),
        c.in_ok-objects.ensures.count,
        inl (rw c.requires.empty at c.in_err-rest.ensures.memory w),
      ),
    ))

pub returns-in_err-rest-2-clause-memory : goal.returns-in_err-rest-2-clause-memory
returns-in_err-rest-2-clause-memory g c =
    let p = err_from_is_err_and c.from_residual-in_err-rest-2.result c.from_residual-in_err-rest-2.ensures.1 in
    rw (p.1, p.2) (λ w. (
      (c.in_ok-version.version, c.in_ok-version.rest.now),
      c.in_ok-version.ensures.start,
      (
        (c.in_ok-objects.objects, c.in_ok-objects.rest.now),
        c.in_ok-objects.ensures.count,
        inr (
          (c.read_records.new.repo.1.records, c.in_ok-rest.rest.now),
          rw c.requires.empty at c.in_ok-rest.ensures.records,
          ((c.in_ok-refs.refs, c.in_ok-refs.rest.now), c.in_ok-refs.ensures.count, c.in_err-rest-2.ensures.memory w),
        ),
      ),
    ))
