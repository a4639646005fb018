use Rattle.gx_model.proofs.Revisions.Bases.{by_digits, by_none, by_ref, ref_found}
use Rattle.gx_rev.proofs.base.eval_base.Goals as goal

pub returns-in-Some-clause-value : goal.returns-in-Some-clause-value
returns-in-Some-clause-value g c =
    by_ref (g.N.Namer.name_of c.args.repo.now.0) (g.met.N.Namer.is_namer c.args.repo.now.0) c.args.repo.now.1 c.sound.ensures c.args.base.now c.in-Some.name.bytes c.if-is_full_name.ensures (rw c.in-Some.is at c.in_ok-name.ensures)

pub returns-in-Some-clause-held : goal.returns-in-Some-clause-held
returns-in-Some-clause-held g c =
    (ref_found (g.N.Namer.name_of c.args.repo.now.0) (g.met.N.Namer.is_namer c.args.repo.now.0) c.args.repo.now.1 c.sound.ensures c.args.base.now c.in-Some.name.bytes (rw c.in-Some.is at c.in_ok-name.ensures)).1

pub returns-then-is_abbreviation-clause-value : goal.returns-then-is_abbreviation-clause-value
returns-then-is_abbreviation-clause-value g c =
    rw (by_digits (g.N.Namer.name_of c.args.repo.now.0) (g.met.N.Namer.is_namer c.args.repo.now.0) c.args.repo.now.1 c.sound.ensures c.args.base.now c.if-is_full_name.ensures (rw c.in_default.is at c.in_ok-name.ensures) c.if-is_abbreviation.ensures) c.find_digits.ensures.value

pub returns-else-is_abbreviation-clause-value : goal.returns-else-is_abbreviation-clause-value
returns-else-is_abbreviation-clause-value g c =
    by_none (g.N.Namer.name_of c.args.repo.now.0) (g.met.N.Namer.is_namer c.args.repo.now.0) c.args.repo.now.1 c.sound.ensures c.args.base.now c.if-is_full_name.ensures (rw c.in_default.is at c.in_ok-name.ensures) c.if-is_abbreviation.ensures
