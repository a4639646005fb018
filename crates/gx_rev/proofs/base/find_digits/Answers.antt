use Rattle.gx_store.specs.declared.prefix.Prefix.TheVariants as prefix
use Rattle.gx_rev.proofs.Prefixes.{prefix_tells}
use Rattle.gx_rev.proofs.base.find_digits.Goals as goal

pub returns-in-Unique-clause-value : goal.returns-in-Unique-clause-value
returns-in-Unique-clause-value g c =
    (prefix_tells (g.N.Namer.name_of c.args.repo.now.0) (g.met.N.Namer.is_namer c.args.repo.now.0) c.args.repo.now.1 c.store.ensures.sound c.args.digits.now (prefix.Unique c.in-Unique.name) (rw c.store.ensures.held at c.in-Unique.ensures)).0

pub returns-in-Unique-clause-held : goal.returns-in-Unique-clause-held
returns-in-Unique-clause-held g c =
    (prefix_tells (g.N.Namer.name_of c.args.repo.now.0) (g.met.N.Namer.is_namer c.args.repo.now.0) c.args.repo.now.1 c.store.ensures.sound c.args.digits.now (prefix.Unique c.in-Unique.name) (rw c.store.ensures.held at c.in-Unique.ensures)).1

pub returns-in-Absent-clause-value : goal.returns-in-Absent-clause-value
returns-in-Absent-clause-value g c =
    prefix_tells (g.N.Namer.name_of c.args.repo.now.0) (g.met.N.Namer.is_namer c.args.repo.now.0) c.args.repo.now.1 c.store.ensures.sound c.args.digits.now prefix.Absent (rw c.store.ensures.held at c.in-Absent.ensures)

pub returns-in-Ambiguous-clause-value : goal.returns-in-Ambiguous-clause-value
returns-in-Ambiguous-clause-value g c =
    prefix_tells (g.N.Namer.name_of c.args.repo.now.0) (g.met.N.Namer.is_namer c.args.repo.now.0) c.args.repo.now.1 c.store.ensures.sound c.args.digits.now prefix.Ambiguous (rw c.store.ensures.held at c.in-Ambiguous.ensures)
