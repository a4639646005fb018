use Rattle.std.proofs.Common.{Err, subst}
use Rattle.gx_text.specs.Lent.{lent_texts}
use Rattle.gx_repo.specs.Dropping.{Drops}
use Rattle.gx_taken.proofs.FreeRefs.{left_by_drop, never_unknown}
use Rattle.gx_taken.proofs.setting.drop_all.Goals as goal

pub returns-in-Ok-clause-dropped : goal.returns-in-Ok-clause-dropped
returns-in-Ok-clause-dropped g c =
    left_by_drop c.args.repo.now.1 c.drop_refs.new.self.1 (lent_texts c.args.names.now) c.in-Ok.ensures.records c.in-Ok.ensures.refs

pub unreachable-requires : goal.unreachable-requires
unreachable-requires g c =
    let old = c.args.repo.now.1 in
    never_unknown old.refs (lent_texts c.args.names.now) c.in-Err-UnknownRef.field-0-0 c.requires
    (subst (λ fault. Drops old.refs c.drop_refs.new.self.1.refs (lent_texts c.args.names.now) (Err fault)) c.in-Err-UnknownRef.field-0-is c.in-Err-UnknownRef.ensures.refs)
