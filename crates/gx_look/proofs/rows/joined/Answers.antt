use Rattle.std.proofs.Common.{sym, subst}
use Rattle.gx_store.specs.declared.prefix.Prefix.TheVariants.{Unique, Ambiguous}
use Rattle.gx_look.specs.Rows.{Joins}
use Rattle.gx_look.proofs.RowsBetween.{joins_none, joins_one, joins_two, joins_two_behind}
use Rattle.gx_look.proofs.rows.joined.Goals as goal

pub returns-in-Absent : goal.returns-in-Absent
returns-in-Absent c = subst (λ z. Joins z c.args.more c.args.more) (sym c.in-Absent.is) (joins_none c.args.more)

pub returns-in-Absent-more : goal.returns-in-Absent-more
returns-in-Absent-more c =
    let one = Unique c.in-Unique.name in
    subst (λ z. Joins z c.args.more one) (sym c.in-Unique.is) (subst (λ z. Joins one z one) (sym c.in-Absent-more.is) (joins_one c.in-Unique.name))

pub returns-in-Ambiguous-more : goal.returns-in-Ambiguous-more
returns-in-Ambiguous-more c = subst (λ z. Joins c.args.found z Ambiguous) (sym c.in-Ambiguous-more.is) (joins_two_behind c.args.found)

pub returns-in-Ambiguous : goal.returns-in-Ambiguous
returns-in-Ambiguous c = subst (λ z. Joins z c.args.more Ambiguous) (sym c.in-Ambiguous.is) (joins_two c.args.more)
