use Rattle.std.proofs.Common.{true, sym, subst}
use Rattle.gx_object.specs.Reading.{FollowsFrom, IsReadWith}
use Rattle.gx_object.proofs.Readings.{follows_none, follows_one}
use Rattle.gx_object.proofs.tree_reader.follows.Goals as goal

pub returns-in-Some-clause-follows : goal.returns-in-Some-clause-follows
returns-in-Some-clause-follows c =
    let next = c.args.next.now in
    let after = c.args.after.now in
    subst (λ b. FollowsFrom c.args.files.now c.leads.new.files b next after c.leads.result) (sym c.in-Some.is) (follows_one c.args.files.now c.leads.new.files c.in-Some.first next after c.leads.result c.leads.ensures.leads)

pub returns-in-None-clause-follows : goal.returns-in-None-clause-follows
returns-in-None-clause-follows c =
    let files = c.args.files.now in
    let none = subst (IsReadWith files) c.in-None.is c.requires.before in
    subst (λ b. FollowsFrom files files b c.args.next.now c.args.after.now true) (sym c.in-None.is) (follows_none files c.args.next.now c.args.after.now none)
