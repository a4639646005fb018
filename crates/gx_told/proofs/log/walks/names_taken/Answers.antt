use Rattle.std.proofs.Common.{subst, sym, ◌∙◌}
use Rattle.std.specs.Prelude.{IfSome}
use Rattle.gx_ranges.specs.Listings.{GoesOn, ListsNext}
use Rattle.gx_told.proofs.TakenCommits.{Names, all_named, leads_done, leads_empty, leads_passed, leads_tips, named_first, next_named}
use Rattle.gx_told.specs.Choosing.{Takes}
use Rattle.gx_told.proofs.log.walks.names_taken.Goals as goal

pub loop-choice-init : goal.loop-choice-init
loop-choice-init g c =
    let o = c.args.objects.now in
    named_first (g.O.Objects.name_of o) (g.O.Objects.stands o) c.args.walk.now c.args.choice (g.O.Objects.told o) c.new-names.result.items c.new-names.ensures.items c.requires

pub next-requires : goal.next-requires
next-requires g c =
    let o = c.args.objects.now in
    let now = c.loop-choice in
    record { tips = leads_tips (g.O.Objects.name_of o) (g.O.Objects.stands o) c.args.walk.now c.args.choice (Names now.names.items) (g.O.Objects.told o) now.walk now.choice now.invariant }

pub loop-choice-preserved-then-not-takes : goal.loop-choice-preserved-then-not-takes
loop-choice-preserved-then-not-takes g c =
    let o = c.args.objects.now in
    let name = g.O.Objects.name_of o in
    let stands = g.O.Objects.stands o in
    let told = g.O.Objects.told o in
    let now = c.loop-choice in
    let found = subst (λ found. IfSome told (λ r. ListsNext name stands now.walk c.next.new.self r found)) c.in-Some.is c.in_ok-name.ensures.next in
    let passed = subst (Takes now.choice c.takes.new.self c.in-Some.found.1) c.if-not-takes.true c.takes.ensures in
    leads_passed name stands c.args.walk.now c.args.choice (Names now.names.items) told now.walk c.next.new.self now.choice c.takes.new.self (c.in-Some.name, c.in-Some.found) passed now.invariant found

pub loop-choice-preserved : goal.loop-choice-preserved
loop-choice-preserved g c =
    let o = c.args.objects.now in
    let name = g.O.Objects.name_of o in
    let stands = g.O.Objects.stands o in
    let told = g.O.Objects.told o in
    let now = c.loop-choice in
    let found = subst (λ found. IfSome told (λ r. ListsNext name stands now.walk c.next.new.self r found)) c.in-Some.is c.in_ok-name.ensures.next in
    let taken = subst (Takes now.choice c.takes.new.self c.in-Some.found.1) c.if-not-takes.false c.takes.ensures in
    next_named name stands c.args.walk.now c.args.choice told now.walk c.next.new.self now.choice c.takes.new.self now.names.items c.push.new.self.items (c.in-Some.name, c.in-Some.found) c.in_ok-push.ensures.items taken now.invariant found

pub loop-choice-smaller-then-not-takes : goal.loop-choice-smaller-then-not-takes
loop-choice-smaller-then-not-takes g c = subst (GoesOn c.loop-choice.walk c.next.new.self) c.in-Some.is c.in_ok-name.ensures.ahead

pub loop-choice-smaller : goal.loop-choice-smaller
loop-choice-smaller g c = subst (GoesOn c.loop-choice.walk c.next.new.self) c.in-Some.is c.in_ok-name.ensures.ahead

pub returns-in_default-clause-names : goal.returns-in_default-clause-names
returns-in_default-clause-names g c =
    let o = c.args.objects.now in
    let name = g.O.Objects.name_of o in
    let stands = g.O.Objects.stands o in
    let told = g.O.Objects.told o in
    let now = c.loop-choice in
    let found = subst (λ found. IfSome told (λ r. ListsNext name stands now.walk c.next.new.self r found)) c.in_default.is c.in_ok-name.ensures.next in
    all_named name stands c.args.walk.now c.args.choice told now.names.items (leads_empty name stands c.args.walk.now c.args.choice (Names now.names.items) told now.walk c.next.new.self now.choice now.invariant found)

pub returns-clause-names : goal.returns-clause-names
returns-clause-names g c =
    let o = c.args.objects.now in
    let name = g.O.Objects.name_of o in
    let stands = g.O.Objects.stands o in
    let told = g.O.Objects.told o in
    let now = c.loop-choice in
    all_named name stands c.args.walk.now c.args.choice told now.names.items (leads_done name stands c.args.walk.now c.args.choice (Names now.names.items) told now.walk now.choice (sym c.is_done.ensures ∙ c.loop-choice-test.false) now.invariant)
