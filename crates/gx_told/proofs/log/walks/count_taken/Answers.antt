use Rattle.std.proofs.Common.{◌≡◌, ◌+◌, arith, length, subst, sym, ◌∙◌}
use Rattle.std.specs.Prelude.{IfSome}
use Rattle.gx_ranges.specs.Listings.{GoesOn, ListsNext}
use Rattle.gx_told.proofs.TakenCommits.{Counts, all_counted, leads_done, leads_empty, leads_first, leads_tips, next_counted}
use Rattle.gx_told.proofs.log.walks.count_taken.Goals as goal

pub loop-choice-init : goal.loop-choice-init
loop-choice-init g c =
    let o = c.args.objects.now in
    leads_first (g.O.Objects.name_of o) (g.O.Objects.stands o) c.args.walk.now c.args.choice (Counts 0) (g.O.Objects.told o) (λ r commits. let all : 0 + length commits ≡ length commits = omega arith in all) c.requires

pub next-requires : goal.next-requires
next-requires g c =
    let o = c.args.objects.now in
    let now = c.loop-choice in
    record { tips = leads_tips (g.O.Objects.name_of o) (g.O.Objects.stands o) c.args.walk.now c.args.choice (Counts now.count) (g.O.Objects.told o) now.walk now.choice now.invariant }

pub loop-choice-preserved : goal.loop-choice-preserved
loop-choice-preserved g c =
    let o = c.args.objects.now in
    let name = g.O.Objects.name_of o in
    let stands = g.O.Objects.stands o in
    let told = g.O.Objects.told o in
    let now = c.loop-choice in
    let found = subst (λ found. IfSome told (λ r. ListsNext name stands now.walk c.next.new.self r found)) c.in-Some.is c.in_ok-_name.ensures.next in
    next_counted name stands c.args.walk.now c.args.choice c.takes.result told now.walk c.next.new.self now.choice c.takes.new.self now.count c.in_ok-count.count _ c.in_ok-count.ensures.more c.takes.ensures now.invariant found

pub loop-choice-smaller : goal.loop-choice-smaller
loop-choice-smaller g c = subst (GoesOn c.loop-choice.walk c.next.new.self) c.in-Some.is c.in_ok-_name.ensures.ahead

pub returns-in_default-clause-count : goal.returns-in_default-clause-count
returns-in_default-clause-count g c =
    let o = c.args.objects.now in
    let name = g.O.Objects.name_of o in
    let stands = g.O.Objects.stands o in
    let told = g.O.Objects.told o in
    let now = c.loop-choice in
    let found = subst (λ found. IfSome told (λ r. ListsNext name stands now.walk c.next.new.self r found)) c.in_default.is c.in_ok-_name.ensures.next in
    all_counted name stands c.args.walk.now c.args.choice told now.count (leads_empty name stands c.args.walk.now c.args.choice (Counts now.count) told now.walk c.next.new.self now.choice now.invariant found)

pub returns-clause-count : goal.returns-clause-count
returns-clause-count g c =
    let o = c.args.objects.now in
    let name = g.O.Objects.name_of o in
    let stands = g.O.Objects.stands o in
    let told = g.O.Objects.told o in
    let now = c.loop-choice in
    all_counted name stands c.args.walk.now c.args.choice told now.count (leads_done name stands c.args.walk.now c.args.choice (Counts now.count) told now.walk now.choice (sym c.is_done.ensures ∙ c.loop-choice-test.false) now.invariant)
