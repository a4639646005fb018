use Rattle.std.proofs.Common.{◌<◌, ◌≤◌, refl, sym, subst, ◌∙◌, arith}
use Rattle.std.specs.Prelude.{IfSome}
use Rattle.gx_ranges.specs.Fronts.{behind_last}
use Rattle.gx_ranges.specs.Walks.{FindsNext, TakesLast}
use Rattle.gx_ranges.proofs.Listings.{done_lists, next_lists, next_tip, none_lists, rest_tips, unwanted_tips, wanted_tips}
use Rattle.gx_ranges.proofs.Steps.{parts_of_it}
use Rattle.gx_ranges.proofs.Tips.{behind_below}
use Rattle.gx_ranges.proofs.walking.CommitWalk.next.Goals as goal

pub returns-then-is_done-clause-next : goal.returns-then-is_done-clause-next
returns-then-is_done-clause-next g c =
    let o = c.args.objects.now in
    done_lists (g.O.Objects.name_of o) (g.O.Objects.stands o) (g.O.Objects.told o) c.args.self.now (sym c.is_done.ensures ∙ c.if-is_done.true)

pub next-requires-clause-wanted : goal.next-requires-clause-wanted
next-requires-clause-wanted g c = let o = c.args.objects.now in wanted_tips (g.O.Objects.stands o) (g.O.Objects.told o) c.args.self.now c.requires.tips

pub next-requires-clause-unwanted : goal.next-requires-clause-unwanted
next-requires-clause-unwanted g c = let o = c.args.objects.now in unwanted_tips (g.O.Objects.stands o) (g.O.Objects.told o) c.args.self.now c.requires.tips

pub returns-in_default-clause-next : goal.returns-in_default-clause-next
returns-in_default-clause-next g c =
    let o = c.args.objects.now in
    let s = c.sound_if_told.ensures in
    let stands = g.O.Objects.stands o in
    let told = g.O.Objects.told o in
    let old = c.args.self.now in
    let rest = c.next.new.wanted.entries in
    let unwanted = c.next.new.unwanted.entries in
    let found = subst (λ next. IfSome told (λ r. FindsNext stands old.wanted.entries old.unwanted.entries rest unwanted r next)) c.in_default.is c.in_ok-place.ensures.next in
    none_lists (g.O.Objects.name_of o) s.namer stands old rest unwanted (record { wanted = c.next.new.wanted; unwanted = c.next.new.unwanted; left = old.left }) told s.sound s.order c.requires.tips found

pub commit_at-requires : goal.commit_at-requires
commit_at-requires g c =
    let o = c.args.objects.now in
    let s = c.sound_if_told.ensures in
    let stands = g.O.Objects.stands o in
    let told = g.O.Objects.told o in
    let old = c.args.self.now in
    let rest = c.next.new.wanted.entries in
    let unwanted = c.next.new.unwanted.entries in
    let found = subst (λ next. IfSome told (λ r. FindsNext stands old.wanted.entries old.unwanted.entries rest unwanted r next)) c.in-Some.is c.in_ok-place.ensures.next in
    record { tip = next_tip (g.O.Objects.name_of o) s.namer stands old rest unwanted (c.in-Some.place, c.in-Some.commit) told s.sound s.order c.requires.tips found }

pub add_parents_of-requires-clause-tips : goal.add_parents_of-requires-clause-tips
add_parents_of-requires-clause-tips g c =
    let o = c.args.objects.now in
    let s = c.sound_if_told.ensures in
    let stands = g.O.Objects.stands o in
    let told = g.O.Objects.told o in
    let old = c.args.self.now in
    let rest = c.next.new.wanted.entries in
    let unwanted = c.next.new.unwanted.entries in
    let found = subst (λ next. IfSome told (λ r. FindsNext stands old.wanted.entries old.unwanted.entries rest unwanted r next)) c.in-Some.is c.in_ok-place.ensures.next in
    rest_tips (g.O.Objects.name_of o) s.namer stands old rest unwanted (c.in-Some.place, c.in-Some.commit) told s.sound s.order c.requires.tips found

pub add_parents_of-requires-clause-tip : goal.add_parents_of-requires-clause-tip
add_parents_of-requires-clause-tip g c =
    let o = c.args.objects.now in
    let s = c.sound_if_told.ensures in
    let stands = g.O.Objects.stands o in
    let told = g.O.Objects.told o in
    let old = c.args.self.now in
    let rest = c.next.new.wanted.entries in
    let unwanted = c.next.new.unwanted.entries in
    let found = subst (λ next. IfSome told (λ r. FindsNext stands old.wanted.entries old.unwanted.entries rest unwanted r next)) c.in-Some.is c.in_ok-place.ensures.next in
    next_tip (g.O.Objects.name_of o) s.namer stands old rest unwanted (c.in-Some.place, c.in-Some.commit) told s.sound s.order c.requires.tips found

pub add_parents_of-requires-clause-parts : goal.add_parents_of-requires-clause-parts
add_parents_of-requires-clause-parts g c =
    let o = c.args.objects.now in
    parts_of_it (g.O.Objects.name_of o) c.sound_if_told.ensures.namer (g.O.Objects.stands o) c.in-Some.commit (g.O.Objects.told o) _ c.in_ok-found.ensures.commit

pub returns-clause-next : goal.returns-clause-next
returns-clause-next g c =
    let o = c.args.objects.now in
    let s = c.sound_if_told.ensures in
    let stands = g.O.Objects.stands o in
    let told = g.O.Objects.told o in
    let old = c.args.self.now in
    let rest = c.next.new.wanted.entries in
    let unwanted = c.next.new.unwanted.entries in
    let found = subst (λ next. IfSome told (λ r. FindsNext stands old.wanted.entries old.unwanted.entries rest unwanted r next)) c.in-Some.is c.in_ok-place.ensures.next in
    let low = (subst (TakesLast old.wanted.entries rest) c.in-Some.is c.in_ok-place.ensures.last).0 in
    next_lists (g.O.Objects.name_of o) s.namer stands old rest unwanted (c.in-Some.place, c.in-Some.commit) (record { wanted = c.add_parents_of.new.front; unwanted = c.next.new.unwanted; left = c.one_less-self.result })
    (c.in-Some.commit, c.in_ok-found.found) refl refl c.one_less-self.ensures (sym c.is_done.ensures ∙ c.if-is_done.false) low (c.in_ok-add_parents_of.ensures.below low)
    told s.sound s.order c.requires.tips found c.in_ok-add_parents_of.ensures.adds c.in_ok-found.ensures.commit

pub returns-clause-ahead : goal.returns-clause-ahead
returns-clause-ahead g c =
    let old = c.args.self.now.wanted.entries in
    let new = c.add_parents_of.new.front.entries in
    let last = subst (TakesLast old c.next.new.wanted.entries) c.in-Some.is c.in_ok-place.ensures.last in
    let now : behind_last new ≤ c.in-Some.place = behind_below c.in-Some.place new (c.in_ok-add_parents_of.ensures.below last.0) in
    let was : c.in-Some.place < behind_last old = last.1 in
    omega (arith, was, now)
