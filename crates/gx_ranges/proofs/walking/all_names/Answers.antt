use Rattle.std.proofs.Common.{subst}
use Rattle.std.specs.Prelude.{IfSome}
use Rattle.gx_ranges.specs.Listings.{GoesOn, ListsNext}
use Rattle.gx_ranges.proofs.Listings.{all_named, none_named, one_named, tips_now}
use Rattle.gx_ranges.proofs.walking.all_names.Goals as goal

pub loop-names-init : goal.loop-names-init
loop-names-init g c =
    let o = c.args.objects.now in
    none_named (g.O.Objects.stands o) c.args.walk.now (g.O.Objects.told o) c.new-names.result.items c.new-names.ensures.items c.requires.tips

pub next-requires : goal.next-requires
next-requires g c =
    let o = c.args.objects.now in
    record { tips = tips_now (g.O.Objects.stands o) c.args.walk.now (g.O.Objects.told o) c.loop-names.walk c.loop-names.names.items c.loop-names.invariant }

pub loop-names-smaller : goal.loop-names-smaller
loop-names-smaller g c = subst (GoesOn c.loop-names.walk c.next.new.self) c.in-Some.is c.in_ok-name.ensures.ahead

pub loop-names-preserved : goal.loop-names-preserved
loop-names-preserved g c =
    let o = c.args.objects.now in
    let stands = g.O.Objects.stands o in
    let told = g.O.Objects.told o in
    let name = g.O.Objects.name_of o in
    let found = subst (λ found. IfSome told (λ r. ListsNext name stands c.loop-names.walk c.next.new.self r found)) c.in-Some.is c.in_ok-name.ensures.next in
    one_named stands c.args.walk.now name told c.loop-names.walk c.next.new.self c.loop-names.names.items c.push.new.self.items _ c.in_ok-push.ensures.items c.loop-names.invariant found

pub returns-clause-names : goal.returns-clause-names
returns-clause-names g c =
    let o = c.args.objects.now in
    let stands = g.O.Objects.stands o in
    let told = g.O.Objects.told o in
    let name = g.O.Objects.name_of o in
    let found = subst (λ found. IfSome told (λ r. ListsNext name stands c.loop-names.walk c.next.new.self r found)) c.in_default.is c.in_ok-name.ensures.next in
    all_named stands c.args.walk.now name told c.loop-names.walk c.next.new.self c.loop-names.names.items c.loop-names.invariant found
