use Rattle.std.proofs.Common.{◌∙◌, [], refl, subst, sym}
use Rattle.std.specs.Prelude.{IfSome}
use Rattle.std.proofs.lemmas.Result.{err_from_is_err_and}
use Rattle.gx_ranges.specs.Listings.{GoesOn, ListsNext}
use Rattle.gx_told.specs.Choosing.{Takes, choice_of}
use Rattle.gx_told.proofs.TakenCommits.{leads_done, leads_empty, leads_first, leads_passed, leads_tips}
use Rattle.gx_told.proofs.WalkedCommits.{Prints, PrintsSome, all_printed, none_printed, one_printed, one_stops, walk_stops}
use Rattle.gx_told.proofs.log.walks.print_walk.Goals as goal

pub loop-between-init : goal.loop-between-init
loop-between-init g c =
    let o = c.args.objects.now in
    let name = g.O.Objects.name_of o in
    let options = c.args.options in
    let stands = g.O.Objects.stands o in
    let told = g.O.Objects.told o in
    let was = g.W.Sink.taken c.args.sink.now in
    subst (λ choice. IfSome told (PrintsSome name options was stands c.args.walk.now c.args.walk.now choice [] was)) (sym c.of-choice.ensures)
    (leads_first name stands c.args.walk.now (choice_of options) (Prints name options was [] was) told (none_printed name options was [] refl) c.requires)

pub next-requires : goal.next-requires
next-requires g c =
    let o = c.args.objects.now in
    let options = c.args.options in
    let now = c.loop-between in
    record {
      tips = leads_tips (g.O.Objects.name_of o) (g.O.Objects.stands o) c.args.walk.now (choice_of options) (Prints (g.O.Objects.name_of o) options (g.W.Sink.taken c.args.sink.now) now.between.now (g.W.Sink.taken now.sink)) (g.O.Objects.told o) now.walk now.choice now.invariant;
    }

pub returns-in_err-name : goal.returns-in_err-name
returns-in_err-name g c =
    let p = err_from_is_err_and c.from_residual.result c.from_residual.ensures.1 in
    let o = c.args.objects.now in
    let now = c.loop-between in
    rw (p.1, p.2) (walk_stops (g.O.Objects.name_of o) c.args.options (g.W.Sink.taken c.args.sink.now) (g.O.Objects.stands o) c.args.walk.now (g.O.Objects.told o) now.walk now.choice now.between.now (g.W.Sink.taken now.sink) c.in_err-name.field-0.0
    c.in_err-name.ensures.fault now.invariant)

pub returns-in_default : goal.returns-in_default
returns-in_default g c =
    let o = c.args.objects.now in
    let name = g.O.Objects.name_of o in
    let options = c.args.options in
    let stands = g.O.Objects.stands o in
    let told = g.O.Objects.told o in
    let was = g.W.Sink.taken c.args.sink.now in
    let now = c.loop-between in
    let mid = g.W.Sink.taken now.sink in
    let found = subst (λ found. IfSome told (λ r. ListsNext name stands now.walk c.next.new.self r found)) c.in_default.is c.in_ok-name.ensures.next in
    all_printed name options was stands c.args.walk.now told now.between.now mid (leads_empty name stands c.args.walk.now (choice_of options) (Prints name options was now.between.now mid) told now.walk c.next.new.self now.choice now.invariant found)

pub loop-between-preserved-then-not-takes : goal.loop-between-preserved-then-not-takes
loop-between-preserved-then-not-takes g c =
    let o = c.args.objects.now in
    let name = g.O.Objects.name_of o in
    let options = c.args.options in
    let stands = g.O.Objects.stands o in
    let told = g.O.Objects.told o in
    let was = g.W.Sink.taken c.args.sink.now in
    let now = c.loop-between in
    let found = subst (λ found. IfSome told (λ r. ListsNext name stands now.walk c.next.new.self r found)) c.in-Some.is c.in_ok-name.ensures.next in
    let passed = subst (Takes now.choice c.takes.new.self c.in-Some.found.1) c.if-not-takes.true c.takes.ensures in
    leads_passed name stands c.args.walk.now (choice_of options) (Prints name options was now.between.now (g.W.Sink.taken now.sink)) told now.walk c.next.new.self now.choice c.takes.new.self (c.in-Some.name, c.in-Some.found) passed now.invariant found

pub returns-in_err-print_listed : goal.returns-in_err-print_listed
returns-in_err-print_listed g c =
    let p = err_from_is_err_and c.from_residual-in_err-print_listed.result c.from_residual-in_err-print_listed.ensures.1 in
    let o = c.args.objects.now in
    let name = g.O.Objects.name_of o in
    let stands = g.O.Objects.stands o in
    let told = g.O.Objects.told o in
    let now = c.loop-between in
    let found = subst (λ found. IfSome told (λ r. ListsNext name stands now.walk c.next.new.self r found)) c.in-Some.is c.in_ok-name.ensures.next in
    let taken = subst (Takes now.choice c.takes.new.self c.in-Some.found.1) c.if-not-takes.false c.takes.ensures in
    rw (p.1, p.2) (one_stops name c.args.options (g.W.Sink.taken c.args.sink.now) stands c.args.walk.now now.walk c.next.new.self now.choice c.takes.new.self now.between.now (g.W.Sink.taken now.sink) c.sound_if_told.ensures.namer (c.in-Some.name, c.in-Some.found)
    told (g.W.Sink.taken c.print_listed.new.sink) c.in_err-print_listed.field-0.0 taken c.sound_if_told.ensures.sound now.invariant found c.in_err-print_listed.ensures)

pub loop-between-preserved : goal.loop-between-preserved
loop-between-preserved g c =
    let o = c.args.objects.now in
    let name = g.O.Objects.name_of o in
    let stands = g.O.Objects.stands o in
    let told = g.O.Objects.told o in
    let now = c.loop-between in
    let found = subst (λ found. IfSome told (λ r. ListsNext name stands now.walk c.next.new.self r found)) c.in-Some.is c.in_ok-name.ensures.next in
    let taken = subst (Takes now.choice c.takes.new.self c.in-Some.found.1) c.if-not-takes.false c.takes.ensures in
    one_printed name c.args.options (g.W.Sink.taken c.args.sink.now) stands c.args.walk.now now.walk c.next.new.self now.choice c.takes.new.self now.between.now (g.W.Sink.taken now.sink) c.sound_if_told.ensures.namer (c.in-Some.name, c.in-Some.found)
    told (g.W.Sink.taken c.print_listed.new.sink) c.gap-between.result.now c.gap-between.ensures taken c.sound_if_told.ensures.sound now.invariant found c.in_ok-print_listed.ensures

pub loop-between-smaller-then-not-takes : goal.loop-between-smaller-then-not-takes
loop-between-smaller-then-not-takes g c = subst (GoesOn c.loop-between.walk c.next.new.self) c.in-Some.is c.in_ok-name.ensures.ahead

pub loop-between-smaller : goal.loop-between-smaller
loop-between-smaller g c = subst (GoesOn c.loop-between.walk c.next.new.self) c.in-Some.is c.in_ok-name.ensures.ahead

pub returns : goal.returns
returns g c =
    let o = c.args.objects.now in
    let name = g.O.Objects.name_of o in
    let options = c.args.options in
    let stands = g.O.Objects.stands o in
    let told = g.O.Objects.told o in
    let was = g.W.Sink.taken c.args.sink.now in
    let now = c.loop-between in
    let mid = g.W.Sink.taken now.sink in
    all_printed name options was stands c.args.walk.now told now.between.now mid
    (leads_done name stands c.args.walk.now (choice_of options) (Prints name options was now.between.now mid) told now.walk now.choice (sym c.is_done.ensures ∙ c.loop-between-test.false) now.invariant)
