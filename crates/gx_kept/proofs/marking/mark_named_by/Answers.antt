use Rattle.std.proofs.Common.{◌≡◌, rules}
use Rattle.gx_model.specs.declared.objects.Kind.TheVariants as kinds
use Rattle.gx_kept.proofs.ListedRecords.{some_listed}
use Rattle.gx_kept.proofs.Spreading.{blob_spreads, links_spread, links_untold, stands_listed}
use Rattle.gx_kept.proofs.marking.mark_named_by.Goals as goal

pub unreachable-requires : goal.unreachable-requires
unreachable-requires g c = some_listed c.args.listing.now c.args.number c.requires.within c.in_default.ensures

pub returns-then-eq-clause-marks : goal.returns-then-eq-clause-marks
returns-then-eq-clause-marks g c =
    let o = c.args.objects.now in
    let blob : c.in-Some.standing.kind ≡ kinds.Blob = search (rules, c.if-eq.true, c.eq.ensures) in
    blob_spreads (g.O.Objects.name_of o) (g.O.Objects.stands o) (g.O.Objects.told o) c.args.listing.now c.sound_if_told.ensures.sound c.requires.listed c.args.number (c.in-Some.name, c.in-Some.standing) c.in-Some.ensures blob c.args.marks.now

pub object_at-requires : goal.object_at-requires
object_at-requires g c =
    let o = c.args.objects.now in
    record { there = stands_listed (g.O.Objects.name_of o) (g.O.Objects.stands o) (g.O.Objects.told o) c.args.listing.now c.sound_if_told.ensures.sound c.requires.listed c.args.number (c.in-Some.name, c.in-Some.standing) c.in-Some.ensures }

pub returns-clause-marks : goal.returns-clause-marks
returns-clause-marks g c =
    let o = c.args.objects.now in
    links_spread (g.O.Objects.name_of o) (g.O.Objects.stands o) (g.O.Objects.told o) c.args.listing.now c.sound_if_told.ensures.sound c.requires.listed c.args.number (c.in-Some.name, c.in-Some.standing) c.in-Some.ensures c.in_ok-object.object
    c.in_ok-object.ensures.held c.args.marks.now c.mark_links.new.marks c.mark_links.result c.mark_links.ensures.marks

pub returns-clause-fault : goal.returns-clause-fault
returns-clause-fault g c =
    let o = c.args.objects.now in
    links_untold (g.O.Objects.name_of o) (g.O.Objects.stands o) (g.O.Objects.told o) c.args.listing.now c.sound_if_told.ensures.sound c.requires.listed c.args.number (c.in-Some.name, c.in-Some.standing) c.in-Some.ensures c.in_ok-object.object
    c.in_ok-object.ensures.held c.mark_links.result c.mark_links.ensures.refused
