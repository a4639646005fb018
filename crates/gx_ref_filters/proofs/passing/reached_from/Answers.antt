use Rattle.gx_ranges.proofs.Steps.{adds_one, adds_tips}
use Rattle.gx_model.specs.Revisions.Ranges.{reaches}
use Rattle.gx_rev.specs.Objects.{commit_at}
use Rattle.gx_ref_filters.proofs.Kept.{reached_kept}
use Rattle.gx_ref_filters.proofs.Stepping.{start_tips}
use Rattle.gx_ref_filters.proofs.passing.reached_from.Goals as goal

pub reached_places-requires : goal.reached_places-requires
reached_places-requires g c =
    let o = c.args.objects.now in
    let s = c.sound_if_told.ensures in
    let stands = g.O.Objects.stands o in
    let told = g.O.Objects.told o in
    let name = g.O.Objects.name_of o in
    let start = c.new-front.result.entries in
    let commit = c.args.commit.now in
    record {
      tips = adds_tips name s.namer stands told (λ r. reaches (commit_at r commit)) start c.insert.new.self.entries
          (adds_one name s.namer stands told commit c.in_ok-place.place start c.insert.new.self.entries c.in_ok-insert.ensures.entries s.sound s.order (start_tips stands told start c.new-front.ensures.empty) c.requires.commit c.in_ok-place.ensures.place);
    }

pub returns-clause-kept : goal.returns-clause-kept
returns-clause-kept g c =
    let o = c.args.objects.now in
    let s = c.sound_if_told.ensures in
    let stands = g.O.Objects.stands o in
    let told = g.O.Objects.told o in
    let name = g.O.Objects.name_of o in
    let start = c.new-front.result.entries in
    let commit = c.args.commit.now in
    reached_kept name s.namer stands told commit c.args.so start c.insert.new.self.entries c.in_ok-places_of.field-0 c.in_ok-places.places c.args.refs.now c.in_ok-standing.field-0.items c.new-front.ensures.empty c.in_ok-standing.ensures.found
    c.in_ok-places_of.ensures.each s.sound s.order c.requires.refs
    (adds_one name s.namer stands told commit c.in_ok-place.place start c.insert.new.self.entries c.in_ok-insert.ensures.entries s.sound s.order (start_tips stands told start c.new-front.ensures.empty) c.requires.commit c.in_ok-place.ensures.place)
    c.in_ok-places.ensures.places
