use Rattle.gx_ranges.specs.Fronts.{lead_to}
use Rattle.gx_ranges.proofs.WordTips.{more_tips}
use Rattle.gx_tips.proofs.SetRefs.{finds_set, no_tips, unwanted_held, wanted_held}
use Rattle.gx_tips.proofs.spans.Spans.reached.Goals as goal

pub add_all-requires-clause-tips : goal.add_all-requires-clause-tips
add_all-requires-clause-tips g c = let o = c.args.objects.now in no_tips (g.O.Objects.stands o) (g.O.Objects.told o) c.new-front.result.entries c.new-front.ensures.empty

pub add_all-requires-clause-others : goal.add_all-requires-clause-others
add_all-requires-clause-others g c = let o = c.args.objects.now in wanted_held (g.O.Objects.stands o) (g.O.Objects.told o) c.args.self.now c.requires.spans

pub add_all-requires-2-clause-tips : goal.add_all-requires-2-clause-tips
add_all-requires-2-clause-tips g c =
    let o = c.args.objects.now in
    more_tips (g.O.Objects.stands o) (g.O.Objects.told o) (λ r. lead_to r c.args.self.now.wanted.entries) c.new-front.result.entries c.add_all.new.front.entries c.in_ok-add_all.ensures.adds

pub add_all-requires-2-clause-others : goal.add_all-requires-2-clause-others
add_all-requires-2-clause-others g c = let o = c.args.objects.now in unwanted_held (g.O.Objects.stands o) (g.O.Objects.told o) c.args.self.now c.requires.spans

pub reached_places-requires : goal.reached_places-requires
reached_places-requires g c =
    let o = c.args.objects.now in
    record { tips = more_tips (g.O.Objects.stands o) (g.O.Objects.told o) (λ r. lead_to r c.args.self.now.unwanted.entries) c.add_all.new.front.entries c.add_all-2.new.front.entries c.in_ok-add_all-2.ensures.adds }

pub returns-clause-found : goal.returns-clause-found
returns-clause-found g c =
    let o = c.args.objects.now in
    let s = c.sound_if_told.ensures in
    finds_set (g.O.Objects.name_of o) s.namer (g.O.Objects.stands o) c.args.self.now c.args.refs.now c.add_all.new.front.entries c.add_all-2.new.front.entries c.in_ok-places_of.field-0 c.in_ok-places.places
    (g.O.Objects.told o) c.new-front.result.entries c.in_ok-standing_at.field-0.items c.new-front.ensures.empty c.in_ok-standing_at.ensures.found c.in_ok-places_of.ensures.each s.sound s.order c.requires.refs c.in_ok-add_all.ensures.adds c.in_ok-add_all-2.ensures.adds c.in_ok-places.ensures.places
