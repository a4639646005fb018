use Rattle.std.proofs.Common.{None, refl}
use Rattle.gx_ranges.proofs.Listings.{fronts_listed, fronts_tips}
use Rattle.gx_ranges.proofs.walking.listed.Goals as goal

pub all_names-requires : goal.all_names-requires
all_names-requires g c =
    let o = c.args.objects.now in
    record { tips = fronts_tips (g.O.Objects.stands o) (g.O.Objects.told o) (record { wanted = c.args.wanted; unwanted = c.args.unwanted; left = None }) c.requires.wanted c.requires.unwanted }

pub returns-clause-names : goal.returns-clause-names
returns-clause-names g c =
    let o = c.args.objects.now in
    let stands = g.O.Objects.stands o in
    let told = g.O.Objects.told o in
    fronts_listed stands told (record { wanted = c.args.wanted; unwanted = c.args.unwanted; left = None }) c.all_names.result refl
    (fronts_tips stands told (record { wanted = c.args.wanted; unwanted = c.args.unwanted; left = None }) c.requires.wanted c.requires.unwanted) c.all_names.ensures.names
