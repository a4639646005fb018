use Rattle.std.proofs.Common.{get_or, refl}
use Rattle.gx_taken.proofs.NumberedLabels.{named_there, no_label, unplaced_is}
use Rattle.gx_taken.proofs.taking.refusal_at.Goals as goal

pub number_of-requires : goal.number_of-requires
number_of-requires g c = named_there c.args.labels.now c.args.at no_label (get_or c.args.labels.now c.args.at no_label).name c.requires refl

pub returns : goal.returns
returns g c =
    unplaced_is {A = g.row.A.Denot} c.args.labels.now c.args.at no_label (get_or c.args.labels.now c.args.at no_label).name c.args.fault c.number_of.result c.refused.result c.requires refl c.number_of.ensures c.refused.ensures
