use Rattle.std.proofs.Common.{[], ap, get_or, map, subst, sym}
use Rattle.std.specs.List.{AllByRecursion}
use Rattle.gx_repo.specs.Refs.{shown_update}
use Rattle.gx_repo.specs.declared.publishing.RefChange.{RefChange}
use Rattle.gx_reached.proofs.Closing.{all_with}
use Rattle.gx_salvage_refs.specs.Parting.{IsLossBy}
use Rattle.gx_salvage_refs.specs.declared.lost.Lost.{Lost}
use Rattle.gx_salvage_refs.proofs.KeptRefs.{name_at, next_kept, next_lost, none_parted}
use Rattle.gx_salvage_refs.proofs.refs.part.Goals as goal

abbrev no_change : RefChange
no_change = record { name = record { ref_ptr = (0, 0); now = [] }; target = record { bytes = [] } }

pub loop-change-init : goal.loop-change-init
loop-change-init g c =
    let rs = c.args.repo.now.1.records in
    record {
      parted = none_parted rs c.new-kept.result.items c.new-lost.result.items c.new-kept.ensures.items c.new-lost.ensures.items;
      lost = subst (AllByRecursion (IsLossBy rs c.args.bad.now)) (sym c.new-lost.ensures.items) tt;
    }

pub loss_of-requires : goal.loss_of-requires
loss_of-requires g c = record { name = name_at c.args.refs.now c.loop-change.change-index no_change c.loop-change-test.true c.requires.names }

pub loop-change-preserved-in_default : goal.loop-change-preserved-in_default
loop-change-preserved-in_default g c =
    let l = c.loop-change in
    record {
      parted = next_kept c.args.repo.now.1.records c.args.refs.now l.change-index no_change c.loop-change-test.true l.lost.items l.kept.items c.push.new.self.items c.in_ok-push.ensures.items c.in_default.ensures.kept l.invariant.parted;
      lost = l.invariant.lost;
    }

pub loop-change-preserved : goal.loop-change-preserved
loop-change-preserved g c =
    let rs = c.args.repo.now.1.records in
    let bad = c.args.bad.now in
    let l = c.loop-change in
    let lost : Lost g.row.A.Denot = record { name = c.in_ok-from_slice.field-0; target = (get_or c.args.refs.now l.change-index no_change).target; damage = c.in-Some.damage } in
    let is = c.in_ok-push-2.ensures.items in
    record {
      parted = next_lost rs c.args.refs.now l.change-index no_change c.loop-change-test.true l.lost.items (map shown_update l.kept.items) lost c.push-in-loop-change.new.self.items is
          (ap (λ n. (n, lost.target.bytes)) c.in_ok-from_slice.ensures.items) c.in-Some.ensures.lost l.invariant.parted;
      lost = subst (AllByRecursion (IsLossBy rs bad)) (sym is) (all_with (IsLossBy rs bad) l.lost.items lost l.invariant.lost c.in-Some.ensures.damage);
    }
