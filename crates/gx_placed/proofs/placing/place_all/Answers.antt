use Rattle.std.proofs.Common.{◌∙◌, Ok, Err, length, refl, sym, ap, subst, arith}
use Rattle.gx_placed.proofs.Slots.{as_many}
use Rattle.std.proofs.lemmas.Result.{err_from_is_err_and}
use Rattle.gx_placed.specs.Places.{Places, shown_given}
use Rattle.gx_placed.proofs.Going.{all_so_far, no_more, none_so_far, placed_fault, placed_step, still_more}
use Rattle.gx_placed.proofs.placing.place_all.Goals as goal

pub loop-place-init : goal.loop-place-init
loop-place-init g c = record {
  namer = refl;
  refs = refl;
  extends = no_more c.args.repo.now.1.records;
  ends = c.len-place-end.ensures ∙ ap length c.in_ok-waiting.ensures.slots ∙ as_many (shown_given c.args.given);
  so_far = none_so_far (g.N.Namer.name_of c.args.repo.now.0) (shown_given c.args.given) c.args.repo.now.1.records c.in_ok-waiting.waiting c.requires.named c.in_ok-waiting.ensures.slots c.in_ok-waiting.ensures.places;
}

pub loop-place-preserved : goal.loop-place-preserved
loop-place-preserved g c =
    let l = c.loop-place in
    record {
      namer = c.in_ok-place_at.ensures.namer ∙ l.invariant.namer;
      refs = c.in_ok-place_at.ensures.refs ∙ l.invariant.refs;
      extends = still_more c.args.repo.now.1.records l.repo.1.records c.place_at.new.repo.1.records l.invariant.extends c.in_ok-place_at.ensures.extends;
      ends = l.invariant.ends;
      so_far = placed_step (Unit {0}) (g.N.Namer.name_of c.args.repo.now.0) (g.N.Namer.name_of l.repo.0) (shown_given c.args.given) c.args.repo.now.1.records l.waiting c.place_at.new.waiting l.repo.1.records c.place_at.new.repo.1.records l.place
          (ap g.N.Namer.name_of l.invariant.namer) (omega (arith, c.loop-place-test.true, l.invariant.ends)) (Ok (tt {0})) (tt {0}) refl l.invariant.so_far c.in_ok-place_at.ensures.extends (c.in_ok-place_at.ensures.places (shown_given c.args.given));
    }

pub returns-in_err-place_at-clause-extends : goal.returns-in_err-place_at-clause-extends
returns-in_err-place_at-clause-extends g c =
    let l = c.loop-place in
    still_more c.args.repo.now.1.records l.repo.1.records c.place_at.new.repo.1.records l.invariant.extends c.in_err-place_at.ensures.extends

pub returns-in_err-place_at-clause-places : goal.returns-in_err-place_at-clause-places
returns-in_err-place_at-clause-places g c =
    let l = c.loop-place in
    let p = err_from_is_err_and c.from_residual-in_err-place_at.result c.from_residual-in_err-place_at.ensures.1 in
    subst (λ r. Places (shown_given c.args.given) c.args.repo.now.1.records c.place_at.new.repo.1.records r) (sym (p.1 ∙ ap Err p.2))
    (placed_fault (Unit {0}) (g.N.Namer.name_of c.args.repo.now.0) (g.N.Namer.name_of l.repo.0) (shown_given c.args.given) c.args.repo.now.1.records l.waiting c.place_at.new.waiting l.repo.1.records c.place_at.new.repo.1.records l.place
    (ap g.N.Namer.name_of l.invariant.namer) (omega (arith, c.loop-place-test.true, l.invariant.ends)) (Err c.in_err-place_at.field-0.0) c.in_err-place_at.field-0.0 refl l.invariant.so_far (c.in_err-place_at.ensures.places (shown_given c.args.given)))

pub returns-clause-places : goal.returns-clause-places
returns-clause-places g c =
    let l = c.loop-place in
    all_so_far (g.N.Namer.name_of c.args.repo.now.0) (shown_given c.args.given) c.args.repo.now.1.records l.waiting l.repo.1.records l.place (omega (arith, c.loop-place-test.false, l.auto.place-end, l.invariant.ends)) l.invariant.so_far
