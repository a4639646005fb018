use Rattle.std.proofs.Common.{◌≡◌, ◌∙◌, ◌++◌, ◌∷◌, [], List, Ok, Err, length, sym, ap, subst, suc, arith}
use Rattle.std.proofs.lemmas.Grind.{common_steps}
use Rattle.std.proofs.lemmas.Result.{err_from_is_err_and}
use Rattle.gx_placed.specs.Machine.{Begun, resumed}
use Rattle.gx_placed.specs.Steps.{Stands, Steps, all_begun, begun}
use Rattle.gx_placed.proofs.Going.{empty_list, next_step, pushed, still_more}
use Rattle.std.proofs.Common.{map}
use Rattle.gx_placed.proofs.placing.place_new.Goals as goal

pub loop-frame-preserved : goal.loop-frame-preserved
loop-frame-preserved g c =
    let l = c.loop-frame in
    record {
      namer = c.in_ok-advance.ensures.namer ∙ l.invariant.namer;
      refs = c.in_ok-advance.ensures.refs ∙ l.invariant.refs;
      extends = still_more c.args.repo.now.1.records l.repo.1.records c.advance.new.repo.1.records l.invariant.extends c.in_ok-advance.ensures.extends;
      steps = λ all.
          next_step (Unit {0}) (g.N.Namer.name_of c.args.repo.now.0) (g.N.Namer.name_of l.repo.0) all c.args.waiting.now l.waiting c.advance.new.waiting c.args.repo.now.1.records l.repo.1.records c.advance.new.repo.1.records
          (begun c.args.frame ∷ []) (all_begun l.frames) (all_begun c.pop.new.self ++ begun c.in-Some.frame ∷ []) (all_begun c.advance.new.frames) (ap g.N.Namer.name_of l.invariant.namer)
          (pushed c.pop.new.self.items l.frames.items c.in-Some.frame c.in-Some.ensures.items) (l.invariant.steps all) (Ok (tt {0})) (c.in_ok-advance.ensures.steps all);
    }

pub returns-in_err-advance-clause-extends : goal.returns-in_err-advance-clause-extends
returns-in_err-advance-clause-extends g c =
    let l = c.loop-frame in
    still_more c.args.repo.now.1.records l.repo.1.records c.advance.new.repo.1.records l.invariant.extends c.in_err-advance.ensures.extends

pub returns-in_err-advance-clause-steps : goal.returns-in_err-advance-clause-steps
returns-in_err-advance-clause-steps g c = λ all.
    let l = c.loop-frame in
    let p = err_from_is_err_and c.from_residual-in_err-advance.result c.from_residual-in_err-advance.ensures.1 in
    subst (λ r. Steps (g.N.Namer.name_of c.args.repo.now.0) all c.args.waiting.now c.advance.new.waiting c.args.repo.now.1.records c.advance.new.repo.1.records (begun c.args.frame ∷ []) [] r) (sym (p.1 ∙ ap Err p.2))
    (next_step (Unit {0}) (g.N.Namer.name_of c.args.repo.now.0) (g.N.Namer.name_of l.repo.0) all c.args.waiting.now l.waiting c.advance.new.waiting c.args.repo.now.1.records l.repo.1.records c.advance.new.repo.1.records
    (begun c.args.frame ∷ []) (all_begun l.frames) (all_begun c.pop.new.self ++ begun c.in-Some.frame ∷ []) [] (ap g.N.Namer.name_of l.invariant.namer)
    (pushed c.pop.new.self.items l.frames.items c.in-Some.frame c.in-Some.ensures.items) (l.invariant.steps all) (Err c.in_err-advance.field-0.0) (c.in_err-advance.ensures.steps all))

pub returns-clause-steps : goal.returns-clause-steps
returns-clause-steps g c = λ all s.
    let l = c.loop-frame in
    let short : length l.frames.items ≡ 0 = grind (arith, common_steps, c.in_default.ensures.variant, c.in_default.ensures.len) in
    let none : all_begun l.frames ≡ [] = ap (map begun) (empty_list l.frames.items short) in
    subst (λ (bs : List Begun). Stands (g.N.Namer.name_of c.args.repo.now.0) all l.waiting l.repo.1.records bs × (resumed (suc (length all)) all (begun c.args.frame ∷ []) c.args.repo.now.1.records ≡ resumed (suc (length all)) all bs l.repo.1.records))
    none (l.invariant.steps all s)
