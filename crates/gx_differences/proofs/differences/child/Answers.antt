use Rattle.std.proofs.Common.{◌≡◌, ◌∷◌, ◌++◌, [], Ok, sym, ◌∙◌}
use Rattle.gx_model.specs.Texts.Paths.{path_of}
use Rattle.gx_tree.proofs.Listed.{child_read, not_refused}
use Rattle.gx_differences.proofs.differences.child.Goals as goal

pub returns-in-Ok-clause-path : goal.returns-in-Ok-clause-path
returns-in-Ok-clause-path g c = λ k s.
    let p = c.args.front.now in
    let component = c.args.component.now in
    let read : path_of c.deref.result.now ≡ Ok (p ++ component ∷ []) = child_read p component c.deref.result.now c.in_ok-text.ensures.path k s (c.deref.ensures.value ∙ c.in_ok-text.ensures.text) in
    let both : Ok c.in-Ok.path ≡ Ok (p ++ component ∷ []) = sym c.in-Ok.ensures.path ∙ read in
    cc

pub returns : goal.returns
returns g c = record {
  path = tt;
  fault = λ k s.
      let p = c.args.front.now in
      let component = c.args.component.now in
      let read : path_of c.deref.result.now ≡ Ok (p ++ component ∷ []) = child_read p component c.deref.result.now c.in_ok-text.ensures.path k s (c.deref.ensures.value ∙ c.in_ok-text.ensures.text) in
      not_refused (p ++ component ∷ []) (path_of c.deref.result.now) c.in-Err.fault read c.in_default.not-OutOfMemory c.in-Err.ensures.path;
}
