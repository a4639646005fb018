use Rattle.std.proofs.Common.{◌∙◌, ◌++◌, ◌∷◌, [], List, Err, refl, ap, append_assoc}
use Rattle.std.proofs.lemmas.Result.{err_from_is_err_and}
use Rattle.gx_links.specs.Links.{shown_link}
use Rattle.gx_placed.specs.Places.{shown_object}
use Rattle.gx_placed.specs.Steps.{all_begun, begun}
use Rattle.gx_placed.specs.Machine.{Begun, looked_at}
use Rattle.gx_placed.proofs.Going.{bad_step, fewer_given, fewer_held, fewer_last, given_step, held_step, lacking_step, last_step, pushed}
use Rattle.gx_placed.proofs.placing.advance.Goals as goal

pub returns-in_default-clause-steps : goal.returns-in_default-clause-steps
returns-in_default-clause-steps g c = λ all.
    last_step (Unit {0}) (g.N.Namer.name_of c.args.repo.now.0) all c.args.waiting.now c.args.waiting.now c.args.repo.now.1.records (all_begun c.args.frames.now) (begun c.args.frame) (begun c.next.new.self) c.put_into.new.repo.1.records c.put_into.result
    c.in_default.ensures c.put_into.ensures.puts

pub returns-in_default-clause-less : goal.returns-in_default-clause-less
returns-in_default-clause-less g c = fewer_last (Unit {0}) c.args.waiting.now c.args.waiting.now (all_begun c.args.frames.now) (begun c.args.frame) c.put_into.result

pub returns-in_err-new-in-Given-clause-steps : goal.returns-in_err-new-in-Given-clause-steps
returns-in_err-new-in-Given-clause-steps g c = λ all.
    let p = err_from_is_err_and c.from_residual-in_err-new-in-Given.result c.from_residual-in_err-new-in-Given.ensures.1 in
    let n = c.in-Some.ensures in
    let found = c.in-Given.ensures.found in
    bad_step (Unit {0}) (g.N.Namer.name_of c.args.repo.now.0) all c.args.waiting.now c.find.new.waiting c.args.repo.now.1.records (all_begun c.args.frames.now) (begun c.args.frame) (shown_link c.in-Some.link) n.0 n.1
    c.in-Some.link.name c.in-Given.at (shown_object c.in-Given.object) (all_begun c.push.new.self) c.in_err-new-in-Given.field-0.0 c.from_residual-in_err-new-in-Given.result (p.1 ∙ ap Err p.2) refl found.0 found.1 found.2 c.in_err-new-in-Given.ensures

pub returns-in-Held-clause-steps : goal.returns-in-Held-clause-steps
returns-in-Held-clause-steps g c = λ all.
    let n = c.in-Some.ensures in
    let below = all_begun c.args.frames.now in
    held_step (Unit {0}) (g.N.Namer.name_of c.args.repo.now.0) all c.args.waiting.now c.find.new.waiting c.args.repo.now.1.records below (begun c.args.frame) (shown_link c.in-Some.link) n.0 n.1 (all_begun c.push.new.self)
    (pushed c.args.frames.now.items c.push.new.self.items c.next.new.self c.in_ok-push.ensures.items ∙ ap (λ (x : Begun). below ++ x ∷ []) n.2) c.in-Held.ensures.found c.in-Held.ensures.slots c.in-Held.ensures.places

pub returns-in-Held-clause-less : goal.returns-in-Held-clause-less
returns-in-Held-clause-less g c =
    let n = c.in-Some.ensures in
    let below = all_begun c.args.frames.now in
    fewer_held (Unit {0}) c.args.waiting.now c.find.new.waiting below (begun c.args.frame) (shown_link c.in-Some.link) n.0 n.1 (all_begun c.push.new.self)
    (pushed c.args.frames.now.items c.push.new.self.items c.next.new.self c.in_ok-push.ensures.items ∙ ap (λ (x : Begun). below ++ x ∷ []) n.2) c.in-Held.ensures.slots

pub returns-in_ok-push-in-Given-clause-steps : goal.returns-in_ok-push-in-Given-clause-steps
returns-in_ok-push-in-Given-clause-steps g c = λ all.
    let n = c.in-Some.ensures in
    let below = all_begun c.args.frames.now in
    let found = c.in-Given.ensures.found in
    let new = c.in_ok-new-in-Given.ensures in
    given_step (Unit {0}) (g.N.Namer.name_of c.args.repo.now.0) all c.args.waiting.now c.find.new.waiting c.args.repo.now.1.records below (begun c.args.frame) (shown_link c.in-Some.link) n.0 n.1
    c.in-Some.link.name c.in-Given.at (shown_object c.in-Given.object) (all_begun c.push-in-Given.new.self) refl
    (pushed c.push.new.self.items c.push-in-Given.new.self.items c.in_ok-new-in-Given.field-0 c.in_ok-push-in-Given.ensures.items
    ∙ ap (λ (bs : List Begun). bs ++ begun c.in_ok-new-in-Given.field-0 ∷ []) (pushed c.args.frames.now.items c.push.new.self.items c.next.new.self c.in_ok-push.ensures.items ∙ ap (λ (x : Begun). below ++ x ∷ []) n.2)
    ∙ append_assoc below (looked_at (begun c.args.frame) (shown_link c.in-Some.link) n.0 ∷ []) (begun c.in_ok-new-in-Given.field-0 ∷ [])
    ∙ ap (λ (x : Begun). below ++ looked_at (begun c.args.frame) (shown_link c.in-Some.link) n.0 ∷ x ∷ []) new.1)
    found.0 found.1 found.2 new.0 c.in-Given.ensures.slots c.in-Given.ensures.places

pub returns-in_ok-push-in-Given-clause-less : goal.returns-in_ok-push-in-Given-clause-less
returns-in_ok-push-in-Given-clause-less g c =
    let n = c.in-Some.ensures in
    let below = all_begun c.args.frames.now in
    let found = c.in-Given.ensures.found in
    let new = c.in_ok-new-in-Given.ensures in
    fewer_given (Unit {0}) c.args.waiting.now c.find.new.waiting below (begun c.args.frame) (shown_link c.in-Some.link) n.0 n.1
    c.in-Some.link.name c.in-Given.at (shown_object c.in-Given.object) (all_begun c.push-in-Given.new.self)
    (pushed c.push.new.self.items c.push-in-Given.new.self.items c.in_ok-new-in-Given.field-0 c.in_ok-push-in-Given.ensures.items
    ∙ ap (λ (bs : List Begun). bs ++ begun c.in_ok-new-in-Given.field-0 ∷ []) (pushed c.args.frames.now.items c.push.new.self.items c.next.new.self c.in_ok-push.ensures.items ∙ ap (λ (x : Begun). below ++ x ∷ []) n.2)
    ∙ append_assoc below (looked_at (begun c.args.frame) (shown_link c.in-Some.link) n.0 ∷ []) (begun c.in_ok-new-in-Given.field-0 ∷ [])
    ∙ ap (λ (x : Begun). below ++ looked_at (begun c.args.frame) (shown_link c.in-Some.link) n.0 ∷ x ∷ []) new.1)
    found.1 c.in-Given.ensures.slots

pub returns-in-Lacking-clause-steps : goal.returns-in-Lacking-clause-steps
returns-in-Lacking-clause-steps g c = λ all s.
    let n = c.in-Some.ensures in (
      tt,
      lacking_step (Unit {0}) (g.N.Namer.name_of c.args.repo.now.0) all c.args.waiting.now c.find.new.waiting c.args.repo.now.1.records (all_begun c.args.frames.now) (begun c.args.frame) (shown_link c.in-Some.link) n.0 n.1
          c.in-Some.link.name (begun c.next.new.self) refl n.2 c.in-Lacking.ensures.found s,
    )
