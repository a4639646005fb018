use Rattle.std.proofs.Common.{◌∙◌, ap, map}
use Rattle.std.proofs.lemmas.Iterator.Adapters.{YieldsList-from_vec}
use Rattle.std.proofs.lemmas.Iterator.Consumers.{YieldsList-end}
use Rattle.gx_placed.specs.Machine.{place_in}
use Rattle.gx_placed.specs.Places.{shown_object}
use Rattle.gx_placed.proofs.Slots.{all_slots}
use Rattle.gx_placed.proofs.waiting.Waiting.new.Goals as goal

pub returns-clause-slots : goal.returns-clause-slots
returns-clause-slots g c =
    let b = c.into_iter-object-iterator.ensures.into_iter_gives in
    let t = YieldsList-end (YieldsList-from_vec c.args.given.items b.0 (b.1 ∙ c.args.given.ok.0)) c.loop-object.yielded c.loop-object.object-iterator c.loop-object.yielded_by c.next.result c.next.new.self c.in-None.is c.next.ensures.steps in
    all_slots shown_object c.loop-object.objects.items c.loop-object.yielded c.args.given.items c.loop-object.invariant t.0

pub returns-clause-places : goal.returns-clause-places
returns-clause-places g c = λ called. c.in_ok-places.ensures called ∙ ap (λ xs. place_in (map shown_object xs) called.bytes) c.deref.ensures.value
