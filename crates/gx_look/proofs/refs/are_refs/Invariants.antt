use Rattle.std.proofs.Common.{◌≡◌, ◌-◌, List, length}
use Rattle.std.specs.Option.{option_map}
use Rattle.gx_model.specs.Texts.{Bytes}
use Rattle.gx_objects.specs.Answers.{AreRefs}
use Rattle.gx_look.specs.Tails.{refs_text}
use Rattle.gx_look.proofs.CheckedRefs.{AreLeft, IsAhead}
use Rattle.gx_look.proofs.refs.are_refs.Given as goal

abbrev pub invariant-loop : goal.invariant-loop
invariant-loop l = record {
  ahead : IsAhead l.text (option_map (λ last. last.now) l.last) l.rest;
  left : (refs : List (Bytes × Bytes)) → l.text ≡ refs_text refs → AreRefs refs → length refs ≡ l.count → AreLeft (option_map (λ last. last.now) l.last) l.rest (l.count - l.counter);
}
