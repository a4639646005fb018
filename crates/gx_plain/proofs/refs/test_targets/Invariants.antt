use Rattle.std.proofs.Common.{List}
use Rattle.std.specs.Prelude.{IfSome}
use Rattle.std.specs.Option.{option_map}
use Rattle.gx_model.specs.Histories.{Record}
use Rattle.gx_plain.specs.Refs.{AreTold}
use Rattle.gx_plain.proofs.NextRefs.{AreFar}
use Rattle.gx_plain.proofs.refs.test_targets.Given as goal

abbrev pub invariant-loop : goal.invariant-loop
invariant-loop g l =
    IfSome (g.S.ReadAt.text l.source) (λ text. (rs : List Record) → AreTold (g.N.Namer.name_of l.namer) l.version text l.listing rs → AreFar rs l.count l.lines l.counter (option_map (λ last. last.now) l.last) l.rest)
