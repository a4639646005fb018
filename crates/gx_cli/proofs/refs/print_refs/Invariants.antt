use Rattle.std.specs.List.{flat_map}
use Rattle.gx_model.specs.Stores.StoreText.{stored_ref}
use Rattle.gx_print.specs.Stored.{refs_text}
use Rattle.gx_model.proofs.Texts.SentTexts.{IsLeft}
use Rattle.gx_cli.proofs.refs.print_refs.Given as goal

abbrev pub invariant-loop-name : goal.invariant-loop-name
invariant-loop-name g l =
    (goal.iterator-loop-name g).can_next l.name-iterator
    × (goal.iterator-loop-name g).is_finite l.name-iterator
    × IsLeft (refs_text l.repo.1) (g.W.Sink.taken l.fn.sink) (g.W.Sink.taken l.sink) (flat_map stored_ref l.name-iterator)
