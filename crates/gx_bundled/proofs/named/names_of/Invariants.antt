use Rattle.std.proofs.Common.{◌≡◌, ◌++◌, drop, map}
use Rattle.gx_ref_lines.specs.Refs.{shown_refs}
use Rattle.gx_rev.specs.Views.{shown_range}
use Rattle.gx_bundled.specs.Named.{names_of}
use Rattle.gx_bundled.proofs.named.names_of.Given as goal

abbrev pub invariant-loop-word : goal.invariant-loop-word
invariant-loop-word g l =
    map (λ name. name.items) l.names.items ++ names_of (shown_refs l.held.refs.items) (map shown_range (drop l.word-index l.words)) ≡ names_of (shown_refs l.held.refs.items) (map shown_range l.words)
