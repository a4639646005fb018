use Rattle.std.proofs.Common.{◌++◌, ap, map, ◌∙◌, arith}
use Rattle.gx_ref_lines.specs.Refs.{shown_refs}
use Rattle.gx_rev.specs.Views.{shown_range}
use Rattle.gx_bundled.specs.Named.{names_of_word}
use Rattle.gx_bundled.proofs.NamedRefs.{names_begun, names_done, names_more}
use Rattle.gx_bundled.proofs.named.names_of.Goals as goal

pub loop-word-init : goal.loop-word-init
loop-word-init g c = names_begun (shown_refs c.args.held.now.refs.items) shown_range c.args.words.now _ (ap (map (λ name. name.items)) c.new-names.ensures.items)

pub loop-word-preserved : goal.loop-word-preserved
loop-word-preserved g c =
    let refs = shown_refs c.args.held.now.refs.items in
    let names = map (λ name. name.items) c.loop-word.names.items in
    names_more refs shown_range c.args.words.now c.loop-word.word-index c.word-item.result c.loop-word-test.true names (map (λ name. name.items) c.add_word.new.names.items) c.loop-word.invariant
    (c.in_ok-add_word.ensures ∙ ap (λ word. names ++ names_of_word refs (shown_range word)) c.word-item.is)

pub returns : goal.returns
returns g c = names_done (shown_refs c.args.held.now.refs.items) shown_range c.args.words.now c.loop-word.word-index (omega (arith, c.loop-word-test.false)) (map (λ name. name.items) c.loop-word.names.items) c.loop-word.invariant
