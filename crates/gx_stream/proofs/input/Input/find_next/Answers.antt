use Rattle.std.proofs.Common.{◌∙◌, take, sym, subst}
use Rattle.gx_stream.specs.Input.{Looks, is_full, text_of}
use Rattle.gx_stream.proofs.Views.{kept_twice, looks_here, skipped_keeps}
use Rattle.gx_stream.proofs.input.Input.find_next.Goals as goal

pub returns-then-is_whole-clause-keeps : goal.returns-then-is_whole-clause-keeps
returns-then-is_whole-clause-keeps g c =
    let i = c.loop-found.self in
    let looks = subst (λ t. Looks (take i.came t) i.state i.at c.look-found.new.at c.look-found.result) c.deref.ensures.value c.look-found.ensures.looks in
    kept_twice _ _ _ c.loop-found.invariant.keeps (skipped_keeps (is_full i) i.state i.room (g.R.Source.coming i.source) (text_of i) i.at c.look-found.new.at c.look-found.result looks)

pub returns-then-is_whole-clause-found : goal.returns-then-is_whole-clause-found
returns-then-is_whole-clause-found g c =
    let i = c.loop-found.self in
    let looks = subst (λ t. Looks (take i.came t) i.state i.at c.look-found.new.at c.look-found.result) c.deref.ensures.value c.look-found.ensures.looks in
    (looks_here (text_of i) i.state i.at c.look-found.new.at c.look-found.result looks, sym c.is_whole.ensures ∙ c.if-is_whole.true)
