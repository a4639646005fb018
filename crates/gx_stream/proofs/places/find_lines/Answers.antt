use Rattle.std.proofs.Common.{◌∙◌, ap, sym, subst}
use Rattle.gx_stream.specs.Places.{IsSearched}
use Rattle.gx_stream.proofs.Lines.{GoesTo-start}
use Rattle.gx_stream.proofs.Delimiters.{Searched-more, Searched-none_left, Searched-found}
use Rattle.gx_stream.proofs.places.find_lines.Goals as goal

pub returns-in_default-clause-found : goal.returns-in_default-clause-found
returns-in_default-clause-found c = Searched-none_left _ _ _ _ _ c.in_default.ensures c.loop-line.invariant.searched.1

pub returns-then-eq-clause-found : goal.returns-then-eq-clause-found
returns-then-eq-clause-found c = Searched-found _ _ _ _ _ _ c.in-Some.ensures (sym c.eq.ensures ∙ c.if-eq.true) c.loop-line.invariant.searched.1

pub loop-line-preserved : goal.loop-line-preserved
loop-line-preserved c =
    let next = c.in-Some.line.next in
    let text = c.args.text.now in
    record {
      searched = subst (IsSearched text c.args.delimiter.now c.args.fails c.args.start) (sym c.at_line.ensures) (GoesTo-start text next c.in-Some.ensures.within.2, Searched-more _ _ _ _ _ _ c.in-Some.ensures (sym c.eq.ensures ∙ c.if-eq.false) c.loop-line.invariant.searched.1);
      first = ap (λ scan. scan.first) c.at_line.ensures ∙ c.loop-line.invariant.first;
    }
