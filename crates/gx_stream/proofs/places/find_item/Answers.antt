use Rattle.std.proofs.Common.{◌∙◌, sym, subst, slice_range, drop}
use Rattle.gx_stream.specs.Places.{GoesTo, IsSearched, IsScanned}
use Rattle.gx_stream.proofs.Lines.{GoesTo-start}
use Rattle.gx_stream.proofs.Comments.{Skipped-more, Finds-none, Finds-item}
use Rattle.gx_stream.proofs.Scans.{first_goes, scanned_none, past_first-searched, searched-scanned}
use Rattle.gx_stream.proofs.places.find_item.Goals as goal

pub returns-in_default-clause-found : goal.returns-in_default-clause-found
returns-in_default-clause-found c = Finds-none _ _ _ c.end_of.result c.end_of.ensures c.in_default.ensures

pub find_from-requires-clause-scan : goal.find_from-requires-clause-scan
find_from-requires-clause-scan c =
    let line = c.in-Some.line in
    subst (IsSearched c.args.text.now (drop 2 (drop 5 (slice_range c.args.text.now line.start line.end))) c.args.fails line.next) (sym c.past_first.ensures) (past_first-searched _ _ _ _ _ c.loop-line.invariant.skipped.within c.in-Some.ensures c.loop-line.invariant.scanned)

pub returns-then-not-starts_with-clause-found : goal.returns-then-not-starts_with-clause-found
returns-then-not-starts_with-clause-found c = Finds-item _ _ _ _ _ c.loop-line.invariant.skipped.within c.in-Some.ensures c.find_from.ensures.begins

pub returns-then-not-starts_with-clause-scanned : goal.returns-then-not-starts_with-clause-scanned
returns-then-not-starts_with-clause-scanned c = searched-scanned _ _ _ c.find_from.new.scan _ c.loop-line.invariant.skipped.within c.in-Some.ensures c.find_from.ensures.scan

pub loop-line-preserved : goal.loop-line-preserved
loop-line-preserved c =
    record {
      skipped = Skipped-more _ _ _ _ _ c.in-Some.ensures (sym c.starts_with.ensures.value ∙ c.if-not-starts_with.false) c.loop-line.invariant.skipped;
      scanned = subst (IsScanned c.args.text.now c.args.fails c.in-Some.line.next) (sym c.from_line.ensures) (scanned_none c.args.text.now c.args.fails c.in-Some.line.next c.in-Some.ensures.within.2);
      first = subst (λ scan. GoesTo c.args.text.now c.in-Some.line.next scan.first) (sym c.from_line.ensures) (GoesTo-start c.args.text.now c.in-Some.line.next c.in-Some.ensures.within.2);
    }

pub returns-then-not-starts_with-clause-first : goal.returns-then-not-starts_with-clause-first
returns-then-not-starts_with-clause-first c = λ f. subst (GoesTo c.args.text.now c.loop-line.at) (sym c.find_from.ensures.first) (subst (λ b. GoesTo c.args.text.now c.loop-line.at c.in-Some.line.end) f (first_goes _ _ _ _ c.loop-line.invariant.skipped.within c.in-Some.ensures))
