use Rattle.std.proofs.Common.{ap, subst, sym, ◌∙◌}
use Rattle.std.specs.Prelude.{not}
use Rattle.gx_ref_lines.specs.Refs.{shown_refs}
use Rattle.gx_repo.specs.Dropping.{IsAgainstNames}
use Rattle.gx_repo.proofs.DroppedRefs.{known_next, refused_again}
use Rattle.gx_text.specs.Lent.{lent_texts}
use Rattle.gx_left_refs.proofs.DroppedLines.{are_next, held_unless, not_false, not_true}
use Rattle.gx_left_refs.proofs.refs.gone_names.Goals as goal

pub returns-then-not-is_new-clause-known : goal.returns-then-not-is_new-clause-known
returns-then-not-is_new-clause-known g c sorted =
    let refs = shown_refs c.args.held.now.refs.items in
    let names = c.args.names.now in
    let held = held_unless refs _ c.find.result (c.find.ensures sorted) _ c.is_none.ensures in
    subst (IsAgainstNames refs (lent_texts names)) (sym c.unknown-then-not-is_new.ensures)
    (refused_again refs names c.loop-place.place _ c.loop-place-test.true (c.loop-place.invariant.rest sorted) (held ∙ ap not c.if-is_none.false)
    (sym (c.loop-place.invariant.are _) ∙ not_false _ (sym c.in-Ok.ensures.added ∙ c.if-not-is_new.true)))

pub loop-place-preserved : goal.loop-place-preserved
loop-place-preserved g c =
    let refs = shown_refs c.args.held.now.refs.items in
    let names = c.args.names.now in
    let at = c.loop-place.place in
    record {
      are = are_next c.loop-place.gone c.insert.new.self names at _ c.loop-place-test.true c.loop-place.invariant.are c.in-Ok.ensures.updates.0;
      rest = λ sorted.
          let held = held_unless refs _ c.find.result (c.find.ensures sorted) _ c.is_none.ensures in
          known_next refs names at _ c.loop-place-test.true (c.loop-place.invariant.rest sorted) (held ∙ ap not c.if-is_none.false) (sym (c.loop-place.invariant.are _) ∙ not_true _ (sym c.in-Ok.ensures.added ∙ c.if-not-is_new.false));
    }
