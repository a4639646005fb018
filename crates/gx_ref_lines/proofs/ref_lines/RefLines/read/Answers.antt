use Rattle.std.proofs.Common.{ap, sym, subst, ◌∙◌, ◌++◌, [], ◌∷◌}
use Rattle.std.proofs.lemmas.List.{map-append}
use Rattle.gx_ref_lines.specs.Refs.{shown_refs}
use Rattle.gx_repo.specs.Refs.{shown_lent_ref}
use Rattle.gx_ref_lines.proofs.LinesRead.{AreFirst, all_found, no_text_left, none_cut, one_cut, some_left}
use Rattle.gx_ref_lines.proofs.ref_lines.RefLines.read.Goals as goal

pub returns-in_default-clause-damaged : goal.returns-in_default-clause-damaged
returns-in_default-clause-damaged g c _ =
    let rest = c.loop-rest.rest.now in
    none_cut c.args.lines.now rest (shown_refs c.loop-rest.refs.items) (some_left rest c.is_empty.ensures c.loop-rest-test.true) c.loop-rest.invariant c.in_default.ensures.first

pub loop-rest-preserved : goal.loop-rest-preserved
loop-rest-preserved g c =
    let lines = c.args.lines.now in
    let rest = c.loop-rest.rest.now in
    let found = c.loop-rest.refs.items in
    let behind = c.in-Some.behind.now in
    subst (λ refs. AreFirst lines behind refs) (sym (ap shown_refs c.in_ok-push.ensures.items ∙ map-append shown_lent_ref found (c.in-Some.held ∷ [])))
    (one_cut lines rest (shown_refs found) (some_left rest c.is_empty.ensures c.loop-rest-test.true) c.loop-rest.invariant (shown_lent_ref c.in-Some.held) behind c.in-Some.ensures.spelled c.in-Some.ensures.first)

pub returns-clause-all : goal.returns-clause-all
returns-clause-all g c =
    let rest = c.loop-rest.rest.now in
    (all_found c.args.lines.now rest (shown_refs c.loop-rest.refs.items) (no_text_left rest c.is_empty.ensures c.loop-rest-test.false) c.loop-rest.invariant).1
