use Rattle.std.proofs.Common.{◌≡◌, ◌+◌, ◌∷◌, [], ◌++◌, ap, drop, map, refl, sym, subst}
use Rattle.std.proofs.lemmas.List.{drop_all, map-append}
use Rattle.gx_model.specs.Revisions.Denotation.{denoted}
use Rattle.gx_model.specs.Records.HistoryOf.{history_of}
use Rattle.gx_rev.specs.Answers.{IsNamed, shown_by}
use Rattle.gx_cli.proofs.Pieces.{rest_from}
use Rattle.gx_print.specs.Stored.{all_words}
use Rattle.gx_print.proofs.ReadWords.{AreRead, all_read, next_read}
use Rattle.gx_cli.proofs.ReadWords.{word_refused}
use Rattle.gx_print.proofs.WordsRead.{all_push}
use Rattle.gx_cli.proofs.rev_parse.eval_into.Goals as goal

pub loop-place-preserved : goal.loop-place-preserved
loop-place-preserved g c =
    let name = g.N.Namer.name_of c.args.repo.now.0 in
    let r = c.args.repo.now.1 in
    let f = denoted name (history_of r) in
    let all = c.args.revisions.now in
    let place = c.loop-place.place in
    let x = c.index-revisions-place.result in
    let seen = map (shown_by r) c.loop-place.shown.items in
    let left = drop (place + 1) all in
    let so_far = subst (λ ws. AreRead f all ws place seen) (rest_from all place x x c.loop-place-test.true c.index-revisions-place.is) c.loop-place.invariant.done in
    let next = next_read f all left x place seen (shown_by r c.in-Ok.object) c.in-Ok.ensures.shown so_far in
    let more : seen ++ shown_by r c.in-Ok.object ∷ [] ≡ map (shown_by r) (c.loop-place.shown.items ++ c.in-Ok.object ∷ []) = sym (map-append (shown_by r) c.loop-place.shown.items (c.in-Ok.object ∷ [])) in
    rw c.in_ok-push-in-Ok.ensures.items (record {
      done = subst (AreRead f all left (place + 1)) more next;
      named = all_push (IsNamed name r) c.loop-place.shown.items c.in-Ok.object c.loop-place.invariant.named c.in-Ok.ensures.named;
    })

pub returns-in-Err-clause-shown : goal.returns-in-Err-clause-shown
returns-in-Err-clause-shown g c =
    let r = c.args.repo.now.1 in
    let f = denoted (g.N.Namer.name_of c.args.repo.now.0) (history_of r) in
    let all = c.args.revisions.now in
    let place = c.loop-place.place in
    let x = c.index-revisions-place.result in
    let seen = map (shown_by r) c.loop-place.shown.items in
    let left = drop (place + 1) all in
    let so_far = subst (λ ws. AreRead f all ws place seen) (rest_from all place x x c.loop-place-test.true c.index-revisions-place.is) c.loop-place.invariant.done in
    rw c.refused.ensures (word_refused f all left x place seen c.in-Err.kind c.in-Err.ensures.shown so_far (place + 1) refl)

pub returns-clause-shown : goal.returns-clause-shown
returns-clause-shown g c =
    let r = c.args.repo.now.1 in
    let f = denoted (g.N.Namer.name_of c.args.repo.now.0) (history_of r) in
    let all = c.args.revisions.now in
    let place = c.loop-place.place in
    let seen = map (shown_by r) c.loop-place.shown.items in
    let so_far = subst (λ ws. AreRead f all ws place seen) (drop_all place all c.loop-place-test.false) c.loop-place.invariant.done in
    ap all_words (all_read f all place seen so_far)

pub returns-clause-named : goal.returns-clause-named
returns-clause-named g c = c.loop-place.invariant.named
