use Rattle.std.proofs.Common.{◌≡◌, ◌≤◌, ◌++◌, ◌∷◌, ◌∙◌, [], None, Some, ap, append-nil, arith, drop_of_length-le, get_or, length, map, sym}
use Rattle.std.proofs.lemmas.Option.{slice_get-get_or}
use Rattle.gx_model.specs.declared.objects.Kind.TheVariants as kinds
use Rattle.gx_model.proofs.ObjectTexts.BodiesReadBack.{commit_read}
use Rattle.gx_wide.specs.Placing.{wide_links}
use Rattle.gx_links.specs.Links.{shown_link}
use Rattle.gx_links.proofs.BodyLinks.{next_parent, parent_link, told_bad, told_good}
use Rattle.gx_links.proofs.links.links_of_commit.Goals as goal

pub returns-in_default : goal.returns-in_default
returns-in_default g c = told_bad kinds.Commit c.args.body.now (λ p. c.in_default.ensures.only p.0 p.1)

pub loop-number-init : goal.loop-number-init
loop-number-init g c =
    let commit = c.in-Ok.commit in
    (λ i. (c.in_ok-push.ensures ∙ (λ j. map shown_link (c.new-links.ensures.items j) ++ (kinds.Tree, c.tree.ensures j) ∷ [])) i ++ map parent_link commit.parents)
    ∙ ap (λ p. (kinds.Tree, p.tree) ∷ map parent_link p.parents) (sym (commit_read commit c.args.body.now c.in-Ok.ensures.found))

pub unreachable-requires : goal.unreachable-requires
unreachable-requires g c =
    let ns = c.in-Ok.commit.parents in
    let there = slice_get-get_or ns c.loop-number.number [] (omega (arith, c.loop-number-test.true, c.parent_count-number-end.ensures)) in
    let clash : None ≡ Some (get_or ns c.loop-number.number []) = c.in_default-parent.ensures ∙ there in
    cc

pub loop-number-preserved : goal.loop-number-preserved
loop-number-preserved g c =
    next_parent (map shown_link c.loop-number.links.items) (map shown_link c.push-in-loop-number.new.links.items) (wide_links kinds.Commit c.args.body.now) c.in-Some.parent.bytes c.in-Ok.commit.parents c.loop-number.number
    c.in_ok-push-2.ensures c.in-Some.ensures c.loop-number.invariant

pub returns : goal.returns
returns g c =
    let links = map shown_link c.loop-number.links.items in
    let ns = c.in-Ok.commit.parents in
    let all : length ns ≤ c.loop-number.number = omega (arith, c.parent_count-number-end.ensures) in (
      told_good kinds.Commit c.args.body.now (c.in-Ok.commit, c.in-Ok.ensures.found),
      sym (append-nil links) ∙ ap (λ ms. links ++ map parent_link ms) (sym (drop_of_length-le ns all)) ∙ c.loop-number.invariant,
    )
