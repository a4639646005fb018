use Rattle.std.proofs.Common.{◌≡◌, ◌+◌, ◌++◌, ◌∷◌, [], List, ℕ, append_assoc, drop, map, subst, sym, ap, ◌∙◌}
use Rattle.std.proofs.lemmas.List.{map-append}
use Rattle.gx_object.specs.declared.name.Name.{Name}
use Rattle.gx_print.proofs.Places.{from_place, past_place}
use Rattle.gx_cli.proofs.questions.parents_of.Goals.{in-Some+in_ok-push, in_default}
use Rattle.gx_cli.proofs.questions.parents_of.Goals as goal

abbrev bytes_of : Name → List ℕ
bytes_of name = name.bytes

pub loop-place-preserved : goal.loop-place-preserved
loop-place-preserved g c =
    let names = c.args.view.now.parents in
    let i = c.loop-place.place in
    let old = c.loop-place.parents.items in
    let rest = drop (i + 1) names in
    elim c.match-parent.branch [
      | in-Some+in_ok-push w ↦
          let called = w.in-Some.parent in
          let here = from_place names i called.bytes w.in-Some.ensures in
          let pushed = ap (map bytes_of) w.in_ok-push.ensures.items ∙ map-append bytes_of old (called ∷ []) in
          let added = ap (λ x. x ++ rest) pushed ∙ append_assoc (map bytes_of old) (called.bytes ∷ []) rest ∙ ap (λ ns. map bytes_of old ++ ns) (sym here) ∙ c.loop-place.invariant in
          subst (λ parents. map bytes_of parents.items ++ rest ≡ names) (sym w.parents-is) added
      | in_default w ↦
          subst (λ parents. map bytes_of parents.items ++ rest ≡ names) (sym w.parents-is) (ap (λ ns. map bytes_of old ++ ns) (sym (past_place names i w.in_default.ensures)) ∙ c.loop-place.invariant)
    ]
