use Rattle.std.proofs.Common.{◌≡◌, ◌+◌, ◌++◌, ◌∷◌, append_assoc, drop, subst, sym, ap, ◌∙◌}
use Rattle.gx_model.specs.Objects.{hex}
use Rattle.gx_print.specs.Logs.{parent_text}
use Rattle.gx_print.proofs.Places.{from_place, past_place}
use Rattle.gx_print.proofs.formats.put_parents.Goals.{in-Some+in_ok-put_parent, in_default}
use Rattle.gx_print.proofs.formats.put_parents.Goals as goal

pub loop-place-preserved : goal.loop-place-preserved
loop-place-preserved g c =
    let names = c.args.commit.now.parents in
    let i = c.loop-place.place in
    let mid = c.loop-place.out.items in
    let rest = parent_text (drop (i + 1) names) in
    let whole = c.args.out.now.items ++ parent_text names in
    elim c.match-parent.branch [
      | in-Some+in_ok-put_parent w ↦
          let line = 32 ∷ hex w.in-Some.parent.bytes in
          let here = from_place names i w.in-Some.parent.bytes w.in-Some.ensures in
          let added = ap (λ x. x ++ rest) w.in_ok-put_parent.ensures ∙ append_assoc mid line rest ∙ ap (λ ns. mid ++ parent_text ns) (sym here) ∙ c.loop-place.invariant in
          subst (λ out. out.items ++ rest ≡ whole) (sym w.out-is) added
      | in_default w ↦
          subst (λ out. out.items ++ rest ≡ whole) (sym w.out-is) (ap (λ ns. mid ++ parent_text ns) (sym (past_place names i w.in_default.ensures)) ∙ c.loop-place.invariant)
    ]
