use Rattle.std.proofs.Common.{◌≡◌, ◌+◌, ◌++◌, append_assoc, drop, subst, sym, ap, ◌∙◌}
use Rattle.std.specs.List.{flat_map}
use Rattle.gx_c.specs.Answers.{digits_line}
use Rattle.gx_c.proofs.Places.{from_place, past_place}
use Rattle.gx_c.proofs.fields.put_parents.Goals.{in-Some+in_ok-put_name, in_default}
use Rattle.gx_c.proofs.fields.put_parents.Goals as goal

pub loop-place-preserved : goal.loop-place-preserved
loop-place-preserved g c =
    let names = c.args.commit.now.parents in
    let i = c.loop-place.place in
    let mid = c.loop-place.text.items in
    let rest = flat_map digits_line (drop (i + 1) names) in
    let whole = flat_map digits_line names in
    elim c.match-parent.branch [
      | in-Some+in_ok-put_name w ↦
          let line = digits_line w.in-Some.parent.bytes in
          let here = from_place names i w.in-Some.parent.bytes w.in-Some.ensures in
          let added = ap (λ x. x ++ rest) w.in_ok-put_name.ensures ∙ append_assoc mid line rest ∙ ap (λ ns. mid ++ flat_map digits_line ns) (sym here) ∙ c.loop-place.invariant in
          subst (λ text. text.items ++ rest ≡ whole) (sym w.text-is) added
      | in_default w ↦
          subst (λ text. text.items ++ rest ≡ whole) (sym w.text-is) (ap (λ ns. mid ++ flat_map digits_line ns) (sym (past_place names i w.in_default.ensures)) ∙ c.loop-place.invariant)
    ]
