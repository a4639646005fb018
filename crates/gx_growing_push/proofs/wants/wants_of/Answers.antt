use Rattle.std.proofs.Common.{◌≡◌, List, [], ◌∷◌, ◌++◌, ◌∙◌, ap, subst, sym}
use Rattle.std.proofs.lemmas.List.{map-append}
use Rattle.std.specs.List.{AllByRecursion}
use Rattle.gx_push.proofs.ReadLines.{read_next}
use Rattle.gx_push.specs.Wants.{ref_of, refs_of, shown_want, shown_wants, want_of}
use Rattle.gx_push.specs.declared.want.Want.{Want}
use Rattle.gx_growing_import.proofs.AlikeTexts.{all_next}
use Rattle.gx_ref_lines.specs.Refs.{shown_refs}
use Rattle.gx_growing_push.specs.Wanting.{IsFree}
use Rattle.gx_growing_push.proofs.wants.wants_of.Goals as goal

-- one more that may become of what it was
free_next : (list : List Want) (want : Want) (all : List Want) → all ≡ list ++ want ∷ [] → AllByRecursion IsFree (shown_wants list) → IsFree (shown_want want) → AllByRecursion IsFree (shown_wants all)
free_next list want all e h k = subst (AllByRecursion IsFree) (sym (ap shown_wants e ∙ map-append shown_want list (want ∷ []))) (all_next IsFree (shown_wants list) (shown_want want) h k)

pub loop-line-preserved : goal.loop-line-preserved
loop-line-preserved g c =
    let l = c.loop-line in
    let line = c.as_slice.ensures.value ∙ ap (λ v. v.items) c.line-item.is in
    let held = c.in-Some.ensures.held (refs_of (shown_wants l.list.items)) l.invariant.0.are in
    let pushed = c.in_ok-push.ensures.items in (
      read_next {A = g.row.A.Denot} ref_of (want_of (shown_refs c.args.held.now.refs.items)) shown_want c.args.lines.now l.list.items l.names l.line-index c.line-item.result c.loop-line-test.true l.invariant.0 c.as_slice.result.now line c.in-Some.want c.insert.new.self c.push.new.self.items pushed held c.in_ok-insert.ensures.updates.0,
      free_next l.list.items c.in-Some.want c.push.new.self.items pushed l.invariant.1 c.in-Some.ensures.free,
    )
