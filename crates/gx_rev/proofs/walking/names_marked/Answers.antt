use Rattle.std.proofs.Common.{◌≡◌, ◌<◌, ◌+◌, ◌-◌, ◌∙◌, sym, ap, arith, length, Bool, true, false, drop, map, List, ◌++◌, ◌∷◌, [], append-nil}
use Rattle.std.specs.Prelude.{◌&&◌, not, slice_index_or}
use Rattle.std.proofs.lemmas.List.{map-append}
use Rattle.gx_model.specs.Histories.Marks.{marks_of}
use Rattle.gx_model.specs.Histories.Values.{Commit}
use Rattle.gx_model.specs.Laws.RepositoryLaws.{values_of}
use Rattle.gx_object.specs.declared.name.Name.{Name}
use Rattle.gx_rev.specs.Objects.{value_at}
use Rattle.gx_model.proofs.Records.HeldValues.{held_is}
use Rattle.gx_rev.proofs.WordMarks.{marks_long, marks_without, names_back, names_end, names_listed, names_step, value_there}
use Rattle.gx_rev.proofs.walking.names_marked.Goals as goal
use Rattle.gx_rev.proofs.walking.names_marked.Goals.{else-included-left-via-then-included-left+else-not-excluded-left, else-included-left-via-else-included-left}

pub loop-left-init : goal.loop-left-init
loop-left-init g c = record {
  within = omega arith;
  named = λ marks l w.
      ap (λ (ns : List Name). map (λ n. n.bytes) ns) c.new-names.ensures.items
      ∙ sym (names_end (g.N.Namer.name_of c.args.repo.now.0) (values_of c.args.repo.now.1) marks (length c.args.included.now) (omega (arith, l)));
}

pub loop-left-preserved-then-not-excluded-left : goal.loop-left-preserved-then-not-excluded-left
loop-left-preserved-then-not-excluded-left g c =
    let name = g.N.Namer.name_of c.args.repo.now.0 in
    let namer = g.met.N.Namer.is_namer c.args.repo.now.0 in
    let r = c.args.repo.now.1 in
    let at = c.loop-left.left - 1 in
    let next : c.loop-left.left ≡ c.loop-left.left - 1 + 1 = omega arith in
    let within : c.loop-left.left - 1 < length c.args.included.now = omega (arith, c.loop-left.invariant.within) in
    let called = (held_is name namer r c.sound.ensures c.name_at.result.bytes c.name_at.ensures.held).named in
    record {
      within = omega (arith, c.loop-left.invariant.within);
      named = λ marks l w.
          let marked : slice_index_or marks at false ≡ true = w at ∙ (λ j. c.if-included-left.true j && not (c.if-not-excluded-left.true j)) in
          let step = names_step name (values_of r) marks at (value_at r c.name_at.result) true (omega (arith, within, l)) c.name_at.ensures.value marked in
          rw (c.in_ok-push.ensures.items, map-append)
          ((λ i. (c.loop-left.invariant.named marks l w ∙ ap (λ k. names_back name (drop k (values_of r)) (drop k marks)) next) i ++ sym called i ∷ []) ∙ sym step);
    }

pub loop-left-preserved : goal.loop-left-preserved
loop-left-preserved g c =
    let name = g.N.Namer.name_of c.args.repo.now.0 in
    let r = c.args.repo.now.1 in
    let at = c.loop-left.left - 1 in
    let next : c.loop-left.left ≡ c.loop-left.left - 1 + 1 = omega arith in
    let within : c.loop-left.left - 1 < length c.args.included.now = omega (arith, c.loop-left.invariant.within) in
    let there = value_there (values_of r) at (omega (arith, within, c.requires.included)) in
    let passed : (slice_index_or c.args.included.now at false && not (slice_index_or c.args.excluded.now at false)) ≡ false = elim c.else-included-left.branch [
      | else-included-left-via-then-included-left+else-not-excluded-left w ↦ (λ j. w.if-included-left.true j && not (w.if-not-excluded-left.false j))
      | else-included-left-via-else-included-left w ↦ (λ j. w.if-included-left.false j && not (slice_index_or c.args.excluded.now at false))
    ] in
    record {
      within = omega (arith, c.loop-left.invariant.within);
      named = λ marks l w.
          let step = names_step name (values_of r) marks at there.0 false (omega (arith, within, l)) there.1 (w at ∙ passed) in
          c.loop-left.invariant.named marks l w ∙ ap (λ k. names_back name (drop k (values_of r)) (drop k marks)) next ∙ sym (step ∙ append-nil _);
    }

pub returns : goal.returns
returns g c = λ wanted unwanted e f.
    let vs = values_of c.args.repo.now.1 in
    let alone : Commit → Bool = λ made. wanted made && not (unwanted made) in
    let none : c.loop-left.left ≡ 0 = omega arith in
    let named = c.loop-left.invariant.named (marks_of alone vs) (marks_long vs alone ∙ sym c.requires.included)
    (λ place. marks_without vs wanted unwanted place ∙ (λ i. slice_index_or (sym e i) place false && not (slice_index_or (sym f i) place false))) in
    named ∙ ap (λ k. names_back (g.N.Namer.name_of c.args.repo.now.0) (drop k vs) (drop k (marks_of alone vs))) none
    ∙ names_listed (g.N.Namer.name_of c.args.repo.now.0) vs alone
