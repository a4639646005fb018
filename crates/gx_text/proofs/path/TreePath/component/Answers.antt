use Rattle.std.proofs.Common.{◌≡◌, ℕ, ◌+◌, ◌-◌, ◌<◌, ◌≤◌, true, subst, ap, length, List, [], get_or, take, drop, Fits, w64, Ok, refl, ◌∙◌, arith, rules}
use Rattle.std.proofs.lemmas.Grind.{get_or_default_zero}
use Rattle.gx_model.specs.Texts.{Bytes}
use Rattle.gx_model.specs.Texts.Paths.{parts_of, path_of}
use Rattle.gx_text.specs.TreePaths.{is_path, component_ends}
use Rattle.gx_text.proofs.Components.{length-component_ends, text_is_path, text_is_short, placed, stands_within, stands_there, start_in, start_first, start_later, Stands}
use Rattle.gx_text.proofs.path.TreePath.component.Goals as goal
use Rattle.gx_text.proofs.path.TreePath.component.Goals.{then-place-eq0, else-place-eq0}

-- the place is one of the ends
among : (text : Bytes) (ends : List ℕ) (i : ℕ) → ends ≡ component_ends text → i < length (parts_of text) → i < length ends
among text ends i e lt = omega (arith, ap length e, length-component_ends text)

end_at : (text : Bytes) (ends : List ℕ) (i j end : ℕ) → ends ≡ component_ends text → j < length (parts_of text) → i ≤ j → end ≡ get_or ends i end → end ≡ get_or ends i 0
end_at text ends i j end e lt le is = let within = among text ends j e lt in is ∙ get_or_default_zero ends i end (omega arith)

behind : (text : Bytes) (ends : List ℕ) (i start end : ℕ) → ends ≡ component_ends text → i < length (parts_of text) → (i ≡ 0 → ⊥) → start ≡ end + 1 → end ≡ get_or ends (i - 1) end → start ≡ start_in 0 ends i
behind text ends i start end e lt later s is = start_later ends i start later (s ∙ ap (λ n. n + 1) (end_at text ends (i - 1) i end e lt (omega arith) is))

there : (text : Bytes) (ends : List ℕ) (i start end : ℕ) → ends ≡ component_ends text → i < length (parts_of text) → start ≡ start_in 0 ends i → end ≡ get_or ends i end → Stands text start end (get_or (parts_of text) i [])
there text ends i start end e lt s is = placed text ends i start end e lt s (end_at text ends i i end e lt (omega arith) is)

start_fits : (text : Bytes) (ends : List ℕ) (i end : ℕ) → path_of text ≡ Ok (parts_of text) → ends ≡ component_ends text → i < length (parts_of text) → (i ≡ 0 → ⊥) → end ≡ get_or ends (i - 1) end → Fits w64 (end + 1)
start_fits text ends i end p e lt later is =
    let within = stands_within _ _ _ _ (placed text ends i (end + 1) (get_or ends i 0) e lt (behind text ends i (end + 1) end e lt later refl is) refl) in
    record { fits = omega (arith, within.0, within.1, text_is_short text p) }

pub index-requires : goal.index-requires
index-requires g c =
    let text = c.self.inside.text.items in
    let lt : c.args.place < length (parts_of text) = rw c.self.view_is c.requires in
    omega (arith, among text c.self.inside.ends.items c.args.place c.self.invariant.1 lt, c.self.inside.ends.ok.0)

pub index-requires-2 : goal.index-requires-2
index-requires-2 g c =
    let text = c.self.inside.text.items in
    let lt : c.args.place < length (parts_of text) = rw c.self.view_is c.requires in
    omega (arith, among text c.self.inside.ends.items c.args.place c.self.invariant.1 lt, c.self.inside.ends.ok.0)

pub overflow_add-start : goal.overflow_add-start
overflow_add-start g c =
    let text = c.self.inside.text.items in
    let lt : c.args.place < length (parts_of text) = rw c.self.view_is c.requires in
    start_fits text c.self.inside.ends.items c.args.place c.index.result.now c.self.invariant.0 c.self.invariant.1 lt c.if-place-eq0.false c.index.ensures

pub slice_bounds-result-count : goal.slice_bounds-result-count
slice_bounds-result-count g c =
    let text = c.self.inside.text.items in
    let ends = c.self.inside.ends.items in
    let lt : c.args.place < length (parts_of text) = rw c.self.view_is c.requires in
    let start : c.if-place-eq0.start ≡ start_in 0 ends c.args.place = elim c.if-place-eq0.branch [ then-place-eq0 w ↦ start_first ends c.args.place _ w.if-place-eq0.true w.start-is | else-place-eq0 w ↦ behind text ends c.args.place _ w.index.result.now c.self.invariant.1 lt w.if-place-eq0.false w.start-is w.index.ensures ] in
    (stands_within _ _ _ _ (there text ends c.args.place c.if-place-eq0.start c.index-2.result.now c.self.invariant.1 lt start c.index-2.ensures)).0

pub slice_bounds-result-start : goal.slice_bounds-result-start
slice_bounds-result-start g c =
    let text = c.self.inside.text.items in
    let ends = c.self.inside.ends.items in
    let lt : c.args.place < length (parts_of text) = rw c.self.view_is c.requires in
    let start : c.if-place-eq0.start ≡ start_in 0 ends c.args.place = elim c.if-place-eq0.branch [ then-place-eq0 w ↦ start_first ends c.args.place _ w.if-place-eq0.true w.start-is | else-place-eq0 w ↦ behind text ends c.args.place _ w.index.result.now c.self.invariant.1 lt w.if-place-eq0.false w.start-is w.index.ensures ] in
    let within = stands_within _ _ _ _ (there text ends c.args.place c.if-place-eq0.start c.index-2.result.now c.self.invariant.1 lt start c.index-2.ensures) in
    let low : c.if-place-eq0.start ≤ c.index-2.result.now = within.0 in
    search (rules, low)

pub slice_bounds-result-end : goal.slice_bounds-result-end
slice_bounds-result-end g c =
    let text = c.self.inside.text.items in
    let ends = c.self.inside.ends.items in
    let lt : c.args.place < length (parts_of text) = rw c.self.view_is c.requires in
    let start : c.if-place-eq0.start ≡ start_in 0 ends c.args.place = elim c.if-place-eq0.branch [ then-place-eq0 w ↦ start_first ends c.args.place _ w.if-place-eq0.true w.start-is | else-place-eq0 w ↦ behind text ends c.args.place _ w.index.result.now c.self.invariant.1 lt w.if-place-eq0.false w.start-is w.index.ensures ] in
    let within = stands_within _ _ _ _ (there text ends c.args.place c.if-place-eq0.start c.index-2.result.now c.self.invariant.1 lt start c.index-2.ensures) in
    let long : c.index-2.result.now ≤ length c.deref.result.now = rw c.deref.ensures.value within.1 in
    search (rules, long)

pub returns-clause-component : goal.returns-clause-component
returns-clause-component g c =
    let text = c.self.inside.text.items in
    let ends = c.self.inside.ends.items in
    let lt : c.args.place < length (parts_of text) = rw c.self.view_is c.requires in
    let start : c.if-place-eq0.start ≡ start_in 0 ends c.args.place = elim c.if-place-eq0.branch [ then-place-eq0 w ↦ start_first ends c.args.place _ w.if-place-eq0.true w.start-is | else-place-eq0 w ↦ behind text ends c.args.place _ w.index.result.now c.self.invariant.1 lt w.if-place-eq0.false w.start-is w.index.ensures ] in
    let component = stands_there _ _ _ _ (there text ends c.args.place c.if-place-eq0.start c.index-2.result.now c.self.invariant.1 lt start c.index-2.ensures) in
    ap (λ t. take (c.index-2.result.now - c.if-place-eq0.start) (drop c.if-place-eq0.start t)) c.deref.ensures.value ∙ component ∙ ap (λ p. get_or p c.args.place []) c.self.view_is

pub returns-clause-path : goal.returns-clause-path
returns-clause-path g c = subst (λ p. is_path p ≡ true) c.self.view_is (text_is_path c.self.inside.text.items c.self.invariant.0)
