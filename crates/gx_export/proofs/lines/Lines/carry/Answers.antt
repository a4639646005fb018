use Rattle.std.proofs.Common.{◌∙◌, ◌++◌, ◌+◌, ◌-◌, ◌<◌, ◌≤◌, length, slice_range, refl, ap, sym, subst, arith}
use Rattle.std.specs.List.{AllByRecursion}
use Rattle.gx_export.specs.FileTexts.{IsKept}
use Rattle.gx_export.specs.declared.lines.Directory.{Directory}
use Rattle.gx_export.proofs.Keeping.{all_item, all_more, all_set, directory_carried, item_same, stands_empty}
use Rattle.gx_export.proofs.lines.Lines.carry.Goals as goal

pub loop-self-init : goal.loop-self-init
loop-self-init g c = record { text = refl; earlier = refl; kept = λ name r ws h before e q. h }

pub overflow_sub-directory : goal.overflow_sub-directory
overflow_sub-directory g c =
    let s = c.loop-self.self in
    let within : s.next < length s.left.items = omega (arith, c.loop-self-test.true, c.len.ensures, s.left.ok) in
    let same = item_same s.left.items s.next c.index.result.now c.index_mut.result.now within c.index.ensures c.index_mut.ensures.value ∙ sym c.replace-moved.ensures.value in
    let front = subst (λ d. c.args.start ≤ d.start) same (c.stands_within.ensures.start c.if-stands_within.true) in
    let order = subst (λ d. d.start ≤ d.end) same (c.stands_within.ensures.order c.if-stands_within.true) in
    omega (arith, front, order)

pub overflow_add-directory : goal.overflow_add-directory
overflow_add-directory g c =
    let s = c.loop-self.self in
    let within : s.next < length s.left.items = omega (arith, c.loop-self-test.true, c.len.ensures, s.left.ok) in
    let same = item_same s.left.items s.next c.index.result.now c.index_mut.result.now within c.index.ensures c.index_mut.ensures.value ∙ sym c.replace-moved.ensures.value in
    let front = subst (λ d. c.args.start ≤ d.start) same (c.stands_within.ensures.start c.if-stands_within.true) in
    let order = subst (λ d. d.start ≤ d.end) same (c.stands_within.ensures.order c.if-stands_within.true) in
    let back = subst (λ d. d.end ≤ c.args.end) same (c.stands_within.ensures.end c.if-stands_within.true) in
    omega (arith, front, order, back, c.requires.room, c.args.self.now.text.ok)

pub overflow_sub-directory-in-loop-self : goal.overflow_sub-directory-in-loop-self
overflow_sub-directory-in-loop-self g c =
    let s = c.loop-self.self in
    let within : s.next < length s.left.items = omega (arith, c.loop-self-test.true, c.len.ensures, s.left.ok) in
    let same = item_same s.left.items s.next c.index.result.now c.index_mut.result.now within c.index.ensures c.index_mut.ensures.value ∙ sym c.replace-moved.ensures.value in
    let front = subst (λ d. c.args.start ≤ d.start) same (c.stands_within.ensures.start c.if-stands_within.true) in
    let order = subst (λ d. d.start ≤ d.end) same (c.stands_within.ensures.order c.if-stands_within.true) in
    omega (arith, front, order)

pub overflow_add-directory-in-loop-self : goal.overflow_add-directory-in-loop-self
overflow_add-directory-in-loop-self g c =
    let s = c.loop-self.self in
    let within : s.next < length s.left.items = omega (arith, c.loop-self-test.true, c.len.ensures, s.left.ok) in
    let same = item_same s.left.items s.next c.index.result.now c.index_mut.result.now within c.index.ensures c.index_mut.ensures.value ∙ sym c.replace-moved.ensures.value in
    let front = subst (λ d. c.args.start ≤ d.start) same (c.stands_within.ensures.start c.if-stands_within.true) in
    let order = subst (λ d. d.start ≤ d.end) same (c.stands_within.ensures.order c.if-stands_within.true) in
    let back = subst (λ d. d.end ≤ c.args.end) same (c.stands_within.ensures.end c.if-stands_within.true) in
    omega (arith, front, order, back, c.requires.room, c.args.self.now.text.ok)

pub loop-self-preserved : goal.loop-self-preserved
loop-self-preserved g c = record {
  text = c.loop-self.invariant.text;
  earlier = c.loop-self.invariant.earlier;
  kept = λ name r ws h before e q.
      let s = c.loop-self.self in
      let k = c.loop-self.invariant.kept name r ws h before e q in
      let P = IsKept {A = g.row.A.Denot} name r ws s.text.items in
      let Q = IsKept name r ws s.earlier.items in
      let moved = c.replace-moved.result in
      let within : s.next < length s.left.items = omega (arith, c.loop-self-test.true, c.len.ensures, s.left.ok) in
      let item = all_item Q s.left.items s.next c.index_mut.result.now within c.index_mut.ensures.value k.earlier in
      let same = item_same s.left.items s.next c.index.result.now c.index_mut.result.now within c.index.ensures c.index_mut.ensures.value ∙ sym c.replace-moved.ensures.value in
      let now = ap (λ t. t.items) c.loop-self.invariant.text ∙ e ∙ ap (λ t. before ++ slice_range t.items c.args.start c.args.end) (sym c.loop-self.invariant.earlier) in
      let front = subst (λ d. c.args.start ≤ d.start) same (c.stands_within.ensures.start c.if-stands_within.true) in
      let back = subst (λ d. d.end ≤ c.args.end) same (c.stands_within.ensures.end c.if-stands_within.true) in
      let room = subst (λ t. c.args.place + (c.args.end - c.args.start) ≤ length t.items) (sym c.loop-self.invariant.text) c.requires.room in
      let new : Directory g.row.A.Denot = record { path = moved.path; tree = moved.tree; start = c.args.place + (moved.start - c.args.start); end = c.args.place + (moved.end - c.args.start); files = moved.files } in
      let one = directory_carried name r ws moved new before s.earlier.items s.text.items c.args.start c.args.end c.args.place now q front back room refl refl refl refl refl (subst Q (sym c.replace-moved.ensures.value) item) in
      record {
        now = subst (AllByRecursion P) (sym c.in_ok-push.ensures.items) (all_more P s.directories.items new k.now one);
        earlier = all_set Q s.left.items s.next c.replace-moved.new.dest k.earlier (subst Q (sym c.replace-moved.ensures.after) (stands_empty name r ws _ _ _ s.earlier.items 0 0 refl (omega arith) refl c.new-in-loop-self.ensures.items));
      };
}

pub returns-else-stands_within-clause-kept : goal.returns-else-stands_within-clause-kept
returns-else-stands_within-clause-kept g c = λ name r ws before e q h. c.loop-self.invariant.kept name r ws h before e q

pub returns-after-loop-self-clause-kept : goal.returns-after-loop-self-clause-kept
returns-after-loop-self-clause-kept g c = λ name r ws before e q h. c.loop-self.invariant.kept name r ws h before e q

pub returns-else-stands_within-clause-text : goal.returns-else-stands_within-clause-text
returns-else-stands_within-clause-text g c = c.loop-self.invariant.text

pub returns-after-loop-self-clause-text : goal.returns-after-loop-self-clause-text
returns-after-loop-self-clause-text g c = c.loop-self.invariant.text

pub returns-in_err-push-clause-text : goal.returns-in_err-push-clause-text
returns-in_err-push-clause-text g c = c.loop-self.invariant.text
