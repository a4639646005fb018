use Rattle.std.proofs.Common.{◌≡◌, true, false, [], ◌++◌, map, refl, sym, ap, subst, ◌∙◌}
use Rattle.std.specs.Prelude.{MatchOption}
use Rattle.std.specs.Option.{option_map}
use Rattle.std.specs.List.{filter}
use Rattle.std.specs.Map.{lookup}
use Rattle.gx_model.specs.Texts.{Bytes, same_bytes}
use Rattle.gx_model.specs.Histories.{History}
use Rattle.gx_repo.specs.Refs.{shown_update}
use Rattle.gx_import.specs.declared.branches.Tip.{Tip}
use Rattle.gx_model.specs.Replay.{is_forward}
use Rattle.gx_import.specs.Losing.{LosesCommit}
use Rattle.gx_import.specs.Objects.{IsCommitOf}
use Rattle.gx_import.specs.RefChanges.{branch_changes, branch_then, is_moved}
use Rattle.gx_import.specs.Rows.{AreBoth, row_of}
use Rattle.gx_import.proofs.ForwardBranches.{AreLeft, all_left, first_asked, found_target, movable_is, none_left, not_forward, others_left, ref_is, target_of}
use Rattle.gx_import.proofs.Losses.{branch_told, first_fails, second_fails}
use Rattle.gx_import.proofs.MovedChanges.{one_appended}
use Rattle.gx_import.proofs.publishing.append_branches.Goals as goal

pub loop-name-init : goal.loop-name-init
loop-name-init g c =
    let name = g.N.Namer.name_of c.args.repo.now.0 in
    let refs = c.args.repo.now.1.refs in
    let all = ap (map row_of) c.into_iter-name-iterator.ensures.into_iter_gives ∙ c.iter-name-items.ensures.rows in (
      ap (λ rows. map shown_update c.args.changes.now.items ++ filter (is_moved refs) (branch_changes rows)) all,
      λ s h. subst (AreLeft name s) (sym all) (all_left name s c.args.repo.now.1 c.args.tables.now h),
      c.new-parents.ensures c.args.repo.now.1,
      c.requires.blank,
    )

pub append_branch-requires-clause-target : goal.append_branch-requires-clause-target
append_branch-requires-clause-target g c =
    found_target c.args.repo.now.1 c.as_slice.result.now (g.N.Namer.name_of c.args.repo.now.0) c.sound.ensures c.ref_near-next.result.1 c.ref_near-next.ensures.object

pub append_branch-requires-clause-commit : goal.append_branch-requires-clause-commit
append_branch-requires-clause-commit g c =
    let name = g.N.Namer.name_of c.args.repo.now.0 in
    let s = c.requires.stands.0 in
    let h = c.requires.stands.1 in
    let left = subst (λ rows. AreLeft name s (map row_of rows)) c.in-Some.ensures.steps (c.loop-name.invariant.1 s h) in
    let asked = first_asked name s (c.in-Some.name.now.items, c.in-Some.tip.now) (map row_of c.next.new.self) left in
    (asked.made, subst (λ (z : History). AreBoth (IsCommitOf name z.values) asked.made c.in-Some.tip.now.commit) (sym h.history) asked.is_made)

pub returns-then-not-branch-clause-forward : goal.returns-then-not-branch-clause-forward
returns-then-not-branch-clause-forward g c = λ s h.
    let name = g.N.Namer.name_of c.args.repo.now.0 in
    let r = c.args.repo.now.1 in
    let left = subst (λ rows. AreLeft name s (map row_of rows)) c.in-Some.ensures.steps (c.loop-name.invariant.1 s h) in
    let row : Bytes × Tip g.row.A.Denot = (c.in-Some.name.now.items, c.in-Some.tip.now) in
    let others = map row_of c.next.new.self in
    let asked = first_asked name s row others left in
    let held = c.ref_near-next.ensures.object ∙ ap (λ n. lookup (same_bytes n) r.refs) c.as_slice.ensures.value in
    let is = c.in_ok-append_branch.ensures.forward asked.made (subst (λ (z : History). AreBoth (IsCommitOf name z.values) asked.made c.in-Some.tip.now.commit) (sym h.history) asked.is_made) in
    sym (not_forward name s row others asked (movable_is r row.0 s h.history c.args.tables.now.is_forced h.forced c.ref_near-next.result.1 held asked.made ∙ sym is ∙ c.if-not-branch.true))

-- the same is asked of the branch that isn't forward
pub loss_of-requires-clause-target : goal.loss_of-requires-clause-target
loss_of-requires-clause-target g c =
    found_target c.args.repo.now.1 c.as_slice.result.now (g.N.Namer.name_of c.args.repo.now.0) c.sound.ensures c.ref_near-next.result.1 c.ref_near-next.ensures.object

pub loss_of-requires-clause-commit : goal.loss_of-requires-clause-commit
loss_of-requires-clause-commit g c =
    let name = g.N.Namer.name_of c.args.repo.now.0 in
    let s = c.requires.stands.0 in
    let h = c.requires.stands.1 in
    let left = subst (λ rows. AreLeft name s (map row_of rows)) c.in-Some.ensures.steps (c.loop-name.invariant.1 s h) in
    let asked = first_asked name s (c.in-Some.name.now.items, c.in-Some.tip.now) (map row_of c.next.new.self) left in
    (asked.made, subst (λ (z : History). AreBoth (IsCommitOf name z.values) asked.made c.in-Some.tip.now.commit) (sym h.history) asked.is_made)

pub returns-then-not-branch-clause-loss : goal.returns-then-not-branch-clause-loss
returns-then-not-branch-clause-loss g c = λ s h.
    let name = g.N.Namer.name_of c.args.repo.now.0 in
    let r = c.args.repo.now.1 in
    let left = subst (λ rows. AreLeft name s (map row_of rows)) c.in-Some.ensures.steps (c.loop-name.invariant.1 s h) in
    let row : Bytes × Tip g.row.A.Denot = (c.in-Some.name.now.items, c.in-Some.tip.now) in
    let asked = first_asked name s row (map row_of c.next.new.self) left in
    let object = c.ref_near-next.result.1 in
    let held = c.ref_near-next.ensures.object ∙ ap (λ n. lookup (same_bytes n) r.refs) c.as_slice.ensures.value in
    let both = subst (λ (z : History). AreBoth (IsCommitOf name z.values) asked.made c.in-Some.tip.now.commit) (sym h.history) asked.is_made in
    let fails = sym (c.in_ok-append_branch.ensures.forward asked.made both) ∙ c.if-not-branch.true in
    let forward = is_forward (option_map (target_of r) object) asked.made in
    let lost = c.in_ok-loss.ensures asked.made both (second_fails c.args.tables.now.is_forced forward fails) in
    branch_told name s c.in_ok-loss.field-0 _ (row.0, asked.made) (option_map (target_of r) object) c.as_slice-then-not-branch.ensures.value (ref_is r row.0 s h.history object held)
    asked.stands (h.forced ∙ first_fails c.args.tables.now.is_forced forward fails) lost

pub returns-clause-loss : goal.returns-clause-loss
returns-clause-loss g c = λ s h. subst (λ o. MatchOption o (true ≡ true) (λ loss. (true ≡ false) × LosesCommit (g.N.Namer.name_of c.args.repo.now.0) s loss)) (sym c.loop-name.invariant.3) refl

pub loop-name-preserved : goal.loop-name-preserved
loop-name-preserved g c =
    let name = g.N.Namer.name_of c.args.repo.now.0 in
    let r = c.args.repo.now.1 in
    let was = map shown_update c.loop-name.changes.items in
    let now = map shown_update c.append_branch.new.changes.items in
    let row : Bytes × Tip g.row.A.Denot = (c.in-Some.name.now.items, c.in-Some.tip.now) in
    let others = map row_of c.next.new.self in
    let near = c.ref_near-next.ensures.object ∙ ap (λ n. lookup (same_bytes n) r.refs) (c.as_slice.ensures.value ∙ sym c.as_slice-in-loop-name.ensures.value) in
    let held = c.ref_near-next.ensures.object ∙ ap (λ n. lookup (same_bytes n) r.refs) c.as_slice.ensures.value in (
      one_appended (is_moved r.refs) was now row.0 row.1.commit (branch_changes others)
          (subst (λ n. now ≡ was ++ filter (is_moved r.refs) (branch_then n row.1.commit [])) c.as_slice-in-loop-name.ensures.value (c.in_ok-append_branch.ensures.appended r.refs near c.if-not-branch.false))
          ∙ sym (ap (λ rows. was ++ filter (is_moved r.refs) (branch_changes (map row_of rows))) c.in-Some.ensures.steps)
          ∙ c.loop-name.invariant.0,
      λ s h.
          let left = subst (λ rows. AreLeft name s (map row_of rows)) c.in-Some.ensures.steps (c.loop-name.invariant.1 s h) in
          let asked = first_asked name s row others left in
          let is = c.in_ok-append_branch.ensures.forward asked.made (subst (λ (z : History). AreBoth (IsCommitOf name z.values) asked.made row.1.commit) (sym h.history) asked.is_made) in
          others_left name s row others asked (movable_is r row.0 s h.history c.args.tables.now.is_forced h.forced c.ref_near-next.result.1 held asked.made ∙ sym is ∙ c.if-not-branch.false),
      c.in_ok-append_branch.ensures.holds,
      c.loop-name.invariant.3,
    )

pub returns-clause-forward : goal.returns-clause-forward
returns-clause-forward g c = λ s h.
    let name = g.N.Namer.name_of c.args.repo.now.0 in
    sym (none_left name s (subst (λ rows. AreLeft name s (map row_of rows)) c.in-None.ensures.steps.0 (c.loop-name.invariant.1 s h)))
