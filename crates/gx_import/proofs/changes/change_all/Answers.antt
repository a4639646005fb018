use Rattle.std.proofs.Common.{◌≡◌, ◌+◌, ◌-◌, arith, length, Err, map, refl, sym, ap, subst, ◌∙◌}
use Rattle.std.proofs.lemmas.List.{nil_from_length}
use Rattle.std.specs.Vec.Iter.{into_iter_items}
use Rattle.gx_model.specs.Texts.{Bytes}
use Rattle.gx_model.specs.Histories.Files.{FileMap}
use Rattle.gx_model.specs.Replay.{State, changed}
use Rattle.gx_model.specs.Laws.RepositoryLaws.{values_of}
use Rattle.gx_command.specs.Views.{shown_change}
use Rattle.gx_import.specs.Standing.{Follows, Stands}
use Rattle.gx_model.specs.Objects.NameMaps.{AreFiles}
use Rattle.gx_import.specs.Answers.{AddsAs}
use Rattle.gx_import.specs.Asking.{AsksByOne, TellsVain}
use Rattle.gx_import.specs.Additions.{Clash, blob_added}
use Rattle.gx_import.specs.Explaining.{TellsNoChange}
use Rattle.gx_import.specs.declared.explanation.Explanation.{Explanation}
use Rattle.gx_import.proofs.Extended.{only_more, only_same}
use Rattle.gx_import.proofs.ChangesSoFar.{AreMade, all_made, next_made, next_refused, next_told, next_vain, none_made}
use Rattle.gx_import.proofs.changes.change_all.Goals as goal

pub loop-change-init : goal.loop-change-init
loop-change-init g c =
    let all = c.into_iter-change-iterator.ensures.into_iter_gives in
    record {
      only = only_same c.args.repo.now;
      made = λ s f h are.
          let name = g.N.Namer.name_of c.args.repo.now.0 in
          let given = map shown_change c.args.changes.items in
          subst (λ xs. AreMade name c.args.repo.now.1 c.args.repo.now.1 c.args.tables.now s f given (map shown_change xs) c.args.files.now.files) (sym all.0)
          (none_made name c.args.repo.now.1 c.args.tables.now s h f c.args.files.now.files are given);
      home = λ h. h;
      items = omega (arith, all.1, ap length all.0);
      blank = c.requires.blank;
      left = omega (arith, all.1, c.len-count.ensures);
      fits = omega (arith, c.len-count.ensures);
      loss = refl;
      unasked = c.requires.unasked;
    }

pub loop-change-preserved : goal.loop-change-preserved
loop-change-preserved g c =
    let name = g.N.Namer.name_of c.args.repo.now.0 in
    let l = c.loop-change in
    let v = c.in_default.ensures in
    record {
      only = only_more c.args.repo.now l.repo c.change_files.new.repo l.invariant.only v.only;
      made = λ s f h are.
          let step = rw l.invariant.only.namer at v.steps in
          next_made name c.args.repo.now.1 l.repo.1 c.args.tables.now s f c.args.changes.items (into_iter_items l.change-iterator) (into_iter_items c.next.new.self) shown_change c.in-Some.change l.files.files c.in-Some.ensures.steps.0 (l.invariant.made s f h are) c.change_files.new.repo.1 c.change_files.new.files.files step;
      home = λ h. (rw l.invariant.only.namer at v.home) (l.invariant.home h);
      items = omega (arith, c.in-Some.ensures.steps.1, l.invariant.items, ap length c.in-Some.ensures.steps.0);
      blank = subst (λ (told : Explanation g.row.A.Denot). TellsNoChange told) (sym c.in_default.ensures.told) l.invariant.blank;
      left = omega (arith, c.in-Some.ensures.steps.1, l.invariant.left);
      fits = omega (arith, l.invariant.fits);
      loss = ap (λ told. told.loss) c.in_default.ensures.told ∙ l.invariant.loss;
      unasked = ap (λ told. told.asked) c.in_default.ensures.told ∙ l.invariant.unasked;
    }

pub returns-in-Err-clause-steps : goal.returns-in-Err-clause-steps
returns-in-Err-clause-steps g c = λ s f h are.
    let name = g.N.Namer.name_of c.args.repo.now.0 in
    let l = c.loop-change in
    let change = shown_change c.in-Some.change in
    let step = subst (λ n. (t : State) (h : FileMap Bytes) → Stands (g.N.Namer.name_of n) l.repo.1 c.args.tables.now t → AreFiles (g.N.Namer.name_of n) t.history.values h l.files.files
    → AddsAs {X = Unit {0}} {Y = State × FileMap Bytes} (Clash (g.N.Namer.name_of n) (values_of l.repo.1) (blob_added change))
    (λ r x. Follows (g.N.Namer.name_of n) c.change_files.new.repo.1 c.args.tables.now t r.0 × AreFiles (g.N.Namer.name_of n) r.0.history.values r.1 c.change_files.new.files.files)
    (Err c.in-Err.kind) (changed (g.N.Namer.name_of n) t h change)) l.invariant.only.namer c.in-Err.ensures.steps in
    let Be : State → State × FileMap Bytes → Unit {0} → Type 0 = λ t r x. Follows name c.change_files.new.repo.1 c.args.tables.now t r.0 × AreFiles name r.0.history.values r.1 c.change_files.new.files.files in
    next_refused name c.args.repo.now.1 l.repo.1 c.args.tables.now s f c.args.changes.items (into_iter_items l.change-iterator) (into_iter_items c.next.new.self) shown_change c.in-Some.change l.files.files c.in-Some.ensures.steps.0 (l.invariant.made s f h are) Be (Be s) c.in-Err.kind step

pub returns-in-Err-clause-told : goal.returns-in-Err-clause-told
returns-in-Err-clause-told g c = λ s f h are.
    let name = g.N.Namer.name_of c.args.repo.now.0 in
    let l = c.loop-change in
    let change = shown_change c.in-Some.change in
    let step = subst (λ n. (t : State) (h : FileMap Bytes) → Stands (g.N.Namer.name_of n) l.repo.1 c.args.tables.now t → AreFiles (g.N.Namer.name_of n) t.history.values h l.files.files
    → AddsAs {X = Unit {0}} {Y = State × FileMap Bytes} (Clash (g.N.Namer.name_of n) (values_of l.repo.1) (blob_added change))
    (λ r x. Follows (g.N.Namer.name_of n) c.change_files.new.repo.1 c.args.tables.now t r.0 × AreFiles (g.N.Namer.name_of n) r.0.history.values r.1 c.change_files.new.files.files)
    (Err c.in-Err.kind) (changed (g.N.Namer.name_of n) t h change)) l.invariant.only.namer c.in-Err.ensures.steps in
    let Be : State → State × FileMap Bytes → Unit {0} → Type 0 = λ t r x. Follows name c.change_files.new.repo.1 c.args.tables.now t r.0 × AreFiles name r.0.history.values r.1 c.change_files.new.files.files in
    let number = c.len-count.result - (l.left - 1) in
    let many : number + length (into_iter_items c.next.new.self) ≡ length c.args.changes.items = omega (arith, c.len-count.ensures, l.invariant.fits, l.invariant.left, l.invariant.items, ap length c.in-Some.ensures.steps.0) in
    next_told name c.args.repo.now.1 l.repo.1 c.args.tables.now s f c.args.changes.items (into_iter_items l.change-iterator) (into_iter_items c.next.new.self) shown_change c.in-Some.change l.files.files c.in-Some.ensures.steps.0 (l.invariant.made s f h are) Be c.in-Err.kind number c.change_files.new.told.path many c.in-Err.ensures.told.1 step

pub returns-clause-steps : goal.returns-clause-steps
returns-clause-steps g c = λ s f h are.
    let name = g.N.Namer.name_of c.args.repo.now.0 in
    let l = c.loop-change in
    all_made name c.args.repo.now.1 l.repo.1 c.args.tables.now s f c.args.changes.items (into_iter_items l.change-iterator) shown_change l.files.files (l.invariant.made s f h are) (nil_from_length (into_iter_items l.change-iterator) (omega (arith, c.in-None.ensures.steps.0, l.invariant.items)))

pub returns-clause-home : goal.returns-clause-home
returns-clause-home g c = c.loop-change.invariant.home

pub returns-in-Err-clause-only : goal.returns-in-Err-clause-only
returns-in-Err-clause-only g c = only_more c.args.repo.now c.loop-change.repo c.change_files.new.repo c.loop-change.invariant.only c.change_files.ensures.only

pub returns-clause-told : goal.returns-clause-told
returns-clause-told g c = λ s f h are. c.loop-change.invariant.blank

pub change_files-requires : goal.change_files-requires
change_files-requires g c = record { unasked = c.loop-change.invariant.unasked }

pub returns-in-Err-clause-asked : goal.returns-in-Err-clause-asked
returns-in-Err-clause-asked g c = λ s f h are.
    let name = g.N.Namer.name_of c.args.repo.now.0 in
    let l = c.loop-change in
    let change = shown_change c.in-Some.change in
    let step = subst (λ n. (t : State) → Stands (g.N.Namer.name_of n) l.repo.1 c.args.tables.now t → TellsVain (AsksByOne (g.N.Namer.name_of n) t change c.in-Err.kind) c.in-Err.kind c.change_files.new.told.asked) l.invariant.only.namer c.in-Err.ensures.asked in
    next_vain name c.args.repo.now.1 l.repo.1 c.args.tables.now s f c.args.changes.items (into_iter_items l.change-iterator) (into_iter_items c.next.new.self) shown_change c.in-Some.change l.files.files c.in-Some.ensures.steps.0 (l.invariant.made s f h are) c.in-Err.kind c.change_files.new.told.asked step

pub returns-clause-asked : goal.returns-clause-asked
returns-clause-asked g c = λ s f h are. c.loop-change.invariant.unasked

pub returns-in-Err-clause-loss : goal.returns-in-Err-clause-loss
returns-in-Err-clause-loss g c = c.in-Err.ensures.told.2 ∙ c.loop-change.invariant.loss

pub returns-clause-loss : goal.returns-clause-loss
returns-clause-loss g c = c.loop-change.invariant.loss

pub overflow_sub-left : goal.overflow_sub-left
overflow_sub-left g c = omega (arith, c.in-Some.ensures.steps.1, c.loop-change.invariant.left)
