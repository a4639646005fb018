use Rattle.std.proofs.Common.{◌≡◌, ◌≢◌, ◌+◌, ◌*◌, ◌<◌, ◌≤◌, ◌∙◌, ◌++◌, [], length, drop, true, false, not, ap, sym, subst, arith, rules, Ok}
use Rattle.std.proofs.lemmas.List.{length-append}
use Rattle.gx_model.specs.Export.{blob_commands, items_text, with_blobs}
use Rattle.gx_model.specs.Records.HistoryOf.{named_values, placed}
use Rattle.gx_model.specs.Histories.Files.{FileMap}
use Rattle.gx_model.specs.Objects.NameMaps.{IsHeldTree}
use Rattle.gx_model.specs.Texts.Paths.{Path, path_of}
use Rattle.gx_model.specs.Texts.{Bytes}
use denote.Enum.Bare.{same_true, sameb}
use Rattle.std.proofs.lemmas.Result.{err_from_is_err_and}
use Rattle.gx_model.specs.contracts.objects.Mode.{the_type}
use Rattle.gx_model.specs.declared.objects.Mode.TheVariants.{Dir}
use Rattle.gx_model.proofs.Histories.FileMapEdits.{parts_of}
use Rattle.gx_object.specs.Entries.{shown}
use Rattle.gx_tree.specs.HeldTrees.{IsHeldEntry}
use Rattle.gx_tree.specs.Lists.{below}
use Rattle.gx_tree.specs.Nodes.{files, kept_map}
use Rattle.gx_tree.proofs.HeldLevels.{entries_held, loading_all, loading_more, loading_none, within_all}
use Rattle.gx_tree.proofs.LevelsOf.{files-level_of, level_of}
use Rattle.gx_export.specs.FileTexts.{Gathers, IsEntryBelow, IsGathered, IsLinesOf, TakesOver, bytes_in, lines_text}
use Rattle.gx_export.specs.Texts.{items_of}
use Rattle.gx_export.proofs.BlobLists.{denied}
use Rattle.gx_export.proofs.Gathering.{entries_below, file_below, file_leaf, folder_below, gathered_again, lines_gathered, nothing_gathered, walking_next, walking_stops}
use Rattle.gx_export.proofs.HeldEntries.{entries_are, is_tree}
use Rattle.gx_export.proofs.OneMap.{one_map}
use Rattle.gx_export.proofs.Writing.{stops_first}
use Rattle.gx_export.proofs.trees.+gather.Goals as goal

pub add_entry-returns-in_err-path : goal.add_entry-returns-in_err-path
add_entry-returns-in_err-path g t c = λ k entry leaf ws h kept.
    let names = below c.args.front.now (placed c.args.entry.now.component.now (kept_map k)) in
    let p = err_from_is_err_and c.from_residual.result c.from_residual.ensures.1 in
    rw (p.1, p.2) (stops_first c.args.written.now.output (items_text (items_of (blob_commands ws (bytes_in (named_values c.args.repo.now.1.records) names)))))

pub add_entry-add_line-requires-clause-file : goal.add_entry-add_line-requires-clause-file
add_entry-add_line-requires-clause-file g t c = λ q. (let f : true ≡ false = c.if-ne.ensures ∙ ap (λ m. not (sameb the_type m Dir)) q in cc f)

pub add_entry-add_line-requires-clause-held : goal.add_entry-add_line-requires-clause-held
add_entry-add_line-requires-clause-held g t c =
    let e = c.args.entry.now in
    let held = c.requires.held in
    let dir : e.mode ≢ Dir = λ q. (let f : true ≡ false = c.if-ne.ensures ∙ ap (λ m. not (sameb the_type m Dir)) q in cc f) in
    file_leaf (g.N.Namer.name_of c.args.repo.now.0) c.args.repo.now.1 c.args.room c.args.front.now e.component.now e.name.bytes e.mode held.0 held.1 held.2 dir

pub add_entry-returns-then-ne : goal.add_entry-returns-then-ne
add_entry-returns-then-ne g t c = λ k entry leaf ws h kept.
    let name = g.N.Namer.name_of c.args.repo.now.0 in
    let r = c.args.repo.now.1 in
    let e = c.args.entry.now in
    let dir : e.mode ≢ Dir = λ q. (let f : true ≡ false = c.if-ne.ensures ∙ ap (λ m. not (sameb the_type m Dir)) q in cc f) in
    subst (λ fs. Gathers name r ws fs c.args.written.now c.add_line.new.written c.args.lines.now c.add_line.new.lines c.add_line.result) (file_below name r c.args.room c.args.front.now e.component.now e.name.bytes e.mode k leaf dir) (c.add_line.ensures ws h kept)

pub add_entry-returns : goal.add_entry-returns
add_entry-returns g t c = λ k entry leaf ws h kept.
    let name = g.N.Namer.name_of c.args.repo.now.0 in
    let r = c.args.repo.now.1 in
    let e = c.args.entry.now in
    let dir : e.mode ≡ Dir = same_true the_type (search rules) _ _ (denied _ c.if-ne.ensures) in
    let f = folder_below name r c.args.room c.args.front.now e.component.now e.name.bytes e.mode 4095 k entry leaf dir in
    subst (λ fs. Gathers name r ws fs c.args.written.now c.add_tree.new.written c.args.lines.now c.add_tree.new.lines c.add_tree.result) (ap (λ p. below p f.0) c.in_ok-path.ensures ∙ f.2) (c.add_tree.ensures f.0 f.1 ws h kept)

pub add_entries-entries_of-entry-items-requires : goal.add_entries-entries_of-entry-items-requires
add_entries-entries_of-entry-items-requires g t c = is_tree (g.N.Namer.name_of c.args.repo.now.0) c.args.repo.now.1.records c.args.tree.now.bytes c.requires.held.0 c.requires.held.1.within.0

pub add_entries-loop-entry-init : goal.add_entries-loop-entry-init
add_entries-loop-entry-init g t c = λ ws f h kept held.
    let name = g.N.Namer.name_of c.args.repo.now.0 in
    let namer = g.met.N.Namer.is_namer c.args.repo.now.0 in
    let entries = c.entries_of-entry-items.ensures.entries ∙ entries_are name c.args.repo.now.1.records namer c.args.tree.now.bytes f held in
    record {
      done = [];
      loading = loading_none name (level_of f) c.entries_of-entry-items.result c.into_iter-entry-iterator.result c.into_iter-entry-iterator.ensures.into_iter_gives entries;
      gathered = nothing_gathered name c.args.repo.now.1 ws c.args.written.now c.args.lines.now h kept;
    }

pub add_entries-add_entry-requires : goal.add_entries-add_entry-requires
add_entries-add_entry-requires g t c =
    let name = g.N.Namer.name_of c.args.repo.now.0 in
    let r = c.args.repo.now.1 in
    let tree = c.requires.held.0 in
    let w = c.loop-entry.invariant c.requires.written.0 tree c.requires.written.1 c.requires.written.2 c.requires.held.1.within.0 in
    let held = entries_below name r c.args.room c.args.front.now c.args.tree.now.bytes tree c.requires.held.1 in
    let next = loading_more name (IsEntryBelow name r c.args.room c.args.front.now) (level_of tree) (shown c.in-Some.entry) c.loop-entry.entry-iterator c.next.new.self w.done held c.in-Some.ensures.steps w.loading in
    let less : 3 * c.args.room < t = omega (arith, c.decreases) in
    λ κs within. (less, (within.0, (within.1.0, (within.1.1, ((next.kept, next.fits, next.leaf), (_, w.gathered.adds.0, w.gathered.kept))))))

pub add_entries-loop-entry-preserved : goal.add_entries-loop-entry-preserved
add_entries-loop-entry-preserved g t c = λ ws f h kept tree.
    let name = g.N.Namer.name_of c.args.repo.now.0 in
    let r = c.args.repo.now.1 in
    let P = IsHeldEntry name r.records 4095 in
    let w = c.loop-entry.invariant ws f h kept tree in
    let held = entries_held name r.records c.args.tree.now.bytes f 4095 (tree, within_all f tree.map) in
    let next = loading_more name P (level_of f) (shown c.in-Some.entry) c.loop-entry.entry-iterator c.next.new.self w.done held c.in-Some.ensures.steps w.loading in
    walking_next name r ws c.args.front.now (level_of f) c.loop-entry.entry-iterator c.next.new.self (shown c.in-Some.entry) P c.args.written.now c.loop-entry.written c.add_entry.new.written c.args.lines.now c.loop-entry.lines c.add_entry.new.lines w next
    (c.in_ok-add_entry.ensures next.kept next.fits next.leaf _ w.gathered.adds.0 w.gathered.kept)

pub add_entries-returns-in_err-add_entry : goal.add_entries-returns-in_err-add_entry
add_entries-returns-in_err-add_entry g t c = λ f tree ws h kept.
    let name = g.N.Namer.name_of c.args.repo.now.0 in
    let r = c.args.repo.now.1 in
    let P = IsHeldEntry name r.records 4095 in
    let w = c.loop-entry.invariant ws f h kept tree in
    let held = entries_held name r.records c.args.tree.now.bytes f 4095 (tree, within_all f tree.map) in
    let next = loading_more name P (level_of f) (shown c.in-Some.entry) c.loop-entry.entry-iterator c.next.new.self w.done held c.in-Some.ensures.steps w.loading in
    let p = err_from_is_err_and c.from_residual.result c.from_residual.ensures.1 in
    rw (p.1, p.2) (walking_stops name r ws c.args.front.now (level_of f) c.loop-entry.entry-iterator c.next.new.self (shown c.in-Some.entry) P c.args.written.now c.loop-entry.written c.add_entry.new.written c.args.lines.now c.loop-entry.lines c.loop-entry.lines w next
    f c.in_err-add_entry.field-0.0 (files-level_of f (parts_of f tree.map.file_map)) (c.in_err-add_entry.ensures next.kept next.fits next.leaf _ w.gathered.adds.0 w.gathered.kept))

pub add_entries-returns : goal.add_entries-returns
add_entries-returns g t c = λ f tree ws h kept.
    let name = g.N.Namer.name_of c.args.repo.now.0 in
    let r = c.args.repo.now.1 in
    let w = c.loop-entry.invariant ws f h kept tree in
    let all = loading_all name (level_of f) c.loop-entry.entry-iterator w.done c.in-None.ensures.steps.0 w.loading in
    subst (λ fs. IsGathered name r ws (below c.args.front.now fs) c.args.written.now c.loop-entry.written c.args.lines.now c.loop-entry.lines) (ap files all ∙ files-level_of f (parts_of f tree.map.file_map)) w.gathered

pub add_tree-returns-in_err-take_over : goal.add_tree-returns-in_err-take_over
add_tree-returns-in_err-take_over g t c = λ f tree ws h kept.
    let p = err_from_is_err_and c.from_residual.result c.from_residual.ensures.1 in
    rw (p.1, p.2) (stops_first c.args.written.now.output (items_text (items_of (blob_commands ws (bytes_in (named_values c.args.repo.now.1.records) (below c.args.front.now f))))))

pub add_tree-returns-in_err-opened : goal.add_tree-returns-in_err-opened
add_tree-returns-in_err-opened g t c = λ f tree ws h kept.
    let p = err_from_is_err_and c.from_residual-in_err-opened.result c.from_residual-in_err-opened.ensures.1 in
    rw (p.1, p.2) (stops_first c.args.written.now.output (items_text (items_of (blob_commands ws (bytes_in (named_values c.args.repo.now.1.records) (below c.args.front.now f))))))

pub add_tree-returns-then-branch : goal.add_tree-returns-then-branch
add_tree-returns-then-branch g t c = λ f tree ws h kept.
    let name = g.N.Namer.name_of c.args.repo.now.0 in
    let r = c.args.repo.now.1 in
    let known : TakesOver name r ws c.joined.result.now c.args.tree.now.bytes c.args.lines.now c.take_over.new.self true = subst (TakesOver name r ws c.joined.result.now c.args.tree.now.bytes c.args.lines.now c.take_over.new.self) c.if-branch.true (c.in_ok-take_over.ensures name r ws kept) in
    let again = known.1 c.args.front.now f c.joined.ensures.path tree in
    gathered_again name r ws (below c.args.front.now f) c.args.written.now c.args.lines.now c.take_over.new.self again.0 h again.1 again.2 known.0

pub add_tree-add_entries-requires : goal.add_tree-add_entries-requires
add_tree-add_entries-requires g t c =
    let name = g.N.Namer.name_of c.args.repo.now.0 in
    let r = c.args.repo.now.1 in
    let w = c.requires.written in
    let known : TakesOver name r w.0 c.joined.result.now c.args.tree.now.bytes c.args.lines.now c.take_over.new.self false = subst (TakesOver name r w.0 c.joined.result.now c.args.tree.now.bytes c.args.lines.now c.take_over.new.self) c.if-branch.false (c.in_ok-take_over.ensures name r w.0 w.2) in
    let less : 3 * c.args.room + 1 < t = omega (arith, c.decreases) in
    λ κs within. (less, (within.0, (within.1.0, (within.1.1, (c.requires.held, (w.0, w.1, c.in_ok-opened.ensures.kept name r w.0 known.0))))))

pub add_tree-returns-in_err-add_entries : goal.add_tree-returns-in_err-add_entries
add_tree-returns-in_err-add_entries g t c = λ f tree ws h kept.
    let name = g.N.Namer.name_of c.args.repo.now.0 in
    let r = c.args.repo.now.1 in
    let known : TakesOver name r ws c.joined.result.now c.args.tree.now.bytes c.args.lines.now c.take_over.new.self false = subst (TakesOver name r ws c.joined.result.now c.args.tree.now.bytes c.args.lines.now c.take_over.new.self) c.if-branch.false (c.in_ok-take_over.ensures name r ws kept) in
    let p = err_from_is_err_and c.from_residual-in_err-add_entries.result c.from_residual-in_err-add_entries.ensures.1 in
    rw (p.1, p.2) (c.in_err-add_entries.ensures f tree ws h (c.in_ok-opened.ensures.kept name r ws known.0))

pub add_tree-returns : goal.add_tree-returns
add_tree-returns g t c = λ f tree ws h kept.
    let name = g.N.Namer.name_of c.args.repo.now.0 in
    let r = c.args.repo.now.1 in
    let n = c.args.tree.now.bytes in
    let front = c.args.front.now in
    let names = below front f in
    let us = with_blobs ws (bytes_in (named_values r.records) names) in
    let known : TakesOver name r ws c.joined.result.now n c.args.lines.now c.take_over.new.self false = subst (TakesOver name r ws c.joined.result.now n c.args.lines.now c.take_over.new.self) c.if-branch.false (c.in_ok-take_over.ensures name r ws kept) in
    let e = c.in_ok-add_entries.ensures f tree ws h (c.in_ok-opened.ensures.kept name r ws known.0) in
    let opened : c.open.new.self.text.items ≡ c.take_over.new.self.text.items = ap (λ x. x.items) c.in_ok-opened.ensures.text in
    let start : length c.open.new.self.text.items ≡ c.len-start.result = omega (arith, ap length opened, c.len-start.ensures, c.take_over.new.self.text.ok) in
    let lines = lines_gathered name r ws names c.args.written.now c.add_entries.new.written c.open.new.self c.add_entries.new.lines c.len-start.result start e in
    let within : c.len-start.result ≤ length c.add_entries.new.lines.text.items = omega (arith, start, ap length e.text, length-append c.open.new.self.text.items (lines_text (named_values r.records) us names)) in
    let claim : (other : Path) (g' : FileMap Bytes) → path_of c.joined-3.result.now ≡ Ok other → IsHeldTree name r.records n g' → IsLinesOf r us (below other g') (drop c.len-start.result c.add_entries.new.lines.text.items) = λ other g' p k.
    (let both : Ok front ≡ Ok other = sym c.joined-3.ensures.path ∙ p in
    let same : front ≡ other = cc in
    let one = one_map name r.records (g.met.N.Namer.is_namer c.args.repo.now.0) n f g' tree k in
    subst (λ q. IsLinesOf r us (below q g') (drop c.len-start.result c.add_entries.new.lines.text.items)) same (subst (λ m. IsLinesOf r us (below front m) (drop c.len-start.result c.add_entries.new.lines.text.items)) one lines)) in
    record {
      adds = e.adds;
      text = ap (λ x. x.items) c.close.ensures.text ∙ e.text ∙ ap (λ x. x ++ lines_text (named_values r.records) us names) (opened ∙ ap (λ x. x.items) known.1);
      kept = c.close.ensures.kept name r us e.kept within claim;
    }
