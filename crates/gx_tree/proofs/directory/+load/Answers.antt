use Rattle.std.specs.List.{AllByRecursion}
use Rattle.gx_tree.specs.Homes.{AreAtHome, IsItemAtHome}
use Rattle.gx_tree.specs.Named.{IsAtHome, IsHome, NamedTree, is_named}
use Rattle.gx_tree.proofs.Homes.{all_joined, files_same, named_at_home}
use Rattle.std.proofs.Common.{rules, ◌≡◌, ◌*◌, ◌<◌, map, sym, ap, ◌∙◌, subst, arith}
use Rattle.std.proofs.lemmas.List.{map-append}
use Rattle.std.proofs.lemmas.Result.{IfOk-weaker}
use Rattle.gx_model.proofs.Histories.FileMapEdits.{parts_of}
use Rattle.gx_model.specs.declared.objects.Mode.TheVariants.{Dir}
use Rattle.gx_object.specs.Entries.{shown}
use Rattle.gx_model.specs.Histories.Files.{FileMap}
use Rattle.gx_model.specs.Texts.{Bytes}
use Rattle.gx_model.specs.Objects.NameMaps.{IsHeldTree}
use Rattle.gx_tree.specs.HeldTrees.{IsHeldEntry}
use Rattle.gx_tree.specs.Loaded.{IsLoaded}
use Rattle.gx_tree.specs.Nodes.{IsLevel, files}
use Rattle.gx_tree.specs.Views as views
use Rattle.gx_tree.specs.Views.{shown_entries, Remembers}
use Rattle.gx_tree.proofs.HeldItems.{file_is, folder_is, tree_named}
use Rattle.gx_tree.proofs.HeldLevels.{entries_held, held_text, loading_all, loading_more, loading_none, is_there, within_all}
use Rattle.gx_tree.proofs.LevelsOf.{IsLevel-level_of, files-level_of, level_of}
use Rattle.gx_tree.proofs.TreeRecords.{kept_entry}
use Rattle.gx_tree.proofs.directory.+load.Goals as goal

pub Directory::load-unreachable-requires : goal.Directory::load-unreachable-requires
Directory::load-unreachable-requires g t c =
    is_there (g.N.Namer.name_of c.args.store.now.0) c.args.store.now.1 c.args.name.now.bytes c.requires.held.0 c.get.result c.requires.held.1.0 c.in_default-get.is c.get.ensures

pub Directory::load-held_tree-entry-items-requires : goal.Directory::load-held_tree-entry-items-requires
Directory::load-held_tree-entry-items-requires g t c =
    let name = g.N.Namer.name_of c.args.store.now.0 in
    let text = held_text name c.args.store.now.1 (g.met.N.Namer.is_namer c.args.store.now.0) c.args.name.now.bytes c.requires.held.0 c.get.result c.in-Some-get.field-0-0 c.in-Some-get.body c.requires.held.1.0 c.in-Some-get.is c.get.ensures in
    (map (kept_entry name) (level_of c.requires.held.0), text)

pub Directory::load-loop-entry-init : goal.Directory::load-loop-entry-init
Directory::load-loop-entry-init g t c = (
  λ f h.
      let name = g.N.Namer.name_of c.args.store.now.0 in
      let text = held_text name c.args.store.now.1 (g.met.N.Namer.is_namer c.args.store.now.0) c.args.name.now.bytes f c.get.result c.in-Some-get.field-0-0 c.in-Some-get.body h c.in-Some-get.is c.get.ensures in
      rw c.new-entries.ensures.items (loading_none name (level_of f) c.held_tree-entry-items.result c.into_iter-entry-iterator.result c.into_iter-entry-iterator.ensures.into_iter_gives (c.held_tree-entry-items.ensures (map (kept_entry name) (level_of f)) text)),
  rw c.new-entries.ensures.items tt,
  rw c.new-entries.ensures.items tt,
  c.requires.loaded,
)

pub Directory::load-load-requires : goal.Directory::load-load-requires
Directory::load-load-requires g t c =
    let name = g.N.Namer.name_of c.args.store.now.0 in
    let held = entries_held name c.args.store.now.1 c.args.name.now.bytes c.requires.held.0 c.args.room c.requires.held.1 in
    let next = loading_more name (IsHeldEntry name c.args.store.now.1 c.args.room) (level_of c.requires.held.0) (shown c.in-Some-entry.entry) c.loop-entry.entry-iterator c.next.new.self (shown_entries c.loop-entry.entries.items) held c.in-Some-entry.ensures.steps (c.loop-entry.invariant.0 c.requires.held.0 c.requires.held.1.0) in
    let less : 2 * c.args.room < t = omega (arith, c.decreases) in
    λ κs within. (less, (within.0, (within.1, ((next.kept, next.fits, next.leaf), c.loop-entry.invariant.3))))

pub Directory::load-loop-entry-preserved : goal.Directory::load-loop-entry-preserved
Directory::load-loop-entry-preserved g t c = (
  λ f h.
      let name = g.N.Namer.name_of c.args.store.now.0 in
      let held = entries_held name c.args.store.now.1 c.args.name.now.bytes f 4095 (h, within_all f h.map) in
      let next = loading_more name (IsHeldEntry name c.args.store.now.1 4095) (level_of f) (shown c.in-Some-entry.entry) c.loop-entry.entry-iterator c.next.new.self (shown_entries c.loop-entry.entries.items) held c.in-Some-entry.ensures.steps (c.loop-entry.invariant.0 f h) in
      let item = c.in_ok-item.ensures.kept next.kept 4095 next.fits next.leaf in
      rw (c.in_ok-push.ensures.items, map-append views.shown_entry c.loop-entry.entries.items) (next.more _ (c.in_ok-new.ensures.seen ∙ ap (λ k. (c.in-Some-entry.entry.component.now, k)) item)),
  let name = g.N.Namer.name_of c.args.store.now.0 in
      subst (AreAtHome name c.args.store.now.1) (sym c.in_ok-push.ensures.items) (all_joined (λ e. IsItemAtHome name c.args.store.now.1 e.item) c.loop-entry.entries.items _ c.loop-entry.invariant.1 (subst (IsItemAtHome name c.args.store.now.1) (sym c.in_ok-new.ensures.item) c.in_ok-item.ensures.home, tt)),
  subst (AllByRecursion (λ e. Remembers e.item)) (sym c.in_ok-push.ensures.items) (all_joined (λ e. Remembers e.item) c.loop-entry.entries.items _ c.loop-entry.invariant.2 (subst Remembers (sym c.in_ok-new.ensures.item) c.in_ok-item.ensures.remembers, tt)),
  c.in_ok-item.ensures.loaded,
)

pub Directory::load-of-requires : goal.Directory::load-of-requires
Directory::load-of-requires g t c =
    let name = g.N.Namer.name_of c.args.store.now.0 in
    let f = c.requires.held.0 in
    let all = loading_all name (level_of f) c.loop-entry.entry-iterator (shown_entries c.loop-entry.entries.items) c.in-None.ensures.steps.0 (c.loop-entry.invariant.0 f c.requires.held.1.0) in
    record { level = subst IsLevel (sym all) (IsLevel-level_of f c.requires.held.1.0.map); remembers = c.loop-entry.invariant.2 }

pub Directory::load-returns : goal.Directory::load-returns
Directory::load-returns g t c =
    let name = g.N.Namer.name_of c.args.store.now.0 in
    let es = c.loop-entry.entries.items in
    let all : (f : FileMap Bytes) → IsHeldTree name c.args.store.now.1 c.args.name.now.bytes f → shown_entries es ≡ level_of f = λ f h. loading_all name (level_of f) c.loop-entry.entry-iterator (shown_entries es) c.in-None.ensures.steps.0 (c.loop-entry.invariant.0 f h) in
    let whole : (f : FileMap Bytes) → IsHeldTree name c.args.store.now.1 c.args.name.now.bytes f → files (shown_entries es) ≡ f = λ f h. ap files (all f h) ∙ files-level_of f (parts_of f h.map.file_map) in
    let f = c.requires.held.0 in
    let held = c.requires.held.1.0 in
    let home = named_at_home name c.args.store.now.1 c.args.name.now es (subst IsLevel (sym (all f held)) (IsLevel-level_of f held.map)) (subst (IsHome name c.args.store.now.1 c.args.name.now.bytes) (sym (whole f held)) (record { named = held.named; held = held.held })) c.loop-entry.invariant.1 in
    let e = c.in_ok-directory.ensures in
    let own : IsLoaded name c.args.store.now.1 c.args.name.now.bytes c.in_ok-directory.directory = record {
      held = subst (IsHeldTree name c.args.store.now.1 c.args.name.now.bytes) (sym (files_same e ∙ whole f held)) held;
      home = subst (IsAtHome name c.args.store.now.1) (sym e) home;
      remembers = ap (λ (t : NamedTree). is_named t.names) e;
    } in
    record {
      directory = IfOk-weaker c.enter.result _ _ (λ d same. subst (IsLoaded name c.args.store.now.1 c.args.name.now.bytes) (sym same) own) c.enter.ensures.directory;
      loaded = c.enter.ensures.entered name c.args.store.now.1 c.loop-entry.invariant.3 own;
    }

pub Item::load-load-requires : goal.Item::load-load-requires
Item::load-load-requires g t c κs within =
    let m : c.args.entry.now.mode ≡ Dir = search rules in
    let tree = tree_named (g.N.Namer.name_of c.args.store.now.0) c.args.store.now.1 c.args.entry.now m c.requires.held in
    (omega (arith, tree.0, c.decreases), (within.0, (within.1, (tree.1, c.requires.loaded))))

pub Item::load-unreachable-requires : goal.Item::load-unreachable-requires
Item::load-unreachable-requires g t c =
    let m : c.args.entry.now.mode ≡ Dir = search rules in
    let tree = tree_named (g.N.Namer.name_of c.args.store.now.0) c.args.store.now.1 c.args.entry.now m c.requires.held in
    omega (arith, tree.0, c.if-used-room.true)

pub Item::load-returns-clause-kept : goal.Item::load-returns-clause-kept
Item::load-returns-clause-kept g t c =
    let m : c.args.entry.now.mode ≡ Dir = search rules in
    folder_is (g.N.Namer.name_of c.args.store.now.0) c.args.store.now.1 c.args.entry.now g.row.A.Denot (g.met.N.Namer.is_namer c.args.store.now.0) m c.in_ok-below.ensures.directory

pub Item::load-returns-then-ne-clause-kept : goal.Item::load-returns-then-ne-clause-kept
Item::load-returns-then-ne-clause-kept g t c = file_is (g.N.Namer.name_of c.args.store.now.0) c.args.store.now.1 c.args.entry.now g.row.A.Denot (search rules)
