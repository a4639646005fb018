use Rattle.std.proofs.Common.{Vec, ◌≡◌, ◌+◌, [], ◌∷◌, ◌++◌, Err, Some, refl, sym, ap, ◌∙◌, subst, arith}
use Rattle.std.specs.Prelude.{⊤}
use Rattle.gx_model.specs.Records.Growth.{put_all, tree_records}
use Rattle.gx_object.specs.declared.name.Name.{Name}
use Rattle.gx_tree.specs.Homes.{AreAtHome, IsItemAtHome}
use Rattle.gx_tree.specs.Named.{NamedTree}
use Rattle.gx_tree.specs.Nodes.{IsLevel, components, files, folder}
use Rattle.gx_tree.specs.Rooms.{IsReach}
use Rattle.gx_tree.specs.Views.{shown_item, shown_entry, shown_entries, RememberAll}
use Rattle.gx_tree.specs.Written.{AreWritten}
use Rattle.gx_tree.specs.Writes.{PutsAll, kept_records, level_records, map_name, own_record}
use Rattle.std.specs.declared.rc.Rc.{Rc}
use Rattle.gx_tree.specs.declared.directory.Entry.{Entry}
use Rattle.gx_tree.specs.declared.directory.Item.{Item}
use Rattle.gx_tree.specs.declared.fault.TreeFault.TheVariants.{OutOfMemory}
use Rattle.gx_tree.proofs.Copies.{alike_all, alike_more}
use Rattle.gx_tree.proofs.HeldRecords.{all_held, still_held}
use Rattle.gx_tree.proofs.Homes.{items_are_those, all_at, entries_at_home, files_same}
use Rattle.gx_tree.proofs.Measures.{item_less, item_measure}
use Rattle.gx_tree.proofs.WrittenHomes.{below_held, directory_written, entries_longer, item_longer, named_held, put_all_again, shared_written}
use Rattle.gx_tree.proofs.WrittenRecords.{all_written, below_stops, extends_same, extends_trans, front_none, front_whole, made_of_none, own_put, own_stops, passed_on, writing_front, writing_more, writing_stops}
use Rattle.gx_tree.proofs.+write.Goals as goal

pub directory::Directory::written-returns-then-is_named-clause-puts : goal.directory::Directory::written-returns-then-is_named-clause-puts
directory::Directory::written-returns-then-is_named-clause-puts g t c =
    let name = g.N.Namer.name_of c.args.store.now.0 in
    let named = c.is_named.ensures c.if-is_named.true in
    put_all_again c.args.store.now.1 (tree_records name c.args.self.now.files) (named_held name c.args.store.now.1 c.args.self.now named c.requires.home)

pub directory::Directory::written-returns-then-is_named-clause-made : goal.directory::Directory::written-returns-then-is_named-clause-made
directory::Directory::written-returns-then-is_named-clause-made g t c =
    let named = c.is_named.ensures c.if-is_named.true in
    shared_written (g.N.Namer.name_of c.args.store.now.0) c.args.store.now.1 c.args.self.now c.in_ok-shared.field-0 c.in_ok-shared.ensures named c.requires.home

pub directory::Directory::written-written_entries-requires : goal.directory::Directory::written-written_entries-requires
directory::Directory::written-written_entries-requires g t c =
    let name = g.N.Namer.name_of c.args.store.now.0 in
    let es = c.self.inside.entries.value.items in
    let size = ap components (files_same c.self.view_is) in
    λ κs within. (
      omega (arith, size, c.decreases),
      (
        within.0,
        (
          within.1,
          (
            c.self.invariant.0,
            entries_at_home name c.args.store.now.1 c.self.inside.remembered es c.args.self.now c.self.view_is c.self.invariant.0 c.requires.home,
          ),
        ),
      ),
    )

pub directory::Directory::written-returns-in_err-entries-clause-puts : goal.directory::Directory::written-returns-in_err-entries-clause-puts
directory::Directory::written-returns-in_err-entries-clause-puts g t c =
    let name = g.N.Namer.name_of c.args.store.now.0 in
    let fault = c.in_err-entries.field-0.0 in
    let new = c.written_entries.new.store.1 in
    passed_on (tree_records name c.args.self.now.files) c.args.store.now.1 new c.from_residual-in_err-entries.result fault c.from_residual-in_err-entries.ensures.0 c.from_residual-in_err-entries.ensures.1
    (below_stops name (Rc (Vec (Entry g.row.A.Denot) g.row.A.Denot) g.row.A.Denot) NamedTree c.self.inside.entries.value.items c.args.store.now.1 new fault (files_same c.self.view_is) c.self.invariant.0 c.in_err-entries.ensures.puts)

pub directory::Directory::written-put_tree-requires : goal.directory::Directory::written-put_tree-requires
directory::Directory::written-put_tree-requires g t c =
    let name = g.N.Namer.name_of c.args.store.now.0 in
    let mid = c.written_entries.new.store.1 in
    let those = items_are_those c.as_slice.ensures.value c.deref.ensures in
    let made = c.in_ok-entries.ensures.made in
    let home = subst (λ n. AreAtHome (g.N.Namer.name_of n) mid c.in_ok-entries.entries.value.items) (sym c.written_entries.ensures.extends.namer) made.home in
    record {
      level = subst (λ z. IsLevel (shown_entries z)) (sym those) (subst IsLevel (sym made.seen) c.self.invariant.0);
      home = subst (AreAtHome (g.N.Namer.name_of c.written_entries.new.store.0) mid) (sym those) home;
      remember = subst RememberAll (sym those) made.remember;
    }

pub directory::Directory::written-returns-in_err-name-clause-extends : goal.directory::Directory::written-returns-in_err-name-clause-extends
directory::Directory::written-returns-in_err-name-clause-extends g t c = extends_trans c.written_entries.ensures.extends c.put_tree.ensures.extends

pub directory::Directory::written-returns-in_err-name-clause-puts : goal.directory::Directory::written-returns-in_err-name-clause-puts
directory::Directory::written-returns-in_err-name-clause-puts g t c =
    let name = g.N.Namer.name_of c.args.store.now.0 in
    let es = c.self.inside.entries.value.items in
    let mid = c.written_entries.new.store.1 in
    let new = c.put_tree.new.store.1 in
    let level = shown_entries c.as_slice.result.now in
    let alike : level ≡ shown_entries es = ap shown_entries (items_are_those c.as_slice.ensures.value c.deref.ensures) ∙ c.in_ok-entries.ensures.made.seen in
    let fault = c.in_err-name.field-0.0 in
    let own = subst (λ n. PutsAll {Y = Name} (own_record (g.N.Namer.name_of n) (files level)) mid new (Err fault)) c.written_entries.ensures.extends.namer c.in_err-name.ensures.puts in
    passed_on (tree_records name c.args.self.now.files) c.args.store.now.1 new c.from_residual-in_err-name.result fault c.from_residual-in_err-name.ensures.0 c.from_residual-in_err-name.ensures.1
    (own_stops name Name NamedTree es level c.args.store.now.1 mid new fault alike (files_same c.self.view_is) c.self.invariant.0 c.in_ok-entries.ensures.puts own)

pub directory::Directory::written-returns-clause-extends : goal.directory::Directory::written-returns-clause-extends
directory::Directory::written-returns-clause-extends g t c = extends_trans c.written_entries.ensures.extends c.put_tree.ensures.extends

pub directory::Directory::written-returns-clause-puts : goal.directory::Directory::written-returns-clause-puts
directory::Directory::written-returns-clause-puts g t c =
    let name = g.N.Namer.name_of c.args.store.now.0 in
    let es = c.self.inside.entries.value.items in
    let mid = c.written_entries.new.store.1 in
    let new = c.put_tree.new.store.1 in
    let level = shown_entries c.as_slice.result.now in
    let alike : level ≡ shown_entries es = ap shown_entries (items_are_those c.as_slice.ensures.value c.deref.ensures) ∙ c.in_ok-entries.ensures.made.seen in
    let own = subst (λ n. put_all mid (own_record (g.N.Namer.name_of n) (files level)) ≡ Some new) c.written_entries.ensures.extends.namer c.in_ok-name.ensures.puts in
    own_put name es level c.args.store.now.1 mid new alike (files_same c.self.view_is) c.self.invariant.0 c.in_ok-entries.ensures.puts own

pub directory::Directory::written-returns-clause-made : goal.directory::Directory::written-returns-clause-made
directory::Directory::written-returns-clause-made g t c =
    let name = g.N.Namer.name_of c.args.store.now.0 in
    let es = c.self.inside.entries.value.items in
    let mid = c.written_entries.new.store.1 in
    let new = c.put_tree.new.store.1 in
    let level = shown_entries c.as_slice.result.now in
    let alike : level ≡ shown_entries es = ap shown_entries (items_are_those c.as_slice.ensures.value c.deref.ensures) ∙ c.in_ok-entries.ensures.made.seen in
    let own = subst (λ n. put_all mid (own_record (g.N.Namer.name_of n) (files level)) ≡ Some new) c.written_entries.ensures.extends.namer c.in_ok-name.ensures.puts in
    let named = subst (λ n. c.in_ok-name.name.bytes ≡ map_name (g.N.Namer.name_of n) (files level)) c.written_entries.ensures.extends.namer c.in_ok-name.ensures.name in
    directory_written name es c.in_ok-entries.entries.value.items c.args.self.now.files c.in_ok-name.name mid new (files_same c.self.view_is) c.self.invariant.0 c.in_ok-entries.ensures.made
    (named ∙ ap (map_name name) (ap files alike ∙ files_same c.self.view_is))
    (all_held (tree_records name c.args.self.now.files) c.args.store.now.1 new (directory::Directory::written-returns-clause-puts g t c))
    (λ n s. still_held (own_record name (files level)) mid new n s own)

pub writing::written_entries-returns-then-shares-clause-puts : goal.writing::written_entries-returns-then-shares-clause-puts
writing::written_entries-returns-then-shares-clause-puts g t c =
    let name = g.N.Namer.name_of c.args.store.now.0 in
    let es = c.args.entries.now.value.items in
    let named = subst RememberAll (items_are_those c.as_slice.ensures.value c.deref.ensures) (c.remember_all-shares.ensures c.if-shares.true) in
    put_all_again c.args.store.now.1 (level_records name (shown_entries es)) (below_held name c.args.store.now.1 es c.requires.home named)

pub writing::written_entries-returns-then-shares-clause-made : goal.writing::written_entries-returns-then-shares-clause-made
writing::written_entries-returns-then-shares-clause-made g t c =
    let name = g.N.Namer.name_of c.args.store.now.0 in
    let es = c.args.entries.now.value.items in
    let named = subst RememberAll (items_are_those c.as_slice.ensures.value c.deref.ensures) (c.remember_all-shares.ensures c.if-shares.true) in
    subst (λ v. AreWritten name c.args.store.now.1 es v.items) (sym c.in_ok-clone.ensures.cases) (record { seen = refl; home = c.requires.home; remember = named })

pub writing::write_entries-written-requires : goal.writing::write_entries-written-requires
writing::write_entries-written-requires g t c =
    let name = g.N.Namer.name_of c.args.store.now.0 in
    let xs = c.args.entries.now in
    let r = c.entry-item.result in
    let mid = c.loop-entry.store.1 in
    let falls = item_less xs xs c.loop-entry.entry-index r c.loop-entry-test.true c.entry-item.is refl refl c.requires.level in
    λ κs within. (
      omega (arith, falls, c.decreases),
      (
        within.0,
        (
          within.1,
          (
              let one = all_at (λ e. IsItemAtHome name c.args.store.now.1 e.item) xs c.loop-entry.entry-index r c.loop-entry-test.true c.entry-item.is c.requires.home in
              let longer = item_longer name c.args.store.now.1 mid (λ n s. still_held _ c.args.store.now.1 mid n s c.loop-entry.invariant.1) r.item one in
              subst (λ n. IsItemAtHome (g.N.Namer.name_of n) mid r.item) (sym c.loop-entry.invariant.0.namer) longer),
        ),
      ),
    )

pub writing::write_entries-returns-in_err-item-clause-extends : goal.writing::write_entries-returns-in_err-item-clause-extends
writing::write_entries-returns-in_err-item-clause-extends g t c = extends_trans c.loop-entry.invariant.0 c.written.ensures.extends

pub writing::write_entries-returns-in_err-item-clause-puts : goal.writing::write_entries-returns-in_err-item-clause-puts
writing::write_entries-returns-in_err-item-clause-puts g t c =
    let name = g.N.Namer.name_of c.args.store.now.0 in
    let xs = c.args.entries.now in
    let r = c.entry-item.result in
    let mid = c.loop-entry.store.1 in
    let new = c.written.new.store.1 in
    let fault = c.in_err-item.field-0.0 in
    let p = subst (λ n. PutsAll {Y = Item g.row.A.Denot} (kept_records (g.N.Namer.name_of n) (shown_item r.item)) mid new (Err fault)) c.loop-entry.invariant.0.namer c.in_err-item.ensures.puts in
    passed_on (level_records name (shown_entries xs)) c.args.store.now.1 new c.from_residual.result fault c.from_residual.ensures.0 c.from_residual.ensures.1
    (writing_stops name (Item g.row.A.Denot) ⊤ xs c.loop-entry.entry-index r c.args.store.now.1 mid new fault c.loop-entry-test.true c.entry-item.is p c.loop-entry.invariant.1)

pub writing::write_entries-returns-in_err-push_with-clause-extends : goal.writing::write_entries-returns-in_err-push_with-clause-extends
writing::write_entries-returns-in_err-push_with-clause-extends g t c = extends_trans c.loop-entry.invariant.0 c.written.ensures.extends

pub writing::write_entries-loop-entry-preserved : goal.writing::write_entries-loop-entry-preserved
writing::write_entries-loop-entry-preserved g t c =
    let name = g.N.Namer.name_of c.args.store.now.0 in
    let xs = c.args.entries.now in
    let r = c.entry-item.result in
    let mid = c.loop-entry.store.1 in
    let new = c.written.new.store.1 in
    let k = shown_item r.item in
    let named = c.loop-entry.named.items in
    let made = c.in_ok-item.ensures.made in
    let puts = subst (λ n. put_all mid (kept_records (g.N.Namer.name_of n) k) ≡ Some new) c.loop-entry.invariant.0.namer c.in_ok-item.ensures.puts in
    let home = subst (λ n. IsItemAtHome (g.N.Namer.name_of n) new c.in_ok-item.item) c.loop-entry.invariant.0.namer made.home in (
      extends_trans c.loop-entry.invariant.0 c.written.ensures.extends,
      writing_more name xs c.loop-entry.entry-index r c.args.store.now.1 mid new c.loop-entry-test.true c.entry-item.is puts c.loop-entry.invariant.1,
      alike_more xs c.loop-entry.entry-index r named c.push_with.new.named.items c.loop-entry-test.true c.entry-item.is (c.in_ok-push_with.ensures.seen ∙ ap (λ j. shown_entries named ++ ((shown_entry r).0, j) ∷ []) made.kept) c.loop-entry.invariant.2,
      c.in_ok-push_with.ensures.home name new (home, entries_longer name mid new (λ n s. still_held (kept_records name k) mid new n s puts) named c.loop-entry.invariant.3),
      c.in_ok-push_with.ensures.remember made.remembers c.loop-entry.invariant.4,
    )

pub writing::write_entries-returns-clause-puts : goal.writing::write_entries-returns-clause-puts
writing::write_entries-returns-clause-puts g t c = all_written (g.N.Namer.name_of c.args.store.now.0) c.args.entries.now c.loop-entry.entry-index c.args.store.now.1 c.loop-entry.store.1 c.loop-entry-test.false c.loop-entry.invariant.1

pub writing::write_entries-returns-clause-made : goal.writing::write_entries-returns-clause-made
writing::write_entries-returns-clause-made g t c = record {
  seen = alike_all c.args.entries.now c.args.entries.now c.loop-entry.entry-index c.loop-entry.named.items c.loop-entry-test.false refl c.loop-entry.invariant.2;
  home = c.loop-entry.invariant.3;
  remember = c.loop-entry.invariant.4;
}

pub directory::Directory::written-invariant_of-result : goal.directory::Directory::written-invariant_of-result
directory::Directory::written-invariant_of-result g t c =
    let made = c.in_ok-entries.ensures.made in (
      subst IsLevel (sym made.seen) c.self.invariant.0,
      made.remember,
      subst (λ l. IsReach c.self.inside.reach (files l)) (sym made.seen) c.self.invariant.2,
    )

pub directory::Directory::written-returns-in_err-shared-clause-extends : goal.directory::Directory::written-returns-in_err-shared-clause-extends
directory::Directory::written-returns-in_err-shared-clause-extends g t c = extends_same c.args.store.now

pub directory::Directory::written-returns-then-is_named-clause-extends : goal.directory::Directory::written-returns-then-is_named-clause-extends
directory::Directory::written-returns-then-is_named-clause-extends g t c = extends_same c.args.store.now

pub directory::Item::written-returns-in-File-clause-extends : goal.directory::Item::written-returns-in-File-clause-extends
directory::Item::written-returns-in-File-clause-extends g t c = extends_same c.args.store.now

pub writing::written_entries-returns-in_err-clone-clause-extends : goal.writing::written_entries-returns-in_err-clone-clause-extends
writing::written_entries-returns-in_err-clone-clause-extends g t c = extends_same c.args.store.now

pub writing::written_entries-returns-then-shares-clause-extends : goal.writing::written_entries-returns-then-shares-clause-extends
writing::written_entries-returns-then-shares-clause-extends g t c = extends_same c.args.store.now

pub writing::written_entries-returns-in_err-named-clause-extends : goal.writing::written_entries-returns-in_err-named-clause-extends
writing::written_entries-returns-in_err-named-clause-extends g t c = extends_same c.args.store.now

pub directory::Directory::written-returns-in_err-shared-clause-puts : goal.directory::Directory::written-returns-in_err-shared-clause-puts
directory::Directory::written-returns-in_err-shared-clause-puts g t c = passed_on (tree_records (g.N.Namer.name_of c.args.store.now.0) c.args.self.now.files) c.args.store.now.1 c.args.store.now.1 c.from_residual.result OutOfMemory c.from_residual.ensures.0 c.from_residual.ensures.1
    (front_none _ c.args.store.now.1)

pub directory::Directory::written-returns-in_err-shared-clause-made : goal.directory::Directory::written-returns-in_err-shared-clause-made
directory::Directory::written-returns-in_err-shared-clause-made g t c = made_of_none _ c.from_residual.result c.from_residual.ensures.0

pub directory::Directory::written-returns-in_err-entries-clause-made : goal.directory::Directory::written-returns-in_err-entries-clause-made
directory::Directory::written-returns-in_err-entries-clause-made g t c = made_of_none _ c.from_residual-in_err-entries.result c.from_residual-in_err-entries.ensures.0

pub directory::Directory::written-returns-in_err-name-clause-made : goal.directory::Directory::written-returns-in_err-name-clause-made
directory::Directory::written-returns-in_err-name-clause-made g t c = made_of_none _ c.from_residual-in_err-name.result c.from_residual-in_err-name.ensures.0

pub directory::Item::written-written-requires : goal.directory::Item::written-written-requires
directory::Item::written-written-requires g t c =
    let name = g.N.Namer.name_of c.args.store.now.0 in
    λ κs within. (
      omega (arith, ap item_measure c.in-Folder.is, c.decreases),
      (within.0, (within.1, subst (IsItemAtHome name c.args.store.now.1) c.in-Folder.is c.requires.home)),
    )

pub directory::Item::written-returns-in_err-below-in-Folder-clause-made : goal.directory::Item::written-returns-in_err-below-in-Folder-clause-made
directory::Item::written-returns-in_err-below-in-Folder-clause-made g t c = made_of_none _ c.from_residual.result c.from_residual.ensures.0

pub directory::Item::written-returns-in_ok-below-in-Folder-clause-puts : goal.directory::Item::written-returns-in_ok-below-in-Folder-clause-puts
directory::Item::written-returns-in_ok-below-in-Folder-clause-puts g t c =
    let name = g.N.Namer.name_of c.args.store.now.0 in
    subst (λ i. put_all c.args.store.now.1 (kept_records name (shown_item i)) ≡ Some c.written.new.store.1) (sym c.in-Folder.is) c.in_ok-below-in-Folder.ensures.puts

pub directory::Item::written-returns-in_ok-below-in-Folder-clause-made : goal.directory::Item::written-returns-in_ok-below-in-Folder-clause-made
directory::Item::written-returns-in_ok-below-in-Folder-clause-made g t c =
    let made = c.in_ok-below-in-Folder.ensures.made in
    record { kept = ap folder made.files ∙ ap shown_item (sym c.in-Folder.is); home = made.home; remembers = made.remembers }

pub writing::write_entries-loop-entry-init : goal.writing::write_entries-loop-entry-init
writing::write_entries-loop-entry-init g t c =
    let name = g.N.Namer.name_of c.args.store.now.0 in
    let none = sym c.requires.empty in (
      extends_same c.args.store.now,
      refl,
      ap (λ z. shown_entries z ++ shown_entries c.args.entries.now) c.requires.empty,
      subst (AreAtHome name c.args.store.now.1) none tt,
      subst RememberAll none tt,
    )

pub writing::write_entries-returns-in_err-push_with-clause-puts : goal.writing::write_entries-returns-in_err-push_with-clause-puts
writing::write_entries-returns-in_err-push_with-clause-puts g t c =
    let name = g.N.Namer.name_of c.args.store.now.0 in
    let xs = c.args.entries.now in
    let r = c.entry-item.result in
    let mid = c.loop-entry.store.1 in
    let new = c.written.new.store.1 in
    let puts = subst (λ n. put_all mid (kept_records (g.N.Namer.name_of n) (shown_item r.item)) ≡ Some new) c.loop-entry.invariant.0.namer c.in_ok-item.ensures.puts in
    let more = writing_more name xs c.loop-entry.entry-index r c.args.store.now.1 mid new c.loop-entry-test.true c.entry-item.is puts c.loop-entry.invariant.1 in
    passed_on (level_records name (shown_entries xs)) c.args.store.now.1 new c.from_residual-in_err-push_with.result OutOfMemory c.from_residual-in_err-push_with.ensures.0 c.from_residual-in_err-push_with.ensures.1
    (writing_front name xs (c.loop-entry.entry-index + 1) c.args.store.now.1 new more)

pub writing::written_entries-write_entries-requires : goal.writing::written_entries-write_entries-requires
writing::written_entries-write_entries-requires g t c =
    let name = g.N.Namer.name_of c.args.store.now.0 in
    let those = items_are_those c.as_slice-2.ensures.value c.deref-3.ensures in
    λ κs within. (
      omega (arith, ap (λ z. components (files (shown_entries z))) those, c.decreases),
      (
        within.0,
        (
          within.1,
          (
            subst (λ z. IsLevel (shown_entries z)) (sym those) c.requires.level,
            (subst (AreAtHome name c.args.store.now.1) (sym those) c.requires.home, c.in_ok-named.ensures.items),
          ),
        ),
      ),
    )

pub writing::written_entries-returns-in_err-clone-clause-puts : goal.writing::written_entries-returns-in_err-clone-clause-puts
writing::written_entries-returns-in_err-clone-clause-puts g t c = passed_on (level_records (g.N.Namer.name_of c.args.store.now.0) (shown_entries c.args.entries.now.value.items)) c.args.store.now.1 c.args.store.now.1 c.from_residual.result OutOfMemory c.from_residual.ensures.0 c.from_residual.ensures.1
    (front_none _ c.args.store.now.1)

pub writing::written_entries-returns-in_err-clone-clause-made : goal.writing::written_entries-returns-in_err-clone-clause-made
writing::written_entries-returns-in_err-clone-clause-made g t c = made_of_none _ c.from_residual.result c.from_residual.ensures.0

pub writing::written_entries-returns-in_err-named-clause-puts : goal.writing::written_entries-returns-in_err-named-clause-puts
writing::written_entries-returns-in_err-named-clause-puts g t c = passed_on (level_records (g.N.Namer.name_of c.args.store.now.0) (shown_entries c.args.entries.now.value.items)) c.args.store.now.1 c.args.store.now.1 c.from_residual-in_err-named.result OutOfMemory c.from_residual-in_err-named.ensures.0 c.from_residual-in_err-named.ensures.1
    (front_none _ c.args.store.now.1)

pub writing::written_entries-returns-in_err-named-clause-made : goal.writing::written_entries-returns-in_err-named-clause-made
writing::written_entries-returns-in_err-named-clause-made g t c = made_of_none _ c.from_residual-in_err-named.result c.from_residual-in_err-named.ensures.0

pub writing::written_entries-returns-in_err-write_entries-clause-made : goal.writing::written_entries-returns-in_err-write_entries-clause-made
writing::written_entries-returns-in_err-write_entries-clause-made g t c = made_of_none _ c.from_residual-in_err-write_entries.result c.from_residual-in_err-write_entries.ensures.0

pub writing::written_entries-returns-clause-puts : goal.writing::written_entries-returns-clause-puts
writing::written_entries-returns-clause-puts g t c =
    let name = g.N.Namer.name_of c.args.store.now.0 in
    let those = items_are_those c.as_slice-2.ensures.value c.deref-3.ensures in
    subst (λ z. put_all c.args.store.now.1 (level_records name (shown_entries z)) ≡ Some c.write_entries.new.store.1) those c.in_ok-write_entries.ensures.puts

pub writing::written_entries-returns-in_default-clause-puts : goal.writing::written_entries-returns-in_default-clause-puts
writing::written_entries-returns-in_default-clause-puts g t c =
    let name = g.N.Namer.name_of c.args.store.now.0 in
    let new = c.write_entries.new.store.1 in
    let those = items_are_those c.as_slice-2.ensures.value c.deref-3.ensures in
    front_whole (level_records name (shown_entries c.args.entries.now.value.items)) c.args.store.now.1 new
    (subst (λ z. put_all c.args.store.now.1 (level_records name (shown_entries z)) ≡ Some new) those c.in_ok-write_entries.ensures.puts)
