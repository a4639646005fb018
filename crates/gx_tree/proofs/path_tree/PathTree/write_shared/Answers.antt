use Rattle.std.proofs.Common.{◌≡◌, Some, sym, ap, ◌∙◌, subst}
use Rattle.std.specs.Prelude.{IfOk}
use Rattle.gx_model.specs.Objects.NameMaps.{IsNameMap}
use Rattle.gx_model.specs.Records.Growth.{put_all, tree_records}
use Rattle.gx_object.specs.declared.name.Name.{Name}
use Rattle.gx_tree.specs.Named.{NamedTree, own_name}
use Rattle.gx_tree.specs.Nodes.{files}
use Rattle.gx_tree.specs.Views.{root_tree, shown_entries}
use Rattle.gx_tree.specs.Writes.{IsTreeName, PutsAll, map_name, own_record}
use Rattle.gx_tree.proofs.HeldRecords.{all_held, held_if_written}
use Rattle.gx_tree.proofs.Homes.{files_same}
use Rattle.gx_tree.proofs.WrittenHomes.{own_home, put_all_again}
use Rattle.gx_tree.proofs.path_tree.PathTree.write_shared.Goals as goal

pub returns-in_default-clause-held : goal.returns-in_default-clause-held
returns-in_default-clause-held g c =
    let name = g.N.Namer.name_of c.args.store.now.0 in
    let new = c.put_tree.new.store.1 in
    let none = c.as_slice.ensures.value ∙ c.new-none.ensures.items in
    let same = files_same (ap root_tree (sym c.in_default.is) ∙ c.self.view_is) in
    let named = subst (λ xs. IfOk c.put_tree.result (IsTreeName name (files (shown_entries xs)))) none c.put_tree.ensures.name in
    let puts = subst (λ xs. PutsAll {Y = Name} (own_record name (files (shown_entries xs))) c.args.store.now.1 new c.put_tree.result) none c.put_tree.ensures.puts in
    held_if_written name c.args.store.now.1 new c.put_tree.result c.args.self.now.files (subst (λ t. IsNameMap t.files) c.self.view_is c.self.invariant)
    (subst (λ f. IfOk c.put_tree.result (IsTreeName name f)) same named)
    (subst (λ f. PutsAll {Y = Name} (tree_records name f) c.args.store.now.1 new c.put_tree.result) same puts)

pub returns-in-Some-own_name-clause-name : goal.returns-in-Some-own_name-clause-name
returns-in-Some-own_name-clause-name g c =
    let same = ap root_tree (sym c.in-Some.is) ∙ c.self.view_is in
    let own = sym (c.in-Some-own_name.ensures ∙ ap (λ (t : NamedTree). own_name t.names) same) in
    (own_home (g.N.Namer.name_of c.args.store.now.0) c.args.store.now.1 c.args.self.now c.in-Some-own_name.name.bytes own c.requires.home).named

pub returns-in-Some-own_name-clause-records : goal.returns-in-Some-own_name-clause-records
returns-in-Some-own_name-clause-records g c =
    let name = g.N.Namer.name_of c.args.store.now.0 in
    let same = ap root_tree (sym c.in-Some.is) ∙ c.self.view_is in
    let own = sym (c.in-Some-own_name.ensures ∙ ap (λ (t : NamedTree). own_name t.names) same) in
    put_all_again c.args.store.now.1 (tree_records name c.args.self.now.files) (own_home name c.args.store.now.1 c.args.self.now c.in-Some-own_name.name.bytes own c.requires.home).held

pub returns-in-Some-own_name-clause-held : goal.returns-in-Some-own_name-clause-held
returns-in-Some-own_name-clause-held g c =
    let same = ap root_tree (sym c.in-Some.is) ∙ c.self.view_is in
    let own = sym (c.in-Some-own_name.ensures ∙ ap (λ (t : NamedTree). own_name t.names) same) in
    let home = own_home (g.N.Namer.name_of c.args.store.now.0) c.args.store.now.1 c.args.self.now c.in-Some-own_name.name.bytes own c.requires.home in
    record { map = subst (λ t. IsNameMap t.files) c.self.view_is c.self.invariant; named = home.named; held = home.held }

pub returns-clause-name : goal.returns-clause-name
returns-clause-name g c =
    let name = g.N.Namer.name_of c.args.store.now.0 in
    let made = c.in_ok-root.ensures.made in
    (own_home name c.written.new.store.1 c.in_ok-root.root c.tree_name-name.result.now.bytes c.tree_name-name.ensures made.home).named
    ∙ ap (map_name name) (made.files ∙ files_same (ap root_tree (sym c.in-Some.is) ∙ c.self.view_is))

pub returns-clause-held : goal.returns-clause-held
returns-clause-held g c =
    let name = g.N.Namer.name_of c.args.store.now.0 in
    let new = c.written.new.store.1 in
    let puts = subst (λ f. put_all c.args.store.now.1 (tree_records name f) ≡ Some new) (files_same (ap root_tree (sym c.in-Some.is) ∙ c.self.view_is)) c.in_ok-root.ensures.puts in
    record {
      map = subst (λ t. IsNameMap t.files) c.self.view_is c.self.invariant;
      named = returns-clause-name g c;
      held = all_held (tree_records name c.args.self.now.files) c.args.store.now.1 new puts;
    }
