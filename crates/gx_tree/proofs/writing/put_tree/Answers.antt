use Rattle.std.proofs.Common.{◌≡◌, map, ap, ◌∙◌}
use Rattle.gx_model.specs.declared.objects.Kind.TheVariants as kind
use Rattle.gx_model.specs.Objects.{tree_text}
use Rattle.gx_object.specs.declared.name.Name.{Name}
use Rattle.gx_tree.specs.Nodes.{files}
use Rattle.gx_tree.specs.StoreFaults.{tree_fault}
use Rattle.gx_tree.specs.Views.{own_entry, shown_entries}
use Rattle.gx_tree.specs.Writes.{own_record}
use Rattle.gx_tree.proofs.WrittenRecords.{one_put, one_stops, own_text, passed_on, put_extends}
use Rattle.gx_tree.proofs.writing.put_tree.Goals as goal

pub returns-in_err-put-clause-extends : goal.returns-in_err-put-clause-extends
returns-in_err-put-clause-extends g c = put_extends c.args.store.now c.put.new.self _ c.put.result c.put.ensures.namer c.put.ensures.puts

pub returns-in_err-put-clause-puts : goal.returns-in_err-put-clause-puts
returns-in_err-put-clause-puts g c =
    let name = g.N.Namer.name_of c.args.store.now.0 in
    let es = c.args.entries.now in
    let body = c.as_slice.result.now in
    let text : body ≡ tree_text (map own_entry es) = c.as_slice.ensures.value ∙ c.in_ok-encode_entries.ensures in
    let own = own_text name es body c.args.store.now.1 c.requires.level c.requires.home c.requires.remember text in
    let fault = c.in_err-put.field-0.0 in
    passed_on (own_record name (files (shown_entries es))) c.args.store.now.1 c.put.new.self.1 c.from_residual-in_err-put.result (tree_fault fault) c.from_residual-in_err-put.ensures.0 c.from_residual-in_err-put.ensures.1
    (one_stops name Name (files (shown_entries es)) body c.args.store.now.1 c.put.new.self.1 fault own c.in_err-put.ensures.puts)

pub returns-clause-extends : goal.returns-clause-extends
returns-clause-extends g c = put_extends c.args.store.now c.put.new.self _ c.put.result c.put.ensures.namer c.put.ensures.puts

pub returns-clause-name : goal.returns-clause-name
returns-clause-name g c =
    let name = g.N.Namer.name_of c.args.store.now.0 in
    let es = c.args.entries.now in
    let body = c.as_slice.result.now in
    let text : body ≡ tree_text (map own_entry es) = c.as_slice.ensures.value ∙ c.in_ok-encode_entries.ensures in
    c.in_ok-put.ensures.puts.0 ∙ ap (name kind.Tree) (own_text name es body c.args.store.now.1 c.requires.level c.requires.home c.requires.remember text)

pub returns-clause-puts : goal.returns-clause-puts
returns-clause-puts g c =
    let name = g.N.Namer.name_of c.args.store.now.0 in
    let es = c.args.entries.now in
    let body = c.as_slice.result.now in
    let text : body ≡ tree_text (map own_entry es) = c.as_slice.ensures.value ∙ c.in_ok-encode_entries.ensures in
    one_put name (files (shown_entries es)) body c.args.store.now.1 c.put.new.self.1 (own_text name es body c.args.store.now.1 c.requires.level c.requires.home c.requires.remember text) c.in_ok-put.ensures.puts.1
