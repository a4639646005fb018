use Rattle.std.proofs.Common.{sym, ap, ◌∙◌}
use Rattle.std.specs.List.{list_any}
use Rattle.gx_model.specs.declared.objects.Kind.TheVariants as kinds
use Rattle.gx_model.specs.Records.HistoryOf.{entries_in}
use Rattle.gx_object.specs.Entries.{shown}
use Rattle.gx_repo.proofs.WantingTrees.{any_end, any_here, any_next, names_empty}
use Rattle.gx_repo.proofs.wanting.has_empty_directory.Goals as goal

pub held_tree-entry-items-requires : goal.held_tree-entry-items-requires
held_tree-entry-items-requires g c = (c.bodies_are_read.ensures.told kinds.Tree c.args.body.now).0 c.requires

pub loop-entry-init : goal.loop-entry-init
loop-entry-init g c =
    let law = c.bodies_are_read.ensures in
    let body = c.args.body.now in
    let text = (law.told kinds.Tree body).0 c.requires in
    ap (list_any (names_empty c.args.store.now.1)) (c.into_iter-entry-iterator.ensures.into_iter_gives ∙ c.held_tree-entry-items.ensures text.0 text.1 ∙ sym (law.trees text.0 body text.1))

pub loop-entry-preserved : goal.loop-entry-preserved
loop-entry-preserved g c =
    any_next (names_empty c.args.store.now.1) (entries_in c.args.body.now) c.loop-entry.entry-iterator (shown c.in-Some.entry) c.next.new.self c.in-Some.ensures.steps
    c.loop-entry.invariant (sym c.is_empty_directory.ensures ∙ c.if-is_empty_directory.false)

pub returns-then-is_empty_directory : goal.returns-then-is_empty_directory
returns-then-is_empty_directory g c =
    any_here (names_empty c.args.store.now.1) (entries_in c.args.body.now) c.loop-entry.entry-iterator (shown c.in-Some.entry) c.next.new.self c.in-Some.ensures.steps
    c.loop-entry.invariant (sym c.is_empty_directory.ensures ∙ c.if-is_empty_directory.true)

pub returns : goal.returns
returns g c = any_end (names_empty c.args.store.now.1) (entries_in c.args.body.now) c.loop-entry.entry-iterator c.in-None.ensures.steps.0 c.loop-entry.invariant
