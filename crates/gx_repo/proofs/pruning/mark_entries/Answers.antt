use Rattle.std.proofs.Common.{◌≡◌, ◌∙◌, ap, sym, subst, arith, rules}
use Rattle.std.specs.List.{filter_map}
use Rattle.gx_model.specs.declared.objects.Kind.TheVariants as kinds
use Rattle.gx_model.specs.Pruning.{link_of, links_of}
use Rattle.gx_model.proofs.ObjectTexts.BodiesReadBack.{entries_read}
use Rattle.gx_object.specs.Entries.{shown}
use Rattle.gx_repo.proofs.PrunedRecords.{MarksSoFar, entry_links, so_far_next, so_far_none}
use Rattle.gx_repo.proofs.pruning.mark_entries.Goals as goal

pub loop-entry-init : goal.loop-entry-init
loop-entry-init g c =
    let rs = c.args.store.now.1 in
    let body = c.args.body.now in
    let es = c.requires.canonical.0 in
    let text = c.requires.canonical.1 in
    let same : c.into_iter-entry-iterator.result ≡ es = c.into_iter-entry-iterator.ensures.into_iter_gives ∙ c.held_tree-entry-items.ensures es text in (
      c.requires.long,
      subst (λ left. MarksSoFar rs (links_of kinds.Tree body) left c.args.marks.now c.args.marks.now) (ap (filter_map link_of) (entries_read es body text ∙ sym same)) (so_far_none rs (links_of kinds.Tree body) c.args.marks.now),
    )

pub loop-entry-preserved-then-ne : goal.loop-entry-preserved-then-ne
loop-entry-preserved-then-ne g c =
    let rs = c.args.store.now.1 in
    let names = links_of kinds.Tree c.args.body.now in
    let e = shown c.in-Some.entry in
    let step = ap (filter_map link_of) c.in-Some.ensures.steps ∙ entry_links e c.next.new.self (λ q. absurd (search (rules, c.if-ne.true, c.ne.ensures, q))) in (
      omega (arith, c.loop-entry.invariant.0, c.mark.auto.marks),
      so_far_next rs names (filter_map link_of c.next.new.self) e.name c.args.marks.now c.loop-entry.marks c.mark.new.marks
          (subst (λ left. MarksSoFar rs names left c.args.marks.now c.loop-entry.marks) step c.loop-entry.invariant.1) c.mark.ensures,
    )
