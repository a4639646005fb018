use Rattle.std.proofs.Common.{refl, subst, sym}
use Rattle.gx_model.specs.declared.objects.Kind.TheVariants as kinds
use Rattle.gx_small_repo.proofs.HeldEntries.{AreHeld, entries_held}
use Rattle.gx_small_repo.proofs.OfWhole.{own_stays}
use Rattle.gx_small_repo.proofs.putting.+trees.Goals as goal

pub put_tree-loop-entry-init : goal.put_tree-loop-entry-init
put_tree-loop-entry-init g t c =
    let told = g.O.Objects.told c.args.origin.now.objects.now in
    let held = entries_held told (g.O.Objects.name_of c.args.origin.now.objects.now) c.sound_if_told.ensures.sound c.args.name.now.bytes c.in_ok-body.body.now c.in_ok-body.ensures.held c.in_ok-entries.entries c.in_ok-entries.ensures.found in
    record { small = c.requires.small; namer = refl {a = c.args.repo.now.0}; held = subst (AreHeld told) (sym c.into_iter-entry-iterator.ensures.into_iter_gives) held }

pub put_tree-returns-clause-small : goal.put_tree-returns-clause-small
put_tree-returns-clause-small g t c =
    let old = c.loop-entry.repo in
    own_stays (g.O.Objects.told c.args.origin.now.objects.now) (g.N.Namer.name_of old.0.namer) old.1 c.put.new.repo.1 c.args.name.now.bytes c.in_ok-body.body.now c.put.result c.loop-entry.invariant.small
    kinds.Tree c.in_ok-body.ensures.held c.put.ensures.put
