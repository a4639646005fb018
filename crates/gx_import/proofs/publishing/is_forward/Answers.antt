use Rattle.std.proofs.Common.{◌≡◌, IfOk, IfSome, ap, sym, subst, ◌∙◌}
use Rattle.std.specs.Option.{option_map}
use Rattle.gx_model.specs.Replay.{is_forward}
use Rattle.gx_model.proofs.Records.PeeledRefs.{not_unpeeled, old_holds}
use Rattle.gx_import.specs.RefChanges.{IsHeldByRef}
use Rattle.gx_import.proofs.ForwardBranches.{forward_new, forward_so, new_holds, target_of}
use Rattle.gx_import.proofs.publishing.is_forward.Goals as goal

pub returns-in_default-clause-forward : goal.returns-in_default-clause-forward
returns-in_default-clause-forward g c = λ made h.
    sym (ap (λ held. is_forward (option_map (target_of c.args.repo.now.1) held) made) c.in_default.is ∙ forward_new made)

pub unreachable-requires : goal.unreachable-requires
unreachable-requires g c =
    let held = subst (λ object. IfSome object (IsHeldByRef c.args.repo.now.1)) c.in-Some.is c.requires.target in
    not_unpeeled (g.N.Namer.name_of c.args.repo.now.0) (g.met.N.Namer.is_namer c.args.repo.now.0) c.args.repo.now.1 c.peel.ensures.sound held.0 c.in-Some.object.bytes held.1 c.in_default-peel.ensures.commit

pub is_ancestor-requires-clause-old : goal.is_ancestor-requires-clause-old
is_ancestor-requires-clause-old g c =
    let held = subst (λ object. IfSome object (IsHeldByRef c.args.repo.now.1)) c.in-Some.is c.requires.target in
    old_holds (g.N.Namer.name_of c.args.repo.now.0) (g.met.N.Namer.is_namer c.args.repo.now.0) c.args.repo.now.1 c.peel.ensures.sound held.0 c.in-Some.object.bytes c.in-Some-peel.old.bytes held.1 c.in-Some-peel.ensures.commit

pub is_ancestor-requires-clause-new : goal.is_ancestor-requires-clause-new
is_ancestor-requires-clause-new g c =
    new_holds (g.N.Namer.name_of c.args.repo.now.0) (g.met.N.Namer.is_namer c.args.repo.now.0) c.args.repo.now.1 c.peel.ensures.sound c.requires.commit.0 c.args.new c.requires.commit.1

pub returns-clause-forward : goal.returns-clause-forward
returns-clause-forward g c = λ made h.
    let name = g.N.Namer.name_of c.args.repo.now.0 in
    let r = c.args.repo.now.1 in
    let held = subst (λ object. IfSome object (IsHeldByRef r)) c.in-Some.is c.requires.target in
    subst (λ told. IfOk c.is_ancestor.result (λ is_forward. is_forward ≡ told))
    (forward_so name (g.met.N.Namer.is_namer c.args.repo.now.0) r c.peel.ensures.sound made c.args.new c.in-Some.object h held.0 c.in-Some-peel.old.bytes held.1 c.in-Some-peel.ensures.commit
    ∙ sym (ap (λ held. is_forward (option_map (target_of r) held) made) c.in-Some.is))
    c.is_ancestor.ensures.answer
