use Rattle.std.proofs.Common.{sym, subst}
use Rattle.gx_model.specs.Histories.{Records}
use Rattle.gx_model.specs.Records.Sound.{IsSound}
use Rattle.gx_text.specs.Lent.{lent_texts}
use Rattle.gx_repo.proofs.DroppedRefs.{are_left, left_is_sound}
use Rattle.gx_repo.proofs.repo.Repo.drop_refs.Goals as goal

pub invariant_of-self-2 : goal.invariant_of-self-2
invariant_of-self-2 g c =
    let names = g.N.Namer.name_of c.self.inside.store.0 in
    let namer = g.met.N.Namer.is_namer c.self.inside.store.0 in
    let r : Records = record { records = c.self.inside.store.1; refs = c.self.inside.refs } in
    let dropped = lent_texts c.args.names.now in
    let left = are_left dropped r.refs c.drop_named.new.self c.in_ok-drop_named.ensures.dropped in
    (subst (λ refs. IsSound names (record { records = r.records; refs = refs })) (sym left) (left_is_sound names (c.parts_change.ensures names namer) r c.self.invariant.0 dropped).0, c.self.invariant.1)
