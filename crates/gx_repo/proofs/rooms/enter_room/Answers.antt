use Rattle.std.proofs.Common.{◌∷◌, ◌++◌, [], take, sym, ap, ◌∙◌, arith, length-take}
use Rattle.gx_repo.proofs.RecordRooms.{front_all, front_longer, front_of_all, front_whole}
use Rattle.gx_repo.proofs.rooms.enter_room.Goals as goal

pub returns-then-len-held-clause-ok : goal.returns-then-len-held-clause-ok
returns-then-len-held-clause-ok g c = front_of_all c.args.store.now.1 c.args.held c.args.rooms.now.items (sym c.len.ensures.count ∙ c.if-len-held.true) c.requires.front

pub returns-then-len-held-2-clause-ok : goal.returns-then-len-held-2-clause-ok
returns-then-len-held-2-clause-ok g c =
    front_longer c.args.store.now.1 c.args.held c.args.rooms.now.items c.requires.front (omega (arith, c.if-len-held-2.true, c.len-2.ensures, c.args.rooms.now.ok.0))

pub returns-clause-ok : goal.returns-clause-ok
returns-clause-ok g c =
    let rs = c.args.store.now.1 in
    let behind = c.requires.room (λ e. c.if-len-held.false (c.len.ensures.count ∙ e)) in
    let all = front_all (take c.args.held rs) c.args.rooms.now.items c.requires.front (omega (arith, length-take c.args.held rs, c.if-len-held-2.false, c.len-2.ensures, c.args.rooms.now.ok.0)) in
    front_whole rs c.push.new.self.items (c.in_ok-push.ensures.items ∙ ap (λ xs. xs ++ c.args.room ∷ []) all ∙ sym behind)
