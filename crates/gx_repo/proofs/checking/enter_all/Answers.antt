use Rattle.std.proofs.Common.{◌≡◌, length, take, ap, ◌∙◌, arith}
use Rattle.gx_repo.proofs.checking.enter_all.Goals as goal

pub returns-in_default-clause-err : goal.returns-in_default-clause-err
returns-in_default-clause-err g c =
    let many : c.len-entered.result ≡ length c.args.rooms.now.items = omega (arith, c.len-entered.ensures, c.args.rooms.now.ok.0) in
    c.truncate.ensures.items ∙ ap (λ n. take n c.enter_rooms.new.rooms.items) many ∙ c.in_default.ensures.err
