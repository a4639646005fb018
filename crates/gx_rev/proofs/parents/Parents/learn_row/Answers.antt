use Rattle.std.proofs.Common.{arith}
use Rattle.gx_model.proofs.Records.Standing.{commit_at_place, commit_name_there}
use Rattle.gx_rev.specs.Objects.{commit_at}
use Rattle.gx_rev.specs.declared.parents.Row.{Row}
use Rattle.gx_rev.proofs.ParentPlaces.{known_there, learned, rows_stay}
use Rattle.gx_rev.proofs.parents.Parents.learn_row.Goals as goal

pub append_parents-requires : goal.append_parents-requires
append_parents-requires g c =
    record { held = commit_name_there (g.N.Namer.name_of c.args.repo.now.0) (g.met.N.Namer.is_namer c.args.repo.now.0) c.args.repo.now.1 c.sound.ensures c.name_at.result.bytes c.args.place c.requires.commit.0 c.name_at.ensures.held c.name_at.ensures.value c.requires.commit.1 }

pub returns-in_err-append_parents-clause-holds : goal.returns-in_err-append_parents-clause-holds
returns-in_err-append_parents-clause-holds g c =
    let front = c.in_err-append_parents.ensures.front in
    rows_stay c.args.repo.now.1 c.args.self.now.rows.items c.args.self.now.places.items front.0 c.append_parents.new.places.items front.1 c.requires.holds

pub returns-clause-holds : goal.returns-clause-holds
returns-clause-holds g c =
    let name = g.N.Namer.name_of c.args.repo.now.0 in
    let namer = g.met.N.Namer.is_namer c.args.repo.now.0 in
    let r = c.args.repo.now.1 in
    let old = c.args.self.now in
    let new = c.append_parents.new.places in
    let held = commit_name_there name namer r c.sound.ensures c.name_at.result.bytes c.args.place c.requires.commit.0 c.name_at.ensures.held c.name_at.ensures.value c.requires.commit.1 in
    let at = commit_at_place name namer r c.sound.ensures c.name_at.result.bytes c.args.place held c.name_at.ensures.value in
    let added = c.in_ok-append_parents.ensures.parents in
    let row : Row = record { start = c.len-start.result; end = c.len-end.result } in
    learned r old.rows.items old.places.items added.0 new.items c.args.place (commit_at r c.name_at.result) row c.requires.there added.1 at added.2 (omega (arith, c.len-start.ensures, old.places.ok)) (omega (arith, c.len-end.ensures, new.ok)) c.requires.holds

pub returns-clause-known : goal.returns-clause-known
returns-clause-known g c =
    let name = g.N.Namer.name_of c.args.repo.now.0 in
    let namer = g.met.N.Namer.is_namer c.args.repo.now.0 in
    let r = c.args.repo.now.1 in
    let old = c.args.self.now in
    let new = c.append_parents.new.places in
    let held = commit_name_there name namer r c.sound.ensures c.name_at.result.bytes c.args.place c.requires.commit.0 c.name_at.ensures.held c.name_at.ensures.value c.requires.commit.1 in
    let at = commit_at_place name namer r c.sound.ensures c.name_at.result.bytes c.args.place held c.name_at.ensures.value in
    let added = c.in_ok-append_parents.ensures.parents in
    let row : Row = record { start = c.len-start.result; end = c.len-end.result } in
    known_there r old.rows.items old.places.items added.0 new.items c.args.place (commit_at r c.name_at.result) row c.requires.there added.1 at added.2 (omega (arith, c.len-start.ensures, old.places.ok)) (omega (arith, c.len-end.ensures, new.ok))
