use Rattle.std.proofs.Common.{◌∙◌}
use Rattle.std.proofs.lemmas.Result.{err_from_is_err_and}
use Rattle.gx_model.specs.Changes.{all_changes}
use Rattle.gx_model.specs.Laws.RepositoryLaws.{values_of}
use Rattle.gx_export.specs.Branches.{picked, refs_of}
use Rattle.gx_export.specs.ChangedParts.{sending_front, sending_rest}
use Rattle.gx_export.proofs.ChangesTexts.{exports, stopped_at_commits}
use Rattle.gx_export.proofs.Numbering.{adds_later, adds_name}
use Rattle.gx_export.proofs.exporting_changes.write_text.Goals as goal

pub returns-in_err-write_front-clause-text : goal.returns-in_err-write_front-clause-text
returns-in_err-write_front-clause-text g c =
    let r = c.args.repo.now.1 in
    let p = err_from_is_err_and c.from_residual.result c.from_residual.ensures.1 in
    rw (p.1, p.2)
    (λ test e. stopped_at_commits (g.N.Namer.name_of c.args.repo.now.0) c.args.closed (picked test (values_of r)) (refs_of r c.args.branches.now) c.args.written.now.output c.write_front.new.written.output c.in_err-write_front.field-0.0 c.requires.bytes (c.in_err-write_front.ensures test e))

pub write_rest-requires-clause-written : goal.write_rest-requires-clause-written
write_rest-requires-clause-written g c = let s = c.requires.sent in (all_changes (picked s.0 (values_of c.args.repo.now.1)), (c.in_ok-write_front.ensures s.0 s.1).0)

pub returns-clause-text : goal.returns-clause-text
returns-clause-text g c = λ test e.
    let name = g.N.Namer.name_of c.args.repo.now.0 in
    let r = c.args.repo.now.1 in
    let sent = picked test (values_of r) in
    let refs = refs_of r c.args.branches.now in
    let us = all_changes sent in
    let front = c.in_ok-write_front.ensures test e in
    exports name c.args.closed sent refs r us c.args.written.now c.write_rest.new.written c.write_rest.result c.requires.bytes c.write_rest.ensures.memory
    (adds_later r us us (sending_front name c.args.closed sent refs) (sending_rest name c.args.closed sent refs us) c.args.written.now c.write_front.new.written c.write_rest.new.written c.write_rest.result front (c.write_rest.ensures.adds test e us front.0))

pub returns-in_err-write_front-clause-name : goal.returns-in_err-write_front-clause-name
returns-in_err-write_front-clause-name g c = let s = c.requires.sent in (c.in_err-write_front.ensures s.0 s.1).0

pub returns-clause-name : goal.returns-clause-name
returns-clause-name g c =
    let r = c.args.repo.now.1 in
    let s = c.requires.sent in
    let sent = picked s.0 (values_of r) in
    let us = all_changes sent in
    let front = c.in_ok-write_front.ensures s.0 s.1 in
    let rest = sending_rest (g.N.Namer.name_of c.args.repo.now.0) c.args.closed sent (refs_of r c.args.branches.now) us in
    adds_name r us rest c.write_front.new.written c.write_rest.new.written c.write_rest.result (c.write_rest.ensures.adds s.0 s.1 us front.0) ∙ front.1.0
