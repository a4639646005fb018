use Rattle.std.proofs.Common.{◌≡◌, ◌∙◌, map, Some, None}
use Rattle.gx_model.specs.Objects.{unhex}
use Rattle.gx_model.specs.Texts.Digits.{lower}
use Rattle.gx_model.proofs.Revisions.Bases.{full_found, full_none, name_written, whole_digits, none_got, some_got}
use Rattle.gx_rev.proofs.base.find_name.Goals as goal

pub unreachable-requires : goal.unreachable-requires
unreachable-requires g c =
    let w = whole_digits c.args.digits.now c.requires in
    let e = name_written c.args.digits.now w.1 w.0 in
    let k : None ≡ Some (unhex (map lower c.args.digits.now)) = c.in_default.ensures ∙ e in
    cc k

pub returns-in-Some-get-clause-value : goal.returns-in-Some-get-clause-value
returns-in-Some-get-clause-value g c =
    let w = whole_digits c.args.digits.now c.requires in
    let e = name_written c.args.digits.now w.1 w.0 in
    let k : Some c.in-Some.name.bytes ≡ Some (unhex (map lower c.args.digits.now)) = c.in-Some.ensures ∙ e in
    let s : c.in-Some.name.bytes ≡ unhex (map lower c.args.digits.now) = cc k in
    full_found (g.N.Namer.name_of c.args.repo.now.0) (g.met.N.Namer.is_namer c.args.repo.now.0) c.args.repo.now.1 c.store.ensures.sound c.args.digits.now c.in-Some.name.bytes w.1 w.0 s (some_got c.args.repo.now.1.records c.in-Some.name.bytes (c.in-Some-get.field-0.0, c.in-Some-get.field-0.1.now) (rw c.store.ensures.held at c.in-Some-get.ensures))

pub returns-in-None-clause-value : goal.returns-in-None-clause-value
returns-in-None-clause-value g c =
    let w = whole_digits c.args.digits.now c.requires in
    let e = name_written c.args.digits.now w.1 w.0 in
    let k : Some c.in-Some.name.bytes ≡ Some (unhex (map lower c.args.digits.now)) = c.in-Some.ensures ∙ e in
    let s : c.in-Some.name.bytes ≡ unhex (map lower c.args.digits.now) = cc k in
    full_none (g.N.Namer.name_of c.args.repo.now.0) (g.met.N.Namer.is_namer c.args.repo.now.0) c.args.repo.now.1 c.store.ensures.sound c.args.digits.now c.in-Some.name.bytes w.1 w.0 s (none_got c.args.repo.now.1.records c.in-Some.name.bytes (rw c.store.ensures.held at c.in-None.ensures))
