use Rattle.std.proofs.Common.{◌∙◌, sym}
use Rattle.std.proofs.lemmas.Result.{err_from_is_err_and}
use Rattle.gx_questions.proofs.Peeled.{tag_reads}
use Rattle.gx_changes.proofs.SentRefs.{object_told, other_names, other_told, reset_fails, reset_told, same_names, tag_fails, tag_told}
use Rattle.gx_changes.proofs.Told.{untold}
use Rattle.gx_changes.proofs.refs.write_ref.Goals as goal

pub returns-in_err-write_reset_to-clause-adds : goal.returns-in_err-write_reset_to-clause-adds
returns-in_err-write_reset_to-clause-adds g c =
    let o = c.args.objects.now in
    let s = c.sound_if_told.ensures in
    let tip = c.args.tip.now in
    let same = same_names tip.object tip.commit (sym c.eq.ensures ∙ c.if-eq.true) in
    let p = err_from_is_err_and c.from_residual.result c.from_residual.ensures.1 in
    rw (p.1, p.2) (reset_fails (g.O.Objects.name_of o) s.namer (g.O.Objects.stands o) tip c.args.written.now c.commit_ish-commit.result c.commit_ish-commit.ensures c.write_reset_to.new.output (g.O.Objects.told o) c.in_err-write_reset_to.field-0.0 s.sound c.requires.tip same
    c.in_err-write_reset_to.ensures.text)

pub returns-then-eq-clause-adds : goal.returns-then-eq-clause-adds
returns-then-eq-clause-adds g c =
    let o = c.args.objects.now in
    let s = c.sound_if_told.ensures in
    let tip = c.args.tip.now in
    let same = same_names tip.object tip.commit (sym c.eq.ensures ∙ c.if-eq.true) in
    reset_told (g.O.Objects.name_of o) s.namer (g.O.Objects.stands o) tip c.args.written.now c.commit_ish-commit.result c.commit_ish-commit.ensures c.write_reset_to.new.output (g.O.Objects.told o) s.sound c.requires.tip same c.in_ok-write_reset_to.ensures.text

pub returns-in_default : goal.returns-in_default
returns-in_default g c =
    let o = c.args.objects.now in
    let s = c.sound_if_told.ensures in
    let tip = c.args.tip.now in
    let none = other_told (g.O.Objects.name_of o) s.namer (g.O.Objects.stands o) tip (g.O.Objects.told o) c.in_ok-object.object s.sound c.requires.tip c.in_ok-object.ensures.object c.in_default.not-Tag (other_names tip.object tip.commit (sym c.eq.ensures ∙ c.if-eq.false)) in
    record { adds = untold (g.O.Objects.told o) _ none; fault = none }

pub returns-in_default-decode_tag-clause-fault : goal.returns-in_default-decode_tag-clause-fault
returns-in_default-decode_tag-clause-fault g c =
    let o = c.args.objects.now in
    let s = c.sound_if_told.ensures in
    let tip = c.args.tip.now in
    let held = object_told (g.O.Objects.name_of o) s.namer (g.O.Objects.stands o) tip (g.O.Objects.told o) c.requires.tip in
    tag_reads (g.O.Objects.name_of o) s.namer (g.O.Objects.told o) tip.object c.in_ok-object.object s.sound held c.in-Tag.is c.in_ok-object.ensures.object c.in_default-decode_tag.ensures.only

pub returns-in_default-decode_tag-clause-adds : goal.returns-in_default-decode_tag-clause-adds
returns-in_default-decode_tag-clause-adds g c =
    let o = c.args.objects.now in
    let s = c.sound_if_told.ensures in
    let tip = c.args.tip.now in
    let held = object_told (g.O.Objects.name_of o) s.namer (g.O.Objects.stands o) tip (g.O.Objects.told o) c.requires.tip in
    untold (g.O.Objects.told o) _ (tag_reads (g.O.Objects.name_of o) s.namer (g.O.Objects.told o) tip.object c.in_ok-object.object s.sound held c.in-Tag.is c.in_ok-object.ensures.object c.in_default-decode_tag.ensures.only)

pub returns-in_err-write_tag-clause-adds : goal.returns-in_err-write_tag-clause-adds
returns-in_err-write_tag-clause-adds g c =
    let o = c.args.objects.now in
    let s = c.sound_if_told.ensures in
    let p = err_from_is_err_and c.from_residual-in_err-write_tag.result c.from_residual-in_err-write_tag.ensures.1 in
    rw (p.1, p.2) (tag_fails (g.O.Objects.name_of o) s.namer (g.O.Objects.stands o) c.args.tip.now c.args.written.now c.commit_ish-commit.result c.commit_ish-commit.ensures c.write_tag.new.output c.in_ok-object.object c.in-Ok.tag c.in-Tag.is c.in-Ok.ensures.found (g.O.Objects.told o) c.in_err-write_tag.field-0.0
    s.sound c.requires.tip c.in_ok-object.ensures.object c.in_err-write_tag.ensures.text)

pub returns-clause-adds : goal.returns-clause-adds
returns-clause-adds g c =
    let o = c.args.objects.now in
    let s = c.sound_if_told.ensures in
    tag_told (g.O.Objects.name_of o) s.namer (g.O.Objects.stands o) c.args.tip.now c.args.written.now c.commit_ish-commit.result c.commit_ish-commit.ensures c.write_tag.new.output c.in_ok-object.object c.in-Ok.tag c.in-Tag.is c.in-Ok.ensures.found (g.O.Objects.told o) s.sound c.requires.tip c.in_ok-object.ensures.object
    c.in_ok-write_tag.ensures.text
