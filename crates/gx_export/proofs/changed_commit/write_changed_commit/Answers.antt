use Rattle.std.proofs.Common.{sym, subst, arith, Ok, Err}
use Rattle.std.proofs.lemmas.Result.{err_from_is_err_and}
use Rattle.gx_model.specs.Changes.{own_files}
use Rattle.gx_model.specs.Export.{contents, items_text, with_blobs}
use Rattle.gx_export.specs.ChangedParts.{one_on}
use Rattle.gx_model.specs.Laws.RepositoryLaws.{values_of}
use Rattle.gx_model.specs.Histories.Values.{commit_value}
use Rattle.gx_model.proofs.Records.Standing.{at_within, commit_name_there}
use Rattle.gx_export.specs.FileTexts.{AreKept}
use Rattle.gx_export.specs.Marks.{Adds}
use Rattle.gx_export.specs.Outputs.{Writes}
use Rattle.gx_export.specs.Texts.{items_of}
use Rattle.gx_export.proofs.CommitTexts.{same_commit}
use Rattle.gx_export.proofs.Gathering.{kept_commit}
use Rattle.gx_export.proofs.Numbering.{next_marked, only_place, place_marked}
use Rattle.gx_export.proofs.changed_commit.write_changed_commit.Goals as goal

pub name_at-commit-requires : goal.name_at-commit-requires
name_at-commit-requires g c = at_within (values_of c.args.repo.now.1) c.args.place (commit_value c.requires.commit.0) c.requires.commit.1

pub write_unmarked-requires-clause-held : goal.write_unmarked-requires-clause-held
write_unmarked-requires-clause-held g c =
    let name = g.N.Namer.name_of c.args.repo.now.0 in
    let namer = g.met.N.Namer.is_namer c.args.repo.now.0 in
    commit_name_there name namer c.args.repo.now.1 c.sound.ensures c.name_at-commit.result.bytes c.args.place c.requires.commit.0 c.name_at-commit.ensures.held c.name_at-commit.ensures.value c.requires.commit.1

pub returns-in_err-write_unmarked-clause-adds : goal.returns-in_err-write_unmarked-clause-adds
returns-in_err-write_unmarked-clause-adds g c = λ made e ws h kept.
    let name = g.N.Namer.name_of c.args.repo.now.0 in
    let namer = g.met.N.Namer.is_namer c.args.repo.now.0 in
    let same = same_commit name namer c.args.repo.now.1 c.sound.ensures c.args.place made c.name_at-commit.result.bytes e c.name_at-commit.ensures.value in
    let p = err_from_is_err_and c.from_residual.result c.from_residual.ensures.1 in
    let fault = c.in_err-write_unmarked.field-0.0 in
    rw (p.1, p.2) (subst (λ d. Writes c.args.written.now.output c.write_unmarked.new.written.output (items_text (items_of (one_on (g.N.Namer.name_of c.args.repo.now.0) c.args.branch.now ws d))) (Err fault)) same (c.in_err-write_unmarked.ensures.adds ws h kept))

pub mark-requires-clause-place : goal.mark-requires-clause-place
mark-requires-clause-place g c =
    let name = g.N.Namer.name_of c.args.repo.now.0 in
    let namer = g.met.N.Namer.is_namer c.args.repo.now.0 in
    let w = c.requires.written in
    let k = (c.in_ok-write_unmarked.ensures.adds w.0 w.1 w.2).0 in
    place_marked name namer c.args.repo.now.1 c.sound.ensures _ c.write_unmarked.new.written.marks.items (commit_value c.requires.commit.0) c.args.place k.marks c.requires.commit.1

pub mark-requires-clause-room : goal.mark-requires-clause-room
mark-requires-clause-room g c =
    let w = c.requires.written in
    let most = (c.in_ok-write_unmarked.ensures.adds w.0 w.1 w.2).0.most in
    omega (arith, c.in_ok-write_unmarked.ensures.room)

pub returns-clause-adds : goal.returns-clause-adds
returns-clause-adds g c = λ made e ws h kept.
    let name = g.N.Namer.name_of c.args.repo.now.0 in
    let namer = g.met.N.Namer.is_namer c.args.repo.now.0 in
    let r = c.args.repo.now.1 in
    let sound = c.sound.ensures in
    let old = c.args.written.now in
    let mid = c.write_unmarked.new.written in
    let us = with_blobs ws (contents (own_files made)) in
    let same = same_commit name namer r sound c.args.place made c.name_at-commit.result.bytes e c.name_at-commit.ensures.value in
    let k = subst (λ d. Adds r (with_blobs ws (contents (own_files d))) (items_of (one_on (g.N.Namer.name_of c.args.repo.now.0) c.args.branch.now ws d)) old mid (Ok tt)) same (c.in_ok-write_unmarked.ensures.adds ws h kept) in
    let only = only_place name namer r sound (commit_value made) c.args.place e in
    let within = place_marked name namer r sound us mid.marks.items (commit_value made) c.args.place k.0.marks e in (
      next_marked r us (commit_value made) c.args.place mid c.mark.new.self only within k.0 c.in_ok-write_unmarked.ensures.room c.mark.ensures.output c.mark.ensures.count c.mark.ensures.marks,
      subst (λ s. Writes c.args.written.now.output s (items_text (items_of (one_on (g.N.Namer.name_of c.args.repo.now.0) c.args.branch.now ws made))) (Ok tt)) (sym c.mark.ensures.output) k.1,
    )

pub returns-clause-kept : goal.returns-clause-kept
returns-clause-kept g c = λ made e ws h kept.
    let name = g.N.Namer.name_of c.args.repo.now.0 in
    let namer = g.met.N.Namer.is_namer c.args.repo.now.0 in
    let r = c.args.repo.now.1 in
    let lines = c.write_unmarked.new.changes.files in
    let same = same_commit name namer r c.sound.ensures c.args.place made c.name_at-commit.result.bytes e c.name_at-commit.ensures.value in
    kept_commit name r (with_blobs ws (contents (own_files made))) made lines (subst (λ d. AreKept name r (with_blobs ws (contents (own_files d))) lines) same (c.in_ok-write_unmarked.ensures.kept ws h kept))
