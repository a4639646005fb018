use Rattle.std.proofs.lemmas.Result.{err_from_is_err_and}
use Rattle.gx_questions.proofs.Peeled.{itself, tag_reads, tagged}
use Rattle.gx_questions.proofs.objects.commit_of.Goals as goal

pub returns-in_err-decode_tag-in-Tag-clause-commit : goal.returns-in_err-decode_tag-in-Tag-clause-commit
returns-in_err-decode_tag-in-Tag-clause-commit g c =
    let p = err_from_is_err_and c.from_residual-in_err-decode_tag-in-Tag.result c.from_residual-in_err-decode_tag-in-Tag.ensures.1 in
    rw (p.1, p.2) (tag_reads (g.O.Objects.name_of c.args.objects.now) c.sound_if_told.ensures.namer (g.O.Objects.told c.args.objects.now) c.args.name.now c.in_ok-object.object c.sound_if_told.ensures.sound c.requires.held c.in-Tag.is c.in_ok-object.ensures.object c.in_err-decode_tag-in-Tag.ensures.only)

pub returns-in-Commit-clause-held : goal.returns-in-Commit-clause-held
returns-in-Commit-clause-held g c =
    (itself (g.O.Objects.name_of c.args.objects.now) c.sound_if_told.ensures.namer (g.O.Objects.told c.args.objects.now) c.args.name.now c.in_ok-object.object c.sound_if_told.ensures.sound c.requires.held c.in-Commit.is c.in_ok-object.ensures.object).1

pub returns-in_ok-decode_tag-in-Tag-clause-commit : goal.returns-in_ok-decode_tag-in-Tag-clause-commit
returns-in_ok-decode_tag-in-Tag-clause-commit g c =
    (tagged (g.O.Objects.name_of c.args.objects.now) c.sound_if_told.ensures.namer (g.O.Objects.told c.args.objects.now) c.args.name.now c.object.result c.in_ok-object.object _ c.sound_if_told.ensures.sound c.requires.held c.in-Tag.is c.in_ok-object.ensures.object c.in_ok-decode_tag-in-Tag.ensures.found c.object.ensures).0

pub returns-in_ok-decode_tag-in-Tag-clause-held : goal.returns-in_ok-decode_tag-in-Tag-clause-held
returns-in_ok-decode_tag-in-Tag-clause-held g c =
    (tagged (g.O.Objects.name_of c.args.objects.now) c.sound_if_told.ensures.namer (g.O.Objects.told c.args.objects.now) c.args.name.now c.object.result c.in_ok-object.object _ c.sound_if_told.ensures.sound c.requires.held c.in-Tag.is c.in_ok-object.ensures.object c.in_ok-decode_tag-in-Tag.ensures.found c.object.ensures).1
