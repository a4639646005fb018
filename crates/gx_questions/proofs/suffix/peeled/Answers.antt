use Rattle.std.proofs.lemmas.Result.{err_from_is_err_and}
use Rattle.gx_model.specs.declared.objects.Kind.TheVariants as kinds
use Rattle.gx_questions.proofs.Found.{is_held}
use Rattle.gx_questions.proofs.Peeled.{tag_reads, tagged}
use Rattle.gx_questions.proofs.Suffixes.{peels_to}
use Rattle.gx_questions.proofs.suffix.peeled.Goals as goal

pub returns-in_err-decode_tag-in-Tag-clause-value : goal.returns-in_err-decode_tag-in-Tag-clause-value
returns-in_err-decode_tag-in-Tag-clause-value g c =
    let p = err_from_is_err_and c.from_residual-in_err-decode_tag-in-Tag.result c.from_residual-in_err-decode_tag-in-Tag.ensures.1 in
    rw (p.1, p.2) (tag_reads (g.O.Objects.name_of c.args.objects.now) c.sound_if_told.ensures.namer (g.O.Objects.told c.args.objects.now) c.args.name.now c.in_ok-object.object c.sound_if_told.ensures.sound c.requires.held c.in-Tag.is c.in_ok-object.ensures.object c.in_err-decode_tag-in-Tag.ensures.only)

pub returns-in_ok-decode_tag-in-Tag-clause-value : goal.returns-in_ok-decode_tag-in-Tag-clause-value
returns-in_ok-decode_tag-in-Tag-clause-value g c =
    peels_to (g.O.Objects.name_of c.args.objects.now) c.sound_if_told.ensures.namer (g.O.Objects.told c.args.objects.now) c.args.name.now c.object.result c.sound_if_told.ensures.sound (tagged (g.O.Objects.name_of c.args.objects.now) c.sound_if_told.ensures.namer (g.O.Objects.told c.args.objects.now) c.args.name.now c.object.result c.in_ok-object.object _ c.sound_if_told.ensures.sound c.requires.held c.in-Tag.is c.in_ok-object.ensures.object c.in_ok-decode_tag-in-Tag.ensures.found c.object.ensures)

pub returns-in_ok-decode_tag-in-Tag-clause-held : goal.returns-in_ok-decode_tag-in-Tag-clause-held
returns-in_ok-decode_tag-in-Tag-clause-held g c =
    is_held (g.O.Objects.name_of c.args.objects.now) c.sound_if_told.ensures.namer (g.O.Objects.told c.args.objects.now) kinds.Commit c.object.result c.sound_if_told.ensures.sound (tagged (g.O.Objects.name_of c.args.objects.now) c.sound_if_told.ensures.namer (g.O.Objects.told c.args.objects.now) c.args.name.now c.object.result c.in_ok-object.object _ c.sound_if_told.ensures.sound c.requires.held c.in-Tag.is c.in_ok-object.ensures.object c.in_ok-decode_tag-in-Tag.ensures.found c.object.ensures).1
