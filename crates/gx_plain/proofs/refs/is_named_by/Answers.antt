use Rattle.std.proofs.Common.{◌≡◌, subst}
use Rattle.std.proofs.lemmas.Result.{err_from_is_err_and}
use Rattle.gx_model.specs.declared.objects.Kind.TheVariants as kinds
use Rattle.gx_model.specs.Stores.StoreReading.{is_target_of_kind}
use Rattle.gx_model.specs.Texts.{Bytes}
use Rattle.gx_repo.specs.Refs.{HasTagParts}
use Rattle.gx_plain.specs.Records.{body_in}
use Rattle.gx_plain.proofs.NamedRecords.{tag_told, tag_unread}
use Rattle.gx_plain.proofs.refs.is_named_by.Goals as goal

pub returns-in_err-found : goal.returns-in_err-found
returns-in_err-found g c =
    let p = err_from_is_err_and c.from_residual.result c.from_residual.ensures.1 in
    rw (p.1, p.2) (tag_unread (g.N.Namer.name_of c.args.namer.now) c.args.version (g.S.ReadAt.text c.args.source.now) c.args.place c.args.name.now.bytes c.args.ref_name.now c.read_named.new.room.items c.in_err-found.field-0.0 c.in_err-found.ensures.record)

pub returns : goal.returns
returns g c =
    let found = c.in_ok-found.found in
    let answer = subst (λ (z : Bytes). HasTagParts kinds.Tag (body_in z found) → c.is_target.result ≡ is_target_of_kind c.args.ref_name.now kinds.Tag (body_in z found)) c.as_slice.ensures.value c.is_target.ensures in
    tag_told (g.N.Namer.name_of c.args.namer.now) c.args.version (g.S.ReadAt.text c.args.source.now) c.args.place c.args.name.now.bytes c.args.ref_name.now c.read_named.new.room.items found c.is_target.result c.in_ok-found.ensures.record answer
