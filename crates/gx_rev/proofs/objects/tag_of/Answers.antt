use Rattle.std.proofs.Common.{◌∙◌, sym, ap}
use Rattle.gx_model.specs.Records.HistoryOf.{value_of_name}
use Rattle.gx_model.proofs.Records.HeldValues.{got}
use Rattle.gx_rev.proofs.Bodies.{found_is, no_tag, other, tag_text_held}
use Rattle.gx_rev.proofs.objects.tag_of.Goals as goal

pub returns-in-Tag : goal.returns-in-Tag
returns-in-Tag g c =
    let name = g.N.Namer.name_of c.args.repo.now.0 in
    let namer = g.met.N.Namer.is_namer c.args.repo.now.0 in
    let r = c.args.repo.now.1 in
    let n = c.args.name.now.bytes in
    let o = got name namer r c.store.ensures.sound n (c.in-Some.kind, c.in-Some.body.now) c.requires (rw c.store.ensures.held at c.in-Some.ensures) in
    let t = tag_text_held name namer r c.store.ensures.sound n c.in-Some.body.now c.requires (sym (ap (λ p. p.0) o) ∙ c.in-Tag.is) (ap (λ p. p.1) o) in
    c.ok.ensures.value ∙ found_is c.decode_tag.result t.0 (c.decode_tag.ensures.only t.0 t.2) ∙ sym t.1

pub returns-in-Blob : goal.returns-in-Blob
returns-in-Blob g c =
    let name = g.N.Namer.name_of c.args.repo.now.0 in
    let namer = g.met.N.Namer.is_namer c.args.repo.now.0 in
    let r = c.args.repo.now.1 in
    let n = c.args.name.now.bytes in
    let o = got name namer r c.store.ensures.sound n (c.in-Some.kind, c.in-Some.body.now) c.requires (rw c.store.ensures.held at c.in-Some.ensures) in
    no_tag name (value_of_name r.records n) (λ e. other c.in-Some.kind c.in-Blob.is (ap (λ p. p.0) o ∙ e))
