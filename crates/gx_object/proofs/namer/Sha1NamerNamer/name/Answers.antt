use Rattle.std.proofs.Common.{◌≡◌, ℕ, List, [], ◌∷◌, ◌++◌, length, decimal, ap, ◌∙◌, append_assoc}
use Rattle.sha1.specs.Sha1.{sha1}
use Rattle.gx_model.specs.Objects.Naming.{kind_word, record_text}
use Rattle.gx_model.specs.declared.objects.Kind.{Kind}
use Rattle.gx_object.proofs.namer.Sha1NamerNamer.name.Goals as goal

joined : (kind : Kind) (body word digits : List ℕ) → word ≡ kind_word kind → digits ≡ decimal (length body)
    → (((word ++ 32 ∷ []) ++ digits) ++ 0 ∷ []) ++ body ≡ record_text kind body
unfolding record_text
joined kind body word digits e f = rw (e, f) (simp append_assoc)

pub returns : goal.returns
returns c =
    let first = c.update.ensures [] c.new-hasher.ensures in
    let second = c.update-2.ensures _ first in
    let third = c.update-3.ensures _ second in
    let fourth = c.update-4.ensures _ third in
    let fifth = c.update-5.ensures _ fourth in
    let word = c.as_bytes.ensures.value ∙ c.word.ensures in
    let digits = c.as_bytes-2.ensures.value ∙ c.format.ensures.text in
    c.finalize.ensures _ fifth ∙ ap sha1 (joined c.args.kind c.args.body.now _ _ word digits)
