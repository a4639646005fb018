use Rattle.std.proofs.Common.{[], ◌∷◌, ◌++◌, subst, ◌∙◌}
use Rattle.gx_model.specs.Texts.{Bytes}
use Rattle.gx_pack.specs.Packs.{pack_head}
use Rattle.gx_pack.specs.Writing.{Writes}
use Rattle.gx_pack.proofs.pack.Pack.write_head.Goals as goal

pub returns : goal.returns
unfolding pack_head
returns g c =
    let output = c.self.inside.output in
    let now = c.write.new.self in
    let result = c.write.result in
    let head = λ (count : Bytes). 80 ∷ 65 ∷ 67 ∷ 75 ∷ 0 ∷ 0 ∷ 0 ∷ 2 ∷ (count ++ []) in
    let count = c.copy_from_slice.ensures.after ∙ c.to_be_bytes.ensures in
    let sent = subst (λ t. Writes output now (head t) result) count c.write.ensures in
    subst (λ v. Writes v now (pack_head c.args.count) result) c.self.view_is sent
