use Rattle.std.proofs.Common.{◌≡◌, [], Ok, refl, rules}
use Rattle.gx_model.specs.Texts.{Bytes}
use Rattle.gx_model.specs.Texts.Paths.{parts_of, path_of}
use Rattle.gx_text.proofs.path.TreePath.root.Goals as goal

is_root : (text : Bytes) → text ≡ [] → path_of text ≡ Ok (parts_of text)
is_root text e = rw e refl

pub invariant_of-result : goal.invariant_of-result
invariant_of-result g c = (is_root c.new.result.items c.new.ensures.items, rw c.new.ensures.items (search rules))
