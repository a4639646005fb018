-- The text of a bundle: objects that its reader has, refs, and a pack. Source: gitformat-bundle(5).
use Rattle.std.specs.Prelude.{List, [], ◌∷◌, ◌++◌, codes}
use Rattle.std.specs.List.{flat_map}
use Rattle.gx_model.specs.Texts.{Bytes}
use Rattle.gx_model.specs.Objects.{hex, line}
use Rattle.gx_pack.specs.Packs.{Object, pack_text}

-- what a bundle tells: the names of objects that its reader has, refs with the names of what they hold, and objects
pub record Bundle : Type 0 where
  pub had : List Bytes
  pub refs : List (Bytes × Bytes)
  pub objects : List Object

-- the first line of a bundle of version 2
abbrev pub bundle_mark : Bytes
bundle_mark = codes "# v2 git bundle" ++ 10 ∷ []

-- the line of an object that the reader has, without a comment
abbrev pub had_line : Bytes → Bytes
had_line called = (45 ∷ hex called) ++ 32 ∷ 10 ∷ []

-- the line of a ref
abbrev pub held_line : Bytes × Bytes → Bytes
held_line ref = line (hex ref.1) ref.0

-- what stands before the pack: an empty line ends it
unfoldable pub bundle_head : List Bytes → List (Bytes × Bytes) → Bytes
bundle_head had refs = bundle_mark ++ (flat_map had_line had ++ (flat_map held_line refs ++ 10 ∷ []))

-- a bundle, whose pack's end is a digest
abbrev pub bundle_text : (Bytes → Bytes) → Bundle → Bytes
bundle_text digest bundle = bundle_head bundle.had bundle.refs ++ pack_text digest bundle.objects
