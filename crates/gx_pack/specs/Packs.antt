-- The text of a pack whose objects aren't compressed. Source: gitformat-pack(5).
use Rattle.std.specs.Prelude.{ℕ, ◌+◌, ◌*◌, ◌/◌, ◌%◌, List, [], ◌∷◌, ◌++◌, length, reverse, codes}
use Rattle.std.specs.Int.{w32, to_be_bytes}
use Rattle.std.specs.Int.Digits.{digits_of}
use Rattle.std.specs.List.{flat_map}
use Rattle.gx_model.specs.declared.objects.Kind.{Kind}
use Rattle.gx_model.specs.declared.objects.Kind.TheVariants.{Blob, Tree, Commit, Tag}
use Rattle.gx_model.specs.Texts.{Bytes}
use Rattle.gx_pack.specs.Zlib.{stored_text}

-- an object: its kind and its body
abbrev pub Object : Type 0
Object = Kind × Bytes

-- the type of an entry
abbrev pub type_of : Kind → ℕ
type_of Commit = 1
type_of Tree = 2
type_of Blob = 3
type_of Tag = 4

-- numbers below 128, each but the last with the highest bit set
abbrev pub chained : List ℕ → Bytes
chained [] = []
chained (n ∷ []) = n ∷ []
chained (n ∷ m ∷ ms) = (128 + n) ∷ chained (m ∷ ms)

-- the digits of a number in base 128, the lowest first
abbrev pub sevens : ℕ → List ℕ
sevens n = reverse (digits_of 128 n)

-- the type and the length of an entry: the four lowest bits of the length stand in the first byte
unfoldable pub entry_head : Kind → ℕ → Bytes
entry_head kind size = chained ((16 * type_of kind + size % 16) ∷ sevens (size / 16))

-- an entry: its head, and its body in the zlib format
unfoldable pub entry_text : Object → Bytes
entry_text object = entry_head object.0 (length object.1) ++ stored_text object.1

-- the head of a pack: its mark, its version, and how many entries it has
unfoldable pub pack_head : ℕ → Bytes
pack_head count = codes "PACK" ++ to_be_bytes w32 2 ++ to_be_bytes w32 count

-- all of a pack but its digest
abbrev pub pack_front : List Object → Bytes
pack_front objects = pack_head (length objects) ++ flat_map entry_text objects

-- a pack: the digest of what stands before it is its end
abbrev pub pack_text : (Bytes → Bytes) → List Object → Bytes
pack_text digest objects = pack_front objects ++ digest (pack_front objects)
