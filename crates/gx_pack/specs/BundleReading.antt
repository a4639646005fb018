-- How a bundle is read, without a look at how one is written. Source: gitformat-bundle(5).
use Rattle.std.specs.Prelude.{ℕ, zero, suc, Bool, false, nat_eq, if◌then◌else◌, List, [], ◌∷◌, ◌++◌, length, drop, codes, Option, None, Some}
use Rattle.std.specs.Option.{option_map, option_and_then}
use Rattle.gx_model.specs.Texts.{Bytes, cut_at, same_bytes}
use Rattle.gx_model.specs.Objects.Naming.{lower_name_in}
use Rattle.gx_model.specs.Stores.StoreReading.{ref_line}
use Rattle.gx_pack.specs.Packs.{Object}
use Rattle.gx_pack.specs.PackReading.{front_at, pack_of}
use Rattle.gx_pack.specs.Bundles.{Bundle}

-- ---- objects that the reader has

-- whether a line begins with a dash
abbrev pub is_dashed : Bytes → Bool
is_dashed [] = false
is_dashed (b ∷ bs) = nat_eq b 45

-- the name in such a line: a space and a comment follow it
abbrev pub had_in : Bytes → Option Bytes
had_in line = option_and_then (λ parts. lower_name_in parts.0) (cut_at 32 (drop 1 line))

-- a name before others that are read
abbrev pub with_name : Bytes → List Bytes × Bytes → List Bytes × Bytes
with_name called others = (called ∷ others.0, others.1)

-- such a line, and what follows it
abbrev pub had_rest : (Bytes → Option (List Bytes × Bytes)) → Bytes × Bytes → Option (List Bytes × Bytes)
had_rest more parts = option_and_then (λ called. option_map (with_name called) (more parts.1)) (had_in parts.0)

-- the names in such lines at the front, at most n, and what follows them
unfoldable pub had_within : ℕ → Bytes → Option (List Bytes × Bytes)
had_within zero text = Some ([], text)
had_within (suc n) text = if is_dashed text then option_and_then (had_rest (had_within n)) (cut_at 10 text) else Some ([], text)

-- ---- refs

-- a ref before others that are read
abbrev pub with_ref : Bytes × Bytes → List (Bytes × Bytes) × Bytes → List (Bytes × Bytes) × Bytes
with_ref ref others = (ref ∷ others.0, others.1)

-- the line of a ref, and what follows it
abbrev pub ref_rest : (Bytes → Option (List (Bytes × Bytes) × Bytes)) → Bytes × Bytes → Option (List (Bytes × Bytes) × Bytes)
ref_rest more parts = option_and_then (λ ref. option_map (with_ref ref) (more parts.1)) (ref_line parts.0)

-- an empty line is the last one
abbrev pub line_rest : (Bytes → Option (List (Bytes × Bytes) × Bytes)) → Bytes × Bytes → Option (List (Bytes × Bytes) × Bytes)
line_rest more parts = if nat_eq (length parts.0) 0 then Some ([], parts.1) else ref_rest more parts

-- the refs in the lines up to an empty one, of which there are fewer than n, and what follows it
unfoldable pub refs_within : ℕ → Bytes → Option (List (Bytes × Bytes) × Bytes)
refs_within zero text = None
refs_within (suc n) text = option_and_then (line_rest (refs_within n)) (cut_at 10 text)

-- ---- bundles

-- what follows the first line
abbrev pub marked : Bytes × Bytes → Option Bytes
marked parts = if same_bytes parts.0 (codes "# v2 git bundle" ++ 10 ∷ []) then Some parts.1 else None

-- a bundle whose pack is read
abbrev pub with_objects : List Bytes → List (Bytes × Bytes) → List Object → Bundle
with_objects had refs objects = record { had = had; refs = refs; objects = objects }

-- a bundle whose refs are read
abbrev pub pack_rest : (Bytes → Bytes) → List Bytes → List (Bytes × Bytes) × Bytes → Option Bundle
pack_rest digest had parts = option_map (with_objects had parts.0) (pack_of digest parts.1)

-- a bundle, of which it is read what its reader has
abbrev pub refs_rest : (Bytes → Bytes) → List Bytes × Bytes → Option Bundle
refs_rest digest parts = option_and_then (pack_rest digest parts.0) (refs_within (length parts.1) parts.1)

-- what a bundle tells: its pack ends with a digest
unfoldable pub bundle_of : (Bytes → Bytes) → Bytes → Option Bundle
bundle_of digest text = option_and_then (λ lines. option_and_then (refs_rest digest) (had_within (length lines) lines)) (option_and_then marked (front_at 16 text))
