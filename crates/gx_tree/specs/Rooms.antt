-- How many bytes the paths of a directory's files have, and whether there is room for one more of its entries.
use Rattle.std.specs.Prelude.{◌≡◌, ◌<◌, ℕ, ◌+◌, ◌-◌, ◌^◌, max, min, Bool, nat_le, [], ◌∷◌, length, vec_capacity, vec_len}
use Rattle.std.specs.declared.vec.Vec.{Vec}
use Rattle.gx_model.specs.Histories.Files.{FileMap, Leaf}
use Rattle.gx_model.specs.Texts.{Bytes}
use Rattle.gx_model.specs.Texts.Paths.{Path, path_text}
use Rattle.gx_tree.specs.Nodes.{Kept, file, folder}
use Rattle.gx_tree.specs.declared.directory.Entry.{Entry}

-- whether a path has at most so many bytes
abbrev pub is_within : ℕ → Path × Leaf Bytes → Bool
is_within room e = nat_le (length (path_text e.0)) room

-- the bytes of the longest path, and none where there are no files
abbrev pub longest : FileMap Bytes → ℕ
longest [] = 0
longest (e ∷ f) = max (length (path_text e.0)) (longest f)

-- the bytes of the longest path at an entry: its component's, and for a directory a slash and those below it
abbrev pub kept_reach : Bytes × Kept → ℕ
kept_reach (c, file x) = length c
kept_reach (c, folder f) = length c + 1 + longest f

-- a number as far as it is counted
abbrev pub counted : ℕ → ℕ
counted n = min n (2 ^ 64 - 1)

-- the least number of bytes that no path exceeds, as far as it is counted
abbrev pub IsReach : ℕ → FileMap Bytes → Type 0
IsReach reach f = reach ≡ counted (longest f)

-- beside the rest, whose longest path has so many bytes, what reaches so far makes the reach of the old and of the new
pub record Beside (reach before after : ℕ) (f : FileMap Bytes) (part_old part_new rest : ℕ) : Type 0 where
  pub was : before ≡ counted part_old
  pub is : after ≡ counted part_new
  pub old : reach ≡ counted (max part_old rest)
  pub new : longest f ≡ max part_new rest

-- the reach of the files was another before that of a part of them became `after` in place of `before`
abbrev pub Changes : ℕ → ℕ → ℕ → FileMap Bytes → Type 0
Changes reach before after f = (part_old part_new rest : ℕ) × Beside reach before after f part_old part_new rest

-- one more entry needs no memory
abbrev pub HasRoom : {A : Type 0} → Vec (Entry A) A → Type 0
HasRoom v = vec_len v < vec_capacity v
