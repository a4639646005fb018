-- Worked rows of the refs that range words name. Each holds by computing.
use Rattle.std.specs.Prelude.{◌≡◌, true, false, codes, List, [], ◌∷◌, Option, Some, None, Ok, refl, replicate}
use Rattle.gx_model.specs.Records.Publishing.{Ref}
use Rattle.gx_model.specs.Revisions.{Revision, Between, Apart, AllParents, Alone, WithAncestors, WithoutAncestors, ancestor}
use Rattle.gx_model.specs.Texts.{Bytes}
use Rattle.gx_bundled.specs.Named.{told_refs}

abbrev ref : Bytes → Ref
ref name = (name, replicate 20 7)

-- a branch and a tag of one name, two branches, and HEAD
abbrev refs : List Ref
refs = ref (codes "HEAD") ∷ ref (codes "refs/heads/a") ∷ ref (codes "refs/heads/b") ∷ ref (codes "refs/tags/a") ∷ []

abbrev plain : Bytes → Revision
plain base = record { base = base; suffixes = []; path = None }

abbrev a : Revision
a = plain (codes "a")

abbrev b : Revision
b = plain (codes "b")

record ToldRows : Type 0 where
  -- a tag comes before a branch
  tag : told_refs false false (WithAncestors a ∷ []) refs ≡ ref (codes "refs/tags/a") ∷ []
  branch : told_refs false false (WithAncestors (plain (codes "heads/a")) ∷ []) refs ≡ ref (codes "refs/heads/a") ∷ []
  whole : told_refs false false (WithAncestors (plain (codes "refs/heads/b")) ∷ []) refs ≡ ref (codes "refs/heads/b") ∷ []
  -- the right side of a range is told, and the left one is excluded
  right : told_refs false false (Between a b ∷ []) refs ≡ ref (codes "refs/heads/b") ∷ []
  sides : told_refs false false (Apart b a ∷ []) refs ≡ ref (codes "refs/heads/b") ∷ ref (codes "refs/tags/a") ∷ []
  excluded : told_refs false false (WithoutAncestors a ∷ []) refs ≡ []
  parents : told_refs false false (AllParents a ∷ []) refs ≡ []
  alone : told_refs false false (Alone b ∷ []) refs ≡ ref (codes "refs/heads/b") ∷ []
  -- what a suffix follows is no ref, and so are an object's name and what no ref is called
  suffix : told_refs false false (WithAncestors (record { base = codes "b"; suffixes = ancestor 1 ∷ []; path = None }) ∷ []) refs ≡ []
  digits : told_refs false false (WithAncestors (plain (replicate 40 97)) ∷ []) (ref (replicate 40 97) ∷ []) ≡ []
  other : told_refs false false (WithAncestors (plain (codes "c")) ∷ []) refs ≡ []
  -- each ref once, in their order
  again : told_refs false false (WithAncestors b ∷ WithAncestors (plain (codes "HEAD")) ∷ WithAncestors b ∷ []) refs ≡ ref (codes "HEAD") ∷ ref (codes "refs/heads/b") ∷ []
  all : told_refs true false [] refs ≡ refs
  head : told_refs true true [] refs ≡ ref (codes "refs/heads/a") ∷ ref (codes "refs/heads/b") ∷ ref (codes "refs/tags/a") ∷ []

told_rows : ToldRows
told_rows = record {
  tag = refl;
  branch = refl;
  whole = refl;
  right = refl;
  sides = refl;
  excluded = refl;
  parents = refl;
  alone = refl;
  suffix = refl;
  digits = refl;
  other = refl;
  again = refl;
  all = refl;
  head = refl;
}
