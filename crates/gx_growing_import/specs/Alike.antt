-- What a repository and a small one of it tell alike. Source: gitrevisions(7), "Specifying Revisions".
use Rattle.std.specs.Prelude.{◌≡◌, List}
use Rattle.std.specs.List.{AllByRecursion}
use Rattle.std.specs.Map.{lookup}
use Rattle.gx_model.specs.declared.objects.Kind.{Kind}
use Rattle.gx_model.specs.Texts.{Bytes, same_bytes}
use Rattle.gx_model.specs.Histories.{Records}
use Rattle.gx_stand_ins.specs.SmallRepositories.{IsSameBase, IsSameRef, base_name, stand_name}
use Rattle.gx_stand_ins.specs.declared.bodies.TheConstants.{NONCE}
use Rattle.gx_asked.specs.Asking.{texts_of}
use Rattle.gx_asked.specs.declared.asked.Asked.{Asked}

-- both have the same as this ref, or neither has it
abbrev pub IsSameRefIn : List (Bytes × Bytes) → List (Bytes × Bytes) → Bytes → Type 0
IsSameRefIn whole small ref = lookup (same_bytes ref) small ≡ lookup (same_bytes ref) whole

-- and so of each of these
abbrev pub AreSameRefs : List (Bytes × Bytes) → List (Bytes × Bytes) → List Bytes → Type 0
AreSameRefs whole small refs = AllByRecursion (IsSameRefIn whole small) refs

-- the base of a revision gives an object of one name in both, or is refused alike
abbrev pub IsSameBaseName : (Kind → Bytes → Bytes) → Records → Records → Bytes → Type 0
IsSameBaseName name whole small base = base_name (stand_name NONCE name) small base ≡ base_name name whole base

-- both tell alike each branch that is set, and each base that is asked for
pub record AreAlike {A : Type 0} (name : Kind → Bytes → Bytes) (whole small : Records) (asked : Asked A) : Type 0 where
  pub branches : AllByRecursion (IsSameRef whole small) (texts_of asked.branches.keys)
  pub bases : AllByRecursion (IsSameBase name NONCE whole small) (texts_of asked.bases.keys)
