-- What lines want of refs that are known by lines, whatever commits there are. Source: git-push(1), "--force-with-lease".
use Rattle.std.specs.Prelude.{◌≡◌, true, ℕ, List, length, Ok, Option}
use Rattle.std.specs.List.{AllByRecursion, flat_map}
use Rattle.gx_model.specs.Histories.{Records}
use Rattle.gx_model.specs.Records.Publishing.{Ref}
use Rattle.gx_model.specs.Stores.StoreText.{stored_ref}
use Rattle.gx_model.specs.Texts.{Bytes}
use Rattle.gx_push.specs.declared.want.Fate.{Fate}
use Rattle.gx_push.specs.Forward.{may_be}
use Rattle.gx_push.specs.Pushes.{pushed}
use Rattle.gx_push.specs.Wants.{Wanted, wants_in}

-- a ref with this fate may become of what it was whatever it is then, in each repository
abbrev pub MayBeAny : Fate → Option Bytes → Type 0
MayBeAny fate old = (r : Records) (new : Option Bytes) → may_be r fate old new ≡ true

-- so may the one that is told of
abbrev pub IsFree : Wanted → Type 0
IsFree want = MayBeAny want.fate want.old

-- lines hold for refs, and each of these is free
pub record HoldLines (refs : List Ref) (lines : List Bytes) : Type 0 where
  pub wants : List Wanted
  pub wanted : wants_in refs lines ≡ Ok wants
  pub free : AllByRecursion IsFree wants

-- where an import makes refs of others, a push leaves the refs of these lines, so many
pub record Leaves (before made : List Ref) (wants : List Wanted) (lines : Bytes) (count : ℕ) : Type 0 where
  pub named : List Ref
  pub left : (r : Records) → r.refs ≡ made → pushed before r wants ≡ Ok named
  pub spelled : lines ≡ flat_map stored_ref named
  pub counted : count ≡ length named
