-- Which branch is said to have the files of a commit at hand.
use Rattle.std.specs.Prelude.{◌≡◌, Option, Some, IfSome}
use Rattle.std.specs.Option.{option_map}
use Rattle.std.specs.BTreeMap.{get}
use Rattle.gx_model.specs.Texts.{Bytes, byte_cmp}
use Rattle.gx_object.specs.declared.name.Name.{Name}
use Rattle.gx_tree.specs.Named.{NamedTree}
use Rattle.gx_import.specs.declared.at_hand.AtHand.{AtHand}

-- the branch of a commit
abbrev pub branch_of : {A : Type 0} → AtHand A → Name → Option Bytes
branch_of at_hand commit = option_map (λ branch. branch.items) (get (λ x y. byte_cmp x.bytes y.bytes) at_hand.branches commit)

-- a branch that has files at hand is that of its commit
abbrev pub IsEntered : {A : Type 0} → AtHand A → Bytes → Option Name → Option NamedTree → Type 0
IsEntered at_hand branch commit files = IfSome commit (λ called. IfSome files (λ _. branch_of at_hand called ≡ Some branch))
