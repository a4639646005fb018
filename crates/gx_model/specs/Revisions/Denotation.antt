-- What a revision gives in a history. Source: gitrevisions(7).
use Rattle.std.specs.Prelude.{ℕ, zero, suc, Bool, ◌&&◌, nat_lt, nat_le, if◌then◌else◌, List, [], ◌∷◌, ◌++◌, map, length, Option, None, Some, codes}
use Rattle.std.specs.declared.result.Result.{Result}
use Rattle.std.specs.declared.result.Result.TheVariants.{Ok, Err}
use Rattle.std.specs.List.{list_all, filter, slice_get, starts_with}
use Rattle.std.specs.Map.{lookup}
use Rattle.std.specs.Option.{ok_or, option_or}
use Rattle.gx_model.specs.declared.objects.Kind.{Kind}
use Rattle.gx_model.specs.declared.objects.Mode.{Mode}
use Rattle.gx_model.specs.declared.objects.Mode.TheVariants.{Gitlink}
use Rattle.gx_model.specs.declared.faults.Fault.{Fault}
use Rattle.gx_model.specs.declared.faults.Fault.TheVariants as fault
use Rattle.std.specs.Bool.{nat_eq}
use Rattle.gx_model.specs.Texts.{Bytes, same_bytes}
use Rattle.gx_model.specs.Texts.Digits.{is_any_digit, lower}
use Rattle.gx_model.specs.Faults.{◌>>=◌}
use Rattle.gx_model.specs.Texts.Paths.{Path}
use Rattle.gx_model.specs.Revisions.{Revision, Suffix, parent, ancestor, peeled, itself, as_commit, as_blob, as_tree, as_tag}
use Rattle.gx_model.specs.Histories.Files.{FileMap, Leaf, file_at, sub_map}
use Rattle.gx_model.specs.Histories.Values.{Commit, Value, blob_value, commit_value, files_of, list_of, parents_of, tag_value, tree_value}
use Rattle.gx_model.specs.Objects.{hex}
use Rattle.gx_model.specs.Records.{name_of}
use Rattle.gx_model.specs.Histories.{History, Target, value_at}

-- ---- refs

-- the six names that a word may stand for, in order
abbrev pub ref_names : Bytes → List Bytes
ref_names n =
    n ∷ (codes "refs/" ++ n) ∷ (codes "refs/tags/" ++ n) ∷ (codes "refs/heads/" ++ n) ∷ (codes "refs/remotes/" ++ n)
    ∷ (codes "refs/remotes/" ++ n ++ codes "/HEAD") ∷ []

-- what a ref holds
abbrev pub ref_at : History → Bytes → Option Target
ref_at h n = lookup (same_bytes n) h.refs

-- what the first of these names that is a ref holds
abbrev pub first_ref : History → List Bytes → Option Target
first_ref h [] = None
first_ref h (n ∷ ns) = option_or (ref_at h n) (first_ref h ns)

-- what the word holds, by the six names
abbrev pub find_ref : History → Bytes → Option Target
find_ref h n = first_ref h (ref_names n)

-- ---- digits

-- a name's digits begin with these
abbrev pub begins_with_digits : Bytes → Bytes → Bool
begins_with_digits digits n = starts_with nat_eq (hex n) (map lower digits)

module _ (name : Kind → Bytes → Bytes) where
  -- the values whose name begins with these digits
  abbrev pub begun_by : History → Bytes → List Value
  begun_by h digits = filter (λ v. begins_with_digits digits (name_of name v)) h.values

  -- the only value, or why there is none
  abbrev pub the_one : List Value → Result Value Fault
  the_one [] = Err fault.UnknownRef
  the_one (v ∷ []) = Ok v
  the_one (v ∷ w ∷ vs) = Err fault.Ambiguous

  -- the value of a whole name
  abbrev pub full_name : List Value → Result Value Fault
  full_name [] = Err fault.UnknownObject
  full_name (v ∷ vs) = Ok v

  -- hexadecimal digits alone
  abbrev pub are_digits : Bytes → Bool
  are_digits x = list_all is_any_digit x

  -- what the base of a revision gives
  abbrev pub base_value : History → Bytes → Result Value Fault
  base_value h x =
      if are_digits x && nat_eq (length x) 40 then full_name (begun_by h x)
      else elim (find_ref h x) [
        | Some t ↦ Ok (value_at t)
        | None ↦ if are_digits x && nat_le 4 (length x) && nat_lt (length x) 40 then the_one (begun_by h x) else Err fault.UnknownRef
      ]

-- ---- suffixes

-- a tag's commit, and any other value itself
abbrev pub peel : Value → Value
peel (tag_value t) = commit_value t.target
peel v = v

-- the commit of a commit or of a tag
abbrev pub commit_in : Value → Result Commit Fault
commit_in (commit_value c) = Ok c
commit_in (tag_value t) = Ok t.target
commit_in _ = Err fault.WrongKind

-- the file map of a tree, a commit or a tag
abbrev pub files_in : Value → Result (FileMap Bytes) Fault
files_in (blob_value x) = Err fault.WrongKind
files_in (tree_value f) = Ok f
files_in (commit_value c) = Ok (files_of c)
files_in (tag_value t) = Ok (files_of t.target)

-- ^0 is the commit
abbrev pub nth_parent : ℕ → Commit → Result Commit Fault
nth_parent zero c = Ok c
nth_parent (suc n) c = ok_or (slice_get (list_of (parents_of c)) n) fault.NoParent

-- n first parents up
abbrev pub nth_ancestor : ℕ → Commit → Result Commit Fault
nth_ancestor zero c = Ok c
nth_ancestor (suc n) c = nth_parent 1 c >>= nth_ancestor n

-- a commit, and no other value
abbrev pub only_commit : Value → Result Value Fault
only_commit (commit_value c) = Ok (commit_value c)
only_commit _ = Err fault.WrongKind

-- bytes, and no other value
abbrev pub only_blob : Value → Result Value Fault
only_blob (blob_value x) = Ok (blob_value x)
only_blob _ = Err fault.WrongKind

-- a tag, and no other value
abbrev pub only_tag : Value → Result Value Fault
only_tag (tag_value t) = Ok (tag_value t)
only_tag _ = Err fault.WrongKind

-- what a suffix gives
abbrev pub suffixed : Value → Suffix → Result Value Fault
suffixed v (parent n) = commit_in v >>= λ c. nth_parent n c >>= λ d. Ok (commit_value d)
suffixed v (ancestor n) = commit_in v >>= λ c. nth_ancestor n c >>= λ d. Ok (commit_value d)
suffixed v peeled = Ok (peel v)
suffixed v itself = Ok v
suffixed v as_commit = only_commit (peel v)
suffixed v as_blob = only_blob (peel v)
suffixed v as_tree = files_in v >>= λ f. Ok (tree_value f)
suffixed v as_tag = only_tag v

-- what suffixes give, from left to right
abbrev pub all_suffixed : Value → List Suffix → Result Value Fault
all_suffixed v [] = Ok v
all_suffixed v (s ∷ ss) = suffixed v s >>= λ w. all_suffixed w ss

-- ---- what is shown

-- what a revision shows: a value, or a submodule's digits
pub data Shown : Type 0 where
  object : Value → Shown
  -- a gitlink's digits
  submodule : Bytes → Shown

-- what a file shows
abbrev pub of_leaf : Mode → Bytes → Shown
of_leaf Gitlink x = submodule x
of_leaf _ x = object (blob_value x)

-- what a directory shows, where a file is below it
abbrev pub of_sub_map : FileMap Bytes → Result Shown Fault
of_sub_map [] = Err fault.NoSuchPath
of_sub_map (e ∷ es) = Ok (object (tree_value (e ∷ es)))

-- the file at p in the whole map, or the sub-map at p where it isn't empty; the root is the whole map
abbrev pub at_path : FileMap Bytes → Path → Result Shown Fault
at_path f [] = Ok (object (tree_value f))
at_path f (c ∷ p) = elim (file_at f (c ∷ p)) [ Some x ↦ Ok (of_leaf x.0 x.1) | None ↦ of_sub_map (sub_map f (c ∷ p)) ]

-- what a path behind the `:` shows
abbrev pub shown_at : Value → Option Path → Result Shown Fault
shown_at v None = Ok (object v)
shown_at v (Some p) = files_in v >>= λ f. at_path f p

-- what a revision gives in a history
unfoldable pub denoted : (Kind → Bytes → Bytes) → History → Revision → Result Shown Fault
denoted name h r = base_value name h r.base >>= λ v. all_suffixed v r.suffixes >>= λ w. shown_at w r.path

-- the mode and bytes of a file
abbrev pub of_file : Option (Leaf Bytes) → FileMap Bytes → Result (Leaf Bytes) Fault
of_file (Some x) g = Ok x
of_file None [] = Err fault.NoSuchPath
of_file None (e ∷ es) = Err fault.WrongKind

-- the mode and bytes of a file at a path
abbrev pub file_shown : FileMap Bytes → Path → Result (Leaf Bytes) Fault
file_shown f [] = Err fault.WrongKind
file_shown f (c ∷ p) = of_file (file_at f (c ∷ p)) (sub_map f (c ∷ p))

-- ---- what is asked of a revision

-- the value that is shown; a submodule is WrongKind
abbrev pub shown_value : Shown → Result Value Fault
shown_value (object v) = Ok v
shown_value (submodule x) = Err fault.WrongKind

-- the value of a revision, which is no submodule
abbrev pub value_denoted : (Kind → Bytes → Bytes) → History → Revision → Result Value Fault
value_denoted name h r = denoted name h r >>= shown_value

-- the commit of a revision, after peeling
abbrev pub commit_denoted : (Kind → Bytes → Bytes) → History → Revision → Result Commit Fault
commit_denoted name h r = value_denoted name h r >>= commit_in

-- the mode and bytes of the file at a path in a revision's tree
unfoldable pub looked_up : (Kind → Bytes → Bytes) → History → Revision → Path → Result (Leaf Bytes) Fault
looked_up name h r p = (value_denoted name h r >>= λ v. files_in v >>= λ f. file_shown f p)
