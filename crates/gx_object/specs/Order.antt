-- How the order of a tree's entries is tested: each against the next one, and a file against those after it whose
-- components begin with its own. In this order no other entry can have a file's component.
use Rattle.std.specs.Prelude.{◌≡◌, Bool, true, false, not, ◌&&◌, ◌||◌, ℕ, zero, suc, nat_eq, nat_lt, List, [], ◌∷◌, length, take, get_or}
use Rattle.std.specs.List.{starts_with}
use Rattle.std.specs.Ordering.{is_lt, nat_cmp}
use Rattle.std.specs.Cmp.Lexicographic.{slice_cmp}
use Rattle.gx_model.specs.Texts.{Bytes, same_bytes}
use Rattle.gx_model.specs.Texts.Paths.{is_component}
use Rattle.gx_model.specs.Objects.{Entry, entry_key, is_dir}

abbrev pub comes_before : Entry → Entry → Bool
comes_before e f = is_lt (slice_cmp nat_cmp (entry_key e) (entry_key f))

abbrev pub precedes : Entry → List Entry → Bool
precedes e [] = true
precedes e (f ∷ fs) = comes_before e f

-- one of the first entries, whose components begin with this one, has it
abbrev pub meets : Bytes → List Entry → Bool
meets c [] = false
meets c (f ∷ fs) = starts_with nat_eq f.component c && (same_bytes f.component c || meets c fs)

abbrev pub is_repeated : Entry → List Entry → Bool
is_repeated e es = not (is_dir e.mode) && meets e.component es

-- an entry is a file whose component the next one's begins with
abbrev pub is_kept : Entry → Entry → Bool
is_kept e f = not (is_dir e.mode) && starts_with nat_eq f.component e.component

-- a file whose component has fewer than 4,096 bytes is repeated
abbrev pub is_short : Entry → List Entry → Bool
is_short e es = nat_lt (length e.component) 4096 && is_repeated e es

-- and of one whose component has 4,096 bytes or more
abbrev pub is_long_repeated : Entry → List Entry → Bool
is_long_repeated e es = not (nat_lt (length e.component) 4096) && is_repeated e es

-- an entry is a file that the next one begins with, of a component that can be remembered
abbrev pub is_added : Entry → Entry → Bool
is_added e f = nat_lt (length e.component) 4096 && is_kept e f

-- the front of a component at a length is a file's, and the next component's front
abbrev pub is_left : List Bool → ℕ → Bytes → Bytes → Bool
is_left is_file n c next = get_or is_file n false && starts_with nat_eq next (take n c)

-- one of these has the component of an earlier file, that is the front of a component at a length below another
unfoldable pub meets_any : ℕ → List Bool → Bytes → List Entry → Bool
meets_any zero is_file c es = false
meets_any (suc n) is_file c es = (get_or is_file n false && meets (take n c) es) || meets_any n is_file c es

-- below two lengths stand fronts of a component that entries meet alike where the first of them has the next component
abbrev pub MeetsAlike : List Bool → Bytes → Bytes → ℕ → ℕ → Type 0
MeetsAlike is_file c next old new =
    (f : Entry) → f.component ≡ next → (fs : List Entry) → meets_any new is_file c (f ∷ fs) ≡ meets_any old is_file c (f ∷ fs)

-- an entry may stand before these
abbrev pub leads : Entry → List Entry → Bool
leads e es = is_component e.component && precedes e es && not (is_repeated e es)

unfoldable pub are_ordered : List Entry → Bool
are_ordered [] = true
are_ordered (e ∷ es) = leads e es && are_ordered es
