-- How much room the paths of file maps take.
use Rattle.std.proofs.Common.{◌≡◌, ◌≢◌, ℕ, ◌+◌, ◌<◌, ◌≤◌, max, ◌&&◌, T, nat_le, [], ◌∷◌, ◌++◌, length, inl, inr, refl, sym, ap, ◌∙◌, arith, length-append}
use Rattle.std.specs.List.{list_all, AllByRecursion}
use Rattle.std.proofs.lemmas.Bool.{le-leb, leb-true, lt-leb}
use Rattle.std.proofs.lemmas.Bool.Decides.{leb_tells}
use Rattle.gx_model.specs.Texts.{Bytes}
use Rattle.gx_model.specs.Texts.Paths.{Path, is_component, is_file_path, is_short, path_text}
use Rattle.gx_model.specs.Histories.Files.{FileMap, Leaf, are_file_paths}
use Rattle.gx_model.specs.Records.HistoryOf.{placed}
use Rattle.gx_model.proofs.Texts.PathTests.{first, is_true, second}
use Rattle.gx_repo.specs.Rooms.{room}

-- the room of two file maps together is the greater of theirs
pub room_append : (f g : FileMap Bytes) → room (f ++ g) ≡ max (room f) (room g)
room_append [] g = omega arith
room_append (e ∷ f) g = omega (arith, room_append f g)

-- a component before a path that has one adds its length and a slash
path_below : (c : Bytes) (p : Path) → p ≢ [] → length (path_text (c ∷ p)) ≡ length c + 1 + length (path_text p)
path_below c [] h = absurd (h refl)
path_below c (d ∷ p) h = omega (arith, length-append c (47 ∷ path_text (d ∷ p)))

-- each path has a component
abbrev pub AreBelow : FileMap Bytes → Type 0
AreBelow f = AllByRecursion (λ e. e.0 ≢ []) f

-- a component before the paths of a file and of those behind it
room_placed : (c : Bytes) (e : Path × Leaf Bytes) (f : FileMap Bytes) → AreBelow (e ∷ f) → room (placed c (e ∷ f)) ≡ 1 + length c + room (e ∷ f)
room_placed c e [] h = omega (arith, path_below c e.0 h.0)
room_placed c e (d ∷ f) h = omega (arith, path_below c e.0 h.0, room_placed c d f h.1)

-- a component before the paths of a file map that isn't empty adds its length and a slash
pub room_below : (c : Bytes) (f : FileMap Bytes) → f ≢ [] → AreBelow f → room (placed c f) ≡ 1 + length c + room f
room_below c [] n h = absurd (n refl)
room_below c (e ∷ f) n h = room_placed c e f h

-- the path of a file isn't the root
file_below : (p : Path) → T (is_file_path p) → p ≢ []
file_below [] h = absurd h
file_below (c ∷ p) h = λ e. absurd (cc)

-- the path of a file has a component
pub are_below : (f : FileMap Bytes) → T (are_file_paths f) → AreBelow f
are_below [] h = tt
are_below (e ∷ f) h = (file_below e.0 (first _ _ h), are_below f (second (is_file_path e.0) (are_file_paths f) h))

-- the path of a file has at most 4,095 bytes
file_short : (p : Path) → T (is_file_path p) → length (path_text p) ≤ 4095
file_short [] h = absurd h
file_short (c ∷ p) h = leb-true (length (path_text (c ∷ p))) 4095 (is_true _ (second (list_all is_component (c ∷ p)) (is_short (c ∷ p)) h))

-- the paths of files take at most 4,096 bytes, with a slash
pub room_within : (f : FileMap Bytes) → T (are_file_paths f) → room f ≤ 4096
room_within [] h = omega arith
room_within (e ∷ f) h = omega (arith, file_short e.0 (first _ _ h), room_within f (second (is_file_path e.0) (are_file_paths f) h))

-- a file map that isn't empty takes room
pub room_some : (f : FileMap Bytes) → f ≢ [] → 0 < room f
room_some [] n = absurd (n refl)
room_some (e ∷ f) n = omega arith

-- two bounds are one of the greater
least_two : (a b : ℕ) → (nat_le a 4095 && nat_le b 4096) ≡ nat_le (max (1 + a) b) 4096
least_two a b = elim (leb_tells a 4095) [
  | inl h ↦ elim (leb_tells b 4096) [
    | inl k ↦ rw (h.0, k.0) (sym (le-leb (max (1 + a) b) 4096 (omega (arith, h.1, k.1))))
    | inr k ↦ rw (h.0, k.0) (sym (lt-leb (max (1 + a) b) 4096 (omega (arith, h.1, k.1))))
  ]
  | inr h ↦ rw h.0 (sym (lt-leb (max (1 + a) b) 4096 (omega (arith, h.1))))
]

-- no path is too long just where the room is at most 4,096
pub short_by_room : (f : FileMap Bytes) → list_all (λ e. is_short e.0) f ≡ nat_le (room f) 4096
short_by_room [] = refl
short_by_room (e ∷ f) = ap (λ b. is_short e.0 && b) (short_by_room f) ∙ least_two (length (path_text e.0)) (room f)
