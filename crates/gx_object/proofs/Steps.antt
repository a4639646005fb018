-- Each entry is tested against the next one and those behind that.
use Rattle.std.proofs.Common.{◌≡◌, ℕ, Bool, true, false, not, List, [], ◌∷◌, length, refl, sym, ap}
use Rattle.std.specs.Prelude.{◌&&◌, ◌||◌, nat_eq, nat_lt}
use Rattle.std.specs.List.{starts_with}
use Rattle.gx_model.specs.Texts.{Bytes, same_bytes}
use Rattle.gx_model.specs.Texts.Paths.{is_component}
use Rattle.gx_model.specs.Objects.{Entry, is_dir}
use Rattle.gx_object.specs.Order.{are_ordered, comes_before, is_kept, is_short, leads, meets, meets_any}
use Rattle.std.proofs.lemmas.Bool.{false≢true}
use Rattle.gx_object.proofs.MetFiles.{meets_nothing}

-- the test of an entry before these, where these files stood before it
abbrev pub past : ℕ → List Bool → Entry → List Entry → Bool
past above is_file e es = are_ordered (e ∷ es) && not (meets_any above is_file e.component es)

-- ---- over a list of entries

pub past_first : (is_file : List Bool) (e : Entry) (es : List Entry) → past 0 is_file e es ≡ are_ordered (e ∷ es)
unfolding meets_any
past_first is_file e es = none (are_ordered (e ∷ es)) where
  none : (b : Bool) → (b && true) ≡ b
  none true = refl
  none false = refl

pub past_more : (above rest : ℕ) (old new : List Bool) (e f : Entry) (fs : List Entry)
    → (leads e (f ∷ fs) && not (meets_any above old e.component (f ∷ fs))) ≡ (true && not (meets_any rest new f.component fs))
    → past rest new f fs ≡ past above old e (f ∷ fs)
unfolding are_ordered
past_more above rest old new e f fs h = sym (joined (leads e (f ∷ fs)) (are_ordered (f ∷ fs)) _ _ h) where
  joined : (l o n m : Bool) → (l && m) ≡ (true && n) → ((l && o) && m) ≡ (o && n)
  joined true true n m h = h
  joined true false n m h = refl
  joined false true n m h = h
  joined false false n m h = refl

pub past_not : (above rest : ℕ) (old new : List Bool) (e f : Entry) (fs : List Entry)
    → (leads e (f ∷ fs) && not (meets_any above old e.component (f ∷ fs))) ≡ (false && not (meets_any rest new f.component fs))
    → past above old e (f ∷ fs) ≡ false
unfolding are_ordered
past_not above rest old new e f fs h = joined (leads e (f ∷ fs)) (are_ordered (f ∷ fs)) _ h where
  joined : (l o m : Bool) → (l && m) ≡ false → ((l && o) && m) ≡ false
  joined true true m h = h
  joined true false m h = refl
  joined false o m h = refl

pub past_end : (above : ℕ) (is_file : List Bool) (e : Entry) → past above is_file e [] ≡ is_component e.component
unfolding are_ordered
past_end above is_file e = rw (meets_nothing above is_file e.component) (alone (is_component e.component) (not (is_dir e.mode))) where
  alone : (b d : Bool) → ((((b && true) && not (d && false)) && true) && true) ≡ b
  alone true true = refl
  alone true false = refl
  alone false true = refl
  alone false false = refl

-- an entry that comes before the next one and doesn't begin it may stand there; what stood before it decides
pub past_apart : (e f : Entry) (fs : List Entry) (met later answer : Bool) → is_component e.component ≡ true → comes_before e f ≡ true → is_kept e f ≡ false
    → (is_short e (f ∷ fs) || met) ≡ (answer || later) → (leads e (f ∷ fs) && not met) ≡ (not answer && not later)
past_apart e f fs met later answer proper before other h =
    let alone = split (not (is_dir e.mode)) (starts_with nat_eq f.component e.component) (same_bytes f.component e.component || meets e.component fs) other in
    rw (proper, before, alone) (joined (nat_lt (length e.component) 4096) met later answer (rw alone at h))
  where
    split : (d s m : Bool) → (d && s) ≡ false → (d && (s && m)) ≡ false
    split true true m h = absurd (false≢true (sym h))
    split true false m h = refl
    split false s m h = refl

    joined : (b met later answer : Bool) → ((b && false) || met) ≡ (answer || later) → not met ≡ (not answer && not later)
    joined true met later true h = ap not h
    joined true met later false h = ap not h
    joined false met later true h = ap not h
    joined false met later false h = ap not h

-- ---- looking ahead

pub meets_not : (c : Bytes) (f : Entry) (fs : List Entry) → starts_with nat_eq f.component c ≡ false → meets c (f ∷ fs) ≡ false
meets_not c f fs h = rw h refl

pub meets_here : (c : Bytes) (f : Entry) (fs : List Entry) → starts_with nat_eq f.component c ≡ true → same_bytes f.component c ≡ true → meets c (f ∷ fs) ≡ true
meets_here c f fs h g = rw (h, g) refl

pub meets_later : (c : Bytes) (f : Entry) (fs : List Entry) → starts_with nat_eq f.component c ≡ true → same_bytes f.component c ≡ false → meets c (f ∷ fs) ≡ meets c fs
meets_later c f fs h g = rw (h, g) refl
