-- A disk by the calls that were done: what is read, and what a stop of the machine may leave.
use Rattle.std.specs.Prelude.{◌≡◌, ℕ, ◌≤◌, List, [], ◌∷◌, ◌++◌, length, take, ⊤}
use Rattle.std.proofs.Common.{sym, subst, arith}
use Rattle.std.proofs.Math.Seq.{take-length}
use Rattle.std.proofs.lemmas.List.{take_all}
use Rattle.gx_model.specs.Texts.{Bytes}
use Rattle.gx_append.specs.Devices.{Cut, Torn, written_at}
use Rattle.gx_disk.specs.declared.call.Call.{Call}
use Rattle.gx_disk.specs.declared.call.Call.TheVariants.{Wrote, CutOff, Synced}

-- what is read, what the last sync made durable, and the writes and cuts since, of which the last comes first
pub record State (A : Type 0) : Type 0 where
  pub text : Bytes
  pub durable : Bytes
  pub since : List (Call A)

module _ {A : Type 0} where
  -- a text that is durable
  abbrev pub begun : Bytes → State A
  begun first = record { text = first; durable = first; since = [] }

  abbrev pub after : State A → Call A → State A
  after s (Wrote at bytes) = record { text = written_at at bytes.items s.text; durable = s.durable; since = Wrote at bytes ∷ s.since }
  after s (CutOff at) = record { text = take at s.text; durable = s.durable; since = CutOff at ∷ s.since }
  after s Synced = record { text = s.text; durable = s.text; since = [] }

  -- after these calls, the first of them first
  abbrev pub replayed : State A → List (Call A) → State A
  replayed s [] = s
  replayed s (call ∷ calls) = replayed (after s call) calls

  -- what a stop may make of a text by a write or a cut: nothing, a part of it, all of it, or any bytes in the range of a write
  abbrev pub Does : Call A → Bytes → Bytes → Type 0
  Does (Wrote at bytes) old new = Torn at (length bytes.items) old new
  Does (CutOff at) old new = Cut at old new
  Does Synced old new = new ≡ old

  -- what is left of a text by a stop, once these writes and cuts were done and not synced
  abbrev pub IsLeftOf : Bytes → List (Call A) → Bytes → Type 0
  IsLeftOf durable [] c = c ≡ durable
  IsLeftOf durable (call ∷ earlier) c = (d : Bytes) × IsLeftOf durable earlier d × Does call d c

  -- what a stop may leave now
  abbrev pub MayLeave : State A → Bytes → Type 0
  MayLeave s c = IsLeftOf s.durable s.since c

  -- what a stop might have left after so many calls, or more
  abbrev pub LeftSince : Bytes → List (Call A) → ℕ → Bytes → Type 0
  LeftSince first calls t c = (k : ℕ) × (t ≤ k) × (k ≤ length calls) × MayLeave (replayed (begun first) (take k calls)) c

  -- this moment is one of those from an earlier one on
  pub counts_now : (first : Bytes) (calls : List (Call A)) (t : ℕ) (c : Bytes) → t ≤ length calls → MayLeave (replayed (begun first) calls) c → LeftSince first calls t c
  counts_now first calls t c le left = (length calls, le, omega arith, subst (λ l. MayLeave (replayed (begun first) l) c) (sym (take-length calls)) left)

  -- from this moment on there is no other yet
  pub only_now : (first : Bytes) (calls : List (Call A)) (c : Bytes) → LeftSince first calls (length calls) c → MayLeave (replayed (begun first) calls) c
  only_now first calls c (k, le, within, left) = subst (λ l. MayLeave (replayed (begun first) l) c) (take_all k calls le) left

  -- ---- what the methods do

  -- one call more was done, of which this holds
  pub record Noted (P : Call A → Type 0) (old new : List (Call A)) : Type 0 where
    pub call : Call A
    pub is : P call
    pub noted : new ≡ old ++ call ∷ []

  -- a front of these bytes was written at a place
  abbrev pub IsFront : ℕ → Bytes → Call A → Type 0
  IsFront at bytes (Wrote place done) = (place ≡ at) × ((count : ℕ) × (done.items ≡ take count bytes))
  IsFront at bytes _ = ⊥

  -- all of them were
  abbrev pub IsWrite : ℕ → Bytes → Call A → Type 0
  IsWrite at bytes (Wrote place done) = (place ≡ at) × (done.items ≡ bytes)
  IsWrite at bytes _ = ⊥

  abbrev pub IsCut : ℕ → Call A → Type 0
  IsCut at (CutOff place) = place ≡ at
  IsCut at _ = ⊥

  abbrev pub IsSync : Call A → Type 0
  IsSync Synced = ⊤
  IsSync _ = ⊥

  -- a text that is read turns into another by a call
  abbrev pub Turns : Call A → Bytes → Bytes → Type 0
  Turns (Wrote at bytes) text new = new ≡ written_at at bytes.items text
  Turns (CutOff at) text new = new ≡ take at text
  Turns Synced text new = new ≡ text

  -- what a stop may leave comes of what it might have left before, or of a text that is synced
  abbrev pub Comes : Call A → Bytes → Bytes → Bytes → Type 0
  Comes (Wrote at bytes) text left new = Torn at (length bytes.items) left new
  Comes (CutOff at) text left new = Cut at left new
  Comes Synced text left new = new ≡ text
