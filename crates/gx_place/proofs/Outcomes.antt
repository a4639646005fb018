-- The calls of an outcome, one after another.
use Rattle.std.proofs.Common.{◌≡◌, ℕ, Bool, true, false, not, ◌&&◌, nat_eq, List, [], ◌∷◌, ◌++◌, Option, Some, None, Result, Ok, Err, refl, subst, sym}
use Rattle.std.proofs.lemmas.Bool.{eqb-true, eq-eqb, true≢false, false≢true}
use Rattle.std.specs.declared.io.Error.{Error}
use Rattle.gx_place.specs.declared.fault.PlaceFault.{PlaceFault}
use Rattle.gx_place.specs.declared.fault.PlaceFault.TheVariants.{Exists, Changed, Unread, Unwritten, Unlocked, Overtaken, LongName, OutOfMemory}
use Rattle.gx_place.specs.declared.look.Identity.{Identity}
use Rattle.gx_place.specs.declared.look.Look.{Look}
use Rattle.gx_place.specs.Calls.{Text, Call, LookedAtName, LookedAt, Makes, Made, IsNamed}
use Rattle.gx_place.specs.Putting.{Files, IsSame, Wants, Puts, exists, changed, unseen, seen_by}

-- just these calls
abbrev pub MadeAll : List Call → Option (List Call) → Option (List Call) → Type 0
MadeAll calls = Made (λ made. made ≡ calls)

-- the first call
pub first_call : (call : Call) (old new : Option (List Call)) → Makes call old new → MadeAll (call ∷ []) old new
first_call call None new m = m
first_call call (Some old) new m = (call ∷ [], m, refl)

-- a further call
pub then_call : (call : Call) (calls : List Call) (old mid new : Option (List Call)) → MadeAll calls old mid → Makes call mid new → MadeAll (call ∷ calls) old new
then_call call calls None mid new m k = subst (λ x. Makes call x new) m k
then_call call calls (Some old) mid new m k =
    (call ∷ calls, subst (λ made. new ≡ Some (call ∷ made ++ old)) m.2 (subst (λ x. Makes call x new) m.1 k), refl)

-- what holds of these calls
pub as_calls : (P : List Call → Type 0) (calls : List Call) (old new : Option (List Call)) → MadeAll calls old new → P calls → Made P old new
as_calls P calls None new m p = m
as_calls P calls (Some old) new m p = (m.0, m.1, subst P (sym m.2) p)

-- ---- looks

both_true : (a b : Bool) → not (a && b) ≡ false → (a ≡ true) × (b ≡ true)
both_true true true h = (refl, refl)
both_true true false h = elim (true≢false h) [ ]
both_true false true h = elim (true≢false h) [ ]
both_true false false h = elim (true≢false h) [ ]

same_parts : (a b : Identity) → a.device ≡ b.device → a.inode ≡ b.inode → a ≡ b
same_parts a b d i =
    subst (λ (x : ℕ). a ≡ (record { device = x; inode = b.inode })) d (subst (λ (y : ℕ). a ≡ (record { device = a.device; inode = y })) i refl)

-- two looks at one file
pub same_file : (a b : Identity) → not (nat_eq a.device b.device && nat_eq a.inode b.inode) ≡ false → a ≡ b
same_file a b h = let e = both_true _ _ h in same_parts a b (eqb-true a.device b.device e.0) (eqb-true a.inode b.inode e.1)

pub same_found : (a b : Identity) → (nat_eq a.device b.device && nat_eq a.inode b.inode) ≡ true → a ≡ b
same_found a b h = same_file a b (rw h refl)

-- two looks at two
pub other_file : (a b : Identity) → not (nat_eq a.device b.device && nat_eq a.inode b.inode) ≡ true → a ≡ b → ⊥
other_file a b h e =
    false≢true (rw (subst (λ (x : Identity). nat_eq a.device x.device ≡ true) e (eq-eqb a.device a.device refl), subst (λ (x : Identity). nat_eq a.inode x.inode ≡ true) e (eq-eqb a.inode a.inode refl)) at h)

-- a look at a name, and one at a file
pub found_named : (path : Text) (file : ℕ) (named now : Look) (old mid new : Option (List Call)) → Makes (LookedAtName path (Ok named)) old mid → Makes (LookedAt file (Ok now)) mid new
    → IsSame named now → IsNamed new path file
found_named path file named now None mid new m k s = rw (subst (λ x. Makes (LookedAt file (Ok now)) x new) m k) tt
found_named path file named now (Some old) mid new m k s =
    rw (subst (λ x. Makes (LookedAt file (Ok now)) x new) m k) (record { named = named; now = now; before = old; newest = refl; same = s })

-- ---- what isn't expected

pub refused : (f : Files) (named now : Look) (seen : Result Look Error) (fault : PlaceFault) → IsSame named now → Wants f.expected seen (Err fault)
    → Puts f (Err fault) (seen_by f named now seen)
refused f named now (Ok look) Exists s w = exists s w
refused f named now (Ok look) Changed s w = changed s w.1 w.2
refused f named now (Ok look) (Unread error) s w = elim w [ ]
refused f named now (Ok look) (Unwritten subject error) s w = elim w [ ]
refused f named now (Ok look) (Unlocked error) s w = elim w [ ]
refused f named now (Ok look) Overtaken s w = elim w [ ]
refused f named now (Ok look) LongName s w = elim w [ ]
refused f named now (Ok look) OutOfMemory s w = elim w [ ]
refused f named now (Err error) fault s w = subst (λ (x : PlaceFault). Puts f (Err x) (seen_by f named now (Err error))) (sym w) (unseen s)
