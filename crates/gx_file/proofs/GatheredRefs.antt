-- Refs that are gathered one by one.
use Rattle.std.proofs.Common.{◌≡◌, ℕ, suc, ◌+◌, ◌-◌, ◌<◌, ◌≤◌, true, false, cond, List, [], ◌∷◌, ◌++◌, Option, Some, None, Ok, Err, refl, sym, ap, subst, ◌∙◌, arith, append_assoc, append-nil}
use Rattle.std.specs.Borrow.{Bor}
use Rattle.gx_model.specs.declared.store_faults.FileFault.TheVariants as model
use Rattle.gx_model.specs.Texts.{Bytes}
use Rattle.gx_model.specs.Stores.StoreReading.{Stored, is_after}
use Rattle.gx_model.specs.Records.Publishing.{Ref}
use Rattle.gx_model.specs.declared.store_faults.FileFault.{FileFault}
use Rattle.gx_model.specs.declared.store_faults.FileFault.TheVariants.{OutOfMemory, RefOrder}
use Rattle.gx_lines.specs.Reads.{IsFaultOf}
use Rattle.gx_file.specs.Gathering.{Gathered, Gathers, before, first_ref, gathered, gathered_from}

-- these refs were gathered, and what the rest of the text has follows them
pub record AreGathered (given : Gathered) (refs : List Ref) (n : ℕ) (last : Option Bytes) (text : Bytes) : Type 0 where
  pub listed : given.0 ≡ refs ++ (gathered n last text).0
  pub ended : given.1 ≡ (gathered n last text).1

-- Before the first ref, none was gathered.
pub none_gathered : (n : ℕ) (last : Option Bytes) (text : Bytes) → AreGathered (gathered n last text) [] n last text
none_gathered n last text = record { listed = refl; ended = refl }

-- What is gathered begins with what the first line has.
pub first_gathered : (n : ℕ) (last : Option Bytes) (text : Bytes) (first : Stored (Ref × Bytes)) → first_ref text ≡ first
    → gathered (suc n) last text ≡ gathered_from last first (λ ref rest. gathered n ref rest)
unfolding gathered
first_gathered n last text first e = ap (λ r. gathered_from last r (λ ref rest. gathered n ref rest)) e

-- Nothing follows the last ref.
pub no_more : (last : Option Bytes) (text : Bytes) → gathered 0 last text ≡ ([], Ok text)
unfolding gathered
no_more last text = refl

module _ (given : Gathered) (refs : List Ref) (n k : ℕ) (last : Option Bytes) (text : Bytes) (so_far : AreGathered given refs (n - k) last text) where
  -- What is left begins with what the first line has.
  here : (first : Stored (Ref × Bytes)) → k < n → first_ref text ≡ first → gathered (n - k) last text ≡ gathered_from last first (λ ref rest. gathered (n - (k + 1)) ref rest)
  here first lt e =
      let more : n - k ≡ suc (n - (k + 1)) = omega arith in
      ap (λ m. gathered m last text) more ∙ first_gathered (n - (k + 1)) last text first e

  -- A ref in order is gathered.
  pub one_gathered : (ref : Ref) (rest : Bytes) → k < n → first_ref text ≡ Ok (ref, rest) → is_after last ref.0 ≡ true → AreGathered given (refs ++ ref ∷ []) (n - (k + 1)) (Some ref.0) rest
  one_gathered ref rest lt e after =
      let others = gathered (n - (k + 1)) (Some ref.0) rest in
      let now = here (Ok (ref, rest)) lt e ∙ ap (λ b. cond b (before ref others) (ref ∷ [], Err model.RefOrder)) after in
      record {
        listed = so_far.listed ∙ ap (λ g. refs ++ g.0) now ∙ sym (append_assoc refs (ref ∷ []) others.0);
        ended = so_far.ended ∙ ap (λ g. g.1) now;
      }

  -- A ref out of order is the last.
  pub one_disordered : (ref : Ref) (rest : Bytes) → k < n → first_ref text ≡ Ok (ref, rest) → is_after last ref.0 ≡ false → Gathers given (refs ++ ref ∷ []) (Err RefOrder)
  one_disordered ref rest lt e after =
      let others = gathered (n - (k + 1)) (Some ref.0) rest in
      let now = here (Ok (ref, rest)) lt e ∙ ap (λ b. cond b (before ref others) (ref ∷ [], Err model.RefOrder)) after in
      (so_far.listed ∙ ap (λ g. refs ++ g.0) now, so_far.ended ∙ ap (λ g. g.1) now)

  -- Where memory runs out, what was gathered is a front.
  pub none_more : Gathers given refs (Err OutOfMemory)
  none_more = ((gathered (n - k) last text).0, so_far.listed)

  -- A line that isn't as written ends the refs.
  pub one_refused : (fault : FileFault) → k < n → IsFaultOf fault (first_ref text) → Gathers given refs (Err fault)
  one_refused OutOfMemory lt h = none_more
  one_refused _ lt h =
      let now = here _ lt h in
      (so_far.listed ∙ ap (λ g. refs ++ g.0) now ∙ append-nil refs, so_far.ended ∙ ap (λ g. g.1) now)

  -- After the last one, they are gathered.
  pub all_gathered : (rest : Bor Bytes) → rest.now ≡ text → n ≤ k → Gathers given refs (Ok rest)
  all_gathered rest e le =
      let none : n - k ≡ 0 = omega arith in
      let now = ap (λ m. gathered m last text) none ∙ no_more last text in
      (so_far.listed ∙ ap (λ g. refs ++ g.0) now ∙ append-nil refs, so_far.ended ∙ ap (λ g. g.1) now ∙ ap Ok (sym e))

module _ (whole : Bytes) (k : ℕ) (refs : List Ref) (last : Option Bytes) (text : Bytes) (ahead : (m : ℕ) → AreGathered (gathered (k + m) None whole) refs m last text) where
  -- Behind one more ref in order the others follow.
  pub one_behind : (ref : Ref) (rest : Bytes) → first_ref text ≡ Ok (ref, rest) → is_after last ref.0 ≡ true → (m : ℕ) → AreGathered (gathered (k + 1 + m) None whole) (refs ++ ref ∷ []) m (Some ref.0) rest
  one_behind ref rest e after m =
      let s : k + suc m ≡ k + 1 + m = omega arith in
      let z : suc m - 0 ≡ suc m = omega arith in
      let so = subst (λ n. AreGathered (gathered (k + suc m) None whole) refs n last text) (sym z) (ahead (suc m)) in
      let one = one_gathered (gathered (k + suc m) None whole) refs (suc m) 0 last text so ref rest (omega arith) e after in
      let w : suc m - (0 + 1) ≡ m = omega arith in
      subst (λ n. AreGathered (gathered n None whole) (refs ++ ref ∷ []) m (Some ref.0) rest) s (subst (λ n. AreGathered (gathered (k + suc m) None whole) (refs ++ ref ∷ []) n (Some ref.0) rest) w one)

  -- Those before this place were gathered.
  pub front_gathered : gathered k None whole ≡ (refs, Ok text)
  front_gathered =
      let s : k ≡ k + 0 = omega arith in
      let a = ahead 0 in
      ap (λ n. gathered n None whole) s ∙ (λ i. ((a.listed ∙ ap (λ g. refs ++ g.0) (no_more last text) ∙ append-nil refs) i, (a.ended ∙ ap (λ g. g.1) (no_more last text)) i))
