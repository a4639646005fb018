-- Runs that are read from their lines, one after the other.
use Rattle.std.proofs.Common.{◌≡◌, ℕ, ◌<◌, ◌≤◌, ◌^◌, List, [], ◌∷◌, ◌++◌, length, true, false, Ok, Err, refl, sym, ap, ◌∙◌, subst, arith, append_assoc, append-nil, codes}
use Rattle.std.specs.Prelude.{nat_le, Result}
use Rattle.std.specs.List.{AllByRecursion, flat_map}
use Rattle.std.proofs.lemmas.Bool.Decides.{nat_tests}
use Rattle.std.proofs.lemmas.List.{length-append}
use Rattle.gx_model.specs.declared.store_faults.FileFault.{FileFault}
use Rattle.gx_model.specs.declared.store_faults.FileFault.TheVariants as fault
use Rattle.gx_model.specs.Faults.{NeedsNoMemory}
use Rattle.gx_model.specs.Texts.{Bytes}
use Rattle.gx_model.specs.Stores.StoreReading.{Stored, stored_count}
use Rattle.gx_model.proofs.Stores.StoreTexts.{count_read, ok_is}
use Rattle.gx_lines.specs.Reads.{Reads}
use Rattle.gx_growing.specs.GrowingText.{Run, run_text}
use Rattle.gx_growing.specs.GrowingReading.{next_run}
use Rattle.gx_growing.proofs.Fields.{next_run_read}
use Rattle.gx_look.specs.Tails.{EndsBy, IsLive, runs_text}

-- what is left of runs, and of their lines
pub record RunsLeft (ends : ℕ) (seen : List Run) (rest : Bytes) (runs : List Run) (behind : Bytes) : Type 0 where
  pub left : List Run
  pub all : runs ≡ seen ++ left
  pub live : AllByRecursion (IsLive ends) left
  pub spelled : rest ≡ flat_map run_text left ++ behind

-- before any is read, all are left
pub none_seen : (ends : ℕ) (rest : Bytes) (runs : List Run) (behind : Bytes) → AllByRecursion (IsLive ends) runs → rest ≡ flat_map run_text runs ++ behind → RunsLeft ends [] rest runs behind
none_seen ends rest runs behind live e = record { left = runs; all = refl; live = live; spelled = e }

-- the run in front of others
pub record IsNext (ends : ℕ) (seen : List Run) (rest : Bytes) (runs : List Run) (behind : Bytes) : Type 0 where
  pub run : Run
  pub after : Bytes
  pub read : next_run rest ≡ Ok (run, after)
  pub within : EndsBy ends run.place run.count
  pub left : RunsLeft ends (seen ++ run ∷ []) after runs behind

pub next_there : (ends : ℕ) (seen : List Run) (rest : Bytes) (runs : List Run) (behind : Bytes) → length seen < length runs → RunsLeft ends seen rest runs behind → IsNext ends seen rest runs behind
next_there ends seen rest runs behind l h = by h.left h.all h.live h.spelled
  where
    by : (left : List Run) → runs ≡ seen ++ left → AllByRecursion (IsLive ends) left → rest ≡ flat_map run_text left ++ behind → IsNext ends seen rest runs behind
    by [] all live e = let long = ap length (all ∙ append-nil seen) in absurd (omega arith)
    by (r ∷ rs) all live e = record {
      run = r;
      after = flat_map run_text rs ++ behind;
      read = ap next_run (e ∙ append_assoc (run_text r) (flat_map run_text rs) behind) ∙ next_run_read r (flat_map run_text rs ++ behind) live.0.told;
      within = live.0.within;
      left = record { left = rs; all = all ∙ sym (append_assoc seen (r ∷ []) rs); live = live.1; spelled = refl };
    }

-- once as many are read, these are all
pub all_seen : (ends : ℕ) (seen : List Run) (rest : Bytes) (runs : List Run) (behind : Bytes) → length seen ≡ length runs → RunsLeft ends seen rest runs behind → (seen ≡ runs) × (rest ≡ behind)
all_seen ends seen rest runs behind l h = by h.left h.all h.spelled
  where
    by : (left : List Run) → runs ≡ seen ++ left → rest ≡ flat_map run_text left ++ behind → (seen ≡ runs) × (rest ≡ behind)
    by [] all e = (sym (all ∙ append-nil seen), e)
    by (r ∷ rs) all e = let long = ap length all ∙ length-append seen (r ∷ rs) in absurd (omega arith)

-- the count of runs is read
pub runs_counted : (text : Bytes) (runs : List Run) (rest : Bytes) → length runs < 2 ^ 64 → text ≡ runs_text runs rest → stored_count (codes "runs") text ≡ Ok (length runs, flat_map run_text runs ++ rest)
runs_counted text runs rest l e = ap (stored_count (codes "runs")) e ∙ count_read (codes "runs") (length runs) (flat_map run_text runs ++ rest) tt l

-- ---- answers

-- what can be read is read
pub surely_read : {X Y : Type 0} (view : X → Y) (result : Result X FileFault) (given : Stored Y) (y : Y) → given ≡ Ok y → Reads view result given → NeedsNoMemory fault.OutOfMemory result → (x : X) × (result ≡ Ok x) × (view x ≡ y)
surely_read view (Ok x) given y g r m = (x, refl, ok_is (view x) y (sym r ∙ g))
surely_read view (Err fault.OutOfMemory) given y g r m = absurd (m refl)
surely_read view (Err fault.BadMagic) given y g r m = let l = sym g ∙ r in absurd (cc)
surely_read view (Err fault.BadVersion) given y g r m = let l = sym g ∙ r in absurd (cc)
surely_read view (Err fault.Truncated) given y g r m = let l = sym g ∙ r in absurd (cc)
surely_read view (Err fault.BadRecord) given y g r m = let l = sym g ∙ r in absurd (cc)
surely_read view (Err fault.NameMismatch) given y g r m = let l = sym g ∙ r in absurd (cc)
surely_read view (Err fault.DuplicateObject) given y g r m = let l = sym g ∙ r in absurd (cc)
surely_read view (Err fault.Dangling) given y g r m = let l = sym g ∙ r in absurd (cc)
surely_read view (Err fault.BadObject) given y g r m = let l = sym g ∙ r in absurd (cc)
surely_read view (Err fault.BadRef) given y g r m = let l = sym g ∙ r in absurd (cc)
surely_read view (Err fault.RefOrder) given y g r m = let l = sym g ∙ r in absurd (cc)
surely_read view (Err fault.TrailingBytes) given y g r m = let l = sym g ∙ r in absurd (cc)

-- so there is no fault
pub never_refused : {X Y : Type 0} (view : X → Y) (result : Result X FileFault) (given : Stored Y) (y : Y) (f : FileFault) → given ≡ Ok y → Reads view result given → NeedsNoMemory fault.OutOfMemory result → result ≡ Err f → ⊥
never_refused view result given y f g r m e = let l = sym (surely_read view result given y g r m).1 ∙ e in cc

-- what holds of all holds with one more of which it holds
pub with_one : {X : Type 0} (P : X → Type 0) (xs : List X) (x : X) → AllByRecursion P xs → P x → AllByRecursion P (xs ++ x ∷ [])
with_one P [] x h p = (p, tt)
with_one P (y ∷ ys) x h p = (h.0, with_one P ys x h.1 p)

-- the run that was read is the one that is next
pub run_taken : (ends : ℕ) (seen : List Run) (rest : Bytes) (runs : List Run) (behind : Bytes) (run : Run) (after : Bytes) (next : IsNext ends seen rest runs behind) → next_run rest ≡ Ok (run, after)
    → EndsBy ends run.place run.count × RunsLeft ends (seen ++ run ∷ []) after runs behind
run_taken ends seen rest runs behind run after next e =
    let same = ok_is (next.run, next.after) (run, after) (sym next.read ∙ e) in (
      subst (λ (p : Run × Bytes). EndsBy ends p.0.place p.0.count) same next.within,
      subst (λ (p : Run × Bytes). RunsLeft ends (seen ++ p.0 ∷ []) p.1 runs behind) same next.left,
    )

pub is_below : (a b : ℕ) → nat_le a b ≡ true → a ≤ b
is_below a b e = grind (arith, nat_tests)

pub not_below : (a b : ℕ) → nat_le a b ≡ false → a ≤ b → ⊥
not_below a b e l = let t : nat_le a b ≡ true = grind (arith, nat_tests) in let m = sym t ∙ e in cc
