-- Runs and refs that are read one by one.
use Rattle.std.proofs.Common.{◌≡◌, ℕ, suc, refl, sym, ap, ◌∙◌, List, [], ◌∷◌, ◌++◌, Option, Some, None, Ok, Err, append_assoc, append-nil}
use Rattle.gx_model.specs.declared.store_faults.FileFault.{FileFault}
use Rattle.gx_model.specs.Faults.{◌>>=◌}
use Rattle.gx_model.specs.Histories.{Record}
use Rattle.gx_model.specs.Stores.StoreReading.{Stored, next_ref, next_refs}
use Rattle.gx_model.specs.Texts.{Bytes}
use Rattle.gx_lines.specs.Reads.{IsFaultOf}
use Rattle.gx_growing_segments.proofs.Steps.{moved}
use Rattle.gx_growing.specs.GrowingReading.{next_run, next_runs}
use Rattle.gx_growing.specs.GrowingText.{Run}
use Rattle.gx_growing_segments.specs.Seen.{name_and_rest, refs_at, refs_told}

-- what is read behind these
abbrev pub behind : {X : Type 0} → List X → List X × Bytes → Stored (List X × Bytes)
behind front xs = Ok (front ++ xs.0, xs.1)

-- of so many runs, these were read, and so many are left
abbrev pub RunsAhead : ℕ → Bytes → List Run → ℕ → Bytes → Type 0
RunsAhead count text runs left rest = next_runs count text ≡ (next_runs left rest >>= behind runs)

-- Before the first run, none was read.
pub no_runs : (count : ℕ) (text : Bytes) → RunsAhead count text [] count text
no_runs count text = by (next_runs count text)
  where
    by : (r : Stored (List Run × Bytes)) → r ≡ (r >>= behind [])
    by (Ok x) = refl
    by (Err f) = refl

module _ (count : ℕ) (text : Bytes) (runs : List Run) (left : ℕ) (rest : Bytes) (ahead : RunsAhead count text runs left rest) where
  runs_here : (m : ℕ) → left ≡ suc m → next_runs count text ≡ ((next_run rest >>= λ x. next_runs m x.1 >>= λ xs. Ok (x.0 ∷ xs.0, xs.1)) >>= behind runs)
  runs_here m e = ahead ∙ ap (λ n. next_runs n rest >>= behind runs) e

  -- One run more was read.
  pub one_run : (m : ℕ) → left ≡ suc m → (run : Run) (more : Bytes) → next_run rest ≡ Ok (run, more) → RunsAhead count text (runs ++ run ∷ []) m more
  one_run m e run more r =
      runs_here m e ∙ ap (λ s. (s >>= λ x. next_runs m x.1 >>= λ xs. Ok (x.0 ∷ xs.0, xs.1)) >>= behind runs) r ∙ by (next_runs m more)
    where
      by : (s : Stored (List Run × Bytes)) → ((s >>= λ xs. Ok (run ∷ xs.0, xs.1)) >>= behind runs) ≡ (s >>= behind (runs ++ run ∷ []))
      by (Ok x) = ap (λ z. Ok (z, x.1)) (sym (append_assoc runs (run ∷ []) x.0))
      by (Err f) = refl

  -- A run that is refused refuses all.
  pub run_refused : (m : ℕ) → left ≡ suc m → (fault : FileFault) → IsFaultOf fault (next_run rest) → IsFaultOf fault (next_runs count text)
  run_refused m e fault h =
      moved fault _ _ (λ r. runs_here m e ∙ ap (λ s. (s >>= λ x. next_runs m x.1 >>= λ xs. Ok (x.0 ∷ xs.0, xs.1)) >>= behind runs) r) h

  -- After the last one, they are read.
  pub runs_read : left ≡ 0 → next_runs count text ≡ Ok (runs, rest)
  runs_read e = ahead ∙ ap (λ n. next_runs n rest >>= behind runs) e ∙ ap (λ z. Ok (z, rest)) (append-nil runs)

-- the two parts of what was read
abbrev front_part : Stored (Bytes × Bytes) → Bytes
front_part (Ok parts) = parts.0
front_part (Err f) = []

abbrev rest_part : Stored (Bytes × Bytes) → Bytes
rest_part (Ok parts) = parts.1
rest_part (Err f) = []

-- of so many refs, some were read, and so many are left behind the last
pub record RefsAhead (records : List Record) (count : ℕ) (text : Bytes) (left : ℕ) (last : Option Bytes) (rest : Bytes) : Type 0 where
  pub refs : List (Bytes × Bytes)
  pub ahead : next_refs count records None text ≡ (next_refs left records last rest >>= behind refs)

-- Before the first ref, none was read.
pub no_refs : (records : List Record) (count : ℕ) (text : Bytes) → RefsAhead records count text count None text
no_refs records count text = record { refs = []; ahead = by (next_refs count records None text) }
  where
    by : (r : Stored (List (Bytes × Bytes) × Bytes)) → r ≡ (r >>= behind [])
    by (Ok x) = refl
    by (Err f) = refl

module _ (records : List Record) (count : ℕ) (text : Bytes) (left : ℕ) (last : Option Bytes) (rest : Bytes) (a : RefsAhead records count text left last rest) where
  abbrev others : ℕ → (Bytes × Bytes) × Bytes → Stored (List (Bytes × Bytes) × Bytes)
  others m x = next_refs m records (Some x.0.0) x.1 >>= λ xs. Ok (x.0 ∷ xs.0, xs.1)

  refs_here : (m : ℕ) → left ≡ suc m → next_refs count records None text ≡ ((next_ref records last rest >>= others m) >>= behind a.refs)
  refs_here m e = a.ahead ∙ ap (λ n. next_refs n records last rest >>= behind a.refs) e

  -- One ref more was read.
  pub one_ref : (m : ℕ) → left ≡ suc m → (name more : Bytes) → name_and_rest (next_ref records last rest) ≡ Ok (name, more) → RefsAhead records count text m (Some name) more
  one_ref m e name more r = by (next_ref records last rest) refl r
    where
      regrouped : (ref : Bytes × Bytes) (s : Stored (List (Bytes × Bytes) × Bytes)) → ((s >>= λ xs. Ok (ref ∷ xs.0, xs.1)) >>= behind a.refs) ≡ (s >>= behind (a.refs ++ ref ∷ []))
      regrouped ref (Ok x) = ap (λ z. Ok (z, x.1)) (sym (append_assoc a.refs (ref ∷ []) x.0))
      regrouped ref (Err f) = refl

      by : (s : Stored ((Bytes × Bytes) × Bytes)) → next_ref records last rest ≡ s → name_and_rest s ≡ Ok (name, more) → RefsAhead records count text m (Some name) more
      by (Ok x) i j =
          let n : x.0.0 ≡ name = ap front_part j in
          let t : x.1 ≡ more = ap rest_part j in
          record {
            refs = a.refs ++ x.0 ∷ [];
            ahead = refs_here m e ∙ ap (λ s. (s >>= others m) >>= behind a.refs) i ∙ regrouped x.0 (next_refs m records (Some x.0.0) x.1)
                ∙ (λ k. next_refs m records (Some (n k)) (t k) >>= behind (a.refs ++ x.0 ∷ []));
          }
      by (Err f) i j = absurd (cc)

  -- A ref that is refused refuses all.
  pub ref_refused : (m : ℕ) → left ≡ suc m → (fault : FileFault) → IsFaultOf fault (name_and_rest (next_ref records last rest)) → IsFaultOf fault (next_refs count records None text)
  ref_refused m e fault h = moved fault _ _ (λ r. refs_here m e ∙ ap (λ s. (s >>= others m) >>= behind a.refs) (by (next_ref records last rest) r)) h
    where
      by : (s : Stored ((Bytes × Bytes) × Bytes)) → name_and_rest s ≡ Err fault → s ≡ Err fault
      by (Ok x) j = absurd (cc)
      by (Err f) j = let same : f ≡ fault = cc in ap Err same

  -- After the last one, they are read.
  pub refs_read : left ≡ 0 → next_refs count records None text ≡ Ok (refs_at records count text, rest)
  refs_read e = whole ∙ ap (λ z. Ok (z, rest)) (sym (ap refs_told whole))
    where
      whole : next_refs count records None text ≡ Ok (a.refs, rest)
      whole = a.ahead ∙ ap (λ n. next_refs n records last rest >>= behind a.refs) e ∙ ap (λ z. Ok (z, rest)) (append-nil a.refs)
