-- What a fault says of the definition, and records that are read one by one.
use Rattle.std.proofs.Common.{◌≡◌, ℕ, suc, ◌+◌, ◌-◌, ◌<◌, ◌≤◌, List, Ok, Err, ap, ◌∙◌, arith}
use Rattle.gx_model.specs.declared.objects.Kind.{Kind}
use Rattle.gx_model.specs.declared.store_versions.Version.TheVariants.{Two}
use Rattle.gx_model.specs.declared.store_faults.FileFault.{FileFault}
use Rattle.gx_model.specs.declared.store_faults.FileFault.TheVariants.{OutOfMemory}
use Rattle.gx_model.specs.Faults.{◌>>=◌}
use Rattle.gx_model.specs.Histories.{Record}
use Rattle.gx_model.specs.Stores.StoreReading.{Stored, next_record, next_records}
use Rattle.gx_model.specs.Texts.{Bytes}
use Rattle.gx_lines.specs.Reads.{IsFaultOf}

-- What gives a fault where another thing does has that one's fault.
pub moved : {Y Z : Type 0} (fault : FileFault) (given : Stored Y) (other : Stored Z) → (given ≡ Err fault → other ≡ Err fault)
    → IsFaultOf fault given → IsFaultOf fault other
moved OutOfMemory given other f h = tt
moved _ given other f h = f h

module _ (name : Kind → Bytes → Bytes) (given : Stored (List Record × Bytes)) (n k : ℕ) (rs : List Record) (text : Bytes)
    (so_far : given ≡ next_records name Two (n - k) rs text) where
  -- What is left begins with the next record.
  here : k < n → given ≡ (next_record name Two rs text >>= λ x. next_records name Two (n - (k + 1)) x.0 x.1)
  here lt = let e : n - k ≡ suc (n - (k + 1)) = omega arith in so_far ∙ ap (λ m. next_records name Two m rs text) e

  -- With one more record fewer are left.
  pub one_read : (more : List Record) (rest : Bytes) → k < n → next_record name Two rs text ≡ Ok (more, rest) → given ≡ next_records name Two (n - (k + 1)) more rest
  one_read more rest lt e = here lt ∙ ap (λ r. r >>= λ x. next_records name Two (n - (k + 1)) x.0 x.1) e

  -- A record that is refused refuses all.
  pub one_refused : (fault : FileFault) → k < n → IsFaultOf fault (next_record name Two rs text) → IsFaultOf fault given
  one_refused fault lt h = moved fault _ _ (λ e. here lt ∙ ap (λ r. r >>= λ x. next_records name Two (n - (k + 1)) x.0 x.1) e) h

  -- After the last one, they are read.
  pub all_read : n ≤ k → given ≡ Ok (rs, text)
  all_read le = let e : n - k ≡ 0 = omega arith in so_far ∙ ap (λ m. next_records name Two m rs text) e
