-- Records that are read one by one.
use Rattle.std.proofs.Common.{◌≡◌, ℕ, suc, ◌+◌, ◌-◌, ◌<◌, ◌≤◌, List, Ok, ap, ◌∙◌, arith}
use Rattle.gx_model.specs.declared.objects.Kind.{Kind}
use Rattle.gx_model.specs.declared.store_versions.Version.{Version}
use Rattle.gx_model.specs.Texts.{Bytes}
use Rattle.gx_model.specs.Faults.{◌>>=◌}
use Rattle.gx_model.specs.Histories.{Record}
use Rattle.gx_model.specs.Stores.StoreReading.{Stored, next_record, next_records}
use Rattle.gx_model.specs.declared.store_faults.FileFault.{FileFault}
use Rattle.gx_lines.specs.Reads.{IsFaultOf}
use Rattle.gx_file.proofs.Steps.{moved}

module _ (name : Kind → Bytes → Bytes) (v : Version) (given : Stored (List Record × Bytes)) (n k : ℕ) (rs : List Record) (text : Bytes)
    (so_far : given ≡ next_records name v (n - k) rs text) where
  -- What is left begins with the next record.
  here : k < n → given ≡ (next_record name v rs text >>= λ x. next_records name v (n - (k + 1)) x.0 x.1)
  here lt = let e : n - k ≡ suc (n - (k + 1)) = omega arith in so_far ∙ ap (λ m. next_records name v m rs text) e

  -- With one more record fewer are left.
  pub one_read : (more : List Record) (rest : Bytes) → k < n → next_record name v rs text ≡ Ok (more, rest) → given ≡ next_records name v (n - (k + 1)) more rest
  one_read more rest lt e = here lt ∙ ap (λ r. r >>= λ x. next_records name v (n - (k + 1)) x.0 x.1) e

  -- A record that is refused refuses all.
  pub one_refused : (fault : FileFault) → k < n → IsFaultOf fault (next_record name v rs text) → IsFaultOf fault given
  one_refused fault lt h = moved fault _ _ (λ e. here lt ∙ ap (λ r. r >>= λ x. next_records name v (n - (k + 1)) x.0 x.1) e) h

  -- After the last one, they are read.
  pub all_read : n ≤ k → given ≡ Ok (rs, text)
  all_read le = let e : n - k ≡ 0 = omega arith in so_far ∙ ap (λ m. next_records name v m rs text) e

module _ (name : Kind → Bytes → Bytes) (v : Version) (all : List Record) (whole : Bytes) (k : ℕ) (rs : List Record) (text : Bytes)
    (ahead : (m : ℕ) → next_records name v (k + m) all whole ≡ next_records name v m rs text) where
  -- Behind one more record the others follow.
  pub one_behind : (more : List Record) (rest : Bytes) → next_record name v rs text ≡ Ok (more, rest) → (m : ℕ) → next_records name v (k + 1 + m) all whole ≡ next_records name v m more rest
  one_behind more rest e m =
      let s : k + 1 + m ≡ k + suc m = omega arith in
      ap (λ n. next_records name v n all whole) s ∙ ahead (suc m) ∙ ap (λ r. r >>= λ x. next_records name v m x.0 x.1) e

  -- Those before this place are right.
  pub front_read : next_records name v k all whole ≡ Ok (rs, text)
  front_read = let s : k ≡ k + 0 = omega arith in ap (λ n. next_records name v n all whole) s ∙ ahead 0
