-- Refs that are read and checked one by one.
use Rattle.std.proofs.Common.{◌≡◌, Bool, true, false, List, Option, Some, None, Ok, Err, refl, ap, ◌∙◌}
use Rattle.gx_model.specs.declared.store_faults.FileFault.{FileFault}
use Rattle.gx_model.specs.declared.store_faults.FileFault.TheVariants as model
use Rattle.gx_model.specs.Faults.{◌>>=◌}
use Rattle.gx_model.specs.Histories.{Record}
use Rattle.gx_model.specs.Records.Growth.{record_named}
use Rattle.gx_model.specs.Records.Publishing.{Ref}
use Rattle.gx_model.specs.Stores.StoreReading.{Stored, is_after, is_target, next_ref, only_if, ref_line, stored_line}
use Rattle.gx_model.specs.Texts.{Bytes}
use Rattle.std.specs.Option.{ok_or}
use Rattle.gx_file.specs.Gathering.{first_ref, ref_of_line, with_rest}
use Rattle.gx_lines.specs.Reads.{IsFaultOf}
use Rattle.gx_growing_segments.specs.Seen.{name_and_rest}
use Rattle.gx_growing_segments.proofs.Steps.{moved}

module _ (rs : List Record) (last : Option Bytes) where
  -- the checks of a ref after those of its line, by what they come to
  abbrev checked_so : Bool → Bool → Ref × Bytes → Stored (Ref × Bytes)
  checked_so may after first = only_if may model.BadRef >>= λ _. only_if after model.RefOrder >>= λ _. Ok first

  abbrev checked : Ref × Bytes → Stored (Ref × Bytes)
  checked first = checked_so (is_target first.0.0 (record_named rs first.0.1)) (is_after last first.0.0) first

  -- a ref is read and then checked
  next_is_checked : (text : Bytes) → next_ref rs last text ≡ (first_ref text >>= checked)
  unfolding first_ref
  next_is_checked text = by (stored_line text)
    where
      line : (l : Bytes × Bytes) (o : Option Ref)
          → (ok_or o model.BadRef >>= λ x. only_if (is_target x.0 (record_named rs x.1)) model.BadRef >>= λ _. only_if (is_after last x.0) model.RefOrder >>= λ _. Ok (x, l.1))
          ≡ (with_rest l.1 o >>= checked)
      line l None = refl
      line l (Some ref) = refl

      by : (r : Stored (Bytes × Bytes))
          → (r >>= λ l. ok_or (ref_line l.0) model.BadRef >>= λ x. only_if (is_target x.0 (record_named rs x.1)) model.BadRef >>= λ _. only_if (is_after last x.0) model.RefOrder >>= λ _. Ok (x, l.1))
          ≡ (ref_of_line r >>= checked)
      by (Ok l) = line l (ref_line l.0)
      by (Err f) = refl

  -- A line that is refused refuses the ref.
  pub line_refused : (text : Bytes) (fault : FileFault) → IsFaultOf fault (first_ref text) → IsFaultOf fault (name_and_rest (next_ref rs last text))
  line_refused text fault h = moved fault _ _ (λ e. ap name_and_rest (next_is_checked text ∙ ap (λ s. s >>= checked) e)) h

  module _ (text : Bytes) (first : Ref × Bytes) (read : first_ref text ≡ Ok first) where
    so : (may after : Bool) → is_target first.0.0 (record_named rs first.0.1) ≡ may → is_after last first.0.0 ≡ after → name_and_rest (next_ref rs last text) ≡ name_and_rest (checked_so may after first)
    so may after e f = ap name_and_rest (next_is_checked text ∙ ap (λ s. s >>= checked) read) ∙ (λ i. name_and_rest (checked_so (e i) (f i) first))

    -- A ref that may not hold its object is bad.
    pub no_target : is_target first.0.0 (record_named rs first.0.1) ≡ false → name_and_rest (next_ref rs last text) ≡ Err model.BadRef
    no_target e = so false (is_after last first.0.0) e refl

    -- A ref that doesn't stand behind the one before is out of order.
    pub no_order : is_target first.0.0 (record_named rs first.0.1) ≡ true → is_after last first.0.0 ≡ false → name_and_rest (next_ref rs last text) ≡ Err model.RefOrder
    no_order e f = so true false e f

    -- Any other is taken.
    pub taken : is_target first.0.0 (record_named rs first.0.1) ≡ true → is_after last first.0.0 ≡ true → name_and_rest (next_ref rs last text) ≡ Ok (first.0.0, first.1)
    taken e f = so true true e f
