-- A line that is needed, by what it gives where it may be missing.
use Rattle.std.proofs.Common.{◌≡◌, Option, Some, None, Result, Ok, Err, refl, sym, ap, subst, ◌∙◌, inl, inr}
use Rattle.std.specs.Option.{ok_or, option_map}
use Rattle.gx_model.specs.Texts.{Bytes}
use Rattle.gx_model.specs.Faults.{Given, ◌>>=◌}
use Rattle.gx_model.specs.declared.faults.Fault.TheVariants as model
use Rattle.gx_model.specs.Streams.Items.{Stream}
use Rattle.gx_model.specs.Streams.Lines.{Read, needed, optional, read_needed, read_some, rest_line}
use Rattle.gx_command.specs.Ahead.{Reads}
use Rattle.gx_command.specs.declared.fault.CommandFault.{CommandFault}
use Rattle.gx_command.specs.declared.fault.CommandFault.TheVariants.{BadLine}

-- what a line gives, or BadLine where it is missing
abbrev pub or_bad_line : {Y : Type 0} → Option Y × Stream → Read Y
or_bad_line (None, t) = Err model.BadLine
or_bad_line (Some y, t) = Ok (y, t)

pub needed_is : {Y : Type 0} (reading : Bytes → Given Y) (r : Read (Option Bytes)) → (r >>= λ r. read_needed reading r.0 >>= λ x. Ok (x, r.1)) ≡ ((r >>= λ r. read_some reading r.0 >>= λ x. Ok (x, r.1)) >>= or_bad_line)
needed_is reading (Err f) = refl
needed_is reading (Ok (None, t)) = refl
needed_is {Y} reading (Ok (Some b, t)) = by (reading b) where
  by : (g : Given Y) → (g >>= λ x. Ok (x, t)) ≡ (((g >>= λ x. Ok (Some x)) >>= λ x. Ok (x, t)) >>= or_bad_line)
  by (Ok y) = refl
  by (Err f) = refl

module _ {X Y : Type 0} (view : X → Y) (word : Bytes) (reading : Bytes → Given Y) where
  needed_by : (old new : Option Stream) (taken : Option X) → Reads (option_map view) (optional word reading) old new (Ok taken) → Reads view (needed word reading) old new (ok_or taken BadLine)
  needed_by None new None h = tt
  needed_by None new (Some x) h = tt
  needed_by (Some s) new (Some x) (t, is, e) = (t, is, needed_is reading (rest_line word s) ∙ ap (λ r. r >>= or_bad_line) e)
  needed_by (Some s) new None (t, is, e) = inr (needed_is reading (rest_line word s) ∙ ap (λ r. r >>= or_bad_line) e)

  -- the line, or BadLine
  pub needed_reads : (old new : Option Stream) (taken : Option X) (answer : Result X CommandFault) → answer ≡ ok_or taken BadLine → Reads (option_map view) (optional word reading) old new (Ok taken) → Reads view (needed word reading) old new answer
  needed_reads old new taken answer is h = subst (λ a. Reads view (needed word reading) old new a) (sym is) (needed_by old new taken h)

  -- the line's own fault
  pub needed_fails : (old new new' : Option Stream) (f : CommandFault) → Reads (option_map view) (optional word reading) old new (Err f) → Reads view (needed word reading) old new' (Err f)
  needed_fails None new new' f h = tt
  needed_fails (Some s) new new' f (inl out) = inl out
  needed_fails (Some s) new new' f (inr e) = inr (needed_is reading (rest_line word s) ∙ ap (λ r. r >>= or_bad_line) e)
