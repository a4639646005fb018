-- Reading one thing after another.
use Rattle.std.proofs.Common.{◌≡◌, ℕ, ◌≤◌, arith, Option, Some, None, Result, Ok, Err, refl, ap, subst, ◌∙◌, inl, inr}
use Rattle.gx_model.specs.Faults.{◌>>=◌}
use Rattle.gx_model.specs.Streams.Items.{Stream}
use Rattle.gx_model.specs.Streams.Lines.{Read}
use Rattle.gx_command.specs.Ahead.{Fails, Falls, Reads}
use Rattle.gx_command.specs.declared.fault.CommandFault.{CommandFault}

-- the first thing fails
pub first_fails : {X Y Z U : Type 0} (view : X → Y) (first : Stream → Read Y) (rest : Y × Stream → Read Z) (shown : U → Z) (old mid new : Option Stream) (f : CommandFault) → Reads view first old mid (Err f) → Reads shown (λ s. first s >>= rest) old new (Err f)
first_fails view first rest shown None mid new f h = tt
first_fails view first rest shown (Some s) mid new f (inl out) = inl out
first_fails view first rest shown (Some s) mid new f (inr e) = inr (ap (λ r. r >>= rest) e)

-- after the first thing, the rest
pub then_reads : {X Y Z U : Type 0} (view : X → Y) (first : Stream → Read Y) (rest : Y × Stream → Read Z) (shown : U → Z) (old mid new : Option Stream) (x : X) (r : Result U CommandFault) → Reads view first old mid (Ok x) → Reads shown (λ t. rest (view x, t)) mid new r → Reads shown (λ s. first s >>= rest) old new r
then_reads view first rest shown None mid new x (Ok y) h k = tt
then_reads view first rest shown None mid new x (Err f) h k = tt
then_reads view first rest shown (Some s) mid new x (Ok y) (t, is, e) k =
    let l = subst (λ m. Reads shown (λ u. rest (view x, u)) m new (Ok y)) is k in
    (l.0, l.1, ap (λ r. r >>= rest) e ∙ l.2)
then_reads view first rest shown (Some s) mid new x (Err f) (t, is, e) k =
    by (subst (λ m. Reads shown (λ u. rest (view x, u)) m new (Err f)) is k) where
      by : Fails f (rest (view x, t)) → Fails f (first s >>= rest)
      by (inl out) = inl out
      by (inr g) = inr (ap (λ r. r >>= rest) e ∙ g)

-- nothing is left to read
pub all_read : {Z U : Type 0} (shown : U → Z) (x : U) (s : Option Stream) → Reads shown (λ t. Ok (shown x, t)) s s (Ok x)
all_read shown x None = tt
all_read shown x (Some s) = (s, refl, refl)

-- a line that may not be there is no more than an item
pub falls_not : {T : Type 0} (old new : ℕ) (taken : Option T) → Falls old new (Ok taken) → new ≤ old
falls_not old new None h = h
falls_not old new (Some x) h = omega (arith, h)

-- another view of the same answer
pub reads_as : {X Y Z : Type 0} (view : X → Y) (shown : Z → Y) (reading : Stream → Read Y) (old new : Option Stream) (x : X) (z : Z) → view x ≡ shown z → Reads view reading old new (Ok x) → Reads shown reading old new (Ok z)
reads_as view shown reading None new x z same h = tt
reads_as view shown reading (Some s) new x z same (t, is, e) = (t, is, e ∙ ap (λ y. Ok (y, t)) same)
