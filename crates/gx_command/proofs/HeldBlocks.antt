-- What was kept before a line is read, or where no block comes next.
use Rattle.std.proofs.Common.{Option, Some, None, Result, Ok, Err, refl, subst, inl, inr}
use Rattle.std.specs.Borrow.{Bor}
use Rattle.gx_model.specs.Texts.{Bytes}
use Rattle.gx_model.specs.Streams.Items as model
use Rattle.gx_model.specs.Streams.Items.{Stream, then_comes}
use Rattle.gx_model.specs.Streams.Lines.{block, block_in}
use Rattle.gx_stream.specs.Input.{ComesNoBlock, Keeps, KeepsStream}
use Rattle.gx_stream.specs.Reading.{Answers, AnswersAs, ReadsAs, Seen}
use Rattle.gx_stream.specs.declared.fault.StreamFault.{StreamFault}
use Rattle.gx_stream.specs.declared.item.Item.{Item}
use Rattle.gx_stream.specs.declared.item.Item.TheVariants as item
use Rattle.gx_stream.proofs.Follows.{some_come}
use Rattle.gx_command.specs.Ahead.{Reads, TakesLine}
use Rattle.gx_command.specs.CommandFaults.{of_stream}
use Rattle.gx_command.specs.Explaining.{Explains, ExplainsLine, ItemsMayCome}
use Rattle.gx_command.specs.declared.fault.CommandFault.{CommandFault}
use Rattle.gx_command.specs.declared.fault.CommandFault.TheVariants as own
use Rattle.gx_command.proofs.ExplainedItems.{end_comes, fault_comes, line_comes}

-- ---- lines
pub line_kept : {T : Type 0} (answers : Bor Bytes → Result T CommandFault → Type 0) (word : Bytes) (old mid new : Option Stream) (r : Result (Option T) CommandFault) → KeepsStream old mid → TakesLine word answers mid new r → TakesLine word answers old new r
line_kept answers word None mid new r k h = tt
line_kept answers word (Some s) mid new r k h = subst (λ o. TakesLine word answers o new r) k h

pub explained_line_kept : {T : Type 0} (answers : Bor Bytes → Result T CommandFault → Type 0) (word : Bytes) (old mid new : Stream → Type 0) (r : Result (Option T) CommandFault) → ((s : Stream) → mid s → old s) → ExplainsLine word answers mid new r → ExplainsLine word answers old new r
explained_line_kept answers word old mid new (Ok None) k h = λ t n. let a = h t n in (a.0, k a.0 a.1, a.2)
explained_line_kept answers word old mid new (Ok (Some x)) k h = λ t n. let a = h t n in (a.0, k a.0 a.1, a.2)
explained_line_kept answers word old mid new (Err f) k (inl out) = inl out
explained_line_kept answers word old mid new (Err f) k (inr (s, m, e)) = inr (s, k s m, e)

-- ---- where no block comes next

module _ {X : Type 0} (view : X → Bytes) (old mid now : Seen) (left : Keeps old mid × ComesNoBlock mid) where
  failed_before : (new : Stream → Type 0) (f : CommandFault) → Explains view block (ItemsMayCome None mid) new (Err f) → Explains view block (ItemsMayCome None old) new (Err f)
  unfolding Explains
  failed_before new f (inl out) = inl out
  failed_before new f (inr (s, m, e)) = inr (s, left.0.3 s m, e)

  not_given : (b : Bytes) → AnswersAs mid now (Ok (Some (model.Data b))) → ⊥
  unfolding block_in
  not_given b a = let some = some_come now in cc (left.1 (then_comes (model.Data b) some.0) (a.4 some.0 some.1))

  -- a fault comes
  pub fault_behind : (f : StreamFault) (new : Stream → Type 0) → AnswersAs mid now (Err f) → Explains view block (ItemsMayCome None old) new (Err (of_stream f))
  fault_behind f new a = failed_before new (of_stream f) (fault_comes view mid now f new a)

  -- a line comes, or the end
  pub line_behind : (i : Option Item) (new : Stream → Type 0) → Answers mid now (Ok i) → Explains view block (ItemsMayCome None old) new (Err own.BadLine)
  line_behind None new a = failed_before new own.BadLine (end_comes view mid now new a)
  line_behind (Some (item.Line x)) new a = failed_before new own.BadLine (line_comes view mid now x.now new a)
  line_behind (Some (item.Data x)) new a = absurd (not_given x.now a)

  line_read : (i : Option Item) (after : Option Stream) → Answers mid now (Ok i) → Reads view block mid.stream after (Err own.BadLine)
  unfolding block_in
  line_read None after a = by mid.stream a.0 where
    by : (o : Option Stream) → ReadsAs o now.stream (Ok None) → Reads view block o after (Err own.BadLine)
    by None r = tt
    by (Some s) r = inr (rw r.0 refl)
  line_read (Some (item.Line x)) after a = by mid.stream a.0 where
    by : (o : Option Stream) → ReadsAs o now.stream (Ok (Some (model.Line x.now))) → Reads view block o after (Err own.BadLine)
    by None r = tt
    by (Some s) r = inr (rw r.1 refl)
  line_read (Some (item.Data x)) after a = absurd (not_given x.now a)

  pub line_read_behind : (i : Option Item) (after : Option Stream) → Answers mid now (Ok i) → Reads view block old.stream after (Err own.BadLine)
  line_read_behind i after a = by old.stream left.0.0 where
    by : (o : Option Stream) → KeepsStream o mid.stream → Reads view block o after (Err own.BadLine)
    by None k = tt
    by (Some s) k = subst (λ o. Reads view block o after (Err own.BadLine)) k (line_read i after a)
