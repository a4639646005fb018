-- Items that are taken, as what explains an answer.
use Rattle.std.proofs.Common.{◌≡◌, Bool, true, false, Option, Some, None, Result, Ok, Err, refl, sym, ap, subst, ◌∙◌, ◌⊎◌, inl, inr}
use Rattle.std.specs.Borrow.{Bor}
use Rattle.std.specs.Option.{is_some, option_map}
use Rattle.gx_model.specs.Texts.{Bytes}
use Rattle.gx_model.specs.Faults.{Given, Gives}
use Rattle.gx_model.specs.Streams.Items as model
use Rattle.gx_model.specs.Streams.Items.{Failed, Finished, Stream, then_comes}
use Rattle.gx_model.specs.Streams.Lines.{Read, block, block_in, optional, rest_line}
use Rattle.gx_stream.specs.Faults.{ended, fault_of as stream_fault}
use Rattle.gx_stream.specs.Reading.{AnswersAs, MayCome, MayFollow, Seen, item_of}
use Rattle.gx_stream.specs.declared.fault.StreamFault.{StreamFault}
use Rattle.gx_stream.specs.declared.fault.StreamFault.TheVariants as faults
use Rattle.gx_stream.specs.declared.item.Item.{Item}
use Rattle.gx_stream.proofs.Follows.{some_come}
use Rattle.gx_command.specs.Ahead.{AnswersRest, Fails, shown_held_item}
use Rattle.gx_command.specs.Bodies.{ChangeIn, begun_change, next_change}
use Rattle.gx_command.specs.CommandFaults.{fault_of, of_stream}
use Rattle.gx_command.specs.Explaining.{Explains, ExplainsFrom, ExplainsLine, ExplainsTaken, ItemsMayCome, MayBeAhead}
use Rattle.gx_command.specs.Heads.{BeginsIn, begun_there, first, started}
use Rattle.gx_command.specs.declared.ahead.Ahead.{Ahead}
use Rattle.gx_command.specs.declared.ahead.Held.{Held}
use Rattle.gx_command.specs.declared.change_lines.ChangeLine.{ChangeLine}
use Rattle.gx_command.specs.declared.fault.CommandFault.{CommandFault}
use Rattle.gx_command.specs.declared.fault.CommandFault.TheVariants as own
use Rattle.gx_command.specs.declared.heads.Head.{Head}
use Rattle.gx_command.specs.declared.heads.Start.{Start}
use Rattle.gx_command.specs.declared.heads.Start.TheVariants as start
use Rattle.gx_command.proofs.TakenChanges.{change_begun, change_failed, change_none, change_not, change_refused}
use Rattle.gx_command.proofs.TakenHeads.{first_failed, first_none, first_refused, first_started, never_passed}
use Rattle.gx_command.proofs.TakenLines.{Says, failed_line, line_fails, line_of_fault, line_of_none, line_of_some, no_line}

-- ---- something may always come

pub some_comes : (held : Option model.Item) (reader : Seen) → (s : Stream) × ItemsMayCome held reader s
some_comes None reader = some_come reader
some_comes (Some i) reader = let a = some_come reader in (then_comes i a.0, (a.0, a.1, refl))

pub some_ahead : {R A : Type 0} (a : Ahead R A) → (s : Stream) × MayBeAhead a s
unfolding MayBeAhead
some_ahead a = some_comes (option_map shown_held_item a.held) a.items

-- behind the end nothing comes
end_behind : (old new : Seen) → AnswersAs old new (Ok None) → (t : Stream) → MayCome new t → t ≡ ended Finished
end_behind old new a t m = subst (λ o. MayFollow o new.unread new.whole t) a.2 m

-- the fault of a stream is a command's
pub of_stream_is : (f : StreamFault) → fault_of (of_stream f) ≡ stream_fault f
of_stream_is faults.OutOfMemory = refl
of_stream_is faults.ReadFailed = refl
of_stream_is faults.TruncatedData = refl
of_stream_is faults.BadNumber = refl

-- ---- blocks

module _ {X : Type 0} (view : X → Bytes) where
  -- the item that is a block
  pub block_there : (x : X) (reader : Seen) → Explains view block (ItemsMayCome (Some (model.Data (view x))) reader) (ItemsMayCome None reader) (Ok x)
  unfolding block_in Explains
  block_there x reader = λ t n. (then_comes (model.Data (view x)) t, (t, n, refl), refl)

  -- the item that is a line
  pub line_there : (l : Bytes) (reader : Seen) (new : Stream → Type 0) → Explains view block (ItemsMayCome (Some (model.Line l)) reader) new (Err own.BadLine)
  unfolding block_in Explains
  line_there l reader new = let some = some_come reader in inr (then_comes (model.Line l) some.0, (some.0, some.1, refl), refl)

  module _ (old now : Seen) where
    -- the next item is a block
    pub block_comes : (x : X) → AnswersAs old now (Ok (Some (model.Data (view x)))) → Explains view block (ItemsMayCome None old) (ItemsMayCome None now) (Ok x)
    unfolding block_in Explains
    block_comes x a = λ t n. (then_comes (model.Data (view x)) t, a.4 t n, refl)

    -- it is a line
    pub line_comes : (l : Bytes) (new : Stream → Type 0) → AnswersAs old now (Ok (Some (model.Line l))) → Explains view block (ItemsMayCome None old) new (Err own.BadLine)
    unfolding block_in Explains
    line_comes l new a = let some = some_come now in inr (then_comes (model.Line l) some.0, a.4 some.0 some.1, refl)

    -- none comes
    pub end_comes : (new : Stream → Type 0) → AnswersAs old now (Ok None) → Explains view block (ItemsMayCome None old) new (Err own.BadLine)
    unfolding block_in Explains
    end_comes new a = inr (ended Finished, a.4, refl)

    -- a fault comes
    pub fault_comes : (f : StreamFault) (new : Stream → Type 0) → AnswersAs old now (Err f) → Explains view block (ItemsMayCome None old) new (Err (of_stream f))
    unfolding block_in Explains
    fault_comes f new a = by a.4 where
      by : (f ≡ faults.OutOfMemory) ⊎ MayCome old (ended (Failed (stream_fault f))) → Explains view block (ItemsMayCome None old) new (Err (of_stream f))
      by (inl out) = inl (ap of_stream out)
      by (inr m) = inr (ended (Failed (stream_fault f)), m, ap (λ g. Err g) (sym (of_stream_is f)))

-- ---- the item that comes next, taken or left

module _ {T : Type 0} (post : Item → Result (Option T) CommandFault → Type 0) where
  -- the item that was read ahead is taken
  pub held_taken : (i : Item) (h : model.Item) → item_of i ≡ h → (reader : Seen) (x : T) → post i (Ok (Some x))
      → ExplainsTaken post (ItemsMayCome (Some h) reader) (ItemsMayCome None reader) (Ok (Some x))
  held_taken i h e reader x read = λ t n. (then_comes h t, (t, n, refl), record { item = i; first = ap (λ j. then_comes j t) (sym e); read = read })

  -- it stays
  pub held_left : (i : Item) (h : model.Item) → item_of i ≡ h → (reader : Seen) → post i (Ok None)
      → ExplainsTaken post (ItemsMayCome (Some h) reader) (ItemsMayCome (Some h) reader) (Ok None)
  held_left i h e reader read = λ t m. (m, inr (m.0, record { item = i; first = m.2 ∙ ap (λ j. then_comes j m.0) (sym e); read = read }))

  -- it is refused
  pub held_refused : (i : Item) (h : model.Item) → item_of i ≡ h → (reader : Seen) (new : Stream → Type 0) (f : CommandFault) → post i (Err f)
      → ExplainsTaken post (ItemsMayCome (Some h) reader) new (Err f)
  held_refused i h e reader new f read =
      let some = some_come reader in
      inr (then_comes h some.0, (some.0, some.1, refl), inr (some.0, record { item = i; first = ap (λ j. then_comes j some.0) (sym e); read = read }))

  -- it is taken where it is read
  pub held_read : (i : Item) (h : model.Item) → item_of i ≡ h → (reader : Seen) (taken : Option T) → is_some taken ≡ true → post i (Ok taken)
      → ExplainsTaken post (ItemsMayCome (Some h) reader) (ItemsMayCome None reader) (Ok taken)
  held_read i h e reader None some read = absurd (cc some)
  held_read i h e reader (Some x) some read = held_taken i h e reader x read

  -- and stays where it is not
  pub held_unread : (i : Item) (h : model.Item) → item_of i ≡ h → (reader : Seen) (taken : Option T) → is_some taken ≡ false → post i (Ok taken)
      → ExplainsTaken post (ItemsMayCome (Some h) reader) (ItemsMayCome (Some h) reader) (Ok taken)
  held_unread i h e reader None none read = held_left i h e reader read
  held_unread i h e reader (Some x) none read = absurd (cc none)

  module _ (old now : Seen) where
    -- the next item is taken
    pub item_taken : (i : Item) → AnswersAs old now (Ok (Some (item_of i))) → (x : T) → post i (Ok (Some x))
        → ExplainsTaken post (ItemsMayCome None old) (ItemsMayCome None now) (Ok (Some x))
    item_taken i a x read = λ t n. (then_comes (item_of i) t, a.4 t n, record { item = i; first = refl; read = read })

    -- it is kept
    pub item_left : (i : Item) → AnswersAs old now (Ok (Some (item_of i))) → (h : model.Item) → h ≡ item_of i → post i (Ok None)
        → ExplainsTaken post (ItemsMayCome None old) (ItemsMayCome (Some h) now) (Ok None)
    item_left i a h e read = λ t m.
        let first : t ≡ then_comes (item_of i) m.0 = m.2 ∙ ap (λ j. then_comes j m.0) e in
        (subst (MayCome old) (sym first) (a.4 m.0 m.1), inr (m.0, record { item = i; first = first; read = read }))

    -- it is refused
    pub item_refused : (i : Item) → AnswersAs old now (Ok (Some (item_of i))) → (new : Stream → Type 0) (f : CommandFault) → post i (Err f)
        → ExplainsTaken post (ItemsMayCome None old) new (Err f)
    item_refused i a new f read =
        let some = some_come now in
        inr (then_comes (item_of i) some.0, a.4 some.0 some.1, inr (some.0, record { item = i; first = refl; read = read }))

    -- none comes
    pub none_left : AnswersAs old now (Ok None) → ExplainsTaken post (ItemsMayCome None old) (ItemsMayCome None now) (Ok None)
    none_left a = λ t n.
        let end = end_behind old now a t n in
        (subst (MayCome old) (sym end) a.4, inl end)

    -- a fault comes
    pub none_read : (f : StreamFault) → AnswersAs old now (Err f) → (new : Stream → Type 0) → ExplainsTaken post (ItemsMayCome None old) new (Err (of_stream f))
    none_read f a new = by a.4 where
      by : (f ≡ faults.OutOfMemory) ⊎ MayCome old (ended (Failed (stream_fault f))) → ExplainsTaken post (ItemsMayCome None old) new (Err (of_stream f))
      by (inl out) = inl (ap of_stream out)
      by (inr m) = inr (ended (Failed (stream_fault f)), m, inl (ap (λ g. ended (Failed g)) (sym (of_stream_is f))))

-- the same of a reader that has read an item ahead
module _ {R A T : Type 0} (post : Item → Result (Option T) CommandFault → Type 0) (old new : Ahead R A) (h : Held A) (i : Item) (before : old.held ≡ Some h) (same : item_of i ≡ shown_held_item h) (taken : Option T) where
  pub ahead_read : new ≡ record { alloc = old.alloc; items = old.items; held = None } → is_some taken ≡ true → post i (Ok taken) → ExplainsTaken post (MayBeAhead old) (MayBeAhead new) (Ok taken)
  unfolding MayBeAhead
  ahead_read after some read =
      subst (λ (n : Ahead R A). ExplainsTaken post (MayBeAhead old) (MayBeAhead n) (Ok taken)) (sym after)
      (subst (λ a. ExplainsTaken post (ItemsMayCome (option_map shown_held_item a) old.items) (ItemsMayCome None old.items) (Ok taken)) (sym before)
      (held_read post i (shown_held_item h) same old.items taken some read))

  pub ahead_unread : new ≡ old → is_some taken ≡ false → post i (Ok taken) → ExplainsTaken post (MayBeAhead old) (MayBeAhead new) (Ok taken)
  unfolding MayBeAhead
  ahead_unread after none read =
      subst (λ (n : Ahead R A). ExplainsTaken post (MayBeAhead old) (MayBeAhead n) (Ok taken)) (sym after)
      (subst (λ a. ExplainsTaken post (ItemsMayCome (option_map shown_held_item a) old.items) (ItemsMayCome (option_map shown_held_item a) old.items) (Ok taken)) (sym before)
      (held_unread post i (shown_held_item h) same old.items taken none read))

-- ---- a fault, by what it may be of

-- of these items the definition gives this fault, or memory ran out
refused_at : {X Y : Type 0} (view : X → Y) (reading : Stream → Read Y) (old new : Stream → Type 0) (s : Stream) (f : CommandFault) → old s → Fails f (reading s)
    → Explains view reading old new (Err f)
unfolding Explains
refused_at view reading old new s f o (inl out) = inl out
refused_at view reading old new s f o (inr e) = inr (s, o, e)

begins_refused : {X Y : Type 0} (going : X → Stream → Read (Option Y)) (reading : Stream → Read (Option Y)) (old new : Stream → Type 0) (s : Stream) (f : CommandFault) → old s → Fails f (reading s)
    → ExplainsFrom going reading old new (Err f)
begins_refused going reading old new s f o (inl out) = inl out
begins_refused going reading old new s f o (inr e) = inr (s, o, e)

-- ---- lines

module _ {T : Type 0} (post : Item → Result (Option T) CommandFault → Type 0) (answers : Bor Bytes → Result T CommandFault → Type 0) (word : Bytes) (old new : Stream → Type 0) where
  line_refused : (s : Stream) (f : CommandFault) → old s → Fails f (rest_line word s) → ExplainsLine word answers old new (Err f)
  line_refused s f o (inl out) = inl out
  line_refused s f o (inr e) = inr (s, o, inl e)

  -- the item that is taken as a line
  pub explained_taken : (r : Result (Option T) CommandFault) → ((i : Item) (q : Result (Option T) CommandFault) → post i q → AnswersRest answers word i q)
      → ExplainsTaken post old new r → ExplainsLine word answers old new r
  explained_taken (Ok None) says h = λ t n.
      let a = h t n in (
        t,
        a.0,
        elim a.1 as (λ _. rest_line word t ≡ Ok (None, t)) [
          | inl end ↦ no_line word t end
          | inr l ↦ line_of_none word l.1.item t l.0 l.1.first (says l.1.item (Ok None) l.1.read)
        ],
      )
  explained_taken (Ok (Some x)) says h = λ t n.
      let a = h t n in
      let r : AnswersRest answers word a.2.item (Ok (Some x)) = says a.2.item (Ok (Some x)) a.2.read in
      (a.0, a.1, record { rest = r.rest; line = line_of_some word a.2.item a.0 t r.rest.now a.2.first r.line; read = r.read })
  explained_taken (Err f) says (inl out) = inl out
  explained_taken (Err f) says (inr (s, o, inl end)) = line_refused s f o (failed_line word s f end)
  explained_taken (Err f) says (inr (s, o, inr (left, n))) = by (says n.item (Err f) n.read) where
    by : AnswersRest answers word n.item (Err f) → ExplainsLine word answers old new (Err f)
    by (inl fault) = line_refused s f o (line_of_fault word n.item s left f n.first fault)
    by (inr a) = inr (s, o, inr (left, record { rest = a.rest; line = line_of_some word n.item s left a.rest.now n.first a.line; read = a.read }))

-- what is read of the rest of a line
pub explained_line : {X Y : Type 0} (view : X → Y) (reading : Bytes → Given Y) (answers : Bor Bytes → Result X CommandFault → Type 0) (word : Bytes) (old new : Stream → Type 0) (r : Result (Option X) CommandFault)
    → Says view reading answers word → ExplainsLine word answers old new r → Explains (option_map view) (optional word reading) old new r
unfolding Explains
explained_line view reading answers word old new (Ok None) says h = λ t n.
    let a = h t n in
    (a.0, a.1, rw a.2 refl)
explained_line view reading answers word old new (Ok (Some x)) says h = λ t n.
    let a = h t n in
    (a.0, a.1, rw (a.2.line, says a.2.rest (Ok x) a.2.read) refl)
explained_line view reading answers word old new (Err f) says (inl out) = inl out
explained_line view reading answers word old new (Err f) says (inr (s, o, inl e)) = inr (s, o, rw e refl)
explained_line view reading answers word old new (Err f) says (inr (s, o, inr (left, n))) =
    refused_at (option_map view) (optional word reading) old new s f o (line_fails view reading answers word s left f n.rest n.line (says n.rest (Err f) n.read))

-- the same of what is seen as it is
pub explained_plain_line : {X : Type 0} (reading : Bytes → Given X) (answers : Bor Bytes → Result X CommandFault → Type 0) (word : Bytes) (old new : Stream → Type 0) (r : Result (Option X) CommandFault)
    → ((rest : Bor Bytes) (q : Result X CommandFault) → answers rest q → Gives fault_of (λ x. x) q (reading rest.now)) → ExplainsLine word answers old new r → Explains (λ x. x) (optional word reading) old new r
unfolding Explains
explained_plain_line reading answers word old new (Ok None) says h = explained_line (λ x. x) reading answers word old new (Ok None) says h
explained_plain_line reading answers word old new (Ok (Some x)) says h = explained_line (λ x. x) reading answers word old new (Ok (Some x)) says h
explained_plain_line reading answers word old new (Err f) says h = explained_line (λ x. x) reading answers word old new (Err f) says h

-- ---- changes

pub explained_change : {A : Type 0} (post : Item → Result (Option (ChangeLine A)) CommandFault → Type 0) (old new : Stream → Type 0) (r : Result (Option (ChangeLine A)) CommandFault)
    → ((i : Item) (q : Result (Option (ChangeLine A)) CommandFault) → post i q → (s : Stream) → ChangeIn (item_of i) s q) → ExplainsTaken post old new r → ExplainsFrom begun_change next_change old new r
explained_change {A} post old new (Ok None) says h = λ t n.
    let a = h t n in (
      t,
      a.0,
      elim a.1 as (λ _. next_change t ≡ Ok (None, t)) [
        | inl end ↦ change_none t end
        | inr l ↦ change_not A l.1.item t l.0 l.1.first (says l.1.item (Ok None) l.1.read l.0)
      ],
    )
explained_change post old new (Ok (Some line)) says h = λ t n.
    let a = h t n in
    (a.0, a.1, change_begun a.2.item a.0 t line a.2.first (says a.2.item (Ok (Some line)) a.2.read t))
explained_change post old new (Err f) says (inl out) = inl out
explained_change {A} post old new (Err f) says (inr (s, o, inl end)) = begins_refused {X = ChangeLine A} begun_change next_change old new s f o (change_failed s f end)
explained_change {A} post old new (Err f) says (inr (s, o, inr (left, n))) =
    begins_refused {X = ChangeLine A} begun_change next_change old new s f o (change_refused A n.item s left f n.first (says n.item (Err f) n.read left))

-- ---- the lines that begin commands

pub explained_start : {A : Type 0} (post : Item → Result (Option (Start A)) CommandFault → Type 0) (early : Bool) (old new : Stream → Type 0) (r : Result (Option (Start A)) CommandFault)
    → ((i : Item) (q : Result (Option (Start A)) CommandFault) → post i q → (s : Stream) → BeginsIn early (item_of i) s q) → ExplainsTaken post old new r → ExplainsFrom (started early) (first early) old new r
explained_start {A} post early old new (Ok None) says h = λ t n.
    let a = h t n in (
      t,
      a.0,
      elim a.1 as (λ _. first early t ≡ Ok (None, t)) [
        | inl end ↦ first_none early t end
        | inr l ↦ absurd (never_passed A early l.1.item l.0 (says l.1.item (Ok None) l.1.read l.0))
      ],
    )
explained_start post early old new (Ok (Some line)) says h = λ t n.
    let a = h t n in
    (a.0, a.1, first_started early a.2.item a.0 t line a.2.first (says a.2.item (Ok (Some line)) a.2.read t))
explained_start post early old new (Err f) says (inl out) = inl out
explained_start {A} post early old new (Err f) says (inr (s, o, inl end)) = begins_refused {X = Start A} (started early) (first early) old new s f o (first_failed early s f end)
explained_start {A} post early old new (Err f) says (inr (s, o, inr (left, n))) =
    begins_refused {X = Start A} (started early) (first early) old new s f o (first_refused A early n.item s left f n.first (says n.item (Err f) n.read left))

-- whatever may still come begins with the same command as what came before it
abbrev pub BeginsAlike : Bool → (Stream → Type 0) → (Stream → Type 0) → Type 0
BeginsAlike early old now = (t : Stream) → now t → (s : Stream) × old s × (first early s ≡ first early t)

pub begins_alike : (early : Bool) (old : Stream → Type 0) → BeginsAlike early old old
begins_alike early old = λ t n. (t, n, refl)

module _ (A : Type 0) (early : Bool) (old now new : Stream → Type 0) (same : BeginsAlike early old now) where
  -- an empty line was taken
  pub alike_past : ExplainsFrom {X = Start A} (started early) (first early) now new (Ok (Some start.Empty)) → BeginsAlike early old new
  alike_past h = λ t n.
      let b = h t n in
      let a = same b.0 b.1 in
      (a.0, a.1, a.2 ∙ b.2)

  -- none begins
  pub no_head : ExplainsFrom {X = Start A} (started early) (first early) now new (Ok None) → ExplainsFrom {X = Head A} begun_there (first early) old new (Ok None)
  no_head h = λ t n.
      let b = h t n in
      let a = same b.0 b.1 in
      (a.0, a.1, a.2 ∙ b.2)

  -- one begins
  pub there_head : (head : Head A) → ExplainsFrom (started early) (first early) now new (Ok (Some (start.Head head))) → ExplainsFrom begun_there (first early) old new (Ok (Some head))
  there_head head h = λ t n.
      let b = h t n in
      let a = same b.0 b.1 in
      (a.0, a.1, a.2 ∙ b.2)

  -- one is refused
  pub refused_head : (new' : Stream → Type 0) (f : CommandFault) → ExplainsFrom {X = Start A} (started early) (first early) now new (Err f) → ExplainsFrom {X = Head A} begun_there (first early) old new' (Err f)
  refused_head new' f (inl out) = inl out
  refused_head new' f (inr (u, m, e)) =
      let a = same u m in
      inr (a.0, a.1, a.2 ∙ e)
