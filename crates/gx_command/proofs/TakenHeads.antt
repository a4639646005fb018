-- The item that comes next as the line that begins a command.
use Rattle.std.proofs.Common.{◌≡◌, Bool, [], ◌∷◌, Option, Some, None, Result, Ok, Err, refl, ap, subst, ◌∙◌, inl, inr}
use Rattle.std.specs.Option.{option_map}
use Rattle.gx_model.specs.Texts.{Bytes}
use Rattle.gx_model.specs.Streams.Items as model
use Rattle.gx_model.specs.Streams.Items.{Stream, then_comes, Finished, Failed}
use Rattle.gx_model.specs.Streams.Grammar.{command_at}
use Rattle.gx_model.specs.Streams.Lines.{words_of}
use Rattle.gx_stream.specs.Faults.{ended}
use Rattle.gx_stream.specs.Reading.{item_of}
use Rattle.gx_stream.specs.declared.item.Item.{Item}
use Rattle.gx_stream.specs.declared.item.Item.TheVariants as items
use Rattle.gx_command.specs.CommandFaults.{fault_of}
use Rattle.gx_command.specs.Ahead.{Fails, Reads, Takes}
use Rattle.gx_command.specs.Heads.{BeginsAt, BeginsIn, TakesHead, TakesStart, begun, first, first_in, started, there}
use Rattle.gx_command.specs.Views.{shown_command}
use Rattle.gx_command.specs.declared.commands.Command.{Command}
use Rattle.gx_command.specs.declared.heads.Head.{Head}
use Rattle.gx_command.specs.declared.heads.Start.{Start}
use Rattle.gx_command.specs.declared.heads.Start.TheVariants as start
use Rattle.gx_command.specs.declared.fault.CommandFault.{CommandFault}
use Rattle.gx_command.specs.declared.fault.CommandFault.TheVariants as faults

pub first_none : (early : Bool) (s : Stream) → s ≡ ended Finished → first early s ≡ Ok (None, s)
unfolding first_in
first_none early s end = rw end refl

pub first_failed : (early : Bool) (s : Stream) (f : CommandFault) → s ≡ ended (Failed (fault_of f)) → Fails f (first early s)
unfolding first_in
first_failed early s f end = inr (rw end refl)

-- each item is taken
pub never_passed : (A : Type 0) (early : Bool) (i : Item) (s : Stream) → BeginsIn {A = A} early (item_of i) s (Ok None) → ⊥
never_passed A early (items.Data b) s h = absurd cc
never_passed A early (items.Line l) s h = by l.now h where
  by : (bs : Bytes) → BeginsIn {A = A} early (model.Line bs) s (Ok None) → ⊥
  by [] h = absurd cc
  by (b ∷ bs) h = h

pub first_started : {A : Type 0} (early : Bool) (i : Item) (s left : Stream) (line : Start A) → s ≡ then_comes (item_of i) left → BeginsIn early (item_of i) left (Ok (Some line)) → first early s ≡ started early line left
unfolding first_in
first_started early (items.Data b) s left line begins h = absurd cc
first_started {A} early (items.Line l) s left line begins h = by l.now begins h where
  by : (bs : Bytes) → s ≡ then_comes (model.Line bs) left → BeginsIn early (model.Line bs) left (Ok (Some line)) → first_in early s.items s ≡ started early line left
  by [] is h = rw is (empty line h) where
    empty : (line : Start A) → BeginsIn early (model.Line []) left (Ok (Some line)) → first early left ≡ started early line left
    empty start.Empty e = refl
    empty (start.Head made) e = absurd cc
  by (b ∷ bs) is h = rw is (begun_at line h) where
    begun_at : (line : Start A) → BeginsAt left (Ok (Some line)) (command_at early (words_of (b ∷ bs)) left) → there (command_at early (words_of (b ∷ bs)) left) ≡ started early line left
    begun_at start.Empty e = absurd e
    begun_at (start.Head made) e = ap there e

pub first_refused : (A : Type 0) (early : Bool) (i : Item) (s left : Stream) (f : CommandFault) → s ≡ then_comes (item_of i) left → BeginsIn {A = A} early (item_of i) left (Err f) → Fails f (first early s)
unfolding first_in
first_refused A early (items.Data b) s left f is h = let same : faults.UnknownCommand ≡ f = cc in inr (rw is (ap (λ f. Err (fault_of f)) same))
first_refused A early (items.Line l) s left f is h = by l.now is h where
  by : (bs : Bytes) → s ≡ then_comes (model.Line bs) left → BeginsIn {A = A} early (model.Line bs) left (Err f) → Fails f (first early s)
  by [] is h = absurd cc
  by (b ∷ bs) is (inl out) = inl out
  by (b ∷ bs) is (inr e) = inr (rw is (ap there e))

pub takes_start : {A : Type 0} (post : Item → Result (Option (Start A)) CommandFault → Type 0) (early : Bool) (old new : Option Stream) (r : Result (Option (Start A)) CommandFault) → ((i : Item) (q : Result (Option (Start A)) CommandFault) → post i q → (s : Stream) → BeginsIn early (item_of i) s q) → Takes post old new r → TakesStart early old new r
takes_start post early None new r says h = tt
takes_start post early (Some s) new (Ok None) says (same, inl end) = (same, first_none early s end)
takes_start {A} post early (Some s) new (Ok None) says (same, inr (left, n)) = absurd (never_passed A early n.item left (says n.item (Ok None) n.read left))
takes_start post early (Some s) new (Ok (Some line)) says (left, n, same) = (left, same, first_started early n.item s left line n.first (says n.item (Ok (Some line)) n.read left))
takes_start post early (Some s) new (Err f) says (inl out) = inl out
takes_start post early (Some s) new (Err f) says (inr (inl end)) = first_failed early s f end
takes_start {A} post early (Some s) new (Err f) says (inr (inr (left, n))) = first_refused A early n.item s left f n.first (says n.item (Err f) n.read left)

-- ---- past empty lines

-- what is still to come begins with the same command
abbrev pub SameFirst : Bool → Option Stream → Option Stream → Type 0
SameFirst early None now = Unit {0}
SameFirst early (Some s) now = (t : Stream) × (now ≡ Some t) × (first early s ≡ first early t)

pub same_first : (early : Bool) (old : Option Stream) → SameFirst early old old
same_first early None = tt
same_first early (Some s) = (s, refl, refl)

module _ (A : Type 0) (early : Bool) where
  pub same_past : (old now new : Option Stream) → SameFirst early old now → TakesStart {A = A} early now new (Ok (Some start.Empty)) → SameFirst early old new
  same_past None now new h k = tt
  same_past (Some s) now new (t, is, e) k =
      let l = subst (λ m. TakesStart {A = A} early m new (Ok (Some start.Empty))) is k in
      (l.0, l.1, e ∙ l.2)

  pub head_none : (old now new : Option Stream) → SameFirst early old now → TakesStart {A = A} early now new (Ok None) → TakesHead {A = A} early old new (Ok None)
  head_none None now new h k = tt
  head_none (Some s) now new (t, is, e) k =
      let l = subst (λ m. TakesStart {A = A} early m new (Ok None)) is k in
      (t, l.0, e ∙ l.1)

  pub head_there : (old now new : Option Stream) (head : Head A) → SameFirst early old now → TakesStart early now new (Ok (Some (start.Head head))) → TakesHead early old new (Ok (Some head))
  head_there None now new head h k = tt
  head_there (Some s) now new head (t, is, e) k =
      let l = subst (λ m. TakesStart early m new (Ok (Some (start.Head head)))) is k in
      (l.0, l.1, e ∙ l.2)

  pub head_refused : (old now new new' : Option Stream) (f : CommandFault) → SameFirst early old now → TakesStart {A = A} early now new (Err f) → TakesHead {A = A} early old new' (Err f)
  head_refused None now new new' f h k = tt
  head_refused (Some s) now new new' f (t, is, e) k = by (subst (λ m. TakesStart {A = A} early m new (Err f)) is k) where
    by : Fails f (first early t) → Fails f (first early s)
    by (inl out) = inl out
    by (inr g) = inr (e ∙ g)

-- ---- the command that begins so

pub body_reads : {A : Type 0} (early : Bool) (head : Head A) (made : Command A) (old mid new : Option Stream) → TakesHead early old mid (Ok (Some head)) → Reads shown_command (begun head) mid new (Ok made) → Reads (option_map shown_command) (first early) old new (Ok (Some made))
body_reads early head made None mid new h k = tt
body_reads early head made (Some s) mid new (left, is, e) k =
    let l = subst (λ (m : Option Stream). Reads shown_command (begun head) m new (Ok made)) is k in
    (l.0, l.1, e ∙ ap there l.2)

module _ (A : Type 0) (early : Bool) where
  pub no_command : (old new : Option Stream) → TakesHead {A = A} early old new (Ok None) → Reads {X = Option (Command A)} (option_map shown_command) (first early) old new (Ok None)
  no_command None new h = tt
  no_command (Some s) new h = h

  pub command_refused : (old new new' : Option Stream) (f : CommandFault) → TakesHead {A = A} early old new (Err f) → Reads {X = Option (Command A)} (option_map shown_command) (first early) old new' (Err f)
  command_refused None new new' f h = tt
  command_refused (Some s) new new' f h = h

  pub body_fails : (head : Head A) (old mid new new' : Option Stream) (f : CommandFault) → TakesHead early old mid (Ok (Some head)) → Reads {X = Command A} shown_command (begun head) mid new (Err f) → Reads {X = Option (Command A)} (option_map shown_command) (first early) old new' (Err f)
  body_fails head None mid new new' f h k = tt
  body_fails head (Some s) mid new new' f (left, is, e) k = by (subst (λ (m : Option Stream). Reads {X = Command A} shown_command (begun head) m new (Err f)) is k) where
    by : Fails f (begun head left) → Fails f (first early s)
    by (inl out) = inl out
    by (inr g) = inr (e ∙ ap there g)
