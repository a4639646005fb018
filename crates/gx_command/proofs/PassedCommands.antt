-- Commands that were read one by one, and what is left of the items behind them.
use Rattle.std.proofs.Common.{◌≡◌, ℕ, zero, suc, ◌+◌, ◌-◌, ◌<◌, ◌⊎◌, true, false, Option, Some, None, Ok, Err, List, [], ◌∷◌, ◌++◌, Bool, refl, ap, subst, ◌∙◌, inl, inr, arith}
use Rattle.std.specs.Prelude.{◌&&◌, ◌||◌, if◌then◌else◌}
use Rattle.std.specs.List.{list_all, list_any}
use Rattle.std.specs.Option.{option_map}
use Rattle.gx_model.specs.Faults.{Given, ◌>>=◌}
use Rattle.gx_model.specs.Streams.Items.{Stream}
use Rattle.gx_model.specs.Streams.Commands as model
use Rattle.gx_model.specs.Streams.Grammar.{asks_done, is_done, is_option}
use Rattle.gx_model.specs.Streams.Lines.{Read}
use Rattle.gx_command.specs.Ahead.{Fails}
use Rattle.gx_command.specs.Ahead as ahead
use Rattle.gx_command.specs.Behind.{FailsAt, Passes, at_start, fault_at, from_next, left_behind, next_behind, or_missing_done, or_none}
use Rattle.gx_command.specs.Heads.{first}
use Rattle.gx_command.specs.CommandFaults.{fault_of}
use Rattle.gx_command.specs.Reading.{next_after, or_missing, state_after}
use Rattle.gx_command.specs.Views.{shown_command}
use Rattle.gx_command.specs.declared.behind.BehindFault.TheVariants as behind
use Rattle.gx_command.specs.declared.commands.Command.{Command}
use Rattle.gx_command.specs.declared.fault.CommandFault.{CommandFault}
use Rattle.gx_command.specs.declared.fault.CommandFault.TheVariants as faults
use Rattle.gx_command.specs.declared.reader.Options.{Options}
use Rattle.gx_command.specs.declared.reader.State.{State}
use Rattle.gx_command.specs.declared.reader.State.TheVariants.{Open, Ended, Failed}
use Rattle.gx_model.proofs.Streams.AskedFeatures.{all_more, any_more}

-- ---- one command more

pub left_zero : (before : List model.Command) (t : Stream) → left_behind zero before t ≡ Ok (Some (from_next t))
unfolding left_behind
left_zero before t = refl

-- what follows the command that comes next
abbrev pub left_by : ℕ → List model.Command → Read (Option model.Command) → Given (Option Stream)
left_by n before r = r >>= λ x. or_none x.0 (λ c. left_behind n (before ++ c ∷ []) x.1)

pub left_next : (n : ℕ) (before : List model.Command) (t : Stream) → list_any is_done before ≡ false → left_behind (suc n) before t ≡ left_by n before (next_behind before t)
unfolding left_behind
left_next n before t goes_on = rw goes_on refl

pub left_over : (n : ℕ) (before : List model.Command) (t : Stream) → list_any is_done before ≡ true → left_behind (suc n) before t ≡ Ok None
unfolding left_behind
left_over n before t over = rw over refl

-- ---- the commands that were read

-- the reader's state after these commands
abbrev pub StandsAfter : List model.Command → State → Type 0
StandsAfter before (Open o) = (list_any is_done before ≡ false) × (list_all is_option before ≡ o.are_all) × (list_any asks_done before ≡ o.needs_done)
StandsAfter before Ended = list_any is_done before ≡ true
StandsAfter before (Failed f) = ⊥

-- no command comes in this state
abbrev pub IsOver : State → Type 0
IsOver (Open o) = ⊥
IsOver Ended = Unit {0}
IsOver (Failed f) = Unit {0}

pub over_unless : (state : State) → ((o : Options) → state ≡ Open o → ⊥) → IsOver state
over_unless (Open o) unless = unless o refl
over_unless Ended unless = tt
over_unless (Failed f) unless = tt

is_over : (before : List model.Command) (state : State) → IsOver state → StandsAfter before state → list_any is_done before ≡ true
is_over before (Open o) over stands = absurd over
is_over before Ended over stands = stands
is_over before (Failed f) over stands = absurd stands

or_missing_is : (before : List model.Command) (o : Options) (r : Read (Option model.Command)) → list_any asks_done before ≡ o.needs_done → (r >>= or_missing_done before) ≡ (r >>= or_missing o)
or_missing_is before o (Err f) needs = refl
or_missing_is before o (Ok (None, t)) needs = rw needs refl
or_missing_is before o (Ok (Some c, t)) needs = refl

-- the reader's next command is the model's
next_is : (before : List model.Command) (o : Options) (t : Stream) → StandsAfter before (Open o) → next_behind before t ≡ next_after o t
next_is before o t stands = ap (λ early. (first early t >>= or_missing_done before)) stands.1 ∙ or_missing_is before o (first o.are_all t) stands.2

left_by_state : (n : ℕ) (before : List model.Command) (o : Options) (t : Stream) (r : Read (Option model.Command)) → StandsAfter before (Open o) → next_after o t ≡ r → left_behind (suc n) before t ≡ left_by n before r
left_by_state n before o t r stands e = left_next n before t stands.0 ∙ ap (left_by n before) (next_is before o t stands ∙ e)

stands_more : (before : List model.Command) (o : Options) (c : model.Command) → StandsAfter before (Open o) → StandsAfter (before ++ c ∷ []) (state_after o c)
stands_more before o c stands = by (is_done c) refl where
  done : list_any is_done (before ++ c ∷ []) ≡ (list_any is_done before || is_done c)
  done = any_more is_done before c

  by : (d : Bool) → is_done c ≡ d → StandsAfter (before ++ c ∷ []) (if d then Ended else Open (record { are_all = o.are_all && is_option c; needs_done = o.needs_done || asks_done c }))
  by true e = done ∙ rw (stands.0, e) refl
  by false e = (done ∙ rw (stands.0, e) refl, all_more is_option before c ∙ ap (λ a. a && is_option c) stands.1, any_more asks_done before c ∙ ap (λ a. a || asks_done c) stands.2)

-- so many commands were read, and this is what is left
abbrev pub ArePassed : ℕ → State → Option Stream → Option Stream → Type 0
ArePassed passed state None now = Unit {0}
ArePassed passed state (Some s) now = (before : List model.Command) × (t : Stream) × (now ≡ Some t) × StandsAfter before state × ((n : ℕ) → left_behind (passed + n) [] s ≡ left_behind n before t)

pub passed_none : (old : Option Stream) → ArePassed 0 (at_start model.no_features) old old
passed_none None = tt
passed_none (Some s) = ([], s, refl, (refl, refl, refl), λ n. ap (λ k. left_behind k [] s) (omega arith))

pub passed_more : {A : Type 0} (passed : ℕ) (o : Options) (c : Command A) (old now new : Option Stream) → ArePassed passed (Open o) old now → ahead.Reads (option_map shown_command) (next_after o) now new (Ok (Some c)) → ArePassed (passed + 1) (state_after o (shown_command c)) old new
passed_more passed o c None now new h k = tt
passed_more passed o c (Some s) now new (before, t, is, stands, e) k =
    let l = subst (λ (m : Option Stream). ahead.Reads (option_map shown_command) (next_after o) m new (Ok (Some c))) is k in
    let one : (n : ℕ) → passed + 1 + n ≡ passed + suc n = λ n. omega arith in
    (before ++ shown_command c ∷ [], l.0, l.1, stands_more before o (shown_command c) stands, λ n. ap (λ k. left_behind k [] s) (one n) ∙ e (suc n) ∙ left_by_state n before o t _ stands l.2)

pub passes_all : (passed n : ℕ) (state : State) (old now : Option Stream) → passed ≡ n → ArePassed passed state old now → Passes n old now (Ok true)
passes_all passed n state None now same h = tt
passes_all passed n state (Some s) now same (before, t, is, stands, e) =
    let all : n ≡ passed + 0 = omega (arith, same) in
    (t, is, ap (λ k. left_behind k [] s) all ∙ e 0 ∙ left_zero before t)

-- the commands that are still wanted
wanted : (passed n : ℕ) → passed < n → n ≡ passed + suc (n - passed - 1)
wanted passed n less = omega (arith, less)

pub passes_over : (passed n : ℕ) (state : State) (old now : Option Stream) → passed < n → IsOver state → ArePassed passed state old now → Passes n old now (Ok false)
passes_over passed n state None now less over h = tt
passes_over passed n state (Some s) now less over (before, t, is, stands, e) =
    ap (λ k. left_behind k [] s) (wanted passed n less) ∙ e (suc (n - passed - 1)) ∙ left_over (n - passed - 1) before t (is_over before state over stands)

pub passes_end : (A : Type 0) (passed n : ℕ) (o : Options) (old now new : Option Stream) → passed < n → ArePassed passed (Open o) old now → ahead.Reads {X = Option (Command A)} (option_map shown_command) (next_after o) now new (Ok None) → Passes n old new (Ok false)
passes_end A passed n o None now new less h k = tt
passes_end A passed n o (Some s) now new less (before, t, is, stands, e) k =
    let l = subst (λ (m : Option Stream). ahead.Reads {X = Option (Command A)} (option_map shown_command) (next_after o) m new (Ok None)) is k in
    ap (λ k. left_behind k [] s) (wanted passed n less) ∙ e (suc (n - passed - 1)) ∙ left_by_state (n - passed - 1) before o t _ stands l.2

-- ---- a fault

which : (k : ℕ) (f : CommandFault) → (fault_at k f ≡ behind.OutOfMemory) ⊎ (fault_at k f ≡ behind.Command k f)
which k faults.OutOfMemory = inl refl
which k faults.ReadFailed = inr refl
which k faults.TruncatedData = inr refl
which k faults.BadNumber = inr refl
which k faults.UnknownCommand = inr refl
which k faults.BadLine = inr refl
which k faults.BadPath = inr refl
which k faults.PathTooLong = inr refl
which k faults.BadMode = inr refl
which k faults.BadIdent = inr refl
which k faults.BadRefName = inr refl
which k faults.Unsupported = inr refl
which k faults.LateOption = inr refl
which k faults.MissingDone = inr refl

pub passes_fault : (A : Type 0) (passed n : ℕ) (o : Options) (f : CommandFault) (old now new new' : Option Stream) → passed < n → ArePassed passed (Open o) old now → ahead.Reads {X = Option (Command A)} (option_map shown_command) (next_after o) now new (Err f) → Passes n old new' (Err (fault_at (passed + 1) f))
passes_fault A passed n o f None now new new' less h k = tt
passes_fault A passed n o f (Some s) now new new' less (before, t, is, stands, e) k = by (subst (λ (m : Option Stream). ahead.Reads {X = Option (Command A)} (option_map shown_command) (next_after o) m new (Err f)) is k) where
  fails : next_after o t ≡ Err (fault_of f) → FailsAt n (passed + 1) f s
  fails fault =
      let none : passed + 1 - 1 ≡ passed + 0 = omega arith in
      let one : passed + 1 ≡ passed + suc 0 = omega arith in
      record {
        from = omega arith;
        among = omega (arith, less);
        before = (from_next t, ap (λ k. left_behind k [] s) none ∙ e 0 ∙ left_zero before t);
        fault = ap (λ k. left_behind k [] s) one ∙ e (suc 0) ∙ left_by_state 0 before o t _ stands fault;
      }

  by : Fails f (next_after o t) → Passes n (Some s) new' (Err (fault_at (passed + 1) f))
  by (inl out) = rw out tt
  by (inr fault) = at (which (passed + 1) f) where
    at : (fault_at (passed + 1) f ≡ behind.OutOfMemory) ⊎ (fault_at (passed + 1) f ≡ behind.Command (passed + 1) f) → Passes n (Some s) new' (Err (fault_at (passed + 1) f))
    at (inl m) = rw m tt
    at (inr m) = rw m (fails fault)
