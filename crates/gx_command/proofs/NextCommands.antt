-- What a reader of commands answers and leaves.
use Rattle.std.proofs.Common.{◌≡◌, Bool, true, false, cond, [], ◌∷◌, ◌++◌, length, Option, Some, None, Result, Ok, Err, refl, sym, ap, subst, ◌∙◌, ◌⊎◌, inl, inr}
use Rattle.std.specs.Prelude.{◌&&◌, ◌||◌, if◌then◌else◌}
use Rattle.std.specs.Option.{option_map}
use Rattle.std.specs.List.{list_any, list_all}
use Rattle.gx_model.specs.declared.faults.Fault.{Fault}
use Rattle.gx_model.specs.declared.faults.Fault.TheVariants as faults
use Rattle.gx_model.specs.Faults.{◌>>=◌}
use Rattle.gx_model.specs.Streams.Items.{Finished, Stream}
use Rattle.gx_model.specs.Streams.Commands as model
use Rattle.gx_model.specs.Streams.Commands.{Commands}
use Rattle.gx_model.specs.Streams.Grammar.{is_option, asks_done, is_done, fault_at_end, stops, with_command}
use Rattle.gx_model.specs.Streams.Lines.{Read}
use Rattle.gx_command.specs.Ahead.{Fails}
use Rattle.gx_command.specs.Ahead as ahead
use Rattle.gx_command.specs.CommandFaults.{fault_of}
use Rattle.gx_command.specs.Heads.{first}
use Rattle.gx_command.specs.Reading.{Seen, Reads, Repeats, before_of, commands_after, next_after, or_missing, over_after, over_of, shown_commands, state_after}
use Rattle.gx_command.specs.Views.{shown_command}
use Rattle.gx_command.specs.declared.commands.Command.{Command}
use Rattle.gx_command.specs.declared.fault.CommandFault.{CommandFault}
use Rattle.gx_command.specs.declared.fault.CommandFault.TheVariants as own
use Rattle.gx_command.specs.declared.reader.Options.{Options}
use Rattle.gx_command.specs.declared.reader.State.TheVariants.{Open, Ended}
use Rattle.gx_model.proofs.Streams.AskedFeatures.{all_more, any_more, same_before}
use Rattle.gx_command.proofs.Steps.{commands_unrolled, led}

-- ---- the commands that stand for those before

early_is : (o : Options) → list_all is_option (before_of o) ≡ o.are_all
early_is o = by o.are_all o.needs_done where
  by : (a n : Bool) → list_all is_option (before_of (record { are_all = a; needs_done = n })) ≡ a
  by true true = refl
  by true false = refl
  by false true = refl
  by false false = refl

needs_is : (o : Options) → list_any asks_done (before_of o) ≡ o.needs_done
needs_is o = by o.are_all o.needs_done where
  by : (a n : Bool) → list_any asks_done (before_of (record { are_all = a; needs_done = n })) ≡ n
  by true true = refl
  by true false = refl
  by false true = refl
  by false false = refl

abbrev pub options_after : Options → model.Command → Options
options_after o c = record { are_all = o.are_all && is_option c; needs_done = o.needs_done || asks_done c }

pub later_is : (o : Options) (c : model.Command) (t : Stream) → commands_after (before_of o ++ c ∷ []) t ≡ commands_after (before_of (options_after o c)) t
later_is o c t = same_before (length t.items) (before_of o ++ c ∷ []) (before_of (options_after o c)) t.items t.end
    (all_more is_option (before_of o) c ∙ ap (λ a. a && is_option c) (early_is o) ∙ sym (early_is (options_after o c)))
    (any_more asks_done (before_of o) c ∙ ap (λ a. a || asks_done c) (needs_is o) ∙ sym (needs_is (options_after o c)))

-- ---- what is still to come, by the first command

pub led_is : (o : Options) (s : Stream) (r : Read (Option model.Command)) → first o.are_all s ≡ r → commands_after (before_of o) s ≡ led (before_of o) r
led_is o s r e = commands_unrolled (before_of o) s ∙ ap (λ a. led (before_of o) (first a s)) (early_is o) ∙ ap (led (before_of o)) e

abbrev given : Option model.Command × Stream → Read (Option model.Command)
given x = Ok x

abbrev refused : Fault → Read (Option model.Command)
refused f = Err f

pub after_some : (o : Options) (r : Read (Option model.Command)) (c : model.Command) (t : Stream) → (r >>= or_missing o) ≡ Ok (Some c, t) → r ≡ Ok (Some c, t)
after_some o (Err f) c t e = absurd cc
after_some o (Ok (Some d, u)) c t e = e
after_some o (Ok (None, u)) c t e = by o.needs_done e where
  by : (b : Bool) → cond b (refused faults.MissingDone) (given (None, u)) ≡ given (Some c, t) → given (None, u) ≡ given (Some c, t)
  by true e = absurd cc
  by false e = e

-- whether `done` is missing at the end
missing : (o : Options) → fault_at_end (before_of o) Finished ≡ (if o.needs_done then Some faults.MissingDone else None)
missing o = ap (λ b. if b then Some faults.MissingDone else None) (needs_is o)

pub after_none : (o : Options) (r : Read (Option model.Command)) (t : Stream) → (r >>= or_missing o) ≡ Ok (None, t) → led (before_of o) r ≡ stops None
after_none o (Err f) t e = absurd cc
after_none o (Ok (Some d, u)) t e = absurd (some_is_none d (ap (λ (q : Option model.Command × Stream). q.0) (both (Some d, u) (None, t) e))) where
  both : (x y : Option model.Command × Stream) → given x ≡ given y → x ≡ y
  both x y e = cc

  some_is_none : (d : model.Command) → Some d ≡ None → ⊥
  some_is_none d e = absurd cc
after_none o (Ok (None, u)) t e = ap stops (missing o) ∙ by o.needs_done e where
  by : (b : Bool) → cond b (refused faults.MissingDone) (given (None, u)) ≡ given (None, t) → stops (if b then Some faults.MissingDone else None) ≡ stops None
  by true e = absurd cc
  by false e = refl

pub after_fault : (o : Options) (r : Read (Option model.Command)) (f : Fault) → (r >>= or_missing o) ≡ Err f → led (before_of o) r ≡ stops (Some f)
after_fault o (Err g) f e = let same : g ≡ f = cc in ap (λ h. stops (Some h)) same
after_fault o (Ok (Some d, u)) f e = absurd cc
after_fault o (Ok (None, u)) f e = ap stops (missing o) ∙ by o.needs_done e where
  by : (b : Bool) → cond b (refused faults.MissingDone) (given (None, u)) ≡ refused f → stops (if b then Some faults.MissingDone else None) ≡ stops (Some f)
  by true e = let same : faults.MissingDone ≡ f = cc in ap (λ h. stops (Some h)) same
  by false e = absurd cc

-- ---- one call

pub reads_some : {A : Type 0} (o : Options) (c : Command A) (old : Option Commands) (before now : Option Stream) → option_map (commands_after (before_of o)) before ≡ old → ahead.Reads (option_map shown_command) (next_after o) before now (Ok (Some c)) → Reads old (shown_commands (state_after o (shown_command c)) now) (Ok (Some c))
reads_some o c old None now view h = subst (λ v. Reads v (shown_commands (state_after o (shown_command c)) now) (Ok (Some c))) view tt
reads_some {A} o c old (Some s) now view (t, is, e) =
    subst (λ v. Reads v (shown_commands (state_after o (shown_command c)) now) (Ok (Some c))) view
    (subst (λ m. Reads (Some (commands_after (before_of o) s)) (shown_commands (state_after o (shown_command c)) m) (Ok (Some c))) (sym is) (by (is_done (shown_command c)) (led_is o s _ (after_some o (first o.are_all s) (shown_command c) t e)))) where
      by : (d : Bool) → commands_after (before_of o) s ≡ (if d then with_command (shown_command c) (stops None) else with_command (shown_command c) (commands_after (before_of o ++ shown_command c ∷ []) t))
          → Reads {A = A} (Some (commands_after (before_of o) s)) (shown_commands (if d then Ended else Open (options_after o (shown_command c))) (Some t)) (Ok (Some c))
      by true e = (stops None, e, refl)
      by false e = (commands_after (before_of (options_after o (shown_command c))) t, e ∙ ap (with_command (shown_command c)) (later_is o (shown_command c) t), refl)

pub reads_none : (A : Type 0) (o : Options) (old : Option Commands) (before now : Option Stream) → option_map (commands_after (before_of o)) before ≡ old → ahead.Reads {X = Option (Command A)} (option_map shown_command) (next_after o) before now (Ok None) → Reads {A = A} old (Some (stops None)) (Ok None)
reads_none A o old None now view h = subst (λ v. Reads {A = A} v (Some (stops None)) (Ok None)) view refl
reads_none A o old (Some s) now view (t, is, e) = subst (λ v. Reads {A = A} v (Some (stops None)) (Ok None)) view (led_is o s _ refl ∙ after_none o (first o.are_all s) t e, refl)

pub reads_fault : (A : Type 0) (o : Options) (f : CommandFault) (old : Option Commands) (before now : Option Stream) → option_map (commands_after (before_of o)) before ≡ old → ahead.Reads {X = Option (Command A)} (option_map shown_command) (next_after o) before now (Err f) → Reads {A = A} old (Some (stops (Some (fault_of f)))) (Err f)
reads_fault A o f old None now view h = subst (λ v. Reads {A = A} v (Some (stops (Some (fault_of f)))) (Err f)) view refl
reads_fault A o f old (Some s) now view h = subst (λ v. Reads {A = A} v (Some (stops (Some (fault_of f)))) (Err f)) view (refl, by h) where
  by : Fails f (next_after o s) → (f ≡ own.OutOfMemory) ⊎ (commands_after (before_of o) s ≡ stops (Some (fault_of f)))
  by (inl out) = inl out
  by (inr e) = inr (led_is o s _ refl ∙ after_fault o (first o.are_all s) (fault_of f) e)

-- ---- whether a reader is over

pub over_some : {A : Type 0} (o : Options) (c : Command A) → over_of (state_after o (shown_command c)) ≡ over_after (Ok (Some c))
over_some o c = by (is_done (shown_command c)) where
  by : (d : Bool) → over_of (if d then Ended else Open (options_after o (shown_command c))) ≡ (if d then Some None else None)
  by true = refl
  by false = refl

pub repeats_none : {A : Type 0} (over : Option (Option CommandFault)) (old new : Seen) (answer : Result (Option (Command A)) CommandFault) → None ≡ over → Repeats over old new answer
repeats_none None old new answer e = tt
repeats_none (Some last) old new answer e = absurd cc

-- ---- the command that comes next, by the first that comes

pub next_there : {A : Type 0} (o : Options) (c : Command A) (old new : Option Stream) → ahead.Reads (option_map shown_command) (first o.are_all) old new (Ok (Some c)) → ahead.Reads (option_map shown_command) (next_after o) old new (Ok (Some c))
next_there o c None new h = tt
next_there o c (Some s) new (t, is, e) = (t, is, ap (λ r. r >>= or_missing o) e)

module _ (A : Type 0) (o : Options) where
  pub next_none : (old new : Option Stream) → o.needs_done ≡ false → ahead.Reads {X = Option (Command A)} (option_map shown_command) (first o.are_all) old new (Ok None) → ahead.Reads {X = Option (Command A)} (option_map shown_command) (next_after o) old new (Ok None)
  next_none None new plain h = tt
  next_none (Some s) new plain (t, is, e) = (t, is, rw e (rw plain refl))

  pub next_missing : (old new new' : Option Stream) → o.needs_done ≡ true → ahead.Reads {X = Option (Command A)} (option_map shown_command) (first o.are_all) old new (Ok None) → ahead.Reads {X = Option (Command A)} (option_map shown_command) (next_after o) old new' (Err own.MissingDone)
  next_missing None new new' asks h = tt
  next_missing (Some s) new new' asks (t, is, e) = inr (rw e (rw asks refl))

-- ---- a reader that failed

pub repeats_failed : (A : Type 0) (f : CommandFault) (last : Option (Option CommandFault)) (old new : Seen) → Some (Some f) ≡ last → new ≡ old → Repeats {A = A} last old new (Err f)
repeats_failed A f last old new e same = subst (λ l. Repeats {A = A} l old new (Err f)) e (refl, same)
