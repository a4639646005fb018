-- What commands may still come, whatever a source tells.
use Rattle.std.proofs.Common.{◌≡◌, ℕ, Bool, true, false, [], ◌∷◌, ◌++◌, Option, Some, None, Ok, Err, refl, sym, ap, subst, ◌∙◌, ◌⊎◌, inl, inr}
use Rattle.std.specs.Prelude.{if◌then◌else◌}
use Rattle.std.specs.Option.{option_map}
use Rattle.gx_model.specs.Faults.{◌>>=◌}
use Rattle.gx_model.specs.Streams.Items.{Item, Stream}
use Rattle.gx_model.specs.Streams.Commands.{Commands}
use Rattle.gx_model.specs.Streams.Grammar.{commands_asked, is_done, stops, with_command}
use Rattle.gx_model.specs.declared.features.Features.{Features}
use Rattle.gx_stream.specs.Reading as stream
use Rattle.gx_command.specs.CommandFaults.{fault_of}
use Rattle.gx_command.specs.Explaining.{Explains, ItemsMayCome}
use Rattle.gx_command.specs.Heads.{first}
use Rattle.gx_command.specs.Reading.{AreOfItems, ExplainsNext, Known, MayCome, MayFollow, Seen, before_of, commands_after, known_before, next_after, or_missing, over_of, seen_commands, state_after}
use Rattle.gx_command.specs.Views.{shown_command}
use Rattle.gx_command.specs.declared.commands.Command.{Command}
use Rattle.gx_command.specs.declared.fault.CommandFault.{CommandFault}
use Rattle.gx_command.specs.declared.fault.CommandFault.TheVariants as own
use Rattle.gx_command.specs.declared.reader.Options.{Options}
use Rattle.gx_command.specs.declared.reader.State.{State}
use Rattle.gx_command.specs.declared.reader.State.TheVariants.{Ended, Open}
use Rattle.gx_command.proofs.AskedCommands.{after_asked, options_of}
use Rattle.gx_command.proofs.ExplainedItems.{some_comes}
use Rattle.gx_command.proofs.NextCommands.{after_fault, after_none, after_some, later_is, led_is, options_after}

-- what is known in a state
abbrev pub known_in : State → Option Item → stream.Seen → Known
known_in state held reader = record { before = known_before state; held = held; reader = reader }

-- what may follow a reader in a state
abbrev pub FollowsState : State → Option Item → stream.Seen → Commands → Type 0
FollowsState state held reader = MayFollow (over_of state) (known_in state held reader)

-- some commands may always follow
pub some_follow : (over : Option (Option CommandFault)) (known : Known) → (commands : Commands) × MayFollow over known commands
some_follow None known =
    let a = some_comes known.held known.reader in
    (commands_after known.before a.0, (a.0, a.1, refl))
some_follow (Some None) known = (stops None, refl)
some_follow (Some (Some f)) known = (stops (Some (fault_of f)), refl)

-- those of a reader that has read none yet are those of some text
pub asked_items : (f : Features) (reader : stream.Seen) → ((s : Stream) → stream.MayCome reader s → stream.AreOfText s) → (commands : Commands) → FollowsState (Open (options_of f)) None reader commands → AreOfItems f commands
asked_items f reader text commands (s, comes, e) =
    let t = text s comes in
    (t.0, e ∙ after_asked f s ∙ ap (commands_asked f) t.1)

module _ (o : Options) (held held' : Option Item) (reader reader' : stream.Seen) where
  pub explained_some : {A : Type 0} (c : Command A) → Explains (option_map shown_command) (next_after o) (ItemsMayCome held reader) (ItemsMayCome held' reader') (Ok (Some c))
      → ExplainsNext (FollowsState (Open o) held reader) (FollowsState (state_after o (shown_command c)) held' reader') (Ok (Some c))
  unfolding Explains
  explained_some c h = by (is_done (shown_command c)) refl where
    behind : (d : Bool) → is_done (shown_command c) ≡ d → (s t : Stream) → next_after o s ≡ Ok (Some (shown_command c), t)
        → commands_after (before_of o) s ≡ (if d then with_command (shown_command c) (stops None) else with_command (shown_command c) (commands_after (before_of o ++ shown_command c ∷ []) t))
    behind d is s t e = led_is o s _ (after_some o (first o.are_all s) (shown_command c) t e) ∙ rw is refl

    by : (d : Bool) → is_done (shown_command c) ≡ d → (left : Commands) → FollowsState (if d then Ended else Open (options_after o (shown_command c))) held' reader' left
        → FollowsState (Open o) held reader (with_command (shown_command c) left)
    by true is left e =
        let some = some_comes held' reader' in
        let a = h some.0 some.1 in
        (a.0, a.1, ap (with_command (shown_command c)) e ∙ sym (behind true is a.0 some.0 a.2))
    by false is left (t, m, e) =
        let a = h t m in
        (a.0, a.1, ap (with_command (shown_command c)) (e ∙ sym (later_is o (shown_command c) t)) ∙ sym (behind false is a.0 t a.2))

  pub explained_end : (A : Type 0) → Explains {X = Option (Command A)} (option_map shown_command) (next_after o) (ItemsMayCome held reader) (ItemsMayCome held' reader') (Ok None)
      → FollowsState (Open o) held reader (stops None)
  unfolding Explains
  explained_end A h =
      let some = some_comes held' reader' in
      let a = h some.0 some.1 in
      (a.0, a.1, sym (led_is o a.0 _ refl ∙ after_none o (first o.are_all a.0) some.0 a.2))

  pub explained_failure : (A : Type 0) (f : CommandFault) → Explains {X = Option (Command A)} (option_map shown_command) (next_after o) (ItemsMayCome held reader) (ItemsMayCome held' reader') (Err f)
      → (f ≡ own.OutOfMemory) ⊎ FollowsState (Open o) held reader (stops (Some (fault_of f)))
  unfolding Explains
  explained_failure A f (inl out) = inl out
  explained_failure A f (inr (s, m, e)) = inr (s, m, sym (led_is o s _ refl ∙ after_fault o (first o.are_all s) (fault_of f) e))

  -- the same of what a reader is seen as
  module _ (old : Seen) (items : Option Stream) (bound : ℕ) (view : seen_commands (Open o) items bound held reader ≡ old) where
    pub seen_some : {A : Type 0} (c : Command A) → Explains (option_map shown_command) (next_after o) (ItemsMayCome held reader) (ItemsMayCome held' reader') (Ok (Some c))
        → ExplainsNext (MayCome old) (FollowsState (state_after o (shown_command c)) held' reader') (Ok (Some c))
    seen_some c h = subst (λ (v : Seen). ExplainsNext (MayCome v) (FollowsState (state_after o (shown_command c)) held' reader') (Ok (Some c))) view (explained_some c h)

    pub seen_end : (A : Type 0) → Explains {X = Option (Command A)} (option_map shown_command) (next_after o) (ItemsMayCome held reader) (ItemsMayCome held' reader') (Ok None)
        → MayCome old (stops None)
    seen_end A h = subst (λ (v : Seen). MayCome v (stops None)) view (explained_end A h)

    pub seen_failure : (A : Type 0) (f : CommandFault) → Explains {X = Option (Command A)} (option_map shown_command) (next_after o) (ItemsMayCome held reader) (ItemsMayCome held' reader') (Err f)
        → (f ≡ own.OutOfMemory) ⊎ MayCome old (stops (Some (fault_of f)))
    seen_failure A f h = subst (λ (v : Seen). (f ≡ own.OutOfMemory) ⊎ MayCome v (stops (Some (fault_of f)))) view (explained_failure A f h)

-- ---- the command that comes next, by the first that comes

module _ (o : Options) (old new : Stream → Type 0) where
  pub next_explained : {A : Type 0} (c : Command A) → Explains (option_map shown_command) (first o.are_all) old new (Ok (Some c)) → Explains (option_map shown_command) (next_after o) old new (Ok (Some c))
  unfolding Explains
  next_explained c h = λ t n.
      let a = h t n in
      (a.0, a.1, ap (λ r. r >>= or_missing o) a.2)

  pub end_explained : (A : Type 0) → o.needs_done ≡ false → Explains {X = Option (Command A)} (option_map shown_command) (first o.are_all) old new (Ok None)
      → Explains {X = Option (Command A)} (option_map shown_command) (next_after o) old new (Ok None)
  unfolding Explains
  end_explained A plain h = λ t n.
      let a = h t n in
      (a.0, a.1, rw a.2 (rw plain refl))

  pub missing_explained : (A : Type 0) (new' : Stream → Type 0) → (t : Stream) → new t → o.needs_done ≡ true
      → Explains {X = Option (Command A)} (option_map shown_command) (first o.are_all) old new (Ok None)
      → Explains {X = Option (Command A)} (option_map shown_command) (next_after o) old new' (Err own.MissingDone)
  unfolding Explains
  missing_explained A new' t n asks h =
      let a = h t n in
      inr (a.0, a.1, rw a.2 (rw asks refl))
