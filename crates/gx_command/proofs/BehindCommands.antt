-- The commands of a stream are those that were passed, and then those of what is left.
use Rattle.std.proofs.Common.{◌≡◌, ℕ, zero, suc, Bool, true, false, cond, List, [], ◌∷◌, ◌++◌, length, Option, Some, None, Ok, Err, refl, sym, ap, subst, ◌∙◌, append_assoc}
use Rattle.std.specs.Prelude.{if◌then◌else◌}
use Rattle.std.specs.List.{list_all, list_any}
use Rattle.std.proofs.lemmas.List.{append-nil}
use Rattle.gx_model.specs.declared.faults.Fault.{Fault}
use Rattle.gx_model.specs.declared.faults.Fault.TheVariants as faults
use Rattle.gx_model.specs.Faults.{Given, ◌>>=◌}
use Rattle.gx_model.specs.Streams.Items.{Item, Line, Data, End, Stream}
use Rattle.gx_model.specs.Streams.Commands.{Command, Commands}
use Rattle.gx_model.specs.Streams.Grammar.{asks_done, is_done, is_option, stops, with_command}
use Rattle.gx_model.specs.Streams.Lines.{Read}
use Rattle.gx_command.specs.Behind.{AreBehind, commands_behind, from_next, left_behind, or_missing_done, past_empty, then_come}
use Rattle.gx_command.specs.Heads.{first, first_in}
use Rattle.gx_command.specs.Reading.{commands_after}
use Rattle.gx_command.proofs.PassedCommands.{left_by, left_next, left_over, left_zero}
use Rattle.gx_model.proofs.Streams.AskedFeatures.{any_more}
use Rattle.gx_command.proofs.Steps.{commands_unrolled, led}

first_past : (early : Bool) (items : List Item) (end : End) → first_in early items (record { items = items; end = end }) ≡ first_in early (past_empty items) (record { items = past_empty items; end = end })
unfolding first_in
first_past early [] end = refl
first_past early (Data b ∷ more) end = refl
first_past early (Line [] ∷ more) end = first_past early more end
first_past early (Line (b ∷ bs) ∷ more) end = refl

-- empty lines play no part
after_past : (before : List Command) (s : Stream) → commands_after before s ≡ commands_after before (from_next s)
after_past before s =
    commands_unrolled before s ∙ ap (led before) (first_past (list_all is_option before) s.items s.end) ∙ sym (commands_unrolled before (from_next s))

abbrev given : Option Stream → Given (Option Stream)
given x = Ok x

abbrev refused : Fault → Given (Option Stream)
refused f = Err f

fewer : (t : Stream) → given None ≡ given (Some t) → ⊥
fewer t e = cc

fails : (t : Stream) (f : Fault) → refused f ≡ given (Some t) → ⊥
fails t f e = cc

same : (t u : Stream) → given (Some t) ≡ given (Some u) → t ≡ u
same t u e = cc

-- n commands come after some, and then those of what is left
abbrev ComeAfter : ℕ → List Command → Stream → Stream → Type 0
ComeAfter n before s t = (front : List Command) × (length front ≡ n) × (commands_after before s ≡ then_come front (commands_behind (before ++ front) t))

none_come : (before : List Command) (s : Stream) → list_any is_done before ≡ false → ComeAfter 0 before s (from_next s)
none_come before s goes_on =
    ([], refl, after_past before s ∙ sym (ap (λ cs. then_come [] cs) (ap (λ b. commands_behind b (from_next s)) (append-nil before) ∙ open_behind)))
  where
    open_behind : commands_behind before (from_next s) ≡ commands_after before (from_next s)
    open_behind = rw goes_on refl

one_more : (n : ℕ) (before front : List Command) (c : Command) (t : Stream) (cs : Commands) → cs ≡ then_come front (commands_behind ((before ++ c ∷ []) ++ front) t) → with_command c cs ≡ then_come (c ∷ front) (commands_behind (before ++ c ∷ front) t)
one_more n before front c t cs e = ap (with_command c) e ∙ ap (λ b. then_come (c ∷ front) (commands_behind b t)) (append_assoc before (c ∷ []) front)

done_last : (n : ℕ) (before : List Command) (c : Command) (u t : Stream) → list_any is_done (before ++ c ∷ []) ≡ true → left_behind n (before ++ c ∷ []) u ≡ given (Some t) → (length {A = Command} (c ∷ []) ≡ suc n) × (with_command c (stops None) ≡ then_come (c ∷ []) (commands_behind (before ++ c ∷ []) t))
done_last zero before c u t over h = (refl, rw over refl)
done_last (suc n) before c u t over h = absurd (fewer t (sym (left_over n (before ++ c ∷ []) u over) ∙ h))

come_after : (n : ℕ) (before : List Command) (s t : Stream) → list_any is_done before ≡ false → left_behind n before s ≡ given (Some t) → ComeAfter n before s t
come_after zero before s t goes_on h = subst (ComeAfter 0 before s) (same (from_next s) t (sym (left_zero before s) ∙ h)) (none_come before s goes_on)
come_after (suc n) before s t goes_on h = by (first early s) refl (sym (left_next n before s goes_on) ∙ h) (λ more u. come_after n more u t) where
  early : Bool
  early = list_all is_option before

  Again : Type 0
  Again = (more : List Command) (u : Stream) → list_any is_done more ≡ false → left_behind n more u ≡ given (Some t) → ComeAfter n more u t

  ended : (b : Bool) (u : Stream) → left_by n before (cond b (Err faults.MissingDone) (Ok (None, u))) ≡ given (Some t) → ⊥
  ended true u h = fails t faults.MissingDone h
  ended false u h = fewer t h

  some : (c : Command) (u : Stream) (d : Bool) → is_done c ≡ d → commands_after before s ≡ (if d then with_command c (stops None) else with_command c (commands_after (before ++ c ∷ []) u)) → left_behind n (before ++ c ∷ []) u ≡ given (Some t) → Again → ComeAfter (suc n) before s t
  some c u true e comes h again =
      let over : list_any is_done (before ++ c ∷ []) ≡ true = any_more is_done before c ∙ rw (goes_on, e) refl in
      let last = done_last n before c u t over h in
      (c ∷ [], last.0, comes ∙ last.1)
  some c u false e comes h again =
      let goes : list_any is_done (before ++ c ∷ []) ≡ false = any_more is_done before c ∙ rw (goes_on, e) refl in
      let more = again (before ++ c ∷ []) u goes h in
      (c ∷ more.0, ap suc more.1, comes ∙ one_more n before more.0 c t (commands_after (before ++ c ∷ []) u) more.2)

  by : (r : Read (Option Command)) → first early s ≡ r → left_by n before (r >>= or_missing_done before) ≡ given (Some t) → Again → ComeAfter (suc n) before s t
  by (Err f) is h again = absurd (fails t f h)
  by (Ok (None, u)) is h again = absurd (ended (list_any asks_done before) u h)
  by (Ok (Some c, u)) is h again = some c u (is_done c) refl (commands_unrolled before s ∙ ap (led before) is) h again

pub are_behind : (n : ℕ) (s left : Stream) → left_behind n [] s ≡ Ok (Some left) → AreBehind n s left
are_behind n s left h = come_after n [] s left refl h
