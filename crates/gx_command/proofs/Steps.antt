-- The first command of items, and the others after it.
use Rattle.std.proofs.Common.{◌≡◌, ℕ, zero, suc, ◌≤◌, Bool, List, [], ◌∷◌, ◌++◌, length, Option, Some, None, Ok, Err, refl, ap, subst, arith}
use Rattle.std.specs.Prelude.{if◌then◌else◌}
use Rattle.std.specs.List.{list_all}
use Rattle.gx_model.specs.Texts.{Bytes}
use Rattle.gx_model.specs.Streams.Items.{Item, Line, Data, End, Finished, Failed, Stream}
use Rattle.gx_model.specs.Streams.Commands.{Command, Commands}
use Rattle.gx_model.specs.Streams.Grammar.{command_at, commands_within, is_option, is_done, fault_at_end, stops, with_command}
use Rattle.gx_model.specs.Streams.Lines.{Read, at_end, after, words_of}
use Rattle.gx_command.specs.Heads.{first_in, first}
use Rattle.gx_command.specs.Reading.{commands_after}
use Rattle.gx_command.proofs.Leaves.{Leaves, command_leaves}

command_left : (early : Bool) (l : Bytes) (s : Stream) (x : Command × Stream) → command_at early (words_of l) s ≡ Ok x → length x.1.items ≤ length s.items
command_left early l s x e = subst (λ r. Leaves r s) e (command_leaves early (words_of l) s)

-- ---- the fuel is enough

enough_commands : (n m : ℕ) (before : List Command) (items : List Item) (end : End) → length items ≤ n → length items ≤ m → commands_within n before items end ≡ commands_within m before items end
unfolding commands_within
enough_commands n m before [] end p q = refl
enough_commands zero m before (i ∷ more) end p q = absurd (omega arith)
enough_commands (suc n) zero before (i ∷ more) end p q = absurd (omega arith)
enough_commands (suc n) (suc m) before (Data b ∷ more) end p q = refl
enough_commands (suc n) (suc m) before (Line [] ∷ more) end p q = enough_commands n m before more end (omega arith) (omega arith)
enough_commands (suc n) (suc m) before (Line (b ∷ bs) ∷ more) end p q = by (command_at (list_all is_option before) (words_of (b ∷ bs)) (record { items = more; end = end })) refl (λ c t. enough_commands n m (before ++ c ∷ []) t.items t.end) where
  by : (r : Read Command) → command_at (list_all is_option before) (words_of (b ∷ bs)) (record { items = more; end = end }) ≡ r
      → ((c : Command) (t : Stream) → length t.items ≤ n → length t.items ≤ m → commands_within n (before ++ c ∷ []) t.items t.end ≡ commands_within m (before ++ c ∷ []) t.items t.end)
      → commands_within (suc n) before (Line (b ∷ bs) ∷ more) end ≡ commands_within (suc m) before (Line (b ∷ bs) ∷ more) end
  by (Err f) e again = rw e refl
  by (Ok x) e again =
      let left = command_left (list_all is_option before) (b ∷ bs) (record { items = more; end = end }) x e in
      rw e (ap (λ cs. if is_done x.0 then with_command x.0 (stops None) else with_command x.0 cs) (again x.0 x.1 (omega arith) (omega arith)))

-- ---- the first command

-- the commands, where the first is read so
abbrev pub led : List Command → Read (Option Command) → Commands
led before (Err f) = stops (Some f)
led before (Ok (None, t)) = stops (fault_at_end before Finished)
led before (Ok (Some c, t)) = if is_done c then with_command c (stops None) else with_command c (commands_after (before ++ c ∷ []) t)

unrolled : (n : ℕ) (before : List Command) (items : List Item) (s : Stream) → s.items ≡ items → length items ≤ n → commands_within n before items s.end ≡ led before (first_in (list_all is_option before) items s)
unfolding commands_within first_in
unrolled n before [] s is p = at s.end where
  at : (e : End) → stops (fault_at_end before e) ≡ led before (at_end {A = Option Command × Stream} e (Ok (None, s)))
  at Finished = refl
  at (Failed f) = refl
unrolled zero before (i ∷ more) s is p = absurd (omega arith)
unrolled (suc n) before (Data b ∷ more) s is p = refl
unrolled (suc n) before (Line [] ∷ more) s is p = unrolled n before more (after more s) refl (omega arith)
unrolled (suc n) before (Line (b ∷ bs) ∷ more) s is p = by (command_at (list_all is_option before) (words_of (b ∷ bs)) (after more s)) refl where
  by : (r : Read Command) → command_at (list_all is_option before) (words_of (b ∷ bs)) (after more s) ≡ r → commands_within (suc n) before (Line (b ∷ bs) ∷ more) s.end ≡ led before (first_in (list_all is_option before) (Line (b ∷ bs) ∷ more) s)
  by (Err f) e = rw e refl
  by (Ok x) e =
      let left = command_left (list_all is_option before) (b ∷ bs) (after more s) x e in
      rw e (ap (λ cs. if is_done x.0 then with_command x.0 (stops None) else with_command x.0 cs) (enough_commands n (length x.1.items) (before ++ x.0 ∷ []) x.1.items x.1.end (omega arith) (omega arith)))

pub commands_unrolled : (before : List Command) (s : Stream) → commands_after before s ≡ led before (first (list_all is_option before) s)
commands_unrolled before s = unrolled (length s.items) before s.items s refl (omega arith)
