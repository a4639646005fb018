-- Texts that go out one after the other, and the whole that they make.
use Rattle.std.proofs.Common.{◌≡◌, ℕ, ◌<◌, ◌+◌, refl, sym, ap, subst, ◌∙◌, List, [], ◌∷◌, ◌++◌, map, drop, length, get_or, append_assoc, append-nil, Option, Result, Ok, Err}
use Rattle.std.specs.List.{flat_map}
use Rattle.std.proofs.lemmas.List.{drop_more}
use Rattle.gx_model.specs.Texts.{Bytes}
use Rattle.gx_model.specs.Texts.Sinks.{Taken, Took}
use Rattle.gx_cli.specs.declared.fault.CliFault.{CliFault}
use Rattle.gx_cli.specs.declared.fault.CliFault.TheVariants.{OutOfMemory, WriteFailed}
use Rattle.gx_cli.specs.Answers.{Prints}
use Rattle.gx_cli.specs.Sending.{PrintsText}
use Rattle.gx_print.specs.Stored.{Printed}
use Rattle.gx_model.proofs.Texts.SentTexts.{IsLeft, left_fails, took_both}

-- what stopped one of the texts stopped the whole
pub cut_short : (was mid now : Option Taken) (whole text rest : Bytes) (fault : CliFault) → IsLeft whole was mid (text ++ rest) → PrintsText text mid now (Err fault) → PrintsText whole was now (Err fault)
cut_short was mid now whole text rest WriteFailed s h = left_fails whole was mid now text rest s h
cut_short was mid now whole text rest OutOfMemory s h = (
  s.front ++ h.0,
  h.1 ++ rest,
  s.parts ∙ ap (λ x. s.front ++ (x ++ rest)) h.2 ∙ ap (λ x. s.front ++ x) (append_assoc h.0 h.1 rest) ∙ sym (append_assoc s.front h.0 (h.1 ++ rest)),
  took_both was mid now s.front h.0 s.took h.3,
)
cut_short was mid now whole text rest fault s h = absurd h

-- the last text, and what came of the whole
pub last_sent : (was mid now : Option Taken) (whole text : Bytes) (answer : Result (Unit {0}) CliFault) → IsLeft whole was mid text → PrintsText text mid now answer → PrintsText whole was now answer
last_sent was mid now whole text (Ok u) s h = subst (Took was now) (sym s.parts) (took_both was mid now s.front text s.took h)
last_sent was mid now whole text (Err fault) s h = cut_short was mid now whole text [] fault (subst (IsLeft whole was mid) (sym (append-nil text)) s) h

-- a text that is given
pub given_text : (given : Printed) (text : Bytes) (was now : Option Taken) (answer : Result (Unit {0}) CliFault) → given ≡ Ok text → PrintsText text was now answer → Prints given was now answer
given_text given text was now answer e h = subst (λ g. Prints g was now answer) (sym e) (by answer h)
  where
    by : (r : Result (Unit {0}) CliFault) → PrintsText text was now r → Prints (Ok text) was now r
    by (Ok u) k = (text, refl, k)
    by (Err WriteFailed) k = (text, refl, k)
    by (Err OutOfMemory) k = (k.0, (k.1, k.2), k.3)
    by (Err fault) k = absurd k

-- ---- lines of the elements of a list

module _ {X Y : Type 0} (g : X → Y) (line : Y → Bytes) where
  -- the lines from a place on
  pub lines_at : (xs : List X) (i : ℕ) (d : X) → i < length xs → flat_map line (map g (drop i xs)) ≡ line (g (get_or xs i d)) ++ flat_map line (map g (drop (i + 1) xs))
  lines_at xs i d h = ap (λ ys. flat_map line (map g ys)) (drop_more xs i d h)

  -- the same, where the element at the place is given
  pub lines_from : (xs : List X) (i : ℕ) (x : X) → i < length xs → x ≡ get_or xs i x → flat_map line (map g (drop i xs)) ≡ line (g x) ++ flat_map line (map g (drop (i + 1) xs))
  lines_from xs i x h e = ap (λ ys. flat_map line (map g ys)) (drop_more xs i x h ∙ ap (λ y. y ∷ drop (i + 1) xs) (sym e))
