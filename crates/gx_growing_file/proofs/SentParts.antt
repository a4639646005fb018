-- The parts of heads, tails and tables, as they go out one after the other.
use Rattle.std.proofs.Common.{◌≡◌, ℕ, ◌-◌, ◌<◌, ◌^◌, refl, sym, ap, subst, ◌∙◌, codes, List, [], ◌∷◌, ◌++◌, length, append_assoc, append-nil, Option, Result}
use Rattle.std.specs.Prelude.{replicate}
use Rattle.std.specs.Fmt.{decimal}
use Rattle.std.specs.List.{flat_map}
use Rattle.gx_model.specs.Objects.{hex, line}
use Rattle.gx_model.specs.Stores.StoreText.{stored_ref}
use Rattle.gx_model.specs.Texts.{Bytes}
use Rattle.gx_model.specs.Texts.Numbers.{number_text}
use Rattle.gx_model.specs.Texts.Sinks.{Taken}
use Rattle.gx_model.proofs.Texts.Decimals.{text_is_decimal}
use Rattle.gx_model.proofs.Texts.SentTexts.{IsLeft, all_left}
use Rattle.gx_text.specs.declared.device.Failed.{Failed}
use Rattle.gx_file.specs.Sending.{Sent}
use Rattle.gx_growing.specs.GrowingText.{Run, Slot, head_text, no_slot, rows_text, run_text, slot_text, tail_text}

-- ---- tails

-- Before anything of a tail goes out, the runs, the refs and the last line are left.
pub tail_left : (runs : List Run) (refs : List (Bytes × Bytes)) (was : Option Taken)
    → IsLeft (tail_text runs refs) was was ((line (codes "runs") (number_text (length runs)) ++ flat_map run_text runs) ++ ((line (codes "refs") (number_text (length refs)) ++ flat_map stored_ref refs) ++ (codes "end" ++ 10 ∷ [])))
tail_left runs refs was =
    subst (IsLeft (tail_text runs refs) was was) (grouped (line (codes "runs") (number_text (length runs))) (flat_map run_text runs) (line (codes "refs") (number_text (length refs))) (flat_map stored_ref refs) (codes "end" ++ 10 ∷ []))
    (all_left (tail_text runs refs) was)
  where
    grouped : (a b c d e : Bytes) → a ++ (b ++ (c ++ (d ++ e))) ≡ (a ++ b) ++ ((c ++ d) ++ e)
    grouped a b c d e = simp append_assoc

-- The line that tells that there is no run.
pub no_runs : line (codes "runs") (number_text 0) ++ [] ≡ codes "runs 0" ++ 10 ∷ []
unfolding number_text
no_runs = refl

one_line : line (codes "runs") (number_text 1) ≡ codes "runs 1" ++ 10 ∷ []
unfolding number_text
one_line = refl

module _ (was now : Option Taken) (answer : Result (Unit {0}) Failed) where
  -- A run goes out behind its number.
  pub run_sent : (run : Run) (place count digits : Bytes) → run.place < 2 ^ 64 → run.count < 2 ^ 64 → place ≡ decimal run.place → count ≡ decimal run.count → digits ≡ hex run.digest
      → Sent ((codes "runs 1" ++ 10 ∷ []) ++ (place ++ (32 ∷ (count ++ (32 ∷ (digits ++ 10 ∷ [])))))) was now answer
      → Sent (line (codes "runs") (number_text 1) ++ (run_text run ++ [])) was now answer
  run_sent run place count digits l m e f d h =
      let one = e ∙ sym (text_is_decimal run.place l) in
      let two = f ∙ sym (text_is_decimal run.count m) in
      subst (λ t. Sent t was now answer) ((λ i. sym one_line i ++ (one i ++ (32 ∷ (two i ++ (32 ∷ (d i ++ 10 ∷ [])))))) ∙ ap (λ t. line (codes "runs") (number_text 1) ++ t) (sym (append-nil (run_text run)))) h

  -- ---- heads

  abbrev front : Bytes
  front = codes "gxstore 3" ++ (10 ∷ (codes "a" ++ 10 ∷ []))

  -- The second slot, as it is written where it isn't picked.
  pub none_is : 10 ∷ (slot_text no_slot ++ 10 ∷ []) ≡ (10 ∷ codes "00000000000000000000 00000000000000000000 ") ++ (codes "0000000000000000000000000000000000000000000000000000000000000000" ++ 10 ∷ [])
  unfolding number_text
  none_is = refl

  -- A head goes out whose first slot is picked.
  pub head_sent : (slot : Slot) (ends tail digits : Bytes) → slot.ends < 2 ^ 64 → slot.tail < 2 ^ 64 → ends ≡ decimal slot.ends → tail ≡ decimal slot.tail → digits ≡ hex slot.digest
      → Sent ((codes "gxstore 3" ++ (10 ∷ (codes "a" ++ 10 ∷ []))) ++ (replicate (20 - length ends) 48 ++ (ends ++ (32 ∷ (replicate (20 - length tail) 48 ++ (tail ++ (32 ∷ (digits
      ++ ((10 ∷ codes "00000000000000000000 00000000000000000000 ") ++ (codes "0000000000000000000000000000000000000000000000000000000000000000" ++ 10 ∷ [])))))))))) was now answer
      → Sent (head_text (codes "a") (slot_text slot) (slot_text no_slot)) was now answer
  head_sent slot ends tail digits l m e f d h =
      let one = e ∙ sym (text_is_decimal slot.ends l) in
      let two = f ∙ sym (text_is_decimal slot.tail m) in
      subst (λ t. Sent t was now answer)
      ((λ i. front ++ (replicate (20 - length (one i)) 48 ++ (one i ++ (32 ∷ (replicate (20 - length (two i)) 48 ++ (two i ++ (32 ∷ (d i ++ sym none_is i))))))))
      ∙ ap (λ t. front ++ t) (grouped (replicate (20 - length (number_text slot.ends)) 48) (number_text slot.ends) (replicate (20 - length (number_text slot.tail)) 48) (number_text slot.tail) (hex slot.digest) (10 ∷ (slot_text no_slot ++ 10 ∷ [])))) h
    where
      grouped : (a b c d e f : Bytes) → a ++ (b ++ (32 ∷ (c ++ (d ++ (32 ∷ (e ++ f)))))) ≡ ((a ++ b) ++ (32 ∷ ((c ++ d) ++ (32 ∷ e)))) ++ f
      grouped a b c d e f = simp append_assoc

  -- ---- tables

  -- A table goes out behind its line, and what follows it.
  pub table_sent : (count : ℕ) (digits rows digests tail : Bytes) → count < 2 ^ 64 → digits ≡ decimal count
      → Sent (codes "rows" ++ (32 ∷ (digits ++ (10 ∷ (rows ++ (digests ++ (10 ∷ (tail ++ [])))))))) was now answer
      → Sent (rows_text count (rows ++ digests) tail) was now answer
  table_sent count digits rows digests tail l e h =
      subst (λ t. Sent t was now answer) ((λ i. codes "rows" ++ (32 ∷ ((e ∙ sym (text_is_decimal count l)) i ++ (10 ∷ (rows ++ (digests ++ (10 ∷ append-nil tail i))))))) ∙ grouped (codes "rows") (number_text count) rows digests tail) h
    where
      grouped : (w n r d t : Bytes) → w ++ (32 ∷ (n ++ (10 ∷ (r ++ (d ++ (10 ∷ t)))))) ≡ ((w ++ (32 ∷ n)) ++ 10 ∷ []) ++ ((r ++ d) ++ (10 ∷ t))
      grouped w n r d t = simp append_assoc
