-- Texts that go out in pieces, one after the other.
use Rattle.std.proofs.Common.{◌≡◌, ℕ, zero, suc, ◌+◌, ◌<◌, refl, sym, ap, subst, ◌∙◌, arith, List, [], ◌∷◌, ◌++◌, length, get_or, drop, append_assoc, Option, Result, Ok, Err}
use Rattle.std.specs.List.{flat_map}
use Rattle.gx_model.specs.Texts.{Bytes}
use Rattle.gx_model.specs.Objects.{line}
use Rattle.gx_model.specs.Texts.Sinks.{FailedWithin, Taken, Took}
use Rattle.gx_cli.specs.Sending.{PrintsText, Sent}
use Rattle.gx_cli.specs.Trying.{Shows}
use Rattle.gx_cli.specs.declared.fault.CliFault.{CliFault}
use Rattle.gx_cli.specs.declared.fault.CliFault.TheVariants.{OutOfMemory, Revision, WriteFailed}
use Rattle.gx_model.proofs.Texts.SentTexts.{IsLeft, less_left, took_nothing}
use Rattle.gx_cli.proofs.SentLines.{cut_short}

-- what was sent is printed
pub sent_prints : (text : Bytes) (was now : Option Taken) (answer : Result (Unit {0}) CliFault) → Sent text was now answer → PrintsText text was now answer
sent_prints text was now (Ok u) h = h
sent_prints text was now (Err WriteFailed) h = h
sent_prints text was now (Err OutOfMemory) h = absurd h
sent_prints text was now (Err fault) h = absurd h

-- what was sent is shown
pub sent_shows : (text : Bytes) (was now : Option Taken) (answer : Result (Unit {0}) CliFault) → Sent text was now answer → Shows [] (Ok text) was now answer
sent_shows text was now (Ok u) h = (text, refl, h)
sent_shows text was now (Err WriteFailed) h = (text, refl, h)
sent_shows text was now (Err OutOfMemory) h = absurd h
sent_shows text was now (Err (Revision number kind)) h = absurd h
sent_shows text was now (Err fault) h = absurd h

-- what is shown alone is printed
pub shows_prints : (text : Bytes) (was now : Option Taken) (answer : Result (Unit {0}) CliFault) → Shows [] (Ok text) was now answer → PrintsText text was now answer
shows_prints text was now (Ok u) h = let same : text ≡ h.0 = cc h.1 in subst (Took was now) (sym same) h.2
shows_prints text was now (Err (Revision number kind)) h = absurd (cc h.1)
shows_prints text was now (Err WriteFailed) h = let same : text ≡ h.0 = cc h.1 in subst (FailedWithin was now) (sym same) h.2
shows_prints text was now (Err OutOfMemory) h = ([], text, refl, h)
shows_prints text was now (Err fault) h = absurd h

-- one piece more
pub piece_sent : (whole : Bytes) (was mid now : Option Taken) (piece left : Bytes) (answer : Result (Unit {0}) CliFault) (u : Unit {0}) → answer ≡ Ok u → IsLeft whole was mid (piece ++ left) → PrintsText piece mid now answer → IsLeft whole was now left
piece_sent whole was mid now piece left answer u same h k = less_left whole was mid now piece left h (subst (PrintsText piece mid now) same k)

-- a piece that didn't go out whole
pub piece_cut : (whole : Bytes) (was mid now : Option Taken) (piece left : Bytes) (answer : Result (Unit {0}) CliFault) (fault : CliFault) → answer ≡ Err fault → IsLeft whole was mid (piece ++ left) → PrintsText piece mid now answer → PrintsText whole was now (Err fault)
piece_cut whole was mid now piece left answer fault same h k = cut_short was mid now whole piece left fault h (subst (PrintsText piece mid now) same k)

-- a ref's line is left: its digits, a space, its name, and a line feed
pub left_ref : (name digits : Bytes) (was : Option Taken) → IsLeft (line digits name) was was (digits ++ ((32 ∷ []) ++ (name ++ 10 ∷ [])))
left_ref name digits was = record { front = []; parts = append_assoc digits (32 ∷ name) (10 ∷ []); took = took_nothing was }

-- what is left of a list from a place on
pub rest_from : {X : Type 0} (xs : List X) (i : ℕ) (x d : X) → i < length xs → x ≡ get_or xs i d → drop i xs ≡ x ∷ drop (i + 1) xs
rest_from [] i x d h e = absurd (omega arith)
rest_from (y ∷ ys) zero x d h e = ap (λ z. z ∷ ys) (sym e)
rest_from (y ∷ ys) (suc i) x d h e = let s : suc i + 1 ≡ suc (i + 1) = omega arith in rw s (rest_from ys i x d (omega arith) e)

-- the line of what comes next, and what is left then
pub left_from : {X : Type 0} (line_of : X → Bytes) (whole : Bytes) (was now : Option Taken) (xs : List X) (i : ℕ) (x d : X) → i < length xs → x ≡ get_or xs i d → IsLeft whole was now (flat_map line_of (drop i xs)) → IsLeft whole was now (line_of x ++ flat_map line_of (drop (i + 1) xs))
left_from line_of whole was now xs i x d h e k = subst (λ left. IsLeft whole was now (flat_map line_of left)) (rest_from xs i x d h e) k

-- the parts of a line, each behind what was written before
pub in_parts : (first second third : Bytes) → ((((first ++ 58 ∷ []) ++ second) ++ 58 ∷ []) ++ third) ++ 10 ∷ [] ≡ first ++ 58 ∷ (second ++ 58 ∷ (third ++ 10 ∷ []))
in_parts first second third =
    let front = (first ++ 58 ∷ []) ++ second in
    let last = third ++ 10 ∷ [] in
    let later = second ++ 58 ∷ last in
    append_assoc (front ++ 58 ∷ []) third (10 ∷ []) ∙ append_assoc front (58 ∷ []) last ∙ append_assoc (first ++ 58 ∷ []) second (58 ∷ last) ∙ append_assoc first (58 ∷ []) later
