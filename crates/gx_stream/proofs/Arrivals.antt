-- What one pull leaves to come.
use Rattle.std.proofs.Common.{◌≡◌, ℕ, ◌-◌, ◌+◌, ◌<◌, ◌≤◌, [], ◌++◌, length, take, drop, Bool, true, false, Option, Some, None, Ok, Err, refl, sym, ap, ◌∙◌, append_assoc, arith}
use Rattle.std.proofs.Math.Logic.{⊎_elim}
use Rattle.std.proofs.Math.Seq.{take-add}
use Rattle.std.proofs.lemmas.Bool.{cases_lt}
use Rattle.std.proofs.lemmas.Bool.Decides.{nat_tests}
use Rattle.std.proofs.lemmas.List.{length-drop, take-take, take-append-drop}
use Rattle.gx_model.specs.Texts.{Bytes}
use Rattle.gx_model.specs.Streams.Items.{items_of}
use Rattle.gx_text.specs.Devices.{Coming, past, Pulls}
use Rattle.gx_text.specs.declared.device.Failed as device
use Rattle.gx_stream.specs.Heard.{heard_upto}
use Rattle.gx_stream.specs.Pulled.{Passes, behind, shown_coming}
use Rattle.gx_stream.specs.Pulled as pulled
use Rattle.gx_stream.specs.Input.{KeepsStream, shown_stream, shown_over, pulls_left, state_of}
use Rattle.gx_stream.specs.declared.input.State.TheVariants as input
use Rattle.gx_stream.specs.declared.pulls.SourceState.{SourceState}
use Rattle.gx_stream.specs.declared.pulls.SourceState.TheVariants.{Open, Ended, Failed}

heard_short : (room : ℕ) (c : Coming) → length c.bytes ≤ room → heard_upto room c ≡ c
unfolding heard_upto
heard_short room c l = grind (arith, nat_tests)

heard_long : (room : ℕ) (c : Coming) → room < length c.bytes → heard_upto room c ≡ record { bytes = take room c.bytes; fails = true }
unfolding heard_upto
heard_long room c l = grind (arith, nat_tests)

-- what comes, by its parts
by_parts : (c : Coming) (bytes : Bytes) (fails : Bool) → c.bytes ≡ bytes → c.fails ≡ fails → c ≡ record { bytes = bytes; fails = fails }
by_parts c bytes fails e f = ap (λ bs. record { bytes = bs; fails = c.fails }) e ∙ ap (λ t. record { bytes = bytes; fails = t }) f

nothing_left : (room : ℕ) (c : Coming) (fails : Bool) → c.bytes ≡ [] → c.fails ≡ fails → heard_upto room c ≡ record { bytes = []; fails = fails }
nothing_left room c fails none e = heard_short room c (omega (arith, ap length none)) ∙ by_parts c [] fails none e

pub pulled_failed : (room : ℕ) (old new : Option Coming) (buffer : Bytes) (e : device.Failed) → Pulls old new buffer (Err e) → Passes [] (shown_coming Open room old []) (Some (record { bytes = []; fails = true }))
pulled_failed room None new buffer e p = tt
pulled_failed room (Some c) new buffer e p = (record { bytes = []; fails = true }, refl, ap (behind []) (nothing_left room c true p.0 p.1))

pub pulled_none : (room : ℕ) (old new : Option Coming) (buffer : Bytes) (n : ℕ) → n ≡ 0 → Pulls old new buffer (Ok n) → Passes [] (shown_coming Open room old []) (Some (record { bytes = []; fails = false }))
pulled_none room None new buffer n zero p = tt
pulled_none room (Some c) new buffer n zero p =
    let done = p.3 zero in
    (record { bytes = []; fails = false }, refl, ap (behind []) (nothing_left room c false done.0 done.1))

-- more came than is taken
pub pulled_over : (room : ℕ) (old new : Option Coming) (buffer : Bytes) (n : ℕ) → room < n → Pulls old new buffer (Ok n) → Passes [] (shown_coming Open room old []) (Some (record { bytes = take room buffer; fails = true }))
pulled_over room None new buffer n over p = tt
pulled_over room (Some c) new buffer n over p =
    let le : room ≤ n = omega (arith, over) in
    let same : take room c.bytes ≡ take room buffer = sym (take-take room n c.bytes le) ∙ ap (take room) (sym p.1) ∙ take-take room n buffer le in
    (record { bytes = take room buffer; fails = true }, refl, ap (behind []) (heard_long room c (omega (arith, over, p.0)) ∙ ap (λ bs. record { bytes = bs; fails = true }) same))

-- what is heard, in two parts
in_two : (room n : ℕ) (c : Coming) → n ≤ room → n ≤ length c.bytes → heard_upto room c ≡ behind (take n c.bytes) (heard_upto (room - n) (past n c))
in_two room n c l m =
    let left = length-drop n c.bytes in
    ⊎_elim
    (λ over.
    let whole = heard_long room c over in
    let rest = heard_long (room - n) (past n c) (omega (arith, over, left, l)) in
    let there : n + (room - n) ≡ room = omega (arith, l) in
    let parts : take room c.bytes ≡ take n c.bytes ++ take (room - n) (drop n c.bytes) = ap (λ k. take k c.bytes) (sym there) ∙ take-add n (room - n) c.bytes in
    whole ∙ ap (λ bs. record { bytes = bs; fails = true }) parts ∙ sym (ap (behind (take n c.bytes)) rest))
    (λ within.
    let whole = heard_short room c within in
    let rest = heard_short (room - n) (past n c) (omega (arith, within, left, l)) in
    whole ∙ ap (λ bs. record { bytes = bs; fails = c.fails }) (sym (take-append-drop n c.bytes)) ∙ sym (ap (behind (take n c.bytes)) rest))
    (cases_lt room (length c.bytes))

pub pulled_more : (room : ℕ) (old new : Option Coming) (buffer : Bytes) (n : ℕ) → n ≤ room → Pulls old new buffer (Ok n) → Passes [] (shown_coming Open room old []) (shown_coming Open (room - n) new (take n buffer))
pulled_more room None new buffer n l p = tt
pulled_more room (Some c) new buffer n l p =
    let left = behind (take n buffer) (heard_upto (room - n) (past n c)) in
    (left, ap (λ o. shown_coming Open (room - n) o (take n buffer)) p.2, ap (behind []) (in_two room n c l p.0 ∙ ap (λ bs. behind bs (heard_upto (room - n) (past n c))) (sym p.1)))

-- ---- the items to come

some_same : (c d : Coming) → Some c ≡ Some d → c ≡ d
some_same c d e = cc

-- the items of what was to come are those of what was taken and is to come
same_items : (text taken : Bytes) (was left more : Coming) → was ≡ left → behind taken more ≡ left → items_of ((text ++ taken) ++ more.bytes) more.fails ≡ items_of (text ++ was.bytes) was.fails
same_items text taken was left more e f =
    ap (λ bs. items_of bs more.fails) (append_assoc text taken more.bytes) ∙ ap (λ (h : Coming). items_of (text ++ h.bytes) h.fails) (f ∙ sym e)

-- the same where nothing more comes
last_items : (text taken : Bytes) (fails : Bool) (was left : Coming) → was ≡ left → record { bytes = taken; fails = fails } ≡ left → items_of (text ++ taken) fails ≡ items_of (text ++ was.bytes) was.fails
last_items text taken fails was left e f = ap (λ (h : Coming). items_of (text ++ h.bytes) h.fails) (f ∙ sym e)

pub items_kept : (before after : ℕ) (old new : Option Coming) (text taken : Bytes) (s : SourceState) → Passes [] (shown_coming Open before old []) (shown_coming s after new taken) → KeepsStream (shown_stream input.Open before old text) (shown_stream (state_of s) after new (text ++ taken))
items_kept before after None new text taken s p = tt
items_kept before after (Some c) None text taken Open p = absurd cc p.1
items_kept before after (Some c) (Some d) text taken Open p =
    let more = heard_upto after d in
    ap Some (same_items text taken (heard_upto before c) p.0 more p.2 (some_same (behind taken more) p.0 p.1))
items_kept before after (Some c) new text taken Ended p =
    ap Some (last_items text taken false (heard_upto before c) p.0 p.2 (some_same (record { bytes = taken; fails = false }) p.0 p.1))
items_kept before after (Some c) new text taken Failed p =
    ap Some (last_items text taken true (heard_upto before c) p.0 p.2 (some_same (record { bytes = taken; fails = true }) p.0 p.1))

pub same_pulls : (s : SourceState) (room : ℕ) → pulls_left (state_of s) room ≡ pulled.pulls_left s room
same_pulls Open room = refl
same_pulls Ended room = refl
same_pulls Failed room = refl

pub not_over : (s : SourceState) → shown_over (state_of s) ≡ None
not_over Open = refl
not_over Ended = refl
not_over Failed = refl
