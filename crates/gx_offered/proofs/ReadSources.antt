-- All that a source gives comes, piece by piece.
use Rattle.std.proofs.Common.{◌≡◌, ℕ, true, false, [], ◌++◌, Option, Some, None, Ok, Err, refl, sym, ap, ◌∙◌, append_assoc}
use Rattle.std.specs.Option.{option_map}
use Rattle.std.specs.declared.vec.Vec.{Vec}
use Rattle.gx_model.specs.Texts.{Bytes}
use Rattle.gx_text.specs.Devices.{Coming}
use Rattle.gx_stream.specs.Heard.{heard, heard_upto}
use Rattle.gx_stream.specs.Pulled.{Passes, behind, shown_coming}
use Rattle.gx_stream.specs.declared.pulls.SourceState.{SourceState}
use Rattle.gx_stream.specs.declared.pulls.SourceState.TheVariants.{Open, Ended, Failed}
use Rattle.gx_offered.specs.Sources.{GivesBytes}
use Rattle.gx_offered.specs.declared.fault.OfferFault.TheVariants.{OutOfMemory, ReadFailed}

-- where it is known what comes, it is this still
abbrev pub IsStill : Option Coming → Option Coming → Type 0
IsStill None now = Unit {0}
IsStill (Some was) now = now ≡ Some was

some_same : (c d : Coming) → Some c ≡ Some d → c ≡ d
some_same c d e = cc

-- nothing came yet
pub none_came : (coming : Option Coming) → IsStill (option_map heard coming) (shown_coming Open 9223372036854775807 coming [])
none_came None = tt
none_came (Some c) = refl

-- some bytes came of what was to come
came_of : (text taken : Bytes) (was left more : Coming) → was ≡ left → behind taken more ≡ left → behind (text ++ taken) more ≡ behind text was
came_of text taken was left more e f = ap (λ bs. record { bytes = bs; fails = more.fails }) (append_assoc text taken more.bytes) ∙ ap (behind text) (f ∙ sym e)

-- one piece more came
pub one_came : (start : Option Coming) (before after : ℕ) (old new : Option Coming) (text taken : Bytes) (s : SourceState) → Passes [] (shown_coming Open before old []) (shown_coming s after new taken) → IsStill start (shown_coming Open before old text) → IsStill start (shown_coming s after new (text ++ taken))
one_came None before after old new text taken s p h = tt
one_came (Some was) before after None new text taken s p h = absurd cc h
one_came (Some was) before after (Some c) None text taken Open p h = absurd cc p.1
one_came (Some was) before after (Some c) (Some d) text taken Open p h =
    let more = heard_upto after d in
    ap Some (came_of text taken (heard_upto before c) p.0 more p.2 (some_same (behind taken more) p.0 p.1)) ∙ h
one_came (Some was) before after (Some c) new text taken Ended p h =
    ap (λ x. Some (behind text x)) (some_same (record { bytes = taken; fails = false }) p.0 p.1 ∙ sym p.2) ∙ h
one_came (Some was) before after (Some c) new text taken Failed p h =
    ap (λ x. Some (behind text x)) (some_same (record { bytes = taken; fails = true }) p.0 p.1 ∙ sym p.2) ∙ h

module _ (A : Type 0) where
  -- there is no memory
  pub unheld : (coming : Option Coming) → GivesBytes {A = A} coming (Err OutOfMemory)
  unheld None = (record { bytes = []; fails = false }, tt)
  unheld (Some c) = tt

  -- the source ended
  pub ended : (coming : Option Coming) (bytes : Vec ℕ A) (text : Bytes) → bytes.items ≡ text → IsStill (option_map heard coming) (Some (record { bytes = text; fails = false })) → GivesBytes coming (Ok bytes)
  ended None bytes text e h = (record { bytes = bytes.items; fails = false }, refl)
  ended (Some c) bytes text e h = sym (some_same (record { bytes = text; fails = false }) (heard c) h) ∙ ap (λ bs. record { bytes = bs; fails = false }) (sym e)

  -- the source failed
  pub failed : (coming : Option Coming) (text : Bytes) → IsStill (option_map heard coming) (Some (record { bytes = text; fails = true })) → GivesBytes {A = A} coming (Err ReadFailed)
  failed None text h = (record { bytes = []; fails = true }, refl)
  failed (Some c) text h = ap (λ (x : Coming). x.fails) (sym (some_same (record { bytes = text; fails = true }) (heard c) h))
