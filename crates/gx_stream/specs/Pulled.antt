-- What is still to come from a source, and what one pull leaves of it.
use Rattle.std.specs.Prelude.{◌≡◌, ℕ, suc, true, false, [], ◌++◌, take, Option, None, Some, ⊤}
use Rattle.gx_model.specs.Texts.{Bytes}
use Rattle.gx_text.specs.Devices.{Coming}
use Rattle.gx_stream.specs.Heard.{heard_upto}
use Rattle.gx_stream.specs.declared.pulls.SourceState.{SourceState}
use Rattle.gx_stream.specs.declared.pulls.SourceState.TheVariants.{Open, Ended, Failed}

-- these bytes before what comes
abbrev pub behind : Bytes → Coming → Coming
behind front c = record { bytes = front ++ c.bytes; fails = c.fails }

-- what is still to come, where that is known: what came and isn't read yet, and what the source still gives
abbrev pub shown_coming : SourceState → ℕ → Option Coming → Bytes → Option Coming
shown_coming Open room None rest = None
shown_coming Open room (Some c) rest = Some (behind rest (heard_upto room c))
shown_coming Ended room coming rest = Some (record { bytes = rest; fails = false })
shown_coming Failed room coming rest = Some (record { bytes = rest; fails = true })

-- how many pulls may follow at most
abbrev pub pulls_left : SourceState → ℕ → ℕ
pulls_left Open room = suc room
pulls_left Ended room = 0
pulls_left Failed room = 0

-- where it is known what is to come, it is these bytes before what is to come now
abbrev pub Passes : Bytes → Option Coming → Option Coming → Type 0
Passes front None now = ⊤
Passes front (Some was) now = (left : Coming) × (now ≡ Some left) × (was ≡ behind front left)

-- One piece is pulled, and nothing is lost of what is to come. Answered is what is known of the source then, and how many bytes of the
-- piece are taken.
abbrev pub KeepsComing : {R : Type 0} → (R → Option Coming) → R → R → ℕ → ℕ → Bytes → SourceState × ℕ → Type 0
KeepsComing coming old new before after piece answer =
    Passes [] (shown_coming Open before (coming old) []) (shown_coming answer.0 after (coming new) (take answer.1 piece))
