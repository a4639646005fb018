use Rattle.std.proofs.Common.{◌≡◌, ◌-◌, length}
use Rattle.gx_model.specs.Texts.Paths.{unquote_within}
use Rattle.gx_text.proofs.Unquoting.{with_front}
use Rattle.gx_text.proofs.quoted.unquoted_body.Given as goal

abbrev pub invariant-loop-turn : goal.invariant-loop-turn
invariant-loop-turn g l = with_front l.text.items (unquote_within (length l.body - l._turn) l.rest) ≡ unquote_within (length l.body) l.body
