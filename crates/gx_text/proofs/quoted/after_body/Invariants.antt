use Rattle.std.proofs.Common.{◌≡◌, ◌-◌, length}
use Rattle.std.specs.Option.{option_map}
use Rattle.gx_model.specs.Texts.Paths.{unquote_within}
use Rattle.gx_text.proofs.quoted.after_body.Given as goal

abbrev pub invariant-loop-turn : goal.invariant-loop-turn
invariant-loop-turn l = option_map (λ p. p.1) (unquote_within (length l.body - l._turn) l.rest) ≡ option_map (λ p. p.1) (unquote_within (length l.body) l.body)
