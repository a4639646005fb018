-- What clap is told of a command, one part after the other.
use Rattle.std.proofs.Common.{◌≡◌, Bool, false, ◌||◌, refl, ap, ap₂, ◌∙◌}
use Rattle.clap.specs.Words.{AddsArg, AddsSubcommand, App, rule_of, with_rule}
use Rattle.clap.specs.declared.builder.arg.Arg.{Arg}
use Rattle.clap.specs.declared.builder.command.Command.{Command}
use Rattle.gx_line.specs.CommandLine.{IsMade, under}

neither : (x y : Bool) → x ≡ false → y ≡ false → (x || y) ≡ false
neither x y e f = rw (e, f) refl

-- an argument more
pub argument_made : (old new : Command) (arg : Arg) (a : App) → arg.global ≡ false → IsMade old a → AddsArg old arg new → IsMade new (with_rule a (rule_of arg))
argument_made old new arg a e h k = (k.shape e ∙ ap (λ b. with_rule b (rule_of arg)) h.0, k.globals ∙ neither _ _ h.1 e)

-- a command more under it
pub command_made : (old sub new : Command) (a b : App) → IsMade old a → IsMade sub b → AddsSubcommand old sub new → IsMade new (under a b)
command_made old sub new a b h k s = (s.shape k.1 ∙ ap₂ (λ p q. under p q) h.0 k.0, s.globals ∙ neither _ _ h.1 k.1)
