use Rattle.std.proofs.Common.{ap, refl}
use Rattle.std.specs.Option.{option_map}
use Rattle.gx_command.specs.Ahead.{shown_held_item}
use Rattle.gx_command.specs.Reading.{Seen}
use Rattle.gx_command.proofs.BroughtGitlinks.{none_brought}
use Rattle.gx_command.proofs.NextCommands.{reads_some, reads_none, reads_fault, over_some, repeats_failed, repeats_none}
use Rattle.gx_command.proofs.ExplainedCommands.{seen_end, seen_failure, seen_some}
use Rattle.gx_command.specs.Explaining.{MayBeAhead}
use Rattle.gx_command.proofs.reader.CommandReader.next.Goals as goal

pub returns-in-Ok-Some-clause-reads : goal.returns-in-Ok-Some-clause-reads
returns-in-Ok-Some-clause-reads g c =
    let view = rw c.in-Open.is at (ap (λ (v : Seen). v.commands) c.self.view_is) in
    rw c.after-self-inside.ensures (reads_some c.in-Open.options c.in-Ok-Some.command _ _ _ view (rw c.in-Ok-Some.field-0-is at c.in-Ok-Some.ensures.reads))

pub returns-in-Ok-None-clause-reads : goal.returns-in-Ok-None-clause-reads
returns-in-Ok-None-clause-reads g c =
    let view = rw c.in-Open.is at (ap (λ (v : Seen). v.commands) c.self.view_is) in
    reads_none g.row.A.Denot c.in-Open.options _ _ _ view (rw c.in-Ok-None.field-0-is at c.in-Ok-None.ensures.reads)

pub returns-in-Err-clause-reads : goal.returns-in-Err-clause-reads
returns-in-Err-clause-reads g c =
    let view = rw c.in-Open.is at (ap (λ (v : Seen). v.commands) c.self.view_is) in
    reads_fault g.row.A.Denot c.in-Open.options c.in-Err.fault _ _ _ view c.in-Err.ensures.reads

pub returns-in-Ok-Some-clause-gitlinks : goal.returns-in-Ok-Some-clause-gitlinks
returns-in-Ok-Some-clause-gitlinks g c = none_brought c.in-Ok-Some.command

pub returns-in-Ok-Some-clause-over : goal.returns-in-Ok-Some-clause-over
returns-in-Ok-Some-clause-over g c = rw c.after-self-inside.ensures (over_some c.in-Open.options c.in-Ok-Some.command)

pub returns-in-Ok-Some-clause-repeats : goal.returns-in-Ok-Some-clause-repeats
returns-in-Ok-Some-clause-repeats g c = repeats_none _ _ _ _ (rw c.in-Open.is at (ap (λ (v : Seen). v.over) c.self.view_is))

pub returns-in-Ok-None-clause-repeats : goal.returns-in-Ok-None-clause-repeats
returns-in-Ok-None-clause-repeats g c = repeats_none _ _ _ _ (rw c.in-Open.is at (ap (λ (v : Seen). v.over) c.self.view_is))

pub returns-in-Err-clause-repeats : goal.returns-in-Err-clause-repeats
returns-in-Err-clause-repeats g c = repeats_none _ _ _ _ (rw c.in-Open.is at (ap (λ (v : Seen). v.over) c.self.view_is))

pub returns-in-Failed-clause-repeats : goal.returns-in-Failed-clause-repeats
returns-in-Failed-clause-repeats g c = repeats_failed g.row.A.Denot _ _ _ _ (rw c.in-Failed.is at (ap (λ (v : Seen). v.over) c.self.view_is)) refl

-- ---- what explains it

pub returns-in-Ok-Some-clause-explains : goal.returns-in-Ok-Some-clause-explains
unfolding MayBeAhead
returns-in-Ok-Some-clause-explains g c =
    let view = rw c.in-Open.is at c.self.view_is in
    rw c.after-self-inside.ensures (seen_some c.in-Open.options _ _ _ _ _ _ _ view c.in-Ok-Some.command (rw c.in-Ok-Some.field-0-is at c.in-Ok-Some.ensures.explains))

pub returns-in-Ok-None-clause-explains : goal.returns-in-Ok-None-clause-explains
unfolding MayBeAhead
returns-in-Ok-None-clause-explains g c =
    let view = rw c.in-Open.is at c.self.view_is in
    seen_end c.in-Open.options _ (option_map shown_held_item c.next_command.new.ahead.held) _ c.next_command.new.ahead.items _ _ _ view g.row.A.Denot (rw c.in-Ok-None.field-0-is at c.in-Ok-None.ensures.explains)

pub returns-in-Err-clause-explains : goal.returns-in-Err-clause-explains
unfolding MayBeAhead
returns-in-Err-clause-explains g c =
    let view = rw c.in-Open.is at c.self.view_is in
    seen_failure c.in-Open.options _ (option_map shown_held_item c.next_command.new.ahead.held) _ c.next_command.new.ahead.items _ _ _ view g.row.A.Denot c.in-Err.fault c.in-Err.ensures.explains
