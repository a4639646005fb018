use Rattle.std.proofs.Common.{Some, ap, ◌∙◌, arith}
use Rattle.std.proofs.lemmas.Result.{err_from_is_err_and}
use Rattle.gx_command.specs.Reading.{commands_asked_from}
use Rattle.gx_asked.proofs.ReadCommands.{all_read, fault_read, no_fault_read, none_read, one_read, stopped_read}
use Rattle.gx_asked.proofs.asked.Asked.read.Goals as goal

pub loop-reader-init : goal.loop-reader-init
loop-reader-init g c = none_read c.args.features c.args.stream.now c.args.fails _ c.asking-reader.result.commands (omega (arith, c.if-stream-gt-LIMIT.false)) (c.asking-reader.ensures.commands ∙ ap (λ k. Some (commands_asked_from c.args.features k)) c.new-source.ensures.coming)

pub returns-in_err-command-clause-fault : goal.returns-in_err-command-clause-fault
returns-in_err-command-clause-fault g c =
    let p = err_from_is_err_and c.from_residual.result c.from_residual.ensures.1 in
    let l = c.loop-reader in
    rw (p.1, p.2) (fault_read c.args.features c.args.stream.now c.args.fails l.asked l.reader.commands c.next.new.self.commands l.invariant c.in_err-command.field-0.0 c.in_err-command.ensures.reads)

pub returns-in_err-enter-clause-fault : goal.returns-in_err-enter-clause-fault
returns-in_err-enter-clause-fault g c =
    let p = err_from_is_err_and c.from_residual-in_err-enter.result c.from_residual-in_err-enter.ensures.1 in
    let l = c.loop-reader in
    let reads = rw c.in-Some.is at c.in_ok-command.ensures.reads in
    rw (p.1, p.2) (stopped_read c.args.features c.args.stream.now c.args.fails l.asked l.reader.commands c.next.new.self.commands l.invariant c.in-Some.command reads c.in_err-enter.field-0.0 c.in_err-enter.ensures.fault)

pub loop-reader-preserved : goal.loop-reader-preserved
loop-reader-preserved g c =
    let l = c.loop-reader in
    let reads = rw c.in-Some.is at c.in_ok-command.ensures.reads in
    one_read c.args.features c.args.stream.now c.args.fails l.asked l.reader.commands c.next.new.self.commands l.invariant c.in-Some.command c.enter.new.self reads c.enter.ensures.kept c.in_ok-enter.ensures.asked

pub returns-clause-asked : goal.returns-clause-asked
returns-clause-asked g c =
    let l = c.loop-reader in
    let reads = rw c.in_default.is at c.in_ok-command.ensures.reads in
    all_read c.args.features c.args.stream.now c.args.fails l.asked l.reader.commands c.next.new.self.commands l.invariant reads

pub returns-clause-whole : goal.returns-clause-whole
returns-clause-whole g c =
    let l = c.loop-reader in
    let reads = rw c.in_default.is at c.in_ok-command.ensures.reads in
    no_fault_read c.args.features c.args.stream.now c.args.fails l.asked l.reader.commands c.next.new.self.commands l.invariant reads
