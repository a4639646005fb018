use Rattle.std.proofs.Common.{◌+◌, ap}
use Rattle.gx_model.specs.declared.faults.Fault.{Fault}
use Rattle.gx_import.specs.declared.fault.ImportFault.{ImportFault}
use Rattle.gx_import.proofs.replay.next_command.Goals as goal

pub returns-in-Ok-clause-reads : goal.returns-in-Ok-clause-reads
returns-in-Ok-clause-reads g c = record { reads = c.in-Ok.ensures.reads; explains = c.in-Ok.ensures.explains }

pub returns-in-Err-clause-reads : goal.returns-in-Err-clause-reads
returns-in-Err-clause-reads g c =
    let fault : Fault → ImportFault = λ kind. record { command = c.args.commands + 1; kind = kind; checkpoints = c.args.checkpoints } in
    (c.in-Err.fault, ap fault c.from.ensures, record { reads = c.in-Err.ensures.reads; explains = c.in-Err.ensures.explains })
