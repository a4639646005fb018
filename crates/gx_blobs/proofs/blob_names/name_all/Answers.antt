use Rattle.std.proofs.Common.{Ok, Err, refl, sym, ◌∙◌, arith}
use Rattle.gx_blobs.proofs.Progress.{Progress-none, Progress-go, Progress-body, Prints-fault, Prints-last, Prints-stop, Prints-one, PrintsOne-at}
use Rattle.gx_blobs.proofs.blob_names.name_all.Goals as goal

pub returns-in-Err : goal.returns-in-Err
returns-in-Err g c =
    let read = rw c.in-Err.is at c.next.follows.holds-at-none in
    rw (c.ended.ensures, c.kind_of.ensures) (Prints-fault _ _ _ _ _ _ _ _ _ _ c.in-Err.fault c.loop-fault.invariant.progress read)

pub returns-in-Ok-None : goal.returns-in-Ok-None
returns-in-Ok-None g c =
    let read = rw c.in-Ok-None.field-0-is at (rw c.in-Ok-None.is at c.next.follows.holds-at-none) in
    rw c.ended-in-Ok-None.ensures (Prints-last _ _ _ _ _ _ _ _ _ _ c.kind_at_end.result c.kind_at_end.ensures c.loop-fault.invariant.progress read)

pub returns-in-Stop : goal.returns-in-Stop
returns-in-Stop g c =
    let read = rw c.in-Ok-Some.field-0-is at (rw c.in-Ok-Some.is at c.next.follows.holds-at-none) in
    rw c.ended-in-Stop.ensures (Prints-stop _ _ _ _ _ _ _ _ _ _ c.in-Ok-Some.item _ (sym c.in-Stop.ensures) c.loop-fault.invariant.progress read)

pub loop-fault-preserved-in-Go : goal.loop-fault-preserved-in-Go
loop-fault-preserved-in-Go g c =
    let read = rw c.in-Ok-Some.field-0-is at (rw c.in-Ok-Some.is at c.next.follows.holds-at-none) in
    record {
      few = omega (arith, read.1, c.loop-fault.invariant.few);
      namer = c.loop-fault.invariant.namer;
      progress = Progress-go _ _ _ _ _ _ _ _ _ _ _ c.in-Ok-Some.item (sym c.in-Go.ensures) c.loop-fault.invariant.progress read;
    }

pub returns-in-Err-print_one : goal.returns-in-Err-print_one
returns-in-Err-print_one g c =
    let read = rw c.in-Ok-Some.field-0-is at (rw c.in-Ok-Some.is at c.next.follows.holds-at-none) in
    let one = PrintsOne-at g.N.Namer.name_of _ _ c.loop-fault.store.1 c.print_one.new.store.1 (g.W.Sink.taken c.loop-fault.sink) (g.W.Sink.taken c.print_one.new.sink) c.in-Body.bytes.now (Err c.in-Err-print_one.kind) c.loop-fault.invariant.namer c.in-Err-print_one.ensures.prints in
    rw c.ended-in-Err-print_one.ensures (Prints-one _ _ _ _ _ _ _ _ _ _ c.print_one.new.store.1 _ c.in-Ok-Some.item c.in-Body.bytes.now c.in-Err-print_one.kind (sym c.in-Body.ensures) c.loop-fault.invariant.progress read one)

pub loop-fault-preserved : goal.loop-fault-preserved
loop-fault-preserved g c =
    let read = rw c.in-Ok-Some.field-0-is at (rw c.in-Ok-Some.is at c.next.follows.holds-at-none) in
    let one = PrintsOne-at g.N.Namer.name_of _ _ c.loop-fault.store.1 c.print_one.new.store.1 (g.W.Sink.taken c.loop-fault.sink) (g.W.Sink.taken c.print_one.new.sink) c.in-Body.bytes.now (Ok c.in_default.field-0) c.loop-fault.invariant.namer c.in_default.ensures.prints in
    record {
      few = omega (arith, read.1, c.loop-fault.invariant.few);
      namer = c.print_one.ensures.namer ∙ c.loop-fault.invariant.namer;
      progress = Progress-body _ _ _ _ _ _ _ _ _ _ _ _ c.in-Ok-Some.item c.in-Body.bytes.now c.in_default.field-0 (sym c.in-Body.ensures) c.loop-fault.invariant.progress read one;
    }

pub loop-fault-init : goal.loop-fault-init
loop-fault-init g c =
    record {
      few = omega (arith, c.requires.few);
      namer = refl;
      progress = Progress-none _ _ _ _ c.requires.empty;
    }
