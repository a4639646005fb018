use Rattle.std.proofs.Common.{◌+◌, [], None, Ok, Err, refl, sym, ap, subst, ◌∙◌, arith}
use Rattle.std.proofs.lemmas.List.{append-nil}
use Rattle.std.proofs.lemmas.Result.{err_from_is_err_and}
use Rattle.gx_model.specs.Streams.Gitlinks.{HoldsSayable}
use Rattle.gx_model.specs.Records.HistoryOf.{history_of}
use Rattle.gx_model.specs.Replay.{State}
use Rattle.gx_model.proofs.Replay.GitlinkSteps.{none_held}
use Rattle.gx_command.specs.Views.{shown_command}
use Rattle.gx_command.specs.CommandFaults.{fault_of as of_command}
use Rattle.gx_import.specs.Applying.{Applies}
use Rattle.gx_import.specs.Explaining.{ExplainsFault}
use Rattle.gx_import.specs.declared.fault.ImportFault.{ImportFault}
use Rattle.gx_import.specs.Imports.{Imports}
use Rattle.gx_import.specs.Keeping.{Keeps, left_of}
use Rattle.gx_import.specs.Replaying.{EndsAs}
use Rattle.gx_import.specs.Retelling.{IsOfOneReplay}
use Rattle.gx_import.proofs.Extended.{extended_more}
use Rattle.gx_import.proofs.KeptCheckpoints.{counted_next, kept_start, left_next, left_start}
use Rattle.gx_import.specs.Standing.{AreTipsAtHome, Stands}
use Rattle.gx_import.proofs.ReachedStates.{IsAt, at_end, at_next, at_refused, at_start, at_stopped, one_refused, one_stopped, stand_empty, starting, starting_free, step_keeps, told_refused, told_stopped}
use Rattle.gx_import.proofs.TipHomes.{AreHome}
use Rattle.gx_import.proofs.replay.replay_commands.Goals as goal

pub loop-command-init : goal.loop-command-init
loop-command-init g c =
    let name = g.N.Namer.name_of c.args.repo.now.0 in
    record {
      namer = refl;
      blank = c.requires.blank;
      extends = ([], sym (append-nil c.args.repo.now.1.records));
      homes = record { tips = subst (AreHome name c.args.repo.now.1.records) (sym c.requires.empty.branches) tt; loaded = c.requires.empty.loaded name c.args.repo.now.1.records };
      room = omega (arith, c.requires.most);
      counted = omega (arith, c.requires.none.count);
      left = left_start c.args.repo.now.1 c.args.checkpoints.now c.requires.none c.sound.ensures.held;
      stands = (
        starting c.args.tables.now.is_forced (history_of c.args.repo.now.1),
        stand_empty name c.args.repo.now.1 c.args.tables.now c.requires.empty,
        λ asks coming same is. at_start asks name c.args.tables.now.is_forced c.args.repo.now.1 coming c.args.reader.now (g.W.Sink.taken c.args.sink.now) same is,
        λ is none. starting_free c.args.tables.now.is_forced (history_of c.args.repo.now.1) is none,
        kept_start c.args.repo.now.1 c.args.checkpoints.now c.requires.none,
      );
    }

pub next_command-requires : goal.next_command-requires
next_command-requires g c = record { room = omega (arith, c.loop-command.invariant.room) }

pub returns-in_err-command-clause-namer : goal.returns-in_err-command-clause-namer
returns-in_err-command-clause-namer g c = c.loop-command.invariant.namer

pub returns-in_err-command-clause-extends : goal.returns-in_err-command-clause-extends
returns-in_err-command-clause-extends g c = c.loop-command.invariant.extends

pub returns-in_err-command-clause-replayed : goal.returns-in_err-command-clause-replayed
returns-in_err-command-clause-replayed g c = λ asks coming same is.
    let p = err_from_is_err_and c.from_residual.result c.from_residual.ensures.1 in
    let inv = c.loop-command.invariant in
    let old = c.args.repo.now.1 in
    let last = left_of c.loop-command.checkpoints c.loop-command.repo.1 in
    let was = g.W.Sink.taken c.args.sink.now in
    let now = g.W.Sink.taken c.loop-command.sink in
    let q = c.in_err-command.ensures.reads in
    let h = at_refused asks (g.N.Namer.name_of c.loop-command.repo.0) g.row.A.Denot old last coming c.loop-command.commands inv.stands.0 c.loop-command.reader c.next_command.new.reader was now (inv.stands.2 asks coming same is) q.0 q.2 c.loop-command.checkpoints.count inv.stands.4 in
    rw (p.1, p.2) (subst (λ f. Imports asks (g.N.Namer.name_of c.args.repo.now.0) old last coming was now (Err f)) (sym q.1) (subst (λ n. Imports asks (g.N.Namer.name_of n) old last coming was now (Err (record { command = c.loop-command.commands + 1; kind = of_command q.0; checkpoints = c.loop-command.checkpoints.count }))) inv.namer h))

pub overflow_add-commands : goal.overflow_add-commands
overflow_add-commands g c = omega (arith, c.loop-command.invariant.room)

pub apply-requires : goal.apply-requires
apply-requires g c = record { blank = c.loop-command.invariant.blank; stands = (c.loop-command.invariant.stands.0, c.loop-command.invariant.stands.1); homes = c.loop-command.invariant.homes; fits = c.loop-command.invariant.left.fits; room = omega (arith, c.loop-command.invariant.room, c.loop-command.invariant.counted) }

pub returns-in-Err-clause-namer : goal.returns-in-Err-clause-namer
returns-in-Err-clause-namer g c = c.apply.ensures.namer ∙ c.loop-command.invariant.namer

pub returns-in-Err-clause-extends : goal.returns-in-Err-clause-extends
returns-in-Err-clause-extends g c = extended_more c.args.repo.now.1.records c.loop-command.repo.1.records c.apply.new.repo.1.records c.loop-command.invariant.extends c.apply.ensures.extends

pub returns-in-Err-clause-replayed : goal.returns-in-Err-clause-replayed
returns-in-Err-clause-replayed g c = λ asks coming same is.
    let inv = c.loop-command.invariant in
    let old = c.args.repo.now.1 in
    let last = left_of c.apply.new.checkpoints c.apply.new.repo.1 in
    let was = g.W.Sink.taken c.args.sink.now in
    let mid = g.W.Sink.taken c.loop-command.sink in
    let now = g.W.Sink.taken c.apply.new.sink in
    let name = g.N.Namer.name_of c.loop-command.repo.0 in
    let reads = rw c.in-Some.is at c.in_ok-command.ensures.reads in
    let h = at_stopped asks name old last c.loop-command.repo.1 c.apply.new.repo.1 c.apply.new.tables coming c.loop-command.commands inv.stands.0 c.in-Some.command c.loop-command.reader c.next_command.new.reader was mid now (inv.stands.2 asks coming same is) reads c.in-Err.kind (c.in-Err.ensures.steps inv.stands.0 inv.stands.1) c.apply.new.checkpoints.count (c.in-Err.ensures.keeps inv.stands.0 inv.stands.1 inv.stands.4) in
    subst (λ n. Imports asks (g.N.Namer.name_of n) old last coming was now (Err (record { command = c.loop-command.commands + 1; kind = c.in-Err.kind; checkpoints = c.apply.new.checkpoints.count }))) inv.namer h

pub loop-command-preserved : goal.loop-command-preserved
loop-command-preserved g c =
    let inv = c.loop-command.invariant in
    let old = c.args.repo.now.1 in
    let was = g.W.Sink.taken c.args.sink.now in
    let mid = g.W.Sink.taken c.loop-command.sink in
    let now = g.W.Sink.taken c.apply.new.sink in
    let name = g.N.Namer.name_of c.loop-command.repo.0 in
    let reads = rw c.in-Some.is at c.in_ok-command.ensures.reads in
    let falls = rw c.in-Some.is at c.in_ok-command.ensures.falls in
    let brings = rw c.in-Some.is at c.in_ok-command.ensures.gitlinks in
    let h : Applies name c.loop-command.repo.1 c.apply.new.repo.1 c.apply.new.tables inv.stands.0 (shown_command c.in-Some.command) mid now (Ok tt) = c.in_default-apply.ensures.steps inv.stands.0 inv.stands.1 in
    record {
      namer = c.apply.ensures.namer ∙ inv.namer;
      blank = c.in_default-apply.ensures.told inv.stands.0 inv.stands.1;
      extends = extended_more old.records c.loop-command.repo.1.records c.apply.new.repo.1.records inv.extends c.apply.ensures.extends;
      homes = subst (λ n. AreTipsAtHome (g.N.Namer.name_of n) c.apply.new.repo.1.records c.apply.new.tables) (sym c.apply.ensures.namer) c.in_default-apply.ensures.homes;
      room = omega (arith, inv.room, falls);
      counted = counted_next c.loop-command.repo.1 c.apply.new.repo.1 c.loop-command.checkpoints c.apply.new.checkpoints c.loop-command.commands c.apply.ensures.moves inv.counted;
      left = left_next old c.loop-command.repo.1 c.apply.new.repo.1 c.loop-command.checkpoints c.apply.new.checkpoints inv.left c.apply.ensures.extends c.apply.ensures.moves;
      stands = (
        h.0,
        subst (λ n. Stands (g.N.Namer.name_of n) c.apply.new.repo.1 c.apply.new.tables h.0) (sym c.apply.ensures.namer) h.3,
        λ asks coming same is. subst (λ n. IsAt asks (g.N.Namer.name_of n) old coming (c.loop-command.commands + 1) h.0 c.next_command.new.reader was now) (sym c.apply.ensures.namer)
            (at_next asks name old c.loop-command.repo.1 c.apply.new.repo.1 c.apply.new.tables coming c.loop-command.commands inv.stands.0 c.in-Some.command c.loop-command.reader c.next_command.new.reader was mid now (inv.stands.2 asks coming same is) reads h),
        λ is none. step_keeps name inv.stands.0 h.0 (shown_command c.in-Some.command) h.2 (inv.stands.3 is none) brings,
        c.in_default-apply.ensures.keeps inv.stands.0 inv.stands.1 inv.stands.4 h.0 h.2,
      );
    }

pub returns-clause-namer : goal.returns-clause-namer
returns-clause-namer g c = c.loop-command.invariant.namer

pub returns-clause-extends : goal.returns-clause-extends
returns-clause-extends g c = c.loop-command.invariant.extends

pub returns-clause-count : goal.returns-clause-count
returns-clause-count g c = omega (arith, c.loop-command.invariant.room)

pub returns-clause-replayed : goal.returns-clause-replayed
returns-clause-replayed g c = λ asks coming same is.
    let inv = c.loop-command.invariant in
    let old = c.args.repo.now.1 in
    let was = g.W.Sink.taken c.args.sink.now in
    let now = g.W.Sink.taken c.loop-command.sink in
    let reads = rw c.in_default.is at c.in_ok-command.ensures.reads in
    let h = at_end asks (g.N.Namer.name_of c.loop-command.repo.0) g.row.A.Denot old coming c.loop-command.commands inv.stands.0 c.loop-command.reader c.next_command.new.reader was now (inv.stands.2 asks coming same is) reads in
    subst (λ n. (s : State) × Stands (g.N.Namer.name_of n) c.loop-command.repo.1 c.loop-command.tables s × Keeps c.loop-command.repo.1 c.loop-command.checkpoints s × EndsAs asks (g.N.Namer.name_of n) old coming c.loop-command.commands s was now) inv.namer (inv.stands.0, inv.stands.1, inv.stands.4, h)

pub returns-clause-gitlinks : goal.returns-clause-gitlinks
returns-clause-gitlinks g c = λ is none.
    let stands = c.loop-command.invariant.stands in
    subst HoldsSayable (sym stands.1.history) (none_held stands.0 (stands.3 is none))

pub returns-in_err-command-clause-left : goal.returns-in_err-command-clause-left
returns-in_err-command-clause-left g c = c.loop-command.invariant.left

pub returns-in_err-command-clause-counted : goal.returns-in_err-command-clause-counted
returns-in_err-command-clause-counted g c =
    let p = err_from_is_err_and c.from_residual.result c.from_residual.ensures.1 in
    rw (p.1, p.2) (ap (λ f. f.checkpoints) c.in_err-command.ensures.reads.1)

pub returns-in_err-command-clause-gitlinks_left : goal.returns-in_err-command-clause-gitlinks_left
returns-in_err-command-clause-gitlinks_left g c = λ is none.
    let stands = c.loop-command.invariant.stands in
    subst HoldsSayable (sym stands.4.history) (stands.3 is none).kept

pub returns-in-Err-clause-left : goal.returns-in-Err-clause-left
returns-in-Err-clause-left g c =
    let inv = c.loop-command.invariant in
    left_next c.args.repo.now.1 c.loop-command.repo.1 c.apply.new.repo.1 c.loop-command.checkpoints c.apply.new.checkpoints inv.left c.apply.ensures.extends c.apply.ensures.moves

pub returns-in-Err-clause-gitlinks_left : goal.returns-in-Err-clause-gitlinks_left
returns-in-Err-clause-gitlinks_left g c = λ is none.
    let stands = c.loop-command.invariant.stands in
    let leaves = c.in-Err.ensures.keeps stands.0 stands.1 stands.4 in
    subst HoldsSayable (sym leaves.history) (stands.3 is none).kept

pub returns-clause-left : goal.returns-clause-left
returns-clause-left g c = c.loop-command.invariant.left

pub returns-clause-gitlinks_left : goal.returns-clause-gitlinks_left
returns-clause-gitlinks_left g c = λ is none.
    let stands = c.loop-command.invariant.stands in
    subst HoldsSayable (sym stands.4.history) (stands.3 is none).kept

-- ---- what is told

pub returns-in_err-command-clause-explained : goal.returns-in_err-command-clause-explained
returns-in_err-command-clause-explained g c = λ asks coming same is.
    let p = err_from_is_err_and c.from_residual.result c.from_residual.ensures.1 in
    let inv = c.loop-command.invariant in
    let old = c.args.repo.now.1 in
    let told = c.loop-command.told in
    let was = g.W.Sink.taken c.args.sink.now in
    let now = g.W.Sink.taken c.loop-command.sink in
    let q = c.in_err-command.ensures.reads in
    let h = told_refused asks (g.N.Namer.name_of c.loop-command.repo.0) g.row.A.Denot old coming c.loop-command.commands inv.stands.0 c.loop-command.reader c.next_command.new.reader was now (inv.stands.2 asks coming same is) q.0 q.2 told inv.blank c.loop-command.checkpoints.count in
    let fault : ImportFault = record { command = c.loop-command.commands + 1; kind = of_command q.0; checkpoints = c.loop-command.checkpoints.count } in
    rw (p.1, p.2) (subst (λ f. ExplainsFault (g.N.Namer.name_of c.args.repo.now.0) asks old coming f told) (sym q.1) (subst (λ n. ExplainsFault (g.N.Namer.name_of n) asks old coming fault told) inv.namer h))

pub returns-in-Err-clause-explained : goal.returns-in-Err-clause-explained
returns-in-Err-clause-explained g c = λ asks coming same is.
    let inv = c.loop-command.invariant in
    let old = c.args.repo.now.1 in
    let told = c.apply.new.told in
    let was = g.W.Sink.taken c.args.sink.now in
    let mid = g.W.Sink.taken c.loop-command.sink in
    let name = g.N.Namer.name_of c.loop-command.repo.0 in
    let reads = rw c.in-Some.is at c.in_ok-command.ensures.reads in
    let h = told_stopped asks name old coming c.loop-command.commands inv.stands.0 c.in-Some.command c.loop-command.reader c.next_command.new.reader was mid (inv.stands.2 asks coming same is) reads c.in-Err.kind told (c.in-Err.ensures.told inv.stands.0 inv.stands.1) c.apply.new.checkpoints.count in
    subst (λ n. ExplainsFault (g.N.Namer.name_of n) asks old coming (record { command = c.loop-command.commands + 1; kind = c.in-Err.kind; checkpoints = c.apply.new.checkpoints.count }) told) inv.namer h

pub returns-clause-explained : goal.returns-clause-explained
returns-clause-explained g c = λ asks coming same is. c.loop-command.invariant.blank

-- where the source tells nothing, all of it is of one replay
pub returns-in_err-command-clause-retold : goal.returns-in_err-command-clause-retold
returns-in_err-command-clause-retold g c =
    let p = err_from_is_err_and c.from_residual.result c.from_residual.ensures.1 in
    rw (p.1, p.2) (λ asks same is.
    let inv = c.loop-command.invariant in
    let old = c.args.repo.now.1 in
    let told = c.loop-command.told in
    let last = left_of c.loop-command.checkpoints c.loop-command.repo.1 in
    let was = g.W.Sink.taken c.args.sink.now in
    let now = g.W.Sink.taken c.loop-command.sink in
    let q = c.in_err-command.ensures.reads in
    let fault : ImportFault = record { command = c.loop-command.commands + 1; kind = of_command q.0; checkpoints = c.loop-command.checkpoints.count } in
    let h = one_refused asks (g.N.Namer.name_of c.loop-command.repo.0) g.row.A.Denot old last c.loop-command.commands inv.stands.0 c.loop-command.reader c.next_command.new.reader was now (inv.stands.2 asks None same is) q.0 q.2 c.loop-command.checkpoints.count inv.stands.4 told inv.blank in
    subst (λ f. IsOfOneReplay asks (g.N.Namer.name_of c.args.repo.now.0) old last was now (Err f) told) (sym q.1) (subst (λ n. IsOfOneReplay asks (g.N.Namer.name_of n) old last was now (Err fault) told) inv.namer h))

pub returns-in-Err-clause-retold : goal.returns-in-Err-clause-retold
returns-in-Err-clause-retold g c = λ asks same is.
    let inv = c.loop-command.invariant in
    let old = c.args.repo.now.1 in
    let told = c.apply.new.told in
    let last = left_of c.apply.new.checkpoints c.apply.new.repo.1 in
    let was = g.W.Sink.taken c.args.sink.now in
    let mid = g.W.Sink.taken c.loop-command.sink in
    let now = g.W.Sink.taken c.apply.new.sink in
    let name = g.N.Namer.name_of c.loop-command.repo.0 in
    let reads = rw c.in-Some.is at c.in_ok-command.ensures.reads in
    let h = one_stopped asks name old last c.loop-command.repo.1 c.apply.new.repo.1 c.apply.new.tables c.loop-command.commands inv.stands.0 c.in-Some.command c.loop-command.reader c.next_command.new.reader was mid now (inv.stands.2 asks None same is) reads c.in-Err.kind (c.in-Err.ensures.steps inv.stands.0 inv.stands.1) c.apply.new.checkpoints.count (c.in-Err.ensures.keeps inv.stands.0 inv.stands.1 inv.stands.4) told (c.in-Err.ensures.told inv.stands.0 inv.stands.1) in
    subst (λ n. IsOfOneReplay asks (g.N.Namer.name_of n) old last was now (Err (record { command = c.loop-command.commands + 1; kind = c.in-Err.kind; checkpoints = c.apply.new.checkpoints.count })) told) inv.namer h
