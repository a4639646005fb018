use Rattle.std.proofs.Common.{◌≡◌, Vec, ℕ, Some, None, sym, ap, ◌∙◌}
use Rattle.std.proofs.lemmas.Result.{err_from_is_err_and}
use Rattle.gx_command.specs.Ahead.{to_come}
use Rattle.gx_command.specs.Explaining.{Explains, MayBeAhead}
use Rattle.gx_command.specs.declared.ahead.Held.TheVariants as held
use Rattle.gx_command.proofs.ExplainedItems.{block_comes, block_there, fault_comes, line_there}
use Rattle.gx_command.proofs.HeldBlocks.{fault_behind, line_behind, line_read_behind}
use Rattle.gx_command.proofs.ahead.Ahead.block.Goals as goal

pub returns-in-Some-Data-clause-explains : goal.returns-in-Some-Data-clause-explains
unfolding MayBeAhead Explains
returns-in-Some-Data-clause-explains g c =
    let before : c.args.self.now.held ≡ Some (held.Data c.in-Some-Data.bytes) = sym c.take.ensures.value ∙ c.in-Some-Data.is ∙ ap (λ h. Some h) c.in-Some-Data.field-0-is in
    rw (before, c.take.ensures.after) (block_there {X = Vec ℕ g.row.A.Denot} (λ v. v.items) c.in-Some-Data.bytes c.args.self.now.items)

pub returns-in-Some-Line-clause-explains : goal.returns-in-Some-Line-clause-explains
unfolding MayBeAhead Explains
returns-in-Some-Line-clause-explains g c =
    let before : c.args.self.now.held ≡ Some (held.Line c.in-Some-Line.field-0-0) = sym c.take.ensures.value ∙ c.in-Some-Line.is ∙ ap (λ h. Some h) c.in-Some-Line.field-0-is in
    rw before (line_there {X = Vec ℕ g.row.A.Denot} (λ v. v.items) c.in-Some-Line.field-0-0.items c.args.self.now.items (λ s. Unit {0}))

pub returns-in_err-bytes-clause-explains : goal.returns-in_err-bytes-clause-explains
unfolding MayBeAhead Explains
returns-in_err-bytes-clause-explains g c =
    let before : c.args.self.now.held ≡ None = sym c.take.ensures.value ∙ c.in-None.is in
    let p = err_from_is_err_and c.from_residual.result c.from_residual.ensures.1 in
    rw (p.1, p.2, before) (fault_comes {X = Vec ℕ g.row.A.Denot} (λ v. v.items) c.args.self.now.items c.next_block.new.self c.in_err-bytes.field-0.0 (λ s. Unit {0}) c.in_err-bytes.ensures.gives.1)

pub returns-in-Some-clause-explains : goal.returns-in-Some-clause-explains
unfolding MayBeAhead Explains
returns-in-Some-clause-explains g c =
    let before : c.args.self.now.held ≡ None = sym c.take.ensures.value ∙ c.in-None.is in
    let given = rw c.in-Some.is at c.in_ok-bytes.ensures.gives in
    rw (before, c.take.ensures.after) (block_comes {X = Vec ℕ g.row.A.Denot} (λ v. v.items) c.args.self.now.items c.next_block.new.self c.in-Some.bytes given)

pub returns-in_err-_line-clause-explains : goal.returns-in_err-_line-clause-explains
unfolding MayBeAhead Explains
returns-in_err-_line-clause-explains g c =
    let before : c.args.self.now.held ≡ None = sym c.take.ensures.value ∙ c.in-None.is in
    let left = rw c.in_default.is at c.in_ok-bytes.ensures.gives in
    let read = rw c.in_err-_line.was at c.next.follows.holds-at-none in
    let p = err_from_is_err_and c.from_residual-in_err-_line.result c.from_residual-in_err-_line.ensures.1 in
    rw (p.1, p.2, before) (fault_behind {X = Vec ℕ g.row.A.Denot} (λ v. v.items) c.args.self.now.items c.next_block.new.self c.next.follows.lender-at-none left c.in_err-_line.field-0.0 (λ s. Unit {0}) read)

pub returns-clause-reads : goal.returns-clause-reads
unfolding to_come
returns-clause-reads g c =
    let before : c.args.self.now.held ≡ None = sym c.take.ensures.value ∙ c.in-None.is in
    let left = rw c.in_default.is at c.in_ok-bytes.ensures.gives in
    let read = rw c.in_ok-_line.was at c.next.follows.holds-at-none in
    rw before (line_read_behind {X = Vec ℕ g.row.A.Denot} (λ v. v.items) c.args.self.now.items c.next_block.new.self c.next.follows.lender-at-none left c.in_ok-_line._line _ read)

pub returns-clause-explains : goal.returns-clause-explains
unfolding MayBeAhead Explains
returns-clause-explains g c =
    let before : c.args.self.now.held ≡ None = sym c.take.ensures.value ∙ c.in-None.is in
    let left = rw c.in_default.is at c.in_ok-bytes.ensures.gives in
    let read = rw c.in_ok-_line.was at c.next.follows.holds-at-none in
    rw before (line_behind {X = Vec ℕ g.row.A.Denot} (λ v. v.items) c.args.self.now.items c.next_block.new.self c.next.follows.lender-at-none left c.in_ok-_line._line (λ s. Unit {0}) read)
