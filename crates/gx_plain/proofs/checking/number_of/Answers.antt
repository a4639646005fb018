use Rattle.std.proofs.Common.{◌≡◌, sym, rules}
use Rattle.gx_plain.proofs.ListedObjects.{some_listed, within_listed}
use Rattle.gx_plain.proofs.Checks.{kind_found, none_found, other_found}
use Rattle.gx_plain.proofs.checking.number_of.Goals as goal

pub returns-in_err-number : goal.returns-in_err-number
returns-in_err-number g c = rw c.from_residual.ensures (none_found c.args.listing.now c.args.kind c.args.name.now.bytes c.in_err-number.ensures)

pub returns-in_err-one : goal.returns-in_err-one
returns-in_err-one g c =
    let listed = c.args.listing.now in
    let i = c.in_ok-number.number in
    absurd (some_listed listed i (within_listed listed c.args.name.now.bytes i c.in_ok-number.ensures) c.in_err-one.ensures)

pub returns-then-eq : goal.returns-then-eq
returns-then-eq g c =
    let same : c.in_ok-one.one.1.kind ≡ c.args.kind = search (rules, c.if-eq.true, c.eq.ensures) in
    kind_found c.args.listing.now c.args.kind c.args.name.now.bytes c.in_ok-number.number c.in_ok-one.one c.in_ok-number.ensures (sym c.in_ok-one.ensures) same

pub returns-else-eq : goal.returns-else-eq
returns-else-eq g c =
    other_found c.args.listing.now c.args.kind c.args.name.now.bytes c.in_ok-number.number c.in_ok-one.one c.in_ok-number.ensures (sym c.in_ok-one.ensures) (λ same. absurd (search (rules, c.if-eq.false, c.eq.ensures, same)))
