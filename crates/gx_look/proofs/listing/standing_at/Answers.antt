use Rattle.std.proofs.Common.{◌-◌, ◌≤◌, ℕ, arith, length, refl, sym}
use Rattle.std.proofs.lemmas.Result.{err_from_is_err_and}
use Rattle.gx_look.proofs.ListedTexts.{head_is, standing_of}
use Rattle.gx_look.proofs.RecordsInRooms.{heading_fault, heading_is, length_fits, parts_long, told_apart}
use Rattle.gx_look.proofs.listing.standing_at.Goals as goal

pub returns-in_err-heading-clause-standing : goal.returns-in_err-heading-clause-standing
returns-in_err-heading-clause-standing g c =
    let p = err_from_is_err_and c.from_residual-in_err-heading.result c.from_residual-in_err-heading.ensures.1 in
    let told = g.S.ReadAt.text c.args.source.now in
    let room = c.refill.new.room.items in
    let size = c.in_ok-refill.ensures.count in
    let left = c.in-Some.ensures.1 in
    let within : length room ≤ c.args.ends - c.args.place = omega (arith, size, left, c.min.ensures) in
    let wide : (n : ℕ) → n ≤ 128 → n ≤ c.args.ends - c.args.place → n ≤ length room = λ n a b. omega (arith, size, left, c.min.ensures) in
    rw (p.1, p.2) (standing_of told c.args.ends c.args.place c.args.name.now _ (λ name text is held here.
    heading_fault name told c.args.ends c.args.place c.args.name.now.bytes room c.as_slice.result.now c.as_slice.ensures.value c.in_ok-refill.ensures.there within wide text is held here c.in_err-heading.field-0.0 c.in_err-heading.ensures.heading))

pub returns-then-ne-clause-standing : goal.returns-then-ne-clause-standing
returns-then-ne-clause-standing g c =
    let told = g.S.ReadAt.text c.args.source.now in
    let room = c.refill.new.room.items in
    let size = c.in_ok-refill.ensures.count in
    let left = c.in-Some.ensures.1 in
    let within : length room ≤ c.args.ends - c.args.place = omega (arith, size, left, c.min.ensures) in
    let wide : (n : ℕ) → n ≤ 128 → n ≤ c.args.ends - c.args.place → n ≤ length room = λ n a b. omega (arith, size, left, c.min.ensures) in
    standing_of told c.args.ends c.args.place c.args.name.now _ (λ name text is held here same.
    let h = heading_is name told c.args.ends c.args.place c.args.name.now.bytes room c.as_slice.result.now c.as_slice.ensures.value c.in_ok-refill.ensures.there within wide text is held here (c.in_ok-heading.heading, c.in_ok-heading.start) c.in_ok-heading.ensures.heading in
    told_apart c.in_ok-heading.heading.name.bytes c.args.name.now.bytes c.ne.result c.ne.ensures c.if-ne.true h.name_is)

pub returns-then-heading-left-clause-standing : goal.returns-then-heading-left-clause-standing
returns-then-heading-left-clause-standing g c =
    let told = g.S.ReadAt.text c.args.source.now in
    let room = c.refill.new.room.items in
    let size = c.in_ok-refill.ensures.count in
    let left = c.in-Some.ensures.1 in
    let within : length room ≤ c.args.ends - c.args.place = omega (arith, size, left, c.min.ensures) in
    let wide : (n : ℕ) → n ≤ 128 → n ≤ c.args.ends - c.args.place → n ≤ length room = λ n a b. omega (arith, size, left, c.min.ensures) in
    standing_of told c.args.ends c.args.place c.args.name.now _ (λ name text is held here same.
    let fits = length_fits name told c.args.ends c.args.place c.args.name.now.bytes room c.as_slice.result.now c.as_slice.ensures.value c.in_ok-refill.ensures.there within wide text is held here (c.in_ok-heading.heading, c.in_ok-heading.start) c.in_ok-heading.ensures.heading in
    absurd (omega (arith, fits, left, c.if-heading-left.true)))

pub returns-clause-standing : goal.returns-clause-standing
returns-clause-standing g c =
    let told = g.S.ReadAt.text c.args.source.now in
    let room = c.refill.new.room.items in
    let size = c.in_ok-refill.ensures.count in
    let left = c.in-Some.ensures.1 in
    let within : length room ≤ c.args.ends - c.args.place = omega (arith, size, left, c.min.ensures) in
    let wide : (n : ℕ) → n ≤ 128 → n ≤ c.args.ends - c.args.place → n ≤ length room = λ n a b. omega (arith, size, left, c.min.ensures) in
    standing_of told c.args.ends c.args.place c.args.name.now _ (λ name text is held here.
    let h = heading_is name told c.args.ends c.args.place c.args.name.now.bytes room c.as_slice.result.now c.as_slice.ensures.value c.in_ok-refill.ensures.there within wide text is held here (c.in_ok-heading.heading, c.in_ok-heading.start) c.in_ok-heading.ensures.heading in
    let size = parts_long name text c.args.ends c.args.place c.args.name.now.bytes held here in
    let start = h.start_is in
    let body = h.length_is in (
      refl,
      head_is c.args.name.now (record { place = c.args.place; kind = c.in_ok-heading.heading.kind; length = c.in_ok-heading.heading.length }) held (sym here.name_is) h.kind_is h.length_is,
      omega (arith, size, start, body),
    ))
