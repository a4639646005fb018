use Rattle.std.proofs.Common.{◌≡◌, ℕ, ◌+◌, ◌-◌, ◌≤◌, ◌∙◌, arith, sym, ap, length, subst}
use Rattle.std.specs.Prelude.{slice_range}
use Rattle.std.proofs.lemmas.Result.{err_from_is_err_and}
use Rattle.gx_look.proofs.RecordsInRooms.{HasBody, body_named, body_read, heading_fault, heading_is, length_fits, told_apart, told_of}
use Rattle.gx_look.proofs.records.read_record.Goals as goal
use Rattle.gx_look.proofs.records.read_record.Goals.{then-end-len+in_ok-read_on, else-end-len}

pub returns-in_err-heading-clause-record : goal.returns-in_err-heading-clause-record
returns-in_err-heading-clause-record g c =
    let p = err_from_is_err_and c.from_residual-in_err-heading.result c.from_residual-in_err-heading.ensures.1 in
    let name = g.N.Namer.name_of c.args.namer.now in
    let told = g.S.ReadAt.text c.args.source.now in
    let room = c.refill.new.room.items in
    let size = c.in_ok-refill.ensures.count in
    let left = c.in-Some.ensures.1 in
    let within : length room ≤ c.args.ends - c.args.place = omega (arith, size, left, c.min.ensures) in
    let wide : (n : ℕ) → n ≤ 128 → n ≤ c.args.ends - c.args.place → n ≤ length room = λ n a b. omega (arith, size, left, c.min.ensures) in
    rw (p.1, p.2) (told_of name told c.args.ends c.args.place c.args.name.now.bytes room _ (λ text is held here.
    heading_fault name told c.args.ends c.args.place c.args.name.now.bytes room c.as_slice.result.now c.as_slice.ensures.value c.in_ok-refill.ensures.there within wide text is held here c.in_err-heading.field-0.0 c.in_err-heading.ensures.heading))

pub returns-then-ne-clause-record : goal.returns-then-ne-clause-record
returns-then-ne-clause-record g c =
    let name = g.N.Namer.name_of c.args.namer.now in
    let told = g.S.ReadAt.text c.args.source.now in
    let room = c.refill.new.room.items in
    let size = c.in_ok-refill.ensures.count in
    let left = c.in-Some.ensures.1 in
    let within : length room ≤ c.args.ends - c.args.place = omega (arith, size, left, c.min.ensures) in
    let wide : (n : ℕ) → n ≤ 128 → n ≤ c.args.ends - c.args.place → n ≤ length room = λ n a b. omega (arith, size, left, c.min.ensures) in
    told_of name told c.args.ends c.args.place c.args.name.now.bytes room _ (λ text is held here same.
    let h = heading_is name told c.args.ends c.args.place c.args.name.now.bytes room c.as_slice.result.now c.as_slice.ensures.value c.in_ok-refill.ensures.there within wide text is held here (c.in_ok-heading.heading, c.in_ok-heading.start) c.in_ok-heading.ensures.heading in
    told_apart c.in_ok-heading.heading.name.bytes c.args.name.now.bytes c.ne.result c.ne.ensures c.if-ne.true h.name_is)

pub returns-then-heading-left-clause-record : goal.returns-then-heading-left-clause-record
returns-then-heading-left-clause-record g c =
    let name = g.N.Namer.name_of c.args.namer.now in
    let told = g.S.ReadAt.text c.args.source.now in
    let room = c.refill.new.room.items in
    let size = c.in_ok-refill.ensures.count in
    let left = c.in-Some.ensures.1 in
    let within : length room ≤ c.args.ends - c.args.place = omega (arith, size, left, c.min.ensures) in
    let wide : (n : ℕ) → n ≤ 128 → n ≤ c.args.ends - c.args.place → n ≤ length room = λ n a b. omega (arith, size, left, c.min.ensures) in
    told_of name told c.args.ends c.args.place c.args.name.now.bytes room _ (λ text is held here same.
    let fits = length_fits name told c.args.ends c.args.place c.args.name.now.bytes room c.as_slice.result.now c.as_slice.ensures.value c.in_ok-refill.ensures.there within wide text is held here (c.in_ok-heading.heading, c.in_ok-heading.start) c.in_ok-heading.ensures.heading in
    absurd (omega (arith, fits, left, c.if-heading-left.true)))

pub returns-then-ne-2-clause-record : goal.returns-then-ne-2-clause-record
returns-then-ne-2-clause-record g c =
    let name = g.N.Namer.name_of c.args.namer.now in
    let told = g.S.ReadAt.text c.args.source.now in
    let room = c.refill.new.room.items in
    let size = c.in_ok-refill.ensures.count in
    let left = c.in-Some.ensures.1 in
    let within : length room ≤ c.args.ends - c.args.place = omega (arith, size, left, c.min.ensures) in
    let wide : (n : ℕ) → n ≤ 128 → n ≤ c.args.ends - c.args.place → n ≤ length room = λ n a b. omega (arith, size, left, c.min.ensures) in
    let end = c.in_ok-heading.start + c.in_ok-heading.heading.length in
    let starts : c.in_ok-heading.start ≤ length room = subst (λ z. c.in_ok-heading.start ≤ length z) c.as_slice.ensures.value c.in_ok-heading.ensures.within in
    let has : HasBody told c.args.ends c.args.place end c.if-end-len.room.items = elim c.if-end-len.branch [
      | then-end-len+in_ok-read_on w ↦ subst (λ v. HasBody told c.args.ends c.args.place end v.items) (sym w.room-is) (record {
        there = w.in_ok-read_on.ensures.there;
        short = omega (arith, w.in_ok-read_on.ensures.count, starts, within, left, c.if-heading-left.false);
        enough = omega (arith, w.in_ok-read_on.ensures.count);
      })
      | else-end-len w ↦ subst (λ v. HasBody told c.args.ends c.args.place end v.items) (sym w.room-is) (record {
        there = c.in_ok-refill.ensures.there;
        short = within;
        enough = (let a = sym (ap length c.as_slice.ensures.value) ∙ c.as_slice.ensures.len in omega (arith, a, c.len.ensures, w.if-end-len.false));
      })
    ] in
    told_of name told c.args.ends c.args.place c.args.name.now.bytes c.if-end-len.room.items _ (λ text is held here same.
    let named = body_named name told c.args.ends c.args.place c.args.name.now.bytes room c.as_slice.result.now c.as_slice.ensures.value c.in_ok-refill.ensures.there within wide text is held here (c.in_ok-heading.heading, c.in_ok-heading.start) c.in_ok-heading.ensures.heading c.if-end-len.room.items has in
    told_apart c.name.result.bytes c.args.name.now.bytes c.ne-2.result c.ne-2.ensures c.if-ne-2.true (subst (λ z. c.name.result.bytes ≡ name c.in_ok-heading.heading.kind z) (ap (λ z. slice_range z c.in_ok-heading.start end) c.as_slice-2.ensures.value) c.name.ensures ∙ named))

pub returns-clause-record : goal.returns-clause-record
returns-clause-record g c =
    let name = g.N.Namer.name_of c.args.namer.now in
    let told = g.S.ReadAt.text c.args.source.now in
    let room = c.refill.new.room.items in
    let size = c.in_ok-refill.ensures.count in
    let left = c.in-Some.ensures.1 in
    let within : length room ≤ c.args.ends - c.args.place = omega (arith, size, left, c.min.ensures) in
    let wide : (n : ℕ) → n ≤ 128 → n ≤ c.args.ends - c.args.place → n ≤ length room = λ n a b. omega (arith, size, left, c.min.ensures) in
    let end = c.in_ok-heading.start + c.in_ok-heading.heading.length in
    let starts : c.in_ok-heading.start ≤ length room = subst (λ z. c.in_ok-heading.start ≤ length z) c.as_slice.ensures.value c.in_ok-heading.ensures.within in
    let has : HasBody told c.args.ends c.args.place end c.if-end-len.room.items = elim c.if-end-len.branch [
      | then-end-len+in_ok-read_on w ↦ subst (λ v. HasBody told c.args.ends c.args.place end v.items) (sym w.room-is) (record {
        there = w.in_ok-read_on.ensures.there;
        short = omega (arith, w.in_ok-read_on.ensures.count, starts, within, left, c.if-heading-left.false);
        enough = omega (arith, w.in_ok-read_on.ensures.count);
      })
      | else-end-len w ↦ subst (λ v. HasBody told c.args.ends c.args.place end v.items) (sym w.room-is) (record {
        there = c.in_ok-refill.ensures.there;
        short = within;
        enough = (let a = sym (ap length c.as_slice.ensures.value) ∙ c.as_slice.ensures.len in omega (arith, a, c.len.ensures, w.if-end-len.false));
      })
    ] in
    told_of name told c.args.ends c.args.place c.args.name.now.bytes c.if-end-len.room.items _ (λ text is held here.
    let h = heading_is name told c.args.ends c.args.place c.args.name.now.bytes room c.as_slice.result.now c.as_slice.ensures.value c.in_ok-refill.ensures.there within wide text is held here (c.in_ok-heading.heading, c.in_ok-heading.start) c.in_ok-heading.ensures.heading in (
      h.kind_is,
      body_read name told c.args.ends c.args.place c.args.name.now.bytes room c.as_slice.result.now c.as_slice.ensures.value c.in_ok-refill.ensures.there within wide text is held here (c.in_ok-heading.heading, c.in_ok-heading.start) c.in_ok-heading.ensures.heading c.if-end-len.room.items has,
    ))
