use Rattle.std.proofs.Common.{◌≡◌, ◌+◌, [], Err, ap, arith, inl, inr, length, sym, ◌∙◌}
use Rattle.std.proofs.lemmas.Result.{err_from_is_err_and}
use Rattle.gx_offered.specs.ItemFaults.{shown_fault}
use Rattle.gx_offered.specs.Items.{shown_found, shown_offer, shown_read, text_found}
use Rattle.gx_offered.proofs.ReadOffers.{all_read, begins, ends_after, ends_behind, is_shorter, none_left, offers_number, one_refused, read_more, read_none, some_left}
use Rattle.gx_offered.proofs.offer.offer_in.Goals as goal

pub loop-rest-init : goal.loop-rest-init
loop-rest-init g c = record {
  left = ([], sym c.as_slice-rest.ensures);
  read = read_none (g.N.Namer.name_of c.args.namer.now) c.args.text.now c.new-items.result c.as_slice-rest.result.now c.new-items.ensures.items c.as_slice-rest.ensures;
  begun = inl c.as_slice-rest.ensures;
}

pub returns-in-Err : goal.returns-in-Err
returns-in-Err g c =
    let items = c.loop-rest.items in
    let rest = c.loop-rest.rest.now in
    let number : length (shown_offer items) ≡ c.len.result = omega (arith, c.len.ensures, items.ok.0, offers_number items) in
    one_refused (g.N.Namer.name_of c.args.namer.now) c.args.text.now (shown_offer items) rest (shown_fault c.in-Err.fault) c.loop-rest.invariant.read c.in-Err.ensures.item (some_left rest c.is_empty.ensures c.loop-rest-test.true)
    ∙ ap (λ k. Err (k + 1, shown_fault c.in-Err.fault)) number

pub item_within-requires : goal.item_within-requires
item_within-requires g c = ends_behind c.args.text.now c.loop-rest.rest.now _ c.loop-rest.invariant.left c.in-Ok.ensures.behind

pub returns-in_err-item_within : goal.returns-in_err-item_within
returns-in_err-item_within g c =
    let p = err_from_is_err_and c.from_residual.result c.from_residual.ensures.1 in
    rw (p.1, p.2) (begins (g.N.Namer.name_of c.args.namer.now) c.args.text.now c.loop-rest.rest.now (shown_read c.in-Ok.read) c.loop-rest.invariant.begun c.in-Ok.ensures.item)

pub returns-in_err-push : goal.returns-in_err-push
returns-in_err-push g c =
    let p = err_from_is_err_and c.from_residual-in_err-push.result c.from_residual-in_err-push.ensures.1 in
    rw (p.1, p.2) (begins (g.N.Namer.name_of c.args.namer.now) c.args.text.now c.loop-rest.rest.now (shown_read c.in-Ok.read) c.loop-rest.invariant.begun c.in-Ok.ensures.item)

pub loop-rest-preserved : goal.loop-rest-preserved
loop-rest-preserved g c =
    let name = g.N.Namer.name_of c.args.namer.now in
    let text = c.args.text.now in
    let rest = c.loop-rest.rest.now in
    let found = c.in-Ok.read.0 in
    let after = c.in-Ok.read.1.now in
    record {
      left = ends_after text (text_found found) after (ends_behind text rest _ c.loop-rest.invariant.left c.in-Ok.ensures.behind);
      read = read_more name text c.loop-rest.items c.push.new.self c.in_ok-item_within.field-0 rest (shown_found found) after c.in_ok-item_within.ensures c.in_ok-push.ensures.items c.loop-rest.invariant.read c.in-Ok.ensures.item
          (is_shorter rest (text_found found) after c.in-Ok.ensures.behind);
      begun = inr (begins name text rest (shown_read c.in-Ok.read) c.loop-rest.invariant.begun c.in-Ok.ensures.item);
    }

pub returns : goal.returns
returns g c =
    all_read (g.N.Namer.name_of c.args.namer.now) c.args.text.now (shown_offer c.loop-rest.items) c.loop-rest.rest.now c.loop-rest.invariant.read (none_left c.loop-rest.rest.now c.is_empty.ensures c.loop-rest-test.false)
