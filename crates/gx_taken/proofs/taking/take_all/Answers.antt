use Rattle.std.proofs.Common.{◌≡◌, None, Err, refl, sym, subst}
use Rattle.gx_offered.specs.Items.{shown_offer}
use Rattle.gx_placed.specs.Places.{AreNamed}
use Rattle.gx_taken.specs.Calls.{ChecksRefs, IsWithin, TellsUnplaced}
use Rattle.gx_taken.specs.Parts.{shown_ref_items}
use Rattle.gx_taken.specs.Setting.{HaveRefNames}
use Rattle.gx_taken.specs.Taking.{first_refused, with_all_told}
use Rattle.gx_model.specs.Laws.RepositoryLaws.{with_refs}
use Rattle.gx_taken.proofs.Splits.{own_names, ref_names}
use Rattle.gx_taken.proofs.Unplaced.{all_is_taken, is_within, ref_untaken, untaken_by}
use Rattle.gx_taken.proofs.taking.take_all.Goals as goal

pub place-requires : goal.place-requires
place-requires g c =
    let name = g.N.Namer.name_of c.args.repo.now.0 in
    record { named = subst (AreNamed name) (sym c.in_ok-parts.ensures.objects) (own_names name (shown_offer c.args.items) c.requires.good) }

pub unplaced-requires : goal.unplaced-requires
unplaced-requires g c =
    let r = c.args.repo.now.1 in
    subst (λ labels. IsWithin labels c.in-Err.fault) (sym c.as_slice.ensures.value)
    (is_within {A = g.row.A.Denot} c.args.force r (shown_offer c.args.items) c.in_ok-parts.parts c.in_ok-parts.ensures r.records c.place.new.repo.1.records c.in-Err.fault refl c.in-Err.ensures.places)

pub returns-in-Err-clause-taken : goal.returns-in-Err-clause-taken
returns-in-Err-clause-taken g c =
    let r = c.args.repo.now.1 in
    untaken_by {A = g.row.A.Denot} c.args.force r (shown_offer c.args.items) c.in_ok-parts.parts c.in_ok-parts.ensures r.records c.place.new.repo.1.records c.in-Err.fault refl c.in-Err.ensures.places c.place.new.repo.1 c.unplaced.result
    (subst (λ labels. TellsUnplaced labels c.in-Err.fault c.unplaced.result) c.as_slice.ensures.value c.unplaced.ensures)

pub returns-in-Err-check_refs-clause-taken : goal.returns-in-Err-check_refs-clause-taken
returns-in-Err-check_refs-clause-taken g c =
    let now = c.place.new.repo.1 in
    ref_untaken {A = g.row.A.Denot} c.args.force c.args.repo.now.1 (shown_offer c.args.items) c.in_ok-parts.parts c.in_ok-parts.ensures now c.in_default.ensures.places c.in_default.ensures.refs now c.in-Err-check_refs.fault
    (subst (λ refs. ChecksRefs {A = g.row.A.Denot} (first_refused c.args.force now (shown_ref_items refs)) (Err c.in-Err-check_refs.fault)) c.as_slice-refs.ensures.value c.in-Err-check_refs.ensures)

pub set_refs-requires-clause-names : goal.set_refs-requires-clause-names
set_refs-requires-clause-names g c =
    let name = g.N.Namer.name_of c.args.repo.now.0 in
    subst (λ refs. HaveRefNames (shown_ref_items {A = g.row.A.Denot} refs)) (sym c.as_slice-refs.ensures.value)
    (subst HaveRefNames (sym c.in_ok-parts.ensures.refs) (ref_names name (shown_offer c.args.items) 1 c.requires.good))

pub returns-clause-taken : goal.returns-clause-taken
returns-clause-taken g c =
    let now = c.place.new.repo.1 in
    all_is_taken {A = g.row.A.Denot} c.args.force c.args.repo.now.1 (shown_offer c.args.items) c.in_ok-parts.parts c.in_ok-parts.ensures now c.in_default.ensures.places c.in_default.ensures.refs c.set_refs.new.repo.1
    (subst (λ refs. first_refused c.args.force now (shown_ref_items {A = g.row.A.Denot} refs) ≡ None) c.as_slice-refs.ensures.value c.in_default-check_refs.ensures)
    (subst (λ refs. c.set_refs.new.repo.1 ≡ with_refs now (with_all_told now.refs (shown_ref_items {A = g.row.A.Denot} refs))) c.as_slice-refs.ensures.value c.in_ok-set_refs.ensures.set)
