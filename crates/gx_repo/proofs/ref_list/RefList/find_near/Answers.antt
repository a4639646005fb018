use Rattle.std.proofs.Common.{ap, map, sym, subst, ◌∙◌}
use Rattle.std.specs.Map.{lookup}
use Rattle.std.specs.Bool.{passes}
use Rattle.gx_model.specs.Texts.{same_bytes}
use Rattle.gx_model.proofs.Texts.PathTests.{same_is}
use Rattle.gx_repo.specs.Refs.{AreInOrder, place_behind, shown_ref}
use Rattle.gx_repo.proofs.NamedRefs.{none_found, object_found, object_seen}
use Rattle.gx_repo.proofs.RefPlaces.{place_found, place_missing, place_seen}
use Rattle.gx_repo.proofs.ref_list.RefList.find_near.Goals as goal

pub returns-in-Ok-clause-object : goal.returns-in-Ok-clause-object
returns-in-Ok-clause-object g c =
    let n = c.args.name.now in
    let sorted = subst (λ rs. AreInOrder rs) (sym c.as_slice-refs.ensures.value) c.self.invariant in
    object_found n c.as_slice-refs.result.now sorted c.in-Ok.found c.index-refs-found.result c.in-Ok.ensures.bound (c.in-Ok.ensures.place c.index-refs-found.result)
    ∙ ap (λ rs. lookup (same_bytes n) (map shown_ref rs)) c.as_slice-refs.ensures.value
    ∙ ap (lookup (same_bytes n)) c.self.view_is

pub returns-in-Err-clause-object : goal.returns-in-Err-clause-object
returns-in-Err-clause-object g c =
    let n = c.args.name.now in
    let sorted = subst (λ rs. AreInOrder rs) (sym c.as_slice-refs.ensures.value) c.self.invariant in
    none_found n c.as_slice-refs.result.now sorted c.in-Err.missing c.in-Err.ensures.place
    ∙ ap (λ rs. lookup (same_bytes n) (map shown_ref rs)) c.as_slice-refs.ensures.value
    ∙ ap (lookup (same_bytes n)) c.self.view_is

pub returns-then-eq-clause-object : goal.returns-then-eq-clause-object
returns-then-eq-clause-object g c =
    let n = c.args.name.now in
    let sorted = subst (λ rs. AreInOrder rs) (sym c.as_slice-refs.ensures.value) c.self.invariant in
    let same = sym c.as_slice.ensures.value ∙ same_is c.as_slice.result.now n (passes _ (sym c.eq.ensures ∙ c.if-eq.true)) in
    object_seen n c.as_slice-refs.result.now sorted c.args.place c.in-Some.held.now c.in-Some.ensures.lookup.3.0 c.in-Some.ensures.lookup.1 same
    ∙ ap (λ rs. lookup (same_bytes n) (map shown_ref rs)) c.as_slice-refs.ensures.value
    ∙ ap (lookup (same_bytes n)) c.self.view_is

pub returns-in-Ok-clause-place : goal.returns-in-Ok-clause-place
returns-in-Ok-clause-place g c =
    let n = c.args.name.now in
    let sorted = subst (λ rs. AreInOrder rs) (sym c.as_slice-refs.ensures.value) c.self.invariant in
    place_found n c.as_slice-refs.result.now sorted c.in-Ok.found c.index-refs-found.result c.in-Ok.ensures.bound (c.in-Ok.ensures.place c.index-refs-found.result)
    ∙ ap (λ rs. place_behind (map shown_ref rs) n) c.as_slice-refs.ensures.value
    ∙ ap (λ rs. place_behind rs n) c.self.view_is

pub returns-in-Err-clause-place : goal.returns-in-Err-clause-place
returns-in-Err-clause-place g c =
    let n = c.args.name.now in
    let sorted = subst (λ rs. AreInOrder rs) (sym c.as_slice-refs.ensures.value) c.self.invariant in
    place_missing n c.as_slice-refs.result.now sorted c.in-Err.missing c.in-Err.ensures.bound c.in-Err.ensures.place
    ∙ ap (λ rs. place_behind (map shown_ref rs) n) c.as_slice-refs.ensures.value
    ∙ ap (λ rs. place_behind rs n) c.self.view_is

pub returns-then-eq-clause-place : goal.returns-then-eq-clause-place
returns-then-eq-clause-place g c =
    let n = c.args.name.now in
    let sorted = subst (λ rs. AreInOrder rs) (sym c.as_slice-refs.ensures.value) c.self.invariant in
    let same = sym c.as_slice.ensures.value ∙ same_is c.as_slice.result.now n (passes _ (sym c.eq.ensures ∙ c.if-eq.true)) in
    place_seen n c.as_slice-refs.result.now sorted c.args.place c.in-Some.held.now c.in-Some.ensures.lookup.3.0 c.in-Some.ensures.lookup.1 same
    ∙ ap (λ rs. place_behind (map shown_ref rs) n) c.as_slice-refs.ensures.value
    ∙ ap (λ rs. place_behind rs n) c.self.view_is
