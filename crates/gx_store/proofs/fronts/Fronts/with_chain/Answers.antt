use Rattle.std.proofs.Common.{◌≡◌, Bool, suc, ◌-◌, ◌<◌, ◌&&◌, length, take, option_map, sym, ap, ◌∙◌, arith}
use Rattle.std.proofs.lemmas.Bool.{eqb-true}
use Rattle.std.proofs.lemmas.Option.{slice_get-map, slice_get_within}
use Rattle.indexmap.specs.IndexMap.{keys}
use Rattle.gx_object.specs.declared.name.Name.{Name}
use Rattle.gx_store.specs.Chains.{chain_of, is_in_chain, up_to_last}
use Rattle.gx_store.specs.NameOrder.{is_within}
use Rattle.gx_store.specs.Prefixes.{joined, picked}
use Rattle.gx_store.proofs.Chained.{read_so, up_to_last_again, up_to_last_bound}
use Rattle.gx_store.proofs.Picking.{last_passes, next_again, picked_up_to_last, short, walked_first, walked_on, walked_twice}
use Rattle.gx_store.proofs.fronts.Fronts.with_chain.Goals as goal
use Rattle.gx_store.proofs.fronts.Fronts.with_chain.Goals.{then-is_between+in-Absent, else-is_between}

pub loop-end-init : goal.loop-end-init
loop-end-init g c =
    let chains = length c.args.self.now.heads.items in
    let ns = keys c.args.names.now in
    let test : Name → Bool = is_in_chain chains c.args.chain in
    let other : Name → Bool = λ n. is_within c.args.ends.now.0.bytes c.args.ends.now.1.bytes n.bytes in
    let end = c.index-end.result.now in
    let first = sym (read_so c.args.self.now.heads.items c.args.chain end c.requires.within c.index-end.ensures) ∙ c.requires.fronts.heads c.args.chain c.requires.within in (
      omega (arith, first, up_to_last_bound test ns),
      first ∙ sym (up_to_last_again test ns) ∙ ap (λ k. up_to_last test (take k ns)) (sym first),
      ap (joined c.args.found) (sym (picked_up_to_last test other ns) ∙ ap (λ k. picked (λ n. test n && other n) (take k ns)) (sym first)),
    )

pub returns-in_default-found : goal.returns-in_default-found
returns-in_default-found g c =
    let chains = length c.args.self.now.heads.items in
    let ns = keys c.args.names.now in
    let test : Name → Bool = is_in_chain chains c.args.chain in
    let other : Name → Bool = λ n. is_within c.args.ends.now.0.bytes c.args.ends.now.1.bytes n.bytes in
    let n = c.in-Some.name.now in
    let end = c.loop-end.end in
    let place = end - 1 in
    let next : end ≡ suc place = omega (arith, c.loop-end-test.true) in
    let at = slice_get-map (λ e. e.0) c.args.names.now.entries place ∙ ap (option_map (λ e. e.0)) (sym c.in-Some.ensures.entry) in
    let last = c.loop-end.invariant.1 in
    walked_twice test other ns end place n next at last c.loop-end.found c.in_default-found.not-Absent (sym c.is_between.ensures ∙ c.if-is_between.true) ∙ sym c.loop-end.invariant.2

pub loop-end-smaller : goal.loop-end-smaller
loop-end-smaller g c =
    let chains = length c.args.self.now.heads.items in
    let ns = keys c.args.names.now in
    let test : Name → Bool = is_in_chain chains c.args.chain in
    let other : Name → Bool = λ n. is_within c.args.ends.now.0.bytes c.args.ends.now.1.bytes n.bytes in
    let n = c.in-Some.name.now in
    let end = c.loop-end.end in
    let place = end - 1 in
    let next : end ≡ suc place = omega (arith, c.loop-end-test.true) in
    let at = slice_get-map (λ e. e.0) c.args.names.now.entries place ∙ ap (option_map (λ e. e.0)) (sym c.in-Some.ensures.entry) in
    let last = c.loop-end.invariant.1 in
    let before = c.args.self.now.next.items in
    let left = c.index-end-in-loop-end.result.now in
    let within : place < length before = omega (arith, c.requires.fronts.long, slice_get_within ns place n at) in
    let own = eqb-true (chain_of chains n) c.args.chain (last_passes test other ns end place n next at last) in
    let goes = sym (read_so before place left within c.index-end-in-loop-end.ensures) ∙ c.requires.fronts.next place n at ∙ ap (λ k. up_to_last (is_in_chain chains k) (take place ns)) own in
    omega (arith, goes, next, short test other ns end place n next at last)

pub loop-end-preserved : goal.loop-end-preserved
loop-end-preserved g c =
    let chains = length c.args.self.now.heads.items in
    let ns = keys c.args.names.now in
    let test : Name → Bool = is_in_chain chains c.args.chain in
    let other : Name → Bool = λ n. is_within c.args.ends.now.0.bytes c.args.ends.now.1.bytes n.bytes in
    let n = c.in-Some.name.now in
    let end = c.loop-end.end in
    let place = end - 1 in
    let next : end ≡ suc place = omega (arith, c.loop-end-test.true) in
    let at = slice_get-map (λ e. e.0) c.args.names.now.entries place ∙ ap (option_map (λ e. e.0)) (sym c.in-Some.ensures.entry) in
    let last = c.loop-end.invariant.1 in
    let before = c.args.self.now.next.items in
    let left = c.index-end-in-loop-end.result.now in
    let within : place < length before = omega (arith, c.requires.fronts.long, slice_get_within ns place n at) in
    let own = eqb-true (chain_of chains n) c.args.chain (last_passes test other ns end place n next at last) in
    let goes = sym (read_so before place left within c.index-end-in-loop-end.ensures) ∙ c.requires.fronts.next place n at ∙ ap (λ k. up_to_last (is_in_chain chains k) (take place ns)) own in
    let low = slice_get_within ns place n at in
    let small = short test other ns end place n next at last in
    let again = goes ∙ next_again test other ns end place n next at last ∙ ap (λ k. up_to_last test (take k ns)) (sym goes) in (
      omega (arith, goes, low, small),
      again,
      elim c.if-is_between.branch [
        | then-is_between+in-Absent w ↦
            c.loop-end.invariant.2 ∙ ap (λ found. joined found (picked (λ n. test n && other n) (take end ns))) w.in-Absent.is
            ∙ walked_first test other ns end place n next at last left goes (sym c.is_between.ensures ∙ w.if-is_between.true)
            ∙ ap (λ found. joined found (picked (λ n. test n && other n) (take left ns))) (sym w.found-is)
        | else-is_between w ↦
            c.loop-end.invariant.2 ∙ walked_on test other ns end place n next at last c.loop-end.found left goes (sym c.is_between.ensures ∙ w.if-is_between.false)
            ∙ ap (λ found. joined found (picked (λ n. test n && other n) (take left ns))) (sym w.found-is)
      ],
    )
