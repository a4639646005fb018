use Rattle.std.proofs.Common.{◌≡◌, ℕ, ◌+◌, ◌<◌, ◌≤◌, ◌∙◌, [], ◌∷◌, ap, arith, false, length, length-append, refl, subst, sym, true}
use Rattle.gx_object.specs.declared.name.Name.{Name}
use Rattle.gx_reached.proofs.Fronts.{nothing_left}
use Rattle.gx_salvage_refs.specs.Saved.{body_bytes}
use Rattle.gx_salvage_refs.proofs.Refusals.{none_taken}
use Rattle.gx_salvage_refs.proofs.Settling.{all_settled, first_left, last_ready, last_there, less_left}
use Rattle.gx_salvage_refs.proofs.taking.take_all.Goals as goal

pub loop-place-init : goal.loop-place-init
loop-place-init g c =
    let o = c.args.objects.now in
    let told = g.O.Objects.told o in
    let records = c.args.repo.now.1.records in
    let none : records ≡ [] = ap (λ r. r.records) c.requires.empty in
    let all : body_bytes [] + c.args.most ≤ c.args.most = omega arith in
    record {
      namer = refl;
      refs = ap (λ r. r.refs) c.requires.empty;
      bad = none_taken (g.O.Objects.name_of o) told records c.args.bad.now none c.requires.bad;
      left = first_left told (g.O.Objects.stands o) c.args.visited.items c.args.bad.now records none c.requires.visited;
      within = subst (λ rs. body_bytes rs + c.args.most ≤ c.args.most) (sym none) all;
    }

pub take-requires-clause-names : goal.take-requires-clause-names
take-requires-clause-names g c = c.requires.names ∙ ap g.N.Namer.name_of (sym c.loop-place.invariant.namer)

pub take-requires-clause-there : goal.take-requires-clause-there
take-requires-clause-there g c =
    let o = c.args.objects.now in
    let l = c.loop-place in
    let one : ℕ × Name = (c.in-Some.place, c.in-Some.name) in
    last_there (g.O.Objects.told o) (g.O.Objects.stands o) c.args.visited.items c.args.bad.now l.repo.1.records l.bad l.left.items c.pop.new.self.items one c.in-Some.ensures.items l.invariant.left

pub take-requires-clause-ready : goal.take-requires-clause-ready
take-requires-clause-ready g c =
    let o = c.args.objects.now in
    let l = c.loop-place in
    let one : ℕ × Name = (c.in-Some.place, c.in-Some.name) in
    last_ready (g.O.Objects.told o) (g.O.Objects.stands o) c.args.visited.items c.args.bad.now l.repo.1.records l.bad l.left.items c.pop.new.self.items one c.in-Some.ensures.items l.invariant.left

pub loop-place-preserved : goal.loop-place-preserved
loop-place-preserved g c =
    let o = c.args.objects.now in
    let l = c.loop-place in
    let one : ℕ × Name = (c.in-Some.place, c.in-Some.name) in
    let e = c.in_ok-take.ensures in
    let before = l.invariant.within in
    let now = e.within in
    record {
      namer = e.namer ∙ l.invariant.namer;
      refs = e.refs ∙ l.invariant.refs;
      bad = e.bad;
      left = less_left (g.O.Objects.told o) (g.O.Objects.stands o) c.args.visited.items c.args.bad.now l.repo.1.records l.bad l.left.items c.pop.new.self.items one c.in-Some.ensures.items l.invariant.left
          c.take.new.repo.1.records c.take.new.bad e.keeps e.keeps_bad e.settles;
      within = omega (arith, before, now);
    }

pub loop-place-smaller : goal.loop-place-smaller
loop-place-smaller g c =
    let one : ℕ × Name = (c.in-Some.place, c.in-Some.name) in
    let long = ap length c.in-Some.ensures.items ∙ length-append c.pop.new.self.items (one ∷ []) in
    omega (arith, long)

pub returns-clause-settled : goal.returns-clause-settled
returns-clause-settled g c =
    let o = c.args.objects.now in
    let l = c.loop-place in
    let none : l.left.items ≡ [] = nothing_left l.left.items (λ m. let some : 0 < l.left.len = omega (arith, m, l.left.ok.0) in let f : false ≡ true = c.in_default.ensures.variant.1 some in cc f) in
    all_settled (g.O.Objects.told o) (g.O.Objects.stands o) c.args.visited.items c.args.bad.now l.repo.1.records l.bad l.left.items none l.invariant.left

pub returns-clause-within : goal.returns-clause-within
returns-clause-within g c = let w = c.loop-place.invariant.within in omega (arith, w)
