use Rattle.std.proofs.Common.{◌+◌, ◌≤◌, ap, arith, drop, length, map, subst, sym}
use Rattle.std.specs.Prelude.{IfSome}
use Rattle.gx_rev.proofs.Listings.{words_end}
use Rattle.gx_text.specs.Lent.{lent_texts}
use Rattle.gx_tips.specs.Tips.{AreTips}
use Rattle.gx_ref_filters.specs.Filters.{shown_filter}
use Rattle.gx_ref_filters.proofs.Filtered.{all_filtered, filter_passed, filter_refused, filtered_tips, none_filtered}
use Rattle.gx_ref_filters.proofs.filters.kept_refs.Goals as goal

pub loop-place-init : goal.loop-place-init
loop-place-init g c =
    let o = c.args.objects.now in
    none_filtered (g.O.Objects.name_of o) (g.O.Objects.stands o) (lent_texts c.args.patterns.now) (map shown_filter c.args.filters.now) c.args.refs.now (g.O.Objects.told o) c.in-Ok.kept.items c.in-Ok.ensures.found c.requires.refs

pub passing-requires : goal.passing-requires
passing-requires g c =
    let o = c.args.objects.now in
    let l = c.loop-place in
    let stands = g.O.Objects.stands o in
    let told = g.O.Objects.told o in
    let filters = c.args.filters.now in
    record {
      refs = subst (λ xs. IfSome told (AreTips stands xs)) (sym c.as_slice.ensures.value)
          (filtered_tips (g.O.Objects.name_of o) stands (lent_texts c.args.patterns.now) (map shown_filter filters) c.args.refs.now told (map shown_filter (drop l.place filters)) l.place l.kept.items l.invariant);
    }

pub returns-in-Err-passing : goal.returns-in-Err-passing
returns-in-Err-passing g c =
    let o = c.args.objects.now in
    let l = c.loop-place in
    let told = g.O.Objects.told o in
    let filters = c.args.filters.now in
    rw c.refused.ensures
    (filter_refused (g.O.Objects.name_of o) (g.O.Objects.stands o) (lent_texts c.args.patterns.now) (map shown_filter filters) c.args.refs.now filters l.place _ l.kept.items c.loop-place-test.true
    told c.in-Err-passing.kind (l.place + 1) (omega arith) l.invariant c.in-Err-passing.ensures)

pub loop-place-preserved : goal.loop-place-preserved
loop-place-preserved g c =
    let o = c.args.objects.now in
    let l = c.loop-place in
    let stands = g.O.Objects.stands o in
    let told = g.O.Objects.told o in
    let filters = c.args.filters.now in
    filter_passed (g.O.Objects.name_of o) stands (lent_texts c.args.patterns.now) (map shown_filter filters) c.args.refs.now filters l.place _ l.kept.items c.loop-place-test.true
    told c.as_slice.result.now c.in-Ok-passing.passed.items c.as_slice.ensures.value l.invariant c.in-Ok-passing.ensures

pub returns : goal.returns
returns g c =
    let o = c.args.objects.now in
    let l = c.loop-place in
    let filters = c.args.filters.now in
    let past : length filters ≤ l.place = omega arith in
    let over = ap (map shown_filter) (words_end filters l.place past) in
    all_filtered (g.O.Objects.name_of o) (g.O.Objects.stands o) (lent_texts c.args.patterns.now) (map shown_filter filters) c.args.refs.now (g.O.Objects.told o) (map shown_filter (drop l.place filters)) l.place l.kept.items over c.requires.refs l.invariant
