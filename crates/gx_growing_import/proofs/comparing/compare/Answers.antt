use Rattle.std.proofs.Common.{rules, ◌≡◌, map}
use Rattle.std.proofs.lemmas.Map.Iter.{iter_end}
use Rattle.std.specs.Map.Iter.{deref}
use Rattle.gx_ref_lines.specs.Refs.{shown_refs}
use Rattle.gx_growing_import.proofs.AlikeTexts.{IsTold, all_next, alike_told, base_told}
use Rattle.gx_growing_import.proofs.comparing.compare.Goals as goal

pub loop-base-preserved : goal.loop-base-preserved
loop-base-preserved g c =
    let name = g.O.Objects.name_of c.args.objects.now in
    let told = g.O.Objects.told c.args.objects.now in
    let small = c.args.small.now.1 in
    let base = c.in-Some.base.now.items in
    all_next (λ text. IsTold name small told text.now.items) c.loop-base.yielded c.in-Some.base c.loop-base.invariant
    (base_told name small told (shown_refs c.args.lines.now.refs.items) base c.as_slice.result.now c.as_slice-in-loop-base.result.now c.as_slice.ensures.value c.as_slice-in-loop-base.ensures.value
    c.requires.lines c.in_ok-compare_base.ensures.same c.in_ok-compare_names.ensures.same)

pub returns : goal.returns
returns g c =
    let all : map deref c.loop-base.yielded ≡ c.args.asked.now.bases.keys = search (rules, iter_end) in
    record {
      alike = alike_told (g.O.Objects.name_of c.args.objects.now) c.args.small.now.1 (g.O.Objects.told c.args.objects.now) (shown_refs c.args.lines.now.refs.items) c.args.asked.now
          c.requires.lines c.in_ok-compare_branches.ensures.same c.loop-base.yielded c.loop-base.invariant all;
    }
