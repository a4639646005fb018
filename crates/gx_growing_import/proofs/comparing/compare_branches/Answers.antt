use Rattle.std.proofs.Common.{rules, ◌≡◌, map, subst}
use Rattle.std.proofs.lemmas.Map.Iter.{iter_end}
use Rattle.std.specs.List.{AllByRecursion}
use Rattle.std.specs.Map.Iter.{deref}
use Rattle.gx_asked.specs.Asking.{texts_of}
use Rattle.gx_ref_lines.specs.Refs.{shown_refs}
use Rattle.gx_growing_import.specs.Alike.{IsSameRefIn}
use Rattle.gx_growing_import.proofs.AlikeTexts.{all_lent}
use Rattle.gx_growing_import.proofs.comparing.compare_branches.Goals as goal

pub returns : goal.returns
returns g c =
    let all : map deref c.loop-branch.yielded ≡ c.args.asked.now.branches.keys = search (rules, iter_end) in
    let Same = IsSameRefIn (shown_refs c.args.lines.now.refs.items) c.args.small.now.1.refs in
    record { same = subst (λ keys. AllByRecursion Same (texts_of keys)) all (all_lent Same c.loop-branch.yielded c.loop-branch.invariant) }
