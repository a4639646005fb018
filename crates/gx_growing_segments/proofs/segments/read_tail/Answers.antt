use Rattle.std.proofs.Common.{◌∷◌, ◌++◌, [], None, codes, map}
use Rattle.std.specs.List.{flat_map}
use Rattle.gx_model.specs.Stores.StoreText.{stored_ref}
use Rattle.gx_model.proofs.Stores.StoredRefs.{refs_of_text}
use Rattle.gx_growing.specs.GrowingText.{run_text}
use Rattle.gx_growing.proofs.Fields.{next_runs_of}
use Rattle.gx_growing.proofs.ReadSegments.{after_end_of}
use Rattle.gx_growing_parts.specs.Shown.{shown_run}
use Rattle.gx_file.proofs.LeftTexts.{left_count}
use Rattle.gx_growing_segments.specs.Seen.{refs_at}
use Rattle.gx_growing_segments.proofs.Ends.{all_left, ends_behind}
use Rattle.gx_growing_segments.proofs.segments.read_tail.Goals as goal

pub returns-clause-behind : goal.returns-clause-behind
returns-clause-behind g c =
    let k = c.args.text.now in
    let rs = c.args.repo.now.1.records in
    let runs = map shown_run c.in_ok-runs.runs.items in
    let after_runs = c.in_ok-runs.rest.now in
    let refs = c.in_ok-count-2.refs.now in
    let named = refs_at rs c.in_ok-count-2.count refs in
    let after_refs = c.in_ok-rest.rest.now in
    let told = next_runs_of c.in_ok-count.count c.in_ok-count.rest.now (runs, after_runs) c.in_ok-runs.ensures in
    let held = refs_of_text rs c.in_ok-count-2.count None refs (named, after_refs) c.in_ok-rest.ensures.refs in
    let a = left_count k (codes "runs") k c.in_ok-count.count c.in_ok-count.rest.now (all_left k) c.in_ok-count.ensures.count in
    let b = ends_behind k c.in_ok-count.rest.now (flat_map run_text runs) after_runs a told.spelled in
    let d = left_count k (codes "refs") after_runs c.in_ok-count-2.count refs b c.in_ok-count-2.ensures.count in
    let e = ends_behind k refs (flat_map stored_ref named) after_refs d held.spelled in
    ends_behind k after_refs (codes "end" ++ 10 ∷ []) c.in_ok-rest-2.rest.now e (after_end_of after_refs c.in_ok-rest-2.rest.now c.in_ok-rest-2.ensures.end)
