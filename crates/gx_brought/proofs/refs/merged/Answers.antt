use Rattle.std.proofs.Common.{◌≡◌, ◌+◌, ◌∷◌, ◌++◌, sym, ap, subst, ◌∙◌, arith, length, length-drop, take, drop}
use Rattle.std.specs.FinMap.Entries.{put}
use Rattle.std.specs.List.{flat_map}
use Rattle.std.proofs.lemmas.List.{length-map, take_rest}
use Rattle.gx_model.specs.Records.Publishing.{with_changes}
use Rattle.gx_model.specs.Stores.StoreText.{stored_ref}
use Rattle.gx_model.specs.Texts.{Bytes, byte_cmp}
use Rattle.gx_ref_lines.specs.Refs.{shown_refs}
use Rattle.gx_repo.specs.Refs.{shown_lent_ref}
use Rattle.gx_brought.proofs.MergedRefs.{AreMerged, left_behind, one_merged}
use Rattle.gx_brought.proofs.refs.merged.Goals as goal

pub loop-name-preserved : goal.loop-name-preserved
loop-name-preserved g c =
    let refs = c.args.refs.now in
    let all = with_changes (shown_refs refs) c.args.small.now.1.refs in
    let at = c.loop-name.at in
    let more = c.places_of-before.result.1 in
    let ref : Bytes × Bytes = (c.in-Some.name.now, c.in-Some.object.bytes) in
    let rest = take_rest refs at in
    let was = c.loop-name.next in
    let mid = c.put_all.new.next in
    let now = c.put.new.next in
    let before = shown_refs (take c.places_of-before.result.0 (drop at refs)) in
    let m = subst (λ it. AreMerged all (shown_refs (drop at refs)) it was.lines.items was.count) c.in-Some.ensures.steps c.loop-name.invariant.3 in
    let parts = subst (λ rs. put byte_cmp ref.0 ref.1 (shown_refs rs) ≡ shown_refs (take c.places_of-before.result.0 rs) ++ ref ∷ shown_refs (drop more rs)) rest (c.places_of-before.ensures.parts ref.1) in
    let lines = subst (λ rs. mid.lines.items ≡ was.lines.items ++ flat_map stored_ref (shown_refs (take c.places_of-before.result.0 rs))) rest c.in_ok-put_all.ensures.lines in
    let count = subst (λ rs. mid.count ≡ was.count + length (take c.places_of-before.result.0 rs)) rest c.in_ok-put_all.ensures.count in
    let long = ap length rest in (
      tt,
      tt,
      omega (arith, long, length-drop at refs, c.places_of-before.ensures.behind, c.loop-name.invariant.2),
      subst (λ left. AreMerged all left c.next.new.self now.lines.items now.count) (left_behind shown_lent_ref refs at more)
          (one_merged all (shown_refs (drop at refs)) c.next.new.self ref before (shown_refs (drop more (drop at refs))) was.lines.items was.count m parts mid.lines.items now.lines.items mid.count now.count
          lines c.in_ok-put.ensures.lines (count ∙ ap (λ n. was.count + n) (sym (length-map (take c.places_of-before.result.0 (drop at refs)) shown_lent_ref))) c.in_ok-put.ensures.count c.in_ok-put.ensures.bound),
    )
