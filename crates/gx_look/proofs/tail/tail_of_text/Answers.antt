use Rattle.std.proofs.Common.{◌≡◌, ℕ, ◌-◌, ◌<◌, ◌^◌, ◌++◌, List, length, drop, true, false, sym, ap, ◌∙◌, subst, codes}
use Rattle.std.proofs.lemmas.Result.{err_from_is_err_and}
use Rattle.gx_model.specs.Texts.{Bytes}
use Rattle.gx_model.specs.Texts.Numbers.{number_text}
use Rattle.gx_model.specs.Objects.{line}
use Rattle.gx_model.specs.Stores.StoreReading.{stored_count}
use Rattle.gx_model.proofs.Stores.StoreTexts.{ok_is}
use Rattle.gx_lines.specs.Reads.{shown_count}
use Rattle.gx_growing.specs.GrowingText.{Run, tail_text}
use Rattle.gx_growing.proofs.TextLengths.{tail_counts}
use Rattle.gx_look.specs.Tails.{refs_text}
use Rattle.gx_look.proofs.JoinedTexts.{from_place}
use Rattle.gx_look.proofs.Opening.{end_there, refs_counted, refs_last}
use Rattle.gx_look.proofs.RunsInLines.{never_refused}
use Rattle.gx_look.proofs.tail.tail_of_text.Goals as goal

-- what follows the runs of a tail
abbrev behind_runs : List (Bytes × Bytes) → Bytes
behind_runs refs = line (codes "refs") (number_text (length refs)) ++ refs_text refs

-- runs and refs are fewer than a tail's bytes
few : (text : Bytes) (runs : List Run) (refs : List (Bytes × Bytes)) → length text < 2 ^ 64 → text ≡ tail_text runs refs → (length runs < 2 ^ 64) × (length refs < 2 ^ 64)
few text runs refs small e = tail_counts runs refs (2 ^ 64) (subst (λ z. length z < 2 ^ 64) e small)

pub returns-in_err-runs-clause-tail : goal.returns-in_err-runs-clause-tail
returns-in_err-runs-clause-tail g c =
    let p = err_from_is_err_and c.from_residual.result c.from_residual.ensures.1 in
    rw (p.1, p.2) (λ runs refs live named small e. c.in_err-runs.ensures.runs runs (behind_runs refs) live (few c.args.text.items runs refs small e).0 (c.as_slice.ensures.value ∙ e))

pub returns-in_default-clause-tail : goal.returns-in_default-clause-tail
returns-in_default-clause-tail g c = λ runs refs live named small e same.
    let less = few c.args.text.items runs refs small e in
    let read = c.in_ok-runs.ensures.runs runs (behind_runs refs) live less.0 (c.as_slice.ensures.value ∙ e) in
    let count = ap (stored_count (codes "refs")) read.1 ∙ refs_counted refs less.1 in
    never_refused shown_count c.read_count.result (stored_count (codes "refs") c.in_ok-runs.rest.now) (length refs, refs_text refs) c.in_default.field-0 count c.read_count.ensures.count c.read_count.ensures.memory c.in_default.is

pub returns-then-not-are_refs-clause-tail : goal.returns-then-not-are_refs-clause-tail
returns-then-not-are_refs-clause-tail g c = λ runs refs live named small e same.
    let less = few c.args.text.items runs refs small e in
    let read = c.in_ok-runs.ensures.runs runs (behind_runs refs) live less.0 (c.as_slice.ensures.value ∙ e) in
    let is = ok_is (c.in-Ok.count, c.in-Ok.rest.now) (length refs, refs_text refs) (sym c.in-Ok.ensures.count ∙ ap (stored_count (codes "refs")) read.1 ∙ refs_counted refs less.1) in
    let size : length c.args.text.items ≡ c.len.result = sym (ap length c.as_slice.ensures.value) ∙ c.as_slice.ensures.len ∙ sym c.len.ensures in
    let left = ap (λ (p : ℕ × Bytes). p.1) is in
    let start : c.saturating_sub-refs.result ≡ length c.args.text.items - length (refs_text refs) = c.saturating_sub-refs.ensures ∙ (λ i. sym size i - length (left i)) in
    let last = refs_last runs refs in
    let held = ap (λ n. drop n c.args.text.items) start ∙ end_there c.args.text.items last.0 (refs_text refs) (e ∙ last.1) in
    let lines = from_place c.saturating_sub-refs.result c.as_slice-2.result.now ∙ ap (drop c.saturating_sub-refs.result) c.as_slice-2.ensures.value ∙ held in
    let passed : false ≡ true = sym c.if-not-are_refs.true ∙ c.are_refs.ensures.all refs lines named (sym (ap (λ (p : ℕ × Bytes). p.0) is)) in
    absurd (cc passed)

pub returns-clause-tail : goal.returns-clause-tail
returns-clause-tail g c = λ runs refs live named small e.
    let less = few c.args.text.items runs refs small e in
    let read = c.in_ok-runs.ensures.runs runs (behind_runs refs) live less.0 (c.as_slice.ensures.value ∙ e) in
    let count = ap (stored_count (codes "refs")) read.1 ∙ refs_counted refs less.1 in
    let left : c.in-Ok.rest.now ≡ refs_text refs = ap (λ (p : ℕ × Bytes). p.1) (ok_is (c.in-Ok.count, c.in-Ok.rest.now) (length refs, refs_text refs) (sym c.in-Ok.ensures.count ∙ count)) in
    let size : length c.args.text.items ≡ c.len.result = sym (ap length c.as_slice.ensures.value) ∙ c.as_slice.ensures.len ∙ sym c.len.ensures in
    let start : c.saturating_sub-refs.result ≡ length c.args.text.items - length (refs_text refs) = c.saturating_sub-refs.ensures ∙ (λ i. sym size i - length (left i)) in
    let last = refs_last runs refs in
    (read.0, ap (λ n. drop n c.args.text.items) start ∙ end_there c.args.text.items last.0 (refs_text refs) (e ∙ last.1))
