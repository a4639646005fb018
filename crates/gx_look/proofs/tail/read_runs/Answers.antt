use Rattle.std.proofs.Common.{◌≡◌, ℕ, ◌+◌, ◌*◌, ◌<◌, ◌++◌, [], ◌∷◌, List, length, map, Ok, arith, sym, ap, ◌∙◌, subst, codes}
use Rattle.std.specs.List.{flat_map}
use Rattle.std.proofs.lemmas.List.{length-append, length-map, map-append}
use Rattle.gx_model.specs.Texts.{Bytes}
use Rattle.gx_model.specs.Stores.StoreReading.{stored_count}
use Rattle.gx_model.proofs.Stores.StoreTexts.{ok_is}
use Rattle.gx_lines.specs.Reads.{shown_count}
use Rattle.gx_growing.specs.GrowingText.{Run, run_text}
use Rattle.gx_growing.specs.GrowingReading.{next_run}
use Rattle.gx_growing_parts.specs.Shown.{shown_next_run, shown_run}
use Rattle.gx_look.specs.Tails.{EndsBy}
use Rattle.gx_look.proofs.RunsInLines.{RunsLeft, all_seen, is_below, never_refused, next_there, not_below, run_taken, runs_counted, with_one}
use Rattle.gx_look.proofs.tail.read_runs.Goals as goal

-- the count of a text's runs, and what follows it
counted : (text : Bytes) (runs : List Run) (rest : Bytes) (count : ℕ) (lines : Bytes) → stored_count (codes "runs") text ≡ Ok (length runs, flat_map run_text runs ++ rest) → stored_count (codes "runs") text ≡ Ok (count, lines)
    → (count ≡ length runs) × (lines ≡ flat_map run_text runs ++ rest)
counted text runs rest count lines e f =
    let same = ok_is (count, lines) (length runs, flat_map run_text runs ++ rest) (sym f ∙ e) in
    (ap (λ (p : ℕ × Bytes). p.0) same, ap (λ (p : ℕ × Bytes). p.1) same)

pub returns-in_default-clause-runs : goal.returns-in_default-clause-runs
returns-in_default-clause-runs g c = λ runs rest live small e same.
    never_refused shown_count c.read_count.result (stored_count (codes "runs") c.args.text.now) (length runs, flat_map run_text runs ++ rest) c.in_default.field-0 (runs_counted c.args.text.now runs rest small e)
    c.read_count.ensures.count c.read_count.ensures.memory c.in_default.is

pub returns-in_default-read_run-clause-runs : goal.returns-in_default-read_run-clause-runs
returns-in_default-read_run-clause-runs g c = λ runs rest live small e same.
    let head = counted c.args.text.now runs rest c.in-Ok.count c.in-Ok.lines.now (runs_counted c.args.text.now runs rest small e) c.in-Ok.ensures.count in
    let seen = map shown_run c.loop.runs.items in
    let size : length seen ≡ length c.loop.runs.items = length-map c.loop.runs.items shown_run in
    let less : length seen < length runs = omega (arith, size, head.0, c.loop.invariant.seen, c.loop-test.true) in
    let next = next_there c.args.ends seen c.loop.rest.now runs rest less (c.loop.invariant.left runs rest live (omega (arith, size, less)) head.1) in
    never_refused shown_next_run c.read_run.result (next_run c.loop.rest.now) (next.run, next.after) c.in_default-read_run.field-0 next.read c.read_run.ensures.run c.read_run.ensures.memory c.in_default-read_run.is

pub returns-then-not-is_within-clause-runs : goal.returns-then-not-is_within-clause-runs
returns-then-not-is_within-clause-runs g c = λ runs rest live small e same.
    let head = counted c.args.text.now runs rest c.in-Ok.count c.in-Ok.lines.now (runs_counted c.args.text.now runs rest small e) c.in-Ok.ensures.count in
    let seen = map shown_run c.loop.runs.items in
    let size : length seen ≡ length c.loop.runs.items = length-map c.loop.runs.items shown_run in
    let less : length seen < length runs = omega (arith, size, head.0, c.loop.invariant.seen, c.loop-test.true) in
    let next = next_there c.args.ends seen c.loop.rest.now runs rest less (c.loop.invariant.left runs rest live (omega (arith, size, less)) head.1) in
    let taken = run_taken c.args.ends seen c.loop.rest.now runs rest (shown_run c.in-Ok-read_run.run') c.in-Ok-read_run.behind.now next c.in-Ok-read_run.ensures.run in
    not_below (c.in-Ok-read_run.run'.place + 28 * c.in-Ok-read_run.run'.count) c.args.ends (sym c.is_within.ensures ∙ c.if-not-is_within.true) taken.0

pub loop-preserved : goal.loop-preserved
loop-preserved g c =
    let seen = map shown_run c.loop.runs.items in
    let size : length seen ≡ length c.loop.runs.items = length-map c.loop.runs.items shown_run in
    let ends = c.args.ends in
    let run = c.in-Ok-read_run.run' in
    let near : EndsBy ends run.place run.count = is_below (run.place + 28 * run.count) ends (sym c.is_within.ensures ∙ c.if-not-is_within.false) in
    let more = length-append c.loop.runs.items (run ∷ []) in
    rw (c.in_ok-push.ensures.items) (record {
      within = with_one (λ r. EndsBy ends r.place r.count) c.loop.runs.items run c.loop.invariant.within near;
      seen = more ∙ ap (λ n. n + 1) c.loop.invariant.seen;
      left = λ runs behind live fits e.
          let less : length seen < length runs = omega (arith, size, more, fits) in
          let next = next_there ends seen c.loop.rest.now runs behind less (c.loop.invariant.left runs behind live (omega (arith, size, less)) e) in
          subst (λ z. RunsLeft ends z c.in-Ok-read_run.behind.now runs behind) (sym (map-append shown_run c.loop.runs.items (run ∷ [])))
          (run_taken ends seen c.loop.rest.now runs behind (shown_run run) c.in-Ok-read_run.behind.now next c.in-Ok-read_run.ensures.run).1;
    })

pub returns-clause-runs : goal.returns-clause-runs
returns-clause-runs g c = λ runs rest live small e.
    let head = counted c.args.text.now runs rest c.in-Ok.count c.in-Ok.lines.now (runs_counted c.args.text.now runs rest small e) c.in-Ok.ensures.count in
    let seen = map shown_run c.loop.runs.items in
    let size : length seen ≡ length c.loop.runs.items = length-map c.loop.runs.items shown_run in
    let all : length seen ≡ length runs = omega (arith, size, head.0, c.loop.invariant.seen, c.loop-test.false, c.loop.auto.counter-end) in
    all_seen c.args.ends seen c.loop.rest.now runs rest all (c.loop.invariant.left runs rest live (omega (arith, size, all)) head.1)
