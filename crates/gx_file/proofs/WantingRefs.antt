-- Where memory runs out among refs: behind some that are right.
use Rattle.std.proofs.Common.{◌≡◌, ℕ, List, Option, Some, None, Ok, Err, refl, ap, ◌∙◌, arith}
use Rattle.std.specs.Prelude.{Result}
use Rattle.std.specs.Borrow.{Bor}
use Rattle.gx_model.specs.declared.faults.Fault.{Fault}
use Rattle.gx_model.specs.Faults.{unless}
use Rattle.gx_model.specs.Texts.{Bytes}
use Rattle.gx_model.specs.Histories.{Records}
use Rattle.gx_model.specs.Records.Publishing.{Ref, changes_fault, published, with_changes}
use Rattle.gx_model.specs.Stores.StoreReading.{next_refs}
use Rattle.gx_model.specs.declared.store_faults.FileFault.{FileFault}
use Rattle.gx_file.specs.Gathering.{Gathers, gathered}
use Rattle.gx_file.specs.Wanting.{RunsOutAmongRefs, RunsOutBehind, WantsWhere}
use Rattle.gx_file.proofs.SetRefs.{are_next, settled}

-- Refs that are set had nothing against them.
pub were_fine : (r : Records) (refs now : List Ref) → published r refs ≡ Ok now → changes_fault r.records refs ≡ None
unfolding published
were_fine r refs now e = by (changes_fault r.records refs) refl e
  where
    by : (o : Option Fault) → changes_fault r.records refs ≡ o → unless o (with_changes r.refs refs) ≡ Ok now → changes_fault r.records refs ≡ None
    by None f g = f
    by (Some w) f g = absurd (cc)

-- Refs against which nothing is are set.
pub are_fine : (r : Records) (refs : List Ref) → changes_fault r.records refs ≡ None → published r refs ≡ Ok (with_changes r.refs refs)
unfolding published
are_fine r refs e = ap (λ o. unless o (with_changes r.refs refs)) e

module _ (r : Records) (n : ℕ) (text : Bytes) (refs : List Ref) (fine : changes_fault r.records refs ≡ None) where
  -- Refs that were gathered, and against which nothing is, come next.
  come_next : (k : ℕ) (rest : Bytes) → gathered k None text ≡ (refs, Ok rest) → next_refs k r.records None text ≡ Ok (refs, rest)
  come_next k rest e =
      are_next r.records k None text ∙ ap (λ g. settled r.records (changes_fault r.records g.0) g) e ∙ ap (λ o. settled r.records o (refs, Ok rest)) fine

  -- Memory that runs out behind them runs out among the refs.
  pub wants_behind : (answer : Result (Bor Bytes) FileFault) → WantsWhere answer (RunsOutBehind n text refs) → WantsWhere answer (RunsOutAmongRefs r.records n text)
  wants_behind (Ok rest) h = tt
  wants_behind (Err fault) h = λ w. let b = h w in (b.0, omega (arith, b.1), ((refs, b.2), come_next b.0 b.2 b.3, λ lt. b.4))

  -- So does memory that runs out behind all of them.
  pub wants_all : (rest : Bor Bytes) → Gathers (gathered n None text) refs (Ok rest) → RunsOutAmongRefs r.records n text
  wants_all rest h = (n, omega arith, ((refs, rest.now), come_next n rest.now (λ i. (h.0 i, h.1 i)), λ lt. absurd (omega (arith, lt))))
