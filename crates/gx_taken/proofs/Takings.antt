-- What is taken, step by step.
use Rattle.std.proofs.Common.{◌≡◌, ℕ, Bool, List, Some, None, Result, Ok, Err, sym, ap, ◌∙◌}
use Rattle.gx_model.specs.Histories.{Record, Records}
use Rattle.gx_model.specs.Laws.RepositoryLaws.{with_records, with_refs}
use Rattle.gx_wide.specs.ObjectsTexts.{Item}
use Rattle.gx_wide.specs.Placing.{TakeFault, given_in}
use Rattle.gx_placed.specs.Placed.{placed_all}
use Rattle.gx_taken.specs.Taking.{Refusal, first_refused, names_told, number_named, refs_taken, refs_told, subject, taken, untaken, with_all_told}

module _ (force : Bool) (r : Records) (items : List Item) where
  -- what becomes of the refs, where the objects are placed
  after_placing : Result (List Record) TakeFault → Result Records (ℕ × Refusal)
  after_placing outcome = elim outcome [
    | Err fault ↦ Err (number_named (names_told 1 items) (subject fault), untaken fault)
    | Ok records ↦ refs_taken (with_records r records) (refs_told 1 items) (first_refused force (with_records r records) (refs_told 1 items))
  ]

  pub taken_placed : (records : List Record) → placed_all (given_in items) r.records ≡ Ok records
      → taken force r items ≡ refs_taken (with_records r records) (refs_told 1 items) (first_refused force (with_records r records) (refs_told 1 items))
  unfolding taken after_placing
  taken_placed records e = ap after_placing e

  pub not_placed : (fault : TakeFault) → placed_all (given_in items) r.records ≡ Err fault → taken force r items ≡ Err (number_named (names_told 1 items) (subject fault), untaken fault)
  unfolding taken after_placing
  not_placed fault e = ap after_placing e

  -- no ref is refused
  pub all_taken : (now left : Records) → placed_all (given_in items) r.records ≡ Ok now.records → now.refs ≡ r.refs → first_refused force now (refs_told 1 items) ≡ None
      → left ≡ with_refs now (with_all_told now.refs (refs_told 1 items)) → taken force r items ≡ Ok left
  all_taken now left placed refs free made =
      let same : with_records r now.records ≡ now = ap (λ rs. record { records = now.records; refs = rs }) (sym refs) in
      taken_placed now.records placed ∙ ap (λ (n : Records). refs_taken n (refs_told 1 items) (first_refused force n (refs_told 1 items))) same
      ∙ ap (refs_taken now (refs_told 1 items)) free ∙ ap Ok (sym made)

  -- one is
  pub ref_refused : (now : Records) (refused : ℕ × Refusal) → placed_all (given_in items) r.records ≡ Ok now.records → now.refs ≡ r.refs → first_refused force now (refs_told 1 items) ≡ Some refused
      → taken force r items ≡ Err refused
  ref_refused now refused placed refs told =
      let same : with_records r now.records ≡ now = ap (λ rs. record { records = now.records; refs = rs }) (sym refs) in
      taken_placed now.records placed ∙ ap (λ (n : Records). refs_taken n (refs_told 1 items) (first_refused force n (refs_told 1 items))) same
      ∙ ap (refs_taken now (refs_told 1 items)) told
