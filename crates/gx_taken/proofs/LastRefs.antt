-- Refs hold what is told of them last.
use Rattle.std.proofs.Common.{◌≡◌, ℕ, Bool, true, false, cond, List, [], ◌∷◌, map, Option, Some, None, Result, Ok, Err, refl, sym, ap, ◌∙◌}
use Rattle.std.specs.Prelude.{not, ◌||◌, if◌then◌else◌}
use Rattle.std.specs.Bool.{passes}
use Rattle.std.specs.List.{fold}
use Rattle.std.specs.Map.{lookup}
use Rattle.std.specs.FinMap.Entries.{find, find-put, put}
use Rattle.std.proofs.lemmas.Bool.{true≢false}
use Rattle.std.proofs.lemmas.Map.Text.{is_eq-slice_cmp}
use Rattle.gx_model.specs.Texts.{Bytes, byte_cmp, same_bytes}
use Rattle.gx_model.specs.Histories.{Record, Records}
use Rattle.gx_model.specs.Laws.RepositoryLaws.{with_records}
use Rattle.gx_model.specs.Records.Publishing.{Ref}
use Rattle.gx_model.proofs.Records.SortedRefs.{order}
use Rattle.gx_model.proofs.Texts.PathTests.{is_same, is_true, same_is}
use Rattle.gx_repo.specs.Dropping.{without}
use Rattle.gx_wide.specs.ObjectsTexts.{Item}
use Rattle.gx_wide.specs.Placing.{TakeFault, given_in, is_dropped}
use Rattle.gx_placed.specs.Placed.{placed_all}
use Rattle.gx_taken.specs.Laws.{GivesAll, WhereTaken, object_told, or_before, told_last}
use Rattle.gx_taken.specs.Taking.{Refusal, first_refused, names_told, number_named, refs_taken, refs_told, subject, taken, untaken, with_told}
use Rattle.gx_taken.proofs.ToldRefs.{found_left}
use Rattle.gx_taken.proofs.TurnedRefs.{found}

same_turned : (x y : Bytes) → same_bytes x y ≡ same_bytes y x
same_turned x y = by (same_bytes x y) (same_bytes y x) refl refl where
  by : (a b : Bool) → same_bytes x y ≡ a → same_bytes y x ≡ b → a ≡ b
  by true true e f = refl
  by true false e f = absurd (true≢false (sym (is_true _ (is_same y x (sym (same_is x y (passes _ e))))) ∙ f))
  by false true e f = absurd (true≢false (sym (is_true _ (is_same x y (sym (same_is y x (passes _ f))))) ∙ e))
  by false false e f = refl

module _ (ref : Bytes) where
  -- what one line leaves of a ref
  one_told : (told : Ref) (refs : List Ref) → lookup (same_bytes ref) (with_told refs told) ≡ (if same_bytes ref told.0 then object_told told.1 else lookup (same_bytes ref) refs)
  one_told told refs = by (is_dropped told.1) where
    gone : (b : Bool) (o : Option Bytes) → cond (not (b || false)) o None ≡ (if b then None else o)
    gone true o = refl
    gone false o = refl

    by : (d : Bool) → lookup (same_bytes ref) (if d then without (told.0 ∷ []) refs else put byte_cmp told.0 told.1 refs) ≡ (if same_bytes ref told.0 then (if d then None else Some told.1) else lookup (same_bytes ref) refs)
    by true =
        sym (found ref (without (told.0 ∷ []) refs)) ∙ found_left (told.0 ∷ []) ref refs ∙ gone (same_bytes told.0 ref) (find byte_cmp ref refs)
        ∙ ap (λ b. if b then None else find byte_cmp ref refs) (same_turned told.0 ref) ∙ ap (λ o. if same_bytes ref told.0 then None else o) (found ref refs)
    by false =
        sym (found ref (put byte_cmp told.0 told.1 refs)) ∙ find-put byte_cmp order ref told.0 told.1 refs ∙ (λ i. cond (is_eq-slice_cmp ref told.0 i) (Some told.1) (found ref refs i))

  -- what all of them leave
  all_told : (told : List Ref) (refs : List Ref) → lookup (same_bytes ref) (fold with_told refs told) ≡ or_before (told_last told ref) (lookup (same_bytes ref) refs)
  all_told [] refs = refl
  all_told (t ∷ ts) refs = all_told ts (with_told refs t) ∙ by (told_last ts ref) where
    either : (b : Bool) (object before : Option Bytes) → (if b then object else before) ≡ or_before (if b then Some object else None) before
    either true object before = refl
    either false object before = refl

    by : (o : Option (Option Bytes)) → or_before o (lookup (same_bytes ref) (with_told refs t))
        ≡ or_before (elim o [ None ↦ if same_bytes ref t.0 then Some (object_told t.1) else None | Some object ↦ Some object ]) (lookup (same_bytes ref) refs)
    by None = one_told t refs ∙ either (same_bytes ref t.0) (object_told t.1) (lookup (same_bytes ref) refs)
    by (Some object) = refl

module _ (force : Bool) (r : Records) (items : List Item) (left : Records) where
  by_refs : (now : Records) (told : List (ℕ × Ref)) (o : Option (ℕ × Refusal)) → refs_taken now told o ≡ Ok left → (left.records ≡ now.records) × (left.refs ≡ fold with_told now.refs (map (λ it. it.1) told))
  by_refs now told None e =
      let is : record { records = now.records; refs = fold with_told now.refs (map (λ it. it.1) told) } ≡ left = cc e in
      (ap (λ (n : Records). n.records) (sym is), ap (λ (n : Records). n.refs) (sym is))
  by_refs now told (Some refused) e = absurd (cc e)

  -- what becomes of all, where the objects are placed
  abbrev after_placing : Result (List Record) TakeFault → Result Records (ℕ × Refusal)
  after_placing outcome = elim outcome [
    | Err fault ↦ Err (number_named (names_told 1 items) (subject fault), untaken fault)
    | Ok records ↦ refs_taken (with_records r records) (refs_told 1 items) (first_refused force (with_records r records) (refs_told 1 items))
  ]

  by_placing : (outcome : Result (List Record) TakeFault) → placed_all (given_in items) r.records ≡ outcome → after_placing outcome ≡ Ok left → GivesAll r items left
  by_placing (Err fault) k e = absurd (cc e)
  by_placing (Ok records) k e =
      let both = by_refs (with_records r records) (refs_told 1 items) (first_refused force (with_records r records) (refs_told 1 items)) e in record {
        objects = k ∙ ap Ok (sym both.0);
        refs = λ ref. ap (lookup (same_bytes ref)) both.1 ∙ all_told ref (map (λ it. it.1) (refs_told 1 items)) r.refs;
      }

  pub gives_all : taken force r items ≡ Ok left → GivesAll r items left
  unfolding taken
  gives_all e = by_placing (placed_all (given_in items) r.records) refl e

pub where_taken : WhereTaken
where_taken = gives_all
