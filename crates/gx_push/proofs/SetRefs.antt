-- Sets of refs that are read of lines: they can be made.
use Rattle.std.proofs.Common.{◌≡◌, ℕ, ◌+◌, Bool, true, false, List, [], None, Ok, Err, refl, subst, sym, ap, ◌∙◌}
use Rattle.std.specs.List.{AllByRecursion, filter_map}
use Rattle.gx_model.specs.Texts.{Bytes}
use Rattle.gx_model.specs.Histories.{Records}
use Rattle.gx_model.specs.Laws.RepositoryLaws.{with_refs}
use Rattle.gx_model.specs.Records.Publishing.{Ref, changes_fault}
use Rattle.gx_repo.specs.Dropping.{dropped, without}
use Rattle.gx_repo.proofs.DroppedRefs.{are_left}
use Rattle.gx_repo.specs.Refs.{is_ref_held}
use Rattle.gx_push.specs.declared.fault.RefFault.{RefFault}
use Rattle.gx_push.specs.declared.settings.Against.{Against}
use Rattle.gx_push.specs.declared.settings.Against.TheVariants as against
use Rattle.gx_push.specs.Calls.{ReadsSets, set_refused}
use Rattle.gx_push.specs.Settings.{After, Set, becomes, change_in, gone, is_removed, made, ref_of, removed, same, set_of, set_refs, setting_in, sets_in, with_sets}
use Rattle.gx_push.proofs.ChangesMade.{IsFree, all_free}
use Rattle.gx_push.proofs.KnownNames.{all_known}
use Rattle.gx_push.proofs.ReadLines.{all_have}
use Rattle.gx_push.proofs.SetFaults.{after_free, allowed_new}

removed_held : (refs : List Ref) (ref : Bytes) (after : After) → elim after [ same ↦ false | gone ↦ is_ref_held refs ref | becomes object ↦ false ] ≡ true → is_ref_held refs ref ≡ true
removed_held refs ref same e = absurd (cc e)
removed_held refs ref gone e = e
removed_held refs ref (becomes object) e = absurd (cc e)

-- all refs that are to be removed can be dropped
pub all_removed : (r : Records) (forced : Bool) (lines : List Bytes) (sets : List Set) → sets_in forced r lines ≡ Ok sets → (names : List Bytes) → names ≡ removed r.refs sets → (number : ℕ) → dropped names r.refs ≡ Err number → ⊥
all_removed r forced lines sets e names s number h =
    all_known ref_of r.refs (is_removed r.refs) (λ t k. removed_held r.refs t.ref t.moves.1 k) (set_of forced r) (λ given line told k. (allowed_new forced r given (setting_in line) told k).0) lines sets e names s number h

-- nothing is against the changes of what was read
pub changes_free : (r : Records) (forced : Bool) (lines : List Bytes) (sets : List Set) → sets_in forced r lines ≡ Ok sets → changes_fault r.records (filter_map change_in sets) ≡ None
changes_free r forced lines sets e =
    let all = all_have ref_of (set_of forced r) (IsFree r.records) (λ given line told k. after_free forced r told.ref told.moves.1 (allowed_new forced r given (setting_in line) told k).1) [] lines sets e in
    all_free r.records sets (subst (λ ss. AllByRecursion (IsFree r.records) ss) (sym all.1) all.2)

-- what is left of refs is what the lines make of them
pub refs_set : (old left : Records) (forced : Bool) (lines : List Bytes) (sets : List Set) → sets_in forced old lines ≡ Ok sets → left ≡ with_refs old (with_sets old.refs sets)
    → (set_refs forced old lines ≡ Ok left.refs) × (left ≡ with_refs old left.refs)
refs_set old left forced lines sets e s = (ap (made old.refs) e ∙ ap (λ (r : Records). Ok r.refs) (sym s), s ∙ ap (λ (r : Records). with_refs old r.refs) (sym s))

-- a line is refused
pub line_refused : (A : Type 0) (forced : Bool) (r : Records) (lines : List Bytes) (place : ℕ) (why : Against)
    → ((fault : RefFault) → why ≡ against.Fault fault → sets_in forced r lines ≡ Err (place + 1, fault)) → ReadsSets {A = A} forced r lines (Err (set_refused place why))
line_refused A forced r lines place (against.Fault fault) h = h fault refl
line_refused A forced r lines place against.OutOfMemory h = tt

-- the refs with these names are dropped
pub left_by_drop : (old new : Records) (names all : List Bytes) → names ≡ all → new.records ≡ old.records → dropped names old.refs ≡ Ok new.refs → new ≡ with_refs old (without all old.refs)
left_by_drop old new names all e records left =
    let same : new ≡ with_refs old new.refs = rw (sym records) refl in
    same ∙ ap (with_refs old) (are_left names old.refs new.refs left ∙ ap (λ ns. without ns old.refs) e)
