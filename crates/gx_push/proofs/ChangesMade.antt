-- The changes of refs that are to hold an object, one after the other, and that nothing is against them.
use Rattle.std.proofs.Common.{◌≡◌, ℕ, ◌+◌, ◌<◌, ◌≤◌, List, [], ◌∷◌, ◌++◌, append-nil, append_assoc, length, drop, get_or, Option, Some, None, Ok, Err, refl, sym, ap, ◌∙◌, drop_of_length-le}
use Rattle.std.specs.List.{AllByRecursion, cons_option, filter_map}
use Rattle.std.specs.Option.{option_or}
use Rattle.std.proofs.lemmas.List.{drop_more}
use Rattle.gx_model.specs.Histories.{Record, Records}
use Rattle.gx_model.specs.Records.Publishing.{Change, change_fault, changes_fault, published, with_changes}
use Rattle.gx_model.specs.Faults.{unless}
use Rattle.gx_model.specs.Laws.RepositoryLaws.{with_refs}
use Rattle.gx_model.specs.declared.faults.Fault.{Fault}
use Rattle.gx_push.specs.declared.setting.Setting.{Setting}
use Rattle.gx_push.specs.Settings.{Set, change_in, shown_setting, shown_settings}

module _ (list : List Setting) where
  -- the changes of the first ones, and those that are left
  abbrev pub AreMade : List Change → ℕ → Type 0
  AreMade changes i = (changes ++ filter_map change_in (shown_settings (drop i list))) ≡ filter_map change_in (shown_settings list)

  at_next : (i : ℕ) (d : Setting) (o : Option Change) → i < length list → change_in (shown_setting (get_or list i d)) ≡ o
      → filter_map change_in (shown_settings (drop i list)) ≡ cons_option o (filter_map change_in (shown_settings (drop (i + 1) list)))
  at_next i d o lt e =
      ap (λ vs. filter_map change_in (shown_settings vs)) (drop_more list i d lt) ∙ ap (λ t. cons_option t (filter_map change_in (shown_settings (drop (i + 1) list)))) e

  pub made_more : (changes : List Change) (i : ℕ) (d : Setting) (c : Change) → i < length list → AreMade changes i → change_in (shown_setting (get_or list i d)) ≡ Some c → AreMade (changes ++ c ∷ []) (i + 1)
  made_more changes i d c lt h e =
      append_assoc changes (c ∷ []) (filter_map change_in (shown_settings (drop (i + 1) list))) ∙ ap (λ cs. changes ++ cs) (sym (at_next i d (Some c) lt e)) ∙ h

  pub made_same : (changes : List Change) (i : ℕ) (d : Setting) → i < length list → AreMade changes i → change_in (shown_setting (get_or list i d)) ≡ None → AreMade changes (i + 1)
  made_same changes i d lt h e = ap (λ cs. changes ++ cs) (sym (at_next i d None lt e)) ∙ h

  pub made_all : (changes : List Change) (i : ℕ) → length list ≤ i → AreMade changes i → changes ≡ filter_map change_in (shown_settings list)
  made_all changes i le h = sym (append-nil changes) ∙ ap (λ vs. changes ++ filter_map change_in (shown_settings vs)) (sym (drop_of_length-le list le)) ∙ h

-- nothing is against a set's change
abbrev pub IsFree : List Record → Set → Type 0
IsFree records s = (c : Change) → change_in s ≡ Some c → change_fault records c ≡ None

-- and so against none of all
pub all_free : (records : List Record) (sets : List Set) → AllByRecursion (IsFree records) sets → changes_fault records (filter_map change_in sets) ≡ None
all_free records [] h = refl
all_free records (s ∷ ss) h = by (change_in s) refl (all_free records ss h.1) where
  by : (o : Option Change) → change_in s ≡ o → changes_fault records (filter_map change_in ss) ≡ None → changes_fault records (cons_option o (filter_map change_in ss)) ≡ None
  by None e k = k
  by (Some c) e k = ap (λ f. option_or f (changes_fault records (filter_map change_in ss))) (h.0 c e) ∙ k

-- then all are made
pub all_made : (r : Records) (changes : List Change) → changes_fault r.records changes ≡ None → published r changes ≡ Ok (with_changes r.refs changes)
unfolding published
all_made r changes e = ap (λ f. unless f (with_changes r.refs changes)) e

pub none_refused : (r : Records) (changes all : List Change) (fault : Fault) → changes ≡ all → changes_fault r.records all ≡ None → published r changes ≡ Err fault → ⊥
none_refused r changes all fault s e h = let bad = sym (ap (published r) s ∙ all_made r all e) ∙ h in cc bad

-- a repository with all changes made
pub left_with : (old new : Records) (changes all : List Change) → changes ≡ all → changes_fault old.records all ≡ None → new.records ≡ old.records → published old changes ≡ Ok new.refs → new ≡ with_refs old (with_changes old.refs all)
left_with old new changes all s e records h =
    let same : new ≡ with_refs old new.refs = rw (sym records) refl in
    let both = sym (ap (published old) s ∙ all_made old all e) ∙ h in
    let refs : with_changes old.refs all ≡ new.refs = cc both in
    same ∙ ap (with_refs old) (sym refs)
