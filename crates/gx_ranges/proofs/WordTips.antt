-- Words one behind the other, and refs behind them: what they include and exclude.
use Rattle.std.proofs.Common.{◌≡◌, ℕ, Bool, true, false, refl, sym, ap, ◌∙◌, List, [], ◌∷◌, ◌++◌, map, Option, Some, None, Result, Ok, Err}
use Rattle.std.specs.Prelude.{IfSome, ◌&&◌, ◌||◌, not, reverse}
use Rattle.std.specs.List.{filter, filter_map, list_any}
use Rattle.std.proofs.lemmas.List.Folds.{list_any-append}
use Rattle.gx_model.specs.declared.objects.Kind.{Kind}
use Rattle.gx_model.specs.Faults.{◌>>=◌}
use Rattle.gx_model.specs.Export.{is_reached}
use Rattle.gx_model.specs.Histories.{Records, Target}
use Rattle.gx_model.specs.Histories.Values.{Commit, commit_of}
use Rattle.gx_model.specs.Laws.RangeLaws.{is_excluded}
use Rattle.gx_model.specs.Laws.RepositoryLaws.{values_of}
use Rattle.gx_model.specs.Records.HistoryOf.{history_of}
use Rattle.gx_model.specs.Replay.{peeled_at}
use Rattle.gx_model.specs.Revisions.{RangeWord}
use Rattle.gx_model.specs.Revisions.Ranges.{Word, WordFault, listing, reaches, span, with_ancestors, words_denoted}
use Rattle.gx_model.specs.Texts.{Bytes}
use Rattle.gx_object.specs.declared.name.Name.{Name}
use Rattle.gx_objects.specs.declared.fault.LookFault.{LookFault}
use Rattle.gx_objects.specs.declared.fault.LookFault.TheVariants as look
use Rattle.gx_questions.specs.Answers.{RefusesUntold, of_look}
use Rattle.gx_questions.specs.declared.fault.AskFault.{AskFault}
use Rattle.gx_questions.specs.declared.fault.AskFault.TheVariants.{OutOfMemory, ReadFailed, Damaged, Revision}
use Rattle.gx_rev.specs.Reached.{is_wanted}
use Rattle.gx_rev.specs.Walking.{is_included}
use Rattle.gx_ranges.specs.Answers.{RefusesWord}
use Rattle.gx_ranges.specs.Fronts.{Adds, AreTips, lead_to}
use Rattle.gx_print.specs.Logs.{commits_logged, limited, with_refs, words_of_refs}
use Rattle.gx_ranges.specs.Listings.{StillLists}
use Rattle.gx_ranges.specs.Walks.{passing_from}
use Rattle.gx_ranges.specs.declared.walking.CommitWalk.{CommitWalk}
use Rattle.gx_ranges.proofs.Reached.{or_joined, or_none}

abbrev Tip : Type 0
Tip = ℕ × Name

-- ---- tests added

pub adds_nothing : (stands : ℕ → ℕ) (tips : List Tip) (r : Records) → AreTips stands tips r → Adds stands (λ c. false) tips tips r
adds_nothing stands tips r t = record { tips = t; reach = λ c. sym (or_none (lead_to r tips c)) }

pub adds_both : (stands : ℕ → ℕ) (r : Records) (P Q : Commit → Bool) (old now new : List Tip) → Adds stands P old now r → Adds stands Q now new r → Adds stands (λ c. P c || Q c) old new r
adds_both stands r P Q old now new a b = record {
  tips = b.tips;
  reach = λ c. b.reach c ∙ ap (λ t. t || Q c) (a.reach c) ∙ or_joined (lead_to r old c) (P c) (Q c);
}

pub adds_same : (stands : ℕ → ℕ) (r : Records) (P Q : Commit → Bool) (old new : List Tip) → ((c : Commit) → P c ≡ Q c) → Adds stands P old new r → Adds stands Q old new r
adds_same stands r P Q old new h a = record { tips = a.tips; reach = λ c. a.reach c ∙ ap (λ t. lead_to r old c || t) (h c) }

-- one word more
pub word_more : (p : Word → Commit → Bool) (done : List Word) (w : Word) (c : Commit) → (list_any (λ x. p x c) done || p w c) ≡ list_any (λ x. p x c) (done ++ w ∷ [])
word_more p done w c = sym (list_any-append (λ x. p x c) done (w ∷ []) ∙ ap (λ b. list_any (λ x. p x c) done || b) (or_none (p w c)))

-- one ref more
pub ref_more : (refs : List (Bytes × Target)) (ref : Bytes × Target) (c : Commit) → (is_reached refs c || reaches (peeled_at ref.1) c) ≡ is_reached (refs ++ ref ∷ []) c
ref_more refs ref c = sym (list_any-append (λ q. reaches (peeled_at q.1) c) refs (ref ∷ []) ∙ ap (λ b. is_reached refs c || b) (or_none (reaches (peeled_at ref.1) c)))

-- ---- refs as words

refs_included : (refs : List (Bytes × Target)) (c : Commit) → list_any (λ w. (span w).included c) (map (λ ref. with_ancestors (peeled_at ref.1)) refs) ≡ is_reached refs c
refs_included [] c = refl
refs_included (ref ∷ refs) c = ap (λ b. reaches (peeled_at ref.1) c || b) (refs_included refs c)

refs_excluded : (refs : List (Bytes × Target)) (c : Commit) → list_any (λ w. (span w).excluded c) (map (λ ref. with_ancestors (peeled_at ref.1)) refs) ≡ false
refs_excluded [] c = refl
refs_excluded (ref ∷ refs) c = refs_excluded refs c

-- what words and refs include and exclude
pub with_refs_included : (r : Records) (words : List Word) (c : Commit) → (is_included words c || is_wanted r c) ≡ is_included (words ++ words_of_refs (history_of r)) c
with_refs_included r words c =
    sym (list_any-append (λ w. (span w).included c) words (words_of_refs (history_of r)) ∙ ap (λ b. is_included words c || b) (refs_included (history_of r).refs c))

pub with_refs_excluded : (r : Records) (words : List Word) (c : Commit) → is_excluded words c ≡ is_excluded (words ++ words_of_refs (history_of r)) c
with_refs_excluded r words c =
    sym (list_any-append (λ w. (span w).excluded c) words (words_of_refs (history_of r)) ∙ ap (λ b. is_excluded words c || b) (refs_excluded (history_of r).refs c) ∙ or_none (is_excluded words c))

-- ---- what is listed

-- the commits that fronts reach are those that words list
pub listed_so : (stands : ℕ → ℕ) (r : Records) (words : List Word) (wanted unwanted : List Tip) → Adds stands (is_included words) [] wanted r → Adds stands (is_excluded words) [] unwanted r
    → passing_from r (lead_to r wanted) (lead_to r unwanted) 0 ≡ listing (history_of r) words
listed_so stands r words wanted unwanted a b = λ i. filter (λ c. a.reach c i && not (b.reach c i)) (reverse (filter_map commit_of (values_of r)))

module _ (name : Kind → Bytes → Bytes) (r : Records) (asked : List RangeWord) (words : List Word) (e : words_denoted name (history_of r) asked ≡ Ok words) where
  pub logged_so : (refs : Bool) → commits_logged name (history_of r) refs asked ≡ Ok (listing (history_of r) (with_refs refs (history_of r) words))
  logged_so refs = ap (λ g. g >>= λ xs. Ok (listing (history_of r) (with_refs refs (history_of r) xs))) e

  -- a walk begins with them
  pub walk_begins : {A : Type 0} (stands : ℕ → ℕ) (refs : Bool) (walk : CommitWalk A)
      → Adds stands (is_included (with_refs refs (history_of r) words)) [] walk.wanted.entries r → Adds stands (is_excluded (with_refs refs (history_of r) words)) [] walk.unwanted.entries r
      → (commits : List Commit) × (commits_logged name (history_of r) refs asked ≡ Ok commits) × StillLists stands r walk (limited walk.left commits)
  walk_begins stands refs walk a b = (
    listing (history_of r) (with_refs refs (history_of r) words),
    logged_so refs,
    record {
      tips = record { wanted = a.tips; unwanted = b.tips };
      lists = ap (limited walk.left) (sym (listed_so stands r (with_refs refs (history_of r) words) walk.wanted.entries walk.unwanted.entries a b));
    },
  )

-- the word that is refused
pub refused_so : (name : Kind → Bytes → Bytes) (told : Option Records) (asked : List RangeWord) (refs : Bool) (word : ℕ) (fault : AskFault)
    → RefusesWord told (λ r. words_denoted name (history_of r) asked) word fault → RefusesWord told (λ r. commits_logged name (history_of r) refs asked) word fault
refused_so name told asked refs word OutOfMemory h = h
refused_so name told asked refs word ReadFailed h = h
refused_so name told asked refs word Damaged h = h
refused_so name None asked refs word (Revision f) h = tt
refused_so name (Some r) asked refs word (Revision f) h = ap (λ g. g >>= λ xs. Ok (listing (history_of r) (with_refs refs (history_of r) xs))) h

-- ---- the whole

module _ {A : Type 0} (name : Kind → Bytes → Bytes) (stands : ℕ → ℕ) (asked : List RangeWord) (walk : CommitWalk A) (wanted : List Tip) where
  -- a walk begins with the commits that are logged
  abbrev Begins : Bool → Records → Type 0
  Begins refs r = (commits : List Commit) × (commits_logged name (history_of r) refs asked ≡ Ok commits) × StillLists stands r walk (limited walk.left commits)

  begins_with : (refs : Bool) (r : Records) (words : List Word) → words_denoted name (history_of r) asked ≡ Ok words → Adds stands (is_included words) [] wanted r → Adds stands (is_excluded words) [] walk.unwanted.entries r
      → Adds stands (λ c. refs && is_wanted r c) wanted walk.wanted.entries r → Begins refs r
  begins_with true r words e a b more = walk_begins name r asked words e stands true walk
      (adds_same stands r (λ c. is_included words c || is_wanted r c) (is_included (words ++ words_of_refs (history_of r))) [] walk.wanted.entries (with_refs_included r words) (adds_both stands r (is_included words) (is_wanted r) [] wanted walk.wanted.entries a more))
      (adds_same stands r (is_excluded words) (is_excluded (words ++ words_of_refs (history_of r))) [] walk.unwanted.entries (with_refs_excluded r words) b)
  begins_with false r words e a b more = walk_begins name r asked words e stands false walk
      (adds_same stands r (λ c. is_included words c || false) (is_included words) [] walk.wanted.entries (λ c. or_none (is_included words c)) (adds_both stands r (is_included words) (λ c. false) [] wanted walk.wanted.entries a more)) b

  pub begun : (refs : Bool) (told : Option Records)
      → IfSome told (λ r. (words : List Word) × (words_denoted name (history_of r) asked ≡ Ok words) × Adds stands (is_included words) [] wanted r × Adds stands (is_excluded words) [] walk.unwanted.entries r)
      → IfSome told (λ r. Adds stands (λ c. refs && is_wanted r c) wanted walk.wanted.entries r) → IfSome told (Begins refs)
  begun refs None w more = tt
  begun refs (Some r) w more = begins_with refs r w.0 w.1 w.2 w.3 more

pub words_wanted : (name : Kind → Bytes → Bytes) (stands : ℕ → ℕ) (asked : List RangeWord) (told : Option Records) (wanted unwanted : List Tip)
    → IfSome told (λ r. (words : List Word) × (words_denoted name (history_of r) asked ≡ Ok words) × Adds stands (is_included words) [] wanted r × Adds stands (is_excluded words) [] unwanted r)
    → IfSome told (AreTips stands wanted) × IfSome told (AreTips stands unwanted)
words_wanted name stands asked None wanted unwanted w = (tt, tt)
words_wanted name stands asked (Some r) wanted unwanted w = (w.2.tips, w.3.tips)

pub more_tips : (stands : ℕ → ℕ) (told : Option Records) (test : Records → Commit → Bool) (old new : List Tip) → IfSome told (λ r. Adds stands (test r) old new r) → IfSome told (AreTips stands new)
more_tips stands None test old new a = tt
more_tips stands (Some r) test old new a = a.tips

pub no_refs_more : (stands : ℕ → ℕ) (told : Option Records) (tips : List Tip) → IfSome told (AreTips stands tips) → IfSome told (λ r. Adds stands (λ c. false && is_wanted r c) tips tips r)
no_refs_more stands None tips t = tt
no_refs_more stands (Some r) tips t = adds_nothing stands tips r t

-- what is refused of no word
pub untold_word : (X : Type 0) {Y : Type 0} (told : Option Records) (given : Records → Result Y WordFault) (fault : AskFault) → RefusesUntold {X = X} told (Err fault) → RefusesWord told given 0 fault
untold_word X told given OutOfMemory h = refl
untold_word X told given ReadFailed h = refl
untold_word X told given Damaged h = (refl, h)
untold_word X told given (Revision f) h = absurd h

pub look_word : {Y : Type 0} (told : Option Records) (given : Records → Result Y WordFault) (fault : LookFault) → (fault ≡ look.Damaged → told ≡ None) → RefusesWord told given 0 (of_look fault)
look_word told given look.OutOfMemory h = refl
look_word told given look.ReadFailed h = refl
look_word told given look.Damaged h = (refl, h refl)
