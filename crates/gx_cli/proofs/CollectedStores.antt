-- Stores whose objects go that neither refs nor the objects of some names reach.
use Rattle.std.proofs.Common.{◌≡◌, ℕ, ◌+◌, ◌++◌, Bool, true, false, cond, List, [], ◌∷◌, append_assoc, drop, get_or, length, Some, Result, Ok, Err, refl, sym, ap, subst, ◌∙◌, arith, inl, inr}
use Rattle.std.specs.Prelude.{T, ◌||◌, ◌&&◌, ◌<◌}
use Rattle.std.specs.List.{AllByRecursion, filter}
use Rattle.std.specs.declared.vec.Vec.{Vec}
use Rattle.std.proofs.lemmas.List.{drop_more, length-append}
use Rattle.gx_model.specs.declared.objects.Kind.{Kind}
use Rattle.gx_model.specs.Texts.{Bytes}
use Rattle.gx_model.specs.Histories.{History, Record, Records}
use Rattle.gx_model.specs.Laws.PruningLaws.{GivesReached, HasReached, PrunedAnswers, PrunedStands}
use Rattle.gx_model.specs.Objects.{IsNamer}
use Rattle.gx_model.specs.Pruning.{is_reachable, links_to, pruned}
use Rattle.gx_model.specs.Records.HistoryOf.{history_of}
use Rattle.gx_model.specs.Records.Publishing.{Ref}
use Rattle.gx_model.specs.Records.Sound.{IsSound}
use Rattle.gx_model.specs.Revisions.{AllParents, Alone, Apart, Between, RangeWord, WithAncestors, WithoutAncestors, WithoutOne}
use Rattle.gx_model.specs.Revisions.Denotation.{denoted, find_ref}
use Rattle.gx_model.specs.Revisions.Ranges.{listed}
use Rattle.gx_model.specs.Stores.StoreReading.{Stored}
use Rattle.gx_model.proofs.Texts.PathTests.{both, first, left_or, one_of, right_or, second}
use Rattle.gx_object.specs.Commits.{bytes_of_names}
use Rattle.gx_object.specs.declared.name.Name.{Name}
use Rattle.gx_repo.specs.Pruning.{is_kept_beside, pruned_beside, tips_of, weight}
use Rattle.gx_repo.specs.Repositories.{Repository}
use Rattle.gx_repo.specs.declared.pruning.Pruned.{Pruned}
use Rattle.gx_repo.proofs.KeptRecords.{beside_none, kept_history as history_kept, kept_sound, named_kept, reached_kept, tip_more}
use Rattle.gx_cli.specs.Collecting.{AnswersByRefs, CollectsNamed, CollectsOpened, CollectsStored, GivesNames, HasRefs, IsCollected, IsCollectedBeside, IsOfRef, name_before}
use Rattle.gx_cli.specs.Gathering.{texts_of}
use Rattle.gx_cli.specs.Serving.{IsWritten, LeavesCollected}
use Rattle.gx_cli.specs.declared.fault.CliFault.{CliFault}
use Rattle.gx_cli.specs.declared.fault.CliFault.TheVariants as fault
use Rattle.gx_cli.specs.declared.serving.Outcome.{Outcome}

-- a sound repository with the objects alone that its refs reach
pub is_collected : (name : Kind → Bytes → Bytes) (old : Records) → PrunedStands name → PrunedAnswers name → IsSound name old → IsCollected name old (pruned old)
is_collected name old stands answers sound = record {
  left = refl;
  sound = stands.sound old sound;
  history = stands.history old sound;
  answers = record { by_ref = answers.by_ref old sound; revisions = answers.revisions old sound; ranges = answers.ranges old sound };
}

-- ---- what refs reach of what is left

-- what refs reach more refs reach, too
reach_more : (refs more : List Ref) (rs : List Record) (n : Bytes) → T (is_reachable refs rs n) → T (is_reachable (refs ++ more) rs n)
reach_more refs more [] n h = subst T (sym (tip_more refs more n)) (left_or (is_reachable refs [] n) _ h)
reach_more refs more (r ∷ rs) n h =
    one_of (is_reachable refs rs n) (is_reachable refs rs r.name && links_to r n) h
    (λ k. left_or (is_reachable (refs ++ more) rs n) _ (reach_more refs more rs n k))
    (λ k. right_or (is_reachable (refs ++ more) rs n) _
    (both _ _ (reach_more refs more rs r.name (first (is_reachable refs rs r.name) _ k)) (second (is_reachable refs rs r.name) (links_to r n) k)))

-- records that refs don't reach are no way to others
fewer : (refs : List Ref) (test : Record → Bool) (rs : List Record) → ((r : Record) → T (is_reachable refs rs r.name) → T (test r)) → (n : Bytes) → is_reachable refs (filter test rs) n ≡ is_reachable refs rs n
fewer refs test [] h n = refl
fewer refs test (r ∷ rs) h n = by (test r) refl (is_reachable refs rs r.name) refl (fewer refs test rs (λ q k. h q (left_or (is_reachable refs rs q.name) _ k))) where
  or_nothing : (b : Bool) → b ≡ (b || false)
  or_nothing true = refl
  or_nothing false = refl

  by : (t : Bool) → test r ≡ t → (b : Bool) → is_reachable refs rs r.name ≡ b → ((n : Bytes) → is_reachable refs (filter test rs) n ≡ is_reachable refs rs n)
      → is_reachable refs (cond t (r ∷ filter test rs) (filter test rs)) n ≡ (is_reachable refs rs n || (is_reachable refs rs r.name && links_to r n))
  by true e b f again = λ i. again n i || (again r.name i && links_to r n)
  by false e true f again = absurd (subst T e (h r (left_or (is_reachable refs rs r.name) _ (subst T (sym f) tt))))
  by false e false f again = again n ∙ or_nothing (is_reachable refs rs n) ∙ ap (λ b. is_reachable refs rs n || (b && links_to r n)) (sym f)

same_filter : (p q : Record → Bool) → ((r : Record) → p r ≡ q r) → (rs : List Record) → filter p rs ≡ filter q rs
same_filter p q h [] = refl
same_filter p q h (r ∷ rs) = λ i. cond (h r i) (r ∷ same_filter p q h rs i) (same_filter p q h rs i)

filter_both : (p q : Record → Bool) → ((r : Record) → T (p r) → T (q r)) → (rs : List Record) → filter p (filter q rs) ≡ filter p rs
filter_both p q h [] = refl
filter_both p q h (r ∷ rs) = by (p r) refl (q r) refl (filter_both p q h rs) where
  by : (a : Bool) → p r ≡ a → (b : Bool) → q r ≡ b → filter p (filter q rs) ≡ filter p rs → filter p (cond b (r ∷ filter q rs) (filter q rs)) ≡ cond a (r ∷ filter p rs) (filter p rs)
  by true e true f again = ap (λ t. cond t (r ∷ filter p (filter q rs)) (filter p (filter q rs))) e ∙ ap (λ rs. r ∷ rs) again
  by true e false f again = absurd (subst T f (h r (subst T (sym e) tt)))
  by false e true f again = ap (λ t. cond t (r ∷ filter p (filter q rs)) (filter p (filter q rs))) e ∙ again
  by false e false f again = again

-- what refs reach of what is left is what they reached
same_pruned : (names : List Bytes) (old : Records) → pruned (pruned_beside names old) ≡ pruned old
unfolding pruned pruned_beside
same_pruned names old =
    let more = reach_more old.refs (tips_of names) old.records in
    let keep = λ (r : Record). is_kept_beside names old r.name in
    ap (λ rs. record { records = rs; refs = old.refs })
    (same_filter _ _ (λ r. fewer old.refs keep old.records (λ q k. more q.name k) r.name) (filter keep old.records)
    ∙ filter_both (λ r. is_reachable old.refs old.records r.name) keep (λ r k. more r.name k) old.records)

-- ---- answers by refs

module _ (name : Kind → Bytes → Bytes) (namer : IsNamer name) (answers : PrunedAnswers name) (names : List Bytes) (old : Records) (sound : IsSound name old) where
  abbrev kept : Records
  kept = pruned_beside names old

  new_sound : IsSound name kept
  new_sound = kept_sound name namer names old sound

  found_left : (base : Bytes) → find_ref (history_of kept) base ≡ find_ref (history_of old) base
  found_left base = sym (answers.refs kept new_sound base) ∙ ap (λ r. find_ref (history_of r) base) (same_pruned names old) ∙ answers.refs old sound base

  gives_old : (base : Bytes) → IsOfRef name (history_of old) base → GivesReached name (history_of old) base
  gives_old base k = answers.by_ref old sound base k.0 k.1 k.2

  gives_new : (base : Bytes) → IsOfRef name (history_of old) base → GivesReached name (history_of kept) base
  gives_new base k = answers.by_ref kept new_sound base k.0 (found_left base ∙ k.1) k.2

  word_has : (h : History) → ((base : Bytes) → IsOfRef name (history_of old) base → GivesReached name h base) → (w : RangeWord) → HasRefs name (history_of old) w → HasReached name h w
  word_has h f (WithAncestors r) k = f r.base k
  word_has h f (WithoutAncestors r) k = f r.base k
  word_has h f (Between a b) k = (f a.base k.0, f b.base k.1)
  word_has h f (Apart a b) k = (f a.base k.0, f b.base k.1)
  word_has h f (AllParents r) k = f r.base k
  word_has h f (Alone r) k = f r.base k
  word_has h f (WithoutOne r n) k = f r.base k

  words_have : (h : History) → ((base : Bytes) → IsOfRef name (history_of old) base → GivesReached name h base) → (ws : List RangeWord) → AllByRecursion (HasRefs name (history_of old)) ws → AllByRecursion (HasReached name h) ws
  words_have h f [] k = tt
  words_have h f (w ∷ ws) k = (word_has h f w k.0, words_have h f ws k.1)

  by_refs : AnswersByRefs name old kept
  by_refs = record {
    revisions = λ r k. sym (answers.revisions kept new_sound r (gives_new r.base k)) ∙ ap (λ h. denoted name (history_of h) r) (same_pruned names old) ∙ answers.revisions old sound r (gives_old r.base k);
    ranges = λ ws k.
        sym (answers.ranges kept new_sound ws (words_have (history_of kept) gives_new ws k)) ∙ ap (λ h. listed name (history_of h) ws) (same_pruned names old)
        ∙ answers.ranges old sound ws (words_have (history_of old) gives_old ws k);
  }

  -- a sound repository with what its refs or the objects of these names reach
  collected_beside : IsCollectedBeside name names old kept
  collected_beside = record {
    left = refl;
    sound = new_sound;
    history = sym (history_kept name namer names old sound);
    reached = reached_kept name namer names old sound;
    named = named_kept name namer names old sound;
    answers = by_refs;
  }

module _ {N : Type 0} (name_of : N → Kind → Bytes → Bytes) where
  -- what is left of it, and how much went
  pub repository_collected : (names : List Bytes) (old new : Repository N) (gone : Pruned) → IsNamer (name_of old.0) → PrunedStands (name_of old.0) → PrunedAnswers (name_of old.0) → IsSound (name_of old.0) old.1
      → new.0 ≡ old.0 → new.1 ≡ pruned_beside names old.1 → gone.objects + length new.1.records ≡ length old.1.records → gone.bytes + weight new.1.records ≡ weight old.1.records
      → CollectsOpened name_of old.0 names old.1 (Ok (new, gone))
  repository_collected names old new gone namer stands answers sound kept left objects bytes = (
    kept,
    subst (IsCollectedBeside (name_of old.0) names old.1) (sym left) (collected_beside (name_of old.0) namer answers names old.1 sound),
    record { objects = objects; bytes = bytes },
    λ none. subst (IsCollected (name_of old.0) old.1) (sym (left ∙ ap (λ ns. pruned_beside ns old.1) none ∙ beside_none old.1)) (is_collected (name_of old.0) old.1 stands answers sound),
  )

  -- the next text is that of what is left
  pub text_collected : {A : Type 0} (old new : Repository N) (gone : Pruned) (o : Outcome A) → CollectsOpened name_of old.0 [] old.1 (Ok (new, gone)) → IsWritten (name_of new.0) new.1 o
      → LeavesCollected (name_of old.0) old.1 o
  text_collected old new gone o h written = inr (new.1, h.3 refl, subst (λ n. IsWritten (name_of n) new.1 o) h.0 written)

-- ---- names to keep

-- names before those of lines
abbrev pub joined : List Bytes → Result (List Bytes) ℕ → Result (List Bytes) ℕ
joined front (Ok names) = Ok (front ++ names)
joined front (Err number) = Err (length front + number)

pub names_none : (given : Result (List Bytes) ℕ) → given ≡ joined [] given
names_none (Ok names) = refl
names_none (Err number) = ap Err (omega arith)

pub names_more : (front : List Bytes) (n : Bytes) (rest : Result (List Bytes) ℕ) → joined front (name_before (Some n) rest) ≡ joined (front ++ n ∷ []) rest
names_more front n (Ok names) = ap Ok (sym (append_assoc front (n ∷ []) names))
names_more front n (Err number) = let l = length-append front (n ∷ []) in ap Err (omega (arith, l))

pub next_text : {A : Type 0} (lines : List (Vec ℕ A)) (i : ℕ) (d : Vec ℕ A) → i < length lines → texts_of (drop i lines) ≡ (get_or lines i d).items ∷ texts_of (drop (i + 1) lines)
next_text lines i d l = ap texts_of (drop_more lines i d l)

-- the same of a line that is known
pub next_of : {A : Type 0} (lines : List (Vec ℕ A)) (i : ℕ) (line : Vec ℕ A) → i < length lines → line ≡ get_or lines i line → texts_of (drop i lines) ≡ line.items ∷ texts_of (drop (i + 1) lines)
next_of {A} lines i line l e = next_text lines i line l ∙ ap (λ (x : Vec ℕ A). x.items ∷ texts_of (drop (i + 1) lines)) (sym e)

pub names_append : (names : List Name) (n : Name) → bytes_of_names (names ++ n ∷ []) ≡ bytes_of_names names ++ n.bytes ∷ []
names_append [] n = refl
names_append (m ∷ names) n = ap (λ ns. m.bytes ∷ ns) (names_append names n)

pub names_long : (names : List Name) → length (bytes_of_names names) ≡ length names
names_long [] = refl
names_long (n ∷ names) = let l = names_long names in omega (arith, l)

module _ {N : Type 0} (name_of : N → Kind → Bytes → Bytes) (namer : N) (stored : Stored Records) (answer : Result ((N × Records) × Pruned) CliFault) where
  -- the names are kept
  pub names_read : {A : Type 0} (given : Result (List Bytes) ℕ) (names : Vec Name A) → GivesNames given (Ok names) → CollectsStored name_of namer (bytes_of_names names.items) stored answer → CollectsNamed name_of namer given stored answer
  names_read given names e h = subst (λ g. CollectsNamed name_of namer g stored answer) (sym e) (inr h)

  -- or a line is none
  pub names_unread : (A : Type 0) (given : Result (List Bytes) ℕ) (why : CliFault) → GivesNames {A = A} given (Err why) → answer ≡ Err why → CollectsNamed name_of namer given stored answer
  names_unread A (Ok names) fault.OutOfMemory h e = inl e
  names_unread A (Err number) fault.OutOfMemory h e = inl e
  names_unread A given (fault.Keep number) h e = subst (λ g. CollectsNamed name_of namer g stored answer) (sym h) (inr e)
  names_unread A given why h e = absurd h
