-- What is told of what differs between two revisions, or why a word is refused.
use Rattle.std.proofs.Common.{◌≡◌, ◌∙◌, [], Bool, true, false, List, Option, None, Some, Result, Ok, Err, refl, sym, ap, subst}
use Rattle.std.specs.Prelude.{IfSome}
use Rattle.std.specs.List.{AllByRecursion}
use Rattle.gx_model.specs.declared.objects.Kind.{Kind}
use Rattle.gx_model.specs.Faults.{Given, ◌>>=◌}
use Rattle.gx_model.specs.Histories.Files.{FileMap}
use Rattle.gx_model.specs.Histories.{Records}
use Rattle.gx_model.specs.Records.HistoryOf.{named_values}
use Rattle.gx_model.specs.Texts.{Bytes}
use Rattle.gx_model.specs.Texts.Paths.{path_text}
use Rattle.gx_model.specs.Texts.Sinks.{Taken}
use Rattle.gx_model.proofs.Texts.SentTexts.{took_nothing}
use Rattle.gx_object.specs.declared.name.Name.{Name}
use Rattle.gx_tree.proofs.NamedFiles.{each-filter}
use Rattle.gx_asks.specs.declared.question.DiffOptions.{DiffOptions}
use Rattle.gx_differences.specs.Listed.{AreListed, HasLeaves, HaveLeaves, Standing, shown_differences}
use Rattle.gx_differences.specs.declared.listed.Difference.{Difference}
use Rattle.gx_diff.specs.Lines.{diff_text, ends_well}
use Rattle.gx_diff.specs.Paths.{ask_for, asked_of}
use Rattle.gx_patch.proofs.Some.{some_patches}
use Rattle.gx_questions.specs.Answers.{Refuses, RefusesUntold}
use Rattle.gx_questions.specs.declared.fault.AskFault.{AskFault}
use Rattle.gx_questions.specs.declared.fault.AskFault.TheVariants as ask
use Rattle.gx_print.specs.Stored.{Refusal}
use Rattle.gx_print.proofs.ReadSteps.{nothing_in_front}
use Rattle.gx_told.specs.Differing.{IsGivenText, IsText, IsTextBy, PrintsPatches, TellsDiff, TellsFound, TellsText, TellsTrees, both_words, is_patch}
use Rattle.gx_told.specs.Faults.{refused_at}
use Rattle.gx_told.specs.declared.fault.ToldFault.{ToldFault}
use Rattle.gx_told.proofs.Prints.{given_text, none_printed, none_sent}
use Rattle.gx_told.proofs.Tellings.{both_told, map_told}

-- ---- texts

module _ (r : Records) (options : DiffOptions) where
  -- something can be printed of whatever differs
  pub some_text : (ss : List Standing) → (text : Bytes) × IsText r options ss text
  some_text ss = by (is_patch options.form)
    where
      by : (b : Bool) → (text : Bytes) × IsTextBy r options b ss text
      by true = some_patches (named_values r.records) ss
      by false = (diff_text options ss, refl)

  pub some_given : (given : Result (List Standing) Refusal) → (text : Bytes) × IsGivenText r options given text
  some_given (Ok ss) = some_text ss
  some_given (Err refusal) = ([], tt)

  -- what was found is told as patches
  pub found_patches : (ss : List Standing) (was now : Option Taken) (answer : Bool) → is_patch options.form ≡ true → answer ≡ ends_well options ss → PrintsPatches r ss was now (Ok tt) → TellsFound r options ss was now (Ok answer)
  found_patches ss was now answer is e h = (e, (h.0, subst (λ b. IsTextBy r options b ss h.0) (sym is) h.1, h.2))

  pub found_stopped : (ss : List Standing) (was now : Option Taken) (fault : ToldFault) → is_patch options.form ≡ true → PrintsPatches r ss was now (Err fault) → TellsFound r options ss was now (Err fault)
  found_stopped ss was now fault is h = (h.0, subst (λ b. IsTextBy r options b ss h.0) (sym is) h.1, h.2)

  -- or in another form
  pub found_lines : (ss : List Standing) (was now : Option Taken) (answer : Result Bool ToldFault) → is_patch options.form ≡ false → TellsText options ss was now answer → TellsFound r options ss was now answer
  found_lines ss was now (Ok answer) is h = (h.0, (diff_text options ss, subst (λ b. IsTextBy r options b ss (diff_text options ss)) (sym is) refl, h.1))
  found_lines ss was now (Err fault) is h = (diff_text options ss, subst (λ b. IsTextBy r options b ss (diff_text options ss)) (sym is) refl, h)

-- ---- what is found

module _ (options : DiffOptions) (told : Option Records) where
  -- what differs isn't found
  pub list_stops : (X : Type 0) (ss : Records → List Standing) (was : Option Taken) (fault : AskFault) → RefusesUntold {X = X} told (Err fault) → IfSome told (λ r. TellsFound r options (ss r) was was (Err (refused_at 1 fault)))
  list_stops X ss was = by told
    where
      by : (told : Option Records) (fault : AskFault) → RefusesUntold {X = X} told (Err fault) → IfSome told (λ r. TellsFound r options (ss r) was was (Err (refused_at 1 fault)))
      by None fault h = tt
      by (Some r) ask.OutOfMemory h = let t = some_text r options (ss r) in (t.0, t.1, none_sent t.0 was)
      by (Some r) ask.ReadFailed h = let t = some_text r options (ss r) in (t.0, t.1, ([], t.0, refl, took_nothing was))
      by (Some r) ask.Damaged h = absurd (cc h)
      by (Some r) (ask.Revision kind) h = absurd h

-- what is asked for of what is held is held
pub leaves_asked : {A : Type 0} (told : Option Records) (asked : List Bytes) (found left : List (Difference A)) → shown_differences left ≡ asked_of asked (shown_differences found) → IfSome told (HaveLeaves found) → IfSome told (HaveLeaves left)
leaves_asked told asked found left e =
    map_told told (HaveLeaves found) (HaveLeaves left)
    (λ r h. subst (AllByRecursion (λ s. HasLeaves s r)) (sym e) (each-filter (λ s. HasLeaves s r) (λ s. ask_for asked (path_text s.0)) (shown_differences found) h))

-- what was found is what differs between two trees
pub trees_told : {A : Type 0} (name : Kind → Bytes → Bytes) (told : Option Records) (options : DiffOptions) (old new : Name) (asked : List Bytes) (found left : List (Difference A)) (was now : Option Taken) (answer : Result Bool ToldFault)
    → shown_differences left ≡ asked_of asked (shown_differences found) → IfSome told (λ r. AreListed name (Some old) (Some new) r found) → IfSome told (λ r. TellsFound r options (shown_differences left) was now answer)
    → IfSome told (λ r. TellsTrees r options name old new asked was now answer)
trees_told name told options old new asked found left was now answer e =
    both_told told (λ r. AreListed name (Some old) (Some new) r found) (λ r. TellsFound r options (shown_differences left) was now answer) (λ r. TellsTrees r options name old new asked was now answer)
    (λ r h k. subst (λ ss. TellsFound r options ss was now answer) (e ∙ ap (asked_of asked) h) k)

-- ---- two words

module _ (old new : Records → Given (FileMap Bytes)) (give : Records → FileMap Bytes → FileMap Bytes → List Standing) (options : DiffOptions) (told : Option Records) (was : Option Taken) where
  -- what both words give
  abbrev Both : Records → Option Taken → Result Bool ToldFault → Type 0
  Both r now answer = TellsDiff r options (both_words (old r) (new r) (give r)) was now answer

  -- nothing went out, whatever they give
  none_told : (r : Records) → Both r was (Err (refused_at 1 ask.OutOfMemory))
  none_told r =
      let t = some_given r options (both_words (old r) (new r) (give r)) in
      (t.0, t.1, none_printed (both_words (old r) (new r) (give r) >>= λ ss. Ok t.0) was)

  none_read : (r : Records) → Both r was (Err (refused_at 1 ask.ReadFailed))
  none_read r =
      let t = some_given r options (both_words (old r) (new r) (give r)) in
      (t.0, t.1, ([], nothing_in_front (both_words (old r) (new r) (give r) >>= λ ss. Ok t.0), took_nothing was))

  -- the first word is refused
  pub first_refused : (fault : AskFault) → Refuses told old fault → IfSome told (λ r. Both r was (Err (refused_at 1 fault)))
  first_refused = by told
    where
      by : (told : Option Records) (fault : AskFault) → Refuses told old fault → IfSome told (λ r. Both r was (Err (refused_at 1 fault)))
      by None fault h = tt
      by (Some r) ask.OutOfMemory h = none_told r
      by (Some r) ask.ReadFailed h = none_read r
      by (Some r) ask.Damaged h = absurd (cc h)
      by (Some r) (ask.Revision kind) h =
          let t = some_given r options (both_words (old r) (new r) (give r)) in
          (t.0, t.1, (ap (λ g. both_words g (new r) (give r) >>= λ ss. Ok t.0) h, took_nothing was))

  -- the second one is
  pub second_refused : (files : Records → FileMap Bytes) (fault : AskFault) → IfSome told (λ r. old r ≡ Ok (files r)) → Refuses told new fault → IfSome told (λ r. Both r was (Err (refused_at 2 fault)))
  second_refused files = by told
    where
      by : (told : Option Records) (fault : AskFault) → IfSome told (λ r. old r ≡ Ok (files r)) → Refuses told new fault → IfSome told (λ r. Both r was (Err (refused_at 2 fault)))
      by None fault k h = tt
      by (Some r) ask.OutOfMemory k h = none_told r
      by (Some r) ask.ReadFailed k h = none_read r
      by (Some r) ask.Damaged k h = absurd (cc h)
      by (Some r) (ask.Revision kind) k h =
          let t = some_given r options (both_words (old r) (new r) (give r)) in
          (t.0, t.1, ((λ i. both_words (k i) (h i) (give r) >>= λ ss. Ok t.0), took_nothing was))

  -- both give trees
  pub both_given : (files others : Records → FileMap Bytes) (now : Option Taken) (answer : Result Bool ToldFault) → IfSome told (λ r. old r ≡ Ok (files r)) → IfSome told (λ r. new r ≡ Ok (others r))
      → IfSome told (λ r. TellsFound r options (give r (files r) (others r)) was now answer) → IfSome told (λ r. Both r now answer)
  both_given files others now = by told
    where
      by : (told : Option Records) (answer : Result Bool ToldFault) → IfSome told (λ r. old r ≡ Ok (files r)) → IfSome told (λ r. new r ≡ Ok (others r))
          → IfSome told (λ r. TellsFound r options (give r (files r) (others r)) was now answer) → IfSome told (λ r. Both r now answer)
      by None answer k h t = tt
      by (Some r) (Ok answer) k h t = (give r (files r) (others r), (λ i. both_words (k i) (h i) (give r)), t.0, t.1)
      by (Some r) (Err fault) k h t = (
        t.0,
        subst (λ g. IsGivenText r options g t.0) (sym (λ i. both_words (k i) (h i) (give r))) t.1,
        given_text (both_words (old r) (new r) (give r) >>= λ ss. Ok t.0) t.0 was now (Err fault) (λ i. both_words (k i) (h i) (give r) >>= λ ss. Ok t.0) t.2,
      )
