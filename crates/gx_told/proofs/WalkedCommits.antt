-- What is printed of the commits that a walk lists, one after the other.
use Rattle.std.proofs.Common.{◌≡◌, ◌∙◌, ℕ, Bool, true, false, refl, sym, ap, subst, List, [], ◌∷◌, ◌++◌, length, reverse, map, Option, Some, None, Result, Ok, Err}
use Rattle.std.specs.Prelude.{IfSome, if◌then◌else◌}
use Rattle.std.specs.List.{flat_map}
use Rattle.gx_model.specs.declared.objects.Kind.{Kind}
use Rattle.gx_model.specs.declared.objects.Kind.TheVariants as kinds
use Rattle.gx_object.specs.declared.name.Name.{Name}
use Rattle.gx_model.specs.Histories.{Records}
use Rattle.gx_model.specs.Histories.Values.{Commit}
use Rattle.gx_model.specs.Objects.{IsNamer}
use Rattle.gx_model.specs.Records.Sound.{IsSound}
use Rattle.gx_model.specs.Texts.{Bytes}
use Rattle.gx_model.specs.Texts.Sinks.{Taken, Took}
use Rattle.gx_model.proofs.Texts.SentTexts.{IsLeft, all_left, less_left, none_left}
use Rattle.gx_asks.specs.declared.question.LogOptions.{LogOptions}
use Rattle.gx_print.specs.Logs.{AreCommits, chosen, commits_text, count_text, entries_text, entry_of, entry_of_parts, gap, next_entry, turned}
use Rattle.gx_questions.specs.Objects.{IsCommitAt}
use Rattle.gx_ranges.specs.Listings.{AreTipsOf, Listed, ListsNext, StillLists}
use Rattle.gx_rev.specs.Objects.{IsHeldAs, commit_at}
use Rattle.gx_ranges.specs.declared.walking.CommitWalk.{CommitWalk}
use Rattle.gx_objects.specs.declared.fault.LookFault.{LookFault}
use Rattle.gx_objects.specs.declared.fault.LookFault.TheVariants as look
use Rattle.gx_told.specs.Faults.{of_look}
use Rattle.gx_told.specs.Choosing.{AreSoMany, AreTaken, StillTakes, Takes, choice_of, taken_of}
use Rattle.gx_told.specs.declared.log.choices.Choice.{Choice}
use Rattle.gx_told.specs.Logging.{PrintsTaken, PrintsWalk}
use Rattle.gx_told.specs.Printing.{PrintsText}
use Rattle.gx_told.specs.declared.fault.ToldFault.{ToldFault}
use Rattle.std.proofs.lemmas.List.{length-reverse}
use Rattle.gx_print.proofs.ListedCommits.{all_arranged, map_arranged}
use Rattle.gx_told.proofs.CommitLines.{entry_made}
use Rattle.gx_told.proofs.Prints.{look_stops}
use Rattle.gx_told.proofs.Pieces.{cut_short}
use Rattle.gx_told.proofs.TakenCommits.{FoundFirst, Leads, leads_found, leads_on, some_taken, takes_some}
use Rattle.gx_told.proofs.Tellings.{both_told, map_told}

module _ (name : Kind → Bytes → Bytes) (options : LogOptions) where
  -- commits with a text in front of the first
  abbrev pub behind : Bytes → List Commit → Bytes
  behind between [] = []
  behind between (c ∷ cs) = (between ++ entry_of name options c) ++ flat_map (next_entry name options) cs

  all_behind : (commits : List Commit) → entries_text name options commits ≡ behind [] commits
  all_behind [] = refl
  all_behind (c ∷ cs) = refl

  gap_behind : (commits : List Commit) → flat_map (next_entry name options) commits ≡ behind (gap options.format) commits
  gap_behind [] = refl
  gap_behind (c ∷ cs) = refl

  module _ (was : Option Taken) where
    -- these commits are printed up to the others
    abbrev pub Prints : Bytes → Option Taken → Records → List Commit → List Commit → Type 0
    Prints between mid r commits rest = IsLeft (entries_text name options commits) was mid (behind between rest)

    pub none_printed : (between : Bytes) → between ≡ [] → (r : Records) (commits : List Commit) → Prints between was r commits commits
    none_printed between e r commits =
        subst (IsLeft (entries_text name options commits) was was) (all_behind commits ∙ ap (λ z. behind z commits) (sym e)) (all_left (entries_text name options commits) was)

    module _ {A : Type 0} (stands : ℕ → ℕ) (old : CommitWalk A) where
      -- the commits that are printed, and those that are left
      abbrev pub PrintsSome : CommitWalk A → Choice → Bytes → Option Taken → Records → Type 0
      PrintsSome walk choice between mid = Leads name stands old (choice_of options) (Prints between mid) walk choice

      module _ (walk new : CommitWalk A) (choice next : Choice) (between : Bytes) (mid : Option Taken) (namer : IsNamer name) (listed : Listed) where
        abbrev Entry : Bytes
        Entry = entry_of_parts options listed.0.bytes listed.1.1

        -- a commit that is taken is what is left first
        first_left : (r : Records) → IsSound name r → (commits rest : List Commit) → IsHeldAs kinds.Commit r listed.0 → IsCommitAt name listed.0 r listed.1 → Prints between mid r commits (commit_at r listed.0 ∷ rest)
            → IsLeft (entries_text name options commits) was mid ((between ++ Entry) ++ flat_map (next_entry name options) rest)
        first_left r sound commits rest held is q =
            let made = entry_made name namer r sound options listed.0 listed.1.1 held is.parts in
            subst (IsLeft (entries_text name options commits) was mid) (ap (λ e. (between ++ e) ++ flat_map (next_entry name options) rest) (sym made)) q

        pub one_printed : (told : Option Records) (now : Option Taken) (after : Bytes) → after ≡ gap options.format → Takes choice next listed.1.1 true → IfSome told (IsSound name) → IfSome told (PrintsSome walk choice between mid)
            → IfSome told (λ r. ListsNext name stands walk new r (Some listed)) → Took mid now (between ++ Entry) → IfSome told (PrintsSome new next after now)
        one_printed told now after e t sound h f k =
            leads_on name stands old (choice_of options) (Prints between mid) (Prints after now) told walk new choice next listed t h f
            (map_told told (IsSound name) _ (λ r s commits rest held is q.
            subst (IsLeft (entries_text name options commits) was now) (gap_behind rest ∙ ap (λ z. behind z rest) (sym e))
            (less_left (entries_text name options commits) was mid now (between ++ Entry) (flat_map (next_entry name options) rest) (first_left r s commits rest held is q) k)) sound)

        pub one_stops : (told : Option Records) (now : Option Taken) (fault : ToldFault) → Takes choice next listed.1.1 true → IfSome told (IsSound name) → IfSome told (PrintsSome walk choice between mid)
            → IfSome told (λ r. ListsNext name stands walk new r (Some listed)) → PrintsText (between ++ Entry) mid now (Err fault) → IfSome told (λ r. PrintsTaken name stands options old was now r (Err fault))
        one_stops told now fault t sound h f k =
            both_told told (IsSound name) (FoundFirst name stands old (choice_of options) (Prints between mid) new next listed) _ (λ r s l commits c.
            let p = l commits c in
            cut_short was mid now (entries_text name options commits) (between ++ Entry) _ fault (first_left r s commits p.0 p.2 p.3 p.4) k) sound (leads_found name stands old (choice_of options) (Prints between mid) told walk new choice next listed t h f)

      -- nothing is left
      pub all_printed : (told : Option Records) (between : Bytes) (mid : Option Taken) → IfSome told (λ r. (commits : List Commit) → StillTakes name stands r old (choice_of options) commits → Prints between mid r commits [])
          → IfSome told (λ r. PrintsTaken name stands options old was mid r (Ok tt))
      all_printed told between mid = map_told told _ (λ r. PrintsTaken name stands options old was mid r (Ok tt)) (λ r h commits s. none_left (entries_text name options commits) was mid [] refl (h commits s))

      -- a walk that stops leaves a front
      pub walk_stops : (told : Option Records) (walk : CommitWalk A) (choice : Choice) (between : Bytes) (mid : Option Taken) (fault : LookFault) → (fault ≡ look.Damaged → told ≡ None) → IfSome told (PrintsSome walk choice between mid)
          → IfSome told (λ r. PrintsTaken name stands options old was mid r (Err (of_look fault)))
      walk_stops None walk choice between mid fault d h = tt
      walk_stops (Some r) walk choice between mid look.Damaged d h = absurd (cc (d refl))
      walk_stops (Some r) walk choice between mid look.OutOfMemory d h = λ commits s. let p = h.1 commits s in (p.so.front, behind between p.rest, p.so.parts, p.so.took)
      walk_stops (Some r) walk choice between mid look.ReadFailed d h = λ commits s. let p = h.1 commits s in (p.so.front, behind between p.rest, p.so.parts, p.so.took)

-- ---- how a walk is printed

module _ {A : Type 0} (name : Kind → Bytes → Bytes) (options : LogOptions) (stands : ℕ → ℕ) (walk : CommitWalk A) (was : Option Taken) where
  -- what is listed is what is still to be taken
  all_listed : (r : Records) (commits : List Commit) → StillLists stands r walk commits → StillTakes name stands r walk (choice_of options) (taken_of name (choice_of options) commits)
  all_listed r commits l = record { listed = commits; still = l; taken = refl }

  entries_shown : (xs : List Commit) → options.count ≡ false → commits_text name options xs ≡ entries_text name options xs
  entries_shown xs c = ap (λ b. if b then count_text (length xs) else entries_text name options xs) c

  count_shown : (xs : List Commit) → options.count ≡ true → commits_text name options xs ≡ count_text (length xs)
  count_shown xs c = ap (λ b. if b then count_text (length xs) else entries_text name options xs) c

  -- commits that aren't turned round
  pub straight_printed : options.count ≡ false → options.reverse ≡ false → (told : Option Records) (now : Option Taken) (answer : Result (Unit {0}) ToldFault) → IfSome told (λ r. PrintsTaken name stands options walk was now r answer)
      → IfSome told (λ r. PrintsWalk name stands options walk was now r answer)
  straight_printed c e told now answer = map_told told _ (λ r. PrintsWalk name stands options walk was now r answer) (λ r h commits l.
      let taken = taken_of name (choice_of options) commits in
      let straight : chosen name options commits ≡ taken = ap (λ b. turned b taken) e in
      subst (λ text. PrintsText text was now answer) (sym (entries_shown (chosen name options commits) c ∙ ap (entries_text name options) straight)) (h taken (all_listed r commits l)))

  -- commits that are turned round are held
  pub turned_held : (told : Option Records) (ns : List Name) → IfSome told (λ r. AreTipsOf stands r walk) → IfSome told (λ r. AreTaken name stands walk (choice_of options) r ns)
      → IfSome told (λ r. AreCommits r (turned options.reverse ns))
  turned_held told ns = both_told told (λ r. AreTipsOf stands r walk) (λ r. AreTaken name stands walk (choice_of options) r ns) (λ r. AreCommits r (turned options.reverse ns)) (λ r t h.
      all_arranged (IsHeldAs kinds.Commit r) options.reverse None ns (h (some_taken name stands r walk (choice_of options)) (takes_some name stands r walk (choice_of options) t)).1)

  -- and are printed so
  pub turned_printed : options.count ≡ false → (told : Option Records) (ns : List Name) (now : Option Taken) (answer : Result (Unit {0}) ToldFault) → IfSome told (λ r. AreTaken name stands walk (choice_of options) r ns)
      → IfSome told (λ r. PrintsText (entries_text name options (map (commit_at r) (turned options.reverse ns))) was now answer) → IfSome told (λ r. PrintsWalk name stands options walk was now r answer)
  turned_printed c told ns now answer = both_told told (λ r. AreTaken name stands walk (choice_of options) r ns) _ (λ r. PrintsWalk name stands options walk was now r answer) (λ r h k commits l.
      let taken = (h (taken_of name (choice_of options) commits) (all_listed r commits l)).0 in
      let turned_back = map_arranged (commit_at r) options.reverse None ns ∙ ap (turned options.reverse) (sym taken) in
      subst (λ text. PrintsText text was now answer) (ap (entries_text name options) turned_back ∙ sym (entries_shown (chosen name options commits) c)) k)

  -- how many they are is printed
  pub count_printed : options.count ≡ true → (told : Option Records) (count : ℕ) (now : Option Taken) (answer : Result (Unit {0}) ToldFault) → IfSome told (λ r. AreSoMany name stands walk (choice_of options) r count)
      → PrintsText (count_text count) was now answer → IfSome told (λ r. PrintsWalk name stands options walk was now r answer)
  count_printed c told count now answer h k = map_told told (λ r. AreSoMany name stands walk (choice_of options) r count) (λ r. PrintsWalk name stands options walk was now r answer) (λ r many commits l.
      let taken = taken_of name (choice_of options) commits in
      let same = many taken (all_listed r commits l) ∙ sym (turned_long options.reverse taken) in
      subst (λ text. PrintsText text was now answer) (ap count_text same ∙ sym (count_shown (chosen name options commits) c)) k) h
    where
      turned_long : (b : Bool) (xs : List Commit) → length (turned b xs) ≡ length xs
      turned_long true xs = length-reverse xs
      turned_long false xs = refl

  -- a walk that stops before anything went out
  pub chosen_stops : (told : Option Records) (fault : LookFault) → (fault ≡ look.Damaged → told ≡ None) → IfSome told (λ r. PrintsWalk name stands options walk was was r (Err (of_look fault)))
  chosen_stops told fault d = map_told told _ (λ r. PrintsWalk name stands options walk was was r (Err (of_look fault))) (λ r h commits l. h commits) (by told d)
    where
      by : (told : Option Records) → (fault ≡ look.Damaged → told ≡ None) → IfSome told (λ r. (commits : List Commit) → PrintsText (commits_text name options (chosen name options commits)) was was (Err (of_look fault)))
      by None d = tt
      by (Some r) d = λ commits. look_stops (Some r) (λ r. commits_text name options (chosen name options commits)) was fault d
