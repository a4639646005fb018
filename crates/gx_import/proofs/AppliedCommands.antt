-- What each command does is the model's step, or its fault; a command that sends nothing leaves the sink as it was.
use Rattle.std.proofs.Common.{◌≡◌, List, [], ◌∷◌, ◌++◌, Option, Result, Ok, Err, refl, sym, subst, ◌∙◌, inl, inr, append_assoc, ap}
use Rattle.std.specs.Prelude.{codes}
use Rattle.std.proofs.lemmas.List.{append-nil}
use Rattle.gx_model.specs.declared.objects.Kind.{Kind}
use Rattle.gx_model.specs.Texts.{Bytes}
use Rattle.gx_model.specs.Streams.Commands.{Command, Progress}
use Rattle.gx_model.specs.Histories.{Records}
use Rattle.gx_model.specs.Laws.RepositoryLaws.{values_of}
use Rattle.gx_model.specs.Histories.Values.{Value}
use Rattle.gx_model.specs.Replay.{State, step}
use Rattle.gx_model.specs.Texts.Sinks.{Taken}
use Rattle.gx_import.specs.Additions.{Clash, values_added}
use Rattle.gx_import.specs.Answers.{AddsAs, GivesAs}
use Rattle.gx_import.specs.Applying.{Applies, IsProgress}
use Rattle.gx_import.specs.Replaying.{Writes}
use Rattle.gx_import.specs.Standing.{Follows, Stands}
use Rattle.gx_model.specs.declared.faults.Fault.{Fault}
use Rattle.gx_model.specs.declared.faults.Fault.TheVariants.{OutOfMemory, WriteFailed, NameHeld}
use Rattle.gx_import.specs.declared.tables.Tables.{Tables}
use Rattle.gx_model.proofs.Texts.SentTexts.{took_nothing}

-- the state after a progress
abbrev spoken : State → Bytes → State
spoken s x = record s { progress = s.progress ++ codes "progress " ++ x ++ 10 ∷ [] }

is_spoken : (s : State) (x : Bytes) → IsProgress s (spoken s x) (codes "progress " ++ x ++ 10 ∷ [])
is_spoken s x = record {
  progress = ap (λ z. z ++ 10 ∷ []) (append_assoc s.progress (codes "progress ") x) ∙ append_assoc s.progress (codes "progress " ++ x) (10 ∷ []);
  held = refl;
}

module _ (name : Kind → Bytes → Bytes) {A : Type 0} where
  -- a state that follows is one after the empty text
  pub followed : (old new : Records) (tables : Tables A) (s : State) (c : Command) (was : Option Taken) (t : State) → step name s c ≡ Ok t → Follows name new tables s t → Applies name old new tables s c was was (Ok tt)
  followed old new tables s c was t e h = (t, [], e, h.stands, record { progress = h.progress ∙ sym (append-nil s.progress); held = h.held }, took_nothing was)

  -- a command that may add values
  pub added_as : (old new : Records) (tables : Tables A) (s : State) (c : Command) (was : Option Taken) (clash : Type 0) → (clash → Clash name s.history.values (values_added name s c)) → (r : Result (Unit {0}) Fault)
      → AddsAs clash (λ t _. Follows name new tables s t) r (step name s c) → Applies name old new tables s c was was r
  added_as old new tables s c was clash f (Ok x) h = followed old new tables s c was h.0 h.1 h.2
  added_as old new tables s c was clash f (Err OutOfMemory) h = refl
  added_as old new tables s c was clash f (Err WriteFailed) h = inl (h, refl)
  added_as old new tables s c was clash f (Err NameHeld) h = (inr (f h), refl)
  added_as old new tables s c was clash f (Err e) h = (h, refl)

  -- one that adds none
  pub given_as : (old new : Records) (tables : Tables A) (s : State) (c : Command) (was : Option Taken) (r : Result (Unit {0}) Fault)
      → GivesAs (λ t _. Follows name new tables s t) r (step name s c) → Applies name old new tables s c was was r
  given_as old new tables s c was (Ok x) h = followed old new tables s c was h.0 h.1 h.2
  given_as old new tables s c was (Err OutOfMemory) h = refl
  given_as old new tables s c was (Err WriteFailed) h = inl (h, refl)
  given_as old new tables s c was (Err NameHeld) h = (inl h, refl)
  given_as old new tables s c was (Err e) h = (h, refl)

  -- the values of the repository are those of the state
  pub clash_here : (old : Records) (tables : Tables A) (s : State) → Stands name old tables s → (values : List Value) → Clash name (values_of old) values → Clash name s.history.values values
  clash_here old tables s h values k = subst (λ held. Clash name held values) (ap (λ z. z.values) h.history) k

  still_stands : (old : Records) (tables : Tables A) (s : State) (x : Bytes) → Stands name old tables s → Stands name old tables (spoken s x)
  still_stands old tables s x h = record {
    history = h.history;
    marks = h.marks;
    branches = h.branches;
    tags = h.tags;
    ref_names = h.ref_names;
    own = h.own;
    forced = h.forced;
    published = h.published;
  }

  -- a command that changes nothing
  pub unchanged : (old : Records) (tables : Tables A) (s : State) (c : Command) (was : Option Taken) → Stands name old tables s → step name s c ≡ Ok s → Applies name old old tables s c was was (Ok tt)
  unchanged old tables s c was h e = followed old old tables s c was s e (record { stands = h; progress = refl; held = refl })

  -- a progress, whose line is written
  pub progress_as : (old : Records) (tables : Tables A) (s : State) (x : Bytes) (was now : Option Taken) (r : Result (Unit {0}) Fault) → Stands name old tables s
      → Writes was now (codes "progress " ++ x ++ 10 ∷ []) r → Applies name old old tables s (Progress x) was now r
  progress_as old tables s x was now (Ok u) h k = (spoken s x, codes "progress " ++ x ++ 10 ∷ [], refl, still_stands old tables s x h, is_spoken s x, k)
  progress_as old tables s x was now (Err e) h k =
      subst (λ f. Applies name old old tables s (Progress x) was now (Err f)) (sym k.0) (inr (spoken s x, x, refl, refl, is_spoken s x, k.1))
