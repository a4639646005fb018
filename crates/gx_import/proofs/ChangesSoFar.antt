-- Changes made one after the other: what is left of them gives what all give.
use Rattle.std.proofs.Common.{◌≡◌, List, [], ◌∷◌, ◌++◌, map, Ok, Err, refl, sym, ap, subst, ◌∙◌, inl, inr, append_assoc, arith, length, ◌+◌, ℕ}
use Rattle.gx_model.specs.declared.objects.Kind.{Kind}
use Rattle.gx_model.specs.Texts.{Bytes}
use Rattle.gx_model.specs.Faults.{◌>>=◌}
use Rattle.gx_model.specs.Histories.Files.{FileMap}
use Rattle.gx_model.specs.Histories.{Records}
use Rattle.gx_model.specs.Laws.RepositoryLaws.{values_of}
use Rattle.gx_model.specs.Streams.Commands.{Change}
use Rattle.gx_model.specs.Replay.{State, all_changed, changed}
use Rattle.gx_model.specs.declared.faults.Fault.{Fault}
use Rattle.gx_import.specs.declared.tables.Tables.{Tables}
use Rattle.gx_import.specs.Additions.{Clash, blob_added, blobs_added, unless_refused}
use Rattle.gx_import.specs.Answers.{AddsAs}
use Rattle.gx_import.specs.Asking.{AsksByChange, AsksByOne, TellsVain}
use Rattle.gx_import.specs.Explaining.{IsRefused, IsRefusedAt, path_of}
use Rattle.gx_model.specs.Texts.Paths.{Path}
use Rattle.std.specs.Prelude.{Option}
use Rattle.std.proofs.lemmas.List.{length-append, length-map}
use Rattle.gx_import.specs.Standing.{Follows, Stands}
use Rattle.gx_model.specs.Objects.NameMaps.{AreFiles}
use Rattle.gx_import.specs.declared.explanation.Asked.{Asked}
use Rattle.gx_import.proofs.AddedAnswers.{adds_so, adds_then, both_given}
use Rattle.gx_import.proofs.AskedReferences.{vain_as}
use Rattle.gx_import.proofs.Clashes.{change_later, clash_first}

-- the number of a change is that of those before it, and one
counted : (all before : List Change) (c : Change) (after : List Change) (number : ℕ) → all ≡ before ++ c ∷ after → number + length after ≡ length all → number ≡ length before + 1
counted all before c after number e h = omega (arith, ap length e ∙ length-append before (c ∷ after), h)

module _ (name : Kind → Bytes → Bytes) where
  -- changes behind others
  changed_behind : (s : State) (f : FileMap Bytes) (before more : List Change) (r : State × FileMap Bytes) → all_changed name s f before ≡ Ok r → all_changed name s f (before ++ more) ≡ all_changed name r.0 r.1 more
  changed_behind s f [] more r e = let k : (s, f) ≡ r = cc e in ap (λ z. all_changed name z.0 z.1 more) k
  changed_behind s f (c ∷ cs) more r e =
      let h = both_given (changed name s f c) (λ z. all_changed name z.0 z.1 cs) r e in
      ap (λ z. z >>= λ y. all_changed name y.0 y.1 (cs ++ more)) h.1 ∙ changed_behind h.0.0 h.0.1 cs more r h.2

module _ (name : Kind → Bytes → Bytes) {A : Type 0} where
  -- Some of these changes were made from this state and these files on, and these are left. The repository and the names
  -- at hand stand for what came of them, and a clash among what the others add is one among what all add.
  pub record AreMade (old now : Records) (tables : Tables A) (s : State) (f : FileMap Bytes) (all left : List Change) (names : FileMap Bytes) : Type 0 where
    pub state : State
    pub files : FileMap Bytes
    pub before : List Change
    pub parts : all ≡ before ++ left
    pub done : all_changed name s f before ≡ Ok (state, files)
    pub steps : all_changed name s f all ≡ all_changed name state files left
    pub follows : Follows name now tables s state
    pub are : AreFiles name state.history.values files names
    pub clash : Clash name (values_of now) (blobs_added name state files left) → Clash name (values_of old) (blobs_added name s f all)

  -- none were made
  pub none_made : (r : Records) (tables : Tables A) (s : State) → Stands name r tables s → (f names : FileMap Bytes) → AreFiles name s.history.values f names → (all : List Change) → AreMade r r tables s f all all names
  none_made r tables s h f names are all = record { state = s; files = f; before = []; parts = refl; done = refl; steps = refl; follows = record { stands = h; progress = refl; held = refl }; are = are; clash = λ k. k }

  module _ (old now : Records) (tables : Tables A) (s : State) (f : FileMap Bytes) (all : List Change) (c : Change) (left : List Change) (names : FileMap Bytes) (made : AreMade old now tables s f all (c ∷ left) names) where
    values_same : values_of now ≡ made.state.history.values
    values_same = ap (λ h. h.values) made.follows.stands.history

    -- one more
    one_made : (later : Records) (after : FileMap Bytes) (y : State × FileMap Bytes) → changed name made.state made.files c ≡ Ok y → Follows name later tables made.state y.0 → AreFiles name y.0.history.values y.1 after
        → AreMade old later tables s f all left after
    one_made later after y e follows are = record {
      state = y.0;
      files = y.1;
      before = made.before ++ c ∷ [];
      parts = made.parts ∙ sym (append_assoc made.before (c ∷ []) left);
      done = changed_behind name s f made.before (c ∷ []) (made.state, made.files) made.done ∙ ap (λ z. z >>= λ r. all_changed name r.0 r.1 []) e;
      steps = made.steps ∙ ap (λ z. z >>= λ r. all_changed name r.0 r.1 left) e;
      follows = record { stands = follows.stands; progress = follows.progress ∙ made.follows.progress; held = follows.held ∙ made.follows.held };
      are = are;
      clash = λ k. made.clash (
          subst (λ vs. Clash name vs (blobs_added name made.state made.files (c ∷ left))) (sym values_same)
          (subst (λ z. Clash name made.state.history.values (blob_added c ++ unless_refused (λ r. blobs_added name r.0 r.1 left) z)) (sym e)
          (change_later name made.state made.files c y e (blobs_added name y.0 y.1 left)
          (subst (λ vs. Clash name vs (blobs_added name y.0 y.1 left)) (ap (λ h. h.values) follows.stands.history) k)))
          );
    }

    -- one that is refused
    one_refused : {X : Type 0} (Be Is : State × FileMap Bytes → X → Type 0) (e : Fault) → AddsAs (Clash name (values_of now) (blob_added c)) Be (Err e) (changed name made.state made.files c)
        → AddsAs (Clash name (values_of old) (blobs_added name s f all)) Is (Err e) (all_changed name s f all)
    one_refused Be Is e h =
        subst (AddsAs (Clash name (values_of old) (blobs_added name s f all)) Is (Err e)) (sym made.steps)
        (adds_then (Clash name (values_of now) (blob_added c)) (Clash name (values_of old) (blobs_added name s f all)) (λ k. made.clash (clash_first name (values_of now) (blob_added c) _ k)) Be Is e
        (changed name made.state made.files c) (λ r. all_changed name r.0 r.1 left) h)

  -- all were made
  pub all_made : {X : Type 0} (old now : Records) (tables : Tables A) (s : State) (f : FileMap Bytes) (xs left : List X) (shown : X → Change) (names : FileMap Bytes) → AreMade old now tables s f (map shown xs) (map shown left) names → left ≡ []
      → (x : State × FileMap Bytes) × (all_changed name s f (map shown xs) ≡ Ok x) × (Follows name now tables s x.0 × AreFiles name x.0.history.values x.1 names)
  all_made old now tables s f xs left shown names made none =
      ((made.state, made.files), made.steps ∙ ap (λ z. all_changed name made.state made.files (map shown z)) none, (made.follows, made.are))

  module _ {X : Type 0} (old now : Records) (tables : Tables A) (s : State) (f : FileMap Bytes) (xs left right : List X) (shown : X → Change) (here : X) (names : FileMap Bytes) (is : left ≡ here ∷ right) (made : AreMade old now tables s f (map shown xs) (map shown left) names) where
    with_next : AreMade old now tables s f (map shown xs) (shown here ∷ map shown right) names
    with_next = subst (λ ys. AreMade old now tables s f (map shown xs) (map shown ys) names) is made

    -- the next of them is made
    pub next_made : (later : Records) (after : FileMap Bytes)
        → ((t : State) (g : FileMap Bytes) → Stands name now tables t → AreFiles name t.history.values g names → (y : State × FileMap Bytes) × (changed name t g (shown here) ≡ Ok y) × (Follows name later tables t y.0 × AreFiles name y.0.history.values y.1 after))
        → AreMade old later tables s f (map shown xs) (map shown right) after
    next_made later after step =
        let done = step with_next.state with_next.files with_next.follows.stands with_next.are in
        one_made old now tables s f (map shown xs) (shown here) (map shown right) names with_next later after done.0 done.1 done.2.0 done.2.1

    -- or refused
    pub next_refused : {W : Type 0} (Be : State → State × FileMap Bytes → W → Type 0) (Is : State × FileMap Bytes → W → Type 0) (e : Fault)
        → ((t : State) (g : FileMap Bytes) → Stands name now tables t → AreFiles name t.history.values g names → AddsAs (Clash name (values_of now) (blob_added (shown here))) (Be t) (Err e) (changed name t g (shown here)))
        → AddsAs (Clash name (values_of old) (blobs_added name s f (map shown xs))) Is (Err e) (all_changed name s f (map shown xs))
    next_refused Be Is e step =
        one_refused old now tables s f (map shown xs) (shown here) (map shown right) names with_next (Be with_next.state) Is e (step with_next.state with_next.files with_next.follows.stands with_next.are)

    -- and then the number of those that are made and it is told, and its path
    pub next_told : {W : Type 0} (Be : State → State × FileMap Bytes → W → Type 0) (e : Fault) (number : ℕ) (path : Option Path) → number + length right ≡ length xs → path ≡ path_of (shown here)
        → ((t : State) (g : FileMap Bytes) → Stands name now tables t → AreFiles name t.history.values g names → AddsAs (Clash name (values_of now) (blob_added (shown here))) (Be t) (Err e) (changed name t g (shown here)))
        → IsRefusedAt name s f (map shown xs) e number path
    next_told Be e number path many at step =
        let made = with_next in
        let same = ap (λ h. h.values) made.follows.stands.history in
        record {
          before = made.before;
          change = shown here;
          after = map shown right;
          all = made.parts;
          count = counted (map shown xs) made.before (shown here) (map shown right) number made.parts (ap (λ n. number + n) (length-map right shown) ∙ many ∙ sym (length-map xs shown));
          at = at;
          made = (made.state, made.files);
          steps = made.done;
          refused = elim (adds_so (Clash name (values_of now) (blob_added (shown here))) (Be made.state) e (changed name made.state made.files (shown here)) (step made.state made.files made.follows.stands made.are)) as (λ _. IsRefused name made.state made.files (shown here) e) [
            | inl memory ↦ inl memory
            | inr (inl held) ↦ inr (inl (held.0, subst (λ vs. Clash name vs (blob_added (shown here))) same held.1))
            | inr (inr refused) ↦ inr (inr refused)
          ];
        }

    -- and what it asks for is what all ask for
    pub next_vain : {B : Type 0} (e : Fault) (told : Option (Asked B)) → ((t : State) → Stands name now tables t → TellsVain (AsksByOne name t (shown here) e) e told) → TellsVain (AsksByChange name s f (map shown xs) e) e told
    next_vain e told step =
        let made = with_next in
        vain_as (AsksByOne name made.state (shown here) e) (AsksByChange name s f (map shown xs) e) e told
        (λ r k. record { before = made.before; change = shown here; after = map shown right; all = made.parts; made = (made.state, made.files); steps = made.done; asks = k })
        (step made.state made.follows.stands)
