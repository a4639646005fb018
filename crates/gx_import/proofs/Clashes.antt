-- A clash of the values of one change, or of those behind them, is one of all.
use Rattle.std.proofs.Common.{◌≡◌, ℕ, cond, true, false, List, [], ◌∷◌, ◌++◌, map, None, Result, Ok, Err, refl, sym, ap, subst, ◌∙◌}
use Rattle.gx_model.specs.declared.objects.Kind.{Kind}
use Rattle.gx_model.specs.declared.objects.Mode.{Mode}
use Rattle.gx_model.specs.declared.objects.Mode.TheVariants.{File, Exec, Link, Gitlink, Dir}
use Rattle.gx_model.specs.declared.faults.Fault.{Fault}
use Rattle.gx_model.specs.Texts.{Bytes}
use Rattle.gx_model.specs.Histories.Files.{FileMap}
use Rattle.gx_model.specs.Faults.{◌>>=◌}
use Rattle.gx_model.specs.Histories.Values.{Value, blob_value}
use Rattle.gx_model.specs.Histories.{IsIn, with_one}
use Rattle.gx_model.specs.Records.Growth.{clashes, with_values}
use Rattle.gx_model.specs.Histories.Edits.{copied, modified, removed, renamed}
use Rattle.gx_model.specs.Streams.Commands.{Change, Clear, Copy, DataRef, Inline, Mark, Modify, Object, Remove, Rename}
use Rattle.gx_model.specs.Revisions.Denotation.{base_value}
use Rattle.gx_model.specs.Texts.Digits.{lower}
use Rattle.gx_model.specs.Replay.{State, added, at, blob_bytes, changed, content}
use Rattle.gx_import.specs.Additions.{Clash, blob_added, content_added}
use Rattle.gx_import.proofs.AddedAnswers.{both_given}
use Rattle.gx_import.proofs.Standings.{one_keeps}

-- the state with the blob that a file's content adds
abbrev pub with_content : DataRef → State → State
with_content (Inline x) s = added (blob_value x) s
with_content (Mark n) s = s
with_content (Object x) s = s

pub content_keeps : (d : DataRef) (s : State) (u : Value) → IsIn s.history.values u → IsIn (with_content d s).history.values u
content_keeps (Inline x) s u h = one_keeps s.history.values (blob_value x) u h
content_keeps (Mark n) s u h = h
content_keeps (Object x) s u h = h

kept_state : {X : Type 0} (given : Result X Fault) (s : State) (r : State × X) → (given >>= λ x. Ok (s, x)) ≡ Ok r → r.0 ≡ s
kept_state (Ok x) s r h = let e : (s, x) ≡ r = cc h in ap (λ z. z.0) (sym e)
kept_state (Err f) s r h = absurd (cc h)

module _ (name : Kind → Bytes → Bytes) where
  -- of the first values
  pub clash_first : (vs xs ys : List Value) → Clash name vs xs → Clash name vs (xs ++ ys)
  clash_first vs [] ys h = absurd (cc h)
  clash_first vs (x ∷ xs) ys h =
      elim (clashes name vs x) as (λ b. cond b None (with_values name (with_one vs x) xs) ≡ None → cond b None (with_values name (with_one vs x) (xs ++ ys)) ≡ None) [
        | true ↦ λ e. refl
        | false ↦ λ e. clash_first (with_one vs x) xs ys e
      ] h

  -- of those behind one that is added
  clash_behind : (vs : List Value) (w : Value) (ys : List Value) → Clash name (with_one vs w) ys → Clash name vs (w ∷ ys)
  clash_behind vs w ys h = elim (clashes name vs w) as (λ b. cond b None (with_values name (with_one vs w) ys) ≡ None) [ true ↦ refl | false ↦ h ]

  -- ---- the state that a change gives

  abbrev marked_content : State → ℕ → Result (State × Bytes) Fault
  marked_content s n = at s n >>= λ v. blob_bytes v >>= λ x. Ok (s, x)

  content_of_mark : (s : State) (m : Mode) (n : ℕ) → content name s m (Mark n) ≡ marked_content s n
  content_of_mark s File n = refl
  content_of_mark s Exec n = refl
  content_of_mark s Link n = refl
  content_of_mark s Gitlink n = refl
  content_of_mark s Dir n = refl

  pub content_inline : (s : State) (m : Mode) (x : Bytes) → content name s m (Inline x) ≡ Ok (added (blob_value x) s, x)
  content_inline s File x = refl
  content_inline s Exec x = refl
  content_inline s Link x = refl
  content_inline s Gitlink x = refl
  content_inline s Dir x = refl

  abbrev digits_content : State → Bytes → Result (State × Bytes) Fault
  digits_content s x = base_value name s.history x >>= λ v. blob_bytes v >>= λ y. Ok (s, y)

  valued_state : (given : Result Value Fault) (s : State) (r : State × Bytes) → (given >>= λ v. blob_bytes v >>= λ y. Ok (s, y)) ≡ Ok r → r.0 ≡ s
  valued_state (Ok v) s r h = kept_state (blob_bytes v) s r h
  valued_state (Err e) s r h = absurd (cc h)

  digits_state : (s : State) (m : Mode) (x : Bytes) (r : State × Bytes) → content name s m (Object x) ≡ Ok r → r.0 ≡ s
  digits_state s File x r h = valued_state (base_value name s.history x) s r h
  digits_state s Exec x r h = valued_state (base_value name s.history x) s r h
  digits_state s Link x r h = valued_state (base_value name s.history x) s r h
  digits_state s Gitlink x r h = let e : (s, map lower x) ≡ r = cc h in ap (λ z. z.0) (sym e)
  digits_state s Dir x r h = valued_state (base_value name s.history x) s r h

  -- what a content gives is in the state with its blob
  pub content_state : (s : State) (m : Mode) (d : DataRef) (r : State × Bytes) → content name s m d ≡ Ok r → r.0 ≡ with_content d s
  content_state s m (Mark n) r h = valued_state (at s n) s r (sym (content_of_mark s m n) ∙ h)
  content_state s m (Object x) r h = digits_state s m x r h
  content_state s m (Inline x) r h = let e : (added (blob_value x) s, x) ≡ r = cc (sym (content_inline s m x) ∙ h) in ap (λ z. z.0) (sym e)

  content_later : (d : DataRef) (s : State) (ys : List Value) → Clash name (with_content d s).history.values ys → Clash name s.history.values (content_added d ++ ys)
  content_later (Inline x) s ys h = clash_behind s.history.values (blob_value x) ys h
  content_later (Mark n) s ys h = h
  content_later (Object x) s ys h = h

  -- of those behind a change
  pub change_later : (s : State) (f : FileMap Bytes) (c : Change) (r : State × FileMap Bytes) → changed name s f c ≡ Ok r → (ys : List Value) → Clash name r.0.history.values ys → Clash name s.history.values (blob_added c ++ ys)
  change_later s f (Modify m d p) r h ys k =
      let y = both_given (content name s m d) (λ y. modified f p (m, y.1) >>= λ g. Ok (y.0, g)) r h in
      let t = kept_state (modified f p (m, y.0.1)) y.0.0 r y.2 in
      content_later d s ys (subst (λ z. Clash name z.history.values ys) (t ∙ content_state s m d y.0 y.1) k)
  change_later s f (Remove p) r h ys k = let e : (s, removed f p) ≡ r = cc h in subst (λ z. Clash name z.0.history.values ys) (sym e) k
  change_later s f (Copy p q) r h ys k = subst (λ z. Clash name z.history.values ys) (kept_state (copied f p q) s r h) k
  change_later s f (Rename p q) r h ys k = subst (λ z. Clash name z.history.values ys) (kept_state (renamed f p q) s r h) k
  change_later s f Clear r h ys k = let e : (s, []) ≡ r = cc h in subst (λ z. Clash name z.0.history.values ys) (sym e) k
