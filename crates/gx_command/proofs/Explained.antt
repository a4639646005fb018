-- Answers that some items explain, one after another.
use Rattle.std.proofs.Common.{◌≡◌, List, [], ◌∷◌, ◌++◌, Option, Some, None, Result, Ok, Err, refl, sym, ap, subst, ◌∙◌, inl, inr}
use Rattle.std.specs.Option.{option_map, ok_or}
use Rattle.std.proofs.lemmas.List.{append-nil}
use Rattle.gx_model.specs.Texts.{Bytes}
use Rattle.gx_model.specs.Faults.{Given, ◌>>=◌}
use Rattle.gx_model.specs.Streams.Items.{Stream}
use Rattle.gx_model.specs.Streams.Lines.{Read, needed, optional, rest_line}
use Rattle.gx_command.specs.Explaining.{Explains, ExplainsFrom}
use Rattle.gx_command.specs.declared.fault.CommandFault.{CommandFault}
use Rattle.gx_command.specs.declared.fault.CommandFault.TheVariants.{BadLine}
use Rattle.gx_command.proofs.NeededLines.{needed_is, or_bad_line}
use Rattle.gx_command.proofs.Unrolled.{IsUnrolled, behind, behind_one, then_more}

-- the first thing fails
pub explained_first : {X Y Z U : Type 0} (view : X → Y) (first : Stream → Read Y) (rest : Y × Stream → Read Z) (shown : U → Z) (old mid new : Stream → Type 0) (f : CommandFault)
    → Explains view first old mid (Err f) → Explains shown (λ s. first s >>= rest) old new (Err f)
unfolding Explains
explained_first view first rest shown old mid new f (inl out) = inl out
explained_first view first rest shown old mid new f (inr (s, o, e)) = inr (s, o, ap (λ r. r >>= rest) e)

-- after the first thing, the rest
pub explained_then : {X Y Z U : Type 0} (view : X → Y) (first : Stream → Read Y) (rest : Y × Stream → Read Z) (shown : U → Z) (old mid new : Stream → Type 0) (x : X) (r : Result U CommandFault)
    → Explains view first old mid (Ok x) → Explains shown (λ t. rest (view x, t)) mid new r → Explains shown (λ s. first s >>= rest) old new r
unfolding Explains
explained_then view first rest shown old mid new x (Ok y) h k = λ t n.
    let b = k t n in
    let a = h b.0 b.1 in
    (a.0, a.1, ap (λ r. r >>= rest) a.2 ∙ b.2)
explained_then view first rest shown old mid new x (Err f) h (inl out) = inl out
explained_then view first rest shown old mid new x (Err f) h (inr (u, m, g)) =
    let a = h u m in
    inr (a.0, a.1, ap (λ r. r >>= rest) a.2 ∙ g)

-- nothing is left to read
pub explained_all : {Z U : Type 0} (shown : U → Z) (x : U) (now : Stream → Type 0) → Explains shown (λ t. Ok (shown x, t)) now now (Ok x)
unfolding Explains
explained_all shown x now = λ t n. (t, n, refl)

-- another view of the same answer
pub explained_as : {X Y Z : Type 0} (view : X → Y) (shown : Z → Y) (reading : Stream → Read Y) (old new : Stream → Type 0) (x : X) (z : Z)
    → view x ≡ shown z → Explains view reading old new (Ok x) → Explains shown reading old new (Ok z)
unfolding Explains
explained_as view shown reading old new x z same h = λ t n.
    let a = h t n in
    (a.0, a.1, a.2 ∙ ap (λ y. Ok (y, t)) same)

-- the same fault, whatever was to be answered
pub explained_fault : {X Y U : Type 0} (view : X → Y) (shown : U → Y) (reading : Stream → Read Y) (old mid new : Stream → Type 0) (f : CommandFault)
    → Explains view reading old mid (Err f) → Explains shown reading old new (Err f)
unfolding Explains
explained_fault view shown reading old mid new f (inl out) = inl out
explained_fault view shown reading old mid new f (inr a) = inr a

-- the same reading in other words
pub explained_alike : {Y U : Type 0} (shown : U → Y) (one other : Stream → Read Y) (old new : Stream → Type 0) (r : Result U CommandFault)
    → ((s : Stream) → one s ≡ other s) → Explains shown one old new r → Explains shown other old new r
unfolding Explains
explained_alike shown one other old new (Ok x) same h = λ t n.
    let a = h t n in
    (a.0, a.1, sym (same a.0) ∙ a.2)
explained_alike shown one other old new (Err f) same (inl out) = inl out
explained_alike shown one other old new (Err f) same (inr (s, o, e)) = inr (s, o, sym (same s) ∙ e)

-- ---- a part that begins what is read, and goes on behind

module _ {X Y : Type 0} (going : X → Stream → Read (Option Y)) (reading : Stream → Read (Option Y)) where
  -- no such part comes
  pub explained_none : {U : Type 0} (shown : U → Y) (old new : Stream → Type 0) → ExplainsFrom going reading old new (Ok None)
      → Explains {X = Option U} (option_map shown) reading old new (Ok None)
  unfolding Explains
  explained_none shown old new h = h

  -- it is refused
  pub explained_refused : {U : Type 0} (shown : U → Y) (old mid new : Stream → Type 0) (f : CommandFault) → ExplainsFrom going reading old mid (Err f)
      → Explains {X = Option U} (option_map shown) reading old new (Err f)
  unfolding Explains
  explained_refused shown old mid new f (inl out) = inl out
  explained_refused shown old mid new f (inr a) = inr a

  -- it comes, and what goes on behind is read
  pub explained_going : {Z U V : Type 0} (x : X) (view : V → Z) (behind : Stream → Read Z) (rest : Z × Stream → Read (Option Y)) (shown : U → Y) (old mid new : Stream → Type 0) (v : V) (u : U)
      → ((t : Stream) → going x t ≡ (behind t >>= rest)) → ((t : Stream) → rest (view v, t) ≡ Ok (Some (shown u), t))
      → ExplainsFrom going reading old mid (Ok (Some x)) → Explains view behind mid new (Ok v) → Explains (option_map shown) reading old new (Ok (Some u))
  unfolding Explains
  explained_going x view behind rest shown old mid new v u goes last h k = λ t n.
      let b = k t n in
      let a = h b.0 b.1 in
      (a.0, a.1, a.2 ∙ goes b.0 ∙ ap (λ r. r >>= rest) b.2 ∙ last t)

  -- it comes, and what goes on behind is refused
  pub explained_going_fails : {Z U V : Type 0} (x : X) (view : V → Z) (behind : Stream → Read Z) (rest : Z × Stream → Read (Option Y)) (shown : U → Y) (old mid new new' : Stream → Type 0) (f : CommandFault)
      → ((t : Stream) → going x t ≡ (behind t >>= rest))
      → ExplainsFrom going reading old mid (Ok (Some x)) → Explains view behind mid new (Err f) → Explains {X = Option U} (option_map shown) reading old new' (Err f)
  unfolding Explains
  explained_going_fails x view behind rest shown old mid new new' f goes h (inl out) = inl out
  explained_going_fails x view behind rest shown old mid new new' f goes h (inr (u, m, e)) =
      let a = h u m in
      inr (a.0, a.1, a.2 ∙ goes u ∙ ap (λ r. r >>= rest) e)

-- ---- a line that is needed

module _ {X Y : Type 0} (view : X → Y) (word : Bytes) (reading : Bytes → Given Y) where
  needed_by : (old new : Stream → Type 0) (some : (t : Stream) × new t) (taken : Option X) → Explains (option_map view) (optional word reading) old new (Ok taken)
      → Explains view (needed word reading) old new (ok_or taken BadLine)
  unfolding Explains
  needed_by old new some (Some x) h = λ t n.
      let a = h t n in
      (a.0, a.1, needed_is reading (rest_line word a.0) ∙ ap (λ r. r >>= or_bad_line) a.2)
  needed_by old new some None h =
      let a = h some.0 some.1 in
      inr (a.0, a.1, needed_is reading (rest_line word a.0) ∙ ap (λ r. r >>= or_bad_line) a.2)

  -- the line, or BadLine
  pub needed_explained : (old new : Stream → Type 0) (some : (t : Stream) × new t) (taken : Option X) (answer : Result X CommandFault) → answer ≡ ok_or taken BadLine
      → Explains (option_map view) (optional word reading) old new (Ok taken) → Explains view (needed word reading) old new answer
  unfolding Explains
  needed_explained old new some taken answer is h = subst (λ a. Explains view (needed word reading) old new a) (sym is) (needed_by old new some taken h)

  -- the line's own fault
  pub needed_refused : (old new new' : Stream → Type 0) (f : CommandFault) → Explains (option_map view) (optional word reading) old new (Err f)
      → Explains view (needed word reading) old new' (Err f)
  unfolding Explains
  needed_refused old new new' f (inl out) = inl out
  needed_refused old new new' f (inr (s, o, e)) = inr (s, o, needed_is reading (rest_line word s) ∙ ap (λ r. r >>= or_bad_line) e)

-- ---- loops

-- whatever may still come, so many were read of all
abbrev pub Gathers : {Y : Type 0} → (Stream → Read (List Y)) → List Y → (Stream → Type 0) → (Stream → Type 0) → Type 0
Gathers all front old now = (t : Stream) → now t → (s : Stream) × old s × (all s ≡ behind front (all t))

behind_none : {Y : Type 0} (r : Read (List Y)) → r ≡ behind [] r
behind_none (Ok (ys, t)) = refl
behind_none (Err f) = refl

pub gathers_none : {Y : Type 0} (all : Stream → Read (List Y)) (old : Stream → Type 0) → Gathers all [] old old
gathers_none all old = λ t n. (t, n, behind_none (all t))

module _ {X Y : Type 0} (next : Stream → Read (Option Y)) (all : Stream → Read (List Y)) (unrolled : IsUnrolled next all) (view : X → Y) where
  pub gathers_one : (front : List Y) (old now new : Stream → Type 0) (x : X) → Gathers all front old now → Explains (option_map view) next now new (Ok (Some x))
      → Gathers all (front ++ view x ∷ []) old new
  unfolding Explains
  gathers_one front old now new x c r = λ t n.
      let b = r t n in
      let a = c b.0 b.1 in
      (a.0, a.1, a.2 ∙ ap (behind front) (unrolled b.0 ∙ ap (λ q. q >>= then_more all) b.2) ∙ behind_one front (view x) (all t))

  pub gathers_all : {U : Type 0} (shown : U → List Y) (made : U) (old now new : Stream → Type 0) → Gathers all (shown made) old now → Explains (option_map view) next now new (Ok None)
      → Explains shown all old new (Ok made)
  unfolding Explains
  gathers_all shown made old now new c r = λ t n.
      let b = r t n in
      let a = c b.0 b.1 in
      (a.0, a.1, a.2 ∙ ap (behind (shown made)) (unrolled b.0 ∙ ap (λ q. q >>= then_more all) b.2) ∙ ap (λ xs. Ok (xs, t)) (append-nil (shown made)))

  pub gathers_fails : {U : Type 0} (shown : U → List Y) (front : List Y) (old now new new' : Stream → Type 0) (f : CommandFault) → Gathers all front old now
      → Explains (option_map view) next now new (Err f) → Explains shown all old new' (Err f)
  unfolding Explains
  gathers_fails shown front old now new new' f c (inl out) = inl out
  gathers_fails shown front old now new new' f c (inr (u, m, g)) =
      let a = c u m in
      inr (a.0, a.1, a.2 ∙ ap (behind front) (unrolled u ∙ ap (λ q. q >>= then_more all) g))
