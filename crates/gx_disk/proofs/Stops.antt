-- What a stop leaves of a disk, from call to call.
use Rattle.std.proofs.Common.{◌≡◌, ◌⊎◌, inl, inr, ℕ, ◌+◌, ◌-◌, ◌≤◌, ◌<◌, Bool, true, false, cond, List, [], ◌∷◌, ◌++◌, length, take, drop, get_or, min, refl, sym, ap, subst, ◌∙◌, arith, length-append, Result, Ok, Err, IfOk}
use Rattle.std.proofs.lemmas.List.{drop-drop, drop_all, get_or_read, take-append-le, take-take, take_all, take_more}
use Rattle.std.proofs.lemmas.Bool.{cases_lt}
use Rattle.gx_model.specs.Texts.{Bytes}
use Rattle.gx_append.specs.Devices.{Elapses, Follows, Torn, written_at}
use Rattle.gx_append.proofs.Pieces.{held_torn}
use Rattle.gx_disk.specs.declared.call.Call.{Call}
use Rattle.gx_disk.specs.declared.call.Call.TheVariants.{Wrote, CutOff, Synced}
use Rattle.gx_disk.specs.Disks.{Comes, Does, LeftSince, MayLeave, State, Turns, after, begun, replayed}

-- ---- torn writes

-- a write that does nothing is torn
pub nothing_torn : (at count : ℕ) (text : Bytes) → Torn at count text text
nothing_torn at count text = record { before = λ le. refl; behind = refl; no_shorter = omega arith }

-- a write that is torn is so in a longer range
pub torn_more : (at few count : ℕ) (old new : Bytes) → few ≤ count → Torn at few old new → Torn at count old new
torn_more at few count old new le torn =
    let on : (at + few) + (count - few) ≡ at + count = omega (arith, le) in
    record {
      before = torn.before;
      behind = ap (λ n. drop n new) (sym on) ∙ sym (drop-drop (count - few) (at + few) new) ∙ ap (drop (count - few)) torn.behind
          ∙ drop-drop (count - few) (at + few) old ∙ ap (λ n. drop n old) on;
      no_shorter = torn.no_shorter;
    }

-- behind the end of a text bytes stand at its end
past_end : (text bytes : Bytes) (at : ℕ) → length text < at → written_at at bytes text ≡ text ++ (bytes ++ [])
past_end text bytes at past =
    (λ i. take_all at text (omega (arith, past)) i ++ (bytes ++ drop_all (at + length bytes) text (omega (arith, past)) i))

past_torn : (text bytes : Bytes) (at : ℕ) → length text < at → Torn at (length bytes) text (written_at at bytes text)
past_torn text bytes at past =
    let is : length (written_at at bytes text) ≡ length (text ++ (bytes ++ [])) = ap length (past_end text bytes at past) in
    let a = length-append text (bytes ++ []) in
    let b = length-append bytes [] in
    record {
      before = λ le. absurd (omega (arith, le, past));
      behind = drop_all (at + length bytes) (written_at at bytes text) (omega (arith, is, a, b, past)) ∙ sym (drop_all (at + length bytes) text (omega (arith, past)));
      no_shorter = omega (arith, is, a, b);
    }

-- a write that is done is torn, wherever it is
pub write_torn : (text bytes : Bytes) (at : ℕ) → Torn at (length bytes) text (written_at at bytes text)
write_torn text bytes at = by (cases_lt (length text) at)
  where
    by : (length text < at) ⊎ (at ≤ length text) → Torn at (length bytes) text (written_at at bytes text)
    by (inl past) = past_torn text bytes at past
    by (inr within) = held_torn text bytes at within

-- a write of as many bytes or fewer is torn
pub part_torn : (at : ℕ) (bytes part slice left now : Bytes) → length part ≤ length bytes → slice ≡ left → now ≡ written_at at part slice → Torn at (length bytes) left now
part_torn at bytes part slice left now short same is =
    subst (Torn at (length bytes) left) (sym (is ∙ ap (written_at at part) same)) (torn_more at (length part) (length bytes) left (written_at at part left) short (write_torn left part at))

-- what holds of what is there where nothing fails
pub where_ok : {T E : Type 0} (P Q : T → Type 0) (result : Result T E) → ((x : T) → P x → Q x) → IfOk result P → IfOk result Q
where_ok P Q (Ok x) gives p = gives x p
where_ok P Q (Err e) gives p = tt

module _ {A : Type 0} where
  -- ---- one call more

  -- a call is done last
  pub replayed_more : (s : State A) (calls : List (Call A)) (call : Call A) → replayed s (calls ++ call ∷ []) ≡ after (replayed s calls) call
  replayed_more s [] call = refl
  replayed_more s (first ∷ calls) call = replayed_more (after s first) calls call

  -- a call that is done is one of what a stop may make of it
  pub done : (s : State A) (call : Call A) → Does call s.text (after s call).text
  done s (Wrote at bytes) = write_torn s.text bytes.items at
  done s (CutOff at) = λ le. take-take at at s.text (omega arith)
  done s Synced = refl

  -- what is read may be left
  text_after : (s : State A) (call : Call A) → MayLeave s s.text → MayLeave (after s call) (after s call).text
  text_after s (Wrote at bytes) was = (s.text, was, done s (Wrote at bytes))
  text_after s (CutOff at) was = (s.text, was, done s (CutOff at))
  text_after s Synced was = refl

  text_left : (s : State A) (calls : List (Call A)) → MayLeave s s.text → MayLeave (replayed s calls) (replayed s calls).text
  text_left s [] was = was
  text_left s (call ∷ calls) was = text_left (after s call) calls (text_after s call was)

  -- what a stop may leave behind a call, it makes by the call of what it might have left before
  left_after : (s : State A) (call : Call A) → MayLeave s s.text → Follows (Does call) (MayLeave s) (MayLeave (after s call))
  left_after s (Wrote at bytes) was c left = left
  left_after s (CutOff at) was c left = left
  left_after s Synced was c left = (s.text, was, left)

  -- ---- a disk that had a text at first

  module _ (first : Bytes) where
    abbrev pub S : List (Call A) → State A
    S calls = replayed (begun first) calls

    pub may_stay : (calls : List (Call A)) → MayLeave (S calls) (S calls).text
    may_stay calls = text_left (begun first) calls refl

    abbrev pub Time : List (Call A) → List (Call A) → Type 0
    Time = Elapses {D = List (Call A)} (λ calls. length calls) (λ calls. LeftSince first calls) (λ calls. MayLeave (S calls))

    module _ (old : List (Call A)) (call : Call A) where
      abbrev new : List (Call A)
      new = old ++ call ∷ []

      long : length new ≡ length old + 1
      long = length-append old (call ∷ [])

      same_front : (k : ℕ) → k ≤ length old → take k new ≡ take k old
      same_front k le = take-append-le k old (call ∷ []) le

      earlier_or_now : (t : ℕ) (c : Bytes) → LeftSince first new t c → LeftSince first old t c ⊎ MayLeave (S new) c
      earlier_or_now t c (k, from, within, left) = elim (cases_lt (length old) k) [
        | inr le ↦ inl (k, from, le, subst (λ l. MayLeave (S l) c) (same_front k le) left)
        | inl all ↦ inr (subst (λ l. MayLeave (S l) c) (take_all k new (omega (arith, long, all))) left)
      ]

      -- time goes on by a call
      pub a_call : Time old new
      a_call = record {
        later = omega (arith, long);
        nothing_else = λ t c le left. earlier_or_now t c left;
        keeps = λ t c le (k, from, within, left). (k, from, omega (arith, long, within), subst (λ l. MayLeave (S l) c) (sym (same_front k within)) left);
      }

      pub follows : Follows (Does call) (MayLeave (S old)) (MayLeave (S new))
      follows = subst (λ s. Follows (Does call) (MayLeave (S old)) (MayLeave s)) (sym (replayed_more (begun first) old call)) (left_after (S old) call (may_stay old))

      pub text_is : (S new).text ≡ (after (S old) call).text
      text_is = ap (λ s. s.text) (replayed_more (begun first) old call)

      pub durable_is : (S new).durable ≡ (after (S old) call).durable
      durable_is = ap (λ s. s.durable) (replayed_more (begun first) old call)

    -- no call takes no time
    pub no_call : (old : List (Call A)) → Time old old
    no_call old = record { later = omega arith; nothing_else = λ t c le left. inl left; keeps = λ t c le left. left }

    -- a sync that is noted or not changes nothing that is read
    pub still_read : (noted : Bool) (old now : List (Call A)) → now ≡ cond noted (old ++ Synced ∷ []) old → (S now).text ≡ (S old).text
    still_read true old now e = ap (λ l. (S l).text) e ∙ text_is old Synced
    still_read false old now e = ap (λ l. (S l).text) e

-- ---- what a stop leaves, call by call

module _ {A : Type 0} where
  -- what is read turns by a call
  pub turns : (s : State A) (call : Call A) (text now : Bytes) → text ≡ s.text → Turns call text now → now ≡ (after s call).text
  turns s (Wrote at bytes) text now e is = is ∙ ap (written_at at bytes.items) e
  turns s (CutOff at) text now e is = is ∙ ap (take at) e
  turns s Synced text now e is = is ∙ e

  -- what a stop leaves comes of what it left before
  pub comes : (s : State A) (call : Call A) (text left now : Bytes) → text ≡ (after s call).text → MayLeave s left → Comes call text left now → MayLeave (after s call) now
  comes s (Wrote at bytes) text left now e was torn = (left, was, torn)
  comes s (CutOff at) text left now e was cut = (left, was, cut)
  comes s Synced text left now e was is = is ∙ e

  -- the next call
  next_is : (first : Bytes) (calls : List (Call A)) (n : ℕ) (call : Call A) → n < length calls → call ≡ get_or calls n call
      → replayed (begun first) (take (n + 1) calls) ≡ after (replayed (begun first) (take n calls)) call
  next_is first calls n call within is =
      ap (replayed (begun first)) (take_more calls n call within ∙ ap (λ x. take n calls ++ x ∷ []) (sym is)) ∙ replayed_more (begun first) (take n calls) call

  pub stop_goes_on : (first : Bytes) (calls : List (Call A)) (n : ℕ) (call again : Call A) (text turned slice left come : Bytes) → n < length calls → call ≡ get_or calls n call → again ≡ get_or calls n again
      → text ≡ (replayed (begun first) (take n calls)).text → MayLeave (replayed (begun first) (take n calls)) left → Turns call text turned → slice ≡ turned → Comes again slice left come
      → (turned ≡ (replayed (begun first) (take (n + 1) calls)).text) × MayLeave (replayed (begun first) (take (n + 1) calls)) come
  stop_goes_on first calls n call again text turned slice left come within is same read was turn on goes =
      let s = replayed (begun first) (take n calls) in
      let next = next_is first calls n call within is in
      let one : again ≡ call = get_or_read calls n again within same call ∙ sym is in
      let now = turns s call text turned read turn in
      (now ∙ ap (λ t. t.text) (sym next), subst (λ t. MayLeave t come) (sym next) (comes s call slice left come (on ∙ now) was (subst (λ c. Comes c slice left come) one goes)))

-- the calls up to the number of fates, or all
pub all_taken : {X : Type 0} (count asked : ℕ) (l : List X) → count ≡ min asked (length l) → take count l ≡ take asked l
all_taken count asked l e = by (cases_lt (length l) asked)
  where
    by : (length l < asked) ⊎ (asked ≤ length l) → take count l ≡ take asked l
    by (inl more) = take_all count l (omega (arith, e, more)) ∙ sym (take_all asked l (omega (arith, more)))
    by (inr few) = let same : count ≡ asked = omega (arith, e, few) in ap (λ n. take n l) same
