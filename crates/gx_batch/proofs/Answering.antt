-- The answers that went out, and those that are to go out.
use Rattle.std.proofs.Common.{◌≡◌, ◌<◌, inl, inr, Bool, true, false, refl, sym, ap, subst, ◌∙◌, List, [], ◌∷◌, ◌++◌, length, append_assoc, append-nil, arith, Option, None, Some, Result, Ok, Err}
use Rattle.std.specs.List.{flat_map}
use Rattle.std.specs.Option.{option_map}
use Rattle.gx_model.specs.Texts.{Bytes}
use Rattle.gx_model.specs.Texts.Sinks.{FailedWithin, Taken, Took}
use Rattle.gx_text.specs.Devices.{Coming}
use Rattle.gx_stream.specs.Heard.{heard}
use Rattle.gx_stream.specs.Pulled.{behind}
use Rattle.gx_batch.specs.Lines.{byte_of, lines_from, lines_of, single_ended}
use Rattle.gx_batch.specs.Reading.{AreOfBytes, IsPast, MayCome, Reads}
use Rattle.gx_batch.specs.Batches.{Answered, AnsweredFrom, Answers, Sent}
use Rattle.gx_batch.specs.declared.ending.LineEnding.{LineEnding}
use Rattle.gx_batch.specs.declared.fault.BatchFault.{BatchFault}
use Rattle.gx_batch.specs.declared.fault.BatchFault.TheVariants.{OutOfMemory, ReadFailed, WriteFailed}
use Rattle.gx_batch.proofs.PassedBytes.{behind_both, none_left, some_same}
use Rattle.gx_model.proofs.Texts.SentTexts.{failed_after, failed_longer, took_both, took_nothing}

-- these lines were read of those that come, and the others are still to come
abbrev pub ArePassed : LineEnding → List Bytes → Option Coming → Option Coming → Type 0
ArePassed ending front None now = AreOfBytes ending front now
ArePassed ending front (Some was) now = (left : Coming) × (now ≡ Some left) × (lines_from ending was ≡ front ++ lines_from ending left) × (left.fails ≡ was.fails) × IsPast was left

-- further bytes are gone
further : (was mid left : Coming) → IsPast was mid → IsPast mid left → IsPast was left
further was mid left p q = (p.0 ++ q.0, p.1 ∙ ap (λ bs. p.0 ++ bs) q.1 ∙ sym (append_assoc p.0 q.0 left.bytes))

-- where a line comes, bytes do
has_bytes : (ending : LineEnding) (coming : Coming) (line : Bytes) (more : List Bytes) → lines_from ending coming ≡ line ∷ more → 0 < length coming.bytes
has_bytes ending coming line more e = by coming.bytes refl where
  by : (bytes : Bytes) → bytes ≡ coming.bytes → 0 < length bytes
  by [] is = absurd (cc (sym (subst (λ bs. lines_of (byte_of ending) (single_ended ending bs) coming.fails ≡ line ∷ more) (sym is) e) ∙ none_left ending coming.fails))
  by (b ∷ bs) is = omega arith

-- what is known to come is what may come
known : (next : Option Coming) (left c : Coming) → next ≡ Some left → MayCome next c → c ≡ left
known None left c e m = absurd (cc e)
known (Some d) left c e m = m ∙ some_same d left e

-- bytes before what is left of them
before : (was left : Coming) (past : IsPast was left) → left.fails ≡ was.fails → was ≡ behind past.0 left
before was left past e = ap (λ bs. record { bytes = bs; fails = was.fails }) past.1 ∙ ap (λ f. record { bytes = past.0 ++ left.bytes; fails = f }) (sym e)

-- one line more
pub one_passed : (ending : LineEnding) (start coming next : Option Coming) (front : List Bytes) (line : Bytes) → ArePassed ending front start coming → Reads ending coming next line (Ok true) → ArePassed ending (front ++ line ∷ []) start next
one_passed ending None None next front line a r =
    (a.0 ++ r.0, λ c m. ap (lines_from ending) (behind_both a.0 r.0 c) ∙ a.1 (behind r.0 c) tt ∙ ap (λ ls. front ++ ls) (r.1 c m) ∙ sym (append_assoc front (line ∷ []) (lines_from ending c)))
one_passed ending None (Some d) next front line a r =
    let past : IsPast d r.0 = r.4 in
    let all : d ≡ behind past.0 r.0 = before d r.0 past r.3 in (
      a.0 ++ past.0,
      λ c m.
          let is : c ≡ r.0 = known next r.0 c r.1 m in
          ap (λ x. lines_from ending (behind (a.0 ++ past.0) x)) is ∙ ap (lines_from ending) (behind_both a.0 past.0 r.0) ∙ a.1 (behind past.0 r.0) (sym all)
          ∙ ap (λ x. front ++ lines_from ending x) (sym all) ∙ ap (λ ls. front ++ ls) r.2 ∙ sym (append_assoc front (line ∷ []) (lines_from ending r.0))
          ∙ ap (λ x. (front ++ line ∷ []) ++ lines_from ending x) (sym is),
    )
one_passed ending (Some c) None next front line a r = absurd (cc a.1)
one_passed ending (Some c) (Some d) next front line a r =
    let same : d ≡ a.0 = cc a.1 in (
      r.0,
      r.1,
      a.2 ∙ ap (λ (x : Coming). front ++ lines_from ending x) (sym same) ∙ ap (λ ls. front ++ ls) r.2 ∙ sym (append_assoc front (line ∷ []) (lines_from ending r.0)),
      r.3 ∙ ap (λ (x : Coming). x.fails) same ∙ a.3,
      further c d r.0 (subst (IsPast c) (sym same) a.4) r.4,
    )

-- none yet
pub none_passed : (ending : LineEnding) (start : Option Coming) → ArePassed ending [] start start
none_passed ending None = ([], λ c m. refl)
none_passed ending (Some c) = (c, refl, refl, refl, ([], refl))

-- The same as `Answers`, of what a reader is seen as.
abbrev pub Runs : (Bytes → Bytes) → LineEnding → Option Coming → Option Taken → Option Taken → Result (Unit {0}) BatchFault → Type 0
Runs answer ending None was now result = (coming : Coming) × AnsweredFrom answer ending coming was now result
Runs answer ending (Some coming) was now result = AnsweredFrom answer ending coming was now result

flat_map_both : (answer : Bytes → Bytes) (xs ys : List Bytes) → flat_map answer (xs ++ ys) ≡ flat_map answer xs ++ flat_map answer ys
flat_map_both answer [] ys = refl
flat_map_both answer (x ∷ xs) ys = ap (λ bs. answer x ++ bs) (flat_map_both answer xs ys) ∙ sym (append_assoc (answer x) (flat_map answer xs) (flat_map answer ys))

-- something that may come
abbrev something : Option Coming → Coming
something None = record { bytes = 0 ∷ []; fails = false }
something (Some c) = c

may_come : (now : Option Coming) → MayCome now (something now)
may_come None = tt
may_come (Some c) = refl

-- nothing more comes
abbrev nothing_more : Bool → Coming
nothing_more fails = record { bytes = []; fails = fails }

module _ (answer : Bytes → Bytes) (ending : LineEnding) where
  -- the first lines were read and answered
  pub record Goes (start coming : Option Coming) (was now : Option Taken) : Type 0 where
    pub front : List Bytes
    pub read : ArePassed ending front start coming
    pub took : Took was now (flat_map answer front)

  -- nothing was read yet
  pub starts : (start : Option Coming) (was : Option Taken) → Goes start start was was
  starts start was = record { front = []; read = none_passed ending start; took = took_nothing was }

  -- one line more
  pub goes_on : (start coming next : Option Coming) (was mid now : Option Taken) (line : Bytes) → Goes start coming was mid → Reads ending coming next line (Ok true) → Took mid now (answer line) → Goes start next was now
  goes_on start coming next was mid now line g r t = record {
    front = g.front ++ line ∷ [];
    read = one_passed ending start coming next g.front line g.read r;
    took = subst (Took was now) (sym (flat_map_both answer g.front (line ∷ []) ∙ ap (λ bs. flat_map answer g.front ++ bs) (append-nil (answer line)))) (took_both was mid now (flat_map answer g.front) (answer line) g.took t);
  }

  -- an answer to one of many lines didn't go out whole
  stopped_at : (was mid now : Option Taken) (front rest lines : List Bytes) (line : Bytes) → lines ≡ front ++ line ∷ rest → Took was mid (flat_map answer front) → FailedWithin mid now (answer line) → FailedWithin was now (flat_map answer lines)
  stopped_at was mid now front rest lines line e t s =
      subst (FailedWithin was now) (sym (ap (flat_map answer) e ∙ flat_map_both answer front (line ∷ rest)))
      (failed_after was mid now (flat_map answer front) (answer line ++ flat_map answer rest) t (failed_longer mid now (answer line) (flat_map answer rest) s))

  -- no memory is left before what may come
  held_up : (front : List Bytes) (here : Option Coming) (was now : Option Taken) → AreOfBytes ending front here → 0 < length (something here).bytes → Took was now (flat_map answer front) → Runs answer ending None was now (Err OutOfMemory)
  held_up front here was now a some t =
      let left = something here in
      (behind a.0 left, (left, front, a.1 left (may_come here), (a.0, refl), inr some, t))

  -- all lines were answered, and the source ends or fails so
  all_answered : (front : List Bytes) (here : Option Coming) (left : Coming) (was now : Option Taken) (a : AreOfBytes ending front here) → MayCome here left → lines_from ending left ≡ [] → Took was now (flat_map answer front) → Took was now (flat_map answer (lines_from ending (behind a.0 left)))
  all_answered front here left was now a m none t =
      subst (λ ls. Took was now (flat_map answer ls)) (sym (a.1 left m ∙ ap (λ ls. front ++ ls) none ∙ append-nil front)) t

  -- an answer didn't go out whole
  pub unanswered : (start coming next : Option Coming) (was mid now : Option Taken) (line : Bytes) (fault : BatchFault) → Goes start coming was mid → Reads ending coming next line (Ok true) → Sent (answer line) mid now (Err fault) → Runs answer ending start was now (Err fault)
  unanswered None coming next was mid now line WriteFailed g r s =
      let a : AreOfBytes ending (g.front ++ line ∷ []) next = one_passed ending None coming next g.front line g.read r in
      let left = something next in
      let rest = lines_from ending left in
      (behind a.0 left, stopped_at was mid now g.front rest (lines_from ending (behind a.0 left)) line (a.1 left (may_come next) ∙ append_assoc g.front (line ∷ []) rest) g.took s)
  unanswered None None next was mid now line OutOfMemory g r s = held_up g.front None was now g.read (omega arith) (subst (λ t. Took was t (flat_map answer g.front)) (sym s) g.took)
  unanswered None (Some d) next was mid now line OutOfMemory g r s =
      held_up g.front (Some d) was now g.read (has_bytes ending d line (lines_from ending r.0) r.2) (subst (λ t. Took was t (flat_map answer g.front)) (sym s) g.took)
  unanswered None coming next was mid now line ReadFailed g r s = absurd s
  unanswered (Some c) None next was mid now line fault g r s = absurd (cc g.read.1)
  unanswered (Some c) (Some d) next was mid now line WriteFailed g r s =
      let same : d ≡ g.read.0 = cc g.read.1 in
      let lines : lines_from ending c ≡ g.front ++ line ∷ lines_from ending r.0 = g.read.2 ∙ ap (λ (x : Coming). g.front ++ lines_from ending x) (sym same) ∙ ap (λ ls. g.front ++ ls) r.2 in
      stopped_at was mid now g.front (lines_from ending r.0) (lines_from ending c) line lines g.took s
  unanswered (Some c) (Some d) next was mid now line OutOfMemory g r s =
      let same : d ≡ g.read.0 = cc g.read.1 in
      let some = has_bytes ending g.read.0 line (lines_from ending r.0) (ap (lines_from ending) (sym same) ∙ r.2) in
      (g.read.0, g.front, g.read.2, g.read.4, inr some, subst (λ t. Took was t (flat_map answer g.front)) (sym s) g.took)
  unanswered (Some c) (Some d) next was mid now line ReadFailed g r s = absurd s

  -- there was no memory to begin
  pub not_begun : (start : Option Coming) (was : Option Taken) → Runs answer ending start was was (Err OutOfMemory)
  not_begun None was = (nothing_more false, (nothing_more false, [], refl, ([], refl), inl refl, took_nothing was))
  not_begun (Some c) was = (c, [], refl, ([], refl), inl refl, took_nothing was)

  -- no line was read
  pub unread : (start coming next : Option Coming) (was now : Option Taken) (line : Bytes) (fault : BatchFault) → Goes start coming was now → Reads ending coming next line (Err fault) → Runs answer ending start was now (Err fault)
  unread None None next was now line OutOfMemory g r = held_up g.front None was now g.read (omega arith) g.took
  unread None (Some d) next was now line OutOfMemory g r = held_up g.front (Some d) was now g.read r g.took
  unread None None next was now line ReadFailed g r =
      (behind g.read.0 (nothing_more true), (refl, all_answered g.front None (nothing_more true) was now g.read tt (none_left ending true) g.took))
  unread None (Some d) next was now line ReadFailed g r = (behind g.read.0 d, (r.1, all_answered g.front (Some d) d was now g.read refl r.0 g.took))
  unread (Some c) None next was now line fault g r = absurd (cc g.read.1)
  unread (Some c) (Some d) next was now line OutOfMemory g r =
      let same : d ≡ g.read.0 = cc g.read.1 in
      (g.read.0, g.front, g.read.2, g.read.4, inr (subst (λ (x : Coming). 0 < length x.bytes) same r), g.took)
  unread (Some c) (Some d) next was now line ReadFailed g r =
      let same : d ≡ g.read.0 = cc g.read.1 in
      let all = g.read.2 ∙ ap (λ (x : Coming). g.front ++ lines_from ending x) (sym same) ∙ ap (λ ls. g.front ++ ls) r.0 ∙ append-nil g.front in
      (sym g.read.3 ∙ ap (λ (x : Coming). x.fails) (sym same) ∙ r.1, subst (λ ls. Took was now (flat_map answer ls)) (sym all) g.took)
  unread None None next was now line WriteFailed g r = absurd r
  unread None (Some d) next was now line WriteFailed g r = absurd r
  unread (Some c) (Some d) next was now line WriteFailed g r = absurd r

  -- there was no further line
  pub answered : (start coming next : Option Coming) (was now : Option Taken) (line : Bytes) → Goes start coming was now → Reads ending coming next line (Ok false) → Runs answer ending start was now (Ok tt)
  answered None None next was now line g r =
      (behind g.read.0 (nothing_more false), (refl, all_answered g.front None (nothing_more false) was now g.read tt (none_left ending false) g.took))
  answered None (Some d) next was now line g r = (behind g.read.0 d, (r.1, all_answered g.front (Some d) d was now g.read refl r.0 g.took))
  answered (Some c) None next was now line g r = absurd (cc g.read.1)
  answered (Some c) (Some d) next was now line g r =
      let same : d ≡ g.read.0 = cc g.read.1 in
      let all = g.read.2 ∙ ap (λ (x : Coming). g.front ++ lines_from ending x) (sym same) ∙ ap (λ ls. g.front ++ ls) r.0 ∙ append-nil g.front in
      (sym g.read.3 ∙ ap (λ (x : Coming). x.fails) (sym same) ∙ r.1, subst (λ ls. Took was now (flat_map answer ls)) (sym all) g.took)

  -- what a reader is seen as at first is what is taken from its source
  pub of_source : (coming : Option Coming) (was now : Option Taken) (result : Result (Unit {0}) BatchFault) → Runs answer ending (option_map heard coming) was now result → Answers answer ending coming was now result
  of_source None was now result h = h
  of_source (Some c) was now result h = h
