-- What a reader is seen as, before and after an item, the end or a fault.
use Rattle.std.proofs.Common.{◌≡◌, ℕ, ◌+◌, ◌<◌, ◌≤◌, Bool, true, false, inl, inr, Option, Some, None, Result, Ok, Err, is_ok, [], ◌++◌, length, drop, refl, sym, ap, subst, ◌∙◌, arith, append-nil, append_assoc}
use Rattle.std.proofs.lemmas.List.{length-drop}
use Rattle.gx_model.specs.Texts.{Bytes}
use Rattle.gx_model.specs.Streams.Items.{End, Item, Line, Data, Stream, Finished, Failed, then_comes, items_of}
use Rattle.gx_model.specs.Streams.Lines.{block, block_in}
use Rattle.gx_text.specs.Devices.{Coming}
use Rattle.gx_stream.specs.Heard.{heard_upto}
use Rattle.gx_stream.specs.Places.{Skipped, ComesNext, NoneComes, bytes_at}
use Rattle.gx_stream.specs.Reading.{Seen, AnswersAs, ReadsAs, FallsAs, RefusesAs, RepeatsAs, ExplainsAs, MayFollow}
use Rattle.gx_stream.specs.Faults.{fault_of, shown_end, ended}
use Rattle.gx_stream.specs.Input.{shown_stream, shown_most, shown_over, shown_unread, shown_whole, answer_at, IsLonger, Looks, is_whole, Takes, ComesNoBlock, Keeps, KeepsStream, KeepsOver}
use Rattle.gx_stream.proofs.Ends.{none_refused}
use Rattle.gx_stream.proofs.Longer.{nothing_more}
use Rattle.gx_stream.specs.declared.fault.StreamFault.{StreamFault}
use Rattle.gx_stream.specs.declared.fault.StreamFault.TheVariants as fault
use Rattle.gx_stream.specs.declared.places.Place.{Place}
use Rattle.gx_stream.specs.declared.places.Found.{Found}
use Rattle.gx_stream.specs.declared.places.Found.TheVariants as found
use Rattle.gx_stream.specs.declared.input.State.{State}
use Rattle.gx_stream.specs.declared.input.State.TheVariants.{Open, Ended, Over}

-- ---- what was kept before an answer

Reads-kept : (old mid new : Option Stream) (answer : Result (Option Item) StreamFault) → KeepsStream old mid → ReadsAs mid new answer → ReadsAs old new answer
Reads-kept None None new answer k r = r
Reads-kept None (Some s) new (Ok None) k r = r.1
Reads-kept None (Some s) new (Ok (Some i)) k r = tt
Reads-kept None (Some s) new (Err f) k r = r.0
Reads-kept (Some s) mid new answer k r = subst (λ o. ReadsAs o new answer) k r

Falls-kept : (old mid new : ℕ) (answer : Result (Option Item) StreamFault) → mid ≤ old → FallsAs mid new answer → FallsAs old new answer
Falls-kept old mid new (Ok None) k f = omega (arith, k, f)
Falls-kept old mid new (Ok (Some i)) k f = omega (arith, k, f)
Falls-kept old mid new (Err e) k f = omega (arith, k, f)

Repeats-kept : (old mid new : Seen) (answer : Result (Option Item) StreamFault) → KeepsOver old.over old mid → RepeatsAs mid.over mid new answer → RepeatsAs old.over old new answer
Repeats-kept old mid new answer k r = by old.over refl k where
  by : (o : Option (Option StreamFault)) → o ≡ old.over → KeepsOver o old mid → RepeatsAs o old new answer
  by None e k = subst (λ o. RepeatsAs o mid new answer) k r
  by (Some last) e k = subst (λ o. RepeatsAs o old new answer) (sym e) (subst (λ (s : Seen). RepeatsAs s.over s new answer) k r)

Explains-kept : (old mid new : Stream → Type 0) (answer : Result (Option Item) StreamFault) → ((s : Stream) → mid s → old s) → ExplainsAs mid new answer → ExplainsAs old new answer
Explains-kept old mid new (Ok None) k r = k (ended Finished) r
Explains-kept old mid new (Ok (Some i)) k r = λ left m. k (then_comes i left) (r left m)
Explains-kept old mid new (Err f) k (inl out) = inl out
Explains-kept old mid new (Err f) k (inr r) = inr (k (ended (Failed (fault_of f))) r)

-- what may come in a state
abbrev pub MayComeIn : State → Bytes → Stream → Type 0
MayComeIn state rest = MayFollow (shown_over state) (shown_unread state rest) (shown_whole state)

-- no more items may come than before
most_kept : (state : State) (old new : Bytes) (before after : ℕ) → shown_over state ≡ None → length new + after ≤ length old + before → shown_most state after new ≤ shown_most Open before old
most_kept Open old new before after o l = l
most_kept (Ended fails) old new before after o l = omega (arith, l)
most_kept (Over last) old new before after o l = absurd (cc o)

-- behind more bytes comes what may have come behind fewer
text_kept : (state : State) (old new : Bytes) → shown_over state ≡ None → IsLonger old new → (s : Stream) → MayComeIn state new s → MayComeIn Open old s
text_kept Open old new o (more, e) s (c, f) =
    (record { bytes = more ++ c.bytes; fails = c.fails }, f ∙ ap (λ t. items_of (t ++ c.bytes) c.fails) e ∙ ap (λ t. items_of t c.fails) (append_assoc old more c.bytes))
text_kept (Ended fails) old new o (more, e) s f = (record { bytes = more; fails = fails }, f ∙ ap (λ t. items_of t fails) e)
text_kept (Over last) old new o l s f = absurd (cc o)

-- ---- one answer

Skipped-alone : (text : Bytes) (fails : Bool) (start at : ℕ) → Skipped text fails start at → items_of (drop start text) fails ≡ items_of (drop at text) fails
Skipped-alone text fails start at s =
    ap (λ t. items_of t fails) (sym (append-nil (drop start text))) ∙ s.same [] fails (nothing_more fails) ∙ ap (λ t. items_of t fails) (append-nil (drop at text))

next_alone : (text : Bytes) (fails : Bool) (at : ℕ) (i : Item) (p : Place) → ComesNext text fails at i p → items_of (drop at text) fails ≡ then_comes i (items_of (drop p.next text) fails)
next_alone text fails at i p n =
    ap (λ t. items_of t fails) (sym (append-nil (drop at text))) ∙ n.next [] fails (nothing_more fails) ∙ ap (λ t. then_comes i (items_of t fails)) (append-nil (drop p.next text))

shorter : (text : Bytes) (fails : Bool) (start at : ℕ) (i : Item) (p : Place) → Skipped text fails start at → ComesNext text fails at i p → length (drop p.next text) < length (drop start text)
shorter text fails start at i p s n = omega (arith, s.from, n.further, n.within.2, length-drop p.next text, length-drop start text)

-- what is seen of the fields
abbrev pub shown_at : Bool → State → ℕ → Option Coming → Bytes → Seen
shown_at full state room coming rest = record { stream = shown_stream state room coming rest; most = shown_most state room rest; over = shown_over state; full = full; unread = shown_unread state rest; whole = shown_whole state }

-- a pull keeps what may come
pub pull_keeps : (full : Bool) (state : State) (before after : ℕ) (was is : Option Coming) (old new now : Bytes) → shown_over state ≡ None → IsLonger old now → length now + after ≤ length old + before → KeepsStream (shown_stream Open before was old) (shown_stream state after is now) → new ≡ now
    → Keeps (shown_at full Open before was old) (shown_at full state after is new)
pull_keeps full state before after was is old new now over longer least kept e =
    rw e (kept, most_kept state old now before after over least, over, text_kept state old now over longer)

open_before : (text : Bytes) (start at : ℕ) (i : Item) (p : Place) → Skipped text true start at → ComesNext text true at i p → (left : Stream) → MayComeIn Open (drop p.next text) left → MayComeIn Open (drop start text) (then_comes i left)
open_before text start at i p s n left (c, e) = (c, ap (then_comes i) e ∙ sym (s.same c.bytes c.fails tt ∙ n.next c.bytes c.fails tt))

item_open : (full : Bool) (room : ℕ) (coming : Option Coming) (text : Bytes) (start at : ℕ) (i : Item) (p : Place) → Skipped text true start at → ComesNext text true at i p → AnswersAs (shown_at full Open room coming (drop start text)) (shown_at full Open room coming (drop p.next text)) (Ok (Some i))
item_open full room None text start at i p s n = (tt, omega (arith, shorter text true start at i p s n), refl, tt, open_before text start at i p s n)
item_open full room (Some c) text start at i p s n =
    let h = heard_upto room c in
    ((items_of (drop p.next text ++ h.bytes) h.fails, s.same h.bytes h.fails tt ∙ n.next h.bytes h.fails tt, refl), omega (arith, shorter text true start at i p s n), refl, tt, open_before text start at i p s n)

item_ended : (full : Bool) (room : ℕ) (coming : Option Coming) (text : Bytes) (fails : Bool) (start at : ℕ) (i : Item) (p : Place) → Skipped text fails start at → ComesNext text fails at i p → AnswersAs (shown_at full (Ended fails) room coming (drop start text)) (shown_at full (Ended fails) room coming (drop p.next text)) (Ok (Some i))
item_ended full room coming text fails start at i p s n =
    let e = Skipped-alone text fails start at s ∙ next_alone text fails at i p n in
    ((items_of (drop p.next text) fails, e, refl), shorter text fails start at i p s n, refl, tt, λ left m. ap (then_comes i) m ∙ sym e)

end_ended : (full : Bool) (room : ℕ) (coming : Option Coming) (text rest : Bytes) (fails : Bool) (start at : ℕ) → Skipped text fails start at → NoneComes text fails at None → AnswersAs (shown_at full (Ended fails) room coming (drop start text)) (shown_at full (Over None) room coming rest) (Ok None)
end_ended full room coming text rest fails start at s n =
    let e = Skipped-alone text fails start at s ∙ n.end in
    ((e, refl), omega arith, refl, tt, sym e)

-- it isn't for want of memory
not_refused : (full : Bool) (text : Bytes) (fails : Bool) (at : ℕ) (f : StreamFault) → NoneComes text fails at (Some f) → RefusesAs full (Err f)
not_refused full text fails at fault.OutOfMemory n = absurd (none_refused text fails at n)
not_refused full text fails at fault.ReadFailed n = tt
not_refused full text fails at fault.TruncatedData n = tt
not_refused full text fails at fault.BadNumber n = tt

fault_ended : (full : Bool) (room : ℕ) (coming : Option Coming) (text rest : Bytes) (fails : Bool) (start at : ℕ) (f : StreamFault) → Skipped text fails start at → NoneComes text fails at (Some f) → AnswersAs (shown_at full (Ended fails) room coming (drop start text)) (shown_at full (Over (Some f)) room coming rest) (Err f)
fault_ended full room coming text rest fails start at f s n =
    let e = Skipped-alone text fails start at s ∙ n.end in
    ((refl, inr e), omega arith, refl, not_refused full text fails at f n, inr (sym e))

number_before : (text : Bytes) (start at : ℕ) → Skipped text true start at → NoneComes text true at (Some fault.BadNumber) → MayComeIn Open (drop start text) (ended (shown_end (Some fault.BadNumber)))
number_before text start at s n = (record { bytes = []; fails = true }, sym (s.same [] true tt ∙ n.stays refl [] true tt))

number_open : (full : Bool) (room : ℕ) (coming : Option Coming) (text rest : Bytes) (start at : ℕ) → Skipped text true start at → NoneComes text true at (Some fault.BadNumber) → AnswersAs (shown_at full Open room coming (drop start text)) (shown_at full (Over (Some fault.BadNumber)) room coming rest) (Err fault.BadNumber)
number_open full room None text rest start at s n = (refl, omega arith, refl, tt, inr (number_before text start at s n))
number_open full room (Some c) text rest start at s n =
    let h = heard_upto room c in
    ((refl, inr (s.same h.bytes h.fails tt ∙ n.stays refl h.bytes h.fails tt)), omega arith, refl, tt, inr (number_before text start at s n))

last_again : (full : Bool) (room : ℕ) (coming : Option Coming) (bytes rest text : Bytes) (last : Option StreamFault) → AnswersAs (shown_at full (Over last) room coming bytes) (shown_at full (Over last) room coming rest) (answer_at text (found.End last))
last_again full room coming bytes rest text None = ((refl, refl), omega arith, refl, (refl, refl), refl)
last_again full room coming bytes rest text (Some f) = ((refl, inr refl), omega arith, refl, (refl, refl), inr refl)

-- what was found is answered, and the rest is left
answers : (full : Bool) (room : ℕ) (coming : Option Coming) (text : Bytes) (state new : State) (start at now : ℕ) (r : Found) → Looks text state start at r → is_whole state r ≡ true → Takes at state r now new → AnswersAs (shown_at full state room coming (drop start text)) (shown_at full new room coming (drop now text)) (answer_at text r)
answers full room coming text Open new start at now (found.Line p) l w t = rw (t.0, t.1) (item_open full room coming text start at (Line (bytes_at text p)) p l.0 l.1)
answers full room coming text Open new start at now (found.Data p) l w t = rw (t.0, t.1) (item_open full room coming text start at (Data (bytes_at text p)) p l.0 l.1)
answers full room coming text Open new start at now (found.End None) l w t = absurd cc
answers full room coming text Open new start at now (found.End (Some fault.OutOfMemory)) l w t = absurd cc
answers full room coming text Open new start at now (found.End (Some fault.ReadFailed)) l w t = absurd cc
answers full room coming text Open new start at now (found.End (Some fault.TruncatedData)) l w t = absurd cc
answers full room coming text Open new start at now (found.End (Some fault.BadNumber)) l w t = rw t.1 (number_open full room coming text (drop now text) start at l.0 l.1)
answers full room coming text (Ended fails) new start at now (found.Line p) l w t = rw (t.0, t.1) (item_ended full room coming text fails start at (Line (bytes_at text p)) p l.0 l.1)
answers full room coming text (Ended fails) new start at now (found.Data p) l w t = rw (t.0, t.1) (item_ended full room coming text fails start at (Data (bytes_at text p)) p l.0 l.1)
answers full room coming text (Ended fails) new start at now (found.End None) l w t = rw t.1 (end_ended full room coming text (drop now text) fails start at l.0 l.1)
answers full room coming text (Ended fails) new start at now (found.End (Some f)) l w t = rw t.1 (fault_ended full room coming text (drop now text) fails start at f l.0 l.1)
answers full room coming text (Over last) new start at now r l w t =
    let taken : Takes at (Over last) (found.End last) now new = subst (λ r. Takes at (Over last) r now new) l.1 t in
    subst (λ r. AnswersAs (shown_at full (Over last) room coming (drop start text)) (shown_at full new room coming (drop now text)) (answer_at text r)) (sym l.1) (rw taken.1 (last_again full room coming (drop start text) (drop now text) text last))

pub Answers-found : (full : Bool) (old : Seen) (room : ℕ) (coming : Option Coming) (text : Bytes) (state new : State) (start at now : ℕ) (r : Found) → Keeps old (shown_at full state room coming (drop start text)) → Looks text state start at r → is_whole state r ≡ true → Takes at state r now new → AnswersAs old (shown_at full new room coming (drop now text)) (answer_at text r)
Answers-found full old room coming text state new start at now r k l w t =
    let mid = shown_at full state room coming (drop start text) in
    let last = shown_at full new room coming (drop now text) in
    let here = answers full room coming text state new start at now r l w t in (
      Reads-kept old.stream mid.stream last.stream (answer_at text r) k.0 here.0,
      Falls-kept old.most mid.most last.most (answer_at text r) k.1 here.1,
      here.2,
      Repeats-kept old mid last (answer_at text r) k.2 here.3,
      Explains-kept _ _ _ (answer_at text r) k.3 here.4,
    )

-- ---- a look that takes nothing

nothing_skipped : (text : Bytes) (fails : Bool) (at : ℕ) → at ≤ length text → Skipped text fails at at
nothing_skipped text fails at l = record { from = omega arith; within = l; same = λ more then_fails g. refl }

-- what was found stands where the look ended
pub looks_here : (text : Bytes) (state : State) (start at : ℕ) (r : Found) → Looks text state start at r → Looks text state at at r
looks_here text Open start at r l = (nothing_skipped text true at l.0.within, l.1)
looks_here text (Ended fails) start at r l = (nothing_skipped text fails at l.0.within, l.1)
looks_here text (Over last) start at r l = (refl, l.1)

-- behind comments the same may come
pub skipped_keeps : (full : Bool) (state : State) (room : ℕ) (coming : Option Coming) (text : Bytes) (start at : ℕ) (r : Found) → Looks text state start at r → Keeps (shown_at full state room coming (drop start text)) (shown_at full state room coming (drop at text))
skipped_keeps full Open room None text start at r l =
    (tt, omega (arith, l.0.from, length-drop start text, length-drop at text), refl, λ s m. (m.0, m.1 ∙ sym (l.0.same m.0.bytes m.0.fails tt)))
skipped_keeps full Open room (Some c) text start at r l =
    let h = heard_upto room c in
    (ap (λ s. Some s) (sym (l.0.same h.bytes h.fails tt)), omega (arith, l.0.from, length-drop start text, length-drop at text), refl, λ s m. (m.0, m.1 ∙ sym (l.0.same m.0.bytes m.0.fails tt)))
skipped_keeps full (Ended fails) room coming text start at r l =
    let same = Skipped-alone text fails start at l.0 in
    (ap (λ s. Some s) (sym same), omega (arith, l.0.from, length-drop start text, length-drop at text), refl, λ s m. m ∙ sym same)
skipped_keeps full (Over last) room coming text start at r l = (refl, omega arith, refl, λ s m. m)

-- what is kept twice is kept
stream_kept : (old mid new : Option Stream) → KeepsStream old mid → KeepsStream mid new → KeepsStream old new
stream_kept None mid new k m = tt
stream_kept (Some s) mid new k m = subst (λ o. KeepsStream o new) k m

over_kept : (old mid new : Seen) → KeepsOver old.over old mid → KeepsOver mid.over mid new → KeepsOver old.over old new
over_kept old mid new k m = by old.over refl k where
  by : (o : Option (Option StreamFault)) → o ≡ old.over → KeepsOver o old mid → KeepsOver o old new
  by None e k = subst (λ o. KeepsOver o mid new) k m
  by (Some last) e k = subst (λ o. KeepsOver o old new) (sym e) (subst (λ (s : Seen). KeepsOver s.over s new) k m)

pub kept_twice : (old mid new : Seen) → Keeps old mid → Keeps mid new → Keeps old new
kept_twice old mid new k m =
    (stream_kept old.stream mid.stream new.stream k.0 m.0, omega (arith, k.1, m.1), over_kept old mid new k.2 m.2, λ s c. k.3 s (m.3 s c))

-- ---- what comes next, where it is no block

line_no_block : (s left : Stream) (bytes : Bytes) → s ≡ then_comes (Line bytes) left → is_ok (block s) ≡ false
unfolding block_in
line_no_block s left bytes e = rw e refl

end_no_block : (s : Stream) (e : End) → s ≡ ended e → is_ok (block s) ≡ false
unfolding block_in
end_no_block s Finished e = rw e refl
end_no_block s (Failed f) e = rw e refl

-- a line, the end or a fault that is found
pub no_block : (full : Bool) (state : State) (room : ℕ) (coming : Option Coming) (text : Bytes) (at : ℕ) (r : Found) → Looks text state at at r → is_whole state r ≡ true → ((p : Place) → r ≡ found.Data p → ⊥) → ComesNoBlock (shown_at full state room coming (drop at text))
no_block full Open room coming text at (found.Line p) l w n = λ s m. line_no_block s _ _ (m.1 ∙ l.1.next m.0.bytes m.0.fails tt)
no_block full Open room coming text at (found.Data p) l w n = absurd (n p refl)
no_block full Open room coming text at (found.End None) l w n = absurd cc
no_block full Open room coming text at (found.End (Some fault.OutOfMemory)) l w n = absurd cc
no_block full Open room coming text at (found.End (Some fault.ReadFailed)) l w n = absurd cc
no_block full Open room coming text at (found.End (Some fault.TruncatedData)) l w n = absurd cc
no_block full Open room coming text at (found.End (Some fault.BadNumber)) l w n = λ s m. end_no_block s _ (m.1 ∙ l.1.stays refl m.0.bytes m.0.fails tt)
no_block full (Ended fails) room coming text at (found.Line p) l w n = λ s m. line_no_block s _ _ (m ∙ next_alone text fails at _ p l.1)
no_block full (Ended fails) room coming text at (found.Data p) l w n = absurd (n p refl)
no_block full (Ended fails) room coming text at (found.End e) l w n = λ s m. end_no_block s _ (m ∙ l.1.end)
no_block full (Over last) room coming text at r l w n = λ s m. end_no_block s _ m
