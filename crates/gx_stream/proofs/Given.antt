-- A block that is given away, as an answer.
use Rattle.std.proofs.Common.{◌≡◌, ℕ, ◌+◌, ◌-◌, ◌≤◌, Bool, Option, Some, None, Ok, take, drop, slice_range, refl, sym, ap, subst, ◌∙◌, arith}
use Rattle.std.proofs.lemmas.List.{drop-take, take-take}
use Rattle.gx_model.specs.Texts.{Bytes}
use Rattle.gx_text.specs.Devices.{Coming}
use Rattle.gx_model.specs.Streams.Items.{Item, Data}
use Rattle.gx_stream.specs.Reading.{Seen, AnswersAs, ReadsAs, RepeatsAs, MayCome}
use Rattle.gx_stream.specs.Input.{SameToCome, shown_most, shown_stream, shown_unread}
use Rattle.gx_stream.specs.declared.input.State.{State}
use Rattle.gx_stream.proofs.Views.{shown_at}
use Rattle.gx_stream.specs.declared.fault.StreamFault.{StreamFault}

-- what stands at a place of the front of a text
pub front_part : (text : Bytes) (came start end : ℕ) → start ≤ end → end ≤ came → drop start (take end text) ≡ slice_range (take came text) start end
front_part text came start end l m =
    let there : start + (end - start) ≡ end = omega (arith, l) in
    ap (drop start) (sym (take-take end came text m)) ∙ ap (λ k. drop start (take k (take came text))) (sym there) ∙ drop-take start (end - start) (take came text)

-- where the same isn't read yet, the same may still come
pub same_rest : (full now : Bool) (state : State) (room : ℕ) (coming : Option Coming) (old new : Bytes) → new ≡ old → SameToCome (shown_at full state room coming old) (shown_at now state room coming new)
same_rest full now state room coming old new e = record {
  stream = ap (shown_stream state room coming) e;
  most = ap (shown_most state room) e;
  over = refl;
  unread = ap (shown_unread state) e;
  whole = refl;
}

-- what is over answers no item
repeats_none : (over : Option (Option StreamFault)) (old mid new : Seen) (i : Item) → RepeatsAs over old mid (Ok (Some i)) → RepeatsAs over old new (Ok (Some i))
repeats_none None old mid new i r = tt
repeats_none (Some None) old mid new i r = absurd (cc r.0)
repeats_none (Some (Some f)) old mid new i r = absurd (cc r.0)

same_may_come : (old new : Seen) → SameToCome old new → MayCome new ≡ MayCome old
same_may_come old new s = rw (s.over, s.unread, s.whole) refl

same_item : (old mid new : Seen) (i : Item) → AnswersAs old mid (Ok (Some i)) → SameToCome mid new → AnswersAs old new (Ok (Some i))
same_item old mid new i a s = (
  subst (λ o. ReadsAs old.stream o (Ok (Some i))) (sym s.stream) a.0,
  omega (arith, a.1, s.most),
  s.over ∙ a.2,
  repeats_none old.over old mid new i a.3,
  λ left m. a.4 left (subst (λ p. p left) (same_may_come mid new s) m),
)

-- the bytes of the block that comes next, with the same behind it
pub block_given : (old mid new : Seen) (bytes given : Bytes) → AnswersAs old mid (Ok (Some (Data bytes))) → SameToCome mid new → given ≡ bytes → AnswersAs old new (Ok (Some (Data given)))
block_given old mid new bytes given a s e = subst (λ b. AnswersAs old new (Ok (Some (Data b)))) (sym e) (same_item old mid new (Data bytes) a s)
