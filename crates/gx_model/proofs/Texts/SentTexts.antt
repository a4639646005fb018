-- What a sink took of texts that were sent one after the other, and the whole that they make.
use Rattle.std.proofs.Common.{◌≡◌, ℕ, true, refl, sym, ap, subst, ◌∙◌, arith, [], ◌++◌, take, drop, append_assoc, append-nil, length-append, Option, None, Some, Ok, Err}
use Rattle.std.proofs.lemmas.List.{take-append-drop, length-drop}
use Rattle.gx_model.specs.Texts.{Bytes}
use Rattle.gx_model.specs.Texts.Sinks.{FailedWithin, Sends, Taken, Took}

-- a text that wasn't sent whole failed within
pub failed_within : (was now : Option Taken) (text : Bytes) (n : ℕ) → Sends was now text (Err n) → FailedWithin was now text
failed_within None now text n h = tt
failed_within (Some w) now text n h =
    let long = length-drop n text in
    (take n text, drop n text, sym (take-append-drop n text), omega (arith, h.0), h.1)

-- a text that was sent was taken
pub sent_took : (was now : Option Taken) (text : Bytes) (u : Unit {0}) → Sends was now text (Ok u) → Took was now text
sent_took None now text u h = tt
sent_took (Some w) now text u h = h.0

-- no text is taken by a sink that is as it was
pub took_nothing : (was : Option Taken) → Took was was []
took_nothing None = tt
took_nothing (Some w) = ap (λ x. Some (record { bytes = x; failed = w.failed })) (sym (append-nil w.bytes))

-- one text behind another
pub took_both : (was mid now : Option Taken) (before text : Bytes) → Took was mid before → Took mid now text → Took was now (before ++ text)
took_both None mid now before text h k = tt
took_both (Some w) mid now before text h k =
    subst (λ m. Took m now text) h k ∙ ap (λ x. Some (record { bytes = x; failed = w.failed })) (append_assoc w.bytes before text)

-- a failure within the second of two texts
pub failed_after : (was mid now : Option Taken) (before text : Bytes) → Took was mid before → FailedWithin mid now text → FailedWithin was now (before ++ text)
failed_after None mid now before text h k = tt
failed_after (Some w) mid now before text h k =
    let l = subst (λ m. FailedWithin m now text) h k in (
      before ++ l.0,
      l.1,
      ap (λ x. before ++ x) l.2 ∙ sym (append_assoc before l.0 l.1),
      l.3,
      l.4 ∙ ap (λ x. Some (record { bytes = x; failed = true })) (append_assoc w.bytes before l.0),
    )

-- a failure within a text is one within a longer text
pub failed_longer : (was now : Option Taken) (text rest : Bytes) → FailedWithin was now text → FailedWithin was now (text ++ rest)
failed_longer None now text rest h = tt
failed_longer (Some w) now text rest h =
    let long = length-append h.1 rest in
    (h.0, h.1 ++ rest, ap (λ x. x ++ rest) h.2 ∙ append_assoc h.0 h.1 rest, omega (arith, h.3, long), h.4)

-- ---- a text in pieces

-- a front of a text went out, and this much of it is left
pub record IsLeft (whole : Bytes) (was now : Option Taken) (left : Bytes) : Type 0 where
  pub front : Bytes
  pub parts : whole ≡ front ++ left
  pub took : Took was now front

-- before anything goes out all is left
pub all_left : (whole : Bytes) (was : Option Taken) → IsLeft whole was was whole
all_left whole was = record { front = []; parts = refl; took = took_nothing was }

-- with one text more less is left
pub less_left : (whole : Bytes) (was mid now : Option Taken) (text left : Bytes) → IsLeft whole was mid (text ++ left) → Took mid now text → IsLeft whole was now left
less_left whole was mid now text left h k = record {
  front = h.front ++ text;
  parts = h.parts ∙ sym (append_assoc h.front text left);
  took = took_both was mid now h.front text h.took k;
}

-- a failure within the next text is one within the whole
pub left_fails : (whole : Bytes) (was mid now : Option Taken) (text left : Bytes) → IsLeft whole was mid (text ++ left) → FailedWithin mid now text → FailedWithin was now whole
left_fails whole was mid now text left h k =
    subst (FailedWithin was now) (append_assoc h.front text left ∙ sym h.parts) (failed_longer was now (h.front ++ text) left (failed_after was mid now h.front text h.took k))

-- nothing is left
pub none_left : (whole : Bytes) (was now : Option Taken) (left : Bytes) → left ≡ [] → IsLeft whole was now left → Took was now whole
none_left whole was now left none h = subst (Took was now) (sym (h.parts ∙ ap (λ t. h.front ++ t) none ∙ append-nil h.front)) h.took
