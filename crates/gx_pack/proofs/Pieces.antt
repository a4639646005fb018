-- Texts that go out one after the other, and the whole that they make.
use Rattle.std.proofs.Common.{◌≡◌, [], ◌++◌, Result, Ok, Err, refl, sym, subst, ◌∙◌, append_assoc, append-nil}
use Rattle.sha1.specs.Sha1.{Holds}
use Rattle.gx_model.specs.Texts.{Bytes}
use Rattle.gx_model.proofs.Texts.SentTexts.{failed_after, failed_longer, took_both, took_nothing}
use Rattle.gx_text.specs.declared.device.Failed.{Failed}
use Rattle.gx_pack.specs.Writing.{Sent, Writes}

-- a text behind another one
pub writes_both : (a b : Bytes) (old mid new : Sent) (r : Result (Unit {0}) Failed) → Writes old mid a (Ok tt) → Writes mid new b r → Writes old new (a ++ b) r
writes_both a b old mid new (Ok x) h k = (
  k.0 ∙ h.0,
  (took_both old.taken mid.taken new.taken a b h.1.0 k.1.0, λ before is. subst (Holds new.hasher) (append_assoc before a b) (k.1.1 (before ++ a) (h.1.1 before is))),
)
writes_both a b old mid new (Err e) h k = (k.0 ∙ h.0, failed_after old.taken mid.taken new.taken a b h.1.0 k.1)

-- what stops within a text stops within a longer one
pub writes_sooner : (a b : Bytes) (old new : Sent) (e : Failed) → Writes old new a (Err e) → Writes old new (a ++ b) (Err e)
writes_sooner a b old new e h = (h.0, failed_longer old.taken new.taken a b h.1)

-- no text
pub writes_none : (old : Sent) → Writes old old [] (Ok tt)
writes_none old = (refl, (took_nothing old.taken, λ before is. subst (Holds old.hasher) (sym (append-nil before)) is))

-- ---- a text in pieces

-- a front of a text went out, and this much of it is left
pub record IsLeft (whole : Bytes) (old now : Sent) (left : Bytes) : Type 0 where
  pub front : Bytes
  pub parts : whole ≡ front ++ left
  pub wrote : Writes old now front (Ok tt)

-- before anything goes out all is left
pub all_left : (whole left : Bytes) (old : Sent) → whole ≡ left → IsLeft whole old old left
all_left whole left old e = record { front = []; parts = e; wrote = writes_none old }

-- with one text more less is left
pub less_left : (whole text left : Bytes) (old mid now : Sent) → IsLeft whole old mid (text ++ left) → Writes mid now text (Ok tt) → IsLeft whole old now left
less_left whole text left old mid now h k = record {
  front = h.front ++ text;
  parts = h.parts ∙ sym (append_assoc h.front text left);
  wrote = writes_both h.front text old mid now (Ok tt) h.wrote k;
}

-- a failure within the next text is one within the whole
pub left_fails : (whole text left : Bytes) (old mid now : Sent) (e : Failed) → IsLeft whole old mid (text ++ left) → Writes mid now text (Err e) → Writes old now whole (Err e)
left_fails whole text left old mid now e h k =
    subst (λ t. Writes old now t (Err e)) (append_assoc h.front text left ∙ sym h.parts)
    (writes_sooner (h.front ++ text) left old now e (writes_both h.front text old mid now (Err e) h.wrote k))

-- the last text goes out, or fails
pub last_left : (whole text : Bytes) (old mid now : Sent) (r : Result (Unit {0}) Failed) → IsLeft whole old mid text → Writes mid now text r → Writes old now whole r
last_left whole text old mid now r h k = subst (λ t. Writes old now t r) (sym h.parts) (writes_both h.front text old mid now r h.wrote k)
