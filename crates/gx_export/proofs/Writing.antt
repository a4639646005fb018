-- Texts that are written one after the other.
use Rattle.std.proofs.Common.{◌≡◌, ℕ, suc, ◌+◌, ◌<◌, List, [], ◌∷◌, ◌++◌, length, take, drop, get_or, true, Option, Some, None, Result, Ok, Err, inl, inr, refl, sym, ap, subst, ◌∙◌, arith, append_assoc}
use Rattle.std.specs.List.{flat_map}
use Rattle.std.specs.Result.{OnOk}
use Rattle.std.proofs.lemmas.Grind.{flat_map-append}
use Rattle.std.proofs.lemmas.List.{append-nil, length-append, length-drop, length-take, take-append-drop}
use Rattle.std.proofs.Math.Seq.{take-suc, drop-cons}
use Rattle.gx_model.specs.Texts.{Bytes}
use Rattle.gx_model.specs.Texts.Sinks.{Sends, Taken, Took, TookFront}
use Rattle.gx_model.specs.Streams.Items.{Item}
use Rattle.gx_model.specs.Export.{item_text, items_text}
use Rattle.gx_model.proofs.Texts.SentTexts.{took_both, took_nothing}
use Rattle.gx_export.specs.Outputs.{Goes, Sent, Stops, StopsAfter, StopsAt, Writes, most}
use Rattle.gx_export.specs.declared.fault.ExportFault.{ExportFault}
use Rattle.gx_export.specs.declared.fault.ExportFault.TheVariants.{OutOfMemory, Unsupported, WriteFailed}

-- what holds in any case
pub on_any : {X E : Type 0} (result : Result X E) (P : Type 0) → P → OnOk result P
on_any (Ok x) P p = p
on_any (Err e) P p = tt

-- of a text nothing was taken yet
pub nothing_yet : (was : Option Taken) (text : Bytes) → TookFront was was text
nothing_yet was text = ([], text, refl, took_nothing was)

-- ---- stops

longer : (x y : Bytes) → 0 < length x → 0 < length (x ++ y)
longer x y k = omega (arith, length-append x y)

-- what stops within a text stops within a longer one
pub stopped_sooner : (before count : ℕ) (was now : Option Taken) (a b : Bytes) → StopsAt before count was now a → StopsAt before count was now (a ++ b)
stopped_sooner before count was now a b h = (h.0, h.1 ++ b, ap (λ x. x ++ b) h.2 ∙ append_assoc h.0 h.1 b, longer h.1 b h.3, h.4, h.5)

stops_sooner : (old new : Sent) (a b : Bytes) (e : ExportFault) → Stops old new a e → Stops old new (a ++ b) e
stops_sooner old new a b OutOfMemory h = (h.0, h.1 ++ b, ap (λ x. x ++ b) h.2 ∙ append_assoc h.0 h.1 b, h.3)
stops_sooner old new a b Unsupported h = absurd h
stops_sooner old new a b (WriteFailed count) h = stopped_sooner old.bytes count old.taken new.taken a b h

-- a sink that failed behind what it took before failed behind both
fails_later : (count : ℕ) (was between now : Option Taken) (a front : Bytes) → Took was between a → StopsAfter count between now front → StopsAfter count was now (a ++ front)
fails_later count None between now a front h k = tt
fails_later count (Some was) between now a front h k = elim (subst (λ t. StopsAfter count t now front) h k) [
  | inl t ↦ inl (t ∙ ap (λ x. Some (record { bytes = x; failed = true })) (append_assoc was.bytes a front))
  | inr t ↦ inr (t.0, t.1 ∙ ap (λ x. Some (record { bytes = x; failed = was.failed })) (append_assoc was.bytes a front))
]

-- what stops behind a text that was taken stops within both
pub stopped_later : (before mid count : ℕ) (was between now : Option Taken) (a b : Bytes) → mid ≡ before + length a → Took was between a → StopsAt mid count between now b → StopsAt before count was now (a ++ b)
stopped_later before mid count was between now a b m h k =
    (a ++ k.0, k.1, ap (λ x. a ++ x) k.2 ∙ sym (append_assoc a k.0 k.1), k.3, (let l = k.4 in omega (arith, length-append a k.0)), fails_later count was between now a k.0 h k.5)

stops_later : (old mid new : Sent) (a b : Bytes) (e : ExportFault) → Goes old mid a (Ok tt) → Stops mid new b e → Stops old new (a ++ b) e
stops_later old mid new a b OutOfMemory h k = (a ++ k.0, k.1, ap (λ x. a ++ x) k.2 ∙ sym (append_assoc a k.0 k.1), took_both old.taken mid.taken new.taken a k.0 h.2 k.3)
stops_later old mid new a b Unsupported h k = absurd k
stops_later old mid new a b (WriteFailed count) h k = stopped_later old.bytes mid.bytes count old.taken mid.taken new.taken a b h.0 h.2 k

-- ---- writes

goes_later : (old mid new : Sent) (a b : Bytes) (r : Result (Unit {0}) ExportFault) → Goes old mid a (Ok tt) → Goes mid new b r → Goes old new (a ++ b) r
goes_later old mid new a b (Ok x) h k = ((let m = h.0 in let n = k.0 in omega (arith, length-append a b)), (λ m. k.1 (h.1 m)), took_both old.taken mid.taken new.taken a b h.2 k.2)
goes_later old mid new a b (Err e) h k = stops_later old mid new a b e h k

-- a text that is written behind another one
pub writes_later : (old mid new : Sent) (a b : Bytes) (r : Result (Unit {0}) ExportFault) → Writes old mid a (Ok tt) → Writes mid new b r → Writes old new (a ++ b) r
writes_later old mid new a b r h k = (k.0 ∙ h.0, goes_later old mid new a b r h.1 k.1)

-- the export stops within the first of two texts
pub writes_sooner : (old new : Sent) (a b : Bytes) (e : ExportFault) → Writes old new a (Err e) → Writes old new (a ++ b) (Err e)
writes_sooner old new a b e h = (h.0, stops_sooner old new a b e h.1)

-- memory runs out before a text
pub stops_first : (old : Sent) (text : Bytes) → Writes old old text (Err OutOfMemory)
stops_first old text = (refl, nothing_yet old.taken text)

-- memory runs out behind a text
pub stops_last : (old new : Sent) (text : Bytes) → Writes old new text (Ok tt) → Writes old new text (Err OutOfMemory)
stops_last old new text h = (h.0, (text, [], sym (append-nil text), h.1.2))

-- nothing is written
pub writes_none : (old : Sent) → Writes old old [] (Ok tt)
writes_none old = (refl, (omega arith, (λ h. h), took_nothing old.taken))

-- ---- items

-- the text of items behind others
pub items_append : (xs ys : List Item) → items_text (xs ++ ys) ≡ items_text xs ++ items_text ys
items_append xs ys = flat_map-append item_text xs ys

-- items are written behind others, or the export stops within them
pub items_later : (old mid new : Sent) (xs ys : List Item) (r : Result (Unit {0}) ExportFault) → Writes old mid (items_text xs) (Ok tt) → Writes mid new (items_text ys) r → Writes old new (items_text (xs ++ ys)) r
items_later old mid new xs ys r h k = subst (λ t. Writes old new t r) (sym (items_append xs ys)) (writes_later old mid new (items_text xs) (items_text ys) r h k)

-- what stops within items stops within these and others
pub items_sooner : (old new : Sent) (xs ys : List Item) (e : ExportFault) → Writes old new (items_text xs) (Err e) → Writes old new (items_text (xs ++ ys)) (Err e)
items_sooner old new xs ys e h = subst (λ t. Writes old new t (Err e)) (sym (items_append xs ys)) (writes_sooner old new (items_text xs) (items_text ys) e h)

-- ---- one text

sent_up_to : (before n : ℕ) (was now : Option Taken) (text : Bytes) → n < length text → Sends was now text (Err n) → StopsAt before (before + n) was now text
sent_up_to before n was now text h k = (take n text, drop n text, sym (take-append-drop n text), left, ap (λ m. before + m) (sym front), after was k)
  where
    after : (was : Option Taken) → Sends was now text (Err n) → StopsAfter (before + n) was now (take n text)
    after None k = tt
    after (Some was) k = inl k.1

    left : 0 < length (drop n text)
    left = omega (arith, length-drop n text)

    front : length (take n text) ≡ n
    front = omega (arith, length-take n text)

-- a front of a text is sent in part
pub front_sent_up_to : (before n count : ℕ) (was now : Option Taken) (text : Bytes) → n < length (take count text) → Sends was now (take count text) (Err n) → StopsAt before (before + n) was now text
front_sent_up_to before n count was now text h k =
    subst (StopsAt before (before + n) was now) (take-append-drop count text) (stopped_sooner before (before + n) was now (take count text) (drop count text) (sent_up_to before n was now (take count text) h k))

-- a front of a text is sent, up to the most bytes
pub front_sent : (before count : ℕ) (was now : Option Taken) (text : Bytes) → count < length text → before + count ≡ most → Sends was now (take count text) (Ok tt) → StopsAt before (before + count) was now text
front_sent before count was now text h m k = (take count text, drop count text, sym (take-append-drop count text), left, ap (λ n. before + n) (sym front), after was k)
  where
    after : (was : Option Taken) → Sends was now (take count text) (Ok tt) → StopsAfter (before + count) was now (take count text)
    after None k = tt
    after (Some was) k = inr (m, k.0)

    left : 0 < length (drop count text)
    left = omega (arith, length-drop count text)

    front : length (take count text) ≡ count
    front = omega (arith, length-take count text)

-- ---- the texts of a list

module _ {X Y : Type 0} (f : X → List Y) (xs : List X) (i : ℕ) (d : X) (h : i < length xs) where
  -- one more
  pub text_next : flat_map f (take (i + 1) xs) ≡ flat_map f (take i xs) ++ f (get_or xs i d)
  text_next =
      let step : i + 1 ≡ suc i = omega arith in
      ap (λ n. flat_map f (take n xs)) step ∙ ap (flat_map f) (take-suc xs i d h) ∙ flat_map-append f (take i xs) (get_or xs i d ∷ []) ∙ ap (λ t. flat_map f (take i xs) ++ t) (append-nil (f (get_or xs i d)))

  -- those before, this one, and those behind it
  pub text_parts : flat_map f xs ≡ flat_map f (take i xs) ++ (f (get_or xs i d) ++ flat_map f (drop (suc i) xs))
  text_parts =
      ap (flat_map f) (sym (take-append-drop i xs)) ∙ flat_map-append f (take i xs) (drop i xs) ∙ ap (λ t. flat_map f (take i xs) ++ flat_map f t) (drop-cons xs i d h)

module _ {X : Type 0} (f : X → Bytes) (xs : List X) (i : ℕ) (d : X) (h : i < length xs) where
  -- what stops within one text stops within all
  pub stops_within : (old mid new : Sent) (e : ExportFault) → Writes old mid (flat_map f (take i xs)) (Ok tt) → Writes mid new (f (get_or xs i d)) (Err e) → Writes old new (flat_map f xs) (Err e)
  stops_within old mid new e k s =
      subst (λ t. Writes old new t (Err e)) (sym (text_parts f xs i d h))
      (writes_later old mid new (flat_map f (take i xs)) (f (get_or xs i d) ++ flat_map f (drop (suc i) xs)) (Err e) k (writes_sooner mid new (f (get_or xs i d)) (flat_map f (drop (suc i) xs)) e s))

  -- one text more is written
  pub writes_next : (old mid new : Sent) → Writes old mid (flat_map f (take i xs)) (Ok tt) → Writes mid new (f (get_or xs i d)) (Ok tt) → Writes old new (flat_map f (take (i + 1) xs)) (Ok tt)
  writes_next old mid new k s = subst (λ t. Writes old new t (Ok tt)) (sym (text_next f xs i d h)) (writes_later old mid new (flat_map f (take i xs)) (f (get_or xs i d)) (Ok tt) k s)
