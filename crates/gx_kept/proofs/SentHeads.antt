-- What stands before the pack of a bundle goes out part by part.
use Rattle.std.proofs.Common.{◌≡◌, ℕ, ◌+◌, ◌<◌, ◌≤◌, List, [], ◌∷◌, ◌++◌, append_assoc, codes, drop, length, Option, Some, None, Result, Ok, Err, refl, sym, ap, ◌∙◌, subst}
use Rattle.std.specs.List.{flat_map}
use Rattle.gx_model.specs.Objects.{hex, line}
use Rattle.gx_model.specs.Records.Publishing.{Ref}
use Rattle.gx_model.specs.Stores.StoreText.{stored_ref}
use Rattle.gx_model.specs.Texts.{Bytes}
use Rattle.gx_model.specs.Texts.Sinks.{FailedWithin, Taken, Took}
use Rattle.gx_model.proofs.Texts.SentTexts.{IsLeft, left_fails, less_left, took_nothing}
use Rattle.gx_text.specs.declared.device.Failed.{Failed}
use Rattle.gx_file.specs.Sending.{Sent}
use Rattle.gx_file.proofs.SentTexts.{last_left}
use Rattle.gx_pack.specs.Bundles.{bundle_head, bundle_mark, had_line, held_line}
use Rattle.gx_kept.specs.Telling.{head_line, head_refs}

-- HEAD's line, and those of refs
with_head : (head : Option Bytes) (lines : Bytes) (refs : List Ref) → lines ≡ flat_map held_line refs → head_line head ++ lines ≡ flat_map held_line (head_refs head ++ refs)
with_head None lines refs e = e
with_head (Some called) lines refs e = ap (λ t. held_line (codes "HEAD", called) ++ t) e

-- the lines of refs, behind HEAD's, and the empty one
abbrev pub refs_text : Option Bytes → Bytes → Bytes
refs_text head lines = (head_line head ++ lines) ++ 10 ∷ []

-- they go out where their parts do, one after the other
pub refs_sent : (was now : Option Taken) (answer : Result (Unit {0}) Failed) (digits called lines : Bytes) → digits ≡ hex called
    → Sent (digits ++ (32 ∷ (codes "HEAD" ++ (10 ∷ (lines ++ 10 ∷ []))))) was now answer → Sent (refs_text (Some called) lines) was now answer
refs_sent was now answer digits called lines e h =
    subst (λ t. Sent t was now answer) (ap (λ d. d ++ (32 ∷ (codes "HEAD" ++ (10 ∷ (lines ++ 10 ∷ []))))) e ∙ parts (hex called) (codes "HEAD") lines) h
  where
    parts : (digits word lines : Bytes) → digits ++ (32 ∷ (word ++ (10 ∷ (lines ++ 10 ∷ [])))) ≡ (line digits word ++ lines) ++ 10 ∷ []
    parts digits word lines = simp append_assoc

module _ (had : List Bytes) (head : Option Bytes) (lines : Bytes) (refs : List Ref) (are : lines ≡ flat_map stored_ref refs) (was one two : Option Taken) where
  abbrev whole : Bytes
  whole = bundle_head had (head_refs head ++ refs)

  abbrev had_text : Bytes
  had_text = flat_map had_line had

  head_parts : whole ≡ bundle_mark ++ (had_text ++ refs_text head lines)
  unfolding bundle_head
  head_parts = ap (λ t. bundle_mark ++ (had_text ++ (t ++ 10 ∷ []))) (sym (with_head head lines refs are))

  begun : IsLeft whole was was (bundle_mark ++ (had_text ++ refs_text head lines))
  begun = record { front = []; parts = head_parts; took = took_nothing was }

  -- the sink fails within the first line
  pub mark_fails : FailedWithin was one bundle_mark → FailedWithin was one whole
  mark_fails h = left_fails whole was was one bundle_mark (had_text ++ refs_text head lines) begun h

  module _ (mark : Took was one bundle_mark) where
    behind_mark : IsLeft whole was one (had_text ++ refs_text head lines)
    behind_mark = less_left whole was was one bundle_mark (had_text ++ refs_text head lines) begun mark

    -- or within the lines of what is had
    pub had_fails : FailedWithin one two had_text → FailedWithin was two whole
    had_fails h = left_fails whole was one two had_text (refs_text head lines) behind_mark h

    -- or what comes of the refs comes of all
    pub refs_go : Took one two had_text → (now : Option Taken) (answer : Result (Unit {0}) Failed) → Sent (refs_text head lines) two now answer → Sent whole was now answer
    refs_go h now answer s = last_left whole was two now (refs_text head lines) answer (less_left whole was one two had_text (refs_text head lines) behind_mark h) s
