-- The lines of what revisions show, one after the other.
use Rattle.std.proofs.Common.{◌≡◌, ◌∙◌, ℕ, zero, suc, ◌+◌, ◌<◌, arith, refl, sym, ap, List, [], ◌∷◌, ◌++◌, append-nil, drop, length, get_or, Option, None, Some, Result, Ok, Err}
use Rattle.std.specs.List.{flat_map}
use Rattle.std.specs.Prelude.{IfSome}
use Rattle.std.proofs.lemmas.Grind.{flat_map-append}
use Rattle.gx_model.specs.declared.objects.Kind.{Kind}
use Rattle.gx_model.specs.Faults.{◌>>=◌}
use Rattle.gx_model.specs.Histories.{History, Records}
use Rattle.gx_model.specs.Records.HistoryOf.{history_of}
use Rattle.gx_model.specs.Revisions.{Revision, revision_of}
use Rattle.gx_model.specs.Revisions.Denotation.{Shown, denoted}
use Rattle.gx_model.specs.Revisions.Ranges.{WordFault, each_word}
use Rattle.gx_model.specs.Texts.{Bytes}
use Rattle.gx_questions.specs.Answers.{Refuses}
use Rattle.gx_questions.specs.declared.fault.AskFault.{AskFault}
use Rattle.gx_questions.specs.declared.fault.AskFault.TheVariants as ask
use Rattle.gx_rev.specs.Answers.{IsNamed, shown_by}
use Rattle.gx_rev.specs.RevFaults.{fault_of}
use Rattle.gx_rev.specs.declared.shown.Shown.{Shown as Answer}
use Rattle.gx_print.specs.Stored.{all_words, name_line, names_text, shown_line}
use Rattle.gx_print.proofs.ReadWords.{AreRead, all_read, next_fails, next_read}
use Rattle.gx_print.proofs.WordsRead.{lines_named}
use Rattle.gx_told.specs.Faults.{refused_at}
use Rattle.gx_told.specs.Printing.{RefusesWord, lines_text}

-- what is left of a list from a place on
pub rest_from : {X : Type 0} (xs : List X) (i : ℕ) (x d : X) → i < length xs → x ≡ get_or xs i d → drop i xs ≡ x ∷ drop (i + 1) xs
rest_from [] i x d h e = absurd (omega arith)
rest_from (y ∷ ys) zero x d h e = ap (λ z. z ∷ ys) (sym e)
rest_from (y ∷ ys) (suc i) x d h e = let s : suc i + 1 ≡ suc (i + 1) = omega arith in rw s (rest_from ys i x d (omega arith) e)

-- what is printed of words that were read
pub names_read : (name : Kind → Bytes → Bytes) (h : History) (words : List Bytes) (asked : List Revision) → each_word revision_of words ≡ Ok asked → names_text name h words ≡ lines_text name h asked
names_read name h words asked e = ap (λ w. all_words (w >>= λ rs. each_word (denoted name h) rs >>= λ shown. Ok (flat_map (name_line name) shown))) e

module _ (name : Kind → Bytes → Bytes) (all : List Revision) where
  -- the first revisions have these lines, and the others are left
  pub record AreLines (left : List Revision) (count : ℕ) (lines : Bytes) (r : Records) : Type 0 where
    pub shown : List Shown
    pub read : AreRead (denoted name (history_of r)) all left count shown
    pub made : lines ≡ flat_map (name_line name) shown

  pub no_lines : (r : Records) → AreLines all 0 [] r
  no_lines r = record { shown = []; read = by (each_word (denoted name (history_of r)) all); made = refl }
    where
      by : (d : Result (List Shown) WordFault) → d ≡ (d >>= λ ys. Ok ([] ++ ys))
      by (Ok ys) = refl
      by (Err e) = refl

  -- one line more
  pub next_line : (left : List Revision) (x : Revision) (count : ℕ) (lines : Bytes) (shown : Answer) (r : Records) → AreLines (x ∷ left) count lines r → denoted name (history_of r) x ≡ Ok (shown_by r shown) → IsNamed name r shown
      → AreLines left (count + 1) (lines ++ shown_line shown) r
  next_line left x count lines shown r h e named =
      let one = ap (λ x. lines ++ x) (sym (append-nil (shown_line shown)) ∙ lines_named name r (shown ∷ []) (named, tt)) in
      let more = ap (λ x. x ++ flat_map (name_line name) (shown_by r shown ∷ [])) h.made in
      record {
        shown = h.shown ++ shown_by r shown ∷ [];
        read = next_read (denoted name (history_of r)) all left x count h.shown (shown_by r shown) e h.read;
        made = one ∙ more ∙ sym (flat_map-append (name_line name) h.shown (shown_by r shown ∷ []));
      }

  -- all lines
  pub last_line : (count : ℕ) (lines : Bytes) (r : Records) → AreLines [] count lines r → lines_text name (history_of r) all ≡ Ok lines
  last_line count lines r h =
      ap (λ w. all_words (w >>= λ shown. Ok (flat_map (name_line name) shown))) (all_read (denoted name (history_of r)) all count h.shown h.read) ∙ ap Ok (sym h.made)

  -- the next revision is refused
  pub line_refused : (told : Option Records) (left : List Revision) (x : Revision) (count number : ℕ) (lines : Bytes) (fault : AskFault) → number ≡ count + 1 → IfSome told (AreLines (x ∷ left) count lines) → Refuses told (λ r. denoted name (history_of r) x) fault
      → IfSome told (λ r. RefusesWord (refused_at number fault) (lines_text name (history_of r) all))
  line_refused None left x count number lines fault n h k = tt
  line_refused (Some r) left x count number lines ask.OutOfMemory n h k = tt
  line_refused (Some r) left x count number lines ask.ReadFailed n h k = tt
  line_refused (Some r) left x count number lines ask.Damaged n h k = absurd (cc k)
  line_refused (Some r) left x count number lines (ask.Revision kind) n h k =
      let m : 1 + count ≡ number = omega arith in
      ap (λ w. all_words (w >>= λ shown. Ok (flat_map (name_line name) shown))) (next_fails (denoted name (history_of r)) all left x count h.shown (fault_of kind) k h.read ∙ ap (λ w. Err (record { word = w; fault = fault_of kind })) m)
