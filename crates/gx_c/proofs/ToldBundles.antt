-- What range words have a bundle tell, and why they are refused.
use Rattle.std.proofs.Common.{◌≡◌, inl, inr, ℕ, ◌+◌, ◌<◌, false, arith, ap, refl, subst, sym, ◌∙◌, List, [], ◌∷◌, length, map, Some, Ok, Err}
use Rattle.std.specs.Prelude.{not}
use Rattle.std.specs.Bool.{◌==◌}
use Rattle.std.proofs.lemmas.Bool.Decides.{nat_tests}
use Rattle.gx_model.specs.declared.objects.Kind.{Kind}
use Rattle.gx_model.specs.Histories.{Records}
use Rattle.gx_model.specs.Records.HistoryOf.{history_of}
use Rattle.gx_model.specs.Revisions.{RangeWord}
use Rattle.gx_model.specs.Revisions.Ranges.{Word, words_denoted}
use Rattle.gx_model.specs.Texts.{Bytes}
use Rattle.gx_bundled.specs.Excluded.{AreExcluded}
use Rattle.gx_bundled.specs.declared.told.Told.{Told}
use Rattle.gx_kept.specs.declared.bundled.Bundled.{Bundled}
use Rattle.gx_questions.specs.declared.fault.AskFault.{AskFault}
use Rattle.gx_questions.specs.declared.fault.AskFault.TheVariants as ask
use Rattle.gx_ranges.specs.Answers.{RefusesWord}
use Rattle.gx_rev.specs.RevFaults.{fault_of}
use Rattle.gx_rev.specs.declared.fault.RevFault.TheVariants.{OutOfMemory}
use Rattle.gx_c.specs.Bundles.{AnswersBundleSo, AnswersToldSo, IsToldBy, IsToldWith, has_some, lines_told, why_of}
use Rattle.gx_c.specs.declared.answer.Answer.{Answer}
use Rattle.gx_c.specs.declared.answer.Why.{Why}
use Rattle.gx_c.specs.declared.answer.Why.TheVariants.{Done, Empty, Field, Import, Item, Revision, Store, Unsupported}

-- whether a list is empty, by its length
some_length : {X : Type 0} (x : X) (xs : List X) → (length (x ∷ xs) == 0) ≡ false
some_length x xs = grind (arith, nat_tests)

pub is_some : {X : Type 0} (xs : List X) → not (length xs == 0) ≡ has_some xs
is_some [] = refl
is_some (x ∷ xs) = ap not (some_length x xs)

-- the same of its elements as they are seen
pub is_none_mapped : {X Y : Type 0} (f : X → Y) (xs : List X) → (length xs == 0) ≡ not (has_some (map f xs))
is_none_mapped f [] = refl
is_none_mapped f (x ∷ xs) = some_length x xs

module _ (name : Kind → Bytes → Bytes) (r : Records) (words : List RangeWord) (head : Bytes) {A : Type 0} where
  module _ (told : Told A) (count : ℕ) (refs : told.refs.items ≡ lines_told r words head) (counted : count ≡ length words)
      (excluded : (meant : List Word) × (words_denoted name (history_of r) words ≡ Ok meant) × AreExcluded meant r told.had.items) where
    by_words : (bundled : Bundled) → IsToldWith r told head bundled → IsToldBy name r words head bundled
    by_words bundled h = record {
      refs = h.0 ∙ refs;
      spelled = h.2;
      head = h.3;
      had = (excluded.0, excluded.1, subst (λ names. AreExcluded excluded.0 r names) (sym h.1) excluded.2);
    }

    -- what is answered of what is told is answered of the words
    pub from_told : (why : Why) (answer : Answer A) → AnswersToldSo r told count head why answer → AnswersBundleSo name r words head why answer
    from_told Done answer h = (h.0, by_words h.0 h.1, h.2)
    from_told Unsupported answer h = (h.0, by_words h.0 h.1, h.2)
    from_told Empty answer h = (sym refs ∙ h.0, h.1, subst (λ (n : ℕ). 0 < n) counted h.2, h.3)
    from_told (Revision OutOfMemory) answer h = h
    from_told (Revision fault) answer h = (inr (h.0, h.1 ∙ ap (λ (n : ℕ). n + 1) counted), h.2)
    from_told (Import fault) answer h = absurd h
    from_told (Store fault) answer h = absurd h
    from_told (Item item) answer h = absurd h
    from_told Field answer h = absurd h

  -- a word that is refused is told with its number
  pub refused : (kind : AskFault) (word : ℕ) (answer : Answer A) → RefusesWord (Some r) (λ here. words_denoted name (history_of here) words) word kind
      → answer.bytes.items ≡ [] → answer.number ≡ word → AnswersBundleSo name r words head (why_of kind) answer
  refused (ask.Revision OutOfMemory) word answer h none number = none
  refused (ask.Revision fault) word answer h none number = (inl (h ∙ ap (λ (n : ℕ). Err (record { word = n; fault = fault_of fault })) (sym number)), none)
  refused ask.OutOfMemory word answer h none number = none
  refused ask.ReadFailed word answer h none number = none
  refused ask.Damaged word answer h none number = none
