-- What is put behind a text, part by part.
use Rattle.std.proofs.Common.{◌≡◌, ◌∙◌, true, false, ◌++◌, append_assoc, append-nil, [], Option, None, Result, Ok, Err, OnOk, refl, sym, ap, subst}
use Rattle.std.specs.Prelude.{IfSome, codes}
use Rattle.std.proofs.lemmas.Result.{on_ok_weaker}
use Rattle.gx_model.specs.Histories.Files.{Leaf}
use Rattle.gx_model.specs.Histories.{Records}
use Rattle.gx_model.specs.Records.HistoryOf.{named_values}
use Rattle.gx_model.specs.Texts.{Bytes, same_bytes}
use Rattle.gx_model.specs.Texts.Paths.{path_text}
use Rattle.gx_questions.specs.Answers.{IsOfTold}
use Rattle.gx_questions.specs.declared.fault.AskFault.{AskFault}
use Rattle.gx_differences.specs.Listed.{Standing}
use Rattle.gx_hunks.specs.Lines.{text_lines}
use Rattle.gx_hunks.specs.Telling.{Tells}
use Rattle.gx_patch.specs.Bodies.{TellsBody, TellsBy, are_binary, binary_line, label_line}
use Rattle.gx_patch.specs.Heads.{head_text, label, sided}
use Rattle.gx_patch.specs.Patches.{IsFilePatch, IsPatch, IsPatchBy, Puts, PutsFile, TellsFile, is_turned, side_text}
use Rattle.gx_patch.proofs.Told.{both_told, map_told}

-- ---- parts of a line

pub five_parts : (t a b c d e p q r s all : Bytes) → p ≡ t ++ a → q ≡ p ++ b → r ≡ q ++ c → s ≡ r ++ d → all ≡ s ++ e → all ≡ t ++ (a ++ b ++ c ++ d ++ e)
five_parts t a b c d e p q r s all one two three four five =
    let second : q ≡ t ++ (a ++ b) = two ∙ ap (λ x. x ++ b) one ∙ append_assoc t a b in
    let third : r ≡ t ++ (a ++ b ++ c) = three ∙ ap (λ x. x ++ c) second ∙ append_assoc t (a ++ b) c in
    let fourth : s ≡ t ++ (a ++ b ++ c ++ d) = four ∙ ap (λ x. x ++ d) third ∙ append_assoc t (a ++ b ++ c) d in
    five ∙ ap (λ x. x ++ e) fourth ∙ append_assoc t (a ++ b ++ c ++ d) e

-- ---- a body

module _ (from to old new : Bytes) where
  -- a text grew by a body
  abbrev pub Grows : {E : Type 0} → Bytes → Bytes → Result (Unit {0}) E → Type 0
  Grows was now result = OnOk result ((body : Bytes) × (now ≡ was ++ body) × TellsBody from to old new body)

  pub no_body : (was : Bytes) → same_bytes old new ≡ true → (body : Bytes) × (was ≡ was ++ body) × TellsBody from to old new body
  no_body was is = ([], sym (append-nil was), subst (λ s. TellsBy s (are_binary old new) from to old new []) (sym is) refl)

  pub binary_body : {E : Type 0} (r : Result (Unit {0}) E) (was now : Bytes) → same_bytes old new ≡ false → are_binary old new ≡ true → OnOk r (now ≡ was ++ binary_line from to) → Grows was now r
  binary_body r was now other is =
      on_ok_weaker r (λ e. (
        binary_line from to,
        e,
        subst (λ s. TellsBy s (are_binary old new) from to old new (binary_line from to)) (sym other)
            (subst (λ b. TellsBy false b from to old new (binary_line from to)) (sym is) refl),
      ))

  pub hunks_body : {E : Type 0} (r : Result (Unit {0}) E) (was one two now : Bytes) → same_bytes old new ≡ false → are_binary old new ≡ false
      → one ≡ was ++ label_line (codes "--- ") from → two ≡ one ++ label_line (codes "+++ ") to
      → OnOk r ((told : Bytes) × (now ≡ two ++ told) × Tells (text_lines old) (text_lines new) told) → Grows was now r
  hunks_body r was one two now other text first second =
      let a = label_line (codes "--- ") from in
      let b = label_line (codes "+++ ") to in
      on_ok_weaker r (λ t. (
        a ++ b ++ t.0,
        t.1 ∙ ap (λ x. x ++ t.0) (second ∙ ap (λ x. x ++ b) first ∙ append_assoc was a b) ∙ append_assoc was (a ++ b) t.0,
        subst (λ s. TellsBy s (are_binary old new) from to old new (a ++ b ++ t.0)) (sym other)
            (subst (λ x. TellsBy false x from to old new (a ++ b ++ t.0)) (sym text) (t.0, t.2, refl)),
      ))

-- ---- the patch of a path

module _ (path : Bytes) (old new : Option (Leaf Bytes)) where
  pub file_put : {E : Type 0} (r : Result (Unit {0}) E) (ot nt was mid now from to old_label new_label : Bytes) → from ≡ sided 97 path → to ≡ sided 98 path → mid ≡ was ++ head_text from to old new
      → old_label ≡ label old from → new_label ≡ label new to → Grows old_label new_label ot nt mid now r → PutsFile path old new ot nt was now r
  file_put r ot nt was mid now from to old_label new_label f t m ol nl =
      let head = head_text (sided 97 path) (sided 98 path) old new in
      let made : mid ≡ was ++ head = m ∙ (λ i. was ++ head_text (f i) (t i) old new) in
      on_ok_weaker r (λ b. (
        head ++ b.0,
        b.1 ∙ ap (λ x. x ++ b.0) made ∙ append_assoc was head b.0,
        (
          b.0,
          subst (λ l. TellsBody l (label new (sided 98 path)) ot nt b.0) (ol ∙ ap (label old) f) (subst (λ l. TellsBody old_label l ot nt b.0) (nl ∙ ap (label new) t) b.2),
          refl,
        ),
      ))

  pub file_patched : (told : Option Records) (ot nt was now : Bytes) → IfSome told (λ r. ot ≡ side_text (named_values r.records) old) → IfSome told (λ r. nt ≡ side_text (named_values r.records) new)
      → Puts (TellsFile path old new ot nt) was now → IfSome told (λ r. Puts (IsFilePatch (named_values r.records) path old new) was now)
  file_patched told ot nt was now a b h =
      both_told told (λ r. ot ≡ side_text (named_values r.records) old) (λ r. nt ≡ side_text (named_values r.records) new) (λ r. Puts (IsFilePatch (named_values r.records) path old new) was now)
      (λ r e d. (h.0, h.1, subst (λ x. TellsFile path old new x (side_text (named_values r.records) new) h.0) e (subst (λ y. TellsFile path old new ot y h.0) d h.2))) a b

-- ---- the patch of what differs

module _ (s : Standing) (path : Bytes) (at : path ≡ path_text s.0) (told : Option Records) where
  pub whole_put : (was now : Bytes) (result : Result (Unit {0}) AskFault) → is_turned s ≡ false → IsOfTold told (λ r u. Puts (IsFilePatch (named_values r.records) path s.1.0 s.1.1) was now) result
      → IsOfTold told (λ r u. Puts (IsPatch (named_values r.records) s) was now) result
  whole_put was now (Ok u) is h =
      map_told told (λ r. Puts (IsFilePatch (named_values r.records) path s.1.0 s.1.1) was now) (λ r. Puts (IsPatch (named_values r.records) s) was now)
      (λ r k. (k.0, k.1, subst (λ b. IsPatchBy (named_values r.records) b s k.0) (sym is) (subst (λ p. IsFilePatch (named_values r.records) p s.1.0 s.1.1 k.0) at k.2))) h
  whole_put was now (Err fault) is h = tt

  pub parts_put : (was mid now : Bytes) (result : Result (Unit {0}) AskFault) → is_turned s ≡ true → IfSome told (λ r. Puts (IsFilePatch (named_values r.records) path s.1.0 None) was mid)
      → IsOfTold told (λ r u. Puts (IsFilePatch (named_values r.records) path None s.1.1) mid now) result → IsOfTold told (λ r u. Puts (IsPatch (named_values r.records) s) was now) result
  parts_put was mid now (Ok u) is g h =
      both_told told (λ r. Puts (IsFilePatch (named_values r.records) path s.1.0 None) was mid) (λ r. Puts (IsFilePatch (named_values r.records) path None s.1.1) mid now) (λ r. Puts (IsPatch (named_values r.records) s) was now)
      (λ r k l. (
        k.0 ++ l.0,
        l.1 ∙ ap (λ x. x ++ l.0) k.1 ∙ append_assoc was k.0 l.0,
        subst (λ b. IsPatchBy (named_values r.records) b s (k.0 ++ l.0)) (sym is) (
          k.0,
          l.0,
          subst (λ p. IsFilePatch (named_values r.records) p s.1.0 None k.0) at k.2,
          subst (λ p. IsFilePatch (named_values r.records) p None s.1.1 l.0) at l.2,
          refl,
        ),
      )) g h
  parts_put was mid now (Err fault) is g h = tt
