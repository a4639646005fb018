-- A path in quotes is read as the path of the text between them.
use Rattle.std.proofs.Common.{◌≡◌, ℕ, Bool, true, false, cond, not, ◌||◌, [], ◌∷◌, ◌++◌, length, nat_eq, Some, Result, Ok, Err, refl, sym, ap, subst, append_assoc}
use Rattle.std.specs.Prelude.{◌==◌}
use Rattle.std.specs.List.{flat_map}
use Rattle.std.proofs.lemmas.Bool.{eqb-true, not-true}
use Rattle.std.proofs.lemmas.List.Concat.{flat_map-cons}
use Rattle.gx_model.specs.declared.faults.Fault.{Fault}
use Rattle.gx_model.specs.declared.faults.Fault.TheVariants as faults
use Rattle.gx_model.specs.Faults.{◌>>=◌}
use Rattle.gx_model.specs.Texts.{Bytes, is_line, lacks}
use Rattle.gx_model.specs.Texts.Paths.{Path, named, WritesByte, as_itself, by_letter, WritesText, writes_none, writes_more, path_of, path_at, quoted_of, with_rest}
use Rattle.gx_model.specs.Streams.Lines.{last_path, source_path, after_space}
use Rattle.gx_model.proofs.Texts.Cuts.{lacks-cons}
use Rattle.gx_model.proofs.Texts.Idents.{and_one, and_two}
use Rattle.gx_model.proofs.Texts.Quotes.{quoted_text_tells}
use Rattle.gx_adapt.specs.Paths.{escaped, quoted}
use Rattle.gx_adapt.specs.Laws.{QuotedPathsAreKept, QuotedSourcesAreKept}

writes_one : (b : ℕ) → nat_eq b 10 ≡ false → nat_eq b 0 ≡ false → WritesByte (escaped b) b
writes_one b lf nul = by (b == 34) refl (b == 92) refl where
  by : (p : Bool) → (b == 34) ≡ p → (q : Bool) → (b == 92) ≡ q → WritesByte (cond (p || q) (92 ∷ b ∷ []) (b ∷ [])) b
  by true k q l = by_letter (subst (λ x. named x ≡ Some x) (sym (eqb-true b 34 k)) refl)
  by false k true l = by_letter (subst (λ x. named x ≡ Some x) (sym (eqb-true b 92 l)) refl)
  by false k false l = as_itself (rw (k, l, lf, nul) refl)

writes_all : (text : Bytes) → is_line text ≡ true → lacks 0 text ≡ true → WritesText (flat_map escaped text) text
writes_all [] h k = writes_none
writes_all (x ∷ text) h k =
    let n = lacks-cons 0 x text k in
    subst (λ w. WritesText w (x ∷ text)) (sym (flat_map-cons escaped x text))
    (writes_more (writes_one x (not-true _ (and_one (not (nat_eq x 10)) _ h)) n.0) (writes_all text (and_two (not (nat_eq x 10)) _ h) n.1))

quoted_read : (text : Bytes) → is_line text ≡ true → lacks 0 text ≡ true → quoted_of (quoted text) ≡ path_at (Some (text, []))
unfolding quoted_of
quoted_read text h k = ap path_at ((quoted_text_tells (quoted text) text []).1 (record { body = flat_map escaped text; spelled = refl; writes = writes_all text h k }))

ended : (r : Result Path Fault) → (with_rest [] r >>= λ p. cond (length p.1 == 0) (Ok p.0) (Err faults.BadLine)) ≡ r
ended (Ok p) = refl
ended (Err e) = refl

pub quoted_kept : QuotedPathsAreKept
unfolding last_path
quoted_kept text h k = rw (quoted_read text h k) (ended (path_of text))

-- ---- a source, and a space behind it

source_read : (text rest : Bytes) → is_line text ≡ true → lacks 0 text ≡ true → quoted_of (quoted text ++ 32 ∷ rest) ≡ path_at (Some (text, 32 ∷ rest))
unfolding quoted_of
source_read text rest h k = ap path_at ((quoted_text_tells (quoted text ++ 32 ∷ rest) text (32 ∷ rest)).1 (record { body = flat_map escaped text; spelled = ap (λ t. 34 ∷ t) (append_assoc (flat_map escaped text) (34 ∷ []) (32 ∷ rest)); writes = writes_all text h k }))

spaced_source : (r : Result Path Fault) (rest : Bytes) → (with_rest (32 ∷ rest) r >>= λ p. after_space p.0 p.1) ≡ (r >>= λ p. Ok (p, rest))
spaced_source (Ok p) rest = refl
spaced_source (Err e) rest = refl

pub source_kept : QuotedSourcesAreKept
unfolding source_path
source_kept text rest h k = rw (source_read text rest h k) (spaced_source (path_of text) rest)
