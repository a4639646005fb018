-- What is answered for two revisions tells whether they give one value.
use Rattle.std.proofs.Common.{◌≡◌, sym, ap, ◌∙◌, Ok}
use Rattle.std.specs.Prelude.{IsTrue}
use Rattle.std.specs.Bool.{passes}
use Rattle.gx_model.specs.declared.objects.Kind.{Kind}
use Rattle.gx_model.specs.Texts.{Bytes}
use Rattle.gx_model.specs.Objects.{hex, is_name, unhex}
use Rattle.gx_model.specs.Records.{kind_of, name_of}
use Rattle.gx_model.specs.Histories.{Records}
use Rattle.gx_model.proofs.ObjectTexts.BodiesReadBack.{bytes_name, unhex_hex}
use Rattle.gx_object.specs.declared.name.Name.{Name}
use Rattle.gx_rev.specs.declared.shown.Shown.{Shown}
use Rattle.gx_rev.specs.declared.shown.Shown.TheVariants.{Object, Submodule}
use Rattle.gx_rev.specs.Answers.{AnswersTell, IsNamed, shown_by}
use Rattle.gx_rev.specs.Objects.{value_at}

one_name : (n m : Name) → IsTrue (is_name n.bytes) → IsTrue (is_name m.bytes) → hex n.bytes ≡ hex m.bytes → n ≡ m
one_name n m i j e =
    let same : n.bytes ≡ m.bytes = sym (unhex_hex n.bytes (bytes_name n.bytes (passes _ i))) ∙ ap unhex e ∙ unhex_hex m.bytes (bytes_name m.bytes (passes _ j)) in
    λ k. record { bytes = same k }

one_shown : (name : Kind → Bytes → Bytes) (r : Records) (s t : Shown) → IsNamed name r s → IsNamed name r t → shown_by r s ≡ shown_by r t → s ≡ t
one_shown name r (Object k n) (Object l m) i j e =
    let same : value_at r n ≡ value_at r m = cc e in
    let kinds : k ≡ l = i.0 ∙ ap (kind_of name) same ∙ sym j.0 in
    let names : n.bytes ≡ m.bytes = i.1 ∙ ap (name_of name) same ∙ sym j.1 in
    λ x. Object (kinds x) (record { bytes = names x })
one_shown name r (Object k n) (Submodule m) i j e = absurd (cc e)
one_shown name r (Submodule n) (Object l m) i j e = absurd (cc e)
one_shown name r (Submodule n) (Submodule m) i j e = let digits : hex n.bytes ≡ hex m.bytes = cc e in ap Submodule (one_name n m i j digits)

pub answers_tell : (name : Kind → Bytes → Bytes) (r : Records) → AnswersTell name r
answers_tell name r a b s t i j = (
  λ e. i.shown ∙ ap (λ x. Ok (shown_by r x)) e ∙ sym j.shown,
  λ e. one_shown name r s t i.named j.named (let o = sym i.shown ∙ e ∙ j.shown in cc o),
)
