-- What has identities and a message is wide.
use Rattle.std.proofs.Common.{◌≡◌, true, false, List, [], ◌∷◌, ◌++◌, Option, None, Some, refl, ap, ◌∙◌, append_assoc, inl, inr}
use Rattle.std.specs.Prelude.{◌&&◌, codes, nat_eq}
use Rattle.std.specs.List.{AllByRecursion, flat_map, starts_with}
use Rattle.std.proofs.lemmas.Bool.{and_parts}
use Rattle.gx_model.specs.declared.objects.Kind.{Kind}
use Rattle.gx_model.specs.declared.objects.Kind.TheVariants as kind
use Rattle.gx_model.specs.Texts.{Bytes}
use Rattle.gx_model.specs.Texts.Headers.{is_headers}
use Rattle.gx_model.specs.Texts.Idents.{is_ident}
use Rattle.gx_model.specs.Texts.RefNames.{tag_ref}
use Rattle.gx_model.specs.Histories.{Record}
use Rattle.gx_model.specs.Histories.Values.{is_optional_ident, is_optional_line}
use Rattle.gx_model.specs.Objects.{CommitParts, IsCommitText, IsNamer, IsTagText, TagParts, commit_text, hex, line}
use Rattle.gx_model.specs.Records.Sound.{AnyByRecursion, IsLinked, IsLinkedAfter, IsTarget}
use Rattle.gx_model.proofs.Texts.LineTexts.{ident_is_line, tag_is_line}
use Rattle.gx_wide.specs.WideLaws.{BodiesAreWide, SoundIsWide}
use Rattle.gx_wide.specs.WideSound.{AreWideLinkedAfter, IsWideLinked, IsWideTarget}
use Rattle.gx_wide.specs.WideTexts.{HasWideForm, HasWideTagForm, IsTaggerApart, IsWideCommitText, IsWideTagText, wide_commit_text, widened_commit, widened_tag}

-- ---- bodies

-- nothing isn't a line of a tagger
tagger_apart : (tagger : Option Bytes) → IsTaggerApart tagger []
tagger_apart None = λ x rest h e. cc
tagger_apart (Some x) = tt

optional_is_line : (tagger : Option Bytes) → is_optional_ident tagger ≡ true → is_optional_line tagger ≡ true
optional_is_line None h = refl
optional_is_line (Some x) h = ident_is_line x h

-- the lines of a commit, grouped otherwise
commit_grouped : (parts : CommitParts) → commit_text parts ≡ wide_commit_text (widened_commit parts)
commit_grouped parts =
    let t = parts.text in
    ap (λ lines. line (codes "tree") (hex parts.tree) ++ flat_map (λ name. line (codes "parent") (hex name)) parts.parents ++ lines)
    (append_assoc (line (codes "author") t.author ++ line (codes "committer") t.committer) t.headers (10 ∷ t.message))

commit_is_wide : (parts : CommitParts) (body : Bytes) → IsCommitText parts body → IsWideCommitText (widened_commit parts) body
commit_is_wide parts body h =
    let t = parts.text in
    let idents = and_parts (is_ident t.author && is_ident t.committer) (is_headers t.headers) h.3 in
    let each = and_parts (is_ident t.author) (is_ident t.committer) idents.0 in
    let form : HasWideForm (widened_commit parts).text = record {
      author = ident_is_line t.author each.0;
      committer = ident_is_line t.committer each.1;
      headers = idents.1;
    } in
    (h.0 ∙ commit_grouped parts, h.1, h.2, form)

tag_is_wide : (parts : TagParts) (body : Bytes) → IsTagText parts body → IsWideTagText (widened_tag parts) body
tag_is_wide parts body h =
    let form : HasWideTagForm (widened_tag parts) = record {
      name = tag_is_line parts.name h.2;
      tagger = optional_is_line parts.tagger h.3;
      further = refl;
      apart = tagger_apart parts.tagger;
    } in
    (h.0, h.1, form)

pub bodies_are_wide : BodiesAreWide
bodies_are_wide = record { commits = commit_is_wide; tags = tag_is_wide }

-- ---- repositories

linked_wide : (records : List Record) (of_kind : Kind) (body : Bytes) → IsLinked records of_kind body → IsWideLinked records of_kind body
linked_wide records kind.Blob body h = tt
linked_wide records kind.Tree body h = h
linked_wide records kind.Commit body h = (widened_commit h.0, commit_is_wide h.0 body h.1, h.2, h.3)
linked_wide records kind.Tag body h = (widened_tag h.0, tag_is_wide h.0 body h.1, h.2)

all_linked : (before records : List Record) → IsLinkedAfter before records → AreWideLinkedAfter before records
all_linked before [] h = tt
all_linked before (r ∷ rs) h = (linked_wide before r.kind r.body h.0, all_linked (before ++ r ∷ []) rs h.1)

-- what holds of some record, where one more does
some_more : (P Q : Record → Type 0) → ((r : Record) → P r → Q r) → (records : List Record) → AnyByRecursion P records → AnyByRecursion Q records
some_more P Q more [] h = absurd h
some_more P Q more (r ∷ rs) (inl h) = inl (more r h)
some_more P Q more (r ∷ rs) (inr h) = inr (some_more P Q more rs h)

-- the ref of a tag is no branch
no_branch : (tag : Bytes) → starts_with nat_eq (tag_ref tag) (codes "refs/heads/") ≡ false
no_branch tag = refl

target_wide : (records : List Record) (ref called : Bytes) → IsTarget records ref called → IsWideTarget records ref called
target_wide records ref called (inl h) = record {
  held = some_more _ (λ held. held.name ≡ called) (λ r p. p.1) records h;
  branch = λ _. h;
}
target_wide records ref called (inr h) = record {
  held = some_more _ (λ held. held.name ≡ called) (λ r p. p.1) records h;
  branch = λ is. absurd (no_tag records h is);
}
  where
    no_tag : (records : List Record)
        → AnyByRecursion (λ held. (held.kind ≡ kind.Tag) × (held.name ≡ called) × ((parts : TagParts) × IsTagText parts held.body × (ref ≡ tag_ref parts.name))) records
        → starts_with nat_eq ref (codes "refs/heads/") ≡ true → ⊥
    no_tag [] k is = k
    no_tag (r ∷ rs) (inl k) is = let own = k.2.2 in let no = no_branch k.2.0.name in cc
    no_tag (r ∷ rs) (inr k) is = no_tag rs k is

all_targets : (records : List Record) (refs : List (Bytes × Bytes)) → AllByRecursion (λ ref. IsTarget records ref.0 ref.1) refs
    → AllByRecursion (λ ref. IsWideTarget records ref.0 ref.1) refs
all_targets records [] h = tt
all_targets records (r ∷ rs) h = (target_wide records r.0 r.1 h.0, all_targets records rs h.1)

pub sound_is_wide : (name : Kind → Bytes → Bytes) → IsNamer name → SoundIsWide name
sound_is_wide name namer repository sound = record {
  named = sound.named;
  distinct = sound.distinct;
  linked = all_linked [] repository.records sound.linked;
  paths = sound.paths;
  sorted = sound.sorted;
  ref_names = sound.ref_names;
  held = all_targets repository.records repository.refs sound.held;
}
