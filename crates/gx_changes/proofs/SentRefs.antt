-- What goes out of refs: resets to commits, and tags.
use Rattle.std.proofs.Common.{◌≡◌, ◌≢◌, ◌∙◌, ℕ, ◌+◌, ◌<◌, List, [], ◌∷◌, ◌++◌, map, suc, length, take, drop, get_or, Option, Some, None, Result, Ok, Err, true, false, ◌≤◌, refl, sym, ap, subst}
use Rattle.std.specs.Prelude.{IfSome}
use Rattle.std.specs.List.{AllByRecursion}
use Rattle.std.proofs.lemmas.Grind.{flat_map-append}
use Rattle.std.proofs.lemmas.List.{append-nil, map-append, take_all}
use Rattle.gx_model.specs.declared.objects.Kind.{Kind}
use Rattle.gx_model.specs.declared.objects.Kind.TheVariants as kinds
use Rattle.gx_model.specs.Changes.{named_in}
use Rattle.gx_model.specs.Export.{command_items, items_text, ref_by}
use Rattle.gx_model.specs.Histories.Values.{Commit, Tag, Value, blob_value, commit_value, tag_value, tree_value}
use Rattle.gx_model.specs.Histories.{Records}
use Rattle.gx_model.specs.Objects.{IsNamer, IsTagText, TagParts}
use Rattle.gx_model.specs.Records.{kind_of, name_of}
use Rattle.gx_model.specs.Records.HistoryOf.{target_in}
use Rattle.gx_model.specs.Records.Sound.{IsSound}
use Rattle.gx_model.specs.Revisions.Denotation.{commit_in}
use Rattle.gx_model.specs.Streams.Commands.{CommitIsh}
use Rattle.gx_model.specs.Streams.Items.{Item}
use Rattle.gx_model.specs.Texts.{Bytes, same_bytes}
use Rattle.gx_model.proofs.ObjectTexts.BodiesReadBack.{tag_read}
use Rattle.gx_model.proofs.ObjectTexts.OneTree.{all_right}
use Rattle.gx_model.proofs.Records.HeldValues.{commit_stands, held_is, kind_held}
use Rattle.gx_object.specs.declared.name.Name.{Name}
use Rattle.gx_objects.specs.declared.objects.Object.{Object}
use Rattle.gx_questions.specs.Objects.{IsObjectAt}
use Rattle.gx_rev.specs.Objects.{IsHeld, IsHeldAs, commit_at, value_at}
use Rattle.gx_rev.proofs.Bodies.{tag_text_held}
use Rattle.gx_tree.proofs.Texts.{bytes_are, same_itself}
use Rattle.gx_export.specs.Naming.{shown_commit}
use Rattle.gx_export.specs.Outputs.{Sent, Writes}
use Rattle.gx_export.specs.Texts.{command_text, items_of, tag_command, to_commit}
use Rattle.gx_export.specs.declared.fault.ExportFault.{ExportFault}
use Rattle.gx_export.specs.declared.naming.CommitIsh.{CommitIsh as Named}
use Rattle.gx_export.proofs.RefLines.{tag_held}
use Rattle.gx_sending.specs.Faults.{of_export}
use Rattle.gx_sending.specs.Marks.{Adds, HasWritten, IsWritten, NamesCommit}
use Rattle.gx_sending.specs.declared.fault.SendFault.{SendFault}
use Rattle.gx_sending.specs.declared.written.Written.{Written}
use Rattle.gx_sending.proofs.Sending.{adds_bytes, adds_nothing, listed_parts, next_sent, sink_fails, stops_within}
use Rattle.gx_tips.specs.Tips.{AreTips, IsTip, targets}
use Rattle.gx_tips.specs.declared.tips.Tip.{Tip}
use Rattle.gx_changes.specs.Commits.{AddsItems}

-- ---- names

pub same_names : (n m : Name) → same_bytes n.bytes m.bytes ≡ true → n ≡ m
same_names n m e = ap (λ bytes. record { bytes = bytes }) (bytes_are n.bytes m.bytes e)

pub other_names : (n m : Name) → same_bytes n.bytes m.bytes ≡ false → n.bytes ≡ m.bytes → ⊥
other_names n m e q = let f : true ≡ false = sym (same_itself m.bytes) ∙ ap (λ b. same_bytes b m.bytes) (sym q) ∙ e in cc f

-- ---- one ref

-- the items of a ref
abbrev pub ref_items : (Kind → Bytes → Bytes) → Tip → Records → List Value → List Item
ref_items name tip r ws = command_items (ref_by (named_in name ws) (tip.name.now, target_in (value_at r tip.object)))

module _ (name : Kind → Bytes → Bytes) (namer : IsNamer name) (stands : ℕ → ℕ) (tip : Tip) where
  module _ (r : Records) (sound : IsSound name r) (is : IsTip stands r tip) where
    -- a commit is written as a reset
    reset_text : (ws : List Value) (named : CommitIsh) → tip.object ≡ tip.commit → named ≡ named_in name ws (commit_at r tip.commit) → command_text (to_commit tip.name.now named) ≡ items_text (ref_items name tip r ws)
    reset_text ws named same e =
        let value : value_at r tip.object ≡ commit_value (commit_at r tip.commit) = ap (value_at r) same ∙ (commit_stands name namer r sound tip.commit.bytes is.commit).0 in
        ap (λ m. command_text (to_commit tip.name.now m)) e ∙ ap (λ v. command_text (ref_by (named_in name ws) (tip.name.now, target_in v))) (sym value)

    -- and a tag as a tag
    tag_text : (ws : List Value) (named : CommitIsh) (object : Object) (parts : TagParts) → IsObjectAt name tip.object r object → object.kind ≡ kinds.Tag → IsTagText parts object.body.now → named ≡ named_in name ws (commit_at r tip.commit)
        → command_text (tag_command named parts) ≡ items_text (ref_items name tip r ws)
    tag_text ws named object parts o k text e =
        let of_tag = tag_text_held name namer r sound tip.object.bytes object.body.now is.object (sym o.kind ∙ k) o.body in
        let same : parts ≡ of_tag.0 = sym (tag_read parts object.body.now text) ∙ tag_read of_tag.0 object.body.now of_tag.2 in
        let t = tag_held name namer r sound tip.object.bytes parts is.object (ap Some same ∙ sym of_tag.1) in
        let target : commit_at r tip.commit ≡ t.0.target = (let q : Ok (commit_at r tip.commit) ≡ Ok t.0.target = sym is.peeled ∙ ap commit_in t.1.value in cc q) in
        ap (λ m. command_text (tag_command m parts)) (e ∙ ap (named_in name ws) target) ∙ ap (λ p. command_text (tag_command (named_in name ws t.0.target) p)) t.1.told
        ∙ ap (λ v. command_text (ref_by (named_in name ws) (tip.name.now, target_in v))) (sym t.1.value)

    -- what is no tag, and gives another's commit, is none
    no_other : (object : Object) → IsObjectAt name tip.object r object → object.kind ≢ kinds.Tag → tip.object.bytes ≡ tip.commit.bytes
    no_other object o k = by (value_at r tip.object) refl
      where
        by : (v : Value) → value_at r tip.object ≡ v → tip.object.bytes ≡ tip.commit.bytes
        by (blob_value x) e = absurd (let q = sym is.peeled ∙ ap commit_in e in cc q)
        by (tree_value f) e = absurd (let q = sym is.peeled ∙ ap commit_in e in cc q)
        by (tag_value t) e = absurd (k (o.kind ∙ ap (kind_of name) e))
        by (commit_value d) e =
            let same : commit_at r tip.commit ≡ d = (let q : Ok (commit_at r tip.commit) ≡ Ok d = sym is.peeled ∙ ap commit_in e in cc q) in
            let there = (kind_held name namer r sound kinds.Commit tip.commit.bytes is.commit).0 in
            let value = (commit_stands name namer r sound tip.commit.bytes is.commit).0 in
            sym (held_is name namer r sound tip.object.bytes is.object).named ∙ ap (name_of name) (e ∙ ap commit_value (sym same) ∙ sym value) ∙ (held_is name namer r sound tip.commit.bytes there).named

  -- ---- of the repository that is told

  pub object_told : (told : Option Records) → IfSome told (λ r. IsTip stands r tip) → IfSome told (λ r. IsHeld r tip.object)
  object_told None h = tt
  object_told (Some r) h = h.object

  pub other_told : (told : Option Records) (object : Object) → IfSome told (IsSound name) → IfSome told (λ r. IsTip stands r tip) → IfSome told (λ r. IsObjectAt name tip.object r object) → object.kind ≢ kinds.Tag → (tip.object.bytes ≡ tip.commit.bytes → ⊥) → told ≡ None
  other_told None object s is o k d = refl
  other_told (Some r) object s is o k d = absurd (d (no_other r s is object o k))

  module _ {W A : Type 0} (old : Written W A) where
    abbrev AddsRef : Option Records → Written W A → Result (Unit {0}) SendFault → Type 0
    AddsRef told new result = IfSome told (AddsItems (ref_items name tip) old new result)

    module _ (named : Named) (names : NamesCommit old tip.commit named) (after : Sent) where
      name_is : (r : Records) → IsSound name r → IsTip stands r tip → (ws : List Value) → HasWritten r ws old → shown_commit named ≡ named_in name ws (commit_at r tip.commit)
      name_is r s is ws h = names name r ws namer s is.commit h

      pub reset_told : (told : Option Records) → IfSome told (IsSound name) → IfSome told (λ r. IsTip stands r tip) → tip.object ≡ tip.commit → Writes old.output after (command_text (to_commit tip.name.now (shown_commit named))) (Ok tt)
          → AddsRef told (record old { output = after }) (Ok tt)
      reset_told None s is e w = tt
      reset_told (Some r) s is e w = λ ws h.
          adds_bytes r ws (ref_items name tip r ws) old after h (subst (λ t. Writes old.output after t (Ok tt)) (reset_text r s is ws (shown_commit named) e (name_is r s is ws h)) w)

      pub reset_fails : (told : Option Records) (fault : ExportFault) → IfSome told (IsSound name) → IfSome told (λ r. IsTip stands r tip) → tip.object ≡ tip.commit → Writes old.output after (command_text (to_commit tip.name.now (shown_commit named))) (Err fault)
          → AddsRef told (record old { output = after }) (Err (of_export fault))
      reset_fails None fault s is e w = tt
      reset_fails (Some r) fault s is e w = λ ws h.
          sink_fails r ws (ref_items name tip r ws) old after fault (subst (λ t. Writes old.output after t (Err fault)) (reset_text r s is ws (shown_commit named) e (name_is r s is ws h)) w)

      module _ (object : Object) (parts : TagParts) (kind : object.kind ≡ kinds.Tag) (text : IsTagText parts object.body.now) where
        pub tag_told : (told : Option Records) → IfSome told (IsSound name) → IfSome told (λ r. IsTip stands r tip) → IfSome told (λ r. IsObjectAt name tip.object r object) → Writes old.output after (command_text (tag_command (shown_commit named) parts)) (Ok tt)
            → AddsRef told (record old { output = after }) (Ok tt)
        tag_told None s is o w = tt
        tag_told (Some r) s is o w = λ ws h.
            adds_bytes r ws (ref_items name tip r ws) old after h (subst (λ t. Writes old.output after t (Ok tt)) (tag_text r s is ws (shown_commit named) object parts o kind text (name_is r s is ws h)) w)

        pub tag_fails : (told : Option Records) (fault : ExportFault) → IfSome told (IsSound name) → IfSome told (λ r. IsTip stands r tip) → IfSome told (λ r. IsObjectAt name tip.object r object) → Writes old.output after (command_text (tag_command (shown_commit named) parts)) (Err fault)
            → AddsRef told (record old { output = after }) (Err (of_export fault))
        tag_fails None fault s is o w = tt
        tag_fails (Some r) fault s is o w = λ ws h.
            sink_fails r ws (ref_items name tip r ws) old after fault (subst (λ t. Writes old.output after t (Err fault)) (tag_text r s is ws (shown_commit named) object parts o kind text (name_is r s is ws h)) w)

-- ---- all refs

-- the items of refs
abbrev pub refs_items : (Kind → Bytes → Bytes) → List Tip → Records → List Value → List Item
refs_items name tips r ws = items_of (map (ref_by (named_in name ws)) (targets r tips))

module _ (name : Kind → Bytes → Bytes) (r : Records) (ws : List Value) where
  refs_behind : (xs ys : List Tip) → refs_items name (xs ++ ys) r ws ≡ refs_items name xs r ws ++ refs_items name ys r ws
  refs_behind xs ys =
      ap (λ ts. items_of (map (ref_by (named_in name ws)) ts)) (map-append _ xs ys) ∙ ap items_of (map-append (ref_by (named_in name ws)) (targets r xs) (targets r ys))
      ∙ flat_map-append command_items (map (ref_by (named_in name ws)) (targets r xs)) (map (ref_by (named_in name ws)) (targets r ys))

  one_ref : (tip : Tip) → ref_items name tip r ws ≡ refs_items name (tip ∷ []) r ws
  one_ref tip = sym (append-nil (ref_items name tip r ws))

module _ {W A : Type 0} (name : Kind → Bytes → Bytes) (tips : List Tip) (first : Written W A) where
  -- the first refs went out
  abbrev pub FirstRefs : Option Records → ℕ → Written W A → Type 0
  FirstRefs told i now = IfSome told (AddsItems (refs_items name (take i tips)) first now (Ok tt))

  pub no_refs_yet : (told : Option Records) → FirstRefs told 0 first
  no_refs_yet None = tt
  no_refs_yet (Some r) = λ ws h. adds_nothing r ws first h

  pub refs_written : (told : Option Records) (i : ℕ) (now : Written W A) → IfSome told (IsWritten first) → FirstRefs told i now → IfSome told (IsWritten now)
  refs_written None i now w h = tt
  refs_written (Some r) i now w h = (w.0, (h w.0 w.1).written)

  pub all_refs : (told : Option Records) (i : ℕ) (now : Written W A) → length tips ≤ i → FirstRefs told i now → IfSome told (AddsItems (refs_items name tips) first now (Ok tt))
  all_refs told i now l h = subst (λ ts. IfSome told (AddsItems (refs_items name ts) first now (Ok tt))) (take_all i tips l) h

  module _ (i : ℕ) (tip : Tip) (l : i < length tips) (e : tip ≡ get_or tips i tip) (now : Written W A) where
    pub next_ref : (told : Option Records) (new : Written W A) → FirstRefs told i now → IfSome told (AddsItems (ref_items name tip) now new (Ok tt)) → FirstRefs told (i + 1) new
    next_ref None new h k = tt
    next_ref (Some r) new h k = λ ws w.
        let done = h ws w in
        next_sent r ws (λ ts. refs_items name ts r ws) (refs_behind name r ws) tips i tip l e first now new done (subst (λ is. Adds ws is now new (Ok tt) r) (one_ref name r ws tip) (k ws done.written))

    pub stops_at_ref : (told : Option Records) (new : Written W A) (fault : SendFault) → FirstRefs told i now → IfSome told (AddsItems (ref_items name tip) now new (Err fault)) → IfSome told (AddsItems (refs_items name tips) first new (Err fault))
    stops_at_ref None new fault h k = tt
    stops_at_ref (Some r) new fault h k = λ ws w.
        let done = h ws w in
        stops_within r ws (λ ts. refs_items name ts r ws) (refs_behind name r ws) tips i tip l e first now new done fault (subst (λ is. Adds ws is now new (Err fault) r) (one_ref name r ws tip) (k ws done.written))

-- the ref at a place
pub tip_at : (stands : ℕ → ℕ) (told : Option Records) (tips : List Tip) (i : ℕ) (tip : Tip) → i < length tips → tip ≡ get_or tips i tip → IfSome told (AreTips stands tips) → IfSome told (λ r. IsTip stands r tip)
tip_at stands None tips i tip l e h = tt
tip_at stands (Some r) tips i tip l e h =
    (all_right (IsTip stands r) (take i tips) (tip ∷ drop (suc i) tips) (subst (AllByRecursion (IsTip stands r)) (listed_parts tips i tip l e) h)).0
