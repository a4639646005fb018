-- The items of refs: what each ref's object gives, and one ref after the other.
use Rattle.std.proofs.Common.{◌≡◌, ◌≢◌, List, [], ◌∷◌, ◌++◌, map, Some, None, Ok, refl, subst, ap, ◌∙◌}
use Rattle.std.specs.Borrow.{Bor}
use Rattle.std.specs.List.{flat_map}
use Rattle.std.specs.Prelude.{IsTrue, is_some}
use Rattle.std.proofs.lemmas.Grind.{flat_map-append}
use Rattle.std.proofs.lemmas.List.{append-nil, map-append}
use Rattle.gx_model.specs.declared.objects.Kind.{Kind}
use Rattle.gx_model.specs.declared.objects.Kind.TheVariants as kind
use Rattle.gx_model.specs.Texts.{Bytes}
use Rattle.gx_model.specs.Streams.Commands.{CommitIsh, Marked, Reset}
use Rattle.gx_model.specs.Revisions.Denotation.{commit_in}
use Rattle.gx_model.specs.Export.{command_items, number_in, ref_by, ref_command}
use Rattle.gx_model.specs.Records.Growth.{record_named}
use Rattle.gx_model.specs.Histories.{IsIn, Records}
use Rattle.gx_model.specs.Records.HistoryOf.{history_of, target_in, value_of_name}
use Rattle.gx_model.specs.Streams.Items.{Item}
use Rattle.gx_model.specs.Objects.{IsNamer, TagParts}
use Rattle.gx_model.specs.Records.{kind_of, name_of}
use Rattle.gx_model.specs.Replay.{peeled_at}
use Rattle.gx_model.specs.Records.Sound.{IsSound}
use Rattle.gx_model.specs.Histories.Values.{Commit, Tag, Value, blob_value, commit_value, tag_value, tree_value}
use Rattle.gx_model.proofs.Records.LinkedValues.{parts_in}
use Rattle.gx_model.proofs.Records.HeldValues.{all_whole, held_is, kind_held, value_held}
use Rattle.gx_model.proofs.Records.PeeledRefs.{told}
use Rattle.gx_object.specs.declared.name.Name.{Name}
use Rattle.gx_repo.specs.Refs.{shown_lent_ref}
use Rattle.gx_rev.specs.Objects.{parts_of_tag_value}
use Rattle.gx_export.specs.Branches.{shown_tips}
use Rattle.gx_export.specs.Texts.{items_of}

-- the items of refs, by the names of their objects and what names their commits
abbrev pub ref_items : Records → (Commit → CommitIsh) → List (Bytes × Bytes) → List Item
ref_items r names refs = items_of (map (ref_by names) (map (told r) refs))

-- the items of refs behind others
pub refs_append : (r : Records) (names : Commit → CommitIsh) (xs ys : List (Bytes × Bytes)) → ref_items r names (xs ++ ys) ≡ ref_items r names xs ++ ref_items r names ys
refs_append r names xs ys =
    ap (λ refs. items_of (map (ref_by names) refs)) (map-append (told r) xs ys) ∙ ap items_of (map-append (ref_by names) (map (told r) xs) (map (told r) ys))
    ∙ flat_map-append command_items (map (ref_by names) (map (told r) xs)) (map (ref_by names) (map (told r) ys))

-- the items of one ref more
pub refs_next : (r : Records) (names : Commit → CommitIsh) (xs : List (Bytes × Bytes)) (x : Bytes × Bytes) → ref_items r names (xs ++ x ∷ []) ≡ ref_items r names xs ++ command_items (ref_by names (told r x))
refs_next r names xs x = refs_append r names xs (x ∷ []) ∙ ap (λ is. ref_items r names xs ++ is) (append-nil (command_items (ref_by names (told r x))))

-- the items of a ref that is lent, and of all of them
abbrev pub tip_items : Records → (Commit → CommitIsh) → Bor Bytes × Name → List Item
tip_items r names tip = command_items (ref_by names (told r (shown_lent_ref tip)))

pub tips_items : (r : Records) (names : Commit → CommitIsh) (tips : List (Bor Bytes × Name)) → flat_map (tip_items r names) tips ≡ ref_items r names (shown_tips tips)
tips_items r names [] = refl
tips_items r names (t ∷ tips) = ap (λ (is : List Item). tip_items r names t ++ is) (tips_items r names tips)

-- ---- the object of a ref

-- what has no parts of a tag is of another kind
pub other_kind : (name : Kind → Bytes → Bytes) (v : Value) → None ≡ parts_of_tag_value name v → kind_of name v ≢ kind.Tag
other_kind name (blob_value x) e = λ k. cc k
other_kind name (tree_value f) e = λ k. cc k
other_kind name (commit_value c) e = λ k. cc k
other_kind name (tag_value t) e = absurd (cc e)

-- a ref at what is no tag, and gives a commit, is written as a reset
pub reset_is : (name : Kind → Bytes → Bytes) (ws : List Value) (ref : Bytes) (v : Value) → kind_of name v ≢ kind.Tag → commit_in v ≡ Ok (peeled_at (target_in v))
    → ref_command ws (ref, target_in v) ≡ Reset (record { ref = ref; parent = Some (Marked (number_in ws v)) })
reset_is name ws ref (blob_value x) h e = absurd (cc e)
reset_is name ws ref (tree_value f) h e = absurd (cc e)
reset_is name ws ref (commit_value c) h e = refl
reset_is name ws ref (tag_value t) h e = absurd (h refl)

-- what is no tag, and gives a commit, is one
pub commit_kind : (name : Kind → Bytes → Bytes) (v : Value) → kind_of name v ≢ kind.Tag → commit_in v ≡ Ok (peeled_at (target_in v)) → kind_of name v ≡ kind.Commit
commit_kind name (blob_value x) h e = absurd (cc e)
commit_kind name (tree_value f) h e = absurd (cc e)
commit_kind name (commit_value c) h e = refl
commit_kind name (tag_value t) h e = absurd (h refl)

-- the parts of a tag's body
abbrev pub parts_of_tag : (Kind → Bytes → Bytes) → Tag → TagParts
parts_of_tag name t = record { object = name_of name (commit_value t.target); name = t.name; tagger = t.tagger; message = t.message }

module _ (name : Kind → Bytes → Bytes) (namer : IsNamer name) (r : Records) (sound : IsSound name r) where
  -- the name is that of a tag with these parts, whose commit is held
  pub record IsTagOf (n : Bytes) (parts : TagParts) (t : Tag) : Type 0 where
    pub value : value_of_name r.records n ≡ tag_value t
    pub told : parts ≡ parts_of_tag name t
    pub held : IsTrue (is_some (record_named r.records (name_of name (commit_value t.target))))
    pub target : value_of_name r.records (name_of name (commit_value t.target)) ≡ commit_value t.target

  -- what is held and has a tag's parts is one
  pub tag_held : (n : Bytes) (parts : TagParts) → IsTrue (is_some (record_named r.records n)) → Some parts ≡ parts_of_tag_value name (value_of_name r.records n) → (t : Tag) × IsTagOf n parts t
  tag_held n parts h e = by (value_of_name r.records n) refl e
    where
      by : (v : Value) → value_of_name r.records n ≡ v → Some parts ≡ parts_of_tag_value name v → (t : Tag) × IsTagOf n parts t
      by (blob_value x) s p = absurd (cc p)
      by (tree_value f) s p = absurd (cc p)
      by (commit_value c) s p = absurd (cc p)
      by (tag_value t) s p =
          let vs = (history_of r).values in
          let w = all_whole name namer r sound in
          let i : IsIn vs (tag_value t) = subst (IsIn vs) s (held_is name namer r sound n h).stands in
          let v = value_held name namer r sound kind.Commit (commit_value t.target) (name_of name (commit_value t.target)) (parts_in vs (tag_value t) w i).0 refl refl in (
            t,
            record {
              value = s;
              told = (let same : parts ≡ parts_of_tag name t = cc p in same);
              held = (kind_held name namer r sound kind.Commit (name_of name (commit_value t.target)) v.0).0;
              target = v.1;
            },
          )
