-- What was added to a replay's state is marked, and then set as a tag or as a branch's commit.
use Rattle.std.proofs.Common.{◌≡◌, ℕ, List, [], ◌∷◌, Option, Some, None, refl, sym, ap, subst, ◌∙◌}
use Rattle.std.specs.Prelude.{IsTrue}
use Rattle.std.specs.List.{AllByRecursion}
use Rattle.std.specs.declared.cmp.Ordering.TheVariants.{Less, Equal, Greater}
use Rattle.std.specs.FinMap.Entries.{by_order, put}
use Rattle.gx_model.specs.declared.objects.Kind.{Kind}
use Rattle.gx_model.specs.declared.objects.Kind.TheVariants as kinds
use Rattle.gx_model.specs.Texts.{Bytes, byte_cmp}
use Rattle.gx_model.specs.Texts.RefNames.{is_ref_name, tag_ref}
use Rattle.gx_model.specs.Histories.Values.{Commit, Tag, Value, commit_value, tag_value}
use Rattle.gx_model.specs.Records.{name_of}
use Rattle.gx_model.specs.Histories.{IsIn, Records}
use Rattle.gx_model.specs.Replay.{State, marked, on_branch}
use Rattle.gx_object.specs.declared.name.Name.{Name}
use Rattle.gx_import.specs.declared.object.Object.{Object}
use Rattle.gx_import.specs.declared.marks.Marks.{Marks}
use Rattle.gx_import.specs.declared.tables.Tables.{Tables}
use Rattle.gx_import.specs.Marks.{marked_object, object_at}
use Rattle.gx_import.specs.Objects.{IsCommitOf, IsOf, IsTagOf}
use Rattle.gx_import.specs.Rows.{AreRows}
use Rattle.gx_tree.specs.Named.{NamedTree}
use Rattle.gx_import.specs.Standing.{AreTipFiles, Follows, IsTip, Stands, tip_at}
use Rattle.gx_import.proofs.PublishedNames.{published_tags}
use Rattle.gx_import.proofs.RelatedRows.{related_put}
use Rattle.gx_model.proofs.Records.SortedRefs.{same_text}
use Rattle.gx_import.proofs.Standings.{marked_one, moved_branch}

pub marked_history : (mark : Option ℕ) (v : Value) (s : State) → (marked mark v s).history ≡ s.history
marked_history None v s = refl
marked_history (Some n) v s = refl

marked_progress : (mark : Option ℕ) (v : Value) (s : State) → (marked mark v s).progress ≡ s.progress
marked_progress None v s = refl
marked_progress (Some n) v s = refl

marked_held : (mark : Option ℕ) (v : Value) (s : State) → (marked mark v s).held ≡ s.held
marked_held None v s = refl
marked_held (Some n) v s = refl

own_put : (n : Bytes) (tag : Tag) → n ≡ tag_ref tag.name → (ts : List (Bytes × Tag)) → AllByRecursion (λ t. t.0 ≡ tag_ref t.1.name) ts → AllByRecursion (λ t. t.0 ≡ tag_ref t.1.name) (put byte_cmp n tag ts)
own_put n tag e [] h = (e, tt)
own_put n tag e (t ∷ ts) h =
    elim (byte_cmp n t.0) as (λ o. byte_cmp n t.0 ≡ o → AllByRecursion (λ t. t.0 ≡ tag_ref t.1.name) (by_order o ((n, tag) ∷ t ∷ ts) ((t.0, tag) ∷ ts) (t ∷ put byte_cmp n tag ts))) [
      | Less ↦ λ k. (e, h)
      | Equal ↦ λ k. (sym (same_text n t.0 k) ∙ e, h.1)
      | Greater ↦ λ k. (h.0, own_put n tag e ts h.1)
    ] refl

module _ (name : Kind → Bytes → Bytes) {A : Type 0} where
  -- a tag that is set
  moved_tag : (r : Records) (tables : Tables A) (s : State) → Stands name r tables s → (tag : Tag) (called : Name) → IsTagOf name s.history.values tag called
      → (rows : List (Bytes × Name)) → rows ≡ put byte_cmp (tag_ref tag.name) called tables.tags
      → Stands name r (record tables { tags = rows }) (record s { tags = put byte_cmp (tag_ref tag.name) tag s.tags })
  moved_tag r tables s h tag called is rows set =
      record {
        history = h.history;
        marks = h.marks;
        branches = h.branches;
        tags = subst (AreRows (IsTagOf name s.history.values) (put byte_cmp (tag_ref tag.name) tag s.tags)) (sym set) (related_put (IsTagOf name s.history.values) (tag_ref tag.name) tag called is s.tags tables.tags h.tags);
        ref_names = h.ref_names;
        own = own_put (tag_ref tag.name) tag refl s.tags h.own;
        forced = h.forced;
        published = published_tags s.published s.tags tables.branches (tag_ref tag.name) tag h.published;
      }

  -- a value that was added is marked
  pub mark_set : (r : Records) (tables : Tables A) (before s : State) → Follows name r tables before s → (v : Value) (object : Object) → IsOf name s.history.values v object
      → (mark : Option ℕ) (marks : Marks A) → ((n : ℕ) → object_at marks n ≡ marked_object mark object n (object_at tables.marks n)) → Follows name r (record tables { marks = marks }) before (marked mark v s)
  mark_set r tables before s f v object is mark marks set =
      record {
        stands = marked_one name r tables marks s f.stands v object is mark set;
        progress = marked_progress mark v s ∙ f.progress;
        held = marked_held mark v s ∙ f.held;
      }

  -- a tag that was added is marked and set
  pub tag_set : (r : Records) (tables : Tables A) (before s : State) → Follows name r tables before s → (tag : Tag) (called : Name) → IsIn s.history.values (tag_value tag) → called.bytes ≡ name_of name (tag_value tag)
      → (mark : Option ℕ) (marks : Marks A) (object : Object) → object.kind ≡ kinds.Tag → object.name ≡ called → ((n : ℕ) → object_at marks n ≡ marked_object mark object n (object_at tables.marks n))
      → (rows : List (Bytes × Name)) → rows ≡ put byte_cmp (tag_ref tag.name) called tables.tags
      → Follows name r (record tables { marks = marks; tags = rows }) before (let t : State = marked mark (tag_value tag) s in record t { tags = put byte_cmp (tag_ref tag.name) tag t.tags })
  tag_set r tables before s f tag called i named mark marks object kind same set rows at_tags =
      let t = marked mark (tag_value tag) s in
      let held : IsOf name s.history.values (tag_value tag) object = record { stands = i; kind = kind; named = ap (λ n. n.bytes) same ∙ named } in
      let one = marked_one name r tables marks s f.stands (tag_value tag) object held mark set in
      let is = subst (λ h. IsTagOf name h.values tag called) (sym (marked_history mark (tag_value tag) s)) (record { stands = i; named = named }) in
      record {
        stands = moved_tag r (record tables { marks = marks }) t one tag called is rows at_tags;
        progress = marked_progress mark (tag_value tag) s ∙ f.progress;
        held = marked_held mark (tag_value tag) s ∙ f.held;
      }

  -- a commit that was added is marked and put on its branch
  pub commit_set : (r : Records) (tables : Tables A) (before s : State) → Follows name r tables before s → (c : Commit) (called : Name) → IsIn s.history.values (commit_value c) → called.bytes ≡ name_of name (commit_value c)
      → (mark : Option ℕ) (marks : Marks A) (object : Object) → object.kind ≡ kinds.Commit → object.name ≡ called → ((n : ℕ) → object_at marks n ≡ marked_object mark object n (object_at tables.marks n))
      → (ref : Bytes) → IsTrue (is_ref_name ref) → (files : Option NamedTree) → AreTipFiles name (Some c) files
      → (now : Tables A) → now ≡ record tables { marks = marks; branches = now.branches; at_hand = now.at_hand } → now.branches ≡ put byte_cmp ref (tip_at (Some called) files tables.branches ref) tables.branches
      → Follows name r now before (on_branch ref (Some c) (marked mark (commit_value c) s))
  commit_set r tables before s f c called i named mark marks object kind same set ref proper files are now others at_branches =
      let t = marked mark (commit_value c) s in
      let held : IsOf name s.history.values (commit_value c) object = record { stands = i; kind = kind; named = ap (λ n. n.bytes) same ∙ named } in
      let one = marked_one name r tables marks s f.stands (commit_value c) object held mark set in
      let is = subst (λ h. IsCommitOf name h.values c called) (sym (marked_history mark (commit_value c) s)) (record { stands = i; named = named }) in
      let tip = tip_at (Some called) files tables.branches ref in
      let of_tip : IsTip name t.history.values (Some c) tip = record { commit = is; files = are } in
      record {
        stands = moved_branch name r (record tables { marks = marks }) now t one ref proper (Some c) tip of_tip refl others at_branches;
        progress = marked_progress mark (commit_value c) s ∙ f.progress;
        held = marked_held mark (commit_value c) s ∙ f.held;
      }
