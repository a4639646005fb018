-- What an import holds stands for the state of its replay when a value is added, a mark is set, or a branch moves.
use Rattle.std.proofs.Common.{◌≡◌, ℕ, true, false, cond, List, [], ◌∷◌, ◌++◌, Option, Some, None, refl, sym, ap, subst, ◌∙◌, inl}
use Rattle.std.specs.Prelude.{T, nat_eq, IsTrue}
use Rattle.std.specs.Bool.{passes}
use Rattle.std.specs.List.{list_all}
use Rattle.std.specs.Map.{lookup}
use Rattle.std.specs.declared.cmp.Ordering.TheVariants.{Less, Equal, Greater}
use Rattle.std.specs.FinMap.Entries.{by_order, put}
use Rattle.gx_model.specs.declared.objects.Kind.{Kind}
use Rattle.gx_model.specs.Texts.{Bytes, byte_cmp}
use Rattle.gx_model.specs.Texts.RefNames.{is_ref_name}
use Rattle.gx_model.specs.Histories.Values.{Commit, Tag, Value}
use Rattle.gx_model.specs.Histories.{IsIn, Records, is_in, with_one, with_value}
use Rattle.gx_model.specs.Laws.RepositoryLaws.{values_of}
use Rattle.gx_model.specs.Replay.{State, added, marked, on_branch}
use Rattle.gx_model.proofs.Texts.PathTests.{first, second, is_true}
use Rattle.gx_model.proofs.Histories.AddedValues.{in_left, in_right, is_in_is}
use Rattle.gx_object.specs.declared.name.Name.{Name}
use Rattle.gx_repo.specs.Additions.{HasValues}
use Rattle.gx_import.specs.declared.object.Object.{Object}
use Rattle.gx_import.specs.declared.marks.Marks.{Marks}
use Rattle.gx_import.specs.declared.branches.Tip.{Tip}
use Rattle.gx_import.specs.declared.tables.Tables.{Tables}
use Rattle.gx_import.specs.Marks.{marked_object, object_at}
use Rattle.gx_import.specs.Objects.{IsCommitOf, IsOf, IsTagOf}
use Rattle.gx_import.specs.Rows.{AreBoth, AreRows}
use Rattle.gx_import.specs.Standing.{IsTip, Stands, is_published}
use Rattle.gx_import.proofs.PublishedNames.{published_same, tip_put}
use Rattle.gx_import.proofs.RelatedRows.{related_more, related_put}

-- ---- values stay, and the one that is added stands

pub one_keeps : (vs : List Value) (w u : Value) → IsIn vs u → IsIn (with_one vs w) u
one_keeps vs w u h = elim (is_in vs w) as (λ b. IsIn (cond b vs (vs ++ w ∷ [])) u) [ true ↦ h | false ↦ in_left vs (w ∷ []) u h ]

pub one_has : (vs : List Value) (w : Value) → IsIn (with_one vs w) w
one_has vs w =
    elim (is_in vs w) as (λ b. is_in vs w ≡ b → IsIn (cond b vs (vs ++ w ∷ [])) w) [
      | true ↦ λ e. is_in_is vs w (passes _ e)
      | false ↦ λ e. in_right vs (w ∷ []) w (inl refl)
    ] refl

abbrev Keeps : List Value → List Value → Type 0
Keeps vs ws = (u : Value) → IsIn vs u → IsIn ws u

both_more : {X Y : Type 0} (Is Be : X → Y → Type 0) → ((x : X) (y : Y) → Is x y → Be x y) → (o : Option X) (p : Option Y) → AreBoth Is o p → AreBoth Be o p
both_more Is Be f None None h = tt
both_more Is Be f None (Some y) h = absurd h
both_more Is Be f (Some x) None h = absurd h
both_more Is Be f (Some x) (Some y) h = f x y h

module _ (name : Kind → Bytes → Bytes) where
  commit_kept : (vs ws : List Value) → Keeps vs ws → (c : Commit) (n : Name) → IsCommitOf name vs c n → IsCommitOf name ws c n
  commit_kept vs ws k c n h = record { stands = k _ h.stands; named = h.named }

  tag_kept : (vs ws : List Value) → Keeps vs ws → (t : Tag) (n : Name) → IsTagOf name vs t n → IsTagOf name ws t n
  tag_kept vs ws k t n h = record { stands = k _ h.stands; named = h.named }

  object_kept : (vs ws : List Value) → Keeps vs ws → (v : Value) (o : Object) → IsOf name vs v o → IsOf name ws v o
  object_kept vs ws k v o h = record { stands = k _ h.stands; kind = h.kind; named = h.named }

names_put : (n : Bytes) (c : Option Commit) (bs : List (Bytes × Option Commit)) → T (is_ref_name n) → T (list_all (λ b. is_ref_name b.0) bs) → T (list_all (λ b. is_ref_name b.0) (put byte_cmp n c bs))
names_put n c [] k h = passes _ (let both : is_ref_name n ≡ true = is_true _ k in rw both refl)
names_put n c (b ∷ bs) k h =
    let own = is_true _ (first (is_ref_name b.0) (list_all (λ b. is_ref_name b.0) bs) h) in
    let rest = second (is_ref_name b.0) (list_all (λ b. is_ref_name b.0) bs) h in
    let mine = is_true _ k in
    elim (byte_cmp n b.0) as (λ o. T (list_all (λ b. is_ref_name b.0) (by_order o ((n, c) ∷ b ∷ bs) ((b.0, c) ∷ bs) (b ∷ put byte_cmp n c bs)))) [
      | Less ↦ passes _ (rw (mine, own) (is_true _ rest))
      | Equal ↦ passes _ (rw own (is_true _ rest))
      | Greater ↦ passes _ (rw own (is_true _ (names_put n c bs k rest)))
    ]

module _ (name : Kind → Bytes → Bytes) {A : Type 0} where
  tip_kept : (vs ws : List Value) → Keeps vs ws → (c : Option Commit) (t : Tip A) → IsTip name vs c t → IsTip name ws c t
  tip_kept vs ws k c t h = record { commit = both_more (IsCommitOf name vs) (IsCommitOf name ws) (commit_kept name vs ws k) c t.commit h.commit; files = h.files }

  -- with more values in the history
  pub grown : (r now : Records) (tables : Tables A) (s : State) → Stands name r tables s → (values : List Value) → Keeps s.history.values values → HasValues r now values
      → Stands name now tables (record s { history = record { values = values; refs = s.history.refs } })
  grown r now tables s h values k has =
      record {
        history = has ∙ ap (λ z. record { values = values; refs = z.refs }) h.history;
        marks = λ n. both_more (IsOf name s.history.values) (IsOf name values) (object_kept name s.history.values values k) (lookup (nat_eq n) s.marks) (object_at tables.marks n) (h.marks n);
        branches = related_more (IsTip name s.history.values) (IsTip name values) (tip_kept s.history.values values k) s.branches tables.branches h.branches;
        tags = related_more (IsTagOf name s.history.values) (IsTagOf name values) (tag_kept name s.history.values values k) s.tags tables.tags h.tags;
        ref_names = h.ref_names;
        own = h.own;
        forced = h.forced;
        published = h.published;
      }

  -- with one value more
  pub added_one : (r now : Records) (tables : Tables A) (s : State) → Stands name r tables s → (v : Value) → with_value s.history.values v ≡ with_one s.history.values v → HasValues r now (with_one (values_of r) v)
      → Stands name now tables (added v s)
  added_one r now tables s h v one has =
      grown r now tables s h (with_value s.history.values v) (λ u i. subst (λ ws. IsIn ws u) (sym one) (one_keeps s.history.values v u i))
      (subst (HasValues r now) (ap (λ z. with_one z.values v) h.history ∙ sym one) has)

  -- a mark that is set
  pub marked_one : (r : Records) (tables : Tables A) (marks : Marks A) (s : State) → Stands name r tables s → (v : Value) (object : Object) → IsOf name s.history.values v object
      → (mark : Option ℕ) → ((n : ℕ) → object_at marks n ≡ marked_object mark object n (object_at tables.marks n)) → Stands name r (record tables { marks = marks }) (marked mark v s)
  marked_one r tables marks s h v object is None set =
      record {
        history = h.history;
        marks = λ n. subst (AreBoth (IsOf name s.history.values) (lookup (nat_eq n) s.marks)) (sym (set n)) (h.marks n);
        branches = h.branches;
        tags = h.tags;
        ref_names = h.ref_names;
        own = h.own;
        forced = h.forced;
        published = h.published;
      }
  marked_one r tables marks s h v object is (Some mark) set =
      record {
        history = h.history;
        marks = λ n. subst (AreBoth (IsOf name s.history.values) (cond (nat_eq n mark) (Some v) (lookup (nat_eq n) s.marks))) (sym (set n)) (at n);
        branches = h.branches;
        tags = h.tags;
        ref_names = h.ref_names;
        own = h.own;
        forced = h.forced;
        published = h.published;
      }
    where
      at : (n : ℕ) → AreBoth (IsOf name s.history.values) (cond (nat_eq n mark) (Some v) (lookup (nat_eq n) s.marks)) (cond (nat_eq n mark) (Some object) (object_at tables.marks n))
      at n = elim (nat_eq n mark) as (λ b. AreBoth (IsOf name s.history.values) (cond b (Some v) (lookup (nat_eq n) s.marks)) (cond b (Some object) (object_at tables.marks n))) [ true ↦ is | false ↦ h.marks n ]

  -- a branch that moves
  pub moved_branch : (r : Records) (tables now : Tables A) (s : State) → Stands name r tables s → (n : Bytes) → IsTrue (is_ref_name n) → (c : Option Commit) (tip : Tip A) → IsTip name s.history.values c tip
      → tip.was_published ≡ is_published tables.branches n → now ≡ record tables { branches = now.branches; at_hand = now.at_hand } → now.branches ≡ put byte_cmp n tip tables.branches → Stands name r now (on_branch n c s)
  moved_branch r tables now s h n ref c tip is stays others rows = subst (λ t. Stands name r t (on_branch n c s)) (sym others) (record {
    history = h.history;
    marks = h.marks;
    branches = subst (AreRows (IsTip name s.history.values) (put byte_cmp n c s.branches)) (sym rows) (related_put (IsTip name s.history.values) n c tip is s.branches tables.branches h.branches);
    tags = h.tags;
    ref_names = is_true _ (names_put n c s.branches (passes _ ref) (passes _ h.ref_names));
    own = h.own;
    forced = h.forced;
    published = published_same s.published s.tags tables.branches now.branches (λ q. ap (λ rs. is_published rs q) rows ∙ tip_put n tip tables.branches stays q) h.published;
  })
