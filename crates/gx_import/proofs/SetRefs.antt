-- The refs that an import sets, as values of the history, and the history of the repository with them.
use Rattle.std.proofs.Common.{◌≡◌, true, List, [], ◌∷◌, ◌++◌, map, Option, Some, None, refl, sym, ap, subst, ◌∙◌}
use Rattle.std.specs.Prelude.{T, not, if◌then◌else◌}
use Rattle.std.specs.Bool.{passes}
use Rattle.std.specs.List.{AllByRecursion, fold, list_all}
use Rattle.std.specs.declared.cmp.Ordering.{Ordering}
use Rattle.std.specs.declared.cmp.Ordering.TheVariants.{Less, Equal, Greater}
use Rattle.std.specs.FinMap.Entries.{by_order, is_sorted, is_sorted-put, put}
use Rattle.std.proofs.lemmas.List.{map-append}
use Rattle.std.proofs.lemmas.List.Sums.{fold-append}
use Rattle.gx_model.specs.declared.faults.Fault.TheVariants.{WrongKind}
use Rattle.gx_model.specs.declared.objects.Kind.{Kind}
use Rattle.gx_model.specs.declared.objects.Kind.TheVariants as kinds
use Rattle.gx_model.specs.Texts.{Bytes, byte_cmp}
use Rattle.gx_model.specs.Texts.RefNames.{is_ref_name, tag_ref}
use Rattle.gx_model.specs.Histories.Values.{Commit, Tag, Value, is_optional_ident, is_proper, tag_value}
use Rattle.gx_model.specs.Objects.{IsNamer, TagParts}
use Rattle.gx_model.specs.Records.{body_of, commit_body, kind_of, name_of, tag_body}
use Rattle.gx_model.specs.Faults.{IsFaultOf, unless}
use Rattle.gx_model.specs.Histories.{History, IsIn, IsRefOf, Records, StandsFor, Target, at_commit, at_tag, record_of, value_at}
use Rattle.gx_model.specs.Records.HistoryOf.{history_of}
use Rattle.gx_model.specs.Records.Sound.{IsSound}
use Rattle.gx_model.specs.Replay.{State, final, overwritten, with_branch}
use Rattle.gx_model.specs.Laws.RepositoryLaws.{HistoriesOf, with_refs}
use Rattle.gx_model.specs.Stores.StoreReading.{is_target_of_kind}
use Rattle.gx_model.proofs.ObjectTexts.BodiesReadBack.{tag_read}
use Rattle.gx_model.proofs.Records.HeldNames.{value_found}
use Rattle.gx_model.proofs.Records.HistoriesExist.{stands, tag_text_is}
use Rattle.gx_model.proofs.Records.LinkedValues.{proper_in}
use Rattle.gx_model.proofs.Texts.PathTests.{both, first, is_same, is_true, second}
use Rattle.gx_object.specs.declared.name.Name.{Name}
use Rattle.gx_repo.specs.Publishing.{fault_of}
use Rattle.gx_model.specs.Records.Publishing.{Change, change_fault, changes_fault, published, with_changes}
use Rattle.std.specs.Option.{option_or}
use Rattle.gx_repo.specs.declared.fault.PublishFault.{PublishFault}
use Rattle.gx_repo.specs.declared.fault.PublishFault.TheVariants as faults
use Rattle.gx_model.proofs.Records.ChangedRefs.{fault_shown}
use Rattle.gx_import.specs.declared.branches.Tip.{Tip}
use Rattle.gx_import.specs.declared.tables.Tables.{Tables}
use Rattle.gx_import.specs.Objects.{IsCommitOf, IsTagOf}
use Rattle.gx_import.specs.RefChanges.{branch_changes, branch_then, changes_of, tag_changes}
use Rattle.gx_import.specs.Rows.{AreBoth, AreRows}
use Rattle.gx_import.specs.Standing.{IsTip, Stands}
use Rattle.gx_model.proofs.Records.SortedRefs.{order, same_text}

-- ---- changes that are good are not refused

pub never_refused : (r : Records) (changes : List Change) → changes_fault r.records changes ≡ None → (fault : PublishFault) → IsFaultOf (fault_of fault) (published r changes) → (fault ≡ faults.OutOfMemory → ⊥) → ⊥
unfolding published
never_refused r changes free faults.OutOfMemory h k = k refl
never_refused r changes free faults.BadRefName h k = let both = sym (ap (λ f. unless f (with_changes r.refs changes)) free) ∙ h in cc both
never_refused r changes free faults.UnknownObject h k = let both = sym (ap (λ f. unless f (with_changes r.refs changes)) free) ∙ h in cc both
never_refused r changes free faults.WrongKind h k = let both = sym (ap (λ f. unless f (with_changes r.refs changes)) free) ∙ h in cc both

-- ---- the refs of a state, one after the other

abbrev pub Targets : Type 0
Targets = List (Bytes × Target)

abbrev pub target_then : Bytes → Option Commit → Targets → Targets
target_then n None targets = targets
target_then n (Some c) targets = (n, at_commit c) ∷ targets

abbrev pub branch_targets : List (Bytes × Option Commit) → Targets
branch_targets [] = []
branch_targets (b ∷ bs) = target_then b.0 b.1 (branch_targets bs)

abbrev pub tag_targets : List (Bytes × Tag) → Targets
tag_targets tags = map (λ t. (t.0, at_tag t.1)) tags

abbrev pub targets_of : State → Targets
targets_of s = branch_targets s.branches ++ tag_targets s.tags

abbrev pub put_target : Targets → Bytes × Target → Targets
put_target refs t = put byte_cmp t.0 t.1 refs

branches_put : (refs : Targets) (bs : List (Bytes × Option Commit)) → fold with_branch refs bs ≡ fold put_target refs (branch_targets bs)
branches_put refs [] = refl
branches_put refs ((n, None) ∷ bs) = branches_put refs bs
branches_put refs ((n, Some c) ∷ bs) = branches_put (put byte_cmp n (at_commit c) refs) bs

tags_put : (refs : Targets) (ts : List (Bytes × Tag)) → fold (λ rs t. put byte_cmp t.0 (at_tag t.1) rs) refs ts ≡ fold put_target refs (tag_targets ts)
tags_put refs [] = refl
tags_put refs (t ∷ ts) = tags_put (put byte_cmp t.0 (at_tag t.1) refs) ts

-- refs overwritten by a state are those with all of its refs put
pub overwritten_is : (s : State) (refs : Targets) → overwritten s refs ≡ fold put_target refs (targets_of s)
overwritten_is s refs =
    tags_put (fold with_branch refs s.branches) s.tags ∙ ap (λ rs. fold put_target rs (tag_targets s.tags)) (branches_put refs s.branches)
    ∙ sym (fold-append put_target refs (branch_targets s.branches) (tag_targets s.tags))

-- ---- refs by the names of their objects

seen_by_order : {X Y : Type 0} (f : X → Y) (o : Ordering) (less equal greater : List X) → map f (by_order o less equal greater) ≡ by_order o (map f less) (map f equal) (map f greater)
seen_by_order f Less less equal greater = refl
seen_by_order f Equal less equal greater = refl
seen_by_order f Greater less equal greater = refl

module _ (name : Kind → Bytes → Bytes) where
  -- a ref's name, and that of its object
  abbrev pub seen : Bytes × Target → Bytes × Bytes
  seen t = (t.0, name_of name (value_at t.1))

  seen_put : (n : Bytes) (x : Target) (refs : Targets) → map seen (put byte_cmp n x refs) ≡ put byte_cmp n (name_of name (value_at x)) (map seen refs)
  seen_put n x [] = refl
  seen_put n x (e ∷ es) =
      seen_by_order seen (byte_cmp n e.0) ((n, x) ∷ e ∷ es) ((e.0, x) ∷ es) (e ∷ put byte_cmp n x es)
      ∙ ap (λ rest. by_order (byte_cmp n e.0) ((n, name_of name (value_at x)) ∷ seen e ∷ map seen es) ((e.0, name_of name (value_at x)) ∷ map seen es) (seen e ∷ rest)) (seen_put n x es)

  pub seen_all : (refs ts : Targets) → map seen (fold put_target refs ts) ≡ with_changes (map seen refs) (map seen ts)
  seen_all refs [] = refl
  seen_all refs (t ∷ ts) = seen_all (put_target refs t) ts ∙ ap (λ rs. with_changes rs (map seen ts)) (seen_put t.0 t.1 refs)

  then_seen : (values : List Value) (n m : Bytes) → n ≡ m → (c : Option Commit) (called : Option Name) → AreBoth (IsCommitOf name values) c called
      → (changes : List Change) (ts : Targets) → changes ≡ map seen ts → branch_then m called changes ≡ map seen (target_then n c ts)
  then_seen values n m e None None h changes ts k = k
  then_seen values n m e None (Some called) h changes ts k = absurd h
  then_seen values n m e (Some c) None h changes ts k = absurd h
  then_seen values n m e (Some c) (Some called) h changes ts k = λ i. (sym e i, h.named i) ∷ k i

  branches_seen : {A : Type 0} (values : List Value) (bs : List (Bytes × Option Commit)) (rows : List (Bytes × Tip A)) → AreRows (IsTip name values) bs rows → branch_changes rows ≡ map seen (branch_targets bs)
  branches_seen values [] [] h = refl
  branches_seen values [] (w ∷ ws) h = absurd h
  branches_seen values (b ∷ bs) [] h = absurd h
  branches_seen values (b ∷ bs) (w ∷ ws) h = then_seen values b.0 w.0 h.0 b.1 w.1.commit h.1.commit (branch_changes ws) (branch_targets bs) (branches_seen values bs ws h.2)

  tags_seen : (values : List Value) (ts : List (Bytes × Tag)) (rows : List (Bytes × Name)) → AreRows (IsTagOf name values) ts rows → tag_changes rows ≡ map seen (tag_targets ts)
  tags_seen values [] [] h = refl
  tags_seen values [] (w ∷ ws) h = absurd h
  tags_seen values (t ∷ ts) [] h = absurd h
  tags_seen values (t ∷ ts) (w ∷ ws) h = λ i. (sym h.0 i, h.1.named i) ∷ tags_seen values ts ws h.2 i

  -- the changes of an import are those of its state
  pub changes_seen : {A : Type 0} (r : Records) (tables : Tables A) (s : State) → Stands name r tables s → changes_of tables ≡ map seen (targets_of s)
  changes_seen r tables s h =
      (λ i. branches_seen s.history.values s.branches tables.branches h.branches i ++ tags_seen s.history.values s.tags tables.tags h.tags i)
      ∙ sym (map-append seen (branch_targets s.branches) (tag_targets s.tags))

-- ---- good refs

-- a ref name, at a value of the history, and at a tag only by its own name
pub record IsGood (values : List Value) (ref : Bytes × Target) : Type 0 where
  pub named : T (is_ref_name ref.0)
  pub held : IsIn values (value_at ref.1)
  pub own : IsRefOf ref.0 ref.1

all_both : {X : Type 0} (P : X → Type 0) (xs zs : List X) → AllByRecursion P xs → AllByRecursion P zs → AllByRecursion P (xs ++ zs)
all_both P [] zs h k = k
all_both P (x ∷ xs) zs h k = (h.0, all_both P xs zs h.1 k)

all_put : (P : Bytes × Target → Type 0) (n : Bytes) (x : Target) (refs : Targets) → P (n, x) → AllByRecursion P refs → AllByRecursion P (put byte_cmp n x refs)
all_put P n x [] p h = (p, tt)
all_put P n x (e ∷ es) p h =
    elim (byte_cmp n e.0) as (λ o. byte_cmp n e.0 ≡ o → AllByRecursion P (by_order o ((n, x) ∷ e ∷ es) ((e.0, x) ∷ es) (e ∷ put byte_cmp n x es))) [
      | Less ↦ λ q. (p, h)
      | Equal ↦ λ q. (subst (λ z. P (z, x)) (same_text n e.0 q) p, h.1)
      | Greater ↦ λ q. (h.0, all_put P n x es p h.1)
    ] refl

good_put : (P : Bytes × Target → Type 0) (refs ts : Targets) → AllByRecursion P refs → AllByRecursion P ts → AllByRecursion P (fold put_target refs ts)
good_put P refs [] h k = h
good_put P refs (t ∷ ts) h k = good_put P (put_target refs t) ts (all_put P t.0 t.1 refs k.0 h) k.1

pub sorted_put : (refs ts : Targets) → T (is_sorted byte_cmp refs) → T (is_sorted byte_cmp (fold put_target refs ts))
sorted_put refs [] h = h
sorted_put refs (t ∷ ts) h = sorted_put (put_target refs t) ts (is_sorted-put byte_cmp order t.0 t.1 refs h)

all_good : (values : List Value) (refs : Targets) → T (list_all (λ ref. is_ref_name ref.0) refs) → AllByRecursion (λ ref. IsIn values (value_at ref.1)) refs → AllByRecursion (λ ref. IsRefOf ref.0 ref.1) refs → AllByRecursion (IsGood values) refs
all_good values [] n h o = tt
all_good values (e ∷ es) n h o = (record { named = first _ _ n; held = h.0; own = o.0 }, all_good values es (second (is_ref_name e.0) _ n) h.1 o.1)

all_named : (values : List Value) (refs : Targets) → AllByRecursion (IsGood values) refs → T (list_all (λ ref. is_ref_name ref.0) refs)
all_named values [] h = tt
all_named values (e ∷ es) h = both _ _ h.0.named (all_named values es h.1)

all_held : (values : List Value) (refs : Targets) → AllByRecursion (IsGood values) refs → AllByRecursion (λ ref. IsIn values (value_at ref.1)) refs
all_held values [] h = tt
all_held values (e ∷ es) h = (h.0.held, all_held values es h.1)

all_own : (values : List Value) (refs : Targets) → AllByRecursion (IsGood values) refs → AllByRecursion (λ ref. IsRefOf ref.0 ref.1) refs
all_own values [] h = tt
all_own values (e ∷ es) h = (h.0.own, all_own values es h.1)

module _ (name : Kind → Bytes → Bytes) where
  then_good : (values : List Value) (n : Bytes) → T (is_ref_name n) → (c : Option Commit) (called : Option Name) → AreBoth (IsCommitOf name values) c called
      → (ts : Targets) → AllByRecursion (IsGood values) ts → AllByRecursion (IsGood values) (target_then n c ts)
  then_good values n is None called h ts k = k
  then_good values n is (Some c) None h ts k = absurd h
  then_good values n is (Some c) (Some called) h ts k = (record { named = is; held = h.stands; own = tt }, k)

  tags_good : (values : List Value) → T (list_all is_proper values) → (ts : List (Bytes × Tag)) (rows : List (Bytes × Name)) → AreRows (IsTagOf name values) ts rows → AllByRecursion (λ tag. tag.0 ≡ tag_ref tag.1.name) ts
      → AllByRecursion (IsGood values) (tag_targets ts)
  tags_good values proper [] rows h o = tt
  tags_good values proper (t ∷ ts) [] h o = absurd h
  tags_good values proper (t ∷ ts) (w ∷ ws) h o = (
    record {
      named = subst (λ n. T (is_ref_name n)) (sym o.0) (first (is_ref_name (tag_ref t.1.name)) (is_optional_ident t.1.tagger) (proper_in values (tag_value t.1) proper h.1.stands));
      held = h.1.stands;
      own = o.0;
    },
    tags_good values proper ts ws h.2 o.1,
  )

module _ (name : Kind → Bytes → Bytes) {A : Type 0} where
  branches_good : (values : List Value) (bs : List (Bytes × Option Commit)) (rows : List (Bytes × Tip A)) → AreRows (IsTip name values) bs rows → T (list_all (λ b. is_ref_name b.0) bs) → AllByRecursion (IsGood values) (branch_targets bs)
  branches_good values [] rows h n = tt
  branches_good values (b ∷ bs) [] h n = absurd h
  branches_good values (b ∷ bs) (w ∷ ws) h n =
      then_good name values b.0 (first _ _ n) b.1 w.1.commit h.1.commit (branch_targets bs) (branches_good values bs ws h.2 (second (is_ref_name b.0) _ n))

  pub targets_good : (r : Records) (tables : Tables A) (s : State) → Stands name r tables s → T (list_all is_proper s.history.values) → AllByRecursion (IsGood s.history.values) (targets_of s)
  targets_good r tables s h proper =
      all_both (IsGood s.history.values) (branch_targets s.branches) (tag_targets s.tags)
      (branches_good s.history.values s.branches tables.branches h.branches (passes _ h.ref_names))
      (tags_good name s.history.values proper s.tags tables.tags h.tags h.own)

module _ (name : Kind → Bytes → Bytes) (namer : IsNamer name) (r : Records) (sound : IsSound name r) where
  may_hold : (n : Bytes) (x : Target) → T (is_proper (value_at x)) → IsRefOf n x → is_target_of_kind n (kind_of name (value_at x)) (body_of name (value_at x)) ≡ true
  may_hold n (at_commit c) p own = refl
  may_hold n (at_tag t) p own =
      let parts : TagParts = record { object = name kinds.Commit (commit_body name t.target); name = t.name; tagger = t.tagger; message = t.message } in
      is_true _ (is_same n _ (own ∙ ap (λ (q : TagParts). tag_ref q.name) (sym (tag_read parts (tag_body name t) (tag_text_is name namer t p)))))

  one_free : (ref : Bytes × Target) → IsGood (history_of r).values ref → change_fault r.records (seen name ref) ≡ None
  one_free ref h =
      let v = value_at ref.1 in
      let proper = proper_in (history_of r).values v (passes _ (stands name namer r sound).history.proper) h.held in
      fault_shown r.records (seen name ref) (kind_of name v) (body_of name v) (is_true _ h.named)
      (record { held = record_of name v; found = (value_found name namer r sound v h.held).0; named = refl; of_kind = refl; of_body = refl })
      ∙ ap (λ b. if not b then Some WrongKind else None) (may_hold ref.0 ref.1 proper h.own)

  -- good refs are not refused
  pub all_free : (ts : Targets) → AllByRecursion (IsGood (history_of r).values) ts → changes_fault r.records (map (seen name) ts) ≡ None
  all_free [] h = refl
  all_free (t ∷ ts) h = (λ i. option_or (one_free t h.0 i) (changes_fault r.records (map (seen name) ts))) ∙ all_free ts h.1

  -- with good refs put, a repository stands for the history with these refs
  stands_set : (h : History) → StandsFor name r h → (ts : Targets) → AllByRecursion (IsGood h.values) ts
      → StandsFor name (with_refs r (with_changes r.refs (map (seen name) ts))) (record { values = h.values; refs = fold put_target h.refs ts })
  stands_set h st ts good =
      let old = all_good h.values h.refs (passes _ st.history.ref_names) st.history.held st.history.own in
      let all = good_put (IsGood h.values) h.refs ts old good in
      record {
        history = record {
          proper = st.history.proper;
          closed = st.history.closed;
          sorted = is_true _ (sorted_put h.refs ts (passes _ st.history.sorted));
          ref_names = is_true _ (all_named h.values _ all);
          held = all_held h.values _ all;
          own = all_own h.values _ all;
        };
        records = st.records;
        distinct = st.distinct;
        refs = ap (λ refs. with_changes refs (map (seen name) ts)) st.refs ∙ sym (seen_all name h.refs ts);
      }

  module _ {A : Type 0} (tables : Tables A) (s : State) (h : Stands name r tables s) where
    good_here : AllByRecursion (IsGood (history_of r).values) (targets_of s)
    good_here =
        subst (λ (z : History). AllByRecursion (IsGood z.values) (targets_of s)) (sym h.history)
        (targets_good name r tables s h (subst (λ (z : History). T (list_all is_proper z.values)) h.history (passes _ (stands name namer r sound).history.proper)))

    -- the changes of an import are not refused
    pub changes_free : changes_fault r.records (changes_of tables) ≡ None
    changes_free = ap (changes_fault r.records) (changes_seen name r tables s h) ∙ all_free (targets_of s) good_here

    -- and give the history at the end
    pub final_set : HistoriesOf name → (new : Records) → new.records ≡ r.records → new.refs ≡ with_changes r.refs (changes_of tables) → history_of new ≡ final s
    final_set law new records refs =
        let now = with_refs r (with_changes r.refs (map (seen name) (targets_of s))) in
        let set : new.refs ≡ now.refs = refs ∙ ap (with_changes r.refs) (changes_seen name r tables s h) in
        (λ i. history_of (record { records = records i; refs = set i }))
        ∙ sym (law.one now (record { values = (history_of r).values; refs = fold put_target (history_of r).refs (targets_of s) }) (stands_set (history_of r) (stands name namer r sound) (targets_of s) good_here))
        ∙ ap (λ (z : History). record { values = z.values; refs = fold put_target z.refs (targets_of s) }) h.history
        ∙ ap (λ refs. record { values = s.history.values; refs = refs }) (sym (overwritten_is s s.history.refs))
