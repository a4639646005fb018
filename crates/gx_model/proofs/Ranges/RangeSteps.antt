-- The commands of commits that are sent are replayed without a fault where what they build on is held.
use Rattle.std.proofs.Common.{◌≡◌, Bool, true, false, cond, Option, Some, None, Result, Ok, Err, List, [], ◌∷◌, ◌++◌, map, refl, sym, ap, subst, ◌∙◌, append-nil, append_assoc, inl, inr}
use Rattle.std.specs.Bool.{passes}
use Rattle.std.specs.FinMap.Entries.{find, find-put, put}
use Rattle.std.specs.List.{filter, fold, list_all, AllByRecursion}
use Rattle.std.specs.Ordering.{eq_by_cmp}
use Rattle.std.specs.Prelude.{T, ◌⊎◌}
use Rattle.std.proofs.lemmas.Bool.{false≢true, false_from_ne_true}
use Rattle.std.proofs.lemmas.Slice.Eq.{bytes_eq-Decides}
use Rattle.gx_model.specs.declared.faults.Fault.{Fault}
use Rattle.gx_model.specs.declared.faults.Fault.TheVariants as faults
use Rattle.gx_model.specs.declared.objects.Kind.{Kind}
use Rattle.gx_model.specs.Texts.{Bytes, byte_cmp, same_bytes}
use Rattle.gx_model.specs.Texts.RefNames.{is_ref_name}
use Rattle.gx_model.specs.Faults.{◌>>=◌}
use Rattle.gx_model.specs.Streams.Commands.{Named}
use Rattle.gx_model.specs.Histories.Values.{Commit, Value, commit_value, files_of, is_content, is_proper_text, list_of, parents_of, tag_value, text_of}
use Rattle.gx_model.specs.Histories.{History, IsIn, IsRefOf, at_commit, at_tag, is_in, with_one}
use Rattle.gx_model.specs.Objects.{IsNamer, hex}
use Rattle.gx_model.specs.Records.{name_of}
use Rattle.gx_model.specs.Revisions.{parent, revision_of}
use Rattle.gx_model.specs.Revisions.Denotation.{commit_in, value_denoted}
use Rattle.gx_model.specs.Revisions.Ranges.{reaches}
use Rattle.gx_model.specs.Replay.{commit_alone, committed, committed_for, names_itself, or_branch, peeled_at}
use Rattle.std.specs.Option.{ok_or}
use Rattle.gx_model.specs.Export.{carrier, contents, marked_in, ref_by, with_blobs}
use Rattle.gx_model.specs.Changes.{commit_changes, commit_ref, commit_revision, commit_with_changes, commits_with_changes, first_or_carrier, is_branch, named_in, own_files, reaching, with_changes}
use Rattle.gx_model.specs.Laws.ExportLaws.{steps, values_with_blobs}
use Rattle.gx_model.specs.Laws.RangeLaws.{AreToldByName}
use Rattle.gx_model.proofs.Histories.AddedValues.{is_in_is}
use Rattle.gx_model.proofs.Changes.ChangeReplays.{branches_after, first_holds}
use Rattle.gx_model.proofs.Changes.ChangeSteps.{changes_replayed}
use Rattle.gx_model.proofs.Export.CommitSteps.{AreNamed, Branches, Tags, begun_on, block_replayed, blobs_have, blobs_keep, committed_on, number_found, state_with, steps_after}
use Rattle.gx_model.proofs.Records.GrownRecords.{is_is_in}
use Rattle.gx_model.proofs.Export.KeptCommits.{each_one, one_of_all}
use Rattle.gx_model.proofs.Revisions.NamedByDigits.{digits_are_revision, digits_denote, name_is_text, no_ref_has_caret}
use Rattle.gx_model.proofs.Texts.PathTests.{first, is_true, second}
use Rattle.gx_model.proofs.Export.PublishedRefs.{Refs, ref_branches, ref_tags, ref_values}
use Rattle.gx_model.proofs.Ranges.ReceivedValues.{FollowsSent, HoldsSent, IsFront, IsKnown, commit_sent, front_blobs, front_one, held_parts, known_held, values_with_changes}
use Rattle.gx_model.proofs.Texts.TextMaps.{lookup_is, order, same_text, tied}

-- ---- names of branches

-- what is no ref name names no branch
abbrev pub ArePlain : Branches → Type 0
ArePlain bs = (x : Bytes) → is_ref_name x ≡ false → find byte_cmp x bs ≡ None

pub plain_put : (r : Bytes) (o : Option Commit) (bs : Branches) → is_ref_name r ≡ true → ArePlain bs → ArePlain (put byte_cmp r o bs)
plain_put r o bs n h x t =
    find-put byte_cmp order x r o bs
    ∙ elim (eq_by_cmp byte_cmp x r) as (λ b. eq_by_cmp byte_cmp x r ≡ b → cond b (Some o) (find byte_cmp x bs) ≡ None) [
      | true ↦ λ e. absurd (false≢true (sym t ∙ ap is_ref_name (same_text x r (tied x r e)) ∙ n))
      | false ↦ λ e. h x t
    ] refl

pub plain_begun : (r : Bytes) (ps : List Commit) (bs : Branches) → is_ref_name r ≡ true → ArePlain bs → ArePlain (begun_on r ps bs)
plain_begun r [] bs n h = plain_put r None bs n h
plain_begun r (p ∷ ps) bs n h = h

-- refs have ref names
abbrev pub HaveNames : Refs → Type 0
HaveNames refs = AllByRecursion (λ r. is_ref_name r.0 ≡ true) refs

pub have_names : (refs : Refs) → T (list_all (λ r. is_ref_name r.0) refs) → HaveNames refs
have_names [] h = tt
have_names (r ∷ rs) h = (is_true _ (first (is_ref_name r.0) _ h), have_names rs (second (is_ref_name r.0) _ h))

-- what the carrier and the names of refs pass is passed by the ref that a commit goes out on
pub ref_passes : (t : Bytes → Bool) (b : Bool) (refs : Refs) (c : Commit) → t carrier ≡ b → AllByRecursion (λ r. t r.0 ≡ b) refs → t (commit_ref refs c) ≡ b
ref_passes t b refs c e h = by (reaching refs c) (all refs h) where
  all : (rs : Refs) → AllByRecursion (λ r. t r.0 ≡ b) rs → AllByRecursion (λ n. t n ≡ b) (reaching rs c)
  all [] h = tt
  all (x ∷ rs) h =
      let rest = all rs h.1 in
      let left = filter (λ r. reaches (peeled_at r.1) c) rs in
      elim (reaches (peeled_at x.1) c) as (λ k. AllByRecursion (λ n. t n ≡ b) (map (λ r. r.0) (cond k (x ∷ left) left))) [ true ↦ (h.0, rest) | false ↦ rest ]

  by : (ns : List Bytes) → AllByRecursion (λ n. t n ≡ b) ns → t (first_or_carrier (filter is_branch ns ++ ns)) ≡ b
  by [] g = e
  by (x ∷ ns) g = first_holds (λ n. t n ≡ b) x ns g

-- and so each commit goes out on a ref name
pub plain_ref : (refs : Refs) (c : Commit) → HaveNames refs → is_ref_name (commit_ref refs c) ≡ true
plain_ref refs c h = ref_passes is_ref_name true refs c refl h

apart_text : (x y : Bytes) → is_ref_name x ≡ true → is_ref_name y ≡ false → same_bytes x y ≡ false
apart_text x y n t = false_from_ne_true _ (λ e. false≢true (sym t ∙ ap is_ref_name (sym ((bytes_eq-Decides x y).0 e)) ∙ n))

-- the values after all commits
abbrev pub values_sent : List Value → List Value → List Commit → List Value
values_sent ws vs [] = vs
values_sent ws vs (c ∷ cs) = values_sent (with_changes ws c) (values_with_changes ws vs c) cs

module _ (name : Kind → Bytes → Bytes) (namer : IsNamer name) (h : History) (told : AreToldByName name h.values) where
  -- a commit was written, or was held from the start
  abbrev pub IsWrittenOrHeld : List Value → Commit → Type 0
  IsWrittenOrHeld ws p = IsIn ws (commit_value p) ⊎ IsIn h.values (commit_value p)

  abbrev digits_of : Commit → Bytes
  digits_of p = hex (name_of name (commit_value p))

  by_digits : (kind : Value → Result Commit Fault) (p : Commit) → kind (commit_value p) ≡ Ok p → (ws vs : List Value) (bs : Branches) (ts : Tags) → IsFront h.values vs → ArePlain bs → IsIn h.values (commit_value p)
      → committed name kind (state_with h ws vs bs ts) (Named (commit_revision name p)) ≡ Ok p
  by_digits kind p e ws vs bs ts f plain i =
      let x = digits_of p in
      let y = commit_revision name p in
      let text = name_is_text name namer (commit_value p) in
      let denoted = subst (λ (us : List Value). value_denoted name (record { values = us; refs = h.refs }) (record { base = x; suffixes = parent 0 ∷ []; path = None }) ≡ Ok (commit_value p)) (sym f.1) (digits_denote name namer h.values f.0 h.refs p told i) in
      ap (λ o. or_branch o ((revision_of y >>= λ r. value_denoted name (record { values = vs; refs = h.refs }) r) >>= kind)) (lookup_is y bs ∙ plain y (no_ref_has_caret x))
      ∙ ap (λ r. (r >>= λ r. value_denoted name (record { values = vs; refs = h.refs }) r) >>= kind) (digits_are_revision x text)
      ∙ ap (λ r. r >>= kind) denoted ∙ e

  -- what names a commit gives it
  pub name_gives : (kind : Value → Result Commit Fault) (p : Commit) → kind (commit_value p) ≡ Ok p → (ws vs : List Value) (bs : Branches) (ts : Tags) → IsFront h.values vs → ArePlain bs → IsWrittenOrHeld ws p
      → committed name kind (state_with h ws vs bs ts) (named_in name ws p) ≡ Ok p
  name_gives kind p e ws vs bs ts f plain k =
      elim (is_in ws (commit_value p)) as (λ t. is_in ws (commit_value p) ≡ t → committed name kind (state_with h ws vs bs ts) (cond t (marked_in ws (commit_value p)) (Named (commit_revision name p))) ≡ Ok p) [
        | true ↦ λ t. ap (λ o. ok_or o faults.UnknownMark >>= kind) (number_found ws (commit_value p) (is_in_is ws (commit_value p) (passes _ t))) ∙ e
        | false ↦ λ t. by_digits kind p e ws vs bs ts f plain (elim k [ inl i ↦ absurd (false≢true (sym t ∙ is_is_in ws (commit_value p) i)) | inr i ↦ i ])
      ] refl

  itself_apart : (r : Bytes) (ws : List Value) (p : Commit) → is_ref_name r ≡ true → names_itself r (named_in name ws p) ≡ false
  itself_apart r ws p n =
      elim (is_in ws (commit_value p)) as (λ t. names_itself r (cond t (marked_in ws (commit_value p)) (Named (commit_revision name p))) ≡ false) [
        | true ↦ refl
        | false ↦ apart_text r (commit_revision name p) n (no_ref_has_caret (digits_of p))
      ]

  -- and so for a command of a branch
  pub name_gives_for : (r : Bytes) (p : Commit) (ws vs : List Value) (bs : Branches) (ts : Tags) → is_ref_name r ≡ true → IsFront h.values vs → ArePlain bs → IsWrittenOrHeld ws p
      → committed_for name r (state_with h ws vs bs ts) (named_in name ws p) ≡ Ok p
  name_gives_for r p ws vs bs ts n f plain k =
      ap (λ b. cond b (Err faults.FromItself) (committed name commit_in (state_with h ws vs bs ts) (named_in name ws p))) (itself_apart r ws p n)
      ∙ name_gives commit_in p refl ws vs bs ts f plain k

  all_given : (r : Bytes) (ws vs : List Value) (bs : Branches) (ts : Tags) → is_ref_name r ≡ true → IsFront h.values vs → ArePlain bs → (ps : List Commit) → AllByRecursion (IsWrittenOrHeld ws) ps → AreNamed name h ts r (named_in name ws) (state_with h ws vs bs ts) ps
  all_given r ws vs bs ts n f plain [] k = tt
  all_given r ws vs bs ts n f plain (p ∷ ps) k = (name_gives_for r p ws vs bs ts n f plain k.0, all_given r ws vs bs ts n f plain ps k.1)

  -- ---- commits

  -- the commands of a commit that is sent
  commit_replayed : (refs : Refs) → HaveNames refs → (ws vs : List Value) (bs : Branches) (before : List Commit) (c : Commit) → HoldsSent h.values ws vs before → T (is_content (files_of c)) → AllByRecursion (IsKnown h.values before) (list_of (parents_of c)) → ArePlain bs
      → steps name (state_with h ws vs bs []) (commit_with_changes name refs ws c) ≡ Ok (state_with h (with_changes ws c) (values_with_changes ws vs c) (committed_on (commit_ref refs c) c bs) [])
  commit_replayed refs names ws vs bs before c s content k plain =
      let xs = contents (own_files c) in
      let us = with_blobs ws xs in
      let ps = list_of (parents_of c) in
      let now = values_with_blobs ws vs xs in
      let r = commit_ref refs c in
      let on = begun_on r ps bs in
      let n = plain_ref refs c names in
      let known = each_one (IsKnown h.values before) (IsWrittenOrHeld us) (λ p i. elim i [ inl one ↦ inl (blobs_keep ws xs (commit_value p) (one_of_all (λ d. IsIn ws (commit_value d)) before p s.commits one)) | inr j ↦ inr j ]) ps k in
      block_replayed name h [] r (named_in name us) (commit_changes us c) ws vs bs xs c (
        all_given r us now on [] n (front_blobs h.values ws vs xs s.front) (plain_begun r ps bs n plain) ps known,
        changes_replayed name h [] us now on c (held_parts vs ps s.whole (known_held h.values ws vs before s ps k)) content (blobs_have ws xs),
      )

  -- the commands of all commits that are sent
  pub record AreSent (refs : Refs) (ws vs : List Value) (bs : Branches) (before cs : List Commit) : Type 0 where
    pub steps : steps name (state_with h ws vs bs []) (commits_with_changes name refs ws cs) ≡ Ok (state_with h (fold with_changes ws cs) (values_sent ws vs cs) (branches_after refs bs cs) [])
    pub held : HoldsSent h.values (fold with_changes ws cs) (values_sent ws vs cs) (before ++ cs)
    pub plain : ArePlain (branches_after refs bs cs)

  pub commits_replayed : (refs : Refs) → HaveNames refs → (ws vs : List Value) (bs : Branches) (before cs : List Commit) → HoldsSent h.values ws vs before → FollowsSent h.values before cs → ArePlain bs → AreSent refs ws vs bs before cs
  commits_replayed refs names ws vs bs before [] s f plain = record { steps = refl; held = subst (HoldsSent h.values ws vs) (sym (append-nil before)) s; plain = plain }
  commits_replayed refs names ws vs bs before (c ∷ cs) s f plain =
      let content = first (is_content (files_of c)) (is_proper_text (text_of c)) (passes _ f.0) in
      let r = commit_ref refs c in
      let ps = list_of (parents_of c) in
      let n = plain_ref refs c names in
      let us = with_changes ws c in
      let now = values_with_changes ws vs c in
      let on = committed_on r c bs in
      let one = commit_replayed refs names ws vs bs before c s content f.1 plain in
      let rest = commits_replayed refs names us now on (before ++ c ∷ []) cs (commit_sent h.values ws vs before c s f.0 f.1) f.2 (plain_put r (Some c) (begun_on r ps bs) n (plain_begun r ps bs n plain)) in
      record {
        steps = steps_after name (state_with h ws vs bs []) (state_with h us now on []) (commit_with_changes name refs ws c) (commits_with_changes name refs us cs) one ∙ rest.steps;
        held = subst (HoldsSent h.values (fold with_changes us cs) (values_sent us now cs)) (append_assoc before (c ∷ []) cs) rest.held;
        plain = rest.plain;
      }

  -- ---- refs

  pub refs_replayed : (ws vs : List Value) (bs : Branches) (ts : Tags) (rs : Refs) → AllByRecursion (λ r. IsRefOf r.0 r.1) rs → AllByRecursion (λ r. IsWrittenOrHeld ws (peeled_at r.1)) rs → HaveNames rs → IsFront h.values vs → ArePlain bs
      → steps name (state_with h ws vs bs ts) (map (ref_by (named_in name ws)) rs) ≡ Ok (state_with h ws (ref_values vs rs) (ref_branches bs rs) (ref_tags ts rs))
  refs_replayed ws vs bs ts [] o k n f plain = refl
  refs_replayed ws vs bs ts ((r, at_commit c) ∷ rs) o k n f plain =
      let again = refs_replayed ws vs (put byte_cmp r (Some c) bs) ts rs o.1 k.1 n.1 f (plain_put r (Some c) bs n.0 plain) in
      rw (name_gives_for r c ws vs bs ts n.0 f plain k.0) again
  refs_replayed ws vs bs ts ((r, at_tag t) ∷ rs) o k n f plain =
      let again = refs_replayed ws (with_one vs (tag_value t)) bs (put byte_cmp r t ts) rs o.1 k.1 n.1 (front_one h.values vs (tag_value t) f) plain in
      rw (name_gives commit_alone t.target refl ws vs bs ts f plain k.0) (rw (← o.0) again)
