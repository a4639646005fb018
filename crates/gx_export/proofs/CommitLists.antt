-- The commits of a history that pass a test, up to a place, and their commands.
use Rattle.std.proofs.Common.{◌≡◌, ℕ, zero, suc, ◌+◌, Bool, true, false, cond, List, [], ◌∷◌, ◌++◌, take, Some, refl, sym, ap, ◌∙◌, arith, append_assoc}
use Rattle.std.specs.Prelude.{slice_index_or}
use Rattle.std.specs.List.{fold, slice_get}
use Rattle.std.proofs.lemmas.Grind.{flat_map-append}
use Rattle.std.proofs.lemmas.List.{append-nil}
use Rattle.gx_model.specs.Export.{all_written, command_items, commit_commands, one_commit, with_commit}
use Rattle.gx_model.specs.Streams.Items.{Item}
use Rattle.gx_model.specs.Histories.Values.{Commit, Value, blob_value, commit_value, tag_value, tree_value}
use Rattle.gx_model.specs.Histories.Marks.{holds, marks_of}
use Rattle.gx_export.specs.Branches.{picked}
use Rattle.gx_export.specs.Texts.{items_of}

module _ (test : Commit → Bool) where
  picked_cons : (v : Value) (vs : List Value) → picked test (v ∷ vs) ≡ picked test (v ∷ []) ++ picked test vs
  picked_cons (blob_value x) vs = refl
  picked_cons (tree_value f) vs = refl
  picked_cons (tag_value t) vs = refl
  picked_cons (commit_value c) vs = elim (test c) as (λ b. cond b (c ∷ picked test vs) (picked test vs) ≡ cond b (c ∷ []) [] ++ picked test vs) [ true ↦ refl | false ↦ refl ]

  -- a commit that is marked
  pub marked_commit : (vs : List Value) (i : ℕ) → slice_index_or (marks_of test vs) i false ≡ true → (c : Commit) × (slice_get vs i ≡ Some (commit_value c)) × (test c ≡ true)
  marked_commit [] i e = absurd (cc e)
  marked_commit (blob_value x ∷ vs) zero e = absurd (cc e)
  marked_commit (tree_value f ∷ vs) zero e = absurd (cc e)
  marked_commit (tag_value t ∷ vs) zero e = absurd (cc e)
  marked_commit (commit_value c ∷ vs) zero e = (c, refl, e)
  marked_commit (v ∷ vs) (suc i) e = marked_commit vs i e

  one_picked : (c : Commit) → test c ≡ true → picked test (commit_value c ∷ []) ≡ c ∷ []
  one_picked c e = ap (λ b. cond b (c ∷ []) []) e

  -- one commit more
  next_picked : (vs : List Value) (i : ℕ) (c : Commit) → slice_get vs i ≡ Some (commit_value c) → test c ≡ true → picked test (take (suc i) vs) ≡ picked test (take i vs) ++ c ∷ []
  next_picked [] i c e t = absurd (cc e)
  next_picked (v ∷ vs) zero c e t = let same : v ≡ commit_value c = cc e in ap (λ u. picked test (u ∷ [])) same ∙ one_picked c t
  next_picked (v ∷ vs) (suc i) c e t =
      picked_cons v (take (suc i) vs) ∙ ap (λ cs. picked test (v ∷ []) ++ cs) (next_picked vs i c e t) ∙ sym (append_assoc (picked test (v ∷ [])) (picked test (take i vs)) (c ∷ []))
      ∙ ap (λ cs. cs ++ c ∷ []) (sym (picked_cons v (take i vs)))

  pub picked_next : (vs : List Value) (i : ℕ) (c : Commit) → slice_get vs i ≡ Some (commit_value c) → test c ≡ true → picked test (take (i + 1) vs) ≡ picked test (take i vs) ++ c ∷ []
  picked_next vs i c e t = let step : i + 1 ≡ suc i = omega arith in ap (λ n. picked test (take n vs)) step ∙ next_picked vs i c e t

  -- those before, this one, and those behind it
  pub picked_parts : (vs : List Value) (i : ℕ) (c : Commit) → slice_get vs i ≡ Some (commit_value c) → test c ≡ true → (rest : List Commit) × (picked test vs ≡ picked test (take i vs) ++ c ∷ rest)
  picked_parts [] i c e t = absurd (cc e)
  picked_parts (v ∷ vs) zero c e t =
      let same : v ≡ commit_value c = cc e in
      (picked test vs, picked_cons v vs ∙ ap (λ u. picked test (u ∷ []) ++ picked test vs) same ∙ ap (λ cs. cs ++ picked test vs) (one_picked c t))
  picked_parts (v ∷ vs) (suc i) c e t =
      let k = picked_parts vs i c e t in
      (k.0, picked_cons v vs ∙ ap (λ cs. picked test (v ∷ []) ++ cs) k.1 ∙ sym (append_assoc (picked test (v ∷ [])) (picked test (take i vs)) (c ∷ k.0)) ∙ ap (λ cs. cs ++ c ∷ k.0) (sym (picked_cons v (take i vs))))

  none_picked : (v : Value) → holds test v ≡ false → picked test (v ∷ []) ≡ []
  none_picked (blob_value x) e = refl
  none_picked (tree_value f) e = refl
  none_picked (tag_value t) e = refl
  none_picked (commit_value c) e = ap (λ b. cond b (c ∷ []) []) e

  next_passed : (vs : List Value) (i : ℕ) → slice_index_or (marks_of test vs) i false ≡ false → picked test (take (suc i) vs) ≡ picked test (take i vs)
  next_passed [] zero e = refl
  next_passed [] (suc i) e = refl
  next_passed (v ∷ vs) zero e = none_picked v e
  next_passed (v ∷ vs) (suc i) e = picked_cons v (take (suc i) vs) ∙ ap (λ cs. picked test (v ∷ []) ++ cs) (next_passed vs i e) ∙ sym (picked_cons v (take i vs))

  -- what isn't marked adds none
  pub picked_passed : (vs : List Value) (i : ℕ) → slice_index_or (marks_of test vs) i false ≡ false → picked test (take (i + 1) vs) ≡ picked test (take i vs)
  picked_passed vs i e = let step : i + 1 ≡ suc i = omega arith in ap (λ n. picked test (take n vs)) step ∙ next_passed vs i e

-- ---- their commands

-- the items of all commits
abbrev pub commits_items : List Value → List Commit → List Item
commits_items ws cs = items_of (commit_commands ws cs)

pub written_append : (ws : List Value) (cs ds : List Commit) → fold with_commit ws (cs ++ ds) ≡ fold with_commit (fold with_commit ws cs) ds
written_append ws [] ds = refl
written_append ws (c ∷ cs) ds = written_append (with_commit ws c) cs ds

-- the items of some commits and of those behind them
pub items_parted : (ws : List Value) (cs ds : List Commit) → commits_items ws (cs ++ ds) ≡ commits_items ws cs ++ commits_items (fold with_commit ws cs) ds
items_parted ws [] ds = refl
items_parted ws (c ∷ cs) ds =
    flat_map-append command_items (one_commit ws c) (commit_commands (with_commit ws c) (cs ++ ds))
    ∙ ap (λ is. items_of (one_commit ws c) ++ is) (items_parted (with_commit ws c) cs ds)
    ∙ sym (append_assoc (items_of (one_commit ws c)) (commits_items (with_commit ws c) cs) (commits_items (fold with_commit (with_commit ws c) cs) ds))
    ∙ ap (λ is. is ++ commits_items (fold with_commit (with_commit ws c) cs) ds) (sym (flat_map-append command_items (one_commit ws c) (commit_commands (with_commit ws c) cs)))

-- the items of one commit, and of those behind it
pub items_first : (ws : List Value) (c : Commit) (cs : List Commit) → commits_items ws (c ∷ cs) ≡ items_of (one_commit ws c) ++ commits_items (with_commit ws c) cs
items_first ws c cs = flat_map-append command_items (one_commit ws c) (commit_commands (with_commit ws c) cs)

-- the items of one commit more
pub items_last : (cs : List Commit) (c : Commit) → commits_items [] (cs ++ c ∷ []) ≡ commits_items [] cs ++ items_of (one_commit (all_written cs) c)
items_last cs c = items_parted [] cs (c ∷ []) ∙ ap (λ is. commits_items [] cs ++ is) (items_first (all_written cs) c [] ∙ append-nil (items_of (one_commit (all_written cs) c)))
