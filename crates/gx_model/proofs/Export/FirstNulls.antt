-- The first gitlink of forty zeros among the files of commits, and commits in two parts.
use Rattle.std.proofs.Common.{◌≡◌, Bool, true, false, List, [], ◌∷◌, ◌++◌, refl, sym, ap, subst, ◌∙◌, append-nil, append_assoc, inl, inr}
use Rattle.std.specs.Prelude.{◌⊎◌}
use Rattle.std.specs.List.{fold}
use Rattle.gx_model.specs.declared.objects.Mode.{Mode}
use Rattle.gx_model.specs.declared.objects.Mode.TheVariants.{File, Exec, Link, Gitlink, Dir}
use Rattle.gx_model.specs.Texts.{Bytes}
use Rattle.gx_model.specs.Texts.Paths.{Path}
use Rattle.gx_model.specs.Histories.Files.{FileMap, Leaf}
use Rattle.gx_model.specs.Histories.Values.{Commit, Value, files_of}
use Rattle.gx_model.specs.Streams.Lines.{is_null}
use Rattle.gx_model.specs.Export.{commit_commands, one_commit, with_commit}
use Rattle.gx_model.specs.Laws.ExportLaws.{HaveNoNullGitlink, IsNotNull}
use Rattle.gx_model.proofs.Export.KeptCommits.{FollowsAll}
use Rattle.gx_model.proofs.Replay.NullGitlinks.{AreNotNull}

-- ---- the first gitlink of forty zeros

-- the files before it, and those behind it
pub record FirstFile (f : FileMap Bytes) : Type 0 where
  pub good : FileMap Bytes
  pub path : Path
  pub digits : Bytes
  pub rest : FileMap Bytes
  pub are : f ≡ good ++ (path, (Gitlink, digits)) ∷ rest
  pub not_null : AreNotNull good
  pub null : is_null digits ≡ true

with_file : (e : Path × Leaf Bytes) (f : FileMap Bytes) → IsNotNull e.1.0 e.1.1 → AreNotNull f ⊎ FirstFile f → AreNotNull (e ∷ f) ⊎ FirstFile (e ∷ f)
with_file e f h (inl k) = inl (h, k)
with_file e f h (inr r) = inr (record { good = e ∷ r.good; path = r.path; digits = r.digits; rest = r.rest; are = ap (λ g. e ∷ g) r.are; not_null = (h, r.not_null); null = r.null })

first_file : (f : FileMap Bytes) → AreNotNull f ⊎ FirstFile f
first_file [] = inl tt
first_file ((p, (m, x)) ∷ f) = by m (first_file f)
  where
    digits : (b : Bool) → is_null x ≡ b → AreNotNull f ⊎ FirstFile f → AreNotNull ((p, (Gitlink, x)) ∷ f) ⊎ FirstFile ((p, (Gitlink, x)) ∷ f)
    digits true e r = inr (record { good = []; path = p; digits = x; rest = f; are = refl; not_null = tt; null = e })
    digits false e r = with_file (p, (Gitlink, x)) f e r

    by : (m : Mode) → AreNotNull f ⊎ FirstFile f → AreNotNull ((p, (m, x)) ∷ f) ⊎ FirstFile ((p, (m, x)) ∷ f)
    by Gitlink r = digits (is_null x) refl r
    by File r = with_file (p, (File, x)) f tt r
    by Exec r = with_file (p, (Exec, x)) f tt r
    by Link r = with_file (p, (Link, x)) f tt r
    by Dir r = with_file (p, (Dir, x)) f tt r

-- the commits before the first that has one, and those behind it
pub record FirstCommit (cs : List Commit) : Type 0 where
  pub before : List Commit
  pub bad : Commit
  pub after : List Commit
  pub are : cs ≡ before ++ bad ∷ after
  pub clean : HaveNoNullGitlink before
  pub file : FirstFile (files_of bad)

pub first_commit : (cs : List Commit) → HaveNoNullGitlink cs ⊎ FirstCommit cs
first_commit [] = inl tt
first_commit (c ∷ cs) = by (first_file (files_of c)) (first_commit cs)
  where
    by : AreNotNull (files_of c) ⊎ FirstFile (files_of c) → HaveNoNullGitlink cs ⊎ FirstCommit cs → HaveNoNullGitlink (c ∷ cs) ⊎ FirstCommit (c ∷ cs)
    by (inr r) k = inr (record { before = []; bad = c; after = cs; are = refl; clean = tt; file = r })
    by (inl h) (inl k) = inl (h, k)
    by (inl h) (inr r) = inr (record { before = c ∷ r.before; bad = r.bad; after = r.after; are = ap (λ ds. c ∷ ds) r.are; clean = (h, r.clean); file = r.file })

-- ---- commits in two parts

pub follows_left : (b xs ys : List Commit) → FollowsAll b (xs ++ ys) → FollowsAll b xs
follows_left b [] ys f = tt
follows_left b (x ∷ xs) ys f = (f.0, f.1, f.2, follows_left (b ++ x ∷ []) xs ys f.3)

pub follows_right : (b xs ys : List Commit) → FollowsAll b (xs ++ ys) → FollowsAll (b ++ xs) ys
follows_right b [] ys f = subst (λ d. FollowsAll d ys) (sym (append-nil b)) f
follows_right b (x ∷ xs) ys f = subst (λ d. FollowsAll d ys) (append_assoc b (x ∷ []) xs) (follows_right (b ++ x ∷ []) xs ys f.3)

pub commands_split : (ws : List Value) (xs ys : List Commit) → commit_commands ws (xs ++ ys) ≡ commit_commands ws xs ++ commit_commands (fold with_commit ws xs) ys
commands_split ws [] ys = refl
commands_split ws (x ∷ xs) ys =
    ap (λ t. one_commit ws x ++ t) (commands_split (with_commit ws x) xs ys)
    ∙ sym (append_assoc (one_commit ws x) (commit_commands (with_commit ws x) xs) (commit_commands (fold with_commit (with_commit ws x) xs) ys))

pub fold_split : (ws : List Value) (xs ys : List Commit) → fold with_commit ws (xs ++ ys) ≡ fold with_commit (fold with_commit ws xs) ys
fold_split ws [] ys = refl
fold_split ws (x ∷ xs) ys = fold_split (with_commit ws x) xs ys
