-- Which commands of an export bring a gitlink of forty zeros, and those before the first that does.
use Rattle.std.proofs.Common.{◌≡◌, suc, Bool, true, false, cond, Some, length, List, [], ◌∷◌, ◌++◌, map, refl, ap, ◌∙◌}
use Rattle.std.specs.Prelude.{not, ◌||◌}
use Rattle.std.specs.List.{AllByRecursion, list_any, take_while}
use Rattle.std.proofs.lemmas.List.Sums.{take_while-cons}
use Rattle.gx_model.specs.declared.objects.Mode.{Mode}
use Rattle.gx_model.specs.declared.objects.Mode.TheVariants.{File, Exec, Link, Gitlink, Dir}
use Rattle.gx_model.specs.Texts.{Bytes}
use Rattle.gx_model.specs.Texts.Paths.{Path}
use Rattle.gx_model.specs.Histories.{History, Target, at_commit, at_tag, is_in}
use Rattle.gx_model.specs.Histories.Files.{FileMap, Leaf}
use Rattle.gx_model.specs.Histories.Values.{Commit, Value, blob_value, files_of, list_of, parents_of}
use Rattle.gx_model.specs.Streams.Commands as command
use Rattle.gx_model.specs.Streams.Commands.{Command}
use Rattle.gx_model.specs.Streams.Gitlinks.{brings_null, gives_null}
use Rattle.gx_model.specs.Export.{all_written, blob_commands, commit_command, commit_commands, contents, export_commands, file_change, last_reset, one_commit, reached_commits, ref_command, root_reset, with_blobs, with_commit}
use Rattle.gx_model.specs.Laws.ExportLaws.{HaveNoNullGitlink, IsNotNull}
use Rattle.gx_model.proofs.Replay.NullGitlinks.{AreNotNull, all_join}

-- ---- the elements before the first that fails

module _ {X : Type 0} (p : X → Bool) where
  abbrev pub AllPass : List X → Type 0
  AllPass xs = AllByRecursion (λ x. p x ≡ true) xs

  pub taken_until : (xs : List X) (y : X) (zs : List X) → AllPass xs → p y ≡ false → take_while p (xs ++ y ∷ zs) ≡ xs
  taken_until [] y zs h e = take_while-cons p y zs ∙ ap (λ b. cond b (y ∷ take_while p zs) []) e
  taken_until (x ∷ xs) y zs h e =
      take_while-cons p x (xs ++ y ∷ zs) ∙ ap (λ b. cond b (x ∷ take_while p (xs ++ y ∷ zs)) []) h.0
      ∙ ap (λ t. x ∷ t) (taken_until xs y zs h.1 e)

  pub taken_all : (xs : List X) → AllPass xs → take_while p xs ≡ xs
  taken_all [] h = refl
  taken_all (x ∷ xs) h = take_while-cons p x xs ∙ ap (λ b. cond b (x ∷ take_while p xs) []) h.0 ∙ ap (λ t. x ∷ t) (taken_all xs h.1)

-- ---- the files of a commit

none_given : (ws : List Value) (f : FileMap Bytes) → AreNotNull f → list_any gives_null (map (file_change ws) f) ≡ false
none_given ws [] h = refl
none_given ws ((p, (m, x)) ∷ f) h = by m h.0 (none_given ws f h.1)
  where
    by : (m : Mode) → IsNotNull m x → list_any gives_null (map (file_change ws) f) ≡ false → list_any gives_null (map (file_change ws) ((p, (m, x)) ∷ f)) ≡ false
    by Gitlink e r = ap (λ b. b || list_any gives_null (map (file_change ws) f)) e ∙ r
    by File e r = r
    by Exec e r = r
    by Link e r = r
    by Dir e r = r

or_true : (b : Bool) → (b || true) ≡ true
or_true true = refl
or_true false = refl

one_given : (ws : List Value) (good : FileMap Bytes) (e : Path × Leaf Bytes) (rest : FileMap Bytes) → gives_null (file_change ws e) ≡ true → list_any gives_null (map (file_change ws) (good ++ e ∷ rest)) ≡ true
one_given ws [] e rest h = ap (λ b. b || list_any gives_null (map (file_change ws) rest)) h
one_given ws (g ∷ good) e rest h = ap (λ b. gives_null (file_change ws g) || b) (one_given ws good e rest h) ∙ or_true (gives_null (file_change ws g))

-- ---- the commands

-- a command that brings none
abbrev pub is_clean : Command → Bool
is_clean c = not (brings_null c)

pub is_brought : (ws : List Value) (c : Commit) (good : FileMap Bytes) (p : Path) (x : Bytes) (rest : FileMap Bytes) → files_of c ≡ good ++ (p, (Gitlink, x)) ∷ rest → gives_null (file_change ws (p, (Gitlink, x))) ≡ true
    → is_clean (commit_command ws c) ≡ false
is_brought ws c good p x rest e h = ap (λ f. not (list_any gives_null (map (file_change ws) f))) e ∙ ap not (one_given ws good (p, (Gitlink, x)) rest h)

pub clean_blobs : (ws : List Value) (xs : List Bytes) → AllPass is_clean (blob_commands ws xs)
clean_blobs ws [] = tt
clean_blobs ws (x ∷ xs) =
    let held = clean_blobs ws xs in
    let new = clean_blobs (blob_value x ∷ ws) xs in
    elim (is_in ws (blob_value x)) as (λ b. AllPass is_clean (cond b (blob_commands ws xs) (command.Blob (record { mark = Some (suc (length ws)); bytes = x }) ∷ blob_commands (blob_value x ∷ ws) xs))) [
      | true ↦ held
      | false ↦ (refl, new)
    ]

pub clean_root : (ps : List Commit) → AllPass is_clean (root_reset ps)
clean_root [] = (refl, tt)
clean_root (p ∷ ps) = tt

pub clean_commits : (ws : List Value) (cs : List Commit) → HaveNoNullGitlink cs → AllPass is_clean (commit_commands ws cs)
clean_commits ws [] h = tt
clean_commits ws (c ∷ cs) h =
    let xs = contents (files_of c) in
    let us = with_blobs ws xs in
    let own : AllPass is_clean (commit_command us c ∷ []) = (ap not (none_given us (files_of c) h.0), tt) in
    let root = all_join (λ x. is_clean x ≡ true) (root_reset (list_of (parents_of c))) (commit_command us c ∷ []) (clean_root (list_of (parents_of c))) own in
    let mine = all_join (λ x. is_clean x ≡ true) (blob_commands ws xs) (root_reset (list_of (parents_of c)) ++ commit_command us c ∷ []) (clean_blobs ws xs) root in
    all_join (λ x. is_clean x ≡ true) (one_commit ws c) (commit_commands (with_commit ws c) cs) mine (clean_commits (with_commit ws c) cs h.1)

clean_last : (cs : List Commit) → AllPass is_clean (last_reset cs)
clean_last [] = tt
clean_last (c ∷ cs) = (refl, tt)

clean_refs : (ws : List Value) (refs : List (Bytes × Target)) → AllPass is_clean (map (ref_command ws) refs)
clean_refs ws [] = tt
clean_refs ws ((r, at_commit c) ∷ refs) = (refl, clean_refs ws refs)
clean_refs ws ((r, at_tag t) ∷ refs) = (refl, clean_refs ws refs)

-- no command of an export brings one where no commit has one
pub clean_export : (h : History) → HaveNoNullGitlink (reached_commits h) → AllPass is_clean (export_commands h)
clean_export h none =
    let cs = reached_commits h in
    let refs = map (ref_command (all_written cs)) h.refs in
    let pass = λ (xs ys : List Command). all_join (λ x. is_clean x ≡ true) xs ys in
    let behind = pass (last_reset cs) refs (clean_last cs) (clean_refs (all_written cs) h.refs) in
    let inner = pass (commit_commands [] cs) (last_reset cs ++ refs) (clean_commits [] cs none) behind in
    (refl, pass (commit_commands [] cs ++ (last_reset cs ++ refs)) (command.Done ∷ []) inner (refl, tt))
