-- The test of values tells: it passes just where the two are one.
use Rattle.std.proofs.Common.{◌≡◌, true, refl, ap, subst, [], ◌∷◌, Option, None, Some}
use Rattle.std.specs.Prelude.{T, ◌&&◌, ◌↔◌}
use Rattle.std.specs.Option.{option_eq}
use Rattle.std.specs.Bool.{passes}
use Rattle.gx_model.specs.declared.objects.Mode.{Mode}
use Rattle.gx_model.specs.declared.objects.Mode.TheVariants.{File, Exec, Link, Gitlink, Dir}
use Rattle.gx_model.specs.Texts.{Bytes, same_bytes}
use Rattle.gx_model.specs.Histories.Files.{FileMap}
use Rattle.gx_model.specs.Texts.Paths.{same_path}
use Rattle.gx_model.specs.Histories.Values.{CommitText, Commit, commit, Commits, none, more, Value, blob_value, tree_value, commit_value, tag_value, same_mode, same_files, same_text_of, same_commit, same_commits, same_value}
use Rattle.gx_model.proofs.Texts.PathTests.{both, first, second, is_true, same_is, is_same, path_is, path_same}

-- modes that the test finds equal are one
pub mode_is : (m n : Mode) → T (same_mode m n) → m ≡ n
mode_is File File h = refl
mode_is Exec Exec h = refl
mode_is Link Link h = refl
mode_is Gitlink Gitlink h = refl
mode_is Dir Dir h = refl
mode_is _ _ h = absurd h

-- a mode passes the test with itself
pub mode_same : (m : Mode) → T (same_mode m m)
mode_same File = tt
mode_same Exec = tt
mode_same Link = tt
mode_same Gitlink = tt
mode_same Dir = tt

-- file maps that the test finds equal are one
pub files_is : (f g : FileMap Bytes) → T (same_files f g) → f ≡ g
files_is [] [] h = refl
files_is [] (y ∷ ys) h = absurd h
files_is (x ∷ xs) [] h = absurd h
files_is (x ∷ xs) (y ∷ ys) h =
    let h3 = first (same_path x.0 y.0 && same_mode x.1.0 y.1.0 && same_bytes x.1.1 y.1.1) _ h in
    let h2 = first (same_path x.0 y.0 && same_mode x.1.0 y.1.0) _ h3 in
    λ i. (path_is x.0 y.0 (first _ _ h2) i, (mode_is x.1.0 y.1.0 (second _ _ h2) i, same_is x.1.1 y.1.1 (second _ _ h3) i)) ∷ files_is xs ys (second _ _ h) i

-- a file map passes the test with itself
pub files_same : (f : FileMap Bytes) → T (same_files f f)
files_same [] = tt
files_same (x ∷ xs) = both _ _ (both _ _ (both _ _ (path_same x.0) (mode_same x.1.0)) (is_same x.1.1 x.1.1 refl)) (files_same xs)

-- optional texts that the test finds equal are one
pub option_is : (x y : Option Bytes) → T (option_eq same_bytes x y) → x ≡ y
option_is None None h = refl
option_is None (Some y) h = absurd h
option_is (Some x) None h = absurd h
option_is (Some x) (Some y) h = ap Some (same_is x y h)

-- an optional text passes the test with itself
pub option_same : (x : Option Bytes) → T (option_eq same_bytes x x)
option_same None = tt
option_same (Some x) = is_same x x refl

-- texts of commits that the test finds equal are one
pub text_is : (t u : CommitText) → T (same_text_of t u) → t ≡ u
text_is t u h =
    let h3 = first (same_bytes t.author u.author && same_bytes t.committer u.committer && same_bytes t.headers u.headers) _ h in
    let h2 = first (same_bytes t.author u.author && same_bytes t.committer u.committer) _ h3 in
    λ i. record {
      author = same_is t.author u.author (first _ _ h2) i;
      committer = same_is t.committer u.committer (second _ _ h2) i;
      headers = same_is t.headers u.headers (second _ _ h3) i;
      message = same_is t.message u.message (second _ _ h) i;
    }

-- the text of a commit passes the test with itself
pub text_same : (t : CommitText) → T (same_text_of t t)
text_same t = both _ _ (both _ _ (both _ _ (is_same _ t.author refl) (is_same _ t.committer refl)) (is_same _ t.headers refl)) (is_same _ t.message refl)

mutual
  -- commits that the test finds equal are one
  pub commit_is : (c d : Commit) → T (same_commit c d) → c ≡ d
  commit_is (commit f ps t) (commit g qs u) h =
      let h2 = first (same_files f g && same_commits ps qs) _ h in
      λ i. commit (files_is f g (first _ _ h2) i) (commits_is ps qs (second _ _ h2) i) (text_is t u (second _ _ h) i)

  -- lists of commits that the test finds equal are one
  pub commits_is : (cs ds : Commits) → T (same_commits cs ds) → cs ≡ ds
  commits_is none none h = refl
  commits_is none (more d ds) h = absurd h
  commits_is (more c cs) none h = absurd h
  commits_is (more c cs) (more d ds) h = λ i. more (commit_is c d (first _ _ h) i) (commits_is cs ds (second _ _ h) i)

mutual
  -- a commit passes the test with itself
  pub commit_same : (c : Commit) → T (same_commit c c)
  commit_same (commit f ps t) = both (same_files f f && same_commits ps ps) (same_text_of t t) (both (same_files f f) (same_commits ps ps) (files_same f) (commits_same ps)) (text_same t)

  -- a list of commits passes the test with itself
  pub commits_same : (cs : Commits) → T (same_commits cs cs)
  commits_same none = tt
  commits_same (more c cs) = both (same_commit c c) (same_commits cs cs) (commit_same c) (commits_same cs)

-- values that the test finds equal are one
pub value_is : (v w : Value) → T (same_value v w) → v ≡ w
value_is (blob_value x) (blob_value y) h = ap blob_value (same_is x y h)
value_is (tree_value f) (tree_value g) h = ap tree_value (files_is f g h)
value_is (commit_value c) (commit_value d) h = ap commit_value (commit_is c d h)
value_is (tag_value t) (tag_value u) h =
    let h3 = first (same_commit t.target u.target && same_bytes t.name u.name && option_eq same_bytes t.tagger u.tagger) _ h in
    let h2 = first (same_commit t.target u.target && same_bytes t.name u.name) _ h3 in
    λ i. tag_value (record {
      target = commit_is t.target u.target (first _ _ h2) i;
      name = same_is t.name u.name (second _ _ h2) i;
      tagger = option_is t.tagger u.tagger (second _ _ h3) i;
      message = same_is t.message u.message (second _ _ h) i;
    })
value_is _ _ h = absurd h

-- a value passes the test with itself
pub value_same : (v : Value) → T (same_value v v)
value_same (blob_value x) = is_same x x refl
value_same (tree_value f) = files_same f
value_same (commit_value c) = commit_same c
value_same (tag_value t) = both _ _ (both _ _ (both _ _ (commit_same t.target) (is_same _ t.name refl)) (option_same t.tagger)) (is_same _ t.message refl)

pub same_value_tells : (v w : Value) → (same_value v w ≡ true) ↔ (v ≡ w)
same_value_tells v w = (λ h. value_is v w (passes _ h), λ e. is_true _ (subst (λ u. T (same_value v u)) e (value_same v)))
