-- Worked rows on what refs reach: which records are left of a repository.
use Rattle.std.specs.Prelude.{◌≡◌, ℕ, List, [], ◌∷◌, ◌++◌, map, replicate, codes, None, refl}
use Rattle.gx_model.specs.declared.objects.Kind.{Kind}
use Rattle.gx_model.specs.declared.objects.Kind.TheVariants as kind
use Rattle.gx_model.specs.declared.objects.Mode.{Mode}
use Rattle.gx_model.specs.declared.objects.Mode.TheVariants.{Dir, Exec, File, Gitlink}
use Rattle.gx_model.specs.Texts.{Bytes}
use Rattle.gx_model.specs.Histories.Values.{CommitText}
use Rattle.gx_model.specs.Histories.{Record}
use Rattle.gx_model.specs.Objects.{Entry, commit_text, tag_text, tree_text}
use Rattle.gx_model.specs.Pruning.{pruned}

-- the name of 20 bytes that ends in this one
abbrev called : ℕ → Bytes
called n = replicate 19 17 ++ n ∷ []

abbrev held : ℕ → Kind → Bytes → Record
held n of_kind body = record { name = called n; kind = of_kind; body = body }

abbrev entry : Mode → Bytes → ℕ → Entry
entry mode component n = record { mode = mode; component = component; name = called n }

abbrev text : CommitText
text = record { author = codes "A <a@x> 1 +0000"; committer = codes "A <a@x> 1 +0000"; headers = []; message = codes "m" }

abbrev commit_of : ℕ → List ℕ → Bytes
commit_of tree parents = commit_text (record { tree = called tree; parents = map called parents; text = text })

-- two blobs, a tree with the first and with a gitlink that has the name of the second, a tree with that and a further blob, and
-- commits of these: the third has the first as its second parent; a tag names the fourth, which no branch reaches
abbrev records : List Record
records =
    held 1 kind.Blob (codes "a")
    ∷ held 2 kind.Blob (codes "b")
    ∷ held 3 kind.Tree (tree_text (entry File (codes "f") 1 ∷ entry Gitlink (codes "g") 2 ∷ []))
    ∷ held 4 kind.Blob (codes "d")
    ∷ held 5 kind.Tree (tree_text (entry Dir (codes "d") 3 ∷ entry Exec (codes "x") 4 ∷ []))
    ∷ held 6 kind.Commit (commit_of 3 [])
    ∷ held 7 kind.Commit (commit_of 3 [])
    ∷ held 8 kind.Commit (commit_of 3 (7 ∷ 6 ∷ []))
    ∷ held 9 kind.Commit (commit_of 5 (6 ∷ []))
    ∷ held 10 kind.Tag (tag_text (record { object = called 9; name = codes "v"; tagger = None; message = [] }))
    ∷ []

-- the last bytes of the names of what is left under a ref to this name
abbrev left : List (Bytes × Bytes) → List Bytes
left refs = map (λ r. r.name) (pruned (record { records = records; refs = refs })).records

pub record PruningRows : Type 0 where
  -- a root commit, its tree and its file, and not what the gitlink names
  pub root : left ((codes "refs/heads/a", called 6) ∷ []) ≡ map called (1 ∷ 3 ∷ 6 ∷ [])
  -- both parents
  pub merge : left ((codes "refs/heads/a", called 8) ∷ []) ≡ map called (1 ∷ 3 ∷ 6 ∷ 7 ∷ 8 ∷ [])
  -- what a tag alone reaches, its directory's files too
  pub tag : left ((codes "refs/tags/v", called 10) ∷ []) ≡ map called (1 ∷ 3 ∷ 4 ∷ 5 ∷ 6 ∷ 9 ∷ 10 ∷ [])
  pub both : left ((codes "refs/heads/a", called 8) ∷ (codes "refs/tags/v", called 10) ∷ []) ≡ map called (1 ∷ 3 ∷ 4 ∷ 5 ∷ 6 ∷ 7 ∷ 8 ∷ 9 ∷ 10 ∷ [])
  pub none : left [] ≡ []

pub pruning_rows : PruningRows
unfolding pruned
pruning_rows = record { root = refl; merge = refl; tag = refl; both = refl; none = refl }
