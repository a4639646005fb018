-- Values that stand for others have their names.
use Rattle.std.proofs.Common.{◌≡◌, ℕ, zero, suc, List, [], ◌∷◌, map, refl, ap, ◌∙◌}
use Rattle.gx_model.specs.declared.objects.Kind.{Kind}
use Rattle.gx_model.specs.declared.objects.Kind.TheVariants as kind
use Rattle.gx_model.specs.Texts.{Bytes}
use Rattle.gx_model.specs.Objects.{tag_text, tree_text}
use Rattle.gx_model.specs.Histories.Files.{FileMap, depth, file_at, first_components, sub_map}
use Rattle.gx_model.specs.Histories.Values.{Commit, Commits, Tag, Value, blob_value, commit, commit_value, files_of, more, none, parents_of, tag_value, tree_value}
use Rattle.gx_model.specs.Records.{commit_body, entries_to, entry, name_of, named_map, names_of, node, tree_body, tree_name}
use Rattle.gx_stand_ins.specs.StandIns.{AreNamers, CommitKeepsName, CommitsKeepNames, FilesKeepNames, StandIns, ValueKeepsName, whole_commit, whole_commits, whole_files, whole_value}

module _ (stand name : Kind → Bytes → Bytes) (namers : AreNamers stand name) where
  entries_of : (d e : FileMap Bytes → Bytes) → ((f : FileMap Bytes) → d f ≡ e f) → (f : FileMap Bytes) (cs : List Bytes)
      → map (λ c. entry stand c (node stand (file_at f (c ∷ [])) (d (sub_map f (c ∷ []))))) cs ≡ map (λ c. entry name c (node name (file_at f (c ∷ [])) (e (sub_map f (c ∷ []))))) cs
  entries_of d e h f [] = refl
  entries_of d e h f (c ∷ cs) = λ i. entry name c (node name (file_at f (c ∷ [])) (h (sub_map f (c ∷ [])) i)) ∷ entries_of d e h f cs i

  entries_alike : (n : ℕ) (f : FileMap Bytes) → entries_to stand n f ≡ entries_to name n f
  entries_alike zero f = entries_of (λ g. stand kind.Tree []) (λ g. name kind.Tree []) (λ g. namers.trees []) f (first_components f)
  entries_alike (suc n) f =
      entries_of (λ g. stand kind.Tree (tree_text (entries_to stand n g))) (λ g. name kind.Tree (tree_text (entries_to name n g)))
      (λ g. namers.trees (tree_text (entries_to stand n g)) ∙ ap (λ es. name kind.Tree (tree_text es)) (entries_alike n g)) f (first_components f)

  -- one body for each map of names
  pub bodies_alike : (f : FileMap Bytes) → tree_body stand f ≡ tree_body name f
  bodies_alike f = ap tree_text (entries_alike (depth f) f)

  module _ (ins : StandIns) where
    pub names_alike : (f : FileMap Bytes) → FilesKeepNames stand name ins f → named_map stand f ≡ named_map name (whole_files ins f)
    names_alike [] h = refl
    names_alike (e ∷ es) h = λ i. (e.0, (e.1.0, h.0 i)) ∷ names_alike es h.1 i

    -- one body for each file map
    pub tree_alike : (f : FileMap Bytes) → FilesKeepNames stand name ins f → tree_body stand (named_map stand f) ≡ tree_body name (named_map name (whole_files ins f))
    tree_alike f h = bodies_alike (named_map stand f) ∙ ap (tree_body name) (names_alike f h)

    pub tree_named_alike : (f : FileMap Bytes) → FilesKeepNames stand name ins f → tree_name stand f ≡ tree_name name (whole_files ins f)
    tree_named_alike f h = namers.trees (tree_body stand (named_map stand f)) ∙ ap (name kind.Tree) (tree_alike f h)

    pub commit_alike : (c : Commit) → CommitKeepsName stand name ins c → stand kind.Commit (commit_body stand c) ≡ name kind.Commit (commit_body name (whole_commit ins c))
    commit_alike (commit f ps t) h = h.0

    pub files_keep : (c : Commit) → CommitKeepsName stand name ins c → FilesKeepNames stand name ins (files_of c)
    files_keep (commit f ps t) h = h.1

    pub parents_keep : (c : Commit) → CommitKeepsName stand name ins c → CommitsKeepNames stand name ins (parents_of c)
    parents_keep (commit f ps t) h = h.2

    pub parents_alike : (cs : Commits) → CommitsKeepNames stand name ins cs → names_of stand cs ≡ names_of name (whole_commits ins cs)
    parents_alike none h = refl
    parents_alike (more c cs) h = λ i. commit_alike c h.0 i ∷ parents_alike cs h.1 i

    tag_alike : (t : Tag) → CommitKeepsName stand name ins t.target → (body : Bytes → Bytes)
        → stand kind.Tag (body (stand kind.Commit (commit_body stand t.target))) ≡ name kind.Tag (body (name kind.Commit (commit_body name (whole_commit ins t.target))))
    tag_alike t h body = namers.tags (body (stand kind.Commit (commit_body stand t.target))) ∙ ap (λ n. name kind.Tag (body n)) (commit_alike t.target h)

    -- a value has the name of the one for which it stands
    pub value_alike : (v : Value) → ValueKeepsName stand name ins v → name_of stand v ≡ name_of name (whole_value ins v)
    value_alike (blob_value x) h = h
    value_alike (tree_value f) h = tree_named_alike f h
    value_alike (commit_value c) h = commit_alike c h
    value_alike (tag_value t) h = tag_alike t h (λ n. tag_text (record { object = n; name = t.name; tagger = t.tagger; message = t.message }))
