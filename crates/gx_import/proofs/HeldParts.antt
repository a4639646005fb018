-- Names of values that stand in the history are held, and give the values back: the parts of a commit and of a tag.
use Rattle.std.proofs.Common.{◌≡◌, List, [], ◌∷◌, map, Option, Some, None, refl, sym, ap, subst, ◌∙◌}
use Rattle.std.specs.Prelude.{T, IsTrue}
use Rattle.std.specs.Option.{option_map, unwrap_or}
use Rattle.gx_model.specs.Texts.Idents.{is_ident}
use Rattle.gx_model.specs.Replay.{text_made}
use Rattle.gx_command.specs.declared.commands.Commit.{Commit as GivenCommit}
use Rattle.gx_command.specs.declared.commands.Tag.{Tag as GivenTag}
use Rattle.gx_command.specs.declared.texts.Identity.{Identity}
use Rattle.gx_command.specs.declared.texts.Encoding.{Encoding}
use Rattle.gx_command.specs.Views.{commit_parts}
use Rattle.std.specs.Bool.{passes}
use Rattle.std.specs.List.{AllByRecursion}
use Rattle.gx_model.specs.declared.objects.Kind.{Kind}
use Rattle.gx_model.specs.declared.objects.Kind.TheVariants as kinds
use Rattle.gx_model.specs.Texts.{Bytes}
use Rattle.gx_model.specs.Texts.Headers.{is_headers}
use Rattle.gx_model.specs.Histories.Files.{FileMap}
use Rattle.gx_model.specs.Texts.RefNames.{is_tag_name}
use Rattle.gx_model.specs.Histories.Values.{Commit, CommitText, Tag, Value, commit, commit_value, commits_of, is_content, is_optional_encoding, is_optional_ident, is_proper_text, list_of, tag_value, tree_value}
use Rattle.gx_model.specs.Objects.{CommitParts, IsNamer, TagParts, commit_text, tag_text}
use Rattle.gx_model.specs.Records.{names_of}
use Rattle.gx_model.specs.Histories.{IsIn, Record, Records, record_for, record_of}
use Rattle.gx_model.specs.Records.HistoryOf.{commit_of_value, files_of_tree, history_of, value_of_name}
use Rattle.gx_model.specs.Records.Growth.{AreReady, put, with_values}
use Rattle.gx_model.specs.Laws.RepositoryLaws.{PutsGrow, values_of}
use Rattle.gx_model.specs.Records.Sound.{Holds, IsSound, Keeps}
use Rattle.gx_model.proofs.Texts.HeaderTexts.{encoding_is_headers}
use Rattle.gx_model.proofs.Texts.PathTests.{both, is_true}
use Rattle.gx_model.proofs.Records.LinkedValues.{proper_in}
use Rattle.gx_object.specs.declared.name.Name.{Name}
use Rattle.gx_repo.specs.Additions.{commit_among, commit_record, tag_among, tag_record}
use Rattle.gx_model.proofs.Records.HeldValues.{all_whole, value_held, value_holds}
use Rattle.gx_import.specs.Objects.{IsCommitOf, IsTreeOf}
use Rattle.gx_import.specs.Rows.{AreAll}
use Rattle.gx_import.proofs.Blobs.{name_held}

-- the parts of a commit by the names of its tree and its parents
abbrev pub parts_by : Name → List Name → CommitText → CommitParts
parts_by tree parents text = record { tree = tree.bytes; parents = map (λ n. n.bytes) parents; text = text }

pub holds_named : (rs : List Record) (ns : List Name) → AllByRecursion (λ n. Holds rs kinds.Commit n.bytes) ns → AllByRecursion (Holds rs kinds.Commit) (map (λ n. n.bytes) ns)
holds_named rs [] h = tt
holds_named rs (n ∷ ns) h = (h.0, holds_named rs ns h.1)

-- what is held stays so
pub holds_kept : (rs now : List Record) → Keeps rs now → (ns : List Name) → AllByRecursion (λ n. Holds rs kinds.Commit n.bytes) ns → AllByRecursion (λ n. Holds now kinds.Commit n.bytes) ns
holds_kept rs now k [] h = tt
holds_kept rs now k (n ∷ ns) h = (k kinds.Commit n.bytes h.0, holds_kept rs now k ns h.1)

module _ (name : Kind → Bytes → Bytes) (namer : IsNamer name) (r : Records) (sound : IsSound name r) where
  pub commit_holds : (c : Commit) (n : Name) → IsCommitOf name (history_of r).values c n → Holds r.records kinds.Commit n.bytes
  commit_holds c n h = subst (Holds r.records kinds.Commit) (sym h.named) (value_holds name namer r sound (commit_value c) h.stands)

  pub commits_hold : (cs : List Commit) (ns : List Name) → AreAll (IsCommitOf name (history_of r).values) cs ns → AllByRecursion (λ n. Holds r.records kinds.Commit n.bytes) ns
  commits_hold [] [] h = tt
  commits_hold [] (n ∷ ns) h = absurd h
  commits_hold (c ∷ cs) [] h = absurd h
  commits_hold (c ∷ cs) (n ∷ ns) h = (commit_holds c n h.0, commits_hold cs ns h.1)

  pub commit_told : (c : Commit) (n : Name) → IsCommitOf name (history_of r).values c n → commit_of_value (value_of_name r.records n.bytes) ≡ c
  commit_told c n h = ap commit_of_value (value_held name namer r sound kinds.Commit (commit_value c) n.bytes h.stands refl h.named).1

  commits_told : (cs : List Commit) (ns : List Name) → AreAll (IsCommitOf name (history_of r).values) cs ns → map (λ n. commit_of_value (value_of_name r.records n)) (map (λ n. n.bytes) ns) ≡ cs
  commits_told [] [] h = refl
  commits_told [] (n ∷ ns) h = absurd h
  commits_told (c ∷ cs) [] h = absurd h
  commits_told (c ∷ cs) (n ∷ ns) h = λ i. commit_told c n h.0 i ∷ commits_told cs ns h.1 i

  commits_named : (cs : List Commit) (ns : List Name) → AreAll (IsCommitOf name (history_of r).values) cs ns → names_of name (commits_of cs) ≡ map (λ n. n.bytes) ns
  commits_named [] [] h = refl
  commits_named [] (n ∷ ns) h = absurd h
  commits_named (c ∷ cs) [] h = absurd h
  commits_named (c ∷ cs) (n ∷ ns) h = λ i. sym h.0.named i ∷ commits_named cs ns h.1 i

  commits_stand : (cs : List Commit) (ns : List Name) → AreAll (IsCommitOf name (history_of r).values) cs ns → AllByRecursion (IsIn (history_of r).values) (map commit_value (list_of (commits_of cs)))
  commits_stand [] [] h = tt
  commits_stand [] (n ∷ ns) h = absurd h
  commits_stand (c ∷ cs) [] h = absurd h
  commits_stand (c ∷ cs) (n ∷ ns) h = (h.0.stands, commits_stand cs ns h.1)

  module _ (f : FileMap Bytes) (tree : Name) (of_tree : IsTreeOf name (history_of r).values f tree)
      (cs : List Commit) (ns : List Name) (of_commits : AreAll (IsCommitOf name (history_of r).values) cs ns) (text : CommitText) where
    abbrev made : Value
    made = commit_value (commit f (commits_of cs) text)

    tree_told : files_of_tree (value_of_name r.records tree.bytes) ≡ f
    tree_told = ap files_of_tree (value_held name namer r sound kinds.Tree (tree_value f) tree.bytes of_tree.stands refl of_tree.named).1

    -- the commit of these names
    pub commit_is : (parts : CommitParts) → parts ≡ parts_by tree ns text → commit_among r.records parts ≡ made
    commit_is parts same = ap (commit_among r.records) same ∙ (λ i. commit_value (commit (tree_told i) (commits_of (commits_told cs ns of_commits i)) text))

    commit_recorded : record_of name made ≡ commit_record name (parts_by tree ns text)
    commit_recorded = λ i. record_for name kinds.Commit (commit_text (record { tree = sym of_tree.named i; parents = commits_named cs ns of_commits i; text = text }))

    commit_ready : IsTrue (is_proper_text text) → AreReady (history_of r).values (made ∷ [])
    commit_ready p = (
      is_true _ (both (is_content f) (is_proper_text text) (proper_in (history_of r).values (tree_value f) (passes _ (all_whole name namer r sound).proper) of_tree.stands) (passes _ p)),
      (of_tree.stands, commits_stand cs ns of_commits),
      tt,
    )

    -- where its name is held it has that of another value
    pub commit_clashes : PutsGrow name → IsTrue (is_proper_text text) → (parts : CommitParts) → parts ≡ parts_by tree ns text → put r.records (commit_record name parts) ≡ None
        → with_values name (values_of r) (made ∷ []) ≡ None
    commit_clashes law p parts same e = name_held name law r sound made (commit_ready p) (ap (put r.records) (commit_recorded ∙ ap (commit_record name) (sym same)) ∙ e)

  module _ (t : Tag) (object : Name) (of_commit : IsCommitOf name (history_of r).values t.target object) where
    abbrev named : TagParts
    named = record { object = object.bytes; name = t.name; tagger = t.tagger; message = t.message }

    -- the tag of this name
    pub tag_is : (parts : TagParts) → parts ≡ named → tag_among r.records parts ≡ tag_value t
    tag_is parts same = ap (tag_among r.records) same ∙ (λ i. tag_value (record { target = commit_told t.target object of_commit i; name = t.name; tagger = t.tagger; message = t.message }))

    tag_recorded : record_of name (tag_value t) ≡ tag_record name named
    tag_recorded = λ i. record_for name kinds.Tag (tag_text (record { object = sym of_commit.named i; name = t.name; tagger = t.tagger; message = t.message }))

    -- where its name is held it has that of another value
    pub tag_clashes : PutsGrow name → IsTrue (is_tag_name t.name) → IsTrue (is_optional_ident t.tagger) → (parts : TagParts) → parts ≡ named → put r.records (tag_record name parts) ≡ None
        → with_values name (values_of r) (tag_value t ∷ []) ≡ None
    tag_clashes law p q parts same e =
        name_held name law r sound (tag_value t) (is_true _ (both (is_tag_name t.name) (is_optional_ident t.tagger) (passes _ p) (passes _ q)), (of_commit.stands, tt), tt) (ap (put r.records) (tag_recorded ∙ ap (tag_record name) (sym same)) ∙ e)

-- what a command has is proper
pub tagger_proper : {A : Type 0} (t : GivenTag A) → IsTrue (is_optional_ident (option_map (λ i. i.bytes.items) t.tagger))
tagger_proper t = by t.tagger
  where
    by : {A : Type 0} (o : Option (Identity A)) → IsTrue (is_optional_ident (option_map (λ i. i.bytes.items) o))
    by None = refl
    by (Some i) = i.proper

pub headers_proper : {A : Type 0} (c : GivenCommit A) → IsTrue (is_headers (commit_parts c).headers)
headers_proper c = encoding_is_headers (option_map (λ e. e.name.items) c.encoding) (encoding c.encoding)
  where
    encoding : {A : Type 0} (o : Option (Encoding A)) → IsTrue (is_optional_encoding (option_map (λ e. e.name.items) o))
    encoding None = refl
    encoding (Some e) = e.proper

pub text_proper : {A : Type 0} (c : GivenCommit A) → IsTrue (is_proper_text (text_made (commit_parts c)))
text_proper c = is_true _ (both _ _ (both _ _ (author c.author c.committer) (passes _ c.committer.proper)) (passes _ (headers_proper c)))
  where
    author : {A : Type 0} (o : Option (Identity A)) (i : Identity A) → T (is_ident (unwrap_or (option_map (λ i. i.bytes.items) o) i.bytes.items))
    author None i = passes _ i.proper
    author (Some j) i = passes _ j.proper
