-- The test of a body passes exactly the canonical bodies of its kind.
use Rattle.std.proofs.Common.{Bool, refl, sym, subst, List}
use Rattle.std.specs.Prelude.{T, ◌&&◌, ◌↔◌, IsTrue}
use Rattle.std.specs.List.{list_all}
use Rattle.std.specs.Bool.{passes}
use Rattle.gx_model.specs.declared.objects.Kind.{Kind}
use Rattle.gx_model.specs.declared.objects.Kind.TheVariants as kind
use Rattle.gx_model.specs.Texts.{Bytes, same_bytes}
use Rattle.gx_model.specs.Texts.RefNames.{is_tag_name}
use Rattle.gx_model.specs.Histories.Values.{is_optional_ident, is_proper_text}
use Rattle.gx_model.specs.Objects.{CommitParts, Entry, IsCommitText, IsTagText, IsTreeText, TagParts, commit_text, is_canonical, is_name, tag_text, tree_text}
use Rattle.gx_model.specs.Records.HistoryOf.{commit_parts_in, entries_in, tag_parts_in}
use Rattle.gx_model.specs.Records.RecordFaults.{is_body, is_commit_body, is_tag_body, is_tree_body}
use Rattle.gx_model.specs.Laws.StoreLaws.{IsBody}
use Rattle.gx_model.proofs.Texts.PathTests.{both, first, is_same, is_true, same_is, second}
use Rattle.gx_model.proofs.ObjectTexts.BodiesReadBack.{commit_read, entries_read, tag_read}

-- ---- four tests in a row

-- where four tests pass, each does
pub each_of_four : (a b c d : Bool) → T (a && b && c && d) → T a × T b × T c × T d
each_of_four a b c d h =
    let three = first (a && b && c) d h in
    let two = first (a && b) c three in
    (first a b two, second a b two, second (a && b) c three, second (a && b && c) d h)

-- four tests pass where each does
pub all_four : (a b c d : Bool) → T a → T b → T c → T d → T (a && b && c && d)
all_four a b c d p q r s = both (a && b && c) d (both (a && b) c (both a b p q) r) s

-- ---- trees

-- whether a body is the canonical text of these entries
abbrev are_entries : Bytes → List Entry → Bool
are_entries body es = same_bytes body (tree_text es) && is_canonical es && list_all (λ e. is_name e.name) es

-- a body that the test of trees passes is that of the entries that are read in it
pub tree_text_in : (body : Bytes) → T (is_tree_body body) → IsTreeText (entries_in body) body
tree_text_in body h = by (entries_in body) h
  where
    by : (es : List Entry) → T (are_entries body es) → IsTreeText es body
    by es k =
        let two = first (same_bytes body (tree_text es) && is_canonical es) (list_all (λ e. is_name e.name) es) k in (
          same_is body (tree_text es) (first (same_bytes body (tree_text es)) (is_canonical es) two),
          is_true _ (second (same_bytes body (tree_text es)) (is_canonical es) two),
          is_true _ (second (same_bytes body (tree_text es) && is_canonical es) (list_all (λ e. is_name e.name) es) k),
        )

-- the body of entries passes the test of trees
pub tree_test : (es : List Entry) (body : Bytes) → IsTreeText es body → T (is_tree_body body)
tree_test es body h = subst (λ fs. T (are_entries body fs)) (sym (entries_read es body h)) (both _ _ (both _ _ (is_same body (tree_text es) h.0) (passes _ h.1)) (passes _ h.2))

-- ---- commits

-- whether a body is the canonical text of these parts
abbrev are_commit_parts : Bytes → CommitParts → Bool
are_commit_parts body p = same_bytes body (commit_text p) && is_name p.tree && list_all is_name p.parents && is_proper_text p.text

-- a body that the test of commits passes is that of the parts that are read in it
pub commit_text_in : (body : Bytes) → T (is_commit_body body) → IsCommitText (commit_parts_in body) body
commit_text_in body h = by (commit_parts_in body) h
  where
    by : (p : CommitParts) → T (are_commit_parts body p) → IsCommitText p body
    by p k =
        let four = each_of_four (same_bytes body (commit_text p)) (is_name p.tree) (list_all is_name p.parents) (is_proper_text p.text) k in
        (same_is body (commit_text p) four.0, is_true _ four.1, is_true _ four.2, is_true _ four.3)

-- the body of a commit's parts passes the test of commits
pub commit_test : (p : CommitParts) (body : Bytes) → IsCommitText p body → T (is_commit_body body)
commit_test p body h =
    subst (λ q. T (are_commit_parts body q)) (sym (commit_read p body h))
    (all_four (same_bytes body (commit_text p)) (is_name p.tree) (list_all is_name p.parents) (is_proper_text p.text) (is_same body (commit_text p) h.0) (passes _ h.1) (passes _ h.2) (passes _ h.3))

-- ---- tags

-- whether a body is the canonical text of these parts
abbrev are_tag_parts : Bytes → TagParts → Bool
are_tag_parts body p = same_bytes body (tag_text p) && is_name p.object && is_tag_name p.name && is_optional_ident p.tagger

-- a body that the test of tags passes is that of the parts that are read in it
pub tag_text_in : (body : Bytes) → T (is_tag_body body) → IsTagText (tag_parts_in body) body
tag_text_in body h = by (tag_parts_in body) h
  where
    by : (p : TagParts) → T (are_tag_parts body p) → IsTagText p body
    by p k =
        let four = each_of_four (same_bytes body (tag_text p)) (is_name p.object) (is_tag_name p.name) (is_optional_ident p.tagger) k in
        (same_is body (tag_text p) four.0, is_true _ four.1, is_true _ four.2, is_true _ four.3)

-- the body of a tag's parts passes the test of tags
pub tag_test : (p : TagParts) (body : Bytes) → IsTagText p body → T (is_tag_body body)
tag_test p body h =
    subst (λ q. T (are_tag_parts body q)) (sym (tag_read p body h))
    (all_four (same_bytes body (tag_text p)) (is_name p.object) (is_tag_name p.name) (is_optional_ident p.tagger) (is_same body (tag_text p) h.0) (passes _ h.1) (passes _ h.2) (passes _ h.3))

-- ---- each kind

-- the test of a kind passes exactly its canonical bodies
pub body_told : (k : Kind) (body : Bytes) → IsTrue (is_body k body) ↔ IsBody k body
body_told kind.Blob body = (λ h. tt, λ h. refl)
body_told kind.Tree body = (λ h. (entries_in body, tree_text_in body (passes _ h)), λ h. is_true _ (tree_test h.0 body h.1))
body_told kind.Commit body = (λ h. (commit_parts_in body, commit_text_in body (passes _ h)), λ h. is_true _ (commit_test h.0 body h.1))
body_told kind.Tag body = (λ h. (tag_parts_in body, tag_text_in body (passes _ h)), λ h. is_true _ (tag_test h.0 body h.1))
