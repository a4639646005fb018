-- The body of any commit or tag is the text of its parts, and the text of parts is read as them.
use Rattle.std.proofs.Common.{◌≡◌, Bool, true, false, cond, ◌++◌, Option, Some, None, Result, Ok, Err, refl, sym, ap, subst, ◌∙◌, append_assoc}
use Rattle.std.specs.Prelude.{codes, IfOk, IsOkAnd}
use Rattle.std.specs.Cmp.Lexicographic.{bytes_decides}
use Rattle.std.specs.Option.{option_map}
use Rattle.std.specs.Result.{result_ok}
use Rattle.gx_model.specs.declared.objects.Kind.{Kind}
use Rattle.gx_model.specs.declared.objects.Kind.TheVariants as kinds
use Rattle.gx_model.specs.Texts.{Bytes, same_bytes}
use Rattle.gx_model.specs.Histories.Values.{is_optional_line}
use Rattle.gx_model.specs.Objects.{hex, line, optional_line}
use Rattle.gx_model.specs.Objects.Naming.{kind_word}
use Rattle.gx_wide.specs.WideTexts.{HasWideForm, HasWideTagForm, IsWideCommitText, IsWideTagText, WideCommitParts, WideTagParts, WideText, kind_of_word, message_text, tail_of, wide_commit_text, wide_tag_text, wide_text_lines}
use Rattle.gx_object.specs.Lines.{field, name_field, or_absent, stripped}
use Rattle.gx_object.specs.Commits.{parent_lines, parents_of}
use Rattle.gx_object.specs.WideBodies.{any_commit_of, any_tag_of, kind_field}
use Rattle.gx_object.proofs.Fields.{bind_some, field_spelled, field_again, name_spelled, name_field_again}
use Rattle.gx_object.proofs.Parents.{parents_spelled, parents_again}
use Rattle.gx_object.proofs.Tails.{tagger_again, tagger_apart, tail_again, tail_spelled}

-- ---- commits

text_flat : (t : WideText) → wide_text_lines t
    ≡ line (codes "author") t.author ++ (line (codes "committer") t.committer ++ (t.headers ++ message_text t.message))
text_flat t = append_assoc (line (codes "author") t.author) (line (codes "committer") t.committer) (t.headers ++ message_text t.message)

commit_flat : (p : WideCommitParts) → wide_commit_text p ≡ line (codes "tree") (hex p.tree) ++ (parent_lines p.parents ++ wide_text_lines p.text)
commit_flat p = append_assoc (line (codes "tree") (hex p.tree)) (parent_lines p.parents) (wide_text_lines p.text)

commit_takes : (body : Bytes) (p : WideCommitParts) → any_commit_of body ≡ Some p → IsWideCommitText p body
unfolding any_commit_of
commit_takes body p e =
    let tree = bind_some (name_field (codes "tree") body) _ p e in
    let author = bind_some (field (codes "author") (parents_of tree.0.1).1) _ p tree.2 in
    let committer = bind_some (field (codes "committer") author.0.1) _ p author.2 in
    let tail = bind_some (tail_of committer.0.1) _ p committer.2 in
    let n = name_spelled (codes "tree") body tree.0 tree.1 in
    let ps = parents_spelled tree.0.1 in
    let a = field_spelled (codes "author") (parents_of tree.0.1).1 author.0 author.1 in
    let c = field_spelled (codes "committer") author.0.1 committer.0 committer.1 in
    let t = tail_spelled true committer.0.1 tail.0 tail.1 in
    let text : WideText = record { author = author.0.0; committer = committer.0.0; headers = tail.0.0; message = tail.0.1 } in
    let made : WideCommitParts = record { tree = tree.0.0; parents = (parents_of tree.0.1).0; text = text } in
    let is : made ≡ p = cc in
    let lines : (parents_of tree.0.1).1 ≡ wide_text_lines text =
    a.parts ∙ ap (λ r. line (codes "author") author.0.0 ++ r) (c.parts ∙ ap (λ r. line (codes "committer") committer.0.0 ++ r) t.parts) ∙ sym (text_flat text) in
    let whole : body ≡ wide_commit_text made =
    n.parts ∙ ap (λ r. line (codes "tree") (hex tree.0.0) ++ r) (ps.parts ∙ ap (λ r. parent_lines made.parents ++ r) lines) ∙ sym (commit_flat made) in
    let form : HasWideForm text = record { author = a.rest; committer = c.rest; headers = t.lines } in
    subst (λ (q : WideCommitParts). IsWideCommitText q body) is (whole, n.name, ps.names, form)

no_parent : (t : WideText) → name_field (codes "parent") (wide_text_lines t) ≡ None
unfolding name_field field stripped
no_parent t = refl

commit_again : (body : Bytes) (p : WideCommitParts) → IsWideCommitText p body → any_commit_of body ≡ Some p
unfolding any_commit_of
commit_again body p h =
    let t = p.text in
    let form = h.3 in
    let end = t.headers ++ message_text t.message in
    let later = line (codes "committer") t.committer ++ end in
    let author : field (codes "author") (wide_text_lines t) ≡ Some (t.author, later) = ap (field (codes "author")) (text_flat t) ∙ field_again (codes "author") t.author later form.author in
    ap any_commit_of (h.0 ∙ commit_flat p)
    ∙ rw (
      name_field_again (codes "tree") p.tree (parent_lines p.parents ++ wide_text_lines t) h.1,
      parents_again p.parents (wide_text_lines t) h.2 (no_parent t),
      author,
      field_again (codes "committer") t.committer end form.committer,
      tail_again true t.headers t.message form.headers,
    ) refl

pub commit_found : {X E : Type 0} (view : X → WideCommitParts) (body : Bytes) (o : Option X) (r : Result X E) → o ≡ result_ok r → option_map view o ≡ any_commit_of body
    → IfOk r (λ found. IsWideCommitText (view found) body)
commit_found view body o (Ok x) e h = commit_takes body (view x) (sym h ∙ ap (option_map view) e)
commit_found view body o (Err d) e h = tt

pub commit_only : {X E : Type 0} (view : X → WideCommitParts) (body : Bytes) (o : Option X) (r : Result X E) → o ≡ result_ok r → option_map view o ≡ any_commit_of body
    → (p : WideCommitParts) → IsWideCommitText p body → IsOkAnd r (λ found. view found ≡ p)
commit_only view body o (Ok x) e h p k = let both : Some (view x) ≡ Some p = sym (ap (option_map view) e) ∙ h ∙ commit_again body p k in cc
commit_only view body o (Err d) e h p k = let both : None ≡ Some p = sym (ap (option_map view) e) ∙ h ∙ commit_again body p k in absurd cc

-- ---- tags

-- the word of a kind tells it, and no other word does
kind_spelled : (word : Bytes) (k : Kind) → kind_of_word word ≡ Some k → word ≡ kind_word k
kind_spelled word k e = commit (same_bytes word (codes "commit")) refl e
  where
    told : (j : Kind) (t : Bool) → same_bytes word (kind_word j) ≡ t → t ≡ true → Some j ≡ Some k → word ≡ kind_word k
    told j t s is f = let same : j ≡ k = cc in (bytes_decides word (kind_word j)).0 (s ∙ is) ∙ ap kind_word same

    tag : (t : Bool) → same_bytes word (codes "tag") ≡ t → cond t (Some kinds.Tag) None ≡ Some k → word ≡ kind_word k
    tag true s f = told kinds.Tag true s refl f
    tag false s f = absurd cc

    blob : (t : Bool) → same_bytes word (codes "blob") ≡ t → cond t (Some kinds.Blob) (cond (same_bytes word (codes "tag")) (Some kinds.Tag) None) ≡ Some k → word ≡ kind_word k
    blob true s f = told kinds.Blob true s refl f
    blob false s f = tag (same_bytes word (codes "tag")) refl f

    tree : (t : Bool) → same_bytes word (codes "tree") ≡ t
        → cond t (Some kinds.Tree) (cond (same_bytes word (codes "blob")) (Some kinds.Blob) (cond (same_bytes word (codes "tag")) (Some kinds.Tag) None)) ≡ Some k → word ≡ kind_word k
    tree true s f = told kinds.Tree true s refl f
    tree false s f = blob (same_bytes word (codes "blob")) refl f

    commit : (t : Bool) → same_bytes word (codes "commit") ≡ t
        → cond t (Some kinds.Commit) (cond (same_bytes word (codes "tree")) (Some kinds.Tree) (cond (same_bytes word (codes "blob")) (Some kinds.Blob) (cond (same_bytes word (codes "tag")) (Some kinds.Tag) None))) ≡ Some k
        → word ≡ kind_word k
    commit true s f = told kinds.Commit true s refl f
    commit false s f = tree (same_bytes word (codes "tree")) refl f

kind_again : (k : Kind) (r : Bytes) → kind_field (line (codes "type") (kind_word k) ++ r) ≡ Some (k, r)
unfolding kind_field
kind_again kinds.Commit r = rw (field_again (codes "type") (codes "commit") r refl) refl
kind_again kinds.Tree r = rw (field_again (codes "type") (codes "tree") r refl) refl
kind_again kinds.Blob r = rw (field_again (codes "type") (codes "blob") r refl) refl
kind_again kinds.Tag r = rw (field_again (codes "type") (codes "tag") r refl) refl

kind_takes : (bytes : Bytes) (q : Kind × Bytes) → kind_field bytes ≡ Some q → bytes ≡ line (codes "type") (kind_word q.0) ++ q.1
unfolding kind_field
kind_takes bytes q e =
    let a = bind_some (field (codes "type") bytes) _ q e in
    let k = bind_some (kind_of_word a.0.0) _ q a.2 in
    let l = field_spelled (codes "type") bytes a.0 a.1 in
    let is : (k.0, a.0.1) ≡ q = cc in
    subst (λ (z : Kind × Bytes). bytes ≡ line (codes "type") (kind_word z.0) ++ z.1) is (l.parts ∙ ap (λ x. line (codes "type") x ++ a.0.1) (kind_spelled a.0.0 k.0 k.1))

tag_flat : (p : WideTagParts) → wide_tag_text p
    ≡ line (codes "object") (hex p.object) ++ (line (codes "type") (kind_word p.of_kind) ++ (line (codes "tag") p.name ++ (optional_line (codes "tagger") p.tagger ++ (p.further ++ message_text p.message))))
tag_flat p =
    let object = line (codes "object") (hex p.object) in
    let type_line = line (codes "type") (kind_word p.of_kind) in
    let name = line (codes "tag") p.name in
    let tagger = optional_line (codes "tagger") p.tagger in
    let end = p.further ++ message_text p.message in
    append_assoc (object ++ type_line ++ name) tagger end ∙ append_assoc (object ++ type_line) name (tagger ++ end) ∙ append_assoc object type_line (name ++ (tagger ++ end))

tag_takes : (body : Bytes) (p : WideTagParts) → any_tag_of body ≡ Some p → IsWideTagText p body
unfolding any_tag_of
tag_takes body p e =
    let object = bind_some (name_field (codes "object") body) _ p e in
    let kind = bind_some (kind_field object.0.1) _ p object.2 in
    let name = bind_some (field (codes "tag") kind.0.1) _ p kind.2 in
    let last = or_absent (field (codes "tagger") name.0.1) name.0.1 in
    let tail = bind_some (tail_of last.1) _ p name.2 in
    let o = name_spelled (codes "object") body object.0 object.1 in
    let k = kind_takes object.0.1 kind.0 kind.1 in
    let n = field_spelled (codes "tag") kind.0.1 name.0 name.1 in
    let g = tagger_spelled (field (codes "tagger") name.0.1) name.0.1 refl in
    let t = tail_spelled true last.1 tail.0 tail.1 in
    let made : WideTagParts = record { object = object.0.0; of_kind = kind.0.0; name = name.0.0; tagger = last.0; further = tail.0.0; message = tail.0.1 } in
    let is : made ≡ p = cc in
    let end = tail.0.0 ++ message_text tail.0.1 in
    let ending : name.0.1 ≡ optional_line (codes "tagger") last.0 ++ end = g.0 ∙ ap (λ r. optional_line (codes "tagger") last.0 ++ r) t.parts in
    let whole : body ≡ wide_tag_text made =
    o.parts ∙ ap (λ r. line (codes "object") (hex object.0.0) ++ r) (k ∙ ap (λ r. line (codes "type") (kind_word kind.0.0) ++ r) (n.parts ∙ ap (λ r. line (codes "tag") name.0.0 ++ r) ending))
    ∙ sym (tag_flat made) in
    let form : HasWideTagForm made = record { name = n.rest; tagger = g.1; further = t.lines; apart = tagger_apart (field (codes "tagger") name.0.1) name.0.1 tail.0 refl t } in
    subst (λ (q : WideTagParts). IsWideTagText q body) is (whole, o.name, form)
  where
    tagger_spelled : (o : Option (Bytes × Bytes)) (bytes : Bytes) → field (codes "tagger") bytes ≡ o
        → (bytes ≡ optional_line (codes "tagger") (or_absent o bytes).0 ++ (or_absent o bytes).1) × (is_optional_line (or_absent o bytes).0 ≡ true)
    tagger_spelled None bytes e = (refl, refl)
    tagger_spelled (Some q) bytes e = let l = field_spelled (codes "tagger") bytes q e in (l.parts, l.rest)

tag_again : (body : Bytes) (p : WideTagParts) → IsWideTagText p body → any_tag_of body ≡ Some p
unfolding any_tag_of
tag_again body p h =
    let form = h.2 in
    let end = p.further ++ message_text p.message in
    let named = optional_line (codes "tagger") p.tagger ++ end in
    let typed = line (codes "tag") p.name ++ named in
    ap any_tag_of (h.0 ∙ tag_flat p)
    ∙ rw (
      name_field_again (codes "object") p.object (line (codes "type") (kind_word p.of_kind) ++ typed) h.1,
      kind_again p.of_kind typed,
      field_again (codes "tag") p.name named form.name,
      tagger_again p.tagger p.further p.message form.tagger form.further form.apart,
      tail_again true p.further p.message form.further,
    ) refl

pub tag_found : {X E : Type 0} (view : X → WideTagParts) (body : Bytes) (o : Option X) (r : Result X E) → o ≡ result_ok r → option_map view o ≡ any_tag_of body
    → IfOk r (λ found. IsWideTagText (view found) body)
tag_found view body o (Ok x) e h = tag_takes body (view x) (sym h ∙ ap (option_map view) e)
tag_found view body o (Err d) e h = tt

pub tag_only : {X E : Type 0} (view : X → WideTagParts) (body : Bytes) (o : Option X) (r : Result X E) → o ≡ result_ok r → option_map view o ≡ any_tag_of body
    → (p : WideTagParts) → IsWideTagText p body → IsOkAnd r (λ found. view found ≡ p)
tag_only view body o (Ok x) e h p k = let both : Some (view x) ≡ Some p = sym (ap (option_map view) e) ∙ h ∙ tag_again body p k in cc
tag_only view body o (Err d) e h p k = let both : None ≡ Some p = sym (ap (option_map view) e) ∙ h ∙ tag_again body p k in absurd cc
