-- A decoded commit's body is the text of its parts, and the text of parts is decoded as them.
use Rattle.std.proofs.Common.{◌≡◌, ℕ, Bool, true, false, cond, append-nil, length-append, [], ◌∷◌, ◌++◌, drop, length, Option, Some, None, Result, Ok, Err, refl, sym, ap, subst, ◌∙◌, arith, append_assoc}
use Rattle.std.specs.Prelude.{codes, nat_eq, IfOk, IsOkAnd, ◌&&◌}
use Rattle.std.specs.List.{starts_with}
use Rattle.std.specs.Option.{unwrap_or}
use Rattle.std.specs.Cmp.Lexicographic.{bytes_decides}
use Rattle.std.specs.Result.{result_ok}
use Rattle.std.proofs.lemmas.Bool.{and_from, and_parts, false≢true, ne_eqb}
use Rattle.std.proofs.lemmas.Bool.Decides.{Decides-eqb}
use Rattle.std.proofs.lemmas.Slice.Eq.{starts_is}
use Rattle.gx_model.specs.Texts.{Bytes, cut_at, parts_at, same_bytes}
use Rattle.gx_model.specs.Texts.Headers.{encoding_header, encoding_in, is_encoding_alone, unless_empty}
use Rattle.gx_model.specs.Texts.Idents.{is_ident}
use Rattle.gx_model.specs.Histories.Values.{CommitText}
use Rattle.gx_model.specs.Objects.{CommitParts, IsCommitText, commit_text, hex, line, optional_line, text_lines}
use Rattle.gx_wide.specs.WideTexts.{message_text, tail_of}
use Rattle.gx_object.specs.Lines.{◌>>=◌, field, ident_field, name_field, stripped}
use Rattle.gx_object.specs.Commits.{commit_parts_of, encoding_field, is_line_alone, parent_lines, parents_of}
use Rattle.gx_object.proofs.Fields.{bind_some, field_front, field_spelled, ident_spelled, ident_again, line_flat, name_spelled, name_field_again}
use Rattle.gx_object.proofs.Parents.{parents_spelled, parents_again}
use Rattle.gx_object.proofs.Tails.{tail_again, tail_spelled}

-- ---- the encoding

pub record HasOptional (test : Option Bytes → Bool) (word bytes : Bytes) (p : Option Bytes × Bytes) : Type 0 where
  pub parts : bytes ≡ optional_line word p.0 ++ p.1
  pub proper : test p.0 ≡ true

-- what is kept of a cut
of_cut : (o : Option (Bytes × Bytes)) → (o >>= λ a. cond (nat_eq (length a.0) 0) None (Some a.0)) ≡ unless_empty (unwrap_or o ([], [])).0
of_cut None = refl
of_cut (Some ([], r)) = refl
of_cut (Some ((b ∷ x), r)) = rw (ne_eqb (length (b ∷ x)) 0 (λ e. omega arith)) refl

-- where the word of an encoding stands in front
encoding_front : (rest : Bytes) → encoding_field (codes "encoding" ++ (32 ∷ rest)) ≡ unless_empty (parts_at 10 rest).0
unfolding encoding_field
encoding_front rest = rw (field_front (codes "encoding") rest) (of_cut (cut_at 10 rest))

-- where it doesn't, no line of one is read
encoding_none : (headers : Bytes) (o : Option (Bytes × Bytes)) → starts_with nat_eq headers (codes "encoding ") ≡ false → field (codes "encoding") headers ≡ o → encoding_field headers ≡ None
unfolding encoding_field
encoding_none headers None e f = rw f refl
encoding_none headers (Some p) e f =
    let l = field_spelled (codes "encoding") headers p f in
    let starts = starts_is Decides-eqb headers (codes "encoding ") (starts_with nat_eq headers (codes "encoding ")) refl in
    absurd (false≢true (sym e ∙ starts.1 (p.0 ++ 10 ∷ p.1) (l.parts ∙ line_flat (codes "encoding") p.0 p.1)))

-- what is read at the front of headers is the encoding that they tell
pub encoding_is : (headers : Bytes) → encoding_field headers ≡ encoding_in headers
encoding_is headers = by (starts_with nat_eq headers (codes "encoding ")) refl
  where
    by : (t : Bool) → starts_with nat_eq headers (codes "encoding ") ≡ t → encoding_field headers ≡ cond t (unless_empty (parts_at 10 (drop 9 headers)).0) None
    by true e =
        let starts = starts_is Decides-eqb headers (codes "encoding ") (starts_with nat_eq headers (codes "encoding ")) refl in
        ap encoding_field (starts.0 e) ∙ encoding_front (drop 9 headers)
    by false e = encoding_none headers (field (codes "encoding") headers) e refl

-- what is read at the front tells whether headers are that of an encoding alone
pub alone_is : (headers : Bytes) → is_line_alone (field (codes "encoding") headers) headers ≡ is_encoding_alone headers
unfolding encoding_field
alone_is headers = by (field (codes "encoding") headers) refl
  where
    told : (o : Option (Bytes × Bytes)) → field (codes "encoding") headers ≡ o → encoding_in headers ≡ (o >>= λ a. cond (nat_eq (length a.0) 0) None (Some a.0))
    told o e = sym (encoding_is headers) ∙ rw e refl

    nothing : (h : Bytes) → nat_eq (length h) 0 ≡ same_bytes h []
    nothing [] = refl
    nothing (b ∷ h) = ne_eqb (length (b ∷ h)) 0 (λ e. omega arith)

    other : (b : ℕ) (x r : Bytes) (c : ℕ) → headers ≡ line (codes "encoding") (b ∷ x) ++ (c ∷ r) → (t : Bool) → same_bytes headers (encoding_header (Some (b ∷ x))) ≡ t → false ≡ t
    other b x r c h true e =
        let same = (bytes_decides headers (encoding_header (Some (b ∷ x)))).0 e in
        let long = ap length (sym same ∙ h) in
        absurd (omega (arith, long, length-append (line (codes "encoding") (b ∷ x)) (c ∷ r)))
    other b x r c h false e = refl

    behind : (b : ℕ) (x r : Bytes) → headers ≡ line (codes "encoding") (b ∷ x) ++ r → nat_eq (length r) 0 ≡ same_bytes headers (encoding_header (Some (b ∷ x)))
    behind b x [] h = sym ((bytes_decides headers (encoding_header (Some (b ∷ x)))).1 (h ∙ append-nil (line (codes "encoding") (b ∷ x))))
    behind b x (c ∷ r) h = ne_eqb (length (c ∷ r)) 0 (λ e. omega arith) ∙ other b x r c h (same_bytes headers (encoding_header (Some (b ∷ x)))) refl

    by : (o : Option (Bytes × Bytes)) → field (codes "encoding") headers ≡ o → is_line_alone o headers ≡ is_encoding_alone headers
    by None e = nothing headers ∙ ap (λ t. same_bytes headers (encoding_header t)) (sym (told None e))
    by (Some ([], r)) e =
        let l = field_spelled (codes "encoding") headers ([], r) e in
        sym (ap (λ t. same_bytes headers (encoding_header t)) (told (Some ([], r)) e) ∙ ap (λ h. same_bytes h []) l.parts)
    by (Some ((b ∷ x), r)) e =
        let l = field_spelled (codes "encoding") headers ((b ∷ x), r) e in
        let some = ne_eqb (length (b ∷ x)) 0 (λ q. omega arith) in
        let is : encoding_in headers ≡ Some (b ∷ x) = told (Some ((b ∷ x), r)) e ∙ rw some refl in
        rw some (behind b x r l.parts) ∙ ap (λ t. same_bytes headers (encoding_header t)) (sym is)

-- ---- the whole body

text_flat : (t : CommitText) → text_lines t ≡ line (codes "author") t.author ++ (line (codes "committer") t.committer ++ (t.headers ++ (10 ∷ t.message)))
text_flat t =
    let author = line (codes "author") t.author in
    let committer = line (codes "committer") t.committer in
    append_assoc (author ++ committer) t.headers (10 ∷ t.message) ∙ append_assoc author committer (t.headers ++ (10 ∷ t.message))

commit_flat : (p : CommitParts) → commit_text p ≡ line (codes "tree") (hex p.tree) ++ (parent_lines p.parents ++ text_lines p.text)
commit_flat p = append_assoc (line (codes "tree") (hex p.tree)) (parent_lines p.parents) (text_lines p.text)

commit_takes : (body : Bytes) (p : CommitParts) → commit_parts_of body ≡ Some p → IsCommitText p body
unfolding commit_parts_of
commit_takes body p e =
    let tree = bind_some (name_field (codes "tree") body) _ p e in
    let author = bind_some (ident_field (codes "author") (parents_of tree.0.1).1) _ p tree.2 in
    let committer = bind_some (ident_field (codes "committer") author.0.1) _ p author.2 in
    let tail = bind_some (tail_of committer.0.1) _ p committer.2 in
    let message = bind_some tail.0.1 _ p tail.2 in
    let n = name_spelled (codes "tree") body tree.0 tree.1 in
    let ps = parents_spelled tree.0.1 in
    let a = ident_spelled (codes "author") (parents_of tree.0.1).1 author.0 author.1 in
    let c = ident_spelled (codes "committer") author.0.1 committer.0 committer.1 in
    let t = tail_spelled true committer.0.1 tail.0 tail.1 in
    let text : CommitText = record { author = author.0.0; committer = committer.0.0; headers = tail.0.0; message = message.0 } in
    let made : CommitParts = record { tree = tree.0.0; parents = (parents_of tree.0.1).0; text = text } in
    let is : made ≡ p = cc in
    let ending : committer.0.1 ≡ tail.0.0 ++ (10 ∷ message.0) = t.parts ∙ ap (λ m. tail.0.0 ++ message_text m) message.1 in
    let lines : (parents_of tree.0.1).1 ≡ text_lines text =
    a.parts ∙ ap (λ r. line (codes "author") author.0.0 ++ r) (c.parts ∙ ap (λ r. line (codes "committer") committer.0.0 ++ r) ending) ∙ sym (text_flat text) in
    let whole : body ≡ commit_text made =
    n.parts ∙ ap (λ r. line (codes "tree") (hex tree.0.0) ++ r) (ps.parts ∙ ap (λ r. parent_lines made.parents ++ r) lines) ∙ sym (commit_flat made) in
    subst (λ (q : CommitParts). IsCommitText q body) is (whole, n.name, ps.names, and_from _ _ (and_from _ _ a.ident c.ident) t.lines)

no_parent : (t : CommitText) → name_field (codes "parent") (text_lines t) ≡ None
unfolding name_field field stripped
no_parent t = refl

commit_again : (body : Bytes) (p : CommitParts) → IsCommitText p body → commit_parts_of body ≡ Some p
unfolding commit_parts_of
commit_again body p h =
    let t = p.text in
    let idents = and_parts (is_ident t.author && is_ident t.committer) _ h.3 in
    let ident = and_parts (is_ident t.author) _ idents.0 in
    let ending = t.headers ++ (10 ∷ t.message) in
    let later = line (codes "committer") t.committer ++ ending in
    let start = h.0 ∙ commit_flat p in
    let author : ident_field (codes "author") (text_lines t) ≡ Some (t.author, later) = ap (ident_field (codes "author")) (text_flat t) ∙ ident_again (codes "author") t.author later ident.0 in
    ap commit_parts_of start
    ∙ rw (
      name_field_again (codes "tree") p.tree (parent_lines p.parents ++ text_lines t) h.1,
      parents_again p.parents (text_lines t) h.2 (no_parent t),
      author,
      ident_again (codes "committer") t.committer ending ident.1,
      tail_again true t.headers (Some t.message) idents.1,
    ) refl

pub commit_found : {E : Type 0} (body : Bytes) (r : Result CommitParts E) → commit_parts_of body ≡ result_ok r → IfOk r (λ p. IsCommitText p body)
commit_found body (Ok p) e = commit_takes body p e
commit_found body (Err d) e = tt

pub commit_only : {E : Type 0} (body : Bytes) (r : Result CommitParts E) → commit_parts_of body ≡ result_ok r → (p : CommitParts) → IsCommitText p body → IsOkAnd r (λ found. found ≡ p)
commit_only body (Ok q) e p h = cc (commit_again body p h)
commit_only body (Err d) e p h = cc (commit_again body p h)
