-- The bodies of what stands for others.
use Rattle.std.proofs.Common.{◌≡◌, cond, [], ◌∷◌, ◌++◌, append_assoc, Some, None, refl, sym, ap, ◌∙◌}
use Rattle.std.specs.Prelude.{IsTrue, codes}
use Rattle.gx_model.specs.declared.objects.Kind.TheVariants as kind
use Rattle.gx_model.specs.Texts.{Bytes, cut_at}
use Rattle.gx_model.specs.Texts.Idents.{is_ident}
use Rattle.gx_model.specs.Objects.{CommitParts, commit_text, hex, is_name, line, text_lines}
use Rattle.gx_model.specs.Histories.Values.{is_proper_text}
use Rattle.gx_model.proofs.ObjectTexts.BodiesReadBack.{commit_read}
use Rattle.gx_model.proofs.Records.OneHistory.{line_flat}
use Rattle.gx_stand_ins.specs.Bodies.{StandsForCommit}
use Rattle.gx_stand_ins.specs.SmallRepositories.{name_behind, stand_in_text, stood_for}
use Rattle.gx_stand_ins.specs.StandInNames.{behind_is}
use Rattle.gx_stand_ins.specs.declared.bodies.TheConstants.{NONCE}
use Rattle.gx_stand_ins.proofs.ReadNames.{behind_both, found_behind, front_is, header}
use Rattle.gx_stand_ins.proofs.StoodFor.{commit_stood_for}

-- the parts of the commit that stands for one of this name
abbrev parts : Bytes → Bytes → CommitParts
parts tree n = record { tree = tree; parents = []; text = stand_in_text (NONCE ++ n) }

proper : (message : Bytes) → IsTrue (is_proper_text (stand_in_text message))
unfolding is_ident cut_at
proper message = refl

-- piece by piece
flat : (tree n : Bytes) → (((codes "tree " ++ hex tree) ++ (10 ∷ [])) ++ header) ++ (NONCE ++ n) ≡ commit_text (parts tree n)
flat tree n =
    let digits = hex tree in
    let rest = header ++ (NONCE ++ n) in
    ap (λ x. codes "tree " ++ x) (append_assoc (digits ++ 10 ∷ []) header (NONCE ++ n) ∙ append_assoc digits (10 ∷ []) rest)
    ∙ sym (append_assoc (line (codes "tree") digits) [] rest ∙ line_flat (codes "tree") digits rest)

-- the body of such a blob
pub blob_stands : (x n : Bytes) → x ≡ NONCE ++ n → IsTrue (is_name n) → name_behind NONCE x ≡ Some n
blob_stands x n e h = ap (name_behind NONCE) e ∙ found_behind NONCE n ∙ ap (λ b. cond b (Some n) None) h

behind : (n : Bytes) → IsTrue (is_name n) → name_behind (header ++ NONCE) (header ++ (NONCE ++ n)) ≡ Some n
behind n h = behind_both header NONCE (NONCE ++ n) ∙ blob_stands (NONCE ++ n) n refl h

-- such a body, put together piece by piece, stands for that commit
pub commit_stands : (tree n digits blob none word named line front body : Bytes) → IsTrue (is_name tree) → name_behind NONCE blob ≡ Some n
    → digits ≡ hex tree → blob ≡ NONCE ++ n → none ≡ [] → word ≡ none ++ codes "tree " → named ≡ word ++ digits → line ≡ named ++ (10 ∷ []) → front ≡ line ++ header → body ≡ front ++ blob
    → StandsForCommit tree n body
commit_stands tree n digits blob none word named line front body is_tree behind_it d b e0 e1 e2 e3 e4 e5 =
    let begun : named ≡ codes "tree " ++ hex tree = e2 ∙ (λ i. (e1 ∙ ap (λ x. x ++ codes "tree ") e0) i ++ d i) in
    let fronted : front ≡ ((codes "tree " ++ hex tree) ++ (10 ∷ [])) ++ header = e4 ∙ ap (λ x. x ++ header) (e3 ∙ ap (λ x. x ++ (10 ∷ [])) begun) in
    let whole : body ≡ commit_text (parts tree n) = e5 ∙ (λ i. fronted i ++ b i) ∙ flat tree n in
    record {
      stands = ap (stood_for NONCE kind.Commit) whole ∙ commit_stood_for NONCE (parts tree n) is_tree
          ∙ ap (λ front. name_behind front (text_lines (stand_in_text (NONCE ++ n)))) (front_is NONCE) ∙ behind n (behind_is NONCE blob n behind_it).1;
      tree_is = ap (λ p. p.tree) (commit_read (parts tree n) body (whole, is_tree, refl, proper (NONCE ++ n)));
    }
