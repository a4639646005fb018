-- Which bodies stand for others.
use Rattle.std.proofs.Common.{◌≡◌, suc, true, false, cond, List, [], ◌∷◌, ◌++◌, length, take, drop, append_assoc, Option, None, Some, refl, sym, ap, ◌∙◌}
use Rattle.std.specs.Prelude.{IsTrue, ◌&&◌, codes, replicate}
use Rattle.std.specs.Bool.{passes}
use Rattle.std.specs.List.{flat_map}
use Rattle.std.specs.Option.{unwrap_or}
use Rattle.gx_model.specs.declared.objects.Kind.{Kind}
use Rattle.gx_model.specs.declared.objects.Kind.TheVariants as kind
use Rattle.gx_model.specs.Texts.{Bytes, cut_at, same_bytes}
use Rattle.gx_model.specs.Objects.{CommitParts, commit_text, hex, is_name, line, text_lines}
use Rattle.gx_model.specs.Histories.Values.{CommitText, is_optional_ident, is_proper_text}
use Rattle.gx_model.specs.Records.HistoryOf.{commit_parts_in}
use Rattle.gx_model.specs.Replay.{text_made}
use Rattle.gx_model.specs.Replay.ProperReplays.{IsProperCommit}
use Rattle.gx_model.specs.Streams.Commands as command
use Rattle.gx_model.specs.Texts.Idents.{is_ident}
use Rattle.gx_model.proofs.ObjectTexts.NameDigits.{name_long}
use Rattle.gx_model.proofs.ObjectTexts.BodiesReadBack.{commit_read}
use Rattle.gx_model.proofs.Records.OneHistory.{line_flat}
use Rattle.gx_model.proofs.Texts.PathTests.{both, is_same, is_true}
use Rattle.gx_stand_ins.specs.SmallRepositories.{commit_front, name_behind, stand_in_text, stand_name, stood_for}
use Rattle.gx_stand_ins.specs.StandInNames.{behind_is}
use Rattle.gx_stand_ins.specs.StandIns.{AreNamers}

-- ---- texts behind others

-- the first part of two
pub taken : (x r : Bytes) → take (length x) (x ++ r) ≡ x
taken [] r = refl
taken (b ∷ x) r = ap (λ z. b ∷ z) (taken x r)

-- and the second
pub dropped : (x r : Bytes) → drop (length x) (x ++ r) ≡ r
dropped [] r = refl
dropped (b ∷ x) r = dropped x r

-- a text that begins otherwise is no name behind these
pub none_behind : (front text : Bytes) → same_bytes (take (length front) text) front ≡ false → name_behind front text ≡ None
none_behind front text e = ap (λ b. cond (b && is_name (drop (length front) text)) (Some (drop (length front) text)) None) e

-- ---- texts of commits

-- texts whose message begins otherwise, and whose parts have their forms
abbrev pub IsOwnText : Bytes → CommitText → Type 0
IsOwnText nonce text = (same_bytes (take (length nonce) text.message) nonce ≡ false) × IsTrue (is_proper_text text)

maker_proper : (message : Bytes) → IsTrue (is_proper_text (stand_in_text message))
unfolding is_ident cut_at
maker_proper message = refl

front_and_name : (nonce n : Bytes) → commit_front nonce ++ n ≡ text_lines (stand_in_text (nonce ++ n))
unfolding commit_front
front_and_name nonce n = refl

abbrev alone : CommitText → CommitParts
alone text = record { tree = replicate 20 0; parents = []; text = text }

one_text : (t u : CommitText) → IsTrue (is_proper_text t) → IsTrue (is_proper_text u) → text_lines t ≡ text_lines u → t ≡ u
one_text t u h k e =
    let same : commit_text (alone t) ≡ commit_text (alone u) = ap (λ lines. (line (codes "tree") (hex (replicate 20 0)) ++ []) ++ lines) e in
    ap (λ p. p.text) (sym (commit_read (alone t) (commit_text (alone t)) (refl, refl, refl, h)) ∙ ap commit_parts_in same ∙ commit_read (alone u) (commit_text (alone u)) (refl, refl, refl, k))

-- such texts stand for no others
pub no_stand_in : (nonce : Bytes) (t : CommitText) → same_bytes (take (length nonce) t.message) nonce ≡ false → IsTrue (is_proper_text t) → name_behind (commit_front nonce) (text_lines t) ≡ None
no_stand_in nonce t h proper = by (name_behind (commit_front nonce) (text_lines t)) refl
  where
    by : (o : Option Bytes) → name_behind (commit_front nonce) (text_lines t) ≡ o → o ≡ None
    by None e = refl
    by (Some n) e =
        let text = one_text t (stand_in_text (nonce ++ n)) proper (maker_proper (nonce ++ n)) ((behind_is (commit_front nonce) (text_lines t) n e).0 ∙ front_and_name nonce n) in
        let begins : same_bytes (take (length nonce) t.message) nonce ≡ true =
        ap (λ u. same_bytes (take (length nonce) u.message) nonce) text ∙ ap (λ x. same_bytes x nonce) (taken nonce n) ∙ is_true _ (is_same nonce nonce refl) in
        let both : true ≡ false = sym begins ∙ h in
        absurd (cc)

-- the texts of a commit command whose parts have their forms
pub text_proper : (c : command.CommitParts) → IsProperCommit c → IsTrue (is_proper_text (text_made c))
text_proper c h = by c.author h.author
  where
    by : (author : Option Bytes) → IsTrue (is_optional_ident author) → IsTrue (is_proper_text (record { author = unwrap_or author c.committer; committer = c.committer; headers = c.headers; message = c.message }))
    by None k = is_true _ (both _ _ (both _ _ (passes _ h.committer) (passes _ h.committer)) (passes _ h.headers))
    by (Some x) k = is_true _ (both _ _ (both _ _ (passes _ k) (passes _ h.committer)) (passes _ h.headers))

-- ---- bodies

-- what stands behind a text and an LF
drop_line : (x r : Bytes) → drop (suc (length x)) (x ++ 10 ∷ r) ≡ r
drop_line [] r = refl
drop_line (b ∷ x) r = drop_line x r

-- what stands behind the line of a commit's tree
behind_tree : (n r : Bytes) → IsTrue (is_name n) → drop 46 (line (codes "tree") (hex n) ++ r) ≡ r
behind_tree n r h = ap (drop 46) (line_flat (codes "tree") (hex n) r) ∙ ap (λ k. drop (suc k) (hex n ++ 10 ∷ r)) (sym (name_long n h)) ∙ drop_line (hex n) r

-- which name the parts of a commit stand for
abbrev pub stood_by : Bytes → List Bytes → CommitText → Option Bytes
stood_by nonce [] text = name_behind (commit_front nonce) (text_lines text)
stood_by nonce (n ∷ ns) text = None

module _ (nonce : Bytes) where
  unlike : (t : CommitText) (n : Bytes) (ns : List Bytes) → name_behind (commit_front nonce) (flat_map (λ m. line (codes "parent") (hex m)) (n ∷ ns) ++ text_lines t) ≡ None
  unfolding commit_front
  unlike t n ns = refl

  pub commit_stood_for : (p : CommitParts) → IsTrue (is_name p.tree) → stood_for nonce kind.Commit (commit_text p) ≡ stood_by nonce p.parents p.text
  commit_stood_for p h =
      ap (λ body. name_behind (commit_front nonce) (drop 46 body)) (append_assoc (line (codes "tree") (hex p.tree)) (flat_map (λ n. line (codes "parent") (hex n)) p.parents) (text_lines p.text))
      ∙ ap (name_behind (commit_front nonce)) (behind_tree p.tree (flat_map (λ n. line (codes "parent") (hex n)) p.parents ++ text_lines p.text) h) ∙ by p.parents
    where
      by : (ns : List Bytes) → name_behind (commit_front nonce) (flat_map (λ n. line (codes "parent") (hex n)) ns ++ text_lines p.text) ≡ stood_by nonce ns p.text
      by [] = refl
      by (n ∷ ns) = unlike p.text n ns

  module _ (name : Kind → Bytes → Bytes) where
    pub stand_trees : AreNamers (stand_name nonce name) name
    stand_trees = record { trees = λ body. refl; tags = λ body. refl }

    -- what stands for no other has the namer's name
    pub named_own : (k : Kind) (body : Bytes) → stood_for nonce k body ≡ None → stand_name nonce name k body ≡ name k body
    named_own k body e = ap (λ o. unwrap_or o (name k body)) e

    -- and what does has that of the other
    pub named_by : (k : Kind) (body n : Bytes) → stood_for nonce k body ≡ Some n → stand_name nonce name k body ≡ n
    named_by k body n e = ap (λ o. unwrap_or o (name k body)) e
