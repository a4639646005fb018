-- A repository stands for one history at most.
use Rattle.std.proofs.Common.{◌≡◌, ℕ, ◌+◌, ◌<◌, Bool, true, false, cond, refl, sym, ap, subst, ◌∙◌, arith, List, [], ◌∷◌, ◌++◌, map, Option, None, Some, append_assoc, inl, inr, eqb→eq, ◌/◌, ◌%◌}
use Rattle.std.specs.Prelude.{T, not, ◌||◌, nat_eq, nat_lt, codes}
use Rattle.std.specs.List.{list_all, list_any, AllByRecursion}
use Rattle.std.specs.Bool.{passes}
use Rattle.gx_model.specs.declared.objects.Kind.{Kind}
use Rattle.gx_model.specs.declared.objects.Kind.TheVariants as kind
use Rattle.gx_model.specs.Texts.{Bytes, same_bytes}
use Rattle.gx_model.specs.Histories.Files.{FileMap}
use Rattle.gx_model.specs.Histories.Values.{CommitText, Commit, commit, Commits, none, more, Tag, Value, blob_value, tree_value, commit_value, tag_value, list_of, parts, is_proper, is_content, is_optional_line, is_proper_text, is_optional_ident}
use Rattle.gx_model.specs.Texts.{is_line}
use Rattle.gx_model.specs.Texts.RefNames.{is_tag_name}
use Rattle.gx_model.specs.Objects.{IsNamer, hex, hex_digit, line, optional_line, text_lines}
use Rattle.gx_model.specs.Records.{tree_name, commit_body, parent_lines, tag_body, kind_of, body_of, name_of}
use Rattle.gx_model.specs.Histories.{IsIn, IsClosedAfter, Target, at_commit, at_tag, value_at, History, Records, AreDistinct, record_of, StandsFor}
use Rattle.gx_model.proofs.Texts.PathTests.{both, first, second, is_true, not_by, is_same}
use Rattle.gx_model.proofs.ObjectTexts.EntryTexts.{split_at}
use Rattle.gx_model.proofs.ObjectTexts.OneTree.{one_tree}
use Rattle.gx_model.proofs.Texts.HeaderTexts.{one_headers}
use Rattle.gx_model.proofs.Texts.HexDigits.{one_hex}
use Rattle.gx_model.proofs.Texts.PlainTexts.{text_lines_of, tag_line, optional_ident_line}

-- ---- lines

-- a line and what follows it, grouped to the right
pub line_flat : (w x r : Bytes) → line w x ++ r ≡ w ++ (32 ∷ (x ++ (10 ∷ r)))
line_flat w x r = append_assoc (w ++ 32 ∷ x) (10 ∷ []) r ∙ append_assoc w (32 ∷ x) (10 ∷ r)

strip : (w a b : Bytes) → w ++ a ≡ w ++ b → a ≡ b
strip [] a b e = e
strip (c ∷ w) a b e = let k : w ++ a ≡ w ++ b = cc in strip w a b k

one_line : (w x y r s : Bytes) → T (is_line x) → T (is_line y) → line w x ++ r ≡ line w y ++ s → (x ≡ y) × (r ≡ s)
one_line w x y r s f g e =
    let k = strip w (32 ∷ (x ++ (10 ∷ r))) (32 ∷ (y ++ (10 ∷ s))) (sym (line_flat w x r) ∙ e ∙ line_flat w y s) in
    let l : x ++ (10 ∷ r) ≡ y ++ (10 ∷ s) = cc in
    split_at 10 x y r s f g l

one_optional : (b : ℕ) (w : Bytes) (o p : Option Bytes) (m n : Bytes) → (b ≡ 10 → ⊥) → T (is_optional_line o) → T (is_optional_line p) → optional_line (b ∷ w) o ++ (10 ∷ m) ≡ optional_line (b ∷ w) p ++ (10 ∷ n) → (o ≡ p) × (m ≡ n)
one_optional b w None None m n h f g e = (refl, cc)
one_optional b w None (Some y) m n h f g e = let k : b ≡ 10 = cc in absurd (h k)
one_optional b w (Some x) None m n h f g e = let k : b ≡ 10 = cc in absurd (h k)
one_optional b w (Some x) (Some y) m n h f g e =
    let k = one_line (b ∷ w) x y (10 ∷ m) (10 ∷ n) f g e in
    let l : m ≡ n = cc (k.1) in
    (ap Some k.0, l)

-- the lines of a commit's text, grouped to the right
pub text_flat : (t : CommitText) → text_lines t ≡ line (codes "author") t.author ++ (line (codes "committer") t.committer ++ (t.headers ++ (10 ∷ t.message)))
text_flat t =
    append_assoc (line (codes "author") t.author ++ line (codes "committer") t.committer) t.headers (10 ∷ t.message)
    ∙ append_assoc (line (codes "author") t.author) (line (codes "committer") t.committer) (t.headers ++ (10 ∷ t.message))

one_text : (t u : CommitText) → T (is_proper_text t) → T (is_proper_text u) → text_lines t ≡ text_lines u → t ≡ u
one_text t u f g e =
    let f2 = text_lines_of t f in
    let g2 = text_lines_of u g in
    let a = one_line (codes "author") t.author u.author _ _ f2.author g2.author (sym (text_flat t) ∙ e ∙ text_flat u) in
    let c = one_line (codes "committer") t.committer u.committer _ _ f2.committer g2.committer a.1 in
    let o = one_headers t.headers u.headers t.message u.message f2.headers g2.headers c.1 in
    λ i. record { author = a.0 i; committer = c.0 i; headers = o.0 i; message = o.1 i }

-- digits are a line
pub hex_line : (x : Bytes) → T (is_line (hex x))
hex_line [] = tt
hex_line (b ∷ x) = both _ _ (digit_line (b / 16)) (both _ _ (digit_line (b % 16)) (hex_line x))
  where
    digit_line : (n : ℕ) → T (not (nat_eq (hex_digit n) 10))
    digit_line n = elim (nat_lt n 10) as (λ c. T (not (nat_eq (cond c (48 + n) (87 + n)) 10))) [ true ↦ not_ten 48 n (omega arith) | false ↦ not_ten 87 n (omega arith) ]
      where
        not_ten : (k n : ℕ) → 10 < k → T (not (nat_eq (k + n) 10))
        not_ten k n h = not_by _ (λ e. let l : k + n ≡ 10 = eqb→eq (k + n) 10 e in absurd (omega arith))

module _ (name : Kind → Bytes → Bytes) (namer : IsNamer name) where
  one_name : (v w : Value) (w' : Bytes) (r s : Bytes) → line w' (hex (name_of name v)) ++ r ≡ line w' (hex (name_of name w)) ++ s → (name_of name v ≡ name_of name w) × (r ≡ s)
  one_name v w w' r s e =
      let k = one_line w' (hex (name_of name v)) (hex (name_of name w)) r s (hex_line (name_of name v)) (hex_line (name_of name w)) e in
      (one_hex _ _ (passes _ (namer.bytes _ _)) (passes _ (namer.bytes _ _)) k.0, k.1)

  module _ (Known : Value → Type 0) (uniq : (x y : Value) → Known x → Known y → name_of name x ≡ name_of name y → x ≡ y) where
    commit_in : Value → Commit → Commit
    commit_in (commit_value c) d = c
    commit_in _ d = d

    one_parents : (ps qs : Commits) (t u : CommitText) → AllByRecursion Known (map commit_value (list_of ps)) → AllByRecursion Known (map commit_value (list_of qs))
        → parent_lines name ps ++ text_lines t ≡ parent_lines name qs ++ text_lines u → (ps ≡ qs) × (text_lines t ≡ text_lines u)
    unfolding commit_in
    one_parents none none t u h g e = (refl, e)
    one_parents none (more d ds) t u h g e = let k : ◌≡◌ {A = ℕ} 97 112 = cc in absurd (omega arith)
    one_parents (more c cs) none t u h g e = let k : ◌≡◌ {A = ℕ} 97 112 = cc in absurd (omega arith)
    one_parents (more c cs) (more d ds) t u h g e =
        let k = one_name (commit_value c) (commit_value d) (codes "parent") (parent_lines name cs ++ text_lines t) (parent_lines name ds ++ text_lines u)
        (sym (append_assoc (line (codes "parent") (hex (name kind.Commit (commit_body name c)))) (parent_lines name cs) (text_lines t)) ∙ e ∙ append_assoc (line (codes "parent") (hex (name kind.Commit (commit_body name d)))) (parent_lines name ds) (text_lines u)) in
        let s : c ≡ d = ap (λ v. commit_in v c) (uniq (commit_value c) (commit_value d) h.0 g.0 k.0) in
        let rest = one_parents cs ds t u h.1 g.1 k.1 in
        (λ i. more (s i) (rest.0 i), rest.1)

    tree_in : Value → FileMap Bytes
    tree_in (tree_value f) = f
    tree_in _ = []

    one_commit : (c d : Commit) → T (is_proper (commit_value c)) → T (is_proper (commit_value d)) → AllByRecursion Known (parts (commit_value c)) → AllByRecursion Known (parts (commit_value d)) → commit_body name c ≡ commit_body name d → c ≡ d
    unfolding tree_in
    one_commit (commit f ps t) (commit g qs u) h k x y e =
        let a = one_name (tree_value f) (tree_value g) (codes "tree") (parent_lines name ps ++ text_lines t) (parent_lines name qs ++ text_lines u)
        (sym (append_assoc (line (codes "tree") (hex (tree_name name f))) (parent_lines name ps) (text_lines t)) ∙ e ∙ append_assoc (line (codes "tree") (hex (tree_name name g))) (parent_lines name qs) (text_lines u)) in
        let s : f ≡ g = ap tree_in (uniq (tree_value f) (tree_value g) x.0 y.0 a.0) in
        let b = one_parents ps qs t u x.1 y.1 a.1 in
        let o = one_text t u (second (is_content f) _ h) (second (is_content g) _ k) b.1 in
        λ i. commit (s i) (b.0 i) (o i)

    -- a tag's body, grouped to the right
    pub tag_flat : (t : Tag) → tag_body name t ≡ line (codes "object") (hex (name kind.Commit (commit_body name t.target))) ++ (line (codes "type") (codes "commit") ++ (line (codes "tag") t.name ++ (optional_line (codes "tagger") t.tagger ++ (10 ∷ t.message))))
    tag_flat t =
        append_assoc (line (codes "object") (hex (name kind.Commit (commit_body name t.target))) ++ line (codes "type") (codes "commit") ++ line (codes "tag") t.name) (optional_line (codes "tagger") t.tagger) (10 ∷ t.message)
        ∙ append_assoc (line (codes "object") (hex (name kind.Commit (commit_body name t.target))) ++ line (codes "type") (codes "commit")) (line (codes "tag") t.name) (optional_line (codes "tagger") t.tagger ++ (10 ∷ t.message))
        ∙ append_assoc (line (codes "object") (hex (name kind.Commit (commit_body name t.target)))) (line (codes "type") (codes "commit")) (line (codes "tag") t.name ++ (optional_line (codes "tagger") t.tagger ++ (10 ∷ t.message)))

    one_tag : (t u : Tag) → T (is_proper (tag_value t)) → T (is_proper (tag_value u)) → Known (commit_value t.target) → Known (commit_value u.target) → tag_body name t ≡ tag_body name u → t ≡ u
    unfolding commit_in
    one_tag t u h k x y e =
        let a = one_name (commit_value t.target) (commit_value u.target) (codes "object") _ _ (sym (tag_flat t) ∙ e ∙ tag_flat u) in
        let s : t.target ≡ u.target = ap (λ v. commit_in v t.target) (uniq (commit_value t.target) (commit_value u.target) x y a.0) in
        let b = one_line (codes "type") (codes "commit") (codes "commit") _ _ tt tt a.1 in
        let c = one_line (codes "tag") t.name u.name _ _ (tag_line t.name (first (is_tag_name t.name) (is_optional_ident t.tagger) h)) (tag_line u.name (first (is_tag_name u.name) (is_optional_ident u.tagger) k)) b.1 in
        let o = one_optional 116 (codes "agger") t.tagger u.tagger t.message u.message (λ k. omega arith) (optional_ident_line t.tagger (second (is_tag_name t.name) (is_optional_ident t.tagger) h)) (optional_ident_line u.tagger (second (is_tag_name u.name) (is_optional_ident u.tagger) k)) c.1 in
        λ i. record { target = s i; name = c.0 i; tagger = o.0 i; message = o.1 i }

    -- a record tells its value, where the parts stand
    pub one_value : (v w : Value) → T (is_proper v) → T (is_proper w) → AllByRecursion Known (parts v) → AllByRecursion Known (parts w) → kind_of name v ≡ kind_of name w → body_of name v ≡ body_of name w → v ≡ w
    one_value (blob_value x) (blob_value y) h k a b e g = ap blob_value g
    one_value (tree_value x) (tree_value y) h k a b e g = ap tree_value (one_tree name namer Known uniq x y h k a b g)
    one_value (commit_value x) (commit_value y) h k a b e g = ap commit_value (one_commit x y h k a b g)
    one_value (tag_value x) (tag_value y) h k a b e g = ap tag_value (one_tag x y h k a.0 b.0 g)
    one_value (blob_value x) (tree_value y) h k a b e g = absurd (cc)
    one_value (blob_value x) (commit_value y) h k a b e g = absurd (cc)
    one_value (blob_value x) (tag_value y) h k a b e g = absurd (cc)
    one_value (tree_value x) (blob_value y) h k a b e g = absurd (cc)
    one_value (tree_value x) (commit_value y) h k a b e g = absurd (cc)
    one_value (tree_value x) (tag_value y) h k a b e g = absurd (cc)
    one_value (commit_value x) (blob_value y) h k a b e g = absurd (cc)
    one_value (commit_value x) (tree_value y) h k a b e g = absurd (cc)
    one_value (commit_value x) (tag_value y) h k a b e g = absurd (cc)
    one_value (tag_value x) (blob_value y) h k a b e g = absurd (cc)
    one_value (tag_value x) (tree_value y) h k a b e g = absurd (cc)
    one_value (tag_value x) (commit_value y) h k a b e g = absurd (cc)

  -- ---- values with distinct names
  names : List Value → List Bytes
  names vs = map (name_of name) vs

  -- a name that no value has isn't that of a value that stands
  pub no_other : (n : Bytes) (vs : List Value) (v : Value) → list_any (same_bytes n) (map (name_of name) vs) ≡ false → IsIn vs v → n ≡ name_of name v → ⊥
  no_other n [] v h i e = i
  no_other n (w ∷ vs) v h i e =
      elim i [
        | inl k ↦ head_differs (e ∙ ap (name_of name) (sym k)) h
        | inr k ↦ no_other n vs v (tail_false h) k e
      ]
    where
      head_differs : n ≡ name_of name w → (same_bytes n (name_of name w) || list_any (same_bytes n) (map (name_of name) vs)) ≡ false → ⊥
      head_differs k g = let l = is_true _ (is_same n (name_of name w) k) in let m : (true || list_any (same_bytes n) (map (name_of name) vs)) ≡ false = subst (λ b. (b || list_any (same_bytes n) (map (name_of name) vs)) ≡ false) l g in cc

      tail_false : (same_bytes n (name_of name w) || list_any (same_bytes n) (map (name_of name) vs)) ≡ false → list_any (same_bytes n) (map (name_of name) vs) ≡ false
      tail_false g = by (same_bytes n (name_of name w)) g
        where
          by : (b : Bool) → (b || list_any (same_bytes n) (map (name_of name) vs)) ≡ false → list_any (same_bytes n) (map (name_of name) vs) ≡ false
          by true k = absurd (cc)
          by false k = k

  -- values that stand are told by their names, where these are distinct
  pub told_by_name : (vs : List Value) → AreDistinct (map (name_of name) vs) → (x y : Value) → IsIn vs x → IsIn vs y → name_of name x ≡ name_of name y → x ≡ y
  told_by_name [] d x y i j e = absurd i
  told_by_name (w ∷ vs) d x y i j e =
      elim i [
        | inl k ↦ elim j [ inl l ↦ sym k ∙ l | inr l ↦ absurd (no_other (name_of name w) vs y d.0 l (ap (name_of name) k ∙ e)) ]
        | inr k ↦ elim j [ inl l ↦ absurd (no_other (name_of name w) vs x d.0 k (ap (name_of name) l ∙ sym e)) | inr l ↦ told_by_name vs d.1 x y k l e ]
      ]

  any_left : (n : Bytes) (vs ws : List Value) → list_any (same_bytes n) (map (name_of name) (vs ++ ws)) ≡ false → list_any (same_bytes n) (map (name_of name) vs) ≡ false
  any_left n [] ws h = refl
  any_left n (v ∷ vs) ws h =
      elim (same_bytes n (name_of name v)) as (λ b. (b || list_any (same_bytes n) (map (name_of name) (vs ++ ws))) ≡ false → (b || list_any (same_bytes n) (map (name_of name) vs)) ≡ false) [ true ↦ λ k. k | false ↦ λ k. any_left n vs ws k ] h

  distinct_left : (vs ws : List Value) → AreDistinct (map (name_of name) (vs ++ ws)) → AreDistinct (map (name_of name) vs)
  distinct_left [] ws h = tt
  distinct_left (v ∷ vs) ws h = (any_left (name_of name v) vs ws h.0, distinct_left vs ws h.1)

  -- records tell their values
  pub one_list : (before vs ws : List Value) → AreDistinct (map (name_of name) (before ++ vs)) → IsClosedAfter before vs → IsClosedAfter before ws → T (list_all is_proper vs) → T (list_all is_proper ws)
      → map (record_of name) vs ≡ map (record_of name) ws → vs ≡ ws
  one_list before [] [] d c g p q e = refl
  one_list before [] (w ∷ ws) d c g p q e = absurd (cc)
  one_list before (v ∷ vs) [] d c g p q e = absurd (cc)
  one_list before (v ∷ vs) (w ∷ ws) d c g p q e =
      let r : record_of name v ≡ record_of name w = cc in
      let rs : map (record_of name) vs ≡ map (record_of name) ws = cc in
      let s = one_value (IsIn before) (told_by_name before (distinct_left before (v ∷ vs) d)) v w (first _ _ p) (first _ _ q) c.1 g.1 (ap (λ x. x.kind) r) (ap (λ x. x.body) r) in
      let rest = one_list (before ++ v ∷ []) vs ws (subst (λ xs. AreDistinct (map (name_of name) xs)) (sym (append_assoc before (v ∷ []) vs)) d) c.2 (subst (λ z. IsClosedAfter (before ++ z ∷ []) ws) (sym s) g.2) (second (is_proper v) _ p) (second (is_proper w) _ q) rs in
      λ i. s i ∷ rest i

  at_value : Value → Target → Target
  at_value (commit_value c) t = at_commit c
  at_value (tag_value u) t = at_tag u
  at_value _ t = t

  at_itself : (t u : Target) → at_value (value_at t) u ≡ t
  unfolding at_value
  at_itself (at_commit c) u = refl
  at_itself (at_tag c) u = refl

  one_refs : (vs : List Value) → AreDistinct (map (name_of name) vs) → (rs qs : List (Bytes × Target)) → AllByRecursion (λ r. IsIn vs (value_at r.1)) rs → AllByRecursion (λ r. IsIn vs (value_at r.1)) qs
      → map (λ (x : Bytes × Target). let q : Bytes × Bytes = (x.0, name_of name (value_at x.1)) in q) rs ≡ map (λ x. (x.0, name_of name (value_at x.1))) qs → rs ≡ qs
  one_refs vs d [] [] h g e = refl
  one_refs vs d [] (q ∷ qs) h g e = absurd (cc)
  one_refs vs d (r ∷ rs) [] h g e = absurd (cc)
  one_refs vs d (r ∷ rs) (q ∷ qs) h g e =
      let one : ◌≡◌ {A = Bytes × Bytes} (r.0, name_of name (value_at r.1)) (q.0, name_of name (value_at q.1)) = cc in
      let rest : map (λ (x : Bytes × Target). let q : Bytes × Bytes = (x.0, name_of name (value_at x.1)) in q) rs ≡ map (λ x. (x.0, name_of name (value_at x.1))) qs = cc in
      let s = told_by_name vs d (value_at r.1) (value_at q.1) h.0 g.0 (ap (λ p. p.1) one) in
      let t : r.1 ≡ q.1 = sym (at_itself r.1 r.1) ∙ ap (λ v. at_value v r.1) s ∙ at_itself q.1 r.1 in
      let more_refs = one_refs vs d rs qs h.1 g.1 rest in
      λ i. ((one i).0, t i) ∷ more_refs i

  -- the names of the records of values are the values' names
  pub names_of_records : (vs : List Value) → map (λ x. x.name) (map (record_of name) vs) ≡ map (name_of name) vs
  names_of_records [] = refl
  names_of_records (v ∷ vs) = ap (λ ns. name_of name v ∷ ns) (names_of_records vs)

  -- a repository stands for one history at most
  pub one_history : (r : Records) (h k : History) → StandsFor name r h → StandsFor name r k → h ≡ k
  one_history r h k a b =
      let d : AreDistinct (map (name_of name) h.values) = subst AreDistinct (ap (map (λ x. x.name)) a.records ∙ names_of_records h.values) a.distinct in
      let v : h.values ≡ k.values = one_list [] h.values k.values d a.history.closed b.history.closed (passes _ a.history.proper) (passes _ b.history.proper) (sym a.records ∙ b.records) in
      let q : h.refs ≡ k.refs = one_refs h.values d h.refs k.refs a.history.held (subst (λ vs. AllByRecursion (λ x. IsIn vs (value_at x.1)) k.refs) (sym v) b.history.held) (sym a.refs ∙ b.refs) in
      λ i. record { values = v i; refs = q i }
