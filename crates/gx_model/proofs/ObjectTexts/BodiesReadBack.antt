-- The parts of a body are read back.
use Rattle.std.proofs.Common.{◌≡◌, ℕ, zero, suc, ◌≤◌, ◌+◌, ◌-◌, ◌*◌, ◌/◌, ◌%◌, ◌<◌, Bool, true, false, cond, refl, ap, ◌∙◌, arith, List, [], ◌∷◌, ◌++◌, length, take, drop, append_assoc, eqb→eq, eq-eqb, Option, None, Some, length-append}
use Rattle.std.specs.Prelude.{T, not, nat_eq, nat_lt, codes}
use Rattle.std.specs.List.{list_all, flat_map}
use Rattle.std.specs.Bool.{passes}
use Rattle.std.proofs.lemmas.Bool.Decides.{nat_tests}
use Rattle.gx_model.specs.declared.objects.Mode.{Mode}
use Rattle.gx_model.specs.declared.objects.Mode.TheVariants.{File, Exec, Link, Gitlink, Dir}
use Rattle.gx_model.specs.Texts.{Bytes}
use Rattle.gx_model.specs.Texts.Headers.{headers_in}
use Rattle.gx_model.specs.Texts.Paths.{is_component}
use Rattle.gx_model.specs.Histories.Values.{CommitText, is_optional_line, is_proper_text}
use Rattle.gx_model.specs.Texts.{is_line}
use Rattle.gx_model.specs.Objects.{Entry, tree_text, entry_text, mode_text, hex, hex_digit, digit_value, unhex, line, optional_line, text_lines, CommitParts, commit_text, TagParts, tag_text, is_name, is_canonical, IsTreeText, IsCommitText, IsTagText}
use Rattle.gx_model.specs.Records.HistoryOf.{sides_at, mode_in, entry_in, after_entry, entries_in_to, entries_in, field, parents_in_to, optional_in, text_in, commit_parts_in, tag_parts_in}
use Rattle.gx_model.proofs.Texts.HeaderTexts.{headers_cut}
use Rattle.gx_model.proofs.Texts.PathTests.{component_free, first, is_true, second}
use Rattle.gx_model.proofs.ObjectTexts.EntryTexts.{is_free, AreNamed, entry_flat, mode_free, starts_some}
use Rattle.gx_model.proofs.Records.OneHistory.{line_flat, text_flat, hex_line}
use Rattle.gx_model.proofs.Texts.PlainTexts.{text_lines_of, tag_line, optional_ident_line}

-- a text is cut at the first mark
pub cut_law : (b : ℕ) (x r : Bytes) → T (is_free b x) → sides_at b (x ++ (b ∷ r)) ≡ (x, r)
cut_law b [] r f = ap (λ c. cond c ([], r) (b ∷ (sides_at b r).0, (sides_at b r).1)) (eq-eqb b b refl)
cut_law b (a ∷ x) r f =
    ap (λ c. cond c ([], x ++ (b ∷ r)) (a ∷ (sides_at b (x ++ (b ∷ r))).0, (sides_at b (x ++ (b ∷ r))).1)) (as_no (nat_eq a b) (first _ _ f))
    ∙ ap (λ (q : Bytes × Bytes). let p : Bytes × Bytes = (a ∷ q.0, q.1) in p) (cut_law b x r (second _ _ f))
  where
    as_no : (c : Bool) → T (not c) → c ≡ false
    as_no true h = absurd h
    as_no false h = refl

-- a mode is read from its octal digits
pub mode_law : (m : Mode) → mode_in (mode_text m) ≡ m
mode_law File = refl
mode_law Exec = refl
mode_law Link = refl
mode_law Gitlink = refl
mode_law Dir = refl

take_long : (x r : Bytes) (n : ℕ) → length x ≡ n → take n (x ++ r) ≡ x
take_long [] r zero e = refl
take_long [] r (suc n) e = absurd (omega arith)
take_long (a ∷ x) r zero e = absurd (omega arith)
take_long (a ∷ x) r (suc n) e = ap (λ y. a ∷ y) (take_long x r n (omega arith))

drop_long : (x r : Bytes) (n : ℕ) → length x ≡ n → drop n (x ++ r) ≡ r
drop_long [] r zero e = refl
drop_long [] r (suc n) e = absurd (omega arith)
drop_long (a ∷ x) r zero e = absurd (omega arith)
drop_long (a ∷ x) r (suc n) e = drop_long x r n (omega arith)

module _ (e : Entry) (r : Bytes) (f : T (is_component e.component)) where
  mode_cut : sides_at 32 (entry_text e ++ r) ≡ (mode_text e.mode, e.component ++ (0 ∷ (e.name ++ r)))
  mode_cut = ap (sides_at 32) (entry_flat e r) ∙ cut_law 32 (mode_text e.mode) (e.component ++ (0 ∷ (e.name ++ r))) (mode_free e.mode)

  component_cut : sides_at 0 (sides_at 32 (entry_text e ++ r)).1 ≡ (e.component, e.name ++ r)
  component_cut = ap (λ (q : Bytes × Bytes). sides_at 0 q.1) mode_cut ∙ cut_law 0 e.component (e.name ++ r) (component_free e.component f).1

  -- an entry is read at the front of its text
  pub entry_law : length e.name ≡ 20 → entry_in (entry_text e ++ r) ≡ e
  entry_law l =
      let a = component_cut in
      let m : mode_in (sides_at 32 (entry_text e ++ r)).0 ≡ e.mode = ap (λ (q : Bytes × Bytes). mode_in q.0) mode_cut ∙ mode_law e.mode in
      let n : take 20 (sides_at 0 (sides_at 32 (entry_text e ++ r)).1).1 ≡ e.name = ap (λ (q : Bytes × Bytes). take 20 q.1) a ∙ take_long e.name r 20 l in
      λ i. record { mode = m i; component = (a i).0; name = n i }

  -- what follows an entry is what follows its text
  pub after_law : length e.name ≡ 20 → after_entry (entry_text e ++ r) ≡ r
  after_law l = ap (λ (q : Bytes × Bytes). drop 20 q.1) component_cut ∙ drop_long e.name r 20 l

unstuck : (n : ℕ) (s : Bytes) → (s ≡ [] → ⊥) → entries_in_to (suc n) s ≡ entry_in s ∷ entries_in_to n (after_entry s)
unstuck n [] h = absurd (h refl)
unstuck n (x ∷ s) h = refl

some_text : (m : Mode) (x : Bytes) → 1 ≤ length (mode_text m ++ x)
some_text File x = omega arith
some_text Exec x = omega arith
some_text Link x = omega arith
some_text Gitlink x = omega arith
some_text Dir x = omega arith

entries_law : (n : ℕ) (es : List Entry) → AreNamed 20 es → length (tree_text es) ≤ n → entries_in_to n (tree_text es) ≡ es
entries_law zero [] h l = refl
entries_law (suc n) [] h l = refl
entries_law zero (e ∷ es) h l =
    let k = some_text e.mode (32 ∷ (e.component ++ 0 ∷ e.name)) in
    let a = length-append (entry_text e) (tree_text es) in
    absurd (omega arith)
entries_law (suc n) (e ∷ es) h l =
    let k = some_text e.mode (32 ∷ (e.component ++ 0 ∷ e.name)) in
    let a = length-append (entry_text e) (tree_text es) in
    let one = entry_law e (tree_text es) h.0.0 h.0.1 in
    let rest = ap (entries_in_to n) (after_law e (tree_text es) h.0.0 h.0.1) ∙ entries_law n es h.1 (omega arith) in
    unstuck n (tree_text (e ∷ es)) (starts_some e.mode (32 ∷ (e.component ++ 0 ∷ e.name)) (tree_text es)) ∙ (λ i. one i ∷ rest i)

-- a name has 20 bytes
pub long_name : (n : Bytes) → T (is_name n) → length n ≡ 20
long_name n h = eqb→eq (length n) 20 (first (nat_eq (length n) 20) (list_all (λ b. nat_lt b 256) n) h)

-- the bytes of a name are below 256
pub bytes_name : (n : Bytes) → T (is_name n) → T (list_all (λ b. nat_lt b 256) n)
bytes_name n h = second (nat_eq (length n) 20) (list_all (λ b. nat_lt b 256) n) h

named_all : (es : List Entry) → T (list_all (λ e. is_component e.component) es) → T (list_all (λ e. is_name e.name) es) → AreNamed 20 es
named_all [] c h = tt
named_all (e ∷ es) c h = ((first _ _ c, long_name e.name (first _ _ h)), named_all es (second (is_component e.component) _ c) (second (is_name e.name) _ h))

-- canonical entries have components
pub components_all : (es : List Entry) → T (is_canonical es) → T (list_all (λ e. is_component e.component) es)
components_all es h = first _ _ (first _ _ h)

-- the entries of a tree's body are read from it
pub entries_read : (es : List Entry) (body : Bytes) → IsTreeText es body → entries_in body ≡ es
entries_read es body h =
    ap entries_in h.0 ∙ entries_law (length (tree_text es)) es (named_all es (components_all es (passes _ h.1)) (passes _ h.2)) (omega arith)

-- ---- digits

digit_law : (n : ℕ) → n < 16 → digit_value (hex_digit n) ≡ n
digit_law n h = by (nat_lt n 10) refl
  where
    by : (b : Bool) → nat_lt n 10 ≡ b → digit_value (cond b (48 + n) (87 + n)) ≡ n
    by true e = let l : n < 10 = grind (arith, nat_tests) in low n l
      where
        low : (n : ℕ) → n < 10 → digit_value (48 + n) ≡ n
        low n k = pick (nat_lt (48 + n) 58) refl
          where
            pick : (b : Bool) → nat_lt (48 + n) 58 ≡ b → cond b (48 + n - 48) (48 + n - 87) ≡ n
            pick true i = omega arith
            pick false i = let j : 58 ≤ 48 + n = grind (arith, nat_tests) in absurd (omega arith)
    by false e = high n
      where
        high : (n : ℕ) → digit_value (87 + n) ≡ n
        high n = pick (nat_lt (87 + n) 58) refl
          where
            pick : (b : Bool) → nat_lt (87 + n) 58 ≡ b → cond b (87 + n - 48) (87 + n - 87) ≡ n
            pick true i = let j : 87 + n < 58 = grind (arith, nat_tests) in absurd (omega arith)
            pick false i = omega arith

-- bytes are read from their digits
pub unhex_hex : (x : Bytes) → T (list_all (λ b. nat_lt b 256) x) → unhex (hex x) ≡ x
unhex_hex [] h = refl
unhex_hex (b ∷ x) h =
    let s = is_true _ (first (nat_lt b 256) _ h) in
    let l : b < 256 = grind (arith, nat_tests) in
    let u = digit_law (b / 16) (omega arith) in
    let v = digit_law (b % 16) (omega arith) in
    let w : 16 * digit_value (hex_digit (b / 16)) + digit_value (hex_digit (b % 16)) ≡ b = omega arith in
    let rest = unhex_hex x (second (nat_lt b 256) _ h) in
    λ i. w i ∷ rest i

-- ---- lines

-- with the word written out, what is dropped before the cut is gone
line_cut : (x r : Bytes) → T (is_line x) → sides_at 10 (x ++ (10 ∷ r)) ≡ (x, r)
line_cut x r h = cut_law 10 x r h

author_law : (x r : Bytes) → T (is_line x) → field 7 (line (codes "author") x ++ r) ≡ (x, r)
author_law x r h = ap (field 7) (line_flat (codes "author") x r) ∙ line_cut x r h

committer_law : (x r : Bytes) → T (is_line x) → field 10 (line (codes "committer") x ++ r) ≡ (x, r)
committer_law x r h = ap (field 10) (line_flat (codes "committer") x r) ∙ line_cut x r h

tagger_law : (o : Option Bytes) (m : Bytes) → T (is_optional_line o) → optional_in 6 (optional_line (codes "tagger") o ++ (10 ∷ m)) ≡ (o, m)
tagger_law None m h = refl
tagger_law (Some x) m h = ap (optional_in 6) (line_flat (codes "tagger") x (10 ∷ m)) ∙ ap (λ (q : Bytes × Bytes). let p : Option Bytes × Bytes = (Some q.0, drop 1 q.1) in p) (line_cut x (10 ∷ m) h)

text_law : (t : CommitText) → T (is_proper_text t) → text_in (text_lines t) ≡ t
text_law t f =
    let g = text_lines_of t f in
    let a = ap (field 7) (text_flat t) ∙ author_law t.author _ g.author in
    let c = ap (λ (q : Bytes × Bytes). field 10 q.1) a ∙ committer_law t.committer _ g.committer in
    let o = ap (λ (q : Bytes × Bytes). headers_in q.1) c ∙ headers_cut t.headers t.message g.headers in
    λ i. record { author = (a i).0; committer = (c i).0; headers = (o i).0; message = (o i).1 }

abbrev parent_lines_of : List Bytes → Bytes
parent_lines_of ns = flat_map (λ n. line (codes "parent") (hex n)) ns

parents_law : (n : ℕ) (ns : List Bytes) (t : CommitText) → T (list_all is_name ns) → length ns ≤ n → parents_in_to n (parent_lines_of ns ++ text_lines t) ≡ (ns, text_lines t)
parents_law zero [] t h l = refl
parents_law (suc n) [] t h l = refl
parents_law zero (x ∷ ns) t h l = absurd (omega arith)
parents_law (suc n) (x ∷ ns) t h l =
    let r = parent_lines_of ns ++ text_lines t in
    let flat = append_assoc (line (codes "parent") (hex x)) (parent_lines_of ns) (text_lines t) ∙ line_flat (codes "parent") (hex x) r in
    let k = line_cut (hex x) r (hex_line x) in
    let rest = parents_law n ns t (second (is_name x) _ h) (omega arith) in
    ap (parents_in_to (suc n)) flat
    ∙ ap (λ (q : Bytes × Bytes). let p : List Bytes × Bytes = (unhex q.0 ∷ (parents_in_to n q.1).0, (parents_in_to n q.1).1) in p) k
    ∙ (λ i. (unhex_hex x (bytes_name x (first _ _ h)) i ∷ (rest i).0, (rest i).1))

lines_long : (ns : List Bytes) (s : Bytes) → length ns ≤ length (parent_lines_of ns ++ s)
lines_long [] s = omega arith
lines_long (n ∷ ns) s =
    let rest = lines_long ns s in
    let a = append_assoc (line (codes "parent") (hex n)) (parent_lines_of ns) s in
    let b = ap length a in
    let c = length-append (line (codes "parent") (hex n)) (parent_lines_of ns ++ s) in
    let d : 1 ≤ length (line (codes "parent") (hex n)) = omega arith in
    omega arith

-- the parts of a commit's body are read from it
pub commit_read : (p : CommitParts) (body : Bytes) → IsCommitText p body → commit_parts_in body ≡ p
commit_read p body h =
    let flat = append_assoc (line (codes "tree") (hex p.tree)) (parent_lines_of p.parents) (text_lines p.text) ∙ line_flat (codes "tree") (hex p.tree) (parent_lines_of p.parents ++ text_lines p.text) in
    let t : field 5 (commit_text p) ≡ (hex p.tree, parent_lines_of p.parents ++ text_lines p.text) = ap (field 5) flat ∙ line_cut (hex p.tree) _ (hex_line p.tree) in
    let s = parent_lines_of p.parents ++ text_lines p.text in
    let q = ap (λ (q : Bytes × Bytes). parents_in_to (length q.1) q.1) t ∙ parents_law (length s) p.parents p.text (passes _ h.2) (lines_long p.parents (text_lines p.text)) in
    let u = ap (λ (q : List Bytes × Bytes). text_in q.1) q ∙ text_law p.text (passes _ h.3) in
    let n = ap (λ (q : Bytes × Bytes). unhex q.0) t ∙ unhex_hex p.tree (bytes_name p.tree (passes _ h.1)) in
    ap commit_parts_in h.0 ∙ (λ i. record { tree = n i; parents = (q i).0; text = u i })

-- a tag's body, grouped to the right
pub tag_text_flat : (p : TagParts) → tag_text p ≡ line (codes "object") (hex p.object) ++ (line (codes "type") (codes "commit") ++ (line (codes "tag") p.name ++ (optional_line (codes "tagger") p.tagger ++ (10 ∷ p.message))))
tag_text_flat p =
    append_assoc (line (codes "object") (hex p.object) ++ line (codes "type") (codes "commit") ++ line (codes "tag") p.name) (optional_line (codes "tagger") p.tagger) (10 ∷ p.message)
    ∙ append_assoc (line (codes "object") (hex p.object) ++ line (codes "type") (codes "commit")) (line (codes "tag") p.name) (optional_line (codes "tagger") p.tagger ++ (10 ∷ p.message))
    ∙ append_assoc (line (codes "object") (hex p.object)) (line (codes "type") (codes "commit")) (line (codes "tag") p.name ++ (optional_line (codes "tagger") p.tagger ++ (10 ∷ p.message)))

-- the parts of a tag's body are read from it
pub tag_read : (p : TagParts) (body : Bytes) → IsTagText p body → tag_parts_in body ≡ p
tag_read p body h =
    let r2 = line (codes "tag") p.name ++ (optional_line (codes "tagger") p.tagger ++ (10 ∷ p.message)) in
    let r1 = line (codes "type") (codes "commit") ++ r2 in
    let o : field 7 (tag_text p) ≡ (hex p.object, r1) = ap (field 7) (tag_text_flat p ∙ line_flat (codes "object") (hex p.object) r1) ∙ line_cut (hex p.object) r1 (hex_line p.object) in
    let k : field 5 r1 ≡ (codes "commit", r2) = ap (field 5) (line_flat (codes "type") (codes "commit") r2) ∙ line_cut (codes "commit") r2 tt in
    let y = ap (λ (q : Bytes × Bytes). field 5 q.1) o ∙ k in
    let m = optional_line (codes "tagger") p.tagger ++ (10 ∷ p.message) in
    let n = ap (λ (q : Bytes × Bytes). field 4 q.1) y ∙ ap (field 4) (line_flat (codes "tag") p.name m) ∙ line_cut p.name m (tag_line p.name (passes _ h.2)) in
    let t = ap (λ (q : Bytes × Bytes). optional_in 6 q.1) n ∙ tagger_law p.tagger p.message (optional_ident_line p.tagger (passes _ h.3)) in
    let x = ap (λ (q : Bytes × Bytes). unhex q.0) o ∙ unhex_hex p.object (bytes_name p.object (passes _ h.1)) in
    ap tag_parts_in h.0 ∙ (λ i. record { object = x i; name = (n i).0; tagger = (t i).0; message = (t i).1 })
