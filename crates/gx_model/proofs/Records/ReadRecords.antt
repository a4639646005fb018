-- A record that links to records of values is read as a value.
use Rattle.std.proofs.Common.{◌≤◌, ◌≡◌, ℕ, true, false, refl, sym, ap, subst, ◌∙◌, arith, List, [], ◌∷◌, ◌++◌, length, map, inl, inr, eq-eqb, ◌*◌, ◌/◌, ◌%◌, ◌<◌}
use Rattle.std.specs.Prelude.{T, ◌&&◌, ◌||◌, ◌≢◌, nat_lt, nat_le}
use Rattle.std.specs.List.{list_all, AllByRecursion}
use Rattle.std.specs.Option.{option_map}
use Rattle.std.specs.Bool.{passes}
use Rattle.std.specs.Ordering.{is_lt}
use Rattle.std.specs.FinMap.Entries.{is_sorted, below_all}
use Rattle.std.proofs.lemmas.Bool.Decides.{nat_tests}
use Rattle.gx_model.specs.declared.objects.Kind.{Kind}
use Rattle.gx_model.specs.declared.objects.Kind.TheVariants as kind
use Rattle.gx_model.specs.declared.objects.Mode.{Mode}
use Rattle.gx_model.specs.declared.objects.Mode.TheVariants.{File, Exec, Link, Gitlink, Dir}
use Rattle.gx_model.specs.Texts.{Bytes}
use Rattle.gx_model.specs.Texts.Paths.{Path, path_cmp, is_component, is_short, is_file_path}
use Rattle.gx_model.specs.Histories.Files.{FileMap, Leaf, are_file_paths, is_file_map}
use Rattle.gx_model.specs.Histories.Values.{blobs_of, sub_maps, commits_of, list_of, Value, blob_value, tree_value, commit_value, tag_value, parts, is_proper, is_content, is_optional_ident}
use Rattle.gx_model.specs.Texts.Digits.{is_lower_digit, is_name_text}
use Rattle.gx_model.specs.Texts.RefNames.{is_tag_name}
use Rattle.gx_model.specs.Objects.{IsNamer, Entry, is_name, IsTreeText, commit_text, tag_text, hex, hex_digit}
use Rattle.gx_model.specs.Records.{node, named_map, tree_body, tree_name, kind_of, body_of, name_of, commit_body, names_of}
use Rattle.gx_model.specs.Histories.{Record, AreDistinct, IsIn, record_of}
use Rattle.gx_model.specs.Histories.{IsWhole}
use Rattle.gx_model.specs.Records.Sound.{AnyByRecursion, Holds, IsHeldAs, IsTree, IsCommit, IsTag, IsLinked, HasPath, here, below}
use Rattle.gx_model.specs.Records.HistoryOf.{value_named, bytes_of_blob, files_of_tree, commit_of_value, entries_in, commit_parts_in, tag_parts_in, placed, files_at, files_of_entries, commit_of_parts, tag_of_parts, value_in}
use Rattle.gx_model.proofs.Texts.PathTests.{both, first, second, is_true}
use Rattle.gx_model.proofs.Texts.HexDigits.{digit_is}
use Rattle.gx_model.proofs.Histories.PathOrder.{node_key}
use Rattle.gx_model.proofs.ObjectTexts.OneTree.{leaf_named, all_left}
use Rattle.gx_model.proofs.Histories.SubMaps.{cmp_below}
use Rattle.gx_model.proofs.ObjectTexts.BodiesReadBack.{entries_read, commit_read, tag_read, unhex_hex, bytes_name, long_name, components_all}
use Rattle.gx_model.proofs.ObjectTexts.RebuiltValues.{Reads, rebuilt, has_some}
use Rattle.gx_model.proofs.Records.LinkedValues.{proper_in, parts_in, named, is_blob, is_tree, is_commit, found}
use Rattle.gx_model.proofs.ObjectTexts.TreePaths.{text_of_tree, has_path, each_path, content_parts, none_at_root, entries_of}

-- ---- digits

hex_digits : (n : Bytes) → T (list_all (λ b. nat_lt b 256) n) → T (list_all is_lower_digit (hex n))
hex_digits [] h = tt
hex_digits (b ∷ x) h =
    let s = is_true _ (first (nat_lt b 256) _ h) in
    let l : b < 256 = grind (arith, nat_tests) in
    both _ _ (digit (b / 16) (omega arith)) (both _ _ (digit (b % 16) (omega arith)) (hex_digits x (second (nat_lt b 256) _ h)))
  where
    low : (d : ℕ) → 48 ≤ d → d ≤ 57 → T (is_lower_digit d)
    low d a b = let p : nat_le 48 d ≡ true = grind (arith, nat_tests) in let q : nat_le d 57 ≡ true = grind (arith, nat_tests) in subst T (sym (λ i. (p i && q i) || (nat_le 97 d && nat_le d 102))) tt

    high : (d : ℕ) → 97 ≤ d → d ≤ 102 → T (is_lower_digit d)
    high d a b = let p : nat_le 97 d ≡ true = grind (arith, nat_tests) in let q : nat_le d 102 ≡ true = grind (arith, nat_tests) in let r : nat_le d 57 ≡ false = grind (arith, nat_tests) in let s : nat_le 48 d ≡ true = grind (arith, nat_tests) in subst T (sym (λ i. (s i && r i) || (p i && q i))) tt

    digit : (n : ℕ) → n < 16 → T (is_lower_digit (hex_digit n))
    digit n k = elim (digit_is n k).1 [ inl a ↦ low (hex_digit n) (omega arith) (omega arith) | inr a ↦ high (hex_digit n) (omega arith) (omega arith) ]

-- there are two digits a byte
pub hex_long : (n : Bytes) → length (hex n) ≡ 2 * length n
hex_long [] = refl
hex_long (b ∷ x) = let r = hex_long x in omega arith

-- a name's digits are 40
pub hex_text : (n : Bytes) → T (is_name n) → T (is_name_text (hex n))
hex_text n h = let l = long_name n h in let m = hex_long n in both _ _ (passes _ (eq-eqb (length (hex n)) 40 (omega arith))) (hex_digits n (bytes_name n h))

-- ---- a directory's files

below_placed : (c : Bytes) (d : Bytes) (p : Path) (f : FileMap Bytes) → T (are_file_paths f) → T (below_all path_cmp (d ∷ p) f) → T (below_all path_cmp (c ∷ d ∷ p) (placed c f))
below_placed c d p [] h b = tt
below_placed c d p (e ∷ es) h b = both _ _ (by e.0 (first _ _ h) (first _ _ b)) (below_placed c d p es (second (is_file_path e.0) (are_file_paths es) h) (second (is_lt (path_cmp (d ∷ p) e.0)) (below_all path_cmp (d ∷ p) es) b))
  where
    by : (q : Path) → T (is_file_path q) → T (is_lt (path_cmp (d ∷ p) q)) → T (is_lt (path_cmp (c ∷ d ∷ p) (c ∷ q)))
    by [] k l = absurd k
    by (a ∷ q) k l = subst (λ o. T (is_lt o)) (sym (cmp_below c d p a q)) l

sorted_placed : (c : Bytes) (f : FileMap Bytes) → T (are_file_paths f) → T (is_sorted path_cmp f) → T (is_sorted path_cmp (placed c f))
sorted_placed c [] h s = tt
sorted_placed c (e ∷ es) h s = both _ _ (by e.0 (first _ _ h) (first _ _ s)) (sorted_placed c es (second (is_file_path e.0) (are_file_paths es) h) (second (below_all path_cmp e.0 es) (is_sorted path_cmp es) s))
  where
    by : (q : Path) → T (is_file_path q) → T (below_all path_cmp q es) → T (below_all path_cmp (c ∷ q) (placed c es))
    by [] k l = absurd k
    by (a ∷ q) k l = below_placed c a q es (second (is_file_path e.0) (are_file_paths es) h) l

paths_placed : (c : Bytes) (f : FileMap Bytes) → T (is_component c) → T (are_file_paths f) → T (list_all (λ e. is_short (c ∷ e.0)) f) → T (are_file_paths (placed c f))
paths_placed c [] k h s = tt
paths_placed c (e ∷ es) k h s = both _ _ (by e.0 (first _ _ h) (first _ _ s)) (paths_placed c es k (second (is_file_path e.0) (are_file_paths es) h) (second (is_short (c ∷ e.0)) _ s))
  where
    by : (q : Path) → T (is_file_path q) → T (is_short (c ∷ q)) → T (is_file_path (c ∷ q))
    by [] m l = absurd m
    by (a ∷ q) m l = both _ _ (both _ _ k (first _ _ m)) l

dir_keys : (c : Bytes) (f : FileMap Bytes) → T (are_file_paths f) → AllByRecursion (λ q. node_key (c ∷ q.0) ≡ c ++ 47 ∷ []) f
dir_keys c [] h = tt
dir_keys c (e ∷ es) h = (by e.0 (first _ _ h), dir_keys c es (second (is_file_path e.0) (are_file_paths es) h))
  where
    by : (q : Path) → T (is_file_path q) → node_key (c ∷ q) ≡ c ++ 47 ∷ []
    by [] k = absurd k
    by (a ∷ q) k = refl

module _ (name : Kind → Bytes → Bytes) (namer : IsNamer name) (vs : List Value) (whole : IsWhole vs) (distinct : AreDistinct (map (name_of name) vs)) where
  abbrev g : Entry → FileMap Bytes
  g e = files_at (named name vs) e.mode e.name

  some_files : (f : FileMap Bytes) → tree_body name (named_map name f) ≢ [] → T (has_some f)
  some_files [] h = absurd (h refl)
  some_files (e ∷ es) h = tt

  -- a held entry is read
  entry_reads : (e : Entry) → T (is_component e.component) → T (is_name e.name) → IsHeldAs (map (record_of name) vs) e.mode e.name → T (list_all (λ q. is_short (e.component ∷ q.0)) (g e)) → Reads g name namer (IsIn vs) e
  entry_reads e k nm h s = by e.mode e.component e.name k nm h s
    where
      by : (m : Mode) (c n : Bytes) → T (is_component c) → T (is_name n) → IsHeldAs (map (record_of name) vs) m n → T (list_all (λ q. is_short (c ∷ q.0)) (files_at (named name vs) m n)) → Reads g name namer (IsIn vs) (record { mode = m; component = c; name = n })
      by File c n k nm h s =
          let r = found name namer (λ r. (r.kind ≡ kind.Blob) × (r.name ≡ n)) n (λ r q. q.1) vs distinct h in
          let v = value_named (named name vs) n in
          let e : v ≡ blob_value (bytes_of_blob v) = is_blob name v r.1.0 in
          record {
            fits = record { some = tt; component = k; keys = (refl, tt); paths = both _ _ (both _ _ (both (is_component c) true k tt) (first _ _ s)) tt; apart = tt; sorted = tt };
            told = λ i. (File, (ap (name_of name) (sym e) ∙ r.1.1) i);
            blobs = (subst (IsIn vs) e r.0, tt);
            leaves = tt;
            dir = λ i. absurd (cc);
          }
      by Exec c n k nm h s =
          let r = found name namer (λ r. (r.kind ≡ kind.Blob) × (r.name ≡ n)) n (λ r q. q.1) vs distinct h in
          let v = value_named (named name vs) n in
          let e : v ≡ blob_value (bytes_of_blob v) = is_blob name v r.1.0 in
          record {
            fits = record { some = tt; component = k; keys = (refl, tt); paths = both _ _ (both _ _ (both (is_component c) true k tt) (first _ _ s)) tt; apart = tt; sorted = tt };
            told = λ i. (Exec, (ap (name_of name) (sym e) ∙ r.1.1) i);
            blobs = (subst (IsIn vs) e r.0, tt);
            leaves = tt;
            dir = λ i. absurd (cc);
          }
      by Link c n k nm h s =
          let r = found name namer (λ r. (r.kind ≡ kind.Blob) × (r.name ≡ n)) n (λ r q. q.1) vs distinct h in
          let v = value_named (named name vs) n in
          let e : v ≡ blob_value (bytes_of_blob v) = is_blob name v r.1.0 in
          record {
            fits = record { some = tt; component = k; keys = (refl, tt); paths = both _ _ (both _ _ (both (is_component c) true k tt) (first _ _ s)) tt; apart = tt; sorted = tt };
            told = λ i. (Link, (ap (name_of name) (sym e) ∙ r.1.1) i);
            blobs = (subst (IsIn vs) e r.0, tt);
            leaves = tt;
            dir = λ i. absurd (cc);
          }
      by Gitlink c n k nm h s = record {
        fits = record { some = tt; component = k; keys = (refl, tt); paths = both _ _ (both _ _ (both (is_component c) true k tt) (first _ _ s)) tt; apart = tt; sorted = tt };
        told = λ i. (Gitlink, unhex_hex n (bytes_name n nm) i);
        blobs = tt;
        leaves = both _ _ (hex_text n nm) tt;
        dir = λ i. absurd (cc);
      }
      by Dir c n k nm h s =
          let r = found name namer (λ r. (r.kind ≡ kind.Tree) × (r.name ≡ n) × (r.body ≢ [])) n (λ r q. q.1) vs distinct h in
          let v = value_named (named name vs) n in
          let f = files_of_tree v in
          let e : v ≡ tree_value f = is_tree name v r.1.0 in
          let i : IsIn vs (tree_value f) = subst (IsIn vs) e r.0 in
          let t : T (is_content f) = proper_in vs (tree_value f) (passes _ whole.proper) i in
          let p = content_parts f t in
          record {
            fits = record {
              some = some_files f (λ z. r.1.2 (ap (body_of name) e ∙ z));
              component = k;
              keys = dir_keys c f p.paths;
              paths = paths_placed c f k p.paths s;
              apart = p.apart;
              sorted = sorted_placed c f p.paths p.sorted;
            };
            told = (λ j. node name (option_map (leaf_named name namer) (none_at_root f p.paths j)) (tree_name name f)) ∙ (λ j. (Dir, (ap (name_of name) (sym e) ∙ r.1.1) j));
            blobs = all_left (IsIn vs) (blobs_of f) (map tree_value (sub_maps f)) (parts_in vs (tree_value f) whole i);
            leaves = second (is_file_map f) _ t;
            dir = λ j. i;
          }

  module _ (all : List Record) (kept : (P : Record → Type 0) (v : Value) → IsIn vs v → P (record_of name v) → AnyByRecursion P all) where
    -- no path below a held entry is too long
    pub entry_short : (es : List Entry) → ((p : Path) → HasPath all es p → T (is_short p)) → (e : Entry) → AnyByRecursion (λ x. x ≡ e) es → IsHeldAs (map (record_of name) vs) e.mode e.name → T (list_all (λ q. is_short (e.component ∷ q.0)) (g e))
    entry_short es short e s h = by e.mode refl h
      where
        leaf : (x : Leaf Bytes) → (e.mode ≡ Dir → ⊥) → T (is_short (e.component ∷ []) && true)
        leaf x n = both _ _ (short (e.component ∷ []) (here e s n)) tt

        by : (m : Mode) → e.mode ≡ m → IsHeldAs (map (record_of name) vs) m e.name → T (list_all (λ q. is_short (e.component ∷ q.0)) (files_at (named name vs) m e.name))
        by File i k = both _ _ (short (e.component ∷ []) (here e s (λ d. let l : File ≡ Dir = sym i ∙ d in (cc)))) tt
        by Exec i k = both _ _ (short (e.component ∷ []) (here e s (λ d. let l : Exec ≡ Dir = sym i ∙ d in (cc)))) tt
        by Link i k = both _ _ (short (e.component ∷ []) (here e s (λ d. let l : Link ≡ Dir = sym i ∙ d in (cc)))) tt
        by Gitlink i k = both _ _ (short (e.component ∷ []) (here e s (λ d. let l : Gitlink ≡ Dir = sym i ∙ d in (cc)))) tt
        by Dir i k =
            let r = found name namer (λ r. (r.kind ≡ kind.Tree) × (r.name ≡ e.name) × (r.body ≢ [])) e.name (λ r q. q.1) vs distinct k in
            let v = value_named (named name vs) e.name in
            let f = files_of_tree v in
            let j : v ≡ tree_value f = is_tree name v r.1.0 in
            let u : IsIn vs (tree_value f) = subst (IsIn vs) j r.0 in
            each_path (λ p. is_short (e.component ∷ p)) f
            (λ p o. short (e.component ∷ p)
            (below e (entries_of name namer f) s i
            (kept (λ r. (r.kind ≡ kind.Tree) × (r.name ≡ e.name) × IsTreeText (entries_of name namer f) r.body) (tree_value f) u (refl, ap (name_of name) (sym j) ∙ r.1.1, text_of_tree name namer f (proper_in vs (tree_value f) (passes _ whole.proper) u)))
            (has_path name namer vs whole distinct all kept p f u o)))

    all_read : (es fs : List Entry) → ((e : Entry) → AnyByRecursion (λ x. x ≡ e) fs → AnyByRecursion (λ x. x ≡ e) es) → ((p : Path) → HasPath all es p → T (is_short p)) → T (list_all (λ e. is_component e.component) fs) → T (list_all (λ e. is_name e.name) fs)
        → AllByRecursion (λ e. IsHeldAs (map (record_of name) vs) e.mode e.name) fs → AllByRecursion (Reads g name namer (IsIn vs)) fs
    all_read es [] i short c n h = tt
    all_read es (e ∷ fs) i short c n h = (
      entry_reads e (first _ _ c) (first _ _ n) h.0 (entry_short es short e (i e (inl refl)) h.0),
      all_read es fs (λ x s. i x (inr s)) short (second (is_component e.component) _ c) (second (is_name e.name) _ n) h.1,
    )

    -- the value of a record's kind and body
    pub record IsRead (k : Kind) (body : Bytes) (v : Value) : Type 0 where
      pub same_kind : kind_of name v ≡ k
      pub same_body : body_of name v ≡ body
      pub proper : T (is_proper v)
      pub known : AllByRecursion (IsIn vs) (parts v)

    tree_is_read : (body : Bytes) → IsTree (map (record_of name) vs) body → ((es : List Entry) (p : Path) → IsTreeText es body → HasPath all es p → T (is_short p)) → IsRead kind.Tree body (value_in (named name vs) kind.Tree body)
    tree_is_read body h short =
        let es = h.0 in
        let r = entries_read es body h.1 in
        let b = rebuilt g name namer (IsIn vs) es (all_read es es (λ e s. s) (λ p q. short es p h.1 q) (components_all es (passes _ h.1.1)) (passes _ h.1.2) h.2) (passes _ h.1.1) in
        let f : tree_value (files_of_entries (named name vs) (entries_in body)) ≡ tree_value (files_of_entries (named name vs) es) = ap (λ z. tree_value (files_of_entries (named name vs) z)) r in
        subst (IsRead kind.Tree body) (sym f) (record { same_kind = refl; same_body = b.body ∙ sym h.1.0; proper = b.content; known = b.parts_known })

    commit_held : (n : Bytes) → Holds (map (record_of name) vs) kind.Commit n → IsIn vs (commit_value (commit_of_value (value_named (named name vs) n))) × (name kind.Commit (commit_body name (commit_of_value (value_named (named name vs) n))) ≡ n)
    commit_held n h =
        let r = found name namer (λ r. (r.kind ≡ kind.Commit) × (r.name ≡ n)) n (λ r q. q.1) vs distinct h in
        let v = value_named (named name vs) n in
        let e : v ≡ commit_value (commit_of_value v) = is_commit name v r.1.0 in
        (subst (IsIn vs) e r.0, ap (name_of name) (sym e) ∙ r.1.1)

    tree_held : (n : Bytes) → Holds (map (record_of name) vs) kind.Tree n → IsIn vs (tree_value (files_of_tree (value_named (named name vs) n))) × (tree_name name (files_of_tree (value_named (named name vs) n)) ≡ n)
    tree_held n h =
        let r = found name namer (λ r. (r.kind ≡ kind.Tree) × (r.name ≡ n)) n (λ r q. q.1) vs distinct h in
        let v = value_named (named name vs) n in
        let e : v ≡ tree_value (files_of_tree v) = is_tree name v r.1.0 in
        (subst (IsIn vs) e r.0, ap (name_of name) (sym e) ∙ r.1.1)

    commits_held : (ns : List Bytes) → AllByRecursion (Holds (map (record_of name) vs) kind.Commit) ns
        → AllByRecursion (IsIn vs) (map commit_value (list_of (commits_of (map (λ n. commit_of_value (value_named (named name vs) n)) ns)))) × (names_of name (commits_of (map (λ n. commit_of_value (value_named (named name vs) n)) ns)) ≡ ns)
    commits_held [] h = (tt, refl)
    commits_held (n ∷ ns) h =
        let r = commit_held n h.0 in
        let rest = commits_held ns h.1 in
        ((r.0, rest.0), λ i. r.1 i ∷ rest.1 i)

    commit_is_read : (body : Bytes) → IsCommit (map (record_of name) vs) body → IsRead kind.Commit body (value_in (named name vs) kind.Commit body)
    commit_is_read body h =
        let p = h.0 in
        let t = tree_held p.tree h.2 in
        let ps = commits_held p.parents h.3 in
        let e : commit_text (record { tree = tree_name name (files_of_tree (value_named (named name vs) p.tree)); parents = names_of name (commits_of (map (λ n. commit_of_value (value_named (named name vs) n)) p.parents)); text = p.text }) ≡ body =
        (λ i. commit_text (record { tree = t.1 i; parents = ps.1 i; text = p.text })) ∙ sym h.1.0 in
        let f : commit_value (commit_of_parts (named name vs) (commit_parts_in body)) ≡ commit_value (commit_of_parts (named name vs) p) = ap (λ z. commit_value (commit_of_parts (named name vs) z)) (commit_read p body h.1) in
        subst (IsRead kind.Commit body) (sym f) (record {
          same_kind = refl;
          same_body = e;
          proper = both _ _ (proper_in vs (tree_value (files_of_tree (value_named (named name vs) p.tree))) (passes _ whole.proper) t.0) (passes _ h.1.3);
          known = (t.0, ps.0);
        })

    tag_is_read : (body : Bytes) → IsTag (map (record_of name) vs) body → IsRead kind.Tag body (value_in (named name vs) kind.Tag body)
    tag_is_read body h =
        let p = h.0 in
        let c = commit_held p.object h.2 in
        let e : tag_text (record { object = name kind.Commit (commit_body name (commit_of_value (value_named (named name vs) p.object))); name = p.name; tagger = p.tagger; message = p.message }) ≡ body =
        (λ i. tag_text (record { object = c.1 i; name = p.name; tagger = p.tagger; message = p.message })) ∙ sym h.1.0 in
        let f : tag_value (tag_of_parts (named name vs) (tag_parts_in body)) ≡ tag_value (tag_of_parts (named name vs) p) = ap (λ z. tag_value (tag_of_parts (named name vs) z)) (tag_read p body h.1) in
        subst (IsRead kind.Tag body) (sym f) (record {
          same_kind = refl;
          same_body = e;
          proper = both (is_tag_name p.name) (is_optional_ident p.tagger) (passes _ h.1.2) (passes _ h.1.3);
          known = (c.0, tt);
        })

    -- a linked body is read as a proper value of known parts, whose body it is
    pub is_read : (k : Kind) (body : Bytes) → IsLinked (map (record_of name) vs) k body → ((es : List Entry) (p : Path) → k ≡ kind.Tree → IsTreeText es body → HasPath all es p → T (is_short p)) → IsRead k body (value_in (named name vs) k body)
    is_read kind.Blob body h short = record { same_kind = refl; same_body = refl; proper = tt; known = tt }
    is_read kind.Tree body h short = tree_is_read body h (λ es p t q. short es p refl t q)
    is_read kind.Commit body h short = commit_is_read body h
    is_read kind.Tag body h short = tag_is_read body h
