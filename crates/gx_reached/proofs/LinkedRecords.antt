-- What a record of a sound repository names: it stands before, and it is a blob where it is to be one.
use Rattle.std.proofs.Common.{append-nil, ◌≡◌, ℕ, suc, ◌<◌, Bool, true, false, cond, refl, sym, ap, subst, ◌∙◌, arith, List, [], ◌∷◌, ◌++◌, append_assoc, length, map, Option, Some, None, inl, inr}
use Rattle.std.specs.Prelude.{◌+◌, nat_lt, not, IfSome}
use Rattle.std.proofs.lemmas.Bool.Decides.{nat_tests}
use Rattle.std.specs.List.{AllByRecursion, cons_option, filter_map, position, position_or_len}
use Rattle.std.specs.Option.{option_map}
use Rattle.gx_model.specs.declared.objects.Kind.{Kind}
use Rattle.gx_model.specs.declared.objects.Kind.TheVariants as kind
use Rattle.gx_model.specs.declared.objects.Mode.{Mode}
use Rattle.gx_model.specs.declared.objects.Mode.TheVariants.{File, Exec, Link, Gitlink, Dir}
use Rattle.gx_model.specs.Texts.{Bytes, same_bytes}
use Rattle.gx_model.specs.Histories.{Record}
use Rattle.gx_model.specs.Objects.{CommitParts, Entry, TagParts, is_dir}
use Rattle.gx_model.specs.Pruning.{link_of, links_of}
use Rattle.gx_model.specs.Records.Growth.{record_named}
use Rattle.gx_model.specs.Records.HistoryOf.{commit_parts_in, entries_in}
use Rattle.gx_model.specs.Records.Sound.{AnyByRecursion, Holds, IsHeldAs, IsLinked, IsLinkedAfter}
use Rattle.gx_model.proofs.ObjectTexts.BodiesReadBack.{commit_read, entries_read, tag_read}
use Rattle.gx_model.proofs.Texts.PathTests.{is_same, is_true}
use Rattle.gx_store.specs.Stores.{place_named}
use Rattle.gx_reached.specs.Links.{Link as Named, entry_link, links_in, no_blob}

-- ---- the names alone

entries_named : (es : List Entry) → map (λ l. l.0) (filter_map entry_link es) ≡ filter_map link_of es
entries_named [] = refl
entries_named (e ∷ es) = by (link_of e) (entries_named es)
  where
    by : (o : Option Bytes) → map (λ l. l.0) (filter_map entry_link es) ≡ filter_map link_of es
        → map (λ l. l.0) (cons_option (option_map (λ called. (called, not (is_dir e.mode))) o) (filter_map entry_link es)) ≡ cons_option o (filter_map link_of es)
    by None h = h
    by (Some n) h = ap (λ ns. n ∷ ns) h

all_named : (ns : List Bytes) → map (λ l. l.0) (map no_blob ns) ≡ ns
all_named [] = refl
all_named (n ∷ ns) = ap (λ ms. n ∷ ms) (all_named ns)

pub links_named : (k : Kind) (body : Bytes) → map (λ l. l.0) (links_in k body) ≡ links_of k body
links_named kind.Blob body = refl
links_named kind.Tree body = entries_named (entries_in body)
links_named kind.Commit body = ap (λ ns. (commit_parts_in body).tree ∷ ns) (all_named (commit_parts_in body).parents)
links_named kind.Tag body = refl

-- ---- where it stands

-- a record that has the name of a link, and is a blob where it is to be one
pub record IsLinkedTo (link : Named) (held : Record) : Type 0 where
  pub named : held.name ≡ link.0
  pub blob : link.1 ≡ true → held.kind ≡ kind.Blob

any_more : {X : Type 0} (P Q : X → Type 0) → ((x : X) → P x → Q x) → (xs : List X) → AnyByRecursion P xs → AnyByRecursion Q xs
any_more P Q f [] h = h
any_more P Q f (x ∷ xs) h = elim h [ inl p ↦ inl (f x p) | inr q ↦ inr (any_more P Q f xs q) ]

module _ (rs : List Record) where
  abbrev IsThere : Named → Type 0
  IsThere link = AnyByRecursion (IsLinkedTo link) rs

  no_blob_there : (k : Kind) (n : Bytes) → Holds rs k n → IsThere (no_blob n)
  no_blob_there k n h = any_more _ (IsLinkedTo (no_blob n)) (λ r p. record { named = p.1; blob = λ e. absurd cc }) rs h

  blob_there : (n : Bytes) (b : Bool) → Holds rs kind.Blob n → IsThere (n, b)
  blob_there n b h = any_more _ (IsLinkedTo (n, b)) (λ r p. record { named = p.1; blob = λ e. p.0 }) rs h

  entry_there : (m : Mode) (component n : Bytes) → IsHeldAs rs m n → IfSome (entry_link (record { mode = m; component = component; name = n })) IsThere
  entry_there File component n h = blob_there n true h
  entry_there Exec component n h = blob_there n true h
  entry_there Link component n h = blob_there n true h
  entry_there Gitlink component n h = tt
  entry_there Dir component n h = any_more _ (IsLinkedTo (n, false)) (λ r p. record { named = p.1; blob = λ e. absurd cc }) rs h

  entries_there : (es : List Entry) → AllByRecursion (λ e. IsHeldAs rs e.mode e.name) es → AllByRecursion IsThere (filter_map entry_link es)
  entries_there [] h = tt
  entries_there (e ∷ es) h = by (entry_link e) (entry_there e.mode e.component e.name h.0) (entries_there es h.1)
    where
      by : (o : Option Named) → IfSome o IsThere → AllByRecursion IsThere (filter_map entry_link es) → AllByRecursion IsThere (cons_option o (filter_map entry_link es))
      by None p r = r
      by (Some l) p r = (p, r)

  parents_there : (ns : List Bytes) → AllByRecursion (Holds rs kind.Commit) ns → AllByRecursion IsThere (map no_blob ns)
  parents_there [] h = tt
  parents_there (n ∷ ns) h = (no_blob_there kind.Commit n h.0, parents_there ns h.1)

  pub links_there : (k : Kind) (body : Bytes) → IsLinked rs k body → AllByRecursion IsThere (links_in k body)
  links_there kind.Blob body h = tt
  links_there kind.Tree body (es, t, h) = subst (λ xs. AllByRecursion IsThere (filter_map entry_link xs)) (sym (entries_read es body t)) (entries_there es h)
  links_there kind.Commit body (p, t, h, hs) =
      subst (λ (q : CommitParts). AllByRecursion IsThere (no_blob q.tree ∷ map no_blob q.parents)) (sym (commit_read p body t)) (no_blob_there kind.Tree p.tree h, parents_there p.parents hs)
  links_there kind.Tag body (p, t, h) = subst (λ (q : TagParts). AllByRecursion IsThere (no_blob q.object ∷ [])) (sym (tag_read p body t)) (no_blob_there kind.Commit p.object h, tt)

-- ---- the place of a name

-- the first that passes stands first, or where it stands among the others
position_step : {X : Type 0} (test : X → Bool) (x : X) (xs : List X) → position test (x ∷ xs) ≡ cond (test x) (Some 0) (option_map suc (position test xs))
position_step test x xs = by (test x)
  where
    k : ℕ
    k = position_or_len test xs

    apart : (b c : Bool) → c ≡ b → cond c (Some (1 + k)) None ≡ option_map suc (cond b (Some k) None)
    apart true c e = ap (λ b. cond b (Some (1 + k)) None) e ∙ (let next : 1 + k ≡ suc k = omega arith in ap Some next)
    apart false c e = ap (λ b. cond b (Some (1 + k)) None) e

    by : (b : Bool) → cond (nat_lt (cond (not b) (1 + k) 0) (suc (length xs))) (Some (cond (not b) (1 + k) 0)) None ≡ cond b (Some 0) (option_map suc (position test xs))
    by true = ap (λ b. cond b (Some 0) None) (let l : nat_lt 0 (suc (length xs)) ≡ true = grind (arith, nat_tests) in l)
    by false = apart (nat_lt k (length xs)) (nat_lt (1 + k) (suc (length xs))) (grind (arith, nat_tests))

-- The record of a name, between those before it and those behind it.
pub record IsSplitAt (rs : List Record) (n : Bytes) (held : Record) : Type 0 where
  pub before : List Record
  pub behind : List Record
  pub whole : rs ≡ before ++ held ∷ behind
  pub place : place_named rs n ≡ Some (length before)

pub split_at : (rs : List Record) (n : Bytes) (held : Record) → record_named rs n ≡ Some held → IsSplitAt rs n held
split_at [] n held e = absurd cc
split_at (r ∷ rs) n held e = by (same_bytes n r.name) refl e (split_at rs n held)
  where
    by : (b : Bool) → same_bytes n r.name ≡ b → cond b (Some r) (record_named rs n) ≡ Some held → (record_named rs n ≡ Some held → IsSplitAt rs n held) → IsSplitAt (r ∷ rs) n held
    by true k i again =
        let s : r ≡ held = cc i in
        record { before = []; behind = rs; whole = ap (λ x. x ∷ rs) s; place = position_step (λ held. same_bytes n held.name) r rs ∙ ap (λ b. cond b (Some 0) (option_map suc (place_named rs n))) k }
    by false k i again =
        let s = again i in
        record { before = r ∷ s.before; behind = s.behind; whole = ap (λ xs. r ∷ xs) s.whole; place = position_step (λ held. same_bytes n held.name) r rs ∙ ap (λ b. cond b (Some 0) (option_map suc (place_named rs n))) k ∙ ap (option_map suc) s.place }

pub linked_at : (before xs : List Record) (held : Record) (ys : List Record) → IsLinkedAfter before (xs ++ held ∷ ys) → IsLinked (before ++ xs) held.kind held.body
linked_at before [] held ys h = subst (λ z. IsLinked z held.kind held.body) (sym (append-nil before)) h.0
linked_at before (x ∷ xs) held ys h = subst (λ z. IsLinked z held.kind held.body) (append_assoc before (x ∷ []) xs) (linked_at (before ++ x ∷ []) xs held ys h.1)

-- The first record of a name among the first ones, and where it stands among all.
pub record IsEarlier (xs ys : List Record) (link : Named) : Type 0 where
  pub number : ℕ
  pub place : place_named (xs ++ ys) link.0 ≡ Some number
  pub low : number < length xs

pub earlier : (xs ys : List Record) (link : Named) → AnyByRecursion (IsLinkedTo link) xs → IsEarlier xs ys link
earlier [] ys link h = absurd h
earlier (x ∷ xs) ys link h = by (earlier xs ys link) (same_bytes link.0 x.name) refl
  where
    by : (AnyByRecursion (IsLinkedTo link) xs → IsEarlier xs ys link) → (b : Bool) → same_bytes link.0 x.name ≡ b → IsEarlier (x ∷ xs) ys link
    by again true k = record {
      number = 0;
      place = position_step (λ held. same_bytes link.0 held.name) x (xs ++ ys) ∙ ap (λ b. cond b (Some 0) (option_map suc (place_named (xs ++ ys) link.0))) k;
      low = omega arith;
    }
    by again false k = elim h [
      | inl p ↦ absurd (let e = sym k ∙ is_true _ (is_same link.0 x.name (sym p.named)) in cc e)
      | inr q ↦
          let s = again q in
          record {
            number = suc s.number;
            place = position_step (λ held. same_bytes link.0 held.name) x (xs ++ ys) ∙ ap (λ b. cond b (Some 0) (option_map suc (place_named (xs ++ ys) link.0))) k ∙ ap (option_map suc) s.place;
            low = (let l = s.low in omega arith);
          }
    ]
