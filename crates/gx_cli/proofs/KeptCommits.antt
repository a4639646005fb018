-- The names of the commits that are kept of others, one after the other.
use Rattle.std.proofs.Common.{◌≡◌, ◌∙◌, ◌+◌, ◌<◌, ◌≤◌, ℕ, zero, suc, Bool, true, false, refl, sym, ap, subst, List, [], ◌∷◌, ◌++◌, append_assoc, append-nil, map, drop, length, get_or, arith}
use Rattle.std.specs.Prelude.{cond}
use Rattle.std.specs.List.{filter}
use Rattle.std.proofs.lemmas.List.{drop_all, map-append}
use Rattle.gx_model.specs.declared.objects.Kind.{Kind}
use Rattle.gx_model.specs.declared.objects.Kind.TheVariants as kinds
use Rattle.gx_model.specs.Histories.{Records}
use Rattle.gx_model.specs.Histories.Values.{Commit}
use Rattle.gx_model.specs.Texts.{Bytes}
use Rattle.gx_object.specs.declared.name.Name.{Name}
use Rattle.gx_rev.specs.Objects.{IsHeldAs, commit_at}
use Rattle.gx_asks.specs.declared.question.CommitFilter.{CommitFilter}
use Rattle.gx_asks.specs.declared.question.LogOptions.{LogOptions}
use Rattle.gx_print.specs.Choices.{keeps}
use Rattle.gx_print.specs.Logs.{AreCommits, chosen, limited, skipped, turned}
use Rattle.gx_print.proofs.ListedCommits.{all_arranged, all_skipped, map_arranged, map_skipped}

module _ (name : Kind → Bytes → Bytes) (only : CommitFilter) (r : Records) (names : List Name) where
  abbrev kept_of : List Name → List Commit
  kept_of ns = filter (keeps name only) (map (commit_at r) ns)

  -- those of the first names that are kept, and the other names are left
  pub record KeptFirst (i : ℕ) (kept : List Name) : Type 0 where
    pub commits : map (commit_at r) kept ++ kept_of (drop i names) ≡ kept_of names
    pub held : AreCommits r kept

  pub none_kept : KeptFirst 0 []
  none_kept = record { commits = refl; held = tt }

  -- what is left from a place on
  rest_from : (ns : List Name) (i : ℕ) (d : Name) → i < length ns → drop i ns ≡ get_or ns i d ∷ drop (i + 1) ns
  rest_from [] i d h = absurd (omega arith)
  rest_from (n ∷ ns) zero d h = refl
  rest_from (n ∷ ns) (suc i) d h = let s : suc i + 1 ≡ suc (i + 1) = omega arith in rw s (rest_from ns i d (omega arith))

  held_at : (ns : List Name) (i : ℕ) (d : Name) → i < length ns → AreCommits r ns → IsHeldAs kinds.Commit r (get_or ns i d)
  held_at [] i d h k = absurd (omega arith)
  held_at (n ∷ ns) zero d h k = k.0
  held_at (n ∷ ns) (suc i) d h k = held_at ns i d (omega arith) k.1

  all_held : (n : Name) (ns : List Name) → AreCommits r ns → IsHeldAs kinds.Commit r n → AreCommits r (ns ++ n ∷ [])
  all_held n [] h k = (k, tt)
  all_held n (m ∷ ns) h k = (h.0, all_held n ns h.1 k)

  at_first : (b : Bool) (c : Commit) (cs : List Commit) → keeps name only c ≡ b → filter (keeps name only) (c ∷ cs) ≡ cond b (c ∷ filter (keeps name only) cs) (filter (keeps name only) cs)
  at_first b c cs e = ap (λ b. cond b (c ∷ filter (keeps name only) cs) (filter (keeps name only) cs)) e

  pub one_kept : (i : ℕ) (kept more : List Name) (d : Name) → i < length names → AreCommits r names → more ≡ kept ++ get_or names i d ∷ [] → keeps name only (commit_at r (get_or names i d)) ≡ true → KeptFirst i kept → KeptFirst (i + 1) more
  one_kept i kept more d h all e k was =
      let n = get_or names i d in
      let rest = drop (i + 1) names in
      let first = ap kept_of (rest_from names i d h) ∙ at_first true (commit_at r n) (map (commit_at r) rest) k in
      let parts = ap (λ cs. cs ++ kept_of rest) (map-append (commit_at r) kept (n ∷ [])) ∙ append_assoc (map (commit_at r) kept) (commit_at r n ∷ []) (kept_of rest) in
      subst (KeptFirst (i + 1)) (sym e) (record {
        commits = parts ∙ ap (λ cs. map (commit_at r) kept ++ cs) (sym first) ∙ was.commits;
        held = all_held n kept was.held (held_at names i d h all);
      })

  pub one_left_out : (i : ℕ) (kept : List Name) (d : Name) → i < length names → keeps name only (commit_at r (get_or names i d)) ≡ false → KeptFirst i kept → KeptFirst (i + 1) kept
  one_left_out i kept d h k was =
      let n = get_or names i d in
      let rest = drop (i + 1) names in
      let first = ap kept_of (rest_from names i d h) ∙ at_first false (commit_at r n) (map (commit_at r) rest) k in
      record { commits = ap (λ cs. map (commit_at r) kept ++ cs) (sym first) ∙ was.commits; held = was.held }

  pub all_kept : (i : ℕ) (kept : List Name) → length names ≤ i → KeptFirst i kept → (map (commit_at r) kept ≡ kept_of names) × AreCommits r kept
  all_kept i kept h was =
      (sym (append-nil (map (commit_at r) kept)) ∙ ap (λ ns. map (commit_at r) kept ++ kept_of ns) (sym (drop_all i names h)) ∙ was.commits, was.held)

-- those that are kept, without so many of the first, so many at most, and turned
pub kept_chosen : (name : Kind → Bytes → Bytes) (options : LogOptions) (r : Records) (listed kept taken : List Name) → map (commit_at r) kept ≡ filter (keeps name options.only) (map (commit_at r) listed) → AreCommits r kept
    → taken ≡ turned options.reverse (limited options.max_count (skipped options.skip kept)) → (map (commit_at r) taken ≡ chosen name options (map (commit_at r) listed)) × AreCommits r taken
kept_chosen name options r listed kept taken e held t = (
  ap (map (commit_at r)) t ∙ map_arranged (commit_at r) options.reverse options.max_count (skipped options.skip kept)
      ∙ ap (λ cs. turned options.reverse (limited options.max_count cs)) (map_skipped (commit_at r) options.skip kept ∙ ap (skipped options.skip) e),
  subst (AreCommits r) (sym t) (all_arranged (IsHeldAs kinds.Commit r) options.reverse options.max_count (skipped options.skip kept) (all_skipped (IsHeldAs kinds.Commit r) options.skip kept held)),
)
