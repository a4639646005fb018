-- How much of the objects before a number isn't marked.
use Rattle.std.proofs.Common.{◌≡◌, ℕ, ◌+◌, ◌≤◌, Bool, true, false, List, [], ◌∷◌, drop, get_or, length, Some, refl, sym, ap, ◌∙◌, arith}
use Rattle.std.specs.List.{slice_get}
use Rattle.std.proofs.lemmas.List.{drop_all, drop_more}
use Rattle.std.proofs.lemmas.Option.{get_or_from_slice_get, slice_get_within}
use Rattle.gx_model.specs.Histories.{Record}
use Rattle.gx_repo.specs.Pruning.{weight}
use Rattle.gx_store.specs.Marked.{marked}
use Rattle.gx_listed.specs.Listings.{HaveHeads, Head, Listed, head_of, shown_head}
use Rattle.gx_kept.proofs.ListedRecords.{record_listed, same_length}
use Rattle.gx_kept.proofs.Weights.{marked_on, marked_past}

weight_from : (rs : List Record) (i : ℕ) (r : Record) → slice_get rs i ≡ Some r → weight (drop i rs) ≡ length r.body + weight (drop (i + 1) rs)
weight_from rs i r at = ap weight (drop_more rs i r (slice_get_within rs i r at) ∙ ap (λ x. x ∷ drop (i + 1) rs) (get_or_from_slice_get rs i r r at))

module _ (listed : List Listed) (marks : List Bool) where
  -- so many went, and so many bytes; the marks of those from a number on are still to be looked at
  pub record GoneBefore (i objects bytes : ℕ) : Type 0 where
    pub many : objects + length (marked marks listed) ≡ i + length (marked (drop i marks) (drop i listed))
    pub long : (records : List Record) → HaveHeads listed records → bytes + weight (marked marks records) + weight (drop i records) ≡ weight records + weight (marked (drop i marks) (drop i records))

  -- before the first none did
  pub none_gone : GoneBefore 0 0 0
  none_gone = record { many = refl; long = λ records h. omega arith }

  module _ (i objects bytes : ℕ) (g : GoneBefore i objects bytes) (one : Listed) (at : Some one ≡ slice_get listed i) where
    size_is : (held : Record) → shown_head one ≡ head_of held → one.1.length ≡ length held.body
    size_is held e = ap (λ (x : Head). x.size) e

    -- one that isn't marked goes
    pub one_gone : get_or marks i false ≡ false → GoneBefore (i + 1) (objects + 1) (bytes + one.1.length)
    one_gone e = record {
      many = let past = ap length (marked_past marks listed i one (sym at) e) in omega (arith, g.many, past);
      long = λ records h.
          let x = record_listed listed records i one h (sym at) in
          let past = ap weight (marked_past marks records i x.0 x.1 e) in
          let size = size_is x.0 x.2 in
          let from = weight_from records i x.0 x.1 in
          omega (arith, g.long records h, past, size, from);
    }

    -- one that is marked stays
    pub one_stays : get_or marks i false ≡ true → GoneBefore (i + 1) objects bytes
    one_stays e = record {
      many = let on = ap length (marked_on marks listed i one (sym at) e) in omega (arith, g.many, on);
      long = λ records h.
          let x = record_listed listed records i one h (sym at) in
          let on = ap weight (marked_on marks records i x.0 x.1 e) in
          let from = weight_from records i x.0 x.1 in
          omega (arith, g.long records h, on, from);
    }

  -- behind the last all did
  module _ (i objects bytes : ℕ) (g : GoneBefore i objects bytes) (last : length listed ≤ i) (within : i ≤ length listed) where
    pub all_gone : objects + length (marked marks listed) ≡ length listed
    all_gone = let none = ap (λ xs. length (marked (drop i marks) xs)) (drop_all i listed last) in omega (arith, g.many, none)

    pub all_weighed : (records : List Record) → HaveHeads listed records → bytes + weight (marked marks records) ≡ weight records
    all_weighed records h =
        let same = same_length listed records h in
        let nothing = drop_all i records (omega (arith, same, last)) in
        let none = ap (λ xs. weight (marked (drop i marks) xs)) nothing in
        let behind = ap weight nothing in
        omega (arith, g.long records h, none, behind)
