-- The objects of a repository in memory, as they are listed one after the other.
use Rattle.std.proofs.Common.{◌≡◌, ◌⊎◌, inl, inr, ℕ, zero, suc, ◌+◌, ◌<◌, ◌≤◌, Bool, true, false, List, [], ◌∷◌, ◌++◌, length, length-take, map, take, Some, None, refl, sym, ap, ◌∙◌, subst, arith}
use Rattle.std.specs.List.{slice_get}
use Rattle.std.proofs.lemmas.List.{map_push, take_all}
use Rattle.gx_model.specs.Histories.{AreDistinct, Record, Records}
use Rattle.gx_listed.specs.Listings.{HaveHeads, Head, Listed, ListsAll, Pushes, head_of, number_named, shown_head}
use Rattle.gx_kept.proofs.ListedRecords.{front_lacks, number_is, same_length}

-- with one more stands what stood, or that one
last_or_before : (xs : List Listed) (one : Listed) (n : ℕ) (x : Listed) → slice_get (xs ++ one ∷ []) n ≡ Some x → (slice_get xs n ≡ Some x) ⊎ ((one ≡ x) × (n ≡ length xs))
last_or_before [] one zero x e = inr (cc, refl)
last_or_before [] one (suc n) x e = absurd (cc)
last_or_before (y ∷ ys) one zero x e = inl e
last_or_before (y ∷ ys) one (suc n) x e = by (last_or_before ys one n x e)
  where
    by : (slice_get ys n ≡ Some x) ⊎ ((one ≡ x) × (n ≡ length ys)) → (slice_get ys n ≡ Some x) ⊎ ((one ≡ x) × (suc n ≡ suc (length ys)))
    by (inl a) = inl a
    by (inr b) = inr (b.0, ap suc b.1)

one_taken : (rs : List Record) (i : ℕ) (held : Record) → slice_get rs i ≡ Some held → take (suc i) rs ≡ take i rs ++ held ∷ []
one_taken [] i held e = absurd (cc)
one_taken (r ∷ rs) zero held e = let same : r ≡ held = cc in ap (λ (x : Record). x ∷ []) same
one_taken (r ∷ rs) (suc i) held e = ap (λ xs. r ∷ xs) (one_taken rs i held e)

within_records : (rs : List Record) (i : ℕ) (held : Record) → slice_get rs i ≡ Some held → i < length rs
within_records [] i held e = absurd (cc)
within_records (r ∷ rs) zero held e = omega arith
within_records (r ∷ rs) (suc i) held e = let l = within_records rs i held e in omega (arith, l)

module _ (rs : List Record) where
  -- so many records are listed, each with its number
  pub record AreListed (i : ℕ) (listed : List Listed) : Type 0 where
    pub heads : HaveHeads listed (take i rs)
    pub places : (number : ℕ) (one : Listed) → slice_get listed number ≡ Some one → one.1.place ≡ number

  pub none_listed : AreListed 0 []
  none_listed = record { heads = refl; places = λ number one e. absurd (cc) }

  module _ (i : ℕ) (listed : List Listed) (h : AreListed i listed) (held : Record) (at : slice_get rs i ≡ Some held) where
    -- its name isn't listed yet
    is_new : AreDistinct (map (λ r. r.name) rs) → number_named listed held.name ≡ None
    is_new distinct = number_is held.name listed (take i rs) h.heads ∙ front_lacks rs i held distinct at

    many : length listed ≡ i
    many =
        let within = within_records rs i held at in
        let same = same_length listed (take i rs) h.heads in
        omega (arith, length-take i rs, within, same)

    -- the next one is listed, too
    pub one_more : AreDistinct (map (λ r. r.name) rs) → (one : Listed) → shown_head one ≡ head_of held → one.1.place ≡ i → (new : List Listed) (is : Bool) → Pushes listed new one is → AreListed (i + 1) new
    one_more distinct one head place new is pushed = subst (λ n. AreListed n new) (let s : suc i ≡ i + 1 = omega arith in s) (by is pushed)
      where
        stand : (now : List Listed) → now ≡ listed ++ one ∷ [] → (number : ℕ) (x : Listed) → slice_get now number ≡ Some x → x.1.place ≡ number
        stand now pushed number x e = pick (last_or_before listed one number x (subst (λ (ls : List Listed). slice_get ls number ≡ Some x) pushed e))
          where
            pick : (slice_get listed number ≡ Some x) ⊎ ((one ≡ x) × (number ≡ length listed)) → x.1.place ≡ number
            pick (inl a) = h.places number x a
            pick (inr b) = subst (λ (y : Listed). y.1.place ≡ number) b.0 (place ∙ sym many ∙ sym b.1)

        by : (is : Bool) → Pushes listed new one is → AreListed (suc i) new
        by true p = record {
          heads = ap (map shown_head) p.0 ∙ map_push shown_head listed one ∙ ap (λ xs. xs ++ shown_head one ∷ []) h.heads ∙ ap (λ x. map head_of (take i rs) ++ x ∷ []) head
              ∙ sym (map_push head_of (take i rs) held) ∙ ap (map head_of) (sym (one_taken rs i held at));
          places = stand new p.0;
        }
        by false p = absurd (p.1 (subst (λ n. number_named listed n ≡ None) (sym (ap (λ (x : Head). x.name) head)) (is_new distinct)))

pub all_listed : (r : Records) (i : ℕ) (listed : List Listed) → AreListed r.records i listed → length r.records ≤ i → ListsAll (λ number. number) r listed
all_listed r i listed h last = record { heads = h.heads ∙ ap (map head_of) (take_all i r.records last); places = h.places }
