-- What is left of a repository, and how much goes, once its text went out.
use Rattle.std.proofs.Common.{◌≡◌, ℕ, ◌+◌, ◌<◌, ◌^◌, Bool, true, List, [], ◌∷◌, length, Option, Some, None, Result, Ok, Err, replicate, refl, sym, ap, ◌∙◌, subst}
use Rattle.std.specs.Prelude.{IfOk, IfSome}
use Rattle.sha2.specs.Sha256.{sha256}
use Rattle.gx_model.specs.declared.objects.Kind.{Kind}
use Rattle.gx_model.specs.Histories.{Record, Records}
use Rattle.gx_model.specs.Objects.{IsNamer}
use Rattle.gx_model.specs.Records.Sound.{IsSound}
use Rattle.gx_model.specs.Texts.{Bytes}
use Rattle.gx_model.specs.Texts.Sinks.{Taken, Took}
use Rattle.gx_store.specs.Marked.{marked}
use Rattle.gx_repo.proofs.PrunedRecords.{pruned_is, pruned_left, pruned_sound}
use Rattle.gx_repo.specs.Pruning.{is_kept_beside, marks_by, pruned_beside, weight}
use Rattle.gx_repo.specs.declared.pruning.Pruned.{Pruned}
use Rattle.gx_growing.specs.GrowingReading.{grown_of}
use Rattle.gx_growing.specs.GrowingText.{growing_text}
use Rattle.gx_listed.specs.Listings.{HaveHeads, Listed, ListsAll, ListsIfTold}
use Rattle.gx_kept.specs.Collecting.{Collects, Rewrites}
use Rattle.gx_kept.specs.Faults.{Sends, Stops}
use Rattle.gx_kept.specs.Sending.{left_of}
use Rattle.gx_kept.specs.declared.fault.KeptFault.{KeptFault}
use Rattle.gx_kept.proofs.ListedRecords.{same_length}
use Rattle.gx_kept.proofs.Weights.{marked_heads}

-- where all are marked, all are left
pub all_marked : (rs : List Record) → marked (replicate (length rs) true) rs ≡ rs
all_marked [] = refl
all_marked (r ∷ rs) = ap (λ more. r ∷ more) (all_marked rs)

-- the growing text of each sound repository that is short is read as it
abbrev pub AreRead : (Kind → Bytes → Bytes) → Type 0
AreRead name = (r : Records) → IsSound name r → length (growing_text sha256 r) < 2 ^ 63 → grown_of name sha256 (growing_text sha256 r) ≡ Ok r

module _ (name : Kind → Bytes → Bytes) (namer : IsNamer name) (read : AreRead name) (stands : ℕ → ℕ) (told : Option Records) (listed : List Listed)
    (sound : IfSome told (IsSound name)) (lists : ListsIfTold told stands listed) (marks : List Bool) (was now : Option Taken) where
  -- ---- those that are reached

  module _ (names : List Bytes) (are : IfSome told (λ r. marks ≡ marks_by (is_kept_beside names r) r.records)) where
    pub stopped : (fault : KeptFault) → IfSome told (λ r. Stops (growing_text sha256 (left_of marks r)) was now fault) → IfSome told (λ r. Collects name names r was now (Err fault))
    stopped fault h = by told are h
      where
        by : (o : Option Records) → IfSome o (λ r. marks ≡ marks_by (is_kept_beside names r) r.records) → IfSome o (λ r. Stops (growing_text sha256 (left_of marks r)) was now fault) → IfSome o (λ r. Collects name names r was now (Err fault))
        by None e k = tt
        by (Some r) e k = record {
          left = record { text = subst (λ (x : Records). Stops (growing_text sha256 x) was now fault) (pruned_is names r marks e) k; read = tt };
          objects = tt;
          bytes = tt;
        }

    pub collected : (gone : Pruned) → IfSome told (λ r. Took was now (growing_text sha256 (left_of marks r))) → IfSome told (λ r. length (growing_text sha256 (left_of marks r)) < 2 ^ 63)
        → gone.objects + length (marked marks listed) ≡ length listed → ((records : List Record) → HaveHeads listed records → gone.bytes + weight (marked marks records) ≡ weight records)
        → IfSome told (λ r. Collects name names r was now (Ok gone))
    collected gone took short objects bytes = by told sound lists are took short
      where
        by : (o : Option Records) → IfSome o (IsSound name) → ListsIfTold o stands listed → IfSome o (λ r. marks ≡ marks_by (is_kept_beside names r) r.records)
            → IfSome o (λ r. Took was now (growing_text sha256 (left_of marks r))) → IfSome o (λ r. length (growing_text sha256 (left_of marks r)) < 2 ^ 63) → IfSome o (λ r. Collects name names r was now (Ok gone))
        by None s l e t k = tt
        by (Some r) s l e t k =
            let is : left_of marks r ≡ pruned_beside names r = pruned_is names r marks e in
            let left = pruned_left names r marks e in
            let all = same_length listed r.records l.heads in
            let kept = same_length (marked marks listed) (marked marks r.records) (marked_heads marks listed r.records l.heads) in
            record {
              left = record {
                text = subst (λ (x : Records). Took was now (growing_text sha256 x)) is t;
                read = subst (λ (x : Records). grown_of name sha256 (growing_text sha256 x) ≡ Ok x) is (read (left_of marks r) (pruned_sound name namer names r marks s e) k);
              };
              objects = ap (λ (rs : List Record). gone.objects + length rs) (sym left) ∙ ap (λ n. gone.objects + n) (sym kept) ∙ objects ∙ all;
              bytes = ap (λ (rs : List Record). gone.bytes + weight rs) (sym left) ∙ bytes r.records l.heads;
            }

  -- ---- all of them

  module _ (all : marks ≡ replicate (length listed) true) where
    all_left : (r : Records) → ListsAll stands r listed → left_of marks r ≡ r
    all_left r l =
        let rs : marked marks r.records ≡ r.records = ap (λ ms. marked ms r.records) (all ∙ ap (λ n. replicate n true) (same_length listed r.records l.heads)) ∙ all_marked r.records in
        λ i. record { records = rs i; refs = r.refs }

    -- whatever comes of sending those that are marked, it comes of sending all
    pub rewriting : (result : Result (Unit {0}) KeptFault) → IfSome told (λ r. Sends (growing_text sha256 (left_of marks r)) was now result)
        → IfOk result (λ _. IfSome told (λ r. length (growing_text sha256 (left_of marks r)) < 2 ^ 63)) → IfSome told (λ r. Rewrites name r was now result)
    rewriting (Ok u) sent short = by told sound lists sent short
      where
        by : (o : Option Records) → IfSome o (IsSound name) → ListsIfTold o stands listed → IfSome o (λ r. Took was now (growing_text sha256 (left_of marks r)))
            → IfSome o (λ r. length (growing_text sha256 (left_of marks r)) < 2 ^ 63) → IfSome o (λ r. Rewrites {X = Unit {0}} name r was now (Ok u))
        by None s l t k = tt
        by (Some r) s l t k = record {
          text = subst (λ (x : Records). Took was now (growing_text sha256 x)) (all_left r l) t;
          read = read r s (subst (λ (x : Records). length (growing_text sha256 x) < 2 ^ 63) (all_left r l) k);
        }
    rewriting (Err f) sent short = by told lists sent
      where
        by : (o : Option Records) → ListsIfTold o stands listed → IfSome o (λ r. Stops (growing_text sha256 (left_of marks r)) was now f) → IfSome o (λ r. Rewrites {X = Unit {0}} name r was now (Err f))
        by None l t = tt
        by (Some r) l t = record { text = subst (λ (x : Records). Stops (growing_text sha256 x) was now f) (all_left r l) t; read = tt }
