-- A small repository stays one where an object of the whole one is put into it, or one that stands for it.
use Rattle.std.proofs.Common.{◌≡◌, List, [], ◌∷◌, ◌++◌, Option, None, Some, Result, Ok, Err, sym, ap, subst, ◌∙◌}
use Rattle.std.specs.Prelude.{IfSome, IsTrue, MatchOption, OnOk}
use Rattle.std.specs.FinMap.Entries.{is_sorted}
use Rattle.std.specs.List.{AllByRecursion}
use Rattle.std.specs.Map.{lookup}
use Rattle.std.specs.Option.{unwrap_or}
use Rattle.gx_model.specs.declared.objects.Kind.{Kind}
use Rattle.gx_model.specs.declared.objects.Kind.TheVariants as kind
use Rattle.gx_model.specs.declared.objects.Mode.TheVariants.{File}
use Rattle.gx_model.specs.Texts.{Bytes, byte_cmp, same_bytes}
use Rattle.gx_model.specs.Objects.{CommitParts, IsCommitText}
use Rattle.gx_model.specs.Histories.{Record, Records}
use Rattle.gx_model.specs.Records.Growth.{record_named}
use Rattle.gx_model.specs.Records.HistoryOf.{commit_parts_in}
use Rattle.gx_model.specs.Records.Publishing.{Ref}
use Rattle.gx_model.specs.Records.Sound.{Holds, IsHeldAs, IsSound}
use Rattle.gx_model.proofs.ObjectTexts.BodiesReadBack.{commit_read}
use Rattle.gx_model.proofs.Records.HeldObjects.{IsShown, held_shown, is_shown}
use Rattle.gx_stand_ins.specs.Bodies.{StandsForCommit}
use Rattle.gx_stand_ins.specs.SmallRepositories.{HasTreeOf, IsOfWhole, IsSmallOf, StandsForHeld, name_behind, stand_name, stood_for}
use Rattle.gx_stand_ins.specs.declared.bodies.TheConstants.{NONCE}
use Rattle.gx_small_repo.specs.declared.fault.SmallFault.{SmallFault}
use Rattle.gx_small_repo.specs.Small.{AreRefsOfTold, IsBodyOfTold, IsRefOf, IsSmallOfTold, PutsAs, StayAmong}

all_push : {X : Type 0} (P : X → Type 0) (xs : List X) (x : X) → AllByRecursion P xs → P x → AllByRecursion P (xs ++ x ∷ [])
all_push P [] x h p = (p, tt)
all_push P (y ∷ xs) x h p = (h.0, all_push P xs x h.1 p)

abbrev pub made : Bytes → Kind → Bytes → Record
made called of_kind body = record { name = called; kind = of_kind; body = body }

stays : (told : Option Records) (name : Kind → Bytes → Bytes) (old new : Records) (called : Bytes) (of_kind : Kind) (body : Bytes)
    → IsSmallOfTold told old → IfSome told (λ whole. IsOfWhole NONCE whole (made called of_kind body)) → PutsAs name old new called of_kind body → IsSmallOfTold told new
stays None name old new called of_kind body small is puts = tt
stays (Some whole) name old new called of_kind body small is puts = record {
  records = subst (AllByRecursion (IsOfWhole NONCE whole)) (sym puts.records) (all_push (IsOfWhole NONCE whole) old.records (made called of_kind body) small.records is);
  refs = subst (AllByRecursion (λ ref. lookup (same_bytes ref.0) whole.refs ≡ Some ref.1)) (sym puts.refs) small.refs;
}

module _ (whole : Records) (called body : Bytes) where
  found : (of_kind : Kind) → IsShown whole.records called of_kind body → record_named whole.records called ≡ Some (made called of_kind body)
  found of_kind h = h.found ∙ ap Some (λ i. record { name = h.named i; kind = h.of_kind i; body = h.of_body i })

  has_tree : (h : IsShown whole.records called kind.Commit body) → HasTreeOf NONCE whole called body
  has_tree h = record { held = h.held; found = h.found; commit = h.of_kind; tree = ap (λ b. (commit_parts_in b).tree) h.of_body }

  -- an object itself, under a name that is its own or that of what it would stand for
  own_is : (name : Kind → Bytes → Bytes) (of_kind : Kind) → IsShown whole.records called of_kind body → stand_name NONCE name of_kind body ≡ called → IsOfWhole NONCE whole (made called of_kind body)
  own_is name kind.Blob h e = by (name_behind NONCE body) e
    where
      by : (o : Option Bytes) → unwrap_or o (name kind.Blob body) ≡ called → MatchOption o (record_named whole.records called ≡ Some (made called kind.Blob body)) (λ n. StandsForHeld NONCE whole kind.Blob n body)
      by None e = found kind.Blob h
      by (Some n) e = subst (Holds whole.records kind.Blob) (sym e) (held_shown whole.records called kind.Blob body h)
  own_is name kind.Commit h e = by (stood_for NONCE kind.Commit body) e
    where
      by : (o : Option Bytes) → unwrap_or o (name kind.Commit body) ≡ called → MatchOption o (record_named whole.records called ≡ Some (made called kind.Commit body)) (λ n. StandsForHeld NONCE whole kind.Commit n body)
      by None e = found kind.Commit h
      by (Some n) e = subst (λ m. HasTreeOf NONCE whole m body) (sym e) (has_tree h)
  own_is name kind.Tree h e = found kind.Tree h
  own_is name kind.Tag h e = found kind.Tag h

  -- a blob that stands for one that is held
  blob_is : Holds whole.records kind.Blob called → stood_for NONCE kind.Blob body ≡ Some called → IsOfWhole NONCE whole (made called kind.Blob body)
  blob_is held e =
      subst (λ o. MatchOption o (record_named whole.records called ≡ Some (made called kind.Blob body)) (λ n. StandsForHeld NONCE whole kind.Blob n body)) (sym e) held

  -- a commit that stands for one that is held, and has its tree
  commit_is : (own : Bytes) → IsShown whole.records called kind.Commit own → (parts : CommitParts) → IsCommitText parts own → stood_for NONCE kind.Commit body ≡ Some called → (commit_parts_in body).tree ≡ parts.tree
      → IsOfWhole NONCE whole (made called kind.Commit body)
  commit_is own h parts text stands tree =
      subst (λ o. MatchOption o (record_named whole.records called ≡ Some (made called kind.Commit body)) (λ n. StandsForHeld NONCE whole kind.Commit n body)) (sym stands) (record {
        held = h.held;
        found = h.found;
        commit = h.of_kind;
        tree = ap (λ b. (commit_parts_in b).tree) h.of_body ∙ ap (λ (p : CommitParts). p.tree) (commit_read parts own text) ∙ sym tree;
      })

module _ (told : Option Records) (name : Kind → Bytes → Bytes) (old new : Records) (called body : Bytes) (result : Result (Unit {0}) SmallFault) (small : IsSmallOfTold told old) where
  abbrev pub Puts : Kind → Type 0
  Puts of_kind = OnOk result (PutsAs name old new called of_kind body)

  put_stays : (of_kind : Kind) → (stand_name NONCE name of_kind body ≡ called → IfSome told (λ whole. IsOfWhole NONCE whole (made called of_kind body))) → Puts of_kind → OnOk result (IsSmallOfTold told new)
  put_stays of_kind is puts = by result puts
    where
      by : (r : Result (Unit {0}) SmallFault) → OnOk r (PutsAs name old new called of_kind body) → OnOk r (IsSmallOfTold told new)
      by (Ok x) p = stays told name old new called of_kind body small (is p.named) p
      by (Err fault) p = tt

  pub own_stays : (of_kind : Kind) → IsBodyOfTold told of_kind called body → Puts of_kind → OnOk result (IsSmallOfTold told new)
  own_stays of_kind held puts = put_stays of_kind (by told held) puts
    where
      by : (o : Option Records) → IsBodyOfTold o of_kind called body → stand_name NONCE name of_kind body ≡ called → IfSome o (λ whole. IsOfWhole NONCE whole (made called of_kind body))
      by None h e = tt
      by (Some whole) h e = own_is whole called body name of_kind (is_shown whole.records called of_kind body h) e

  pub blob_stays : IfSome told (λ whole. IsHeldAs whole.records File called) → stood_for NONCE kind.Blob body ≡ Some called → Puts kind.Blob → OnOk result (IsSmallOfTold told new)
  blob_stays held e puts = put_stays kind.Blob (λ _. by told held) puts
    where
      by : (o : Option Records) → IfSome o (λ whole. IsHeldAs whole.records File called) → IfSome o (λ whole. IsOfWhole NONCE whole (made called kind.Blob body))
      by None h = tt
      by (Some whole) h = blob_is whole called body h e

  -- what is put is the body of a commit that stands for this one, and has its tree
  pub commit_stays : (own : Bytes) → IsBodyOfTold told kind.Commit called own → (parts : CommitParts) → IsCommitText parts own → (tree items : Bytes) → tree ≡ parts.tree → body ≡ items → StandsForCommit tree called items
      → Puts kind.Commit → OnOk result (IsSmallOfTold told new)
  commit_stays own held parts text tree items same e s puts = put_stays kind.Commit (λ _. by told held) puts
    where
      by : (o : Option Records) → IsBodyOfTold o kind.Commit called own → IfSome o (λ whole. IsOfWhole NONCE whole (made called kind.Commit body))
      by None h = tt
      by (Some whole) h =
          commit_is whole called body own (is_shown whole.records called kind.Commit own h) parts text (ap (stood_for NONCE kind.Commit) e ∙ s.stands)
          (ap (λ b. (commit_parts_in b).tree) e ∙ s.tree_is ∙ same)

-- ---- the whole of it

-- nothing is a small repository of whatever is told
pub none_small : (told : Option Records) (r : Records) → r ≡ record { records = []; refs = [] } → IsSmallOfTold told r
none_small None r e = tt
none_small (Some whole) r e = subst (IsSmallOf NONCE whole) (sym e) (record { records = tt; refs = tt })

-- and so is one with refs that the whole one has
pub refs_stay : (told : Option Records) (name : Kind → Bytes → Bytes) → IfSome told (IsSound name) → (refs : List Ref) → AreRefsOfTold told refs → (old new : Records) → IsSmallOfTold told old → new.records ≡ old.records
    → (IsTrue (is_sorted byte_cmp refs) → StayAmong refs old.refs new.refs) → IsSmallOfTold told new
refs_stay None name sound refs are old new small same stay = tt
refs_stay (Some whole) name sound refs are old new small same stay = record {
  records = subst (AllByRecursion (IsOfWhole NONCE whole)) (sym same) small.records;
  refs =
      let sorted = subst (λ rs. IsTrue (is_sorted byte_cmp rs)) (sym are) sound.sorted in
      subst (λ rs. AllByRecursion (IsRefOf rs) new.refs) are (stay sorted (subst (λ rs. AllByRecursion (IsRefOf rs) old.refs) (sym are) small.refs));
}
