-- What reading a name behind other bytes gives.
use Rattle.std.proofs.Common.{◌≡◌, ◌+◌, ◌-◌, ◌<◌, Bool, true, false, cond, [], ◌∷◌, ◌++◌, length, take, drop, append_assoc, length-append, length-drop, None, Some, refl, sym, ap, subst, ◌∙◌, arith, inl, inr}
use Rattle.std.specs.Prelude.{◌≢◌, ◌⊎◌, ◌&&◌, codes, slice_index}
use Rattle.std.specs.List.{slice_range}
use Rattle.std.proofs.lemmas.List.{get_or-drop, take_all}
use Rattle.gx_model.specs.declared.objects.Kind.{Kind}
use Rattle.gx_model.proofs.ObjectTexts.NameDigits.{AreBytes, is_name_from}
use Rattle.std.specs.Bool.{passes}
use Rattle.gx_model.specs.declared.objects.Kind.TheVariants as kind
use Rattle.gx_model.specs.Texts.{Bytes, same_bytes}
use Rattle.gx_model.specs.Objects.{is_name}
use Rattle.gx_model.proofs.Texts.PathTests.{is_same, is_true, same_is}
use Rattle.gx_stand_ins.specs.SmallRepositories.{commit_front, name_behind, stood_for}
use Rattle.gx_stand_ins.proofs.StoodFor.{dropped, none_behind, taken}
use Rattle.gx_stand_ins.specs.StandInNames.{both_parts}

-- behind these bytes a text is a name or not
pub found_behind : (front x : Bytes) → name_behind front (front ++ x) ≡ cond (is_name x) (Some x) None
found_behind front x =
    (λ i. cond (same_bytes (taken front x i) front && is_name (dropped front x i)) (Some (dropped front x i)) None)
    ∙ ap (λ b. cond (b && is_name x) (Some x) None) (is_true _ (is_same front front refl))

-- a text that doesn't begin with them is none
pub otherwise : (front text : Bytes) → ((rest : Bytes) → text ≡ front ++ rest → ⊥) → name_behind front text ≡ None
otherwise front text h = none_behind front text (by (same_bytes (take (length front) text) front) refl)
  where
    by : (b : Bool) → same_bytes (take (length front) text) front ≡ b → b ≡ false
    by false e = refl
    by true e = absurd (h (drop (length front) text) (both_parts (length front) text ∙ ap (λ x. x ++ drop (length front) text) (same_is (take (length front) text) front (passes _ e))))

cancelled : (h x y : Bytes) → h ++ x ≡ h ++ y → x ≡ y
cancelled h x y e = sym (dropped h x) ∙ ap (drop (length h)) e ∙ dropped h y

-- what both texts begin with may be left out
pub behind_both : (h n r : Bytes) → name_behind (h ++ n) (h ++ r) ≡ name_behind n r
behind_both h n r = by (same_bytes (take (length n) r) n) refl
  where
    by : (b : Bool) → same_bytes (take (length n) r) n ≡ b → name_behind (h ++ n) (h ++ r) ≡ name_behind n r
    by true e =
        let d = drop (length n) r in
        let whole : r ≡ n ++ d = both_parts (length n) r ∙ ap (λ x. x ++ d) (same_is (take (length n) r) n (passes _ e)) in
        ap (λ x. name_behind (h ++ n) (h ++ x)) whole ∙ ap (name_behind (h ++ n)) (sym (append_assoc h n d)) ∙ found_behind (h ++ n) d ∙ sym (ap (name_behind n) whole ∙ found_behind n d)
    by false e =
        otherwise (h ++ n) (h ++ r) (λ rest same.
        let behind = cancelled h r (n ++ rest) (same ∙ append_assoc h n rest) in
        let begins : same_bytes (take (length n) r) n ≡ true = ap (λ x. same_bytes (take (length n) x) n) behind ∙ ap (λ x. same_bytes x n) (taken n rest) ∙ is_true _ (is_same n n refl) in
        let both : true ≡ false = sym begins ∙ e in
        absurd (cc))
        ∙ sym (none_behind n r e)

-- what a commit that stands for another has between the line of its tree and the nonce
abbrev pub header : Bytes
header = codes "author stand-in <stand-in> 0 +0000" ++ 10 ∷ codes "committer stand-in <stand-in> 0 +0000" ++ 10 ∷ 10 ∷ []

pub front_is : (nonce : Bytes) → commit_front nonce ≡ header ++ nonce
unfolding commit_front
front_is nonce = refl

-- behind the header the nonce and a name
pub commit_read_as : (nonce body rest : Bytes) → drop 46 body ≡ header ++ rest → stood_for nonce kind.Commit body ≡ name_behind nonce rest
commit_read_as nonce body rest e = (λ i. name_behind (front_is nonce i) (e i)) ∙ behind_both header nonce rest

-- no header, no name
pub commit_other : (nonce body : Bytes) → ((rest : Bytes) → drop 46 body ≡ header ++ rest → ⊥) → stood_for nonce kind.Commit body ≡ None
commit_other nonce body h =
    ap (λ front. name_behind front (drop 46 body)) (front_is nonce)
    ∙ otherwise (header ++ nonce) (drop 46 body) (λ rest e. h (nonce ++ rest) (e ∙ append_assoc header nonce rest))

-- ---- what the code reads

-- a name of 20 bytes behind these
pub name_found : (front text rest : Bytes) → text ≡ front ++ rest → length rest ≡ 20 → rest ≡ drop (length front) text → AreBytes text → name_behind front text ≡ Some rest
name_found front text rest e long d bytes =
    ap (name_behind front) e ∙ found_behind front rest
    ∙ ap (λ b. cond b (Some rest) None) (is_name_from rest long (λ i. subst (λ (r : Bytes). slice_index r i < 256) (sym d) (subst (λ n. n < 256) (sym (get_or-drop (length front) text i 0)) (bytes (length front + i)))))

all_behind : (body : Bytes) → slice_range body 46 (length body) ≡ drop 46 body
all_behind body = take_all (length body - 46) (drop 46 body) (let long = length-drop 46 body in omega arith)

-- a commit's body that is too short
pub short_body : (nonce body : Bytes) (k : Kind) → k ≡ kind.Commit → (length body < 46) ⊎ (length body < length body) → stood_for nonce k body ≡ None
short_body nonce body k e short =
    ap (λ (l : Kind). stood_for nonce l body) e
    ∙ commit_other nonce body (λ rest same.
    let long = length-drop 46 body in
    let lengths = ap length same in
    let both = length-append header rest in
    elim short [ inl few ↦ absurd (omega arith) | inr few ↦ absurd (omega arith) ])

-- one without the header
pub other_header : (nonce body part : Bytes) (k : Kind) → k ≡ kind.Commit → part ≡ slice_range body 46 (length body) → ((rest : Bytes) → part ≢ header ++ rest) → stood_for nonce k body ≡ None
other_header nonce body part k e same h = ap (λ (l : Kind). stood_for nonce l body) e ∙ commit_other nonce body (λ rest begins. h rest (same ∙ all_behind body ∙ begins))

-- one with it
pub read_header : (nonce body part rest : Bytes) (k : Kind) → k ≡ kind.Commit → part ≡ slice_range body 46 (length body) → part ≡ header ++ rest → stood_for nonce k body ≡ name_behind nonce rest
read_header nonce body part rest k e same begins = ap (λ (l : Kind). stood_for nonce l body) e ∙ commit_read_as nonce body rest (sym (all_behind body) ∙ sym same ∙ begins)
