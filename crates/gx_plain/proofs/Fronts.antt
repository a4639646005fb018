-- Lines and bodies of a text that are read in a front of it.
use Rattle.std.proofs.Common.{◌≡◌, ℕ, suc, ◌+◌, ◌-◌, ◌<◌, ◌≤◌, eqb, Bool, true, false, [], ◌∷◌, ◌++◌, append_assoc, append-nil, length, replicate, take, drop, Option, Some, None, Result, Ok, Err, refl, sym, ap, ◌∙◌, subst, arith}
use Rattle.std.proofs.Math.Seq.{take-append-add}
use Rattle.std.proofs.lemmas.List.{length-append, length-drop, length-take, length-take-le, take-append-drop, take_all}
use Rattle.gx_model.specs.declared.store_faults.FileFault.{FileFault}
use Rattle.gx_model.specs.declared.store_faults.FileFault.TheVariants as fault
use Rattle.gx_model.specs.Faults.{NeedsNoMemory}
use Rattle.gx_model.specs.Texts.{Bytes, cut_at, lacks}
use Rattle.gx_model.specs.Stores.StoreReading.{Stored, stored_body, stored_line}
use Rattle.gx_model.proofs.Stores.StoreTexts.{body_of, body_read, if_there, line_read}
use Rattle.gx_model.proofs.Texts.Cuts.{cut_spelled, map_some, some_is}
use Rattle.gx_at.specs.Reads.{ReadsAt, StandsAt, part}
use Rattle.gx_lines.specs.Reads.{Reads}
use Rattle.gx_file.proofs.Steps.{explained}
use Rattle.gx_plain.proofs.RoomsRead.{both_stand, grown_room}
use Rattle.gx_objects.specs.declared.fault.LookFault.{LookFault}
use Rattle.gx_look.specs.Reading.{EndsBefore}
use Rattle.gx_plain.specs.Reading.{IsFrontAt, IsRefused}

-- ---- a room

-- as many bytes as were wanted are a front
pub front_whole : (told : Option Bytes) (at count : ℕ) (room : Bytes) → StandsAt told at room → length room ≡ count → IsFrontAt told at count room
front_whole None at count room h e = tt
front_whole (Some text) at count room h e = h ∙ ap (part text at) e

-- and so are fewer, where the text ends
pub front_short : (told : Option Bytes) (at count came : ℕ) (room buffer : Bytes) → StandsAt told at room → length room ≤ count → ReadsAt told (at + length room) buffer (Ok came) → came ≡ 0 → IsFrontAt told at count room
front_short None at count came room buffer h l r e = tt
front_short (Some text) at count came room buffer h l r e =
    let ends = r.1 e in
    let long = length-drop at text in
    h ∙ take_all (length room) (drop at text) (omega (arith, ends, long)) ∙ sym (take_all count (drop at text) (omega (arith, ends, long, l)))

-- a room with fewer bytes than were wanted has all that is left
pub rest_is : (told : Option Bytes) (at count : ℕ) (room : Bytes) → IsFrontAt told at count room → length room < count → (text : Bytes) → told ≡ Some text → room ≡ drop at text
rest_is None at count room h l text e = absurd (cc)
rest_is (Some t) at count room h l text e =
    let same : t ≡ text = cc in
    let long = ap length h ∙ length-take count (drop at t) in
    h ∙ take_all count (drop at t) (omega arith) ∙ ap (drop at) same

-- a front with fewer bytes than were wanted tells that the text ends
pub ends_short : (told : Option Bytes) (at end count : ℕ) (room : Bytes) (why : LookFault) → IsFrontAt told at count room → count ≡ end + 1 → length room ≤ end → EndsBefore told (at + end + 1) why
ends_short None at end count room why h e l = tt
ends_short (Some text) at end count room why h e l = λ same.
    let few = ap length h ∙ length-take count (drop at text) in
    let long = length-drop at text in
    omega arith

-- what came stands behind what was there
came_stands : (told : Option Bytes) (at came : ℕ) (new : Bytes) → ReadsAt told at new (Ok came) → came ≤ length new → StandsAt told at (take came new)
came_stands None at came new r l = tt
came_stands (Some text) at came new r l = r.0 ∙ ap (part text at) (sym (length-take-le came new l))

module _ (told : Option Bytes) (at : ℕ) (old made whole new post behind : Bytes) (done more n size came : ℕ) (e : made ≡ take n old ++ replicate (n - done) 0) (w : whole ≡ made) (d : done ≡ length old) (m : n ≡ done + more) (l : length new ≡ more) (k : size ≡ n) where
  came_room : take (done + came) (take size ((take done whole ++ (new ++ post)) ++ behind)) ≡ old ++ take came new
  came_room =
      ap (take (done + came)) (grown_room old made whole new post behind done more n size e w d m l k) ∙ ap (λ i. take (i + came) (old ++ new)) d ∙ take-append-add old new came

  pub came_within : (count : ℕ) → came ≤ more → n ≤ count → length (take (done + came) (take size ((take done whole ++ (new ++ post)) ++ behind))) ≤ count
  came_within count c h =
      let a = ap length came_room ∙ length-append old (take came new) in
      let b = length-take-le came new (omega arith) in
      omega arith

  -- where nothing came, the text ends
  pub came_short : (count : ℕ) → done ≤ count → StandsAt told at old → ReadsAt told (at + done) new (Ok came) → came ≡ 0 → IsFrontAt told at count (take (done + came) (take size ((take done whole ++ (new ++ post)) ++ behind)))
  came_short count h f r none =
      let room = came_room ∙ ap (λ n. old ++ take n new) none ∙ append-nil old in
      subst (IsFrontAt told at count) (sym room) (front_short told at count came old new f (omega (arith, h, d)) (subst (λ n. ReadsAt told (at + n) new (Ok came)) d r) none)

  pub came_there : came ≤ more → StandsAt told at old → ReadsAt told (at + done) new (Ok came) → StandsAt told at (take (done + came) (take size ((take done whole ++ (new ++ post)) ++ behind)))
  came_there c f r =
      subst (StandsAt told at) (sym came_room) (both_stand told at old (take came new) f (subst (λ i. StandsAt told (at + i) (take came new)) d (came_stands told (at + done) came new r (omega arith))))

-- ---- faults

-- what gives nothing is refused
pub refused_unless : {Y : Type 0} (given : Stored Y) → ((y : Y) → given ≡ Ok y → ⊥) → IsRefused given
refused_unless (Ok y) h = absurd (h y refl)
refused_unless (Err why) h = (why, refl)

-- what a reader refuses, the definition does
pub refuses : {X Y : Type 0} (view : X → Y) (result : Result X FileFault) (given : Stored Y) (why : FileFault) → Reads view result given → NeedsNoMemory fault.OutOfMemory result → result ≡ Err why → given ≡ Err why
refuses view (Ok x) given why r m e = absurd (cc)
refuses view (Err f) given why r m e = let same : f ≡ why = cc in subst (λ k. given ≡ Err k) same (explained f given m r)

-- ---- lines

-- what stands before the first c has none
pub cut_lacks : (c : ℕ) (bs : Bytes) (p : Bytes × Bytes) → cut_at c bs ≡ Some p → lacks c p.0 ≡ true
unfolding cut_at
cut_lacks c [] p e = absurd cc
cut_lacks c (b ∷ bs) p e = step (λ q h. cut_lacks c bs q h) (eqb b c) refl
  where
    step : ((q : Bytes × Bytes) → cut_at c bs ≡ Some q → lacks c q.0 ≡ true) → (t : Bool) → eqb b c ≡ t → lacks c p.0 ≡ true
    step again true t =
        let h : Some ([], bs) ≡ Some p = rw t at e in
        subst (λ (q : Bytes × Bytes). lacks c q.0 ≡ true) (some_is ([], bs) p h) refl
    step again false t =
        let h = map_some (λ (q : Bytes × Bytes). (b ∷ q.0, q.1)) (cut_at c bs) p (rw t at e) in
        let rest = again h.0 h.1 in
        let here : lacks c (b ∷ h.0.0) ≡ true = rw t rest in
        subst (λ (q : Bytes × Bytes). lacks c q.0 ≡ true) h.2 here

module _ (c : ℕ) (text : Bytes) (l : Bytes × Bytes) where
  -- a line of a front is one of the text
  pub line_whole : stored_line (take c text) ≡ Ok l → stored_line text ≡ Ok (l.0, l.1 ++ drop c text)
  line_whole e =
      let cut = if_there fault.Truncated (cut_at 10 (take c text)) l e in
      let whole : text ≡ l.0 ++ 10 ∷ (l.1 ++ drop c text) =
      sym (take-append-drop c text) ∙ ap (λ z. z ++ drop c text) (cut_spelled 10 (take c text) l cut) ∙ append_assoc l.0 (10 ∷ l.1) (drop c text) in
      ap stored_line whole ∙ line_read l.0 (l.1 ++ drop c text) (cut_lacks 10 (take c text) l cut)

  -- a line of a text that is short enough is one of the front
  pub line_front : stored_line text ≡ Ok l → length l.0 < c → stored_line (take c text) ≡ Ok (l.0, take (c - (length l.0 + 1)) l.1)
  line_front e h =
      let cut = if_there fault.Truncated (cut_at 10 text) l e in
      let n = c - (length l.0 + 1) in
      let long : c ≡ length l.0 + suc n = omega arith in
      let spelled = cut_spelled 10 text l cut in
      let front : take c text ≡ l.0 ++ 10 ∷ take n l.1 = (λ i. take (long i) (spelled i)) ∙ take-append-add l.0 (10 ∷ l.1) (suc n) in
      ap stored_line front ∙ line_read l.0 (take n l.1) (cut_lacks 10 text l cut)

-- ---- bodies

module _ (n m : ℕ) (text : Bytes) (x : Bytes × Bytes) where
  -- a body of a front is one of the text
  pub body_whole : stored_body n (take m text) ≡ Ok x → stored_body n text ≡ Ok (x.0, x.1 ++ drop m text)
  body_whole e =
      let b = body_of n (take m text) x e in
      let whole : text ≡ x.0 ++ 10 ∷ (x.1 ++ drop m text) = sym (take-append-drop m text) ∙ ap (λ z. z ++ drop m text) b.0 ∙ append_assoc x.0 (10 ∷ x.1) (drop m text) in
      (λ i. stored_body (sym b.1 i) (whole i)) ∙ body_read x.0 (x.1 ++ drop m text)

  -- a body of a text that is short enough is one of the front
  pub body_front : stored_body n text ≡ Ok x → n < m → stored_body n (take m text) ≡ Ok (x.0, take (m - (n + 1)) x.1)
  body_front e h =
      let b = body_of n text x e in
      let k = m - (n + 1) in
      let many = b.1 in
      let long : m ≡ length x.0 + suc k = omega arith in
      let front : take m text ≡ x.0 ++ 10 ∷ take k x.1 = (λ i. take (long i) (b.0 i)) ∙ take-append-add x.0 (10 ∷ x.1) (suc k) in
      (λ i. stored_body (sym b.1 i) (front i)) ∙ body_read x.0 (take k x.1)
