-- Lines that tell of refs, one after the other.
use Rattle.std.specs.Prelude.{◌||◌, ⊤}
use Rattle.std.proofs.Common.{append-nil, append_assoc, ◌≡◌, ℕ, ◌+◌, ◌<◌, ◌≤◌, Bool, true, false, cond, List, [], ◌∷◌, ◌++◌, length, map, drop, get_or, Result, Ok, Err, refl, sym, ap, ◌∙◌, drop_of_length-le}
use Rattle.std.specs.Borrow.{Bor}
use Rattle.std.specs.BTreeMap.{is_at}
use Rattle.std.specs.BTreeSet.{BTreeSet}
use Rattle.std.specs.List.{AllByRecursion, list_any}
use Rattle.std.specs.declared.vec.Vec.{Vec}
use Rattle.std.proofs.lemmas.List.{drop_more, length-append, length-map, map-append}
use Rattle.std.proofs.lemmas.Map.Text.{is_eq-slice_cmp}
use Rattle.gx_model.specs.Texts.{Bytes, byte_cmp, same_bytes}
use Rattle.gx_repo.specs.Dropping.{AreIn, is_among, is_entered}
use Rattle.gx_push.specs.declared.fault.RefFault.{RefFault}
use Rattle.gx_push.specs.Calls.{texts}
use Rattle.gx_push.specs.Lines.{Refusal, read_behind, read_lines}

abbrev lent : Bytes → Bor Bytes
lent name = record { ref_ptr = (0, 0); now = name }

-- one name more
among-push : (names : List Bytes) (n name : Bytes) → is_among (names ++ n ∷ []) name ≡ cond (same_bytes n name) true (is_among names name)
among-push [] n name = by (same_bytes n name) where
  by : (b : Bool) → (b || false) ≡ cond b true false
  by true = refl
  by false = refl
among-push (x ∷ xs) n name = by (same_bytes x name) (same_bytes n name) (among-push xs n name) where
  by : (a b : Bool) → is_among (xs ++ n ∷ []) name ≡ cond b true (is_among xs name) → (a || is_among (xs ++ n ∷ []) name) ≡ cond b true (a || is_among xs name)
  by true true e = refl
  by true false e = refl
  by false b e = e

-- none of these is told of before
abbrev pub AreNew : {X : Type 0} → (X → Bytes) → List X → List X → Type 0
AreNew name before [] = ⊤
AreNew name before (x ∷ xs) = (is_among (map name before) (name x) ≡ false) × AreNew name (before ++ x ∷ []) xs

module _ {X : Type 0} (name : X → Bytes) (read : List Bytes → Bytes → Result X RefFault) where
  -- how reading goes on behind a line
  abbrev going_on : List X → List Bytes → Result X RefFault → Result (List X) Refusal
  going_on before lines (Ok told) = read_behind name read (before ++ told ∷ []) lines
  going_on before lines (Err fault) = Err (length before + 1, fault)

  goes_on : (before : List X) (line : Bytes) (lines : List Bytes) → read_behind name read before (line ∷ lines) ≡ going_on before lines (read (map name before) line)
  goes_on before line lines = by (read (map name before) line) where
    by : (h : Result X RefFault) → elim h [ Ok told ↦ read_behind name read (before ++ told ∷ []) lines | Err fault ↦ Err (length before + 1, fault) ] ≡ going_on before lines h
    by (Ok told) = refl
    by (Err fault) = refl

  -- what is read behind these is new, where reading takes only what is new
  pub read_new : ((names : List Bytes) (line : Bytes) (told : X) → read names line ≡ Ok told → is_among names (name told) ≡ false)
      → (before : List X) (lines : List Bytes) (all : List X) → read_behind name read before lines ≡ Ok all → (rest : List X) × (all ≡ before ++ rest) × AreNew name before rest
  read_new new before [] all e = let same : before ≡ all = cc e in ([], sym same ∙ sym (append-nil before), tt)
  read_new new before (l ∷ ls) all e =
      by (read (map name before) l) refl (sym (goes_on before l ls) ∙ e) (λ told k. read_new new (before ++ told ∷ []) ls all k)
    where
      by : (h : Result X RefFault) → read (map name before) l ≡ h → going_on before ls h ≡ Ok all
          → ((told : X) → read_behind name read (before ++ told ∷ []) ls ≡ Ok all → (rest : List X) × (all ≡ (before ++ told ∷ []) ++ rest) × AreNew name (before ++ told ∷ []) rest)
          → (rest : List X) × (all ≡ before ++ rest) × AreNew name before rest
      by (Ok told) s k behind =
          let r = behind told k in
          (told ∷ r.0, r.1 ∙ append_assoc before (told ∷ []) r.0, (new (map name before) l told s, r.2))
      by (Err fault) s k behind = absurd (cc k)

  -- what is read has what each line that is read has
  pub all_have : (P : X → Type 0) → ((names : List Bytes) (line : Bytes) (told : X) → read names line ≡ Ok told → P told)
      → (before : List X) (lines : List Bytes) (all : List X) → read_behind name read before lines ≡ Ok all → (rest : List X) × (all ≡ before ++ rest) × AllByRecursion P rest
  all_have P has before [] all e = let same : before ≡ all = cc e in ([], sym same ∙ sym (append-nil before), tt)
  all_have P has before (l ∷ ls) all e =
      by (read (map name before) l) refl (sym (goes_on before l ls) ∙ e) (λ told k. all_have P has (before ++ told ∷ []) ls all k)
    where
      by : (h : Result X RefFault) → read (map name before) l ≡ h → going_on before ls h ≡ Ok all
          → ((told : X) → read_behind name read (before ++ told ∷ []) ls ≡ Ok all → (rest : List X) × (all ≡ (before ++ told ∷ []) ++ rest) × AllByRecursion P rest)
          → (rest : List X) × (all ≡ before ++ rest) × AllByRecursion P rest
      by (Ok told) s k behind =
          let r = behind told k in
          (told ∷ r.0, r.1 ∙ append_assoc before (told ∷ []) r.0, (has (map name before) l told s, r.2))
      by (Err fault) s k behind = absurd (cc k)

module _ {X V A : Type 0} (name : X → Bytes) (read : List Bytes → Bytes → Result X RefFault) (shown : V → X) where
  -- the first lines are read, and the names of their refs alone are held in a set
  pub record AreRead (lines : List (Vec ℕ A)) (list : List V) (names : BTreeSet (Bor Bytes)) (i : ℕ) : Type 0 where
    pub count : length list ≡ i
    pub rest : read_behind name read (map shown list) (texts (drop i lines)) ≡ read_lines name read (texts lines)
    pub are : AreIn names (map name (map shown list))

  pub none_read : (lines : List (Vec ℕ A)) (list : List V) (names : BTreeSet (Bor Bytes)) → list ≡ [] → names.keys ≡ [] → AreRead lines list names 0
  none_read lines list names e f = record {
    count = ap length e;
    rest = ap (λ vs. read_behind name read (map shown vs) (texts lines)) e;
    are = λ n. ap (list_any (is_at (λ (m : Bor Bytes). byte_cmp n m.now))) f ∙ ap (λ vs. is_among (map name (map shown vs)) n) (sym e);
  }

  -- all lines are read
  pub read_all : (lines : List (Vec ℕ A)) (list : List V) (names : BTreeSet (Bor Bytes)) (i : ℕ) → length lines ≤ i → AreRead lines list names i → read_lines name read (texts lines) ≡ Ok (map shown list)
  read_all lines list names i le h = sym h.rest ∙ ap (λ ls. read_behind name read (map shown list) (texts ls)) (drop_of_length-le lines le)

  module _ (lines : List (Vec ℕ A)) (list : List V) (names : BTreeSet (Bor Bytes)) (i : ℕ) (d : Vec ℕ A) (lt : i < length lines) (h : AreRead lines list names i) where
    abbrev told_before : List Bytes
    told_before = map name (map shown list)

    at_next : (given : Result X RefFault) → read told_before (get_or lines i d).items ≡ given → going_on name read (map shown list) (texts (drop (i + 1) lines)) given ≡ read_lines name read (texts lines)
    at_next given e =
        sym (ap (λ ls. read_behind name read (map shown list) (texts ls)) (drop_more lines i d lt)
        ∙ goes_on name read (map shown list) (get_or lines i d).items (texts (drop (i + 1) lines)) ∙ ap (going_on name read (map shown list) (texts (drop (i + 1) lines))) e) ∙ h.rest

    -- the next line is refused
    pub refused_next : (line : Bytes) → line ≡ (get_or lines i d).items → (fault : RefFault) → read told_before line ≡ Err fault → read_lines name read (texts lines) ≡ Err (i + 1, fault)
    refused_next line s fault e = sym (at_next (Err fault) (ap (read told_before) (sym s) ∙ e)) ∙ ap (λ n. Err (n + 1, fault)) (length-map list shown ∙ h.count)

    shown_more : (v : V) → map shown (list ++ v ∷ []) ≡ map shown list ++ shown v ∷ []
    shown_more v = map-append shown list (v ∷ [])

    -- the next line is read
    pub read_next : (line : Bytes) → line ≡ (get_or lines i d).items → (v : V) (now : BTreeSet (Bor Bytes)) (all : List V) → all ≡ list ++ v ∷ [] → read told_before line ≡ Ok (shown v)
        → ((n : Bor Bytes) → is_entered now n.now ≡ cond (is_at (λ (m : Bor Bytes). byte_cmp (name (shown v)) m.now) n) true (is_entered names n.now)) → AreRead lines all now (i + 1)
    read_next line t v now all s e g = record {
      count = ap length s ∙ length-append list (v ∷ []) ∙ ap (λ n. n + 1) h.count;
      rest =
          ap (λ vs. read_behind name read (map shown vs) (texts (drop (i + 1) lines))) s ∙ ap (λ xs. read_behind name read xs (texts (drop (i + 1) lines))) (shown_more v)
          ∙ at_next (Ok (shown v)) (ap (read told_before) (sym t) ∙ e);
      are = λ n.
          g (lent n) ∙ ap (λ b. cond b true (is_entered names n)) (is_eq-slice_cmp (name (shown v)) n) ∙ ap (λ b. cond (same_bytes (name (shown v)) n) true b) (h.are n)
          ∙ sym (among-push told_before (name (shown v)) n)
          ∙ ap (λ ns. is_among ns n) (sym (map-append name (map shown list) (shown v ∷ [])) ∙ ap (map name) (sym (shown_more v) ∙ ap (map shown) (sym s)));
    }
