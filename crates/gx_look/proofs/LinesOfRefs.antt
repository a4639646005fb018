-- The lines of refs, one after the other: which ref has a name.
use Rattle.std.proofs.Common.{◌≡◌, Bool, true, false, cond, refl, sym, ap, ◌∙◌, subst, List, [], ◌∷◌, ◌++◌, codes, Some, None, append_assoc, ◌<◌, length, arith}
use Rattle.std.proofs.lemmas.List.{length-append}
use Rattle.std.specs.Bool.{passes}
use Rattle.std.specs.List.{flat_map}
use Rattle.std.specs.Map.{lookup}
use Rattle.std.specs.FinMap.Entries.{below_all, is_sorted}
use Rattle.gx_model.specs.declared.store_faults.FileFault.TheVariants as fault
use Rattle.gx_model.specs.Texts.{Bytes, byte_cmp, cut_at, same_bytes}
use Rattle.gx_model.specs.Objects.{hex, unhex}
use Rattle.gx_model.specs.Objects.Naming.{lower_name_in}
use Rattle.gx_model.specs.Stores.StoreText.{stored_ref}
use Rattle.gx_model.proofs.Texts.Cuts.{cut_after, cut_spelled, some_is}
use Rattle.gx_model.proofs.Texts.PathTests.{is_same, is_true, same_is, second}
use Rattle.gx_model.proofs.Streams.CommandFields.{link_no_space}
use Rattle.gx_model.proofs.Records.OneHistory.{hex_line}
use Rattle.gx_model.proofs.Records.ReadRecords.{hex_text}
use Rattle.gx_model.proofs.ObjectTexts.BodiesReadBack.{bytes_name, unhex_hex}
use Rattle.gx_model.proofs.Stores.StoreTexts.{if_there, line_read, word_line_read}
use Rattle.gx_look.specs.Refs.{AreLeft, AreLines}
use Rattle.gx_look.specs.Tails.{refs_text}

-- ---- the line in front

-- the last line
pub last_line : cut_at 10 (refs_text []) ≡ Some (codes "end", [])
last_line = if_there fault.Truncated (cut_at 10 (refs_text [])) (codes "end", []) (line_read (codes "end") [] refl)

-- it has no space
no_space : cut_at 32 (codes "end") ≡ None
unfolding cut_at
no_space = refl

module _ (rest : Bytes) (x : Bytes × Bytes) (xs : List (Bytes × Bytes)) (lines : AreLines rest (x ∷ xs)) where
  -- a ref's line stands in front
  pub one_line : cut_at 10 rest ≡ Some (hex x.1 ++ 32 ∷ x.0, refs_text xs)
  one_line =
      ap (cut_at 10) (lines.spelled ∙ append_assoc (stored_ref x) (flat_map stored_ref xs) (codes "end" ++ 10 ∷ []))
      ∙ if_there fault.Truncated (cut_at 10 (stored_ref x ++ refs_text xs)) (hex x.1 ++ 32 ∷ x.0, refs_text xs) (word_line_read (hex x.1) x.0 (refs_text xs) (hex_line x.1) (passes _ lines.names.0))

  -- it has digits and a name
  pub one_cut : cut_at 32 (hex x.1 ++ 32 ∷ x.0) ≡ Some (hex x.1, x.0)
  one_cut = cut_after 32 (hex x.1) x.0 (link_no_space (hex x.1) (is_true _ (hex_text x.1 (passes _ lines.targets.0))))

  -- the digits are read
  one_read : lower_name_in (hex x.1) ≡ Some x.1
  unfolding lower_name_in
  one_read =
      let name = passes _ lines.targets.0 in
      ap (λ b. cond b (Some (unhex (hex x.1))) None) (is_true _ (hex_text x.1 name)) ∙ ap Some (unhex_hex x.1 (bytes_name x.1 name))

  -- and the others stand behind it
  pub others : AreLines (refs_text xs) xs
  others = record {
    spelled = refl;
    names = lines.names.1;
    targets = lines.targets.1;
    sorted = is_true _ (second (below_all byte_cmp x.0 xs) (is_sorted byte_cmp xs) (passes _ lines.sorted));
  }

-- ---- each step

-- lines end with a last one
pub never_none : (rest : Bytes) (refs : List (Bytes × Bytes)) → AreLines rest refs → cut_at 10 rest ≡ None → ⊥
never_none rest [] h e = let l = sym (ap (cut_at 10) h.spelled ∙ last_line) ∙ e in cc
never_none rest (x ∷ xs) h e = let l = sym (one_line rest x xs h) ∙ e in cc

-- a line without a space is the last one
pub none_left : (name rest line behind : Bytes) (refs : List (Bytes × Bytes)) → AreLines rest refs → cut_at 10 rest ≡ Some (line, behind) → cut_at 32 line ≡ None → lookup (same_bytes name) refs ≡ None
none_left name rest line behind [] h c s = refl
none_left name rest line behind (x ∷ xs) h c s =
    let is = some_is (line, behind) (hex x.1 ++ 32 ∷ x.0, refs_text xs) (sym c ∙ one_line rest x xs h) in
    let l = sym (one_cut rest x xs h) ∙ ap (cut_at 32) (sym (ap (λ (p : Bytes × Bytes). p.0) is)) ∙ s in
    absurd (cc)

-- the parts of the line in front
pub record IsFirst (line behind digits called : Bytes) (refs : List (Bytes × Bytes)) : Type 0 where
  pub x : Bytes × Bytes
  pub xs : List (Bytes × Bytes)
  pub refs_are : refs ≡ x ∷ xs
  pub digits_are : digits ≡ hex x.1
  pub called_is : called ≡ x.0
  pub read : lower_name_in digits ≡ Some x.1
  pub behind_is : AreLines behind xs

pub is_first : (rest line behind digits called : Bytes) (refs : List (Bytes × Bytes)) → AreLines rest refs → cut_at 10 rest ≡ Some (line, behind) → cut_at 32 line ≡ Some (digits, called) → IsFirst line behind digits called refs
is_first rest line behind digits called [] h c s =
    let is = some_is (line, behind) (codes "end", []) (sym c ∙ ap (cut_at 10) h.spelled ∙ last_line) in
    let l = sym no_space ∙ ap (cut_at 32) (sym (ap (λ (p : Bytes × Bytes). p.0) is)) ∙ s in
    absurd (cc)
is_first rest line behind digits called (x ∷ xs) h c s =
    let is = some_is (line, behind) (hex x.1 ++ 32 ∷ x.0, refs_text xs) (sym c ∙ one_line rest x xs h) in
    let parts = some_is (digits, called) (hex x.1, x.0) (sym s ∙ ap (cut_at 32) (ap (λ (p : Bytes × Bytes). p.0) is) ∙ one_cut rest x xs h) in
    let digits_are : digits ≡ hex x.1 = ap (λ (p : Bytes × Bytes). p.0) parts in
    record {
      x = x;
      xs = xs;
      refs_are = refl;
      digits_are = digits_are;
      called_is = ap (λ (p : Bytes × Bytes). p.1) parts;
      read = ap lower_name_in digits_are ∙ one_read rest x xs h;
      behind_is = subst (λ z. AreLines z xs) (sym (ap (λ (p : Bytes × Bytes). p.1) is)) (others rest x xs h);
    }

-- the ref of this name is in front
pub found_here : (name rest line behind digits called : Bytes) (refs : List (Bytes × Bytes)) → AreLines rest refs → cut_at 10 rest ≡ Some (line, behind) → cut_at 32 line ≡ Some (digits, called)
    → same_bytes called name ≡ true → lower_name_in digits ≡ lookup (same_bytes name) refs
found_here name rest line behind digits called refs h c s e =
    let f = is_first rest line behind digits called refs h c s in
    let same : name ≡ f.x.0 = sym (same_is called name (passes _ e)) ∙ f.called_is in
    f.read ∙ sym (ap (λ b. cond b (Some f.x.1) (lookup (same_bytes name) f.xs)) (is_true _ (is_same name f.x.0 same))) ∙ ap (lookup (same_bytes name)) (sym f.refs_are)

-- another ref is in front
pub found_behind : (name rest line behind digits called : Bytes) (refs all : List (Bytes × Bytes)) → AreLines rest refs → lookup (same_bytes name) all ≡ lookup (same_bytes name) refs → cut_at 10 rest ≡ Some (line, behind)
    → cut_at 32 line ≡ Some (digits, called) → same_bytes called name ≡ false → AreLeft name behind all
found_behind name rest line behind digits called refs all h so_far c s e =
    let f = is_first rest line behind digits called refs h c s in
    record {
      left = f.xs;
      lines = f.behind_is;
      same = so_far ∙ ap (lookup (same_bytes name)) f.refs_are ∙ other name called f.x f.xs f.called_is e;
    }
  where
    other : (name called : Bytes) (x : Bytes × Bytes) (xs : List (Bytes × Bytes)) → called ≡ x.0 → same_bytes called name ≡ false → lookup (same_bytes name) (x ∷ xs) ≡ lookup (same_bytes name) xs
    other name called x xs j e = by (same_bytes name x.0) refl
      where
        by : (b : Bool) → same_bytes name x.0 ≡ b → cond b (Some x.1) (lookup (same_bytes name) xs) ≡ lookup (same_bytes name) xs
        by false i = refl
        by true i =
            let same : called ≡ name = j ∙ sym (same_is name x.0 (passes _ i)) in
            let l = sym (is_true _ (is_same called name same)) ∙ e in
            absurd (cc)

-- what is behind a line is shorter
pub behind_short : (rest line behind : Bytes) → cut_at 10 rest ≡ Some (line, behind) → length behind < length rest
behind_short rest line behind c = let l = ap length (cut_spelled 10 rest (line, behind) c) ∙ length-append line (10 ∷ behind) in omega arith
