-- What refs hold is marked, line by line, and with it what names are asked for and what all these reach.
use Rattle.std.proofs.Common.{◌≡◌, ℕ, ◌<◌, Bool, false, List, [], ◌∷◌, ◌++◌, length, length-append, replicate, Option, Some, None, Ok, Err, Result, refl, sym, ap, ◌∙◌, subst, arith}
use Rattle.std.specs.Prelude.{◌≢◌, IfSome, IsTrue, OnOk, ⊤}
use Rattle.std.specs.Bool.{passes}
use Rattle.std.specs.List.{AllByRecursion, flat_map, list_all}
use Rattle.std.specs.Option.{ok_or}
use Rattle.gx_model.specs.declared.objects.Kind.{Kind}
use Rattle.gx_model.specs.declared.store_faults.FileFault.{FileFault}
use Rattle.gx_model.specs.declared.store_faults.FileFault.TheVariants as model
use Rattle.gx_model.specs.Histories.{Records}
use Rattle.gx_model.specs.Objects.{IsNamer, hex, is_name}
use Rattle.gx_model.specs.Records.Publishing.{Ref}
use Rattle.gx_model.specs.Records.Sound.{IsSound}
use Rattle.gx_model.specs.Stores.StoreReading.{Stored, ref_line}
use Rattle.gx_model.specs.Stores.StoreText.{stored_ref}
use Rattle.gx_model.specs.Texts.{Bytes, cut_at}
use Rattle.gx_model.specs.Texts.RefNames.{is_ref_name}
use Rattle.gx_model.proofs.ObjectTexts.NameDigits.{name_again}
use Rattle.gx_model.proofs.Records.OneHistory.{hex_line}
use Rattle.gx_model.proofs.Records.ReadRecords.{hex_text}
use Rattle.gx_model.proofs.Stores.StoreTexts.{word_line_read}
use Rattle.gx_model.proofs.Streams.CommandFields.{link_no_space}
use Rattle.gx_model.proofs.Texts.Cuts.{cut_after, cut_spelled}
use Rattle.gx_model.proofs.Texts.LineTexts.{ref_is_line}
use Rattle.gx_model.proofs.Texts.PathTests.{first, is_true, second}
use Rattle.gx_lines.specs.Reads.{IsFaultOf}
use Rattle.gx_file.specs.Gathering.{first_ref, ref_of_line, with_rest}
use Rattle.gx_file.proofs.SetRefs.{line_read}
use Rattle.gx_objects.specs.Answers.{AreRefs}
use Rattle.gx_model.proofs.Stores.StoredRefs.{targets_name}
use Rattle.std.specs.Prelude.{T}
use Rattle.gx_repo.specs.Pruning.{Spreads, is_kept_beside, marks_by, objects_held, tips_of}
use Rattle.gx_repo.proofs.PrunedRecords.{names_marked, none_marked, tips_marked}
use Rattle.gx_listed.specs.Listings.{Listed, ListsIfTold}
use Rattle.gx_kept.specs.Marking.{IsBelow, MarksHeld}
use Rattle.gx_kept.proofs.ListedRecords.{same_length, tips_below}
use Rattle.gx_kept.proofs.SetMarks.{MarksListedSoFar, listed_all, listed_next, listed_none, next_has}

-- ---- refs

pub refs_are : (name : Kind → Bytes → Bytes) → IsNamer name → (r : Records) → IsSound name r → AreRefs r.refs
refs_are name namer r sound = record {
  sorted = sound.sorted;
  names = sound.ref_names;
  objects = named r.refs (targets_name name namer r.records sound.distinct sound.named r.refs sound.held);
}
  where
    named : (refs : List (Bytes × Bytes)) → AllByRecursion (λ ref. T (is_name ref.1)) refs → AllByRecursion (λ ref. IsTrue (is_name ref.1)) refs
    named [] h = tt
    named (x ∷ xs) h = (is_true _ h.0, named xs h.1)

-- ---- one line

-- the first line is that of the first ref
first_is : (ref : Ref) (rest : Bytes) → IsTrue (is_name ref.1) → IsTrue (is_ref_name ref.0) → first_ref (stored_ref ref ++ rest) ≡ Ok (ref, rest)
unfolding first_ref
first_is ref rest n r =
    let cut = cut_after 32 (hex ref.1) ref.0 (link_no_space (hex ref.1) (is_true _ (hex_text ref.1 (passes _ n)))) in
    ap ref_of_line (word_line_read (hex ref.1) ref.0 rest (hex_line ref.1) (passes _ (ref_is_line ref.0 r)))
    ∙ ap (λ o. with_rest rest o) (line_read (hex ref.1 ++ 32 ∷ ref.0) (hex ref.1) ref.0 ref.1 _ (sym cut) (sym (name_again ref.1 n)) r)

-- what follows it is shorter
pub rest_shorter : (text : Bytes) (x : Ref × Bytes) → first_ref text ≡ Ok x → length x.1 < length text
unfolding first_ref
rest_shorter text x e = by (cut_at 10 text) refl e
  where
    named : (l : Bytes × Bytes) (o : Option Ref) → with_rest l.1 o ≡ Ok x → x.1 ≡ l.1
    named l None f = absurd cc
    named l (Some ref) f = let same : ◌≡◌ {A = Ref × Bytes} (ref, l.1) x = cc f in sym (ap (λ (y : Ref × Bytes). y.1) same)

    by : (o : Option (Bytes × Bytes)) → cut_at 10 text ≡ o → ref_of_line (ok_or o model.Truncated) ≡ Ok x → length x.1 < length text
    by None k f = absurd cc
    by (Some l) k f =
        let long = ap length (cut_spelled 10 text l k) ∙ length-append l.0 (10 ∷ l.1) in
        let same = ap length (named l (ref_line l.0) f) in
        omega (arith, long, same)

-- no line is read for want of memory
pub fault_is : {Y : Type 0} (fault : FileFault) (given : Stored Y) → fault ≢ model.OutOfMemory → IsFaultOf fault given → given ≡ Err fault
fault_is model.OutOfMemory given apart h = absurd (apart refl)
fault_is model.BadMagic given apart h = h
fault_is model.BadVersion given apart h = h
fault_is model.Truncated given apart h = h
fault_is model.BadRecord given apart h = h
fault_is model.NameMismatch given apart h = h
fault_is model.DuplicateObject given apart h = h
fault_is model.Dangling given apart h = h
fault_is model.BadObject given apart h = h
fault_is model.BadRef given apart h = h
fault_is model.RefOrder given apart h = h
fault_is model.TrailingBytes given apart h = h

-- ---- one after the other

-- a ref as a repository may have it
abbrev IsProper : Ref → Type 0
IsProper ref = IsTrue (is_name ref.1) × IsTrue (is_ref_name ref.0)

all_proper : (refs : List Ref) → AllByRecursion (λ ref. IsTrue (is_name ref.1)) refs → IsTrue (list_all (λ ref. is_ref_name ref.0) refs) → AllByRecursion IsProper refs
all_proper [] h n = tt
all_proper (x ∷ xs) h n = ((h.0, is_true _ (first (is_ref_name x.0) (list_all (λ ref. is_ref_name ref.0) xs) (passes _ n))), all_proper xs h.1 (is_true _ (second (is_ref_name x.0) (list_all (λ ref. is_ref_name ref.0) xs) (passes _ n))))

module _ (listed : List Listed) (refs : List Ref) (old : List Bool) where
  -- what the first refs hold was marked, and the lines of the others are left
  pub record TipsSoFar (rest : Bytes) (now : List Bool) : Type 0 where
    pub left : List Ref
    pub proper : AllByRecursion IsProper left
    pub lines : rest ≡ flat_map stored_ref left
    pub marks : MarksListedSoFar listed (objects_held refs) (objects_held left) old now

  pub tips_begun : (text : Bytes) → AreRefs refs → text ≡ flat_map stored_ref refs → TipsSoFar text old
  tips_begun text are e = record { left = refs; proper = all_proper refs are.objects are.names; lines = e; marks = listed_none listed (objects_held refs) old }

  module _ (rest : Bytes) (now : List Bool) (h : TipsSoFar rest now) where
    module _ (ref : Ref) (behind : Bytes) (read : first_ref rest ≡ Ok (ref, behind)) where
      -- the ref that is read is the first that is left
      record IsNext : Type 0 where
        others : List Ref
        left_is : h.left ≡ ref ∷ others
        behind_is : behind ≡ flat_map stored_ref others

      next : IsNext
      next = by h.left refl h.proper h.lines
        where
          by : (left : List Ref) → h.left ≡ left → AllByRecursion IsProper left → rest ≡ flat_map stored_ref left → IsNext
          by [] s p t = absurd (let l = rest_shorter rest (ref, behind) read in let n = ap length t in omega (arith, l, n))
          by (x ∷ xs) s p t =
              let k : ◌≡◌ {A = Stored (Ref × Bytes)} (Ok (ref, behind)) (Ok (x, flat_map stored_ref xs)) = sym read ∙ ap first_ref t ∙ first_is x (flat_map stored_ref xs) p.0.0 p.0.1 in
              let same : ◌≡◌ {A = Ref × Bytes} (ref, behind) (x, flat_map stored_ref xs) = cc k in
              record { others = xs; left_is = s ∙ ap (λ (y : Ref × Bytes). y.0 ∷ xs) (sym same); behind_is = ap (λ (y : Ref × Bytes). y.1) same }

      ahead : MarksListedSoFar listed (objects_held refs) (ref.1 ∷ objects_held next.others) old now
      ahead = subst (λ left. MarksListedSoFar listed (objects_held refs) (objects_held left) old now) next.left_is h.marks

      -- what it holds is marked
      pub tip_marked : (new : List Bool) → MarksHeld listed (ref.1 ∷ []) now new → TipsSoFar behind new
      tip_marked new m = record {
        left = next.others;
        proper = (subst (AllByRecursion IsProper) next.left_is h.proper).1;
        lines = next.behind_is;
        marks = listed_next listed (objects_held refs) (objects_held next.others) ref.1 old now new ahead m;
      }

      -- or it isn't listed
      pub tip_refused : (limit : ℕ) → (IsBelow listed limit ref.1 → ⊥) → AllByRecursion (IsBelow listed limit) (objects_held refs) → ⊥
      tip_refused limit unlisted all = unlisted (next_has (IsBelow listed limit) listed (objects_held refs) (objects_held next.others) ref.1 old now ahead all)

    -- where no line is left all were
    pub tips_done : (fault : FileFault) → first_ref rest ≡ Err fault → MarksHeld listed (objects_held refs) old now
    tips_done fault e = by h.left refl h.proper h.lines
      where
        by : (left : List Ref) → h.left ≡ left → AllByRecursion IsProper left → rest ≡ flat_map stored_ref left → MarksHeld listed (objects_held refs) old now
        by [] s p t = listed_all listed (objects_held refs) old now (subst (λ left. MarksListedSoFar listed (objects_held refs) (objects_held left) old now) s h.marks)
        by (x ∷ xs) s p t =
            let k : ◌≡◌ {A = Stored (Ref × Bytes)} (Err fault) (Ok (x, flat_map stored_ref xs)) = sym e ∙ ap first_ref t ∙ first_is x (flat_map stored_ref xs) p.0.0 p.0.1 in absurd (cc k)

-- ---- all that is kept

module _ (name : Kind → Bytes → Bytes) (namer : IsNamer name) (stands : ℕ → ℕ) (listed : List Listed) (lines : Bytes) (told : Option Records)
    (sound : IfSome told (IsSound name)) (lists : ListsIfTold told stands listed) (are_lines : IfSome told (λ r. lines ≡ flat_map stored_ref r.refs)) where
  -- what refs and these names reach is marked
  pub marks_are : {E : Type 0} (names : List Bytes) (none tips kept marks : List Bool) → none ≡ replicate (length listed) false → ((refs : List Ref) → AreRefs refs → lines ≡ flat_map stored_ref refs → MarksHeld listed (objects_held refs) none tips)
      → MarksHeld listed names tips kept → (result : Result (Unit {0}) E) → IfSome told (λ r. OnOk result (Spreads r.records kept marks)) → IfSome told (λ r. OnOk result (marks ≡ marks_by (is_kept_beside names r) r.records))
  marks_are names none tips kept marks fresh held beside (Err fault) spreads = nothing told
    where
      nothing : (o : Option Records) → IfSome o (λ r. ⊤)
      nothing None = tt
      nothing (Some r) = tt
  marks_are names none tips kept marks fresh held beside (Ok done) spreads = by told sound lists are_lines spreads
    where
      by : (o : Option Records) → IfSome o (IsSound name) → ListsIfTold o stands listed → IfSome o (λ r. lines ≡ flat_map stored_ref r.refs) → IfSome o (λ r. Spreads r.records kept marks)
          → IfSome o (λ r. marks ≡ marks_by (is_kept_beside names r) r.records)
      by None s l e m = tt
      by (Some r) s l e m =
          let at_first : none ≡ marks_by (λ n. false) r.records = fresh ∙ ap (λ n. replicate n false) (same_length listed r.records l.heads) ∙ none_marked r.records in
          let by_refs = tips_marked r.refs r.records none tips at_first (held r.refs (refs_are name namer r s) e r.records l.heads s.distinct) in
          m (r.refs ++ tips_of names) (names_marked r.refs names r.records tips kept by_refs (beside r.records l.heads s.distinct))

  -- a ref of a repository holds an object that is listed
  pub tips_untold : ((refs : List Ref) → AreRefs refs → lines ≡ flat_map stored_ref refs → AllByRecursion (IsBelow listed (length listed)) (objects_held refs) → ⊥) → told ≡ None
  tips_untold refused = by told sound lists are_lines
    where
      by : (o : Option Records) → IfSome o (IsSound name) → ListsIfTold o stands listed → IfSome o (λ r. lines ≡ flat_map stored_ref r.refs) → o ≡ None
      by None s l e = refl
      by (Some r) s l e = absurd (refused r.refs (refs_are name namer r s) e (tips_below name r s listed l.heads))
