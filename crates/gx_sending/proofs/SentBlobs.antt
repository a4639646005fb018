-- The blobs of files, sent one after another, each once.
use Rattle.std.proofs.Common.{◌≡◌, ◌≢◌, ℕ, suc, ◌+◌, ◌<◌, ◌≤◌, true, false, not, cond, List, [], ◌∷◌, ◌++◌, length, take, drop, get_or, Option, None, Some, Result, Ok, Err, refl, sym, ap, ◌∙◌, subst, arith, rules, append_assoc}
use denote.Enum.Bare.{same_true, sameb}
use Rattle.std.specs.Prelude.{IfErr, IfSome, OnOk, is_some}
use Rattle.std.specs.List.{AllByRecursion}
use Rattle.std.proofs.lemmas.List.{append-nil, map-append, take_all}
use Rattle.gx_model.specs.declared.objects.Kind.{Kind}
use Rattle.gx_model.specs.declared.objects.Kind.TheVariants as kinds
use Rattle.gx_model.specs.contracts.objects.Mode.{the_type}
use Rattle.gx_model.specs.declared.objects.Mode.{Mode}
use Rattle.gx_model.specs.declared.objects.Mode.TheVariants.{Gitlink}
use Rattle.gx_model.specs.Export.{blob_commands, command_items, items_text, with_blobs}
use Rattle.gx_model.specs.Histories.Values.{Value, blob_value}
use Rattle.gx_model.specs.Histories.{Records, is_in}
use Rattle.gx_model.specs.Objects.{IsNamer}
use Rattle.gx_model.specs.Records.{body_of}
use Rattle.gx_model.specs.Records.HistoryOf.{bytes_of_blob, named_values}
use Rattle.gx_model.specs.Records.Sound.{IsSound}
use Rattle.gx_model.specs.Texts.{Bytes}
use Rattle.gx_model.proofs.ObjectTexts.OneTree.{all_right}
use Rattle.gx_model.proofs.Records.HeldValues.{holds_held, kind_held}
use Rattle.gx_object.specs.declared.name.Name.{Name}
use Rattle.gx_objects.specs.declared.objects.Object.{Object}
use Rattle.gx_rev.specs.Objects.{IsHeldAs, value_at}
use Rattle.gx_questions.specs.Answers.{RefusesUntold}
use Rattle.gx_questions.specs.Objects.{IsObjectAt}
use Rattle.gx_questions.specs.declared.fault.AskFault.{AskFault}
use Rattle.gx_questions.specs.declared.fault.AskFault.TheVariants as ask
use Rattle.gx_export.specs.FileTexts.{bytes_in}
use Rattle.gx_export.specs.Outputs.{Sent, Writes}
use Rattle.gx_export.specs.Texts.{blob_under, command_text, items_of}
use Rattle.gx_export.specs.declared.fault.ExportFault.{ExportFault}
use Rattle.gx_export.proofs.BlobLists.{blob_items_append, blobs_append, bytes_append, denied, one_bytes}
use Rattle.gx_export.proofs.CommitLines.{file_held}
use Rattle.gx_export.proofs.Numbering.{blob_is}
use Rattle.gx_differences.specs.Differences.{HaveFiles, IsHeldFile, shown_files}
use Rattle.gx_differences.specs.declared.differences.ChangedFile.{ChangedFile}
use Rattle.gx_sending.specs.Faults.{IsOnTheWay, of_ask, of_export, stop}
use Rattle.gx_sending.specs.Files.{blobs_at}
use Rattle.gx_sending.specs.Marks.{AddsBlobs, Adds, HasWritten, IsNextMark, IsWritten, WritesValue, mark_at}
use Rattle.gx_sending.specs.declared.fault.SendFault.{SendFault}
use Rattle.gx_sending.specs.declared.fault.SendFault.TheVariants.{OutOfMemory, ReadFailed, Damaged}
use Rattle.gx_sending.specs.declared.written.Written.{Written}
use Rattle.gx_sending.proofs.Marks.{has_mark}
use Rattle.gx_sending.proofs.Sending.{adds_later, adds_nothing, listed_parts, next_listed, sink_fails, still_written, stops_behind, stops_here, stops_sooner}

-- ---- tests of modes

pub not_link : (mode : Mode) → true ≡ not (sameb the_type mode Gitlink) → mode ≢ Gitlink
not_link mode e q = let f : true ≡ false = e ∙ ap (λ m. not (sameb the_type m Gitlink)) q in cc f

pub is_link : (mode : Mode) → false ≡ not (sameb the_type mode Gitlink) → mode ≡ Gitlink
is_link mode e = same_true the_type (search rules) mode Gitlink (denied (sameb the_type mode Gitlink) e)

-- ---- one blob

module _ (ws : List Value) (x : Bytes) where
  old_blob : is_in ws (blob_value x) ≡ true → (with_blobs ws (x ∷ []) ≡ ws) × (items_of (blob_commands ws (x ∷ [])) ≡ [])
  old_blob e = (
    ap (λ b. cond b ws (blob_value x ∷ ws)) e,
    ap (λ b. items_of (cond b [] (blob_under (suc (length ws)) x ∷ []))) e,
  )

  new_blob : is_in ws (blob_value x) ≡ false → (with_blobs ws (x ∷ []) ≡ blob_value x ∷ ws) × (items_of (blob_commands ws (x ∷ [])) ≡ command_items (blob_under (suc (length ws)) x))
  new_blob e = (
    ap (λ b. cond b ws (blob_value x ∷ ws)) e,
    ap (λ b. items_of (cond b [] (blob_under (suc (length ws)) x ∷ []))) e ∙ append-nil (command_items (blob_under (suc (length ws)) x)),
  )

module _ {W A : Type 0} (name : Kind → Bytes → Bytes) (namer : IsNamer name) (r : Records) (sound : IsSound name r) (n : Name) (held : IsHeldAs kinds.Blob r n) (ws : List Value) (old : Written W A) (h : HasWritten r ws old) where
  abbrev bytes : Bytes
  bytes = bytes_of_blob (value_at r n)

  value_is : value_at r n ≡ blob_value bytes
  value_is = blob_is name (value_at r n) (kind_held name namer r sound kinds.Blob n.bytes held).1

  -- it was written where it has a mark
  was_written : (found : Option ℕ) → found ≡ mark_at old n.bytes → is_in ws (blob_value bytes) ≡ is_some found
  was_written found e =
      let mark = e ∙ h.marks n (kind_held name namer r sound kinds.Blob n.bytes held).0 in
      ap (is_in ws) (sym value_is) ∙ sym (has_mark ws (value_at r n)) ∙ ap is_some (sym mark)

  blob_stays : is_in ws (blob_value bytes) ≡ true → AddsBlobs ws (bytes ∷ []) old old (Ok tt) r
  blob_stays e =
      let o = old_blob ws bytes e in
      subst (λ us. Adds us (items_of (blob_commands ws (bytes ∷ []))) old old (Ok tt) r) (sym o.0) (subst (λ is. Adds ws is old old (Ok tt) r) (sym o.1) (adds_nothing r ws old h))

  module _ (none : is_in ws (blob_value bytes) ≡ false) (mark : ℕ) (body : Bytes) (next : mark ≡ length ws + 1) (same : body ≡ bytes) where
    blob_text : command_text (blob_under mark body) ≡ items_text (items_of (blob_commands ws (bytes ∷ [])))
    blob_text =
        let step : mark ≡ suc (length ws) = omega (arith, next) in
        (λ i. command_text (blob_under (step i) (same i))) ∙ ap items_text (sym (new_blob ws bytes none).1)

    blob_fails : (after : Sent) (e : ExportFault) → Writes old.output after (command_text (blob_under mark body)) (Err e) → AddsBlobs ws (bytes ∷ []) old (record old { output = after }) (Err (of_export e)) r
    blob_fails after e k = sink_fails r (with_blobs ws (bytes ∷ [])) (items_of (blob_commands ws (bytes ∷ []))) old after e (subst (λ t. Writes old.output after t (Err e)) blob_text k)

    blob_marked : (after : Sent) (new : Written W A) (result : Result (Unit {0}) SendFault) → Writes old.output after (command_text (blob_under mark body)) (Ok tt)
        → OnOk result (WritesValue n (record old { output = after }) new) → new.output ≡ after → IfErr result (λ fault. fault ≡ OutOfMemory) → AddsBlobs ws (bytes ∷ []) old new result r
    blob_marked after new (Ok u) k value out fault =
        let items = items_of (blob_commands ws (bytes ∷ [])) in
        let text = subst (λ t. Writes old.output after t (Ok tt)) blob_text k in
        let more : length ws < after.bytes = (let each = h.each in let l = k.1.0 in omega (arith, l, each)) in
        let all = value name r ws namer sound (kind_held name namer r sound kinds.Blob n.bytes held).0 (still_written r ws items old after h text) more in
        record {
          written = subst (λ us. HasWritten r us new) (ap (λ v. v ∷ ws) value_is ∙ sym (new_blob ws bytes none).0) all;
          told = tt;
          text = subst (λ s. Writes old.output s (items_text items) (Ok tt)) (sym out) text;
        }
    blob_marked after new (Err e) k value out fault =
        let told : e ≢ Damaged = λ q. (let o : OutOfMemory ≡ Damaged = sym fault ∙ q in cc o) in
        let text = subst (λ t. Writes old.output after t (Ok tt)) blob_text k in
        stops_behind r (with_blobs ws (bytes ∷ [])) (items_of (blob_commands ws (bytes ∷ []))) old (record old { output = after }) new e told (ap stop fault) out text

-- ---- of the repository that is told

-- of none nothing is said
pub untold : (told : Option Records) (P : Records → Type 0) → told ≡ None → IfSome told P
untold told P e = subst (λ t. IfSome t P) (sym e) tt

-- a question's fault
pub ask_told : (X : Type 0) (told : Option Records) (e : AskFault) → RefusesUntold {X = X} told (Err e) → IsOnTheWay {X = Unit {0}} told (Err (of_ask e))
ask_told X told ask.OutOfMemory h = tt
ask_told X told ask.ReadFailed h = tt
ask_told X told ask.Damaged h = h
ask_told X told (ask.Revision f) h = absurd h

module _ {W A : Type 0} (name : Kind → Bytes → Bytes) (namer : IsNamer name) (n : Name) (old : Written W A) where
  abbrev AddsOne : Option Records → Written W A → Result (Unit {0}) SendFault → Type 0
  AddsOne told new result = IfSome told (λ r. (ws : List Value) → HasWritten r ws old → AddsBlobs ws (bytes_of_blob (value_at r n) ∷ []) old new result r)

  pub one_stays : (told : Option Records) (found : Option ℕ) → IfSome told (IsSound name) → IfSome told (λ r. IsHeldAs kinds.Blob r n) → found ≡ mark_at old n.bytes → is_some found ≡ true → AddsOne told old (Ok tt)
  one_stays None found s k e b = tt
  one_stays (Some r) found s k e b = λ ws h. blob_stays name namer r s n k ws old h (was_written name namer r s n k ws old h found e ∙ b)

  pub one_asked : (X : Type 0) (told : Option Records) (e : AskFault) → RefusesUntold {X = X} told (Err e) → AddsOne told old (Err (of_ask e))
  one_asked X None e h = tt
  one_asked X (Some r) ask.OutOfMemory h = λ ws k. stops_here r _ _ old OutOfMemory (λ q. cc q) refl
  one_asked X (Some r) ask.ReadFailed h = λ ws k. stops_here r _ _ old ReadFailed (λ q. cc q) refl
  one_asked X (Some r) ask.Damaged h = absurd (cc h)
  one_asked X (Some r) (ask.Revision f) h = absurd h

  module _ (object : Object) (mark : ℕ) (next : IsNextMark old mark) (found : Option ℕ) (at : found ≡ mark_at old n.bytes) (none : is_some found ≡ false) (after : Sent) where
    body_is : (r : Records) → IsSound name r → IsHeldAs kinds.Blob r n → IsObjectAt name n r object → object.body.now ≡ bytes_of_blob (value_at r n)
    body_is r s k o = o.body ∙ ap (body_of name) (blob_is name (value_at r n) (kind_held name namer r s kinds.Blob n.bytes k).1)

    pub one_fails : (told : Option Records) (e : ExportFault) → IfSome told (IsSound name) → IfSome told (λ r. IsHeldAs kinds.Blob r n) → IfSome told (λ r. IsObjectAt name n r object)
        → Writes old.output after (command_text (blob_under mark object.body.now)) (Err e) → AddsOne told (record old { output = after }) (Err (of_export e))
    one_fails None e s k o w = tt
    one_fails (Some r) e s k o w = λ ws h.
        blob_fails name namer r s n k ws old h (was_written name namer r s n k ws old h found at ∙ none) mark object.body.now (next r ws h) (body_is r s k o) after e w

    pub one_marked : (told : Option Records) (new : Written W A) (result : Result (Unit {0}) SendFault) → IfSome told (IsSound name) → IfSome told (λ r. IsHeldAs kinds.Blob r n) → IfSome told (λ r. IsObjectAt name n r object)
        → Writes old.output after (command_text (blob_under mark object.body.now)) (Ok tt)
        → OnOk result (WritesValue n (record old { output = after }) new) → new.output ≡ after → IfErr result (λ fault. fault ≡ OutOfMemory) → AddsOne told new result
    one_marked None new result s k o w value out fault = tt
    one_marked (Some r) new result s k o w value out fault = λ ws h.
        blob_marked name namer r s n k ws old h (was_written name namer r s n k ws old h found at ∙ none) mark object.body.now (next r ws h) (body_is r s k o) after new result w value out fault

-- ---- all of them

module _ {A : Type 0} (r : Records) where
  pub blobs_behind : (fs gs : List (ChangedFile A)) → blobs_at r (fs ++ gs) ≡ blobs_at r fs ++ blobs_at r gs
  blobs_behind fs gs = ap (bytes_in (named_values r.records)) (map-append _ fs gs) ∙ bytes_append (named_values r.records) (shown_files fs) (shown_files gs)

  -- the file at a place
  pub held_file : (fs : List (ChangedFile A)) (i : ℕ) (f : ChangedFile A) → i < length fs → f ≡ get_or fs i f → HaveFiles fs r → IsHeldFile r (f.path, (f.mode, f.name.bytes))
  held_file fs i f l e h =
      let all = subst (λ gs. HaveFiles gs r) (listed_parts fs i f l e) h in
      (all_right (IsHeldFile r) (shown_files (take i fs)) (shown_files (f ∷ drop (suc i) fs)) (subst (AllByRecursion (IsHeldFile r)) (map-append _ (take i fs) (f ∷ drop (suc i) fs)) all)).0

  -- a gitlink has no blob
  no_blob : (f : ChangedFile A) → f.mode ≡ Gitlink → blobs_at r (f ∷ []) ≡ []
  no_blob f e = ap (λ m. bytes_in (named_values r.records) ((f.path, (m, f.name.bytes)) ∷ [])) e

  module _ {W : Type 0} (ws : List Value) (xs ys : List Bytes) (old mid new : Written W A) where
    both_blobs : (result : Result (Unit {0}) SendFault) → AddsBlobs ws xs old mid (Ok tt) r → AddsBlobs (with_blobs ws xs) ys mid new result r → AddsBlobs ws (xs ++ ys) old new result r
    both_blobs result h k =
        subst (λ us. Adds us (items_of (blob_commands ws (xs ++ ys))) old new result r) (sym (blobs_append ws xs ys))
        (subst (λ is. Adds (with_blobs (with_blobs ws xs) ys) is old new result r) (sym (blob_items_append ws xs ys))
        (adds_later r (with_blobs ws xs) (with_blobs (with_blobs ws xs) ys) (items_of (blob_commands ws xs)) (items_of (blob_commands (with_blobs ws xs) ys)) old mid new result h k))

    blobs_stop : (e : SendFault) → AddsBlobs ws xs old new (Err e) r → AddsBlobs ws (xs ++ ys) old new (Err e) r
    blobs_stop e h =
        subst (λ is. Adds (with_blobs ws (xs ++ ys)) is old new (Err e) r) (sym (blob_items_append ws xs ys))
        (stops_sooner r (with_blobs ws xs) (with_blobs ws (xs ++ ys)) (items_of (blob_commands ws xs)) (items_of (blob_commands (with_blobs ws xs) ys)) old new e h)

module _ {W A : Type 0} (files : List (ChangedFile A)) (first : Written W A) where
  -- the blobs of the first files went out
  abbrev pub AddsFirst : Option Records → ℕ → Written W A → Type 0
  AddsFirst told i now = IfSome told (λ r. (ws : List Value) → HasWritten r ws first → AddsBlobs ws (blobs_at r (take i files)) first now (Ok tt) r)

  pub none_first : (told : Option Records) → AddsFirst told 0 first
  none_first None = tt
  none_first (Some r) = λ ws h. adds_nothing r ws first h

  -- and of all of them
  pub all_first : (told : Option Records) (i : ℕ) → length files ≤ i → (now : Written W A) → AddsFirst told i now → IfSome told (λ r. (ws : List Value) → HasWritten r ws first → AddsBlobs ws (blobs_at r files) first now (Ok tt) r)
  all_first told i l now h = subst (λ fs. IfSome told (λ r. (ws : List Value) → HasWritten r ws first → AddsBlobs ws (blobs_at r fs) first now (Ok tt) r)) (take_all i files l) h

  -- what was written by then
  pub first_written : (told : Option Records) (i : ℕ) (now : Written W A) → IfSome told (IsWritten first) → AddsFirst told i now → IfSome told (IsWritten now)
  first_written None i now w h = tt
  first_written (Some r) i now w h = (with_blobs w.0 (blobs_at r (take i files)), (h w.0 w.1).written)

  module _ (i : ℕ) (f : ChangedFile A) (l : i < length files) (e : f ≡ get_or files i f) (now : Written W A) where
    pub next_link : (told : Option Records) → f.mode ≡ Gitlink → AddsFirst told i now → AddsFirst told (i + 1) now
    next_link None g h = tt
    next_link (Some r) g h = λ ws k.
        let same : blobs_at r (take (i + 1) files) ≡ blobs_at r (take i files) = ap (blobs_at r) (next_listed files i f l e) ∙ blobs_behind r (take i files) (f ∷ []) ∙ ap (λ t. blobs_at r (take i files) ++ t) (no_blob r f g) ∙ append-nil (blobs_at r (take i files)) in
        subst (λ bs. AddsBlobs ws bs first now (Ok tt) r) (sym same) (h ws k)

    module _ (name : Kind → Bytes → Bytes) (namer : IsNamer name) (link : f.mode ≢ Gitlink) where
      pub blob_there : (told : Option Records) → IfSome told (IsSound name) → IfSome told (HaveFiles files) → IfSome told (λ r. IsHeldAs kinds.Blob r f.name)
      blob_there None s h = tt
      blob_there (Some r) s h =
          let k = held_file r files i f l e h in
          holds_held name namer r s kinds.Blob f.name.bytes (file_held r.records f.mode f.name.bytes link k.file k.held)

      own_blob : (r : Records) → bytes_of_blob (value_at r f.name) ∷ [] ≡ blobs_at r (f ∷ [])
      own_blob r = sym (one_bytes (named_values r.records) f.path f.mode f.name.bytes link)

      both_first : (r : Records) (ws : List Value) (new : Written W A) (result : Result (Unit {0}) SendFault) → AddsBlobs ws (blobs_at r (take i files)) first now (Ok tt) r
          → ((us : List Value) → HasWritten r us now → AddsBlobs us (bytes_of_blob (value_at r f.name) ∷ []) now new result r) → AddsBlobs ws (blobs_at r (take i files) ++ blobs_at r (f ∷ [])) first new result r
      both_first r ws new result h k =
          let us = with_blobs ws (blobs_at r (take i files)) in
          both_blobs r ws (blobs_at r (take i files)) (blobs_at r (f ∷ [])) first now new result h (subst (λ bs. AddsBlobs us bs now new result r) (own_blob r) (k us h.written))

      pub next_blob : (told : Option Records) (new : Written W A) → AddsFirst told i now → AddsOne name namer f.name now told new (Ok tt) → AddsFirst told (i + 1) new
      next_blob None new h k = tt
      next_blob (Some r) new h k = λ ws w.
          subst (λ bs. AddsBlobs ws bs first new (Ok tt) r) (sym (ap (blobs_at r) (next_listed files i f l e) ∙ blobs_behind r (take i files) (f ∷ []))) (both_first r ws new (Ok tt) (h ws w) k)

      pub stops_at_blob : (told : Option Records) (new : Written W A) (fault : SendFault) → AddsFirst told i now → AddsOne name namer f.name now told new (Err fault)
          → IfSome told (λ r. (ws : List Value) → HasWritten r ws first → AddsBlobs ws (blobs_at r files) first new (Err fault) r)
      stops_at_blob None new fault h k = tt
      stops_at_blob (Some r) new fault h k = λ ws w.
          let fs = take i files ++ (f ∷ []) in
          let rest = drop (suc i) files in
          let all : blobs_at r files ≡ (blobs_at r (take i files) ++ blobs_at r (f ∷ [])) ++ blobs_at r rest =
          ap (blobs_at r) (listed_parts files i f l e ∙ sym (append_assoc (take i files) (f ∷ []) rest)) ∙ blobs_behind r fs rest ∙ ap (λ t. t ++ blobs_at r rest) (blobs_behind r (take i files) (f ∷ [])) in
          subst (λ bs. AddsBlobs ws bs first new (Err fault) r) (sym all)
          (blobs_stop r ws (blobs_at r (take i files) ++ blobs_at r (f ∷ [])) (blobs_at r rest) first now new fault (both_first r ws new (Err fault) (h ws w) k))
