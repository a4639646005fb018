-- What is appended is a segment that the text takes.
use Rattle.std.proofs.Common.{◌≡◌, ◌^◌, inl, inr, ℕ, ◌+◌, ◌<◌, Bool, List, ◌++◌, length, map, drop, sym, ap, subst, ◌∙◌, Option, Some}
use Rattle.std.proofs.lemmas.List.{take-append-drop}
use Rattle.sha2.specs.Sha256.{sha256}
use Rattle.gx_model.specs.declared.objects.Kind.{Kind}
use Rattle.gx_model.specs.Texts.{Bytes}
use Rattle.gx_model.specs.Histories.{Record, Records}
use Rattle.gx_model.specs.Laws.RepositoryLaws.{with_refs}
use Rattle.gx_model.specs.Records.Sound.{IsSound}
use Rattle.gx_model.specs.Objects.{IsNamer}
use Rattle.gx_growing.specs.GrowingText.{IsGrowingText, live_rows, segment_text, slot_text}
use Rattle.gx_growing.specs.GrowingLaws.{next_slot}
use Rattle.gx_growing_parts.specs.Endings.{IsEnding}
use Rattle.gx_growing_parts.specs.Shown.{shown_run}
use Rattle.gx_growing_parts.specs.declared.ending.Ending.{Ending}
use Rattle.gx_growing_parts.proofs.Digesters.{digester}
use Rattle.gx_append.specs.Appending as appends
use Rattle.gx_append.specs.Appending.{IsAsked, IsGrowth, IsReadAs, Shows}
use Rattle.gx_append.proofs.Readings.{before_read, growth_asked, segments_of}
use Rattle.gx_additions.specs.Additions.{AreLines, GivesRefs, IsCutBack, refs_alone}
use Rattle.gx_additions.specs.NewObjects.{BringsObjects, GivesAdditions, GivesObjects, IsBrought, new_objects}
use Rattle.gx_additions.proofs.NewRuns.{additions_taken}
use Rattle.gx_additions.proofs.OtherRefs.{refs_taken}

-- other refs
pub refs_growth : (name : Kind → Bytes → Bytes) (told : Option Bytes) (ending : Ending) (count : ℕ) (refs bytes slot : Bytes) (repository : Records) (named : List (Bytes × Bytes))
    → (g : GivesRefs name told ending count refs repository named) → bytes ≡ segment_text (refs_alone (map shown_run ending.runs.now) named)
    → slot ≡ slot_text (next_slot sha256 ending.ends (refs_alone (map shown_run ending.runs.now) named)) → ending.ends + length bytes < 2 ^ 63
    → IsGrowth name sha256 told ending.is_first ending.ends bytes slot repository (with_refs repository named)
refs_growth name told ending count refs bytes slot repository named g b s short =
    let runs = g.ends.runs in
    let is = b ∙ ap (λ rs. segment_text (refs_alone rs named)) runs in
    record {
      file = g.file;
      is = g.is;
      old = g.old;
      picks = g.ends.picks;
      ends_are = g.ends.ends;
      segment = refs_alone g.old.last.runs named;
      takes = refs_taken name sha256 g.file repository g.old named g.sound g.short (subst (λ n. n + length (segment_text (refs_alone g.old.last.runs named)) < 2 ^ 63) g.ends.ends (subst (λ z. ending.ends + length z < 2 ^ 63) is short));
      bytes_are = is;
      slot_is = s ∙ (λ i. slot_text (next_slot sha256 (g.ends.ends i) (refs_alone (runs i) named)));
    }

-- new objects, and other refs
module _ (name : Kind → Bytes → Bytes) (namer : IsNamer name) (told : Option Bytes) (ending : Ending) (bytes slot : Bytes) (repository new : Records) where
  brought_growth : (records : List Record) (file : Bytes) → told ≡ Some file → (old : IsGrowingText name sha256 file repository) → IsEnding old ending → new.records ≡ repository.records ++ records → IsSound name new
      → length file < 2 ^ 63 → BringsObjects told ending records new.refs bytes slot → IsGrowth name sha256 told ending.is_first ending.ends bytes slot repository new
  brought_growth records file is old ends more sound short brings =
      let b : IsBrought ending records new.refs bytes slot file = subst (λ t. BringsObjects t ending records new.refs bytes slot) is brings in
      let at = λ (n : ℕ). new_objects sha256 n b.kept (live_rows file b.taken) records new.refs in
      let spelled = b.segment_is ∙ ap (λ n. segment_text (at n)) ends.ends in
      record {
        file = file;
        is = is;
        old = old;
        picks = ends.picks;
        ends_are = ends.ends;
        segment = at old.slot.ends;
        takes = additions_taken name namer sha256 digester file repository new old b.kept b.taken records (b.runs ∙ ends.runs) more sound short
            (subst (λ n. n + length (segment_text (at old.slot.ends)) < 2 ^ 63) ends.ends (subst (λ z. ending.ends + length z < 2 ^ 63) spelled b.short));
        bytes_are = spelled;
        slot_is = b.slot_is ∙ ap (λ n. slot_text (next_slot sha256 n (at n))) ends.ends;
      }

  pub objects_growth : (held : ℕ) → GivesObjects name told ending repository new held → IsSound name new → BringsObjects told ending (drop held new.records) new.refs bytes slot
      → IsGrowth name sha256 told ending.is_first ending.ends bytes slot repository new
  objects_growth held g sound brings =
      brought_growth (drop held new.records) g.file g.is g.old g.ends (sym (take-append-drop held new.records) ∙ ap (λ z. z ++ drop held new.records) g.front) sound g.short brings

  pub additions_growth : (records : List Record) (count : ℕ) (refs : Bytes) → GivesAdditions name told ending records count refs repository new
      → ((named : List (Bytes × Bytes)) → AreLines named count refs → BringsObjects told ending records named bytes slot) → IsGrowth name sha256 told ending.is_first ending.ends bytes slot repository new
  additions_growth records count refs g brings = brought_growth records g.file g.is g.old g.ends g.more g.sound g.short (brings new.refs g.lines)

-- bytes that are those of a growth are one
pub same_growth : (name : Kind → Bytes → Bytes) (told : Option Bytes) (is_first : Bool) (ends : ℕ) (bytes other slot another : Bytes) (repository new : Records) → bytes ≡ other → slot ≡ another
    → IsGrowth name sha256 told is_first ends other another repository new → IsGrowth name sha256 told is_first ends bytes slot repository new
same_growth name told is_first ends bytes other slot another repository new e f g =
    subst (λ z. IsGrowth name sha256 told is_first ends z slot repository new) (sym e) (subst (λ z. IsGrowth name sha256 told is_first ends other z repository new) (sym f) g)

module _ (name : Kind → Bytes → Bytes) (namer : IsNamer name) (told : Option Bytes) (is_first : Bool) (ends : ℕ) (bytes slot : Bytes) (repository new : Records)
    (g : IsGrowth name sha256 told is_first ends bytes slot repository new) where
  -- the slot that is picked, and what stands behind the head
  abbrev pub slot_was : Bytes
  slot_was = slot_text g.old.slot

  abbrev pub all_was : Bytes
  all_was = segments_of name namer sha256 digester told is_first ends bytes slot repository new g

  pub is_asked : IsAsked told is_first ends slot slot_was all_was
  is_asked = growth_asked name namer sha256 digester told is_first ends bytes slot repository new g

  -- a file that shows the text is read as before
  pub still_read : (c : Bytes) → Shows is_first slot_was all_was c → IsReadAs name sha256 repository c
  still_read = before_read name namer sha256 digester told is_first ends bytes slot repository new g

  -- so is one that is cut back to its end
  pub cut_read : (now : Option Bytes) → appends.IsCutBack told now is_first slot_was all_was → IsCutBack name told now ends repository
  cut_read now (inl e) = inl e
  cut_read now (inr t) = inr (t.0, t.1, (still_read t.0 t.2.0, t.2.1 ∙ sym is_asked.ends_are))
