-- A growing text takes a segment that brings other refs alone.
use Rattle.std.proofs.Common.{◌^◌, ◌+◌, ◌<◌, refl, sym, ap, subst, ◌∙◌, List, [], ◌∷◌, ◌++◌, length, append-nil}
use Rattle.std.specs.List.{AllByRecursion}
use Rattle.gx_model.specs.declared.objects.Kind.{Kind}
use Rattle.gx_model.specs.Texts.{Bytes}
use Rattle.gx_model.specs.Histories.{Records}
use Rattle.gx_model.specs.Records.Sound.{IsSound}
use Rattle.gx_growing.specs.GrowingText.{IsGrowingText, StandsIn, head_length, head_text, live_rows, placed_rows, segment_text, sorted_rows}
use Rattle.gx_growing.proofs.ReadFronts.{head_long}
use Rattle.gx_append.specs.Appending.{Takes}
use Rattle.gx_additions.specs.Additions.{refs_alone}
use Rattle.gx_additions.proofs.OldTexts.{all_rows, all_stand, last_is, old_part, segments_of, up_to}

module _ (name : Kind → Bytes → Bytes) (digest : Bytes → Bytes) (text : Bytes) (repository : Records) (old : IsGrowingText name digest text repository) (refs : List (Bytes × Bytes))
    (sound : IsSound name (record { records = repository.records; refs = refs })) (was_short : length text < 2 ^ 63)
    (is_short : old.slot.ends + length (segment_text (refs_alone old.last.runs refs)) < 2 ^ 63) where
  abbrev added : Bytes
  added = segment_text (refs_alone old.last.runs refs)

  abbrev segments : Bytes
  segments = segments_of name digest text repository old

  abbrev old_head : Bytes
  old_head = head_text old.pick old.first old.second

  abbrev live_before : AllByRecursion (StandsIn digest (old_head ++ segments)) old.last.runs
  live_before = subst (λ z. AllByRecursion (StandsIn digest z) old.last.runs) (up_to name digest text repository old) old.live

  pub refs_taken : Takes name digest text repository (record { records = repository.records; refs = refs }) old (refs_alone old.last.runs refs)
  refs_taken = record {
    whole = record { table = refl; runs = (last_is name [] old.before old.last old.segments).runs };
    records = sym (append-nil repository.records);
    refs = refl;
    sound = sound;
    live = λ pick first second head.
        subst (λ z. AllByRecursion (StandsIn digest (head_text pick first second ++ (z ++ added))) old.last.runs) (sym (old_part name digest text repository old))
        (all_stand digest old_head (head_text pick first second) segments added (head_long old.pick old.first old.second old.head) (head_long pick first second head) old.last.runs live_before);
    told = λ pick first second head.
        ap (λ z. sorted_rows (live_rows (head_text pick first second ++ (z ++ added)) old.last.runs)) (old_part name digest text repository old)
        ∙ ap sorted_rows (all_rows digest old_head (head_text pick first second) segments added (head_long old.pick old.first old.second old.head) (head_long pick first second head) old.last.runs live_before)
        ∙ ap (λ z. sorted_rows (live_rows z old.last.runs)) (sym (up_to name digest text repository old))
        ∙ old.told
        ∙ ap sorted_rows (sym (append-nil (placed_rows head_length (old.before ++ old.last ∷ []))));
    was_short = was_short;
    is_short = is_short;
  }
