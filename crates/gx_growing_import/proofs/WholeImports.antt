-- What a small repository takes from a text, brought to the whole one.
use Rattle.std.proofs.Common.{◌≡◌, List, length, sym, ap, subst, ◌∙◌, Option, None, Some, arith}
use Rattle.std.specs.Prelude.{ℕ, Bool, ◌++◌, ◌+◌, ◌-◌, drop, IfSome}
use Rattle.std.proofs.lemmas.List.{length-append, length-map}
use Rattle.std.specs.List.{flat_map}
use Rattle.gx_model.specs.declared.features.Features.{Features}
use Rattle.gx_model.specs.declared.objects.Kind.{Kind}
use Rattle.gx_model.specs.Texts.{Bytes}
use Rattle.gx_model.specs.Histories.{History, Record, Records, StandsFor, record_of}
use Rattle.gx_model.specs.Laws.RepositoryLaws.{HistoriesOf}
use Rattle.gx_model.specs.Records.Growth.{put_all}
use Rattle.gx_model.specs.Records.HistoryOf.{history_of}
use Rattle.gx_model.specs.Records.Publishing.{with_changes}
use Rattle.gx_model.specs.Records.Sound.{IsSound}
use Rattle.gx_model.specs.Replay.{finished}
use Rattle.gx_model.specs.Stores.StoreText.{stored_ref}
use Rattle.gx_model.specs.Streams.Grammar.{commands_asked}
use Rattle.gx_model.specs.Streams.Items.{items_of}
use Rattle.gx_asked.specs.Asking.{AskAmong, texts_of}
use Rattle.gx_asked.specs.declared.asked.Asked.{Asked}
use Rattle.gx_import.specs.Imports.{report_of}
use Rattle.gx_import.specs.declared.report.Report.{Report}
use Rattle.gx_stand_ins.specs.SmallRepositories.{IsSmallOf, stand_name}
use Rattle.gx_stand_ins.specs.StandInLaws.{StandInsBring}
use Rattle.gx_stand_ins.specs.declared.bodies.TheConstants.{NONCE}
use Rattle.gx_stand_ins.specs.declared.stand_in.StandIn.{StandIn}
use Rattle.gx_growing_import.specs.Alike.{AreAlike}
use Rattle.gx_growing_import.specs.Importing.{GivesTold, TakesText}
use Rattle.gx_growing_import.proofs.AlikeTexts.{among_alike}

-- what holds by the names of a small repository's namer
pub small_named : {N : Type 0} (names : N → Kind → Bytes → Bytes) (P : (Kind → Bytes → Bytes) → Type 0) (s : StandIn N) (namer : N) → s ≡ record { namer = namer; nonce = NONCE }
    → P (stand_name s.nonce (names s.namer)) → P (stand_name NONCE (names namer))
small_named {N} names P s namer e h = subst (λ (t : StandIn N). P (stand_name t.nonce (names t.namer))) e h

-- as many records stand for a history as it has values
values_counted : (name : Kind → Bytes → Bytes) (r : Records) (h : History) → StandsFor name r h → length h.values ≡ length r.records
values_counted name r h s = sym (ap length s.records ∙ length-map h.values (record_of name))

module _ (name : Kind → Bytes → Bytes) (laws : HistoriesOf name) (brings : StandInsBring name) (asks : Features) (text : Bytes) (fails : Bool) where
  -- the new values are as many as the new records
  new_counted : (whole : Records) → IsSound name whole → (new : List Record) (refs : List (Bytes × Bytes)) (k : History)
      → StandsFor name (record { records = whole.records ++ new; refs = refs }) k → length k.values - length (history_of whole).values ≡ length new
  new_counted whole sound new refs k s =
      let now : length k.values ≡ length whole.records + length new = values_counted name _ k s ∙ length-append whole.records new in
      let was : length (history_of whole).values ≡ length whole.records = values_counted name whole (history_of whole) (laws.stands whole sound) in
      omega (arith, now, was)

  -- what was made of the small repository gives the new records and refs of the one that is told
  pub gives_told : (told : Option Records) (small small_now : Records) (refs : List (Bytes × Bytes)) {A : Type 0} (asked : Asked A)
      → IfSome told (IsSound name) → IsSound (stand_name NONCE name) small → IfSome told (λ whole. IsSmallOf NONCE whole small) → IfSome told (λ whole. refs ≡ whole.refs)
      → AskAmong (texts_of asked.branches.keys) (texts_of asked.bases.keys) asks text fails → IfSome told (λ whole. AreAlike name whole small asked)
      → (progress : Bytes) (report : Report) → TakesText (stand_name NONCE name) asks small small_now text fails progress report
      → (new : List Record) → IfSome told (λ whole. put_all whole.records (drop (length small.records) small_now.records) ≡ Some (whole.records ++ new))
      → (lines : Bytes) (count : ℕ) → lines ≡ flat_map stored_ref (with_changes refs small_now.refs) → count ≡ length (with_changes refs small_now.refs)
      → GivesTold name asks told text fails new lines count progress (record report { objects = length new })
  gives_told None small small_now refs asked sound small_sound of_whole same among alike progress report takes new puts lines count spelled counted = tt
  gives_told (Some whole) small small_now refs asked sound small_sound of_whole same among alike progress report takes new puts lines count spelled counted =
      let after = with_changes whole.refs small_now.refs in
      let grown : Records = record { records = whole.records ++ new; refs = after } in
      let asks_alike = among_alike name whole small (texts_of asked.branches.keys) (texts_of asked.bases.keys) alike.branches alike.bases (commands_asked asks (items_of text fails)).list among in
      let law = brings NONCE whole small small_now sound small_sound of_whole asks text fails asks_alike (history_of small_now) progress (report_of report) takes.accepted takes.stands in
      let k : History = law.0 in
      let s : StandsFor name grown k = law.2 (whole.records ++ new) puts in
      let one : k ≡ history_of grown = laws.one grown k s in
      record {
        named = after;
        lines = subst (λ rs. lines ≡ flat_map stored_ref (with_changes rs small_now.refs)) same spelled;
        counted = subst (λ rs. count ≡ length (with_changes rs small_now.refs)) same counted;
        takes = record {
          accepted = law.1 ∙ (λ i. finished (one i) progress (record (report_of report) { objects = new_counted whole sound new after k s i }));
          stands = subst (λ h. StandsFor name grown h) one s;
        };
        sound = laws.sound grown k s;
      }
