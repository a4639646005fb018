-- Adapting a stream, so far.
use Rattle.std.proofs.Common.{◌≡◌, ℕ, ◌+◌, ◌-◌, ◌<◌, ◌≤◌, ◌^◌, Bool, ◌⊎◌, inl, inr, Option, Some, None, Ok, Err, List, [], ◌∷◌, ◌++◌, length, reverse, refl, sym, ap, subst, ◌∙◌, arith, append_assoc, append-nil}
use Rattle.std.proofs.lemmas.List.{length_push}
use Rattle.gx_model.specs.Streams.Items.{Item as ModelItem, Stream, End, Finished, Failed, then_comes}
use Rattle.gx_model.specs.Texts.Sinks.{Taken, Took, FailedWithin}
use Rattle.gx_stream.specs.declared.item.Item.{Item}
use Rattle.gx_stream.specs.declared.fault.StreamFault.{StreamFault}
use Rattle.gx_stream.specs.declared.fault.StreamFault.TheVariants as stream
use Rattle.gx_stream.specs.Faults.{fault_of, ended}
use Rattle.gx_stream.specs.Reading.{Answers, AreOfText, MayCome, Seen, item_of}
use Rattle.gx_stream.proofs.Follows.{some_come}
use Rattle.gx_adapt.specs.Lines as lines
use Rattle.gx_adapt.specs.Lines.{items_for}
use Rattle.gx_adapt.specs.Streams.{start as begin, lot_in, lot_at, course_of, items_in, is_spaced, is_deletion, is_requoted, is_marks, is_asking, on_line, report_of}
use Rattle.gx_model.specs.Export.{items_text}
use Rattle.gx_adapt.specs.Adapting.{text_for, Adapts, AdaptsFrom, HasRoom, PutsIf, of_stream, counted, StandsBehind, names_held, Passes, Loses, texts_of}
use Rattle.gx_adapt.specs.Marks.{names_blob_or_tag}
use Rattle.gx_adapt.specs.declared.adapting.Adapted.{Adapted}
use Rattle.gx_adapt.specs.declared.course.Course.{Course}
use Rattle.gx_adapt.specs.declared.losses.Losses.{Losses}
use Rattle.gx_adapt.specs.declared.marks.Marks.{Marks}
use Rattle.gx_adapt.specs.declared.fault.AdaptFault.{AdaptFault}
use Rattle.gx_adapt.specs.declared.fault.AdaptFault.TheVariants as faults
use Rattle.gx_adapt.specs.declared.report.Report.{Report}
use Rattle.gx_model.proofs.Texts.SentTexts.{took_nothing, took_both, failed_after, failed_longer}
use Rattle.gx_adapt.proofs.Marked.{reverse-push, names-same, stands-push, tags-few}
use Rattle.gx_adapt.proofs.Lost.{StandsLost, lost-none, lost-item}
use Rattle.gx_adapt.proofs.Counts.{after_of, after-push, text_behind, text-push, text-within, many-few, report-push}

-- items that came, and what comes after them
abbrev pub after : List ModelItem → Stream → Stream
after came left = record { items = came ++ left.items; end = left.end }

-- these items came, and then what is left; where the source tells nothing, whatever may come behind them, they are all of some text
abbrev pub Goes : Option Stream → Seen → List ModelItem → Type 0
Goes None now front = (left : Stream) → MayCome now left → AreOfText (after front left)
Goes (Some r) now front = (left : Stream) × (now.stream ≡ Some left) × (r ≡ after front left)

pub record Progress {A : Type 0} (drops : Bool) (start : Option Stream) (now : Seen) (course : Course) (marks : Marks A) (losses : Losses A) (was is : Option Taken) (report : Report) (most : ℕ) : Type 0 where
  pub front : List ModelItem
  pub goes : Goes start now front
  pub course_is : course ≡ after_of begin front
  pub stands : StandsBehind (reverse front) marks
  pub lost : StandsLost front course losses
  pub wrote : Took was is (text_for drops front)
  pub counted : report ≡ report_of drops front
  pub few : length front + most ≤ 2 ^ 63 - 1

Goes-none : (start : Option Stream) (now : Seen) → now.stream ≡ start → ((s : Stream) → MayCome now s → AreOfText s) → Goes start now []
Goes-none None now e text = text
Goes-none (Some r) now e text = (r, e, refl)

pub Progress-none : {A : Type 0} (drops : Bool) (start : Option Stream) (now : Seen) (course : Course) (marks : Marks A) (losses : Losses A) (was : Option Taken) (report : Report) (most : ℕ) → now.stream ≡ start → ((s : Stream) → MayCome now s → AreOfText s) → course ≡ begin → StandsBehind [] marks → texts_of losses.lines ≡ [] → report ≡ report_of drops []
    → most ≤ 2 ^ 63 - 1 → Progress drops start now course marks losses was was report most
Progress-none drops start now course marks losses was report most e text k b l r m =
    record { front = []; goes = Goes-none start now e text; course_is = k; stands = b; lost = subst (λ c. StandsLost [] c losses) (sym k) (lost-none losses l); wrote = took_nothing was; counted = r; few = omega (arith, m) }

-- an item more came
one_more : (front : List ModelItem) (i : ModelItem) (left : Stream) → after front (then_comes i left) ≡ after (front ++ i ∷ []) left
one_more front i left = ap (λ is. record { items = is; end = left.end }) (sym (append_assoc front (i ∷ []) left.items))

Goes-item : (start : Option Stream) (now new : Seen) (front : List ModelItem) (item : Item) → Goes start now front → Answers now new (Ok (Some item)) → Goes start new (front ++ item_of item ∷ [])
Goes-item None now new front item g a = λ left m. subst AreOfText (one_more front (item_of item) left) (g (then_comes (item_of item) left) (a.4 left m))
Goes-item (Some s) now new front item g a =
    let t = rw g.1 at a.0 in
    (t.0, t.2, g.2 ∙ ap (after front) t.1 ∙ one_more front (item_of item) t.0)

pub Progress-item : {A : Type 0} (drops : Bool) (start : Option Stream) (now new : Seen) (course next : Course) (marks passed : Marks A) (losses kept : Losses A) (was is out : Option Taken) (report new_report : Report) (most left : ℕ) (item : Item) (lot : lines.Lot) → next ≡ course_of course (item_of item) → Passes (item_of item) marks passed → Loses course (item_of item) losses kept
    → lot ≡ lot_in drops course (item_of item) → new_report ≡ counted lot (names_held marks (item_of item)) (item_of item) report → left < most
    → Took is out (items_text (items_for (item_of item) lot)) → Progress drops start now course marks losses was is report most → Answers now new (Ok (Some item)) → Progress drops start new next passed kept was out new_report left
Progress-item drops start now new course next marks passed losses kept was is out report new_report most left item lot e b k l c m s p r =
    let i = item_of item in
    let here = l ∙ ap (λ c. lot_in drops c i) p.course_is in
    let sent = subst (λ l. Took is out (items_text (items_for i l))) here s in
    let names = names_blob_or_tag (reverse p.front) i in
    let count = c ∙ ap (λ l. counted l (names_held marks i) i report) here ∙ ap (λ n. counted (lot_in drops (after_of begin p.front) i) n i report) (names-same marks (reverse p.front) i p.stands) ∙ ap (counted (lot_in drops (after_of begin p.front) i) names i) p.counted in
    record {
      front = p.front ++ i ∷ [];
      goes = Goes-item start now new p.front item p.goes r;
      course_is = e ∙ ap (λ c. course_of c i) p.course_is ∙ sym (after-push begin p.front i);
      stands = subst (λ is. StandsBehind is passed) (sym (reverse-push p.front i)) (stands-push marks passed (reverse p.front) i p.stands b);
      lost = subst (λ c. StandsLost (p.front ++ i ∷ []) c kept) (sym e) (lost-item p.front course i losses kept p.course_is p.lost k);
      wrote = subst (Took was out) (sym (text-push drops p.front i)) (took_both was is out (text_for drops p.front) (items_text (items_in drops (after_of begin p.front) i)) p.wrote sent);
      counted = count ∙ sym (report-push drops p.front i);
      few = omega (arith, m, p.few, length_push p.front i);
    }

-- ---- there is room

pub Progress-room : {A : Type 0} (drops : Bool) (start : Option Stream) (now : Seen) (course : Course) (marks : Marks A) (losses : Losses A) (was is : Option Taken) (report : Report) (most : ℕ) → Progress drops start now course marks losses was is report most → HasRoom report
Progress-room drops start now course marks losses was is report most p = subst HasRoom (sym p.counted) (record {
  identities = omega (arith, p.few, many-few (λ q. is_spaced (lot_at drops q)) p.front);
  deletions = omega (arith, p.few, many-few (λ q. is_deletion (lot_at drops q)) p.front);
  paths = omega (arith, p.few, many-few (λ q. is_requoted (lot_at drops q)) p.front);
  marks = omega (arith, p.few, many-few (λ q. is_marks (lot_at drops q)) p.front);
  features = omega (arith, p.few, many-few (λ q. is_asking (lot_at drops q)) p.front);
  signatures = omega (arith, p.few, many-few (λ q. on_line lines.is_signature_line q.item) p.front);
  refused_names = omega (arith, p.few, many-few (λ q. on_line lines.is_refused q.item) p.front);
  notes = omega (arith, p.few, many-few (λ q. on_line lines.is_note q.item) p.front);
  early_dates = omega (arith, p.few, many-few (λ q. on_line lines.is_early q.item) p.front);
  tags_of_blobs_or_tags = omega (arith, p.few, tags-few p.front);
})

-- ---- the end of the items

-- the items that came are all
whole : (s left : Stream) (front : List ModelItem) (e : End) → s ≡ after front left → left ≡ ended e → s ≡ record { items = front; end = e }
whole s left front e g h = g ∙ ap (after front) h ∙ ap (λ is. record { items = is; end = e }) (append-nil front)

-- where the source tells nothing they are all of some text
whole_text : (front : List ModelItem) (e : End) → AreOfText (after front (ended e)) → AreOfText (record { items = front; end = e })
whole_text front e t = subst AreOfText (ap (λ is. record { items = is; end = e }) (append-nil front)) t

pub Adapts-end : {A : Type 0} (drops : Bool) (start : Option Stream) (now new : Seen) (course : Course) (marks : Marks A) (losses : Losses A) (was is : Option Taken) (report : Report) (most : ℕ) → Progress drops start now course marks losses was is report most → Answers now new (Ok None) → AdaptsFrom {A = A} drops start was is (Ok (record { report = report; lost = losses.lines }))
Adapts-end {A} drops None now new course marks losses was is report most p a = (record { items = p.front; end = Finished }, whole_text p.front Finished (p.goes (ended Finished) a.4), ((p.counted, p.lost.lines), (refl, p.wrote)))
Adapts-end {A} drops (Some s) now new course marks losses was is report most p a =
    let t = rw p.goes.1 at a.0 in
    subst (λ s. Adapts {A = A} drops s was is (Ok (record { report = report; lost = losses.lines }))) (sym (whole s p.goes.0 p.front Finished p.goes.2 t.0)) ((p.counted, p.lost.lines), (refl, p.wrote))

fault_at : (A : Type 0) (drops : Bool) (front : List ModelItem) (was is : Option Taken) (f : StreamFault) → Took was is (text_for drops front) → Adapts {A = A} drops (record { items = front; end = Failed (fault_of f) }) was is (Err (of_stream f))
fault_at A drops front was is stream.OutOfMemory w = (front, [], sym (append-nil front), w)
fault_at A drops front was is stream.ReadFailed w = (refl, w)
fault_at A drops front was is stream.TruncatedData w = (refl, w)
fault_at A drops front was is stream.BadNumber w = (refl, w)

no_memory : (A : Type 0) (drops : Bool) (s left : Stream) (front : List ModelItem) (was is : Option Taken) → s ≡ after front left → Took was is (text_for drops front) → Adapts {A = A} drops s was is (Err faults.OutOfMemory)
no_memory A drops s left front was is g w = (front, left.items, ap (λ (t : Stream). t.items) g, w)

fault_case : (A : Type 0) (drops : Bool) (s left : Stream) (front : List ModelItem) (was is : Option Taken) (f : StreamFault) → s ≡ after front left → Took was is (text_for drops front) → (f ≡ stream.OutOfMemory) ⊎ (left ≡ ended (Failed (fault_of f))) → Adapts {A = A} drops s was is (Err (of_stream f))
fault_case A drops s left front was is f g w (inl e) = subst (λ f. Adapts {A = A} drops s was is (Err (of_stream f))) (sym e) (no_memory A drops s left front was is g w)
fault_case A drops s left front was is f g w (inr e) = subst (λ s. Adapts {A = A} drops s was is (Err (of_stream f))) (sym (whole s left front (Failed (fault_of f)) g e)) (fault_at A drops front was is f w)

silent_fault : (A : Type 0) (drops : Bool) (now : Seen) (front : List ModelItem) (was is : Option Taken) (f : StreamFault) → Goes None now front → Took was is (text_for drops front) → (f ≡ stream.OutOfMemory) ⊎ MayCome now (ended (Failed (fault_of f))) → AdaptsFrom {A = A} drops None was is (Err (of_stream f))
silent_fault A drops now front was is f g w (inl e) =
    let some = some_come now in
    let s = after front some.0 in
    (s, g some.0 some.1, subst (λ f. Adapts {A = A} drops s was is (Err (of_stream f))) (sym e) (no_memory A drops s some.0 front was is refl w))
silent_fault A drops now front was is f g w (inr m) =
    let end = Failed (fault_of f) in
    (record { items = front; end = end }, whole_text front end (g (ended end) m), fault_at A drops front was is f w)

pub Adapts-fault : {A : Type 0} (drops : Bool) (start : Option Stream) (now new : Seen) (course : Course) (marks : Marks A) (losses : Losses A) (was is : Option Taken) (report : Report) (most : ℕ) (f : StreamFault) → Progress drops start now course marks losses was is report most → Answers now new (Err f) → AdaptsFrom {A = A} drops start was is (Err (of_stream f))
Adapts-fault {A} drops None now new course marks losses was is report most f p a = silent_fault A drops now p.front was is f p.goes p.wrote a.4
Adapts-fault {A} drops (Some s) now new course marks losses was is report most f p a =
    let t = rw p.goes.1 at a.0 in
    fault_case A drops s p.goes.0 p.front was is f p.goes.2 p.wrote t.1

-- ---- an item that isn't sent

failed_at : (drops : Bool) (was is out : Option Taken) (front : List ModelItem) (i : ModelItem) (more : List ModelItem) → Took was is (text_for drops front) → FailedWithin is out (items_text (items_in drops (after_of begin front) i)) → FailedWithin was out (text_for drops (front ++ i ∷ more))
failed_at drops was is out front i more w f =
    let here = items_text (items_in drops (after_of begin front) i) in
    subst (FailedWithin was out) (sym (text-within drops front i more)) (failed_after was is out (text_for drops front) (here ++ text_behind drops (course_of (after_of begin front) i) more) w (failed_longer is out here (text_behind drops (course_of (after_of begin front) i) more) f))

-- where the item comes from
unsent : (A : Type 0) (drops : Bool) (s left : Stream) (front : List ModelItem) (i : ModelItem) (was is out : Option Taken) (fault : AdaptFault) → s ≡ after front (then_comes i left) → Took was is (text_for drops front) → PutsIf {A = Unit {0}} (items_text (items_in drops (after_of begin front) i)) is out (Err fault) → Adapts {A = A} drops s was out (Err fault)
unsent A drops s left front i was is out faults.OutOfMemory g w f = (front, i ∷ left.items, ap (λ (t : Stream). t.items) g, subst (λ o. Took was o (text_for drops front)) (sym f) w)
unsent A drops s left front i was is out faults.WriteFailed g w f = subst (λ is. FailedWithin was out (text_for drops is)) (sym (ap (λ (t : Stream). t.items) g)) (failed_at drops was is out front i left.items w f)
unsent A drops s left front i was is out faults.ReadFailed g w f = absurd f
unsent A drops s left front i was is out faults.TruncatedData g w f = absurd f
unsent A drops s left front i was is out faults.BadNumber g w f = absurd f

pub Adapts-unsent : {A : Type 0} (drops : Bool) (start : Option Stream) (now new : Seen) (course : Course) (marks : Marks A) (losses : Losses A) (was is out : Option Taken) (report : Report) (most : ℕ) (item : Item) (lot : lines.Lot) (fault : AdaptFault) → lot ≡ lot_in drops course (item_of item) → PutsIf {A = Unit {0}} (items_text (items_for (item_of item) lot)) is out (Err fault) → Progress drops start now course marks losses was is report most → Answers now new (Ok (Some item))
    → AdaptsFrom {A = A} drops start was out (Err fault)
Adapts-unsent {A} drops None now new course marks losses was is out report most item lot fault l f p a =
    let i = item_of item in
    let some = some_come new in
    let s = after p.front (then_comes i some.0) in
    (s, p.goes (then_comes i some.0) (a.4 some.0 some.1), unsent A drops s some.0 p.front i was is out fault refl p.wrote (subst (λ l. PutsIf {A = Unit {0}} (items_text (items_for i l)) is out (Err fault)) (l ∙ ap (λ c. lot_in drops c i) p.course_is) f))
Adapts-unsent {A} drops (Some s) now new course marks losses was is out report most item lot fault l f p a =
    let i = item_of item in
    let t = rw p.goes.1 at a.0 in
    unsent A drops s t.0 p.front i was is out fault (p.goes.2 ∙ ap (after p.front) t.1) p.wrote (subst (λ l. PutsIf {A = Unit {0}} (items_text (items_for i l)) is out (Err fault)) (l ∙ ap (λ c. lot_in drops c i) p.course_is) f)
