-- Printing the names of blobs, so far.
use Rattle.std.proofs.Common.{◌≡◌, ◌≢◌, ℕ, ◌+◌, Bool, true, false, if◌then◌else◌, ◌⊎◌, inl, inr, Option, Some, None, Result, Ok, Err, List, [], ◌∷◌, ◌++◌, length, refl, sym, ap, subst, ◌∙◌, arith, append_assoc, append-nil}
use Rattle.std.proofs.lemmas.Option.{none-some}
use Rattle.std.proofs.lemmas.List.{length_push}
use Rattle.std.proofs.lemmas.Grind.{flat_map-append}
use Rattle.std.specs.Bool.{Decides}
use Rattle.std.specs.Option.{option_map}
use Rattle.std.proofs.lemmas.Slice.Eq.{bytes_eq-Decides}
use Rattle.gx_model.specs.declared.objects.Kind.{Kind}
use Rattle.gx_model.specs.declared.objects.Kind.TheVariants as kind
use Rattle.gx_model.specs.Texts.{Bytes, same_bytes}
use Rattle.gx_model.specs.Streams.Items.{Item as ModelItem, Stream, End, Finished, Failed, then_comes}
use Rattle.gx_model.specs.Histories.{Record}
use Rattle.gx_model.specs.Records.Growth.{put, put_under, record_named, same_object}
use Rattle.gx_model.specs.Texts.Sinks.{Sends, Taken, Took}
use Rattle.gx_stream.specs.declared.item.Item.{Item}
use Rattle.gx_stream.specs.declared.fault.StreamFault.{StreamFault}
use Rattle.gx_stream.specs.declared.fault.StreamFault.TheVariants as stream
use Rattle.gx_stream.specs.Faults.{fault_of, ended as only}
use Rattle.gx_stream.specs.Reading.{Answers, MayCome, Seen, item_of}
use Rattle.gx_stream.proofs.Follows.{some_come}
use Rattle.gx_blobs.specs.Blobs.{BlobRun, refused, blobs_of, behind, first_body}
use Rattle.gx_blobs.specs.Steps.{Step, stop, go, body, run_of, step_of, stepped, stop_at}
use Rattle.gx_blobs.specs.Printing.{blob_line, printed, blob_record, stop_of, Clashes, FailsWithin, Prints, PrintsItems, PrintsOne, ended_at, of_stream}
use Rattle.gx_blobs.specs.declared.blob_names.Stage.{Stage}
use Rattle.gx_blobs.specs.declared.blob_names.Stage.TheVariants.{Expected}
use Rattle.gx_blobs.specs.declared.blob_names.BlobsKind.{BlobsKind}
use Rattle.gx_blobs.specs.declared.blob_names.BlobsKind.TheVariants as kinds
use Rattle.gx_blobs.specs.declared.blob_names.BlobsFault.{BlobsFault}
use Rattle.gx_model.proofs.Texts.SentTexts.{took_nothing}
use Rattle.gx_blobs.proofs.Staged.{blobs_of-run}

-- the blobs of items, from a stage on
abbrev pub staged : Stage → Stream → BlobRun
staged stage s = run_of s.items stage s.end

abbrev refused_at : ℕ → BlobsKind → Result ℕ BlobsFault
refused_at count kind = Err (record { command = count + 1; kind = kind })

as_blobs : (names : Kind → Bytes → Bytes) (s : Stream) (was : Option Taken) (is : Option Taken) (r : Result ℕ BlobsFault) → Prints names (staged Expected s) was is r → Prints names (blobs_of s) was is r
as_blobs names s was is r h = subst (λ run. Prints names run was is r) (sym (blobs_of-run s)) h

-- items that came, and what comes after them
abbrev pub after : List ModelItem → Stream → Stream
after came left = record { items = came ++ left.items; end = left.end }

-- these blobs came with these items, whatever comes after them
abbrev pub GoesOn : List ModelItem → Stage → List Bytes → Type 0
GoesOn came stage front = (left : Stream) → staged Expected (after came left) ≡ behind front (staged stage left)

-- the blobs so far, and then those of what is left; where a source tells nothing, of the items that came, which with whatever may
-- come behind them may be its own
abbrev pub Goes : Seen → Option Stream → Seen → Stage → List Bytes → Type 0
Goes first None now stage front = (came : List ModelItem) × GoesOn came stage front × ((left : Stream) → MayCome now left → MayCome first (after came left))
Goes first (Some r) now stage front = (left : Stream) × (now.stream ≡ Some left) × (staged Expected r ≡ behind front (staged stage left))

abbrev pub IsIn : Bytes → List Bytes → Type 0
IsIn x [] = ⊥
IsIn x (y ∷ ys) = (x ≡ y) ⊎ IsIn x ys

-- the store has nothing else
abbrev pub HeldAmong : (Kind → Bytes → Bytes) → List Bytes → List Record → Type 0
HeldAmong names front [] = Unit {0}
HeldAmong names front (h ∷ hs) = ((x : Bytes) × IsIn x front × (h ≡ blob_record names x)) × HeldAmong names front hs

pub record Progress (names : Kind → Bytes → Bytes) (first : Seen) (start : Option Stream) (now : Seen) (stage : Stage) (was is : Option Taken) (held : List Record) (count : ℕ) : Type 0 where
  pub front : List Bytes
  pub counted : count ≡ length front
  pub goes : Goes first start now stage front
  pub wrote : Took was is (printed names front)
  pub among : HeldAmong names front held

Goes-none : (start : Option Stream) (now : Seen) → now.stream ≡ start → Goes now start now Expected []
Goes-none None now e = ([], (λ left. refl), (λ left m. m))
Goes-none (Some r) now e = (r, e, refl)

pub Progress-none : (names : Kind → Bytes → Bytes) (now : Seen) (was : Option Taken) (held : List Record) → held ≡ [] → Progress names now now.stream now Expected was was held 0
Progress-none names now was held h =
    record {
      front = [];
      counted = refl;
      goes = Goes-none now.stream now refl;
      wrote = took_nothing was;
      among = subst (HeldAmong names []) (sym h) tt;
    }

-- an item came
staged-item : (stage : Stage) (p : ModelItem) (left : Stream) → staged stage (then_comes p left) ≡ stepped (step_of stage p) (λ next. staged next left)
unfolding run_of
staged-item stage p left = refl

-- the same behind the items that came
comes_on : (came : List ModelItem) (stage : Stage) (front : List Bytes) (p : ModelItem) (s : Step) → step_of stage p ≡ s → GoesOn came stage front → (left : Stream) → staged Expected (after came (then_comes p left)) ≡ behind front (stepped s (λ n. staged n left))
comes_on came stage front p s e g left = g (then_comes p left) ∙ ap (behind front) (staged-item stage p left ∙ ap (λ v. stepped v (λ n. staged n left)) e)

-- an item more came
one_more : (came : List ModelItem) (p : ModelItem) (left : Stream) → after (came ++ p ∷ []) left ≡ after came (then_comes p left)
one_more came p left = ap (λ is. record { items = is; end = left.end }) (append_assoc came (p ∷ []) left.items)

-- whatever may come behind it may come behind those before
more_comes : (first now new : Seen) (came : List ModelItem) (item : Item) → ((left : Stream) → MayCome now left → MayCome first (after came left)) → Answers now new (Ok (Some item)) → (left : Stream) → MayCome new left → MayCome first (after (came ++ item_of item ∷ []) left)
more_comes first now new came item h a left m = subst (MayCome first) (sym (one_more came (item_of item) left)) (h (then_comes (item_of item) left) (a.4 left m))

-- a blob more
body_behind : (front : List Bytes) (x : Bytes) (run : BlobRun) → behind front (first_body x run) ≡ behind (front ++ x ∷ []) run
body_behind front x run = ap (λ bs. record { bodies = bs; stop = run.stop }) (sym (append_assoc front (x ∷ []) run.bodies))

Goes-go : (first : Seen) (start : Option Stream) (now new : Seen) (stage next : Stage) (front : List Bytes) (item : Item) → step_of stage (item_of item) ≡ go next → Goes first start now stage front → Answers now new (Ok (Some item)) → Goes first start new next front
Goes-go first None now new stage next front item e g a =
    let p = item_of item in
    (g.0 ++ p ∷ [], (λ left. ap (staged Expected) (one_more g.0 p left) ∙ comes_on g.0 stage front p (go next) e g.1 left), more_comes first now new g.0 item g.2 a)
Goes-go first (Some s) now new stage next front item e g a =
    let t = rw g.1 at a.0 in
    (t.0, t.2, g.2 ∙ ap (λ v. behind front (staged stage v)) t.1 ∙ ap (behind front) (staged-item stage (item_of item) t.0 ∙ ap (λ v. stepped v (λ n. staged n t.0)) e))

Goes-body : (first : Seen) (start : Option Stream) (now new : Seen) (stage : Stage) (front : List Bytes) (item : Item) (x : Bytes) → step_of stage (item_of item) ≡ body x → Goes first start now stage front → Answers now new (Ok (Some item)) → Goes first start new Expected (front ++ x ∷ [])
Goes-body first None now new stage front item x e g a =
    let p = item_of item in
    (g.0 ++ p ∷ [], (λ left. ap (staged Expected) (one_more g.0 p left) ∙ comes_on g.0 stage front p (body x) e g.1 left ∙ body_behind front x (staged Expected left)), more_comes first now new g.0 item g.2 a)
Goes-body first (Some s) now new stage front item x e g a =
    let t = rw g.1 at a.0 in
    let here = staged-item stage (item_of item) t.0 ∙ ap (λ v. stepped v (λ n. staged n t.0)) e in
    (t.0, t.2, g.2 ∙ ap (λ v. behind front (staged stage v)) t.1 ∙ ap (behind front) here ∙ body_behind front x (staged Expected t.0))

pub Progress-go : (names : Kind → Bytes → Bytes) (first : Seen) (start : Option Stream) (now new : Seen) (stage next : Stage) (was is : Option Taken) (held : List Record) (count : ℕ) (item : Item) → step_of stage (item_of item) ≡ go next → Progress names first start now stage was is held count → Answers now new (Ok (Some item)) → Progress names first start new next was is held count
Progress-go names first start now new stage next was is held count item e p r =
    record {
      front = p.front;
      counted = p.counted;
      goes = Goes-go first start now new stage next p.front item e p.goes r;
      wrote = p.wrote;
      among = p.among;
    }

IsIn-push : (x y : Bytes) (front : List Bytes) → IsIn x front → IsIn x (front ++ y ∷ [])
IsIn-push x y [] h = absurd h
IsIn-push x y (z ∷ zs) (inl e) = inl e
IsIn-push x y (z ∷ zs) (inr h) = inr (IsIn-push x y zs h)

IsIn-last : (x : Bytes) (front : List Bytes) → IsIn x (front ++ x ∷ [])
IsIn-last x [] = inl refl
IsIn-last x (z ∷ zs) = inr (IsIn-last x zs)

HeldAmong-push : (names : Kind → Bytes → Bytes) (front : List Bytes) (x : Bytes) (held : List Record) → HeldAmong names front held → HeldAmong names (front ++ x ∷ []) held
HeldAmong-push names front x [] h = tt
HeldAmong-push names front x (r ∷ rs) h = ((h.0.0, IsIn-push h.0.0 x front h.0.1, h.0.2), HeldAmong-push names front x rs h.1)

HeldAmong-added : (names : Kind → Bytes → Bytes) (front : List Bytes) (x : Bytes) (held : List Record) → HeldAmong names front held → HeldAmong names (front ++ x ∷ []) (held ++ blob_record names x ∷ [])
HeldAmong-added names front x [] h = ((x, IsIn-last x front, refl), tt)
HeldAmong-added names front x (r ∷ rs) h = ((h.0.0, IsIn-push h.0.0 x front h.0.1, h.0.2), HeldAmong-added names front x rs h.1)

printed-push : (names : Kind → Bytes → Bytes) (front : List Bytes) (x : Bytes) → printed names (front ++ x ∷ []) ≡ printed names front ++ blob_line names x
printed-push names front x =
    flat_map-append (λ y. blob_line names y) front (x ∷ []) ∙ ap (λ bs. printed names front ++ bs) (append-nil (blob_line names x))

Wrote-more : (was is new : Option Taken) (bytes more : Bytes) → Took was is bytes → Sends is new more (Ok tt) → Took was new (bytes ++ more)
Wrote-more None is new bytes more w s = tt
Wrote-more (Some was) is new bytes more w s =
    let t = rw w at s in
    t.0 ∙ ap (λ bs. Some (record was { bytes = bs })) (append_assoc was.bytes bytes more)

put-grows : (old new : List Record) (r : Record) → put old r ≡ Some new → (new ≡ old) ⊎ (new ≡ old ++ r ∷ [])
put-grows old new r e = by (record_named old r.name) e where
  by : (found : Option Record) → put_under found old r ≡ Some new → (new ≡ old) ⊎ (new ≡ old ++ r ∷ [])
  by None e = inr cc
  by (Some s) e = if_same (same_object s r) e where
    if_same : (b : Bool) → (if b then Some old else None) ≡ Some new → (new ≡ old) ⊎ (new ≡ old ++ r ∷ [])
    if_same true e = inl cc
    if_same false e = absurd (none-some new e)

added : (names : Kind → Bytes → Bytes) (front : List Bytes) (x : Bytes) (held now : List Record) → (now ≡ held) ⊎ (now ≡ held ++ blob_record names x ∷ []) → HeldAmong names front held → HeldAmong names (front ++ x ∷ []) now
added names front x held now (inl e) h = subst (HeldAmong names (front ++ x ∷ [])) (sym e) (HeldAmong-push names front x held h)
added names front x held now (inr e) h = subst (HeldAmong names (front ++ x ∷ [])) (sym e) (HeldAmong-added names front x held h)

pub Progress-body : (names : Kind → Bytes → Bytes) (first : Seen) (start : Option Stream) (now new : Seen) (stage : Stage) (was is out : Option Taken) (held kept : List Record) (count : ℕ) (item : Item) (x : Bytes) (u : Unit {0}) → step_of stage (item_of item) ≡ body x → Progress names first start now stage was is held count → Answers now new (Ok (Some item)) → PrintsOne names held kept is out x (Ok u) → Progress names first start new Expected was out kept (count + 1)
Progress-body names first start now new stage was is out held kept count item x u e p r o =
    record {
      front = p.front ++ x ∷ [];
      counted = omega (arith, p.counted, length_push p.front x);
      goes = Goes-body first start now new stage p.front item x e p.goes r;
      wrote = subst (Took was out) (sym (printed-push names p.front x)) (Wrote-more was is out (printed names p.front) (blob_line names x) p.wrote o.1);
      among = added names p.front x held kept (put-grows held kept (blob_record names x) o.0) p.among;
    }

stop_of-fault : (f : StreamFault) → stop_of (of_stream f) ≡ refused (fault_of f)
stop_of-fault stream.OutOfMemory = refl
stop_of-fault stream.ReadFailed = refl
stop_of-fault stream.TruncatedData = refl
stop_of-fault stream.BadNumber = refl

-- the end of a stream, or its own fault
at_end : (r left : Stream) (stage : Stage) (front : List Bytes) (f : End) → left ≡ only f → staged Expected r ≡ behind front (staged stage left) → staged Expected r ≡ record { bodies = front; stop = stop_at stage f }
unfolding run_of
at_end r left stage front f e g =
    g ∙ ap (λ v. behind front (staged stage v)) e ∙ ap (λ bs. record { bodies = bs; stop = stop_at stage f }) (append-nil front)

all_printed : (names : Kind → Bytes → Bytes) (run : BlobRun) (front : List Bytes) (was is : Option Taken) (count : ℕ) → run ≡ record { bodies = front; stop = None } → count ≡ length front → Took was is (printed names front) → Prints names run was is (Ok count)
all_printed names run front was is count e n w = rw e (refl, n, w)

-- the items that came, and then an end
ends_on : (came : List ModelItem) (stage : Stage) (front : List Bytes) (end : End) → GoesOn came stage front → staged Expected (after came (only end)) ≡ record { bodies = front; stop = stop_at stage end }
ends_on came stage front end g = at_end (after came (only end)) (only end) stage front end refl (g (only end))

pub Prints-end : (names : Kind → Bytes → Bytes) (first : Seen) (start : Option Stream) (now new : Seen) (stage : Stage) (was is : Option Taken) (held : List Record) (count : ℕ) → stop_at stage Finished ≡ None → Progress names first start now stage was is held count → Answers now new (Ok None) → PrintsItems names (MayCome first) start was is (Ok count)
Prints-end names first None now new stage was is held count e p r =
    let s = after p.goes.0 (only Finished) in
    let run = ends_on p.goes.0 stage p.front Finished p.goes.1 ∙ ap (λ k. record { bodies = p.front; stop = k }) e in
    (s, p.goes.2 (only Finished) r.4, as_blobs names s was is (Ok count) (all_printed names (staged Expected s) p.front was is count run p.counted p.wrote))
Prints-end names first (Some c) now new stage was is held count e p r =
    let t = rw p.goes.1 at r.0 in
    let run = at_end c p.goes.0 stage p.front Finished t.0 p.goes.2 ∙ ap (λ k. record { bodies = p.front; stop = k }) e in
    as_blobs names c was is (Ok count) (all_printed names (staged Expected c) p.front was is count run p.counted p.wrote)

own_fault : (names : Kind → Bytes → Bytes) (run : BlobRun) (front : List Bytes) (was is : Option Taken) (count : ℕ) (kind : BlobsKind) → run ≡ record { bodies = front; stop = Some (stop_of kind) } → count ≡ length front → Took was is (printed names front) → Prints names run was is (Err (record { command = count + 1; kind = kind }))
own_fault names run front was is count kind e n w =
    rw e (front, [], sym (append-nil front), ap (λ k. k + 1) n, inl (refl, refl, w))

pub Prints-cut : (names : Kind → Bytes → Bytes) (first : Seen) (start : Option Stream) (now new : Seen) (stage : Stage) (was is : Option Taken) (held : List Record) (count : ℕ) (kind : BlobsKind) → stop_at stage Finished ≡ Some (stop_of kind) → Progress names first start now stage was is held count → Answers now new (Ok None) → PrintsItems names (MayCome first) start was is (Err (record { command = count + 1; kind = kind }))
Prints-cut names first None now new stage was is held count kind e p r =
    let s = after p.goes.0 (only Finished) in
    let run = ends_on p.goes.0 stage p.front Finished p.goes.1 ∙ ap (λ k. record { bodies = p.front; stop = k }) e in
    (s, p.goes.2 (only Finished) r.4, as_blobs names s was is (refused_at count kind) (own_fault names (staged Expected s) p.front was is count kind run p.counted p.wrote))
Prints-cut names first (Some c) now new stage was is held count kind e p r =
    let t = rw p.goes.1 at r.0 in
    as_blobs names c was is (refused_at count kind) (own_fault names (staged Expected c) p.front was is count kind (at_end c p.goes.0 stage p.front Finished t.0 p.goes.2 ∙ ap (λ k. record { bodies = p.front; stop = k }) e) p.counted p.wrote)

-- the stream ends, and so do its blobs, or one of them isn't whole
pub Prints-last : (names : Kind → Bytes → Bytes) (first : Seen) (start : Option Stream) (now new : Seen) (stage : Stage) (was is : Option Taken) (held : List Record) (count : ℕ) (kind : Option BlobsKind) → option_map stop_of kind ≡ stop_at stage Finished → Progress names first start now stage was is held count → Answers now new (Ok None) → PrintsItems names (MayCome first) start was is (ended_at count kind)
Prints-last names first start now new stage was is held count None e p r = Prints-end names first start now new stage was is held count (sym e) p r
Prints-last names first start now new stage was is held count (Some kind) e p r = Prints-cut names first start now new stage was is held count kind (sym e) p r

no_memory : (names : Kind → Bytes → Bytes) (run next : BlobRun) (front : List Bytes) (was is : Option Taken) (count : ℕ) → run ≡ behind front next → count ≡ length front → Took was is (printed names front) → Prints names run was is (Err (record { command = count + 1; kind = kinds.OutOfMemory }))
no_memory names run next front was is count e n w =
    rw e (front, next.bodies, refl, ap (λ k. k + 1) n, inr (inl (refl, w)))

fault_case : (names : Kind → Bytes → Bytes) (r left : Stream) (stage : Stage) (front : List Bytes) (was is : Option Taken) (count : ℕ) (f : StreamFault) → staged Expected r ≡ behind front (staged stage left) → count ≡ length front → Took was is (printed names front) → (f ≡ stream.OutOfMemory) ⊎ (left ≡ only (Failed (fault_of f))) → Prints names (staged Expected r) was is (Err (record { command = count + 1; kind = of_stream f }))
fault_case names r left stage front was is count f g n w (inl e) =
    rw e (no_memory names (staged Expected r) (staged stage left) front was is count g n w)
fault_case names r left stage front was is count f g n w (inr e) =
    own_fault names (staged Expected r) front was is count (of_stream f) (at_end r left stage front (Failed (fault_of f)) e g ∙ ap (λ k. record { bodies = front; stop = Some k }) (sym (stop_of-fault f))) n w

silent_fault : (names : Kind → Bytes → Bytes) (first now : Seen) (stage : Stage) (front : List Bytes) (was is : Option Taken) (count : ℕ) (f : StreamFault) → Goes first None now stage front → count ≡ length front → Took was is (printed names front) → (f ≡ stream.OutOfMemory) ⊎ MayCome now (only (Failed (fault_of f)))
    → PrintsItems names (MayCome first) None was is (refused_at count (of_stream f))
silent_fault names first now stage front was is count f g n w (inl e) =
    let some = some_come now in
    let s = after g.0 some.0 in
    (s, g.2 some.0 some.1, as_blobs names s was is (refused_at count (of_stream f)) (fault_case names s some.0 stage front was is count f (g.1 some.0) n w (inl e)))
silent_fault names first now stage front was is count f g n w (inr m) =
    let left = only (Failed (fault_of f)) in
    let s = after g.0 left in
    (s, g.2 left m, as_blobs names s was is (refused_at count (of_stream f)) (fault_case names s left stage front was is count f (g.1 left) n w (inr refl)))

pub Prints-fault : (names : Kind → Bytes → Bytes) (first : Seen) (start : Option Stream) (now new : Seen) (stage : Stage) (was is : Option Taken) (held : List Record) (count : ℕ) (f : StreamFault) → Progress names first start now stage was is held count → Answers now new (Err f) → PrintsItems names (MayCome first) start was is (Err (record { command = count + 1; kind = of_stream f }))
Prints-fault names first None now new stage was is held count f p r = silent_fault names first now stage p.front was is count f p.goes p.counted p.wrote r.4
Prints-fault names first (Some c) now new stage was is held count f p r =
    let t = rw p.goes.1 at r.0 in
    as_blobs names c was is (refused_at count (of_stream f)) (fault_case names c p.goes.0 stage p.front was is count f p.goes.2 p.counted p.wrote t.1)

-- what is left where an item came
comes : (first : Seen) (r : Stream) (now new : Seen) (stage : Stage) (front : List Bytes) (item : Item) (s : Step) → step_of stage (item_of item) ≡ s → Goes first (Some r) now stage front → Answers now new (Ok (Some item)) → (left : Stream) × (staged Expected r ≡ behind front (stepped s (λ n. staged n left)))
comes first r now new stage front item s e g h =
    let t = rw g.1 at h.0 in
    (t.0, g.2 ∙ ap (λ v. behind front (staged stage v)) t.1 ∙ ap (behind front) (staged-item stage (item_of item) t.0 ∙ ap (λ v. stepped v (λ n. staged n t.0)) e))

pub Prints-stop : (names : Kind → Bytes → Bytes) (first : Seen) (start : Option Stream) (now new : Seen) (stage : Stage) (was is : Option Taken) (held : List Record) (count : ℕ) (item : Item) (kind : BlobsKind) → step_of stage (item_of item) ≡ stop (stop_of kind) → Progress names first start now stage was is held count → Answers now new (Ok (Some item)) → PrintsItems names (MayCome first) start was is (Err (record { command = count + 1; kind = kind }))
Prints-stop names first None now new stage was is held count item kind e p r =
    let some = some_come new in
    let left = then_comes (item_of item) some.0 in
    let s = after p.goes.0 left in
    let run = comes_on p.goes.0 stage p.front (item_of item) (stop (stop_of kind)) e p.goes.1 some.0 in
    let stopped = run ∙ ap (λ bs. record { bodies = bs; stop = Some (stop_of kind) }) (append-nil p.front) in
    (s, p.goes.2 left (r.4 some.0 some.1), as_blobs names s was is (refused_at count kind) (own_fault names (staged Expected s) p.front was is count kind stopped p.counted p.wrote))
Prints-stop names first (Some c) now new stage was is held count item kind e p r =
    let t = comes first c now new stage p.front item (stop (stop_of kind)) e p.goes r in
    as_blobs names c was is (refused_at count kind) (own_fault names (staged Expected c) p.front was is count kind (t.1 ∙ ap (λ bs. record { bodies = bs; stop = Some (stop_of kind) }) (append-nil p.front)) p.counted p.wrote)

-- a held object under the name at hand came from one of the blobs before
clash : (names : Kind → Bytes → Bytes) (x y : Bytes) (front : List Bytes) → IsIn y front → names kind.Blob y ≡ names kind.Blob x → y ≢ x → Clashes names front x
clash names x y [] i e d = absurd i
clash names x y (z ∷ zs) (inl i) e d = inl (rw (sym i) e, rw (sym i) d)
clash names x y (z ∷ zs) (inr i) e d = inr (clash names x y zs i e d)

-- the record of a name is one of these, and has the name
found_by : (names : Kind → Bytes → Bytes) (n : Bytes) (front : List Bytes) (r : Record) (v : Option Record) (other : Record) (b : Bool) → Decides b (n ≡ r.name) → (y : Bytes) × IsIn y front × (r ≡ blob_record names y)
    → (v ≡ Some other → (y : Bytes) × IsIn y front × (other ≡ blob_record names y) × (n ≡ other.name)) → (if b then Some r else v) ≡ Some other → (y : Bytes) × IsIn y front × (other ≡ blob_record names y) × (n ≡ other.name)
found_by names n front r v other true same of more e = let is : r ≡ other = cc in (of.0, of.1, sym is ∙ of.2, same.0 refl ∙ ap (λ (s : Record). s.name) is)
found_by names n front r v other false same of more e = more e

found : (names : Kind → Bytes → Bytes) (n : Bytes) (front : List Bytes) (held : List Record) (other : Record) → record_named held n ≡ Some other → HeldAmong names front held → (y : Bytes) × IsIn y front × (other ≡ blob_record names y) × (n ≡ other.name)
found names n front [] other e h = absurd (none-some other e)
found names n front (r ∷ rs) other e h = found_by names n front r (record_named rs n) other (same_bytes n r.name) (bytes_eq-Decides n r.name) h.0 (λ d. found names n front rs other d h.1) e

-- a blob's record that is not the same object has other bytes
other_bytes : (names : Kind → Bytes → Bytes) (x y : Bytes) (other : Record) → other ≡ blob_record names y → (held : List Record) → put_under (Some other) held (blob_record names x) ≡ None → y ≢ x
other_bytes names x y other is held e same =
    let h = subst (λ (r : Record). (if same_object r (blob_record names x) then Some held else None) ≡ None) (is ∙ ap (blob_record names) same) e in
    let t : same_bytes x x ≡ true = (bytes_eq-Decides x x).1 refl in
    absurd (none-some held (sym (rw t at h)))

pub Clashes-held : (names : Kind → Bytes → Bytes) (x : Bytes) (front : List Bytes) (held : List Record) → put held (blob_record names x) ≡ None → HeldAmong names front held → Clashes names front x
Clashes-held names x front held e h = by (record_named held (names kind.Blob x)) refl e where
  by : (o : Option Record) → record_named held (names kind.Blob x) ≡ o → put_under o held (blob_record names x) ≡ None → Clashes names front x
  by None is e = absurd (none-some _ (sym e))
  by (Some other) is e =
      let f = found names (names kind.Blob x) front held other is h in
      clash names x f.0 front f.1 (ap (λ (s : Record). s.name) (sym f.2) ∙ sym f.3) (other_bytes names x f.0 other f.2 held e)

-- the sink failed in the line of the blob at hand
fails_within : (names : Kind → Bytes → Bytes) (front rest : List Bytes) (x : Bytes) (was is out : Option Taken) (n : ℕ) → Took was is (printed names front) → Sends is out (blob_line names x) (Err n) → FailsWithin names front (x ∷ rest) was out
fails_within names front rest x None is out n w s = tt
fails_within names front rest x (Some t) is out n w s = let k = rw w at s in (n, k.0, k.1)

one_case : (names : Kind → Bytes → Bytes) (run next : BlobRun) (front : List Bytes) (x : Bytes) (was is out : Option Taken) (held kept : List Record) (count : ℕ) (kind : BlobsKind) → run ≡ behind front (first_body x next) → count ≡ length front → Took was is (printed names front) → HeldAmong names front held → PrintsOne names held kept is out x (Err kind) → Prints names run was out (Err (record { command = count + 1; kind = kind }))
one_case names run next front x was is out held kept count kinds.OutOfMemory e n w h o =
    rw e (front, x ∷ next.bodies, refl, ap (λ k. k + 1) n, inr (inl (refl, subst (λ z. Took was z (printed names front)) (sym o.2) w)))
one_case names run next front x was is out held kept count kinds.NameHeld e n w h o =
    rw e (front, x ∷ next.bodies, refl, ap (λ k. k + 1) n, inr (inr (inl (refl, Clashes-held names x front held o.0 h, subst (λ z. Took was z (printed names front)) (sym o.1) w))))
one_case names run next front x was is out held kept count kinds.WriteFailed e n w h o =
    rw e (front, x ∷ next.bodies, refl, ap (λ k. k + 1) n, inr (inr (inr (refl, fails_within names front next.bodies x was is out o.0 w o.1))))
one_case names run next front x was is out held kept count kinds.ReadFailed e n w h o = absurd o
one_case names run next front x was is out held kept count kinds.BadLine e n w h o = absurd o
one_case names run next front x was is out held kept count kinds.BadNumber e n w h o = absurd o
one_case names run next front x was is out held kept count kinds.TruncatedData e n w h o = absurd o
one_case names run next front x was is out held kept count kinds.NotABlob e n w h o = absurd o

pub Prints-one : (names : Kind → Bytes → Bytes) (first : Seen) (start : Option Stream) (now new : Seen) (stage : Stage) (was is out : Option Taken) (held kept : List Record) (count : ℕ) (item : Item) (x : Bytes) (kind : BlobsKind) → step_of stage (item_of item) ≡ body x → Progress names first start now stage was is held count → Answers now new (Ok (Some item)) → PrintsOne names held kept is out x (Err kind) → PrintsItems names (MayCome first) start was out (Err (record { command = count + 1; kind = kind }))
Prints-one names first None now new stage was is out held kept count item x kind e p r o =
    let some = some_come new in
    let left = then_comes (item_of item) some.0 in
    let s = after p.goes.0 left in
    let run = comes_on p.goes.0 stage p.front (item_of item) (body x) e p.goes.1 some.0 in
    (s, p.goes.2 left (r.4 some.0 some.1), as_blobs names s was out (refused_at count kind) (one_case names (staged Expected s) (staged Expected some.0) p.front x was is out held kept count kind run p.counted p.wrote p.among o))
Prints-one names first (Some c) now new stage was is out held kept count item x kind e p r o =
    let t = comes first c now new stage p.front item (body x) e p.goes r in
    as_blobs names c was out (refused_at count kind) (one_case names (staged Expected c) (staged Expected t.0) p.front x was is out held kept count kind t.1 p.counted p.wrote p.among o)

pub PrintsOne-at : {N : Type 0} (f : N → Kind → Bytes → Bytes) (a b : N) (held kept : List Record) (is out : Option Taken) (x : Bytes) (r : Result (Unit {0}) BlobsKind) → a ≡ b → PrintsOne (f a) held kept is out x r → PrintsOne (f b) held kept is out x r
PrintsOne-at f a b held kept is out x r e h = subst (λ n. PrintsOne (f n) held kept is out x r) e h
