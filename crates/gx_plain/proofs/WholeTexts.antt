-- A plain text as its front, its records, and the refs behind them.
use Rattle.std.proofs.Common.{◌≡◌, ℕ, ◌-◌, List, [], length, drop, Option, Some, None, Ok, Err, refl, sym, ap, ◌∙◌, subst, arith}
use Rattle.std.specs.Prelude.{IfSome, IsOk, codes}
use Rattle.std.specs.Result.{result_ok}
use Rattle.std.proofs.lemmas.List.{length-drop}
use Rattle.gx_model.specs.declared.objects.Kind.{Kind}
use Rattle.gx_model.specs.declared.store_versions.Version.{Version}
use Rattle.gx_model.specs.Faults.{◌>>=◌}
use Rattle.gx_model.specs.Texts.{Bytes}
use Rattle.gx_model.specs.Histories.{Record, Records}
use Rattle.gx_model.specs.Records.Publishing.{Ref}
use Rattle.gx_model.specs.Stores.StoreReading.{Stored, after_magic, next_records, next_refs, store_of, stored_count, stored_end}
use Rattle.gx_listed.specs.Listings.{Listed}
use Rattle.gx_look.specs.Tails.{refs_text}
use Rattle.gx_objects.specs.declared.fault.LookFault.{LookFault}
use Rattle.gx_objects.specs.declared.fault.LookFault.TheVariants.{Damaged}
use Rattle.gx_plain.specs.Listing.{AreListed, ListsAllNext, places_from, places_listed}
use Rattle.gx_plain.specs.Plain.{IsReadAs, IsReadIfTold, told_by}
use Rattle.gx_plain.specs.Reading.{IsRefused, RefusesWith}
use Rattle.gx_plain.specs.Refs.{AreTold, ReadsTail, refs_behind}
use Rattle.gx_plain.specs.Starts.{IsStart, ReadsStart, start_of}
use Rattle.gx_plain.specs.declared.refs.Tail.{Tail}
use Rattle.gx_plain.specs.declared.start.Start.{Start}

module _ (name : Kind → Bytes → Bytes) where
  -- what is read once the records are
  abbrev with_records : List Record × Bytes → Stored Records
  with_records x = refs_behind x.0 x.1 >>= λ refs. Ok (record { records = x.0; refs = refs })

  -- what is read once the front is
  abbrev with_front : Version × (ℕ × Bytes) → Stored Records
  with_front s = next_records name s.0 s.1.0 [] s.1.1 >>= with_records

  -- what the definition reads behind the records
  abbrev as_defined : List Record × Bytes → Stored Records
  as_defined x = stored_count (codes "refs") x.1 >>= λ refs. next_refs refs.0 x.0 None refs.1 >>= λ named. stored_end named.1 >>= λ ended. Ok (record { records = x.0; refs = named.0 })

  parts_of_store : (text : Bytes) → store_of name text ≡ (start_of text >>= with_front)
  unfolding store_of
  parts_of_store text = magic (after_magic text)
    where
      last : (rs : List Record) (refs : List Ref) (e : Stored (Unit {0}))
          → ◌≡◌ {A = Stored Records} (e >>= λ ended. Ok (record { records = rs; refs = refs })) ((e >>= λ ended. Ok refs) >>= λ refs. Ok (record { records = rs; refs = refs }))
      last rs refs (Ok u) = refl
      last rs refs (Err why) = refl

      named : (rs : List Record) (n : Stored (List Ref × Bytes))
          → ◌≡◌ {A = Stored Records} (n >>= λ named. stored_end named.1 >>= λ ended. Ok (record { records = rs; refs = named.0 }))
          ((n >>= λ named. stored_end named.1 >>= λ ended. Ok named.0) >>= λ refs. Ok (record { records = rs; refs = refs }))
      named rs (Ok x) = last rs x.0 (stored_end x.1)
      named rs (Err why) = refl

      counted : (rs : List Record) (c : Stored (ℕ × Bytes))
          → ◌≡◌ {A = Stored Records} (c >>= λ refs. next_refs refs.0 rs None refs.1 >>= λ named. stored_end named.1 >>= λ ended. Ok (record { records = rs; refs = named.0 }))
          ((c >>= λ refs. next_refs refs.0 rs None refs.1 >>= λ named. stored_end named.1 >>= λ ended. Ok named.0) >>= λ refs. Ok (record { records = rs; refs = refs }))
      counted rs (Ok refs) = named rs (next_refs refs.0 rs None refs.1)
      counted rs (Err why) = refl

      records : (r : Stored (List Record × Bytes)) → (r >>= as_defined) ≡ (r >>= with_records)
      records (Ok x) = counted x.0 (stored_count (codes "refs") x.1)
      records (Err why) = refl

      objects : (v : Version) (o : Stored (ℕ × Bytes)) → (o >>= λ objects. next_records name v objects.0 [] objects.1 >>= as_defined) ≡ ((o >>= λ objects. Ok (v, objects)) >>= with_front)
      objects v (Ok x) = records (next_records name v x.0 [] x.1)
      objects v (Err why) = refl

      magic : (m : Stored (Version × Bytes))
          → (m >>= λ start. stored_count (codes "objects") start.1 >>= λ objects. next_records name start.0 objects.0 [] objects.1 >>= as_defined)
          ≡ ((m >>= λ start. stored_count (codes "objects") start.1 >>= λ objects. Ok (start.0, objects)) >>= with_front)
      magic (Ok x) = objects x.0 (stored_count (codes "objects") x.1)
      magic (Err why) = refl

  module _ (text : Bytes) where
    pub no_start : (why : LookFault) → RefusesWith why (start_of text) → RefusesWith why (store_of name text)
    no_start why h same = let r = h same in (r.0, parts_of_store text ∙ ap (λ s. s >>= with_front) r.1)

    module _ (start : Start) (front : IsStart text start) where
      here : store_of name text ≡ with_front (start.version, (start.count, drop start.place text))
      here = parts_of_store text ∙ ap (λ s. s >>= with_front) front.lines

      pub no_records : (why : LookFault) → RefusesWith why (next_records name start.version start.count [] (drop start.place text)) → RefusesWith why (store_of name text)
      no_records why h same = let r = h same in (r.0, here ∙ ap (λ s. s >>= with_records) r.1)

      module _ (listed : List Listed) (behind : ℕ) (rs : List Record) (all : AreListed name text start listed behind rs) where
        read_then : store_of name text ≡ with_records (rs, drop behind text)
        read_then = here ∙ ap (λ s. s >>= with_records) all.read

        pub told_so : AreTold name start.version text listed rs
        told_so = record { heads = all.heads; stand = all.stand; sound = all.sound }

        pub no_refs : (why : LookFault) → RefusesWith why (refs_behind rs (drop behind text)) → RefusesWith why (store_of name text)
        no_refs why h same = let r = h same in (r.0, read_then ∙ ap (λ s. s >>= λ refs. Ok (record { records = rs; refs = refs })) r.1)

        pub read_so : {A : Type 0} (tail : Tail A) (refs : List Ref) → refs_behind rs (drop behind text) ≡ Ok refs → drop tail.refs tail.text.items ≡ refs_text refs → IsReadAs name text start.version listed tail
        read_so tail refs e lines =
            let long = length-drop start.place text in
            let within = front.within in
            let first : start.place ≡ length text - length (drop start.place text) = omega arith in
            record {
              repository = record { records = rs; refs = refs };
              count = start.count;
              behind = drop start.place text;
              starts = front.lines;
              read = read_then ∙ ap (λ s. s >>= λ refs. Ok (record { records = rs; refs = refs })) e;
              heads = all.heads;
              places = subst (λ k. places_listed listed ≡ places_from start.version k rs) first all.places;
              stand = all.stand;
              refs = lines;
            }

  -- ---- what is told

  -- a text with a fault tells nothing
  untold : (text : Bytes) → IsRefused (store_of name text) → told_by name (Some text) ≡ None
  untold text r = ap result_ok r.1

  pub start_untold : (told : Option Bytes) (why : LookFault) → ReadsStart told (Err why) → why ≡ Damaged → told_by name told ≡ None
  start_untold None why h same = refl
  start_untold (Some text) why h same = untold text (no_start text why h same)

  pub records_untold : (told : Option Bytes) (start : Start) (why : LookFault) → ReadsStart told (Ok start) → ListsAllNext name told start (Err why) → why ≡ Damaged → told_by name told ≡ None
  records_untold None start why f h same = refl
  records_untold (Some text) start why f h same = untold text (no_records text start f why h same)

  pub tail_untold : (A : Type 0) (told : Option Bytes) (start : Start) (listed : List Listed) (place : ℕ) (why : LookFault) → ReadsStart told (Ok start) → ListsAllNext name told start (Ok (listed, place))
      → ReadsTail name start.version {A = A} told listed place (Err why) → why ≡ Damaged → told_by name told ≡ None
  tail_untold A None start listed place why f a h same = refl
  tail_untold A (Some text) start listed place why f a h same = untold text (no_refs text start f listed place a.0 a.1 why (h a.0 (told_so text start f listed place a.0 a.1)) same)

  pub read_whole : {A : Type 0} (told : Option Bytes) (start : Start) (listed : List Listed) (place : ℕ) (tail : Tail A) → ReadsStart told (Ok start) → ListsAllNext name told start (Ok (listed, place))
      → ReadsTail name start.version told listed place (Ok tail) → IsReadIfTold name told start.version listed tail
  read_whole None start listed place tail f a h = tt
  read_whole (Some text) start listed place tail f a h =
      let r = h a.0 (told_so text start f listed place a.0 a.1) in
      read_so text start f listed place a.0 a.1 tail r.0 r.1 r.2

  pub read_ok : {A : Type 0} (told : Option Bytes) (v : Version) (listed : List Listed) (tail : Tail A) → IsReadIfTold name told v listed tail → IfSome told (λ text. IsOk (store_of name text))
  read_ok None v listed tail w = tt
  read_ok (Some text) v listed tail w = subst IsOk (sym w.read) refl
