-- Where memory may run out while a store text is read: behind what is read whole and is right. So want of memory hides no fault of
-- what stands before that place. Source: this project's own format.
use Rattle.std.specs.Prelude.{◌≡◌, ◌⊎◌, ◌<◌, ◌≤◌, ℕ, true, codes, IfErr, IsOk, List, [], None, Ok, Err, Option, Result}
use Rattle.gx_model.specs.declared.objects.Kind.{Kind}
use Rattle.gx_model.specs.declared.store_faults.FileFault.{FileFault}
use Rattle.gx_model.specs.declared.store_faults.FileFault.TheVariants.{BadRecord, OutOfMemory}
use Rattle.gx_model.specs.declared.store_versions.Version.{Version}
use Rattle.gx_model.specs.Histories.{Record, record_for}
use Rattle.gx_model.specs.Records.Publishing.{Ref}
use Rattle.gx_model.specs.Stores.StoreReading.{Stored, after_magic, is_stated, next_records, next_refs, record_line, stored_body, stored_count, stored_line}
use Rattle.gx_model.specs.Texts.{Bytes}
use Rattle.std.specs.Option.{ok_or}
use Rattle.gx_repo.specs.Records.{HidesNoFaultOf}
use Rattle.gx_repo.specs.declared.fault.AddFault.TheVariants as add
use Rattle.gx_file.specs.Gathering.{first_ref, gathered}

-- want of memory is answered where this holds
abbrev pub WantsWhere : {X : Type 0} → Result X FileFault → Type 0 → Type 0
WantsWhere result holds = IfErr result (λ why. why ≡ OutOfMemory → holds)

module _ {X : Type 0} where
  -- a part is right, and this holds of what it gives
  abbrev pub Behind : Stored X → (X → Type 0) → Type 0
  Behind given holds = (x : X) × (given ≡ Ok x) × holds x

-- ---- the head

-- the first line and the number of the records are right
abbrev pub HasHead : Bytes → Type 0
HasHead text = Behind (after_magic text) (λ start. IsOk (stored_count (codes "objects") start.1))

-- ---- records

module _ (name : Kind → Bytes → Bytes) where
  -- memory may run out for a record which has the name that is stated, and against which nothing is; but of a canonical tree whose links
  -- are held and which isn't held itself, it may be open whether a path below it is too long and whether its name is held
  abbrev pub RunsOutFor : List Record → Option Bytes → Kind → Bytes → Type 0
  RunsOutFor rs stated k body = (is_stated stated (name k body) ≡ true) × HidesNoFaultOf rs (record_for name k body) (Err add.OutOfMemory)

  module _ (v : Version) where
    -- the record that comes next is read whole, and memory runs out for it
    abbrev pub RunsOutAt : List Record → Bytes → Type 0
    RunsOutAt rs text =
        Behind (stored_line text) (λ l. Behind (ok_or (record_line v l.0) BadRecord) (λ k. Behind (stored_body k.1.0 l.1) (λ body. RunsOutFor rs k.1.1 k.0 body.0)))

    -- memory runs out at one of so many records, and those before it are right
    abbrev pub RunsOutAmong : ℕ → List Record → Bytes → Type 0
    RunsOutAmong count rs text = (k : ℕ) × (k < count) × Behind (next_records name v k rs text) (λ x. RunsOutAt x.0 x.1)

-- ---- refs

-- memory runs out behind some of so many refs, which are right; the line of the next one is right, too
abbrev pub RunsOutAmongRefs : List Record → ℕ → Bytes → Type 0
RunsOutAmongRefs rs count text = (k : ℕ) × (k ≤ count) × Behind (next_refs k rs None text) (λ x. k < count → IsOk (first_ref x.1))

-- memory runs out behind these refs, whose lines and order are right; the line of the next one is right, too
abbrev pub RunsOutBehind : ℕ → Bytes → List Ref → Type 0
RunsOutBehind count text refs = (k : ℕ) × (k < count) × (rest : Bytes) × (gathered k None text ≡ (refs, Ok rest)) × IsOk (first_ref rest)

-- ---- the whole

-- memory runs out at a record, or at the refs behind all records
abbrev pub RunsOut : (Kind → Bytes → Bytes) → Bytes → Type 0
RunsOut name text =
    Behind (after_magic text) (λ start. Behind (stored_count (codes "objects") start.1) (λ objects.
    RunsOutAmong name start.0 objects.0 [] objects.1
    ⊎ Behind (next_records name start.0 objects.0 [] objects.1) (λ records. Behind (stored_count (codes "refs") records.1) (λ refs. RunsOutAmongRefs records.0 refs.0 refs.1))))
