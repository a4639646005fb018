-- What is left where refs are set.
use Rattle.std.proofs.Common.{◌≡◌, ℕ, Bool, true, false, List, map, Option, Some, None, Result, Ok, Err, refl, sym, subst, inl, inr}
use Rattle.std.specs.declared.vec.Vec.{Vec}
use Rattle.gx_model.specs.declared.objects.Kind.{Kind}
use Rattle.gx_model.specs.Texts.{Bytes}
use Rattle.gx_model.specs.Histories.{Records}
use Rattle.gx_model.specs.Records.Sound.{IsSound}
use Rattle.gx_text.specs.Devices.{Coming}
use Rattle.gx_stream.specs.Heard.{heard}
use Rattle.gx_batch.specs.Lines.{lines_from}
use Rattle.gx_batch.specs.declared.ending.LineEnding.TheVariants.{Lf}
use Rattle.gx_push.specs.Calls.{SetsRefs}
use Rattle.gx_push.specs.Settings.{set_refs}
use Rattle.gx_cli.specs.Gathering.{AreLines, GathersLines}
use Rattle.gx_cli.specs.Setting.{IsSet, SetsFrom, SetsRead}
use Rattle.gx_cli.specs.declared.fault.CliFault.{CliFault}
use Rattle.gx_cli.specs.declared.fault.CliFault.TheVariants as fault

module _ {N : Type 0} (name : Kind → Bytes → Bytes) (forced : Bool) (old : Records) (lines : List Bytes) where
  -- the refs are set
  pub all_set : (left : N × Records) → SetsRefs forced old lines (Ok left) → IsSound name left.1 → IsSet name old (set_refs forced old lines) (Ok left.1)
  all_set left h sound = (h.0, h.1, sound)

module _ {A : Type 0} (name : Kind → Bytes → Bytes) (forced : Bool) (old : Records) (answer : Result Records CliFault) where
  set_behind : (c : Coming) (read : Vec (Vec ℕ A) A) → AreLines (lines_from Lf c) c.fails (Ok read)
      → IsSet name old (set_refs forced old (map (λ line. line.items) read.items)) answer → SetsRead name c.fails forced old (lines_from Lf c) answer
  set_behind c read h k =
      subst (λ fails. SetsRead name fails forced old (lines_from Lf c) answer) (sym h.0) (subst (λ lines. IsSet name old (set_refs forced old lines) answer) h.1 k)

  -- the lines of a source tell what is set
  pub lines_set : (coming : Option Coming) (read : Vec (Vec ℕ A) A) → GathersLines coming (Ok read)
      → IsSet name old (set_refs forced old (map (λ line. line.items) read.items)) answer → SetsFrom name forced old None coming answer
  lines_set None read h k = (h.0, set_behind h.0 read h.1 k)
  lines_set (Some c) read h k = set_behind (heard c) read h k

module _ (A : Type 0) (name : Kind → Bytes → Bytes) (forced : Bool) (old : Records) where
  no_memory : (fails : Bool) (lines : List Bytes) → SetsRead name fails forced old lines (Err fault.OutOfMemory)
  no_memory false lines = tt
  no_memory true lines = inr refl

  -- the lines of a source aren't all read
  pub lines_unset : (coming : Option Coming) (why : CliFault) → GathersLines {A = A} coming (Err why) → SetsFrom name forced old None coming (Err why)
  lines_unset None fault.OutOfMemory h = (h.0, no_memory h.0.fails (lines_from Lf h.0))
  lines_unset None fault.ReadFailed h = (h.0, subst (λ fails. SetsRead name fails forced old (lines_from Lf h.0) (Err fault.ReadFailed)) (sym h.1) (inl refl))
  lines_unset None why h = absurd h.1
  lines_unset (Some c) fault.OutOfMemory h = no_memory (heard c).fails (lines_from Lf (heard c))
  lines_unset (Some c) fault.ReadFailed h = subst (λ fails. SetsRead name fails forced old (lines_from Lf (heard c)) (Err fault.ReadFailed)) (sym h) (inl refl)
  lines_unset (Some c) why h = absurd h
