-- What is left where refs are dropped.
use Rattle.std.proofs.Common.{◌≡◌, ℕ, ◌++◌, Bool, true, false, List, [], append-nil, map, Option, Some, None, Result, Ok, Err, refl, sym, ap, subst, ◌∙◌, inl, inr}
use Rattle.std.specs.Prelude.{IfOk}
use Rattle.std.specs.Borrow.{Bor}
use Rattle.std.specs.declared.vec.Vec.{Vec}
use Rattle.gx_model.specs.declared.objects.Kind.{Kind}
use Rattle.gx_model.specs.Texts.{Bytes}
use Rattle.gx_model.specs.Histories.{Records}
use Rattle.gx_model.specs.Laws.RepositoryLaws.{with_refs}
use Rattle.gx_model.specs.Records.Publishing.{Ref}
use Rattle.gx_model.specs.Records.Sound.{IsSound}
use Rattle.gx_text.specs.Devices.{Coming}
use Rattle.gx_stream.specs.Heard.{heard}
use Rattle.gx_batch.specs.Lines.{lines_from}
use Rattle.gx_batch.specs.declared.ending.LineEnding.TheVariants.{Lf}
use Rattle.gx_repo.specs.Dropping.{Drops, dropped}
use Rattle.gx_text.specs.Lent.{lent_texts}
use Rattle.gx_repo.specs.Repositories.{Repository}
use Rattle.gx_repo.specs.declared.fault.DropFault.TheVariants as drop
use Rattle.gx_rev.specs.declared.fault.RevFault.TheVariants.{UnknownRef}
use Rattle.gx_cli.specs.Dropping.{DropsAll, DropsFrom, DropsRead, IsDropped, shown_left}
use Rattle.gx_cli.specs.Gathering.{AreLines, GathersLines}
use Rattle.gx_cli.specs.Serving.{EndsLeft, EndsWithLeft, IsWritten}
use Rattle.gx_cli.specs.declared.fault.CliFault.{CliFault}
use Rattle.gx_cli.specs.declared.fault.CliFault.TheVariants as fault
use Rattle.gx_cli.specs.declared.serving.Outcome.{Outcome}

left_of : {N : Type 0} (old new : Repository N) → new.0 ≡ old.0 → new.1.records ≡ old.1.records → new ≡ (old.0, with_refs old.1 new.1.refs)
left_of old new e f = rw (sym e, sym f) refl

module _ {N : Type 0} (old new : Repository N) (all : List Bytes) (names : List (Bor Bytes)) (same : lent_texts names ≡ all) where
  -- the refs with these names are dropped
  pub names_dropped : new.0 ≡ old.0 → new.1.records ≡ old.1.records → Drops old.1.refs new.1.refs (lent_texts names) (Ok tt) → DropsAll old new all (Ok tt)
  names_dropped e f h = (ap (λ ns. dropped ns old.1.refs) (sym same) ∙ h, left_of old new e f)

  -- or one of them is unknown
  pub name_unknown : (number : ℕ) → Drops old.1.refs new.1.refs (lent_texts names) (Err (drop.UnknownRef number)) → DropsAll old new all (Err (fault.Revision number UnknownRef))
  name_unknown number h = (number, refl, ap (λ ns. dropped ns old.1.refs) (sym same) ∙ h)

-- memory may run out whatever is left
out_of_memory : (name : Kind → Bytes → Bytes) (old : Records) (given : Result (List Ref) ℕ) → IsDropped name old given (Err fault.OutOfMemory)
out_of_memory name old (Ok refs) = tt
out_of_memory name old (Err number) = tt

module _ {N : Type 0} (name_of : N → Kind → Bytes → Bytes) (old new : Repository N) (names : List Bytes) where
  -- the refs with these names are gone
  pub all_dropped : DropsAll old new names (Ok tt) → IsSound (name_of new.0) new.1 → IsDropped (name_of old.0) old.1 (dropped names old.1.refs) (Ok new.1)
  all_dropped h sound =
      let left : new.1 ≡ with_refs old.1 new.1.refs = ap (λ (r : Repository N). r.1) h.1 in
      subst (λ d. IsDropped (name_of old.0) old.1 d (Ok new.1)) (sym h.0) (left, subst (λ n. IsSound (name_of n) new.1) (ap (λ (r : Repository N). r.0) h.1) sound)

  -- none is
  pub none_dropped : (why : CliFault) → DropsAll old new names (Err why) → IsDropped (name_of old.0) old.1 (dropped names old.1.refs) (Err why)
  none_dropped fault.OutOfMemory h = out_of_memory (name_of old.0) old.1 (dropped names old.1.refs)
  none_dropped why h = subst (λ d. IsDropped (name_of old.0) old.1 d (Err why)) (sym h.2) h.1

module _ {A : Type 0} (name : Kind → Bytes → Bytes) (old : Records) (words : List Bytes) (answer : Result Records CliFault) where
  dropped_behind : (c : Coming) (read : Vec (Vec ℕ A) A) → AreLines (lines_from Lf c) c.fails (Ok read)
      → IsDropped name old (dropped (words ++ map (λ line. line.items) read.items) old.refs) answer → DropsRead name c.fails old (words ++ lines_from Lf c) answer
  dropped_behind c read h k =
      subst (λ fails. DropsRead name fails old (words ++ lines_from Lf c) answer) (sym h.0) (subst (λ lines. IsDropped name old (dropped (words ++ lines) old.refs) answer) h.1 k)

  -- the lines of a source are names behind these words
  pub lines_dropped : (coming : Option Coming) (read : Vec (Vec ℕ A) A) → GathersLines coming (Ok read)
      → IsDropped name old (dropped (words ++ map (λ line. line.items) read.items) old.refs) answer → DropsFrom name true old words coming answer
  lines_dropped None read h k = (h.0, dropped_behind h.0 read h.1 k)
  lines_dropped (Some c) read h k = dropped_behind (heard c) read h k

module _ (name : Kind → Bytes → Bytes) (old : Records) (words : List Bytes) (answer : Result Records CliFault) where
  -- no source is asked for
  pub without_lines : (stdin : Bool) (coming : Option Coming) → stdin ≡ false → IsDropped name old (dropped (words ++ []) old.refs) answer → DropsFrom name stdin old words coming answer
  without_lines stdin coming e k = subst (λ s. DropsFrom name s old words coming answer) (sym e) (subst (λ ws. IsDropped name old (dropped ws old.refs) answer) (append-nil words) k)

  -- one is
  pub from_source : (stdin : Bool) (coming : Option Coming) → stdin ≡ true → DropsFrom name true old words coming answer → DropsFrom name stdin old words coming answer
  from_source stdin coming e k = subst (λ s. DropsFrom name s old words coming answer) (sym e) k

module _ (A : Type 0) (name : Kind → Bytes → Bytes) (old : Records) (words : List Bytes) where
  no_memory : (fails : Bool) (names : List Bytes) → DropsRead name fails old names (Err fault.OutOfMemory)
  no_memory false names = out_of_memory name old (dropped names old.refs)
  no_memory true names = inr refl

  -- the lines of a source aren't all read
  pub lines_unread : (coming : Option Coming) (why : CliFault) → GathersLines {A = A} coming (Err why) → DropsFrom name true old words coming (Err why)
  lines_unread None fault.OutOfMemory h = (h.0, no_memory h.0.fails (words ++ lines_from Lf h.0))
  lines_unread None fault.ReadFailed h = (h.0, subst (λ fails. DropsRead name fails old (words ++ lines_from Lf h.0) (Err fault.ReadFailed)) (sym h.1) (inl refl))
  lines_unread None why h = absurd h.1
  lines_unread (Some c) fault.OutOfMemory h = no_memory (heard c).fails (words ++ lines_from Lf (heard c))
  lines_unread (Some c) fault.ReadFailed h = subst (λ fails. DropsRead name fails old (words ++ lines_from Lf (heard c)) (Err fault.ReadFailed)) (sym h) (inl refl)
  lines_unread (Some c) why h = absurd h

-- the text is that of what is left of a repository with this namer
pub text_left : {N A : Type 0} (name_of : N → Kind → Bytes → Bytes) (n : N) (answer : Result (Repository N) CliFault) (o : Outcome A) → IfOk answer (λ left. left.0 ≡ n) → EndsWithLeft name_of answer o → EndsLeft (name_of n) (shown_left answer) o
text_left name_of n (Ok left) o e h = subst (λ m. IsWritten (name_of m) left.1 o) e h
text_left name_of n (Err why) o e h = h
