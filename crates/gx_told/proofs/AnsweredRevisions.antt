-- What is answered to a revision, by what it shows.
use Rattle.std.proofs.Common.{◌≡◌, ◌∙◌, Bool, true, false, refl, sym, ap, subst, List, Option, None, Some, Result, Ok, Err}
use Rattle.std.specs.Borrow.{Bor}
use Rattle.std.specs.Prelude.{IfSome}
use Rattle.gx_model.specs.declared.faults.Fault.TheVariants.{WrongKind}
use Rattle.gx_model.specs.declared.objects.Kind.{Kind}
use Rattle.gx_model.specs.declared.objects.Kind.TheVariants as kinds
use Rattle.gx_model.specs.Faults.{◌>>=◌}
use Rattle.gx_model.specs.Histories.{Records}
use Rattle.gx_model.specs.Histories.Values.{Value, blob_value, commit_value, tag_value, tree_value}
use Rattle.gx_model.specs.Records.{body_of, kind_of}
use Rattle.gx_model.specs.Records.HistoryOf.{history_of}
use Rattle.gx_model.specs.Revisions.Denotation.{Shown, object}
use Rattle.gx_model.specs.Texts.{Bytes}
use Rattle.gx_model.specs.Texts.Sinks.{Taken}
use Rattle.gx_batch.specs.Answers.{answer_by, asked_by, asked_for, batch_answer, directory_of, given_by, object_text, only_tree}
use Rattle.gx_batch.specs.declared.format.Part.{Part}
use Rattle.gx_object.specs.declared.name.Name.{Name}
use Rattle.gx_questions.specs.Answers.{Answers, Refuses, RefusesUntold}
use Rattle.gx_questions.specs.declared.fault.AskFault.{AskFault}
use Rattle.gx_questions.specs.declared.fault.AskFault.TheVariants as ask
use Rattle.gx_questions.proofs.Told.{fails_first, given_alike}
use Rattle.gx_rev.specs.Answers.{IsNamed, shown_by}
use Rattle.gx_rev.specs.Objects.{value_at}
use Rattle.gx_rev.specs.declared.fault.RevFault.TheVariants as rev
use Rattle.gx_rev.specs.declared.shown.Shown.{Shown as Given}
use Rattle.gx_rev.specs.declared.shown.Shown.TheVariants.{Object, Submodule}
use Rattle.gx_told.specs.Batching.{SendsAnswer, SendsRefusal, is_shown_tree, text_of_object}
use Rattle.gx_told.specs.Faults.{refused_at}
use Rattle.gx_told.specs.Printing.{Sent}
use Rattle.gx_told.specs.declared.fault.ToldFault.{ToldFault}
use Rattle.gx_told.specs.declared.fault.ToldFault.TheVariants.{OutOfMemory, StoreReadFailed, WriteFailed}
use Rattle.gx_told.proofs.Tellings.{both_told, each_told}

-- a text that was sent alone
pub sent_sends : (text : Bytes) (was now : Option Taken) (answer : Result (Unit {0}) ToldFault) → Sent text was now answer → SendsAnswer text was now answer
sent_sends text was now (Ok u) h = h
sent_sends text was now (Err WriteFailed) h = h
sent_sends text was now (Err OutOfMemory) h = absurd h
sent_sends text was now (Err StoreReadFailed) h = absurd h
sent_sends text was now (Err fault) h = absurd h

module _ (name : Kind → Bytes → Bytes) (check : Bool) (parts : List Part) where
  -- what goes out of a held object is what is answered
  pub object_sent : (r : Records) (kind : Kind) (called : Name) (body : Bytes) → IsNamed name r (Object kind called) → body ≡ body_of name (value_at r called) → text_of_object check parts kind called.bytes body ≡ object_text name check parts (value_at r called)
  object_sent r kind called body named is = λ i. text_of_object check parts (named.0 i) (named.1 i) (is i)

  module _ (asked : Bytes) (told : Option Records) (was now : Option Taken) (answer : Result (Unit {0}) ToldFault) where
    -- what is shown is answered
    pub shown_answered : (shown : Records → Shown) → IfSome told (λ r. asked_for name (history_of r) asked ≡ Ok (shown r)) → IfSome told (λ r. SendsAnswer (answer_by name check parts asked (Ok (shown r))) was now answer)
        → IfSome told (λ r. SendsAnswer (batch_answer name check parts (history_of r) asked) was now answer)
    shown_answered shown =
        both_told told (λ r. asked_for name (history_of r) asked ≡ Ok (shown r)) (λ r. SendsAnswer (answer_by name check parts asked (Ok (shown r))) was now answer) (λ r. SendsAnswer (batch_answer name check parts (history_of r) asked) was now answer)
        (λ r e k. subst (λ given. SendsAnswer (answer_by name check parts asked given) was now answer) (sym e) k)

-- a line that gives no object is answered
pub refused_answered : (name : Kind → Bytes → Bytes) (check : Bool) (parts : List Part) (asked : Bytes) (told : Option Records) (was now : Option Taken) (answer : Result (Unit {0}) ToldFault) (fault : AskFault)
    → Refuses told (λ r. asked_for name (history_of r) asked) fault → SendsRefusal asked fault was now answer → IfSome told (λ r. SendsAnswer (batch_answer name check parts (history_of r) asked) was now answer)
refused_answered name check parts asked None was now answer fault h k = tt
refused_answered name check parts asked (Some r) was now answer ask.OutOfMemory h k = subst (SendsAnswer (batch_answer name check parts (history_of r) asked) was now) (sym k.0) k.1
refused_answered name check parts asked (Some r) was now answer ask.ReadFailed h k = subst (SendsAnswer (batch_answer name check parts (history_of r) asked) was now) (sym k.0) k.1
refused_answered name check parts asked (Some r) was now answer ask.Damaged h k = absurd (cc h)
refused_answered name check parts asked (Some r) was now answer (ask.Revision kind) h k = subst (λ given. SendsAnswer (answer_by name check parts asked given) was now answer) (sym h) k

-- a held object isn't there
pub held_unsent : (told : Option Records) (text : Records → Bytes) (was : Option Taken) (fault : AskFault) → RefusesUntold {X = Bor Bytes} told (Err fault) → IfSome told (λ r. SendsAnswer (text r) was was (Err (refused_at 1 fault)))
held_unsent None text was fault h = tt
held_unsent (Some r) text was ask.OutOfMemory h = refl
held_unsent (Some r) text was ask.ReadFailed h = refl
held_unsent (Some r) text was ask.Damaged h = absurd (cc h)
held_unsent (Some r) text was (ask.Revision kind) h = absurd h

-- ---- what a line asks for

-- what is shown as a tree is one
tree_alone : (name : Kind → Bytes → Bytes) (r : Records) (shown : Given) → IsNamed name r shown → is_shown_tree shown ≡ true → only_tree (shown_by r shown) ≡ Ok (shown_by r shown)
tree_alone name r (Object kinds.Tree called) named is = by (value_at r called) named.0
  where
    by : (value : Value) → kinds.Tree ≡ kind_of name value → only_tree (object value) ≡ Ok (object value)
    by (tree_value files) e = refl
    by (blob_value bytes) e = absurd (cc e)
    by (commit_value made) e = absurd (cc e)
    by (tag_value tag) e = absurd (cc e)
tree_alone name r shown named is = absurd (cc is)

-- what isn't is refused
other_alone : (name : Kind → Bytes → Bytes) (r : Records) (shown : Given) → IsNamed name r shown → is_shown_tree shown ≡ false → only_tree (shown_by r shown) ≡ Err WrongKind
other_alone name r (Submodule called) named is = refl
other_alone name r (Object kind called) named is = by kind (value_at r called) named.0 is
  where
    by : (kind : Kind) (value : Value) → kind ≡ kind_of name value → is_shown_tree (Object kind called) ≡ false → only_tree (object value) ≡ Err WrongKind
    by kind (blob_value bytes) e f = refl
    by kind (commit_value made) e f = refl
    by kind (tag_value tag) e f = refl
    by kind (tree_value files) e f = absurd (cc (sym f ∙ ap (λ k. is_shown_tree (Object k called)) e))

module _ (name : Kind → Bytes → Bytes) (told : Option Records) (asked : Bytes) where
  -- a line without a slash at its end asks for what it gives
  pub asked_whole : (result : Result Given AskFault) → directory_of asked ≡ None → Answers told shown_by (λ r. given_by name (history_of r) asked) result → Answers told shown_by (λ r. asked_for name (history_of r) asked) result
  asked_whole result none h = given_alike told shown_by (λ r. given_by name (history_of r) asked) (λ r. asked_for name (history_of r) asked) result (each_told told (λ r. asked_for name (history_of r) asked ≡ given_by name (history_of r) asked) (λ r. ap (asked_by name (history_of r) asked) none)) h

  module _ (front : Bytes) (some : directory_of asked ≡ Some front) where
    -- what stands before the slash is asked for, and is to be a tree
    pub asked_tree : (result : Result Given AskFault) → Answers told shown_by (λ r. given_by name (history_of r) front >>= only_tree) result → Answers told shown_by (λ r. asked_for name (history_of r) asked) result
    asked_tree result h = given_alike told shown_by (λ r. given_by name (history_of r) front >>= only_tree) (λ r. asked_for name (history_of r) asked) result (each_told told (λ r. asked_for name (history_of r) asked ≡ (given_by name (history_of r) front >>= only_tree)) (λ r. ap (asked_by name (history_of r) asked) some)) h

    pub tree_is_asked : (shown : Given) → IfSome told (λ r. given_by name (history_of r) front ≡ Ok (shown_by r shown)) → IfSome told (λ r. IsNamed name r shown) → is_shown_tree shown ≡ true → Answers told shown_by (λ r. asked_for name (history_of r) asked) (Ok shown)
    tree_is_asked shown given named is =
        asked_tree (Ok shown) (both_told told (λ r. given_by name (history_of r) front ≡ Ok (shown_by r shown)) (λ r. IsNamed name r shown) (λ r. (given_by name (history_of r) front >>= only_tree) ≡ Ok (shown_by r shown))
        (λ r e n. ap (λ g. g >>= only_tree) e ∙ tree_alone name r shown n is) given named)

    pub other_is_refused : (shown : Given) → IfSome told (λ r. given_by name (history_of r) front ≡ Ok (shown_by r shown)) → IfSome told (λ r. IsNamed name r shown) → is_shown_tree shown ≡ false → Answers told shown_by (λ r. asked_for name (history_of r) asked) (Err (ask.Revision rev.WrongKind))
    other_is_refused shown given named is =
        asked_tree (Err (ask.Revision rev.WrongKind)) (both_told told (λ r. given_by name (history_of r) front ≡ Ok (shown_by r shown)) (λ r. IsNamed name r shown) (λ r. (given_by name (history_of r) front >>= only_tree) ≡ Err WrongKind)
        (λ r e n. ap (λ g. g >>= only_tree) e ∙ other_alone name r shown n is) given named)

    pub front_is_refused : (fault : AskFault) → Refuses told (λ r. given_by name (history_of r) front) fault → Answers told shown_by (λ r. asked_for name (history_of r) asked) (Err fault)
    front_is_refused fault h = asked_tree (Err fault) (fails_first told (λ r. given_by name (history_of r) front) (λ r. only_tree) fault h)
