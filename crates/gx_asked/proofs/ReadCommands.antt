-- How far the commands of a text were entered.
use Rattle.std.proofs.Common.{◌≡◌, ℕ, ◌-◌, ◌^◌, ◌≤◌, Bool, List, [], ◌∷◌, ◌++◌, length, append_assoc, append-nil, Option, Some, None, Ok, Err, refl, sym, ap, subst, ◌∙◌, arith, inl, inr}
use Rattle.std.specs.Prelude.{◌⊎◌}
use Rattle.std.specs.List.{AllByRecursion}
use Rattle.std.proofs.lemmas.Bool.Decides.{nat_tests}
use Rattle.gx_model.specs.declared.features.Features.{Features}
use Rattle.gx_model.specs.Texts.{Bytes}
use Rattle.gx_model.specs.Streams.Commands as model
use Rattle.gx_model.specs.Streams.Commands.{Commands}
use Rattle.gx_model.specs.Streams.Grammar.{commands_asked, stops}
use Rattle.gx_model.specs.Streams.Items.{items_of}
use Rattle.gx_text.specs.Devices.{Coming}
use Rattle.gx_stream.specs.Heard.{heard_upto}
use Rattle.gx_command.specs.CommandFaults.{fault_of}
use Rattle.gx_command.specs.Reading.{Reads, commands_asked_from}
use Rattle.gx_command.specs.Views.{shown_command}
use Rattle.gx_command.specs.declared.commands.Command.{Command}
use Rattle.gx_command.specs.declared.fault.CommandFault.{CommandFault}
use Rattle.gx_command.specs.declared.fault.CommandFault.TheVariants as command
use Rattle.gx_asked.specs.Asking.{AskAmong, BringsOther, HasNoFault, IsCause, of_command, texts_of}
use Rattle.gx_asked.specs.Entering.{Asks, IsWhy, Keeps}
use Rattle.gx_asked.specs.declared.asked.Asked.{Asked}
use Rattle.gx_asked.specs.declared.fault.AskedFault.{AskedFault}
use Rattle.gx_asked.specs.declared.fault.AskedFault.TheVariants.{OutOfMemory, Unread, StandsForAnother}
use Rattle.gx_asked.proofs.EnteredCommands.{commands_kept}

both : {X : Type 0} (P : X → Type 0) (xs ys : List X) → AllByRecursion P xs → AllByRecursion P ys → AllByRecursion P (xs ++ ys)
both P [] ys h k = k
both P (x ∷ xs) ys h k = (h.0, both P xs ys h.1 k)

behind : {X : Type 0} (P : X → Type 0) (xs ys : List X) → AllByRecursion P (xs ++ ys) → AllByRecursion P ys
behind P [] ys h = h
behind P (x ∷ xs) ys h = behind P xs ys h.1

-- a text that memory holds is heard whole
heard_whole : (room : ℕ) (c : Coming) → length c.bytes ≤ room → heard_upto room c ≡ c
unfolding heard_upto
heard_whole room c l = grind (arith, nat_tests)

abbrev all : Features → Bytes → Bool → Commands
all features text fails = commands_asked features (items_of text fails)

module _ {A : Type 0} (features : Features) (text : Bytes) (fails : Bool) where
  -- these commands are still to come, and all before them were entered
  pub record IsRead (asked : Asked A) (now : Option Commands) : Type 0 where
    pub left : Commands
    pub now_is : now ≡ Some left
    pub before : List model.Command
    pub list : (all features text fails).list ≡ before ++ left.list
    pub fault : (all features text fails).fault ≡ left.fault
    pub entered : AllByRecursion (Asks asked) before

  pub none_read : (asked : Asked A) (now : Option Commands) → length text ≤ 2 ^ 63 - 1 → now ≡ Some (commands_asked_from features (record { bytes = text; fails = fails })) → IsRead asked now
  none_read asked now l e =
      record {
        left = all features text fails;
        now_is = e ∙ ap (λ (c : Coming). Some (commands_asked features (items_of c.bytes c.fails))) (heard_whole (2 ^ 63 - 1) (record { bytes = text; fails = fails }) l);
        before = [];
        list = refl;
        fault = refl;
        entered = tt;
      }

  module _ (asked : Asked A) (old new : Option Commands) (r : IsRead asked old) where
    pub one_read : (c : Command A) (then : Asked A) → Reads old new (Ok (Some c)) → Keeps asked then → Asks then (shown_command c) → IsRead then new
    one_read c then reads kept h =
        let q = subst (λ o. Reads o new (Ok (Some c))) r.now_is reads in
        record {
          left = q.0;
          now_is = q.2;
          before = r.before ++ shown_command c ∷ [];
          list = r.list ∙ ap (λ (l : Commands). r.before ++ l.list) q.1 ∙ sym (append_assoc r.before (shown_command c ∷ []) q.0.list);
          fault = r.fault ∙ ap (λ (l : Commands). l.fault) q.1;
          entered = both (Asks then) r.before (shown_command c ∷ []) (commands_kept asked then kept r.before r.entered) (h, tt);
        }

    pub all_read : Reads {A = A} old new (Ok None) → AskAmong (texts_of asked.branches.keys) (texts_of asked.bases.keys) features text fails
    all_read reads =
        let q = subst (λ o. Reads {A = A} o new (Ok None)) r.now_is reads in
        subst (AllByRecursion (Asks asked)) (sym (r.list ∙ ap (λ (l : Commands). r.before ++ l.list) q.0 ∙ append-nil r.before)) r.entered

    pub no_fault_read : Reads {A = A} old new (Ok None) → HasNoFault features text fails
    no_fault_read reads = let q = subst (λ o. Reads {A = A} o new (Ok None)) r.now_is reads in r.fault ∙ ap (λ (l : Commands). l.fault) q.0

    pub stands_read : (c : Command A) → Reads old new (Ok (Some c)) → (BringsOther (shown_command c) → ⊥) → IsCause features text fails StandsForAnother
    stands_read c reads h = λ others.
        let q = subst (λ o. Reads o new (Ok (Some c))) r.now_is reads in
        h (behind BringsOther r.before (shown_command c ∷ q.0.list) (subst (AllByRecursion BringsOther) (r.list ∙ ap (λ (l : Commands). r.before ++ l.list) q.1) others)).0

    pub fault_read : (f : CommandFault) → Reads {A = A} old new (Err f) → IsCause features text fails (of_command f)
    fault_read f reads =
        let q = subst (λ o. Reads {A = A} o new (Err f)) r.now_is reads in
        by q.1
      where
        told : (f : CommandFault) → (all features text fails).fault ≡ Some (fault_of f) → IsCause features text fails (of_command f)
        told command.OutOfMemory e = tt
        told command.ReadFailed e = e
        told command.TruncatedData e = e
        told command.BadNumber e = e
        told command.UnknownCommand e = e
        told command.BadLine e = e
        told command.BadPath e = e
        told command.PathTooLong e = e
        told command.BadMode e = e
        told command.BadIdent e = e
        told command.BadRefName e = e
        told command.Unsupported e = e
        told command.LateOption e = e
        told command.MissingDone e = e

        by : (f ≡ command.OutOfMemory) ⊎ (r.left ≡ stops (Some (fault_of f))) → IsCause features text fails (of_command f)
        by (inl e) = subst (λ g. IsCause features text fails (of_command g)) (sym e) tt
        by (inr e) = told f (r.fault ∙ ap (λ (l : Commands). l.fault) e)

    pub stopped_read : (c : Command A) → Reads old new (Ok (Some c)) → (f : AskedFault) → IsWhy (BringsOther (shown_command c)) f → IsCause features text fails f
    stopped_read c reads OutOfMemory why = tt
    stopped_read c reads (Unread fault) why = absurd why
    stopped_read c reads StandsForAnother why = stands_read c reads why
