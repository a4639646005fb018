-- What is taken of a text, by the items that it offers.
use Rattle.std.proofs.Common.{◌≡◌, ℕ, Bool, List, Option, Some, None, Result, Ok, Err, ap, ◌∙◌}
use Rattle.std.specs.declared.vec.Vec.{Vec}
use Rattle.gx_model.specs.declared.objects.Kind.{Kind}
use Rattle.gx_model.specs.Texts.{Bytes}
use Rattle.gx_model.specs.Histories.{Records}
use Rattle.gx_text.specs.Devices.{Coming}
use Rattle.gx_stream.specs.Heard.{heard}
use Rattle.gx_repo.specs.Repositories.{Repository}
use Rattle.gx_wide.specs.ObjectsTexts as model
use Rattle.gx_offered.specs.Items.{shown_offer}
use Rattle.gx_offered.specs.Offers.{GivesOffer, OffersAll}
use Rattle.gx_offered.specs.declared.offered.Offered.{Offered}
use Rattle.gx_taken.specs.Calls.{AreGoodItems, IsTaken, TakesAll, TakesText}
use Rattle.gx_taken.specs.Taking.{Refusal, taken, text_taken, unread}
use Rattle.gx_taken.specs.declared.fault.TakeFault.{TakeFault}
use Rattle.gx_taken.specs.declared.fault.TakeFault.TheVariants as fault
use Rattle.gx_taken.proofs.GoodItems.{good_items}

module _ (name : Kind → Bytes → Bytes) where
  -- what is offered is good
  pub offered_good : {A : Type 0} (coming : Option Coming) (offered : Vec (Offered A) A) → GivesOffer name coming (Ok offered) → AreGoodItems name (shown_offer offered)
  offered_good None offered h = good_items name h.0.bytes (shown_offer offered) h.1.1
  offered_good (Some coming) offered h = good_items name (heard coming).bytes (shown_offer offered) h.1

  module _ (force : Bool) (r : Records) where
    -- what a text gives, by what is read of it
    by_items : Result (List model.Item) (ℕ × model.ItemFault) → Result Records (ℕ × Refusal)
    by_items read = elim read [ Err fault ↦ Err (fault.0, unread fault.1) | Ok items ↦ taken force r items ]

    read_as : (text : Bytes) (read : Result (List model.Item) (ℕ × model.ItemFault)) → model.items_of name text ≡ read → text_taken name force r text ≡ by_items read
    unfolding by_items
    read_as text read e = ap by_items e

    module _ {N A : Type 0} where
      given_by : (coming : Coming) (offered : Vec (Offered A) A) → OffersAll name coming (Ok offered) → (answer : Result (Repository N) (TakeFault A)) → IsTaken (taken force r (shown_offer offered)) answer → TakesAll name force r coming answer
      unfolding by_items
      given_by coming offered h (Ok left) k = (h.0, read_as coming.bytes _ h.1 ∙ k)
      given_by coming offered h (Err fault.OutOfMemory) k = tt
      given_by coming offered h (Err fault.ReadFailed) k = absurd k
      given_by coming offered h (Err (fault.Item number kind)) k = (h.0, read_as coming.bytes _ h.1 ∙ k)

      -- what is offered is taken, or not
      pub text_given : (coming : Option Coming) (offered : Vec (Offered A) A) → GivesOffer name coming (Ok offered) → (answer : Result (Repository N) (TakeFault A)) → IsTaken (taken force r (shown_offer offered)) answer → TakesText name force r coming answer
      text_given None offered h answer k = (h.0, given_by h.0 offered h.1 answer k)
      text_given (Some coming) offered h answer k = given_by (heard coming) offered h answer k
