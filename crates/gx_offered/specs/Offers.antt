-- What reading a text of refs and objects gives.
use Rattle.std.specs.Prelude.{◌≡◌, true, false, Option, None, Some, Result, Ok, Err, ⊤}
use Rattle.std.specs.declared.vec.Vec.{Vec}
use Rattle.gx_model.specs.declared.objects.Kind.{Kind}
use Rattle.gx_model.specs.Texts.{Bytes}
use Rattle.gx_text.specs.Devices.{Coming}
use Rattle.gx_stream.specs.Heard.{heard}
use Rattle.gx_wide.specs.ObjectsTexts as model
use Rattle.gx_wide.specs.ObjectsTexts.{item_at, items_of}
use Rattle.gx_offered.specs.ItemFaults.{shown_fault}
use Rattle.gx_offered.specs.Items.{shown_offer}
use Rattle.gx_offered.specs.declared.fault.OfferFault.{OfferFault}
use Rattle.gx_offered.specs.declared.fault.OfferFault.TheVariants.{Item, OutOfMemory, ReadFailed}
use Rattle.gx_offered.specs.declared.offered.Offered.{Offered}

module _ (name : Kind → Bytes → Bytes) where
  -- an item stands at the front of a text
  abbrev pub BeginsWell : Bytes → Type 0
  BeginsWell text = (first : model.Item × Bytes) × (item_at name text ≡ Ok first)

  -- The items of a text, or its first fault. Memory is wanted only for an item that is read.
  abbrev pub Offers : {A : Type 0} → Bytes → Result (Vec (Offered A) A) OfferFault → Type 0
  Offers text (Ok offer) = items_of name text ≡ Ok (shown_offer offer)
  Offers text (Err OutOfMemory) = BeginsWell text
  Offers text (Err ReadFailed) = ⊥
  Offers text (Err (Item number fault)) = items_of name text ≡ Err (number, shown_fault fault)

  -- The same of what comes, which ended, or it failed.
  abbrev pub OffersAll : {A : Type 0} → Coming → Result (Vec (Offered A) A) OfferFault → Type 0
  OffersAll coming (Ok offer) = (coming.fails ≡ false) × (items_of name coming.bytes ≡ Ok (shown_offer offer))
  OffersAll coming (Err OutOfMemory) = ⊤
  OffersAll coming (Err ReadFailed) = coming.fails ≡ true
  OffersAll coming (Err (Item number fault)) = (coming.fails ≡ false) × (items_of name coming.bytes ≡ Err (number, shown_fault fault))

  -- The same of a source. Where it tells nothing, some bytes came.
  abbrev pub GivesOffer : {A : Type 0} → Option Coming → Result (Vec (Offered A) A) OfferFault → Type 0
  GivesOffer None result = (coming : Coming) × OffersAll coming result
  GivesOffer (Some coming) result = OffersAll (heard coming) result
