-- What a sink took of texts that were sent one after the other.
use Rattle.std.proofs.Common.{◌≡◌, ap, ◌∙◌, [], ◌∷◌, ◌++◌, length, codes, subst, append_assoc, Option, Result, Ok, Err}
use Rattle.gx_model.specs.Texts.{Bytes}
use Rattle.std.specs.Fmt.{decimal}
use Rattle.gx_model.specs.Streams.Items.{Data}
use Rattle.gx_model.specs.Export.{item_text}
use Rattle.gx_adapt.specs.Adapting.{Puts, PutsIf}
use Rattle.gx_adapt.specs.declared.fault.AdaptFault.{AdaptFault}
use Rattle.gx_adapt.specs.declared.fault.AdaptFault.TheVariants.{OutOfMemory, ReadFailed, WriteFailed, TruncatedData, BadNumber}
use Rattle.gx_model.specs.Texts.Sinks.{Taken, Took}
use Rattle.gx_model.proofs.Texts.SentTexts.{failed_after, failed_longer, took_both}

-- what two texts give that are sent one after the other
pub puts_both : (was mid now : Option Taken) (before text : Bytes) (r : Result (Unit {0}) AdaptFault) → Took was mid before → Puts text mid now r → Puts (before ++ text) was now r
puts_both was mid now before text (Ok u) h k = took_both was mid now before text h k
puts_both was mid now before text (Err WriteFailed) h k = failed_after was mid now before text h k
puts_both was mid now before text (Err OutOfMemory) h k = absurd k
puts_both was mid now before text (Err ReadFailed) h k = absurd k
puts_both was mid now before text (Err TruncatedData) h k = absurd k
puts_both was mid now before text (Err BadNumber) h k = absurd k

-- where the first isn't sent
pub puts_first : (was now : Option Taken) (text more : Bytes) (fault : AdaptFault) → Puts {A = Unit {0}} text was now (Err fault) → Puts {A = Unit {0}} (text ++ more) was now (Err fault)
puts_first was now text more WriteFailed h = failed_longer was now text more h
puts_first was now text more OutOfMemory h = absurd h
puts_first was now text more ReadFailed h = absurd h
puts_first was now text more TruncatedData h = absurd h
puts_first was now text more BadNumber h = absurd h

-- without a want of memory
pub puts_if : (was now : Option Taken) (text : Bytes) (r : Result (Unit {0}) AdaptFault) → Puts text was now r → PutsIf text was now r
puts_if was now text (Ok u) h = h
puts_if was now text (Err WriteFailed) h = h
puts_if was now text (Err OutOfMemory) h = absurd h
puts_if was now text (Err ReadFailed) h = absurd h
puts_if was now text (Err TruncatedData) h = absurd h
puts_if was now text (Err BadNumber) h = absurd h

-- ---- a block, in three parts

-- the line that announces it
abbrev pub announcement : Bytes → Bytes
announcement x = codes "data " ++ decimal (length x) ++ 10 ∷ []

block_text : (x : Bytes) → announcement x ++ (x ++ 10 ∷ []) ≡ item_text (Data x)
block_text x = simp append_assoc

as_block : (was now : Option Taken) (x : Bytes) (r : Result (Unit {0}) AdaptFault) → Puts (announcement x ++ (x ++ 10 ∷ [])) was now r → PutsIf (item_text (Data x)) was now r
as_block was now x r h = puts_if was now (item_text (Data x)) r (subst (λ t. Puts t was now r) (block_text x) h)

pub block_first : (was now : Option Taken) (x : Bytes) (fault : AdaptFault) → Puts {A = Unit {0}} (announcement x) was now (Err fault) → PutsIf {A = Unit {0}} (item_text (Data x)) was now (Err fault)
block_first was now x fault h = as_block was now x (Err fault) (puts_first was now (announcement x) (x ++ 10 ∷ []) fault h)

pub block_second : (was mid now : Option Taken) (x : Bytes) (fault : AdaptFault) → Took was mid (announcement x) → Puts {A = Unit {0}} x mid now (Err fault) → PutsIf {A = Unit {0}} (item_text (Data x)) was now (Err fault)
block_second was mid now x fault h k = as_block was now x (Err fault) (puts_both was mid now (announcement x) (x ++ 10 ∷ []) (Err fault) h (puts_first mid now x (10 ∷ []) fault k))

pub block_whole : (was mid end now : Option Taken) (x : Bytes) (r : Result (Unit {0}) AdaptFault) → Took was mid (announcement x) → Took mid end x → Puts (10 ∷ []) end now r → PutsIf (item_text (Data x)) was now r
block_whole was mid end now x r h k l = as_block was now x r (puts_both was mid now (announcement x) (x ++ 10 ∷ []) r h (puts_both mid end now x (10 ∷ []) r k l))

-- what a buffer holds that was empty
pub filled : (seen held before x : Bytes) → seen ≡ held → held ≡ before ++ x → before ≡ [] → seen ≡ x
filled seen held before x e f g = e ∙ f ∙ ap (λ t. t ++ x) g
