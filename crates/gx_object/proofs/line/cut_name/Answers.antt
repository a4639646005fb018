use Rattle.std.proofs.Common.{◌≡◌, Some, None, refl}
use Rattle.gx_model.specs.Texts.{Bytes}
use Rattle.gx_model.specs.Objects.Naming.{lower_name_in}
use Rattle.gx_object.specs.Lines.{field, name_field}
use Rattle.gx_object.proofs.line.cut_name.Goals as goal

named : (word bytes digits rest name : Bytes) → Some (digits, rest) ≡ field word bytes → Some name ≡ lower_name_in digits → Some (name, rest) ≡ name_field word bytes
unfolding name_field
named word bytes digits rest name e f = rw (← e, ← f) refl

unnamed : (word bytes digits rest : Bytes) → Some (digits, rest) ≡ field word bytes → None ≡ lower_name_in digits → None ≡ name_field word bytes
unfolding name_field
unnamed word bytes digits rest e f = rw (← e, ← f) refl

pub returns : goal.returns
returns c = named c.args.word.now c.args.bytes.now c.in_ok-digits.digits.now c.in_ok-digits.rest.now c.in_ok-name.name.bytes c.in_ok-digits.ensures c.in_ok-name.ensures

pub returns-in_err-name : goal.returns-in_err-name
returns-in_err-name c = rw c.from_residual-in_err-name.ensures (unnamed c.args.word.now c.args.bytes.now c.in_ok-digits.digits.now c.in_ok-digits.rest.now c.in_ok-digits.ensures c.in_err-name.ensures)
