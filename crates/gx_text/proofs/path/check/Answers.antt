use Rattle.std.proofs.Common.{◌≡◌, ◌<◌, ◌≤◌, length, true, Ok, Err, refl, rules}
use Rattle.std.proofs.lemmas.Bool.{le-leb, lt-leb}
use Rattle.std.specs.List.{list_all}
use Rattle.gx_model.specs.Texts.{Bytes}
use Rattle.gx_model.specs.Texts.Paths.{is_component, parts_of, path_of}
use Rattle.gx_model.specs.declared.faults.Fault.TheVariants as faults
use Rattle.gx_text.proofs.path.check.Goals as goal

too_long : (text : Bytes) → list_all is_component (parts_of text) ≡ true → 4095 < length text → path_of text ≡ Err faults.PathTooLong
too_long text e l = rw (e, lt-leb (length text) 4095 l) refl

short : (text : Bytes) → list_all is_component (parts_of text) ≡ true → length text ≤ 4095 → path_of text ≡ Ok (parts_of text)
short text e l = rw (e, le-leb (length text) 4095 l) refl

pub returns-then-text-gt-MOST_BYTES-clause-path : goal.returns-then-text-gt-MOST_BYTES-clause-path
returns-then-text-gt-MOST_BYTES-clause-path c = too_long c.args.text.now (search rules) (search rules)

pub returns-clause-path : goal.returns-clause-path
returns-clause-path c = short c.args.text.now (search rules) (search rules)
