use Rattle.std.proofs.Common.{rules, ◌≡◌, true, false, subst}
use Rattle.gx_place.proofs.Outcomes.{first_call, then_call, as_calls, same_file, other_file, refused}
use Rattle.gx_place.specs.Putting.{unsynced, nameless, unknown, replaced, undurable, exists, changed, unseen, unrenamed, unsynced_folder, put}
use Rattle.gx_place.proofs.putting.put.Goals as goal

pub returns-in-Err : goal.returns-in-Err
returns-in-Err g c = as_calls _ _ _ _ (first_call _ _ _ c.in-Err.ensures.told) (undurable unsynced)

pub returns-in-Err-look_at_name : goal.returns-in-Err-look_at_name
returns-in-Err-look_at_name g c =
    as_calls _ _ _ _ (then_call _ _ _ _ _ (first_call _ _ _ c.in-Ok.ensures.told) c.in-Err-look_at_name.ensures.told) (undurable nameless)

pub returns-in-Err-look_at : goal.returns-in-Err-look_at
returns-in-Err-look_at g c =
    as_calls _ _ _ _ (then_call _ _ _ _ _ (then_call _ _ _ _ _ (first_call _ _ _ c.in-Ok.ensures.told) c.in-Ok-look_at_name.ensures.told) c.in-Err-look_at.ensures.told)
    (undurable unknown)

pub returns-then-ne : goal.returns-then-ne
returns-then-ne g c =
    as_calls _ _ _ _ (then_call _ _ _ _ _ (then_call _ _ _ _ _ (first_call _ _ _ c.in-Ok.ensures.told) c.in-Ok-look_at_name.ensures.told) c.in-Ok-look_at.ensures.told)
    (undurable (replaced {named = c.in-Ok-look_at_name.named} (other_file _ _ (subst (λ b. b ≡ true) c.ne.ensures c.if-ne.true))))

pub returns-in-Err-want_expected : goal.returns-in-Err-want_expected
returns-in-Err-want_expected g c =
    as_calls _ _ _ _ (then_call _ _ _ _ _ (then_call _ _ _ _ _ (then_call _ _ _ _ _ (first_call _ _ _ c.in-Ok.ensures.told) c.in-Ok-look_at_name.ensures.told) c.in-Ok-look_at.ensures.told) c.look.ensures.told)
    (refused _ c.in-Ok-look_at_name.named c.in-Ok-look_at.now _ _ (same_file _ _ (subst (λ b. b ≡ false) c.ne.ensures c.if-ne.false)) c.in-Err-want_expected.ensures)

pub returns-in-Err-rename : goal.returns-in-Err-rename
returns-in-Err-rename g c =
    as_calls _ _ _ _ (then_call _ _ _ _ _ (then_call _ _ _ _ _ (then_call _ _ _ _ _ (then_call _ _ _ _ _ (first_call _ _ _ c.in-Ok.ensures.told) c.in-Ok-look_at_name.ensures.told) c.in-Ok-look_at.ensures.told) c.look.ensures.told) c.in-Err-rename.ensures.told)
    (unrenamed {named = c.in-Ok-look_at_name.named} {now = c.in-Ok-look_at.now} (same_file _ _ (subst (λ b. b ≡ false) c.ne.ensures c.if-ne.false)) c.in-Ok-want_expected.ensures)

pub returns-in-Err-sync : goal.returns-in-Err-sync
returns-in-Err-sync g c =
    as_calls _ _ _ _ (then_call _ _ _ _ _ (then_call _ _ _ _ _ (then_call _ _ _ _ _ (then_call _ _ _ _ _ (then_call _ _ _ _ _ (first_call _ _ _ c.in-Ok.ensures.told) c.in-Ok-look_at_name.ensures.told) c.in-Ok-look_at.ensures.told) c.look.ensures.told) c.in-Ok-rename.ensures.told) c.in-Err-sync.ensures.told)
    (put {named = c.in-Ok-look_at_name.named} {now = c.in-Ok-look_at.now} (same_file _ _ (subst (λ b. b ≡ false) c.ne.ensures c.if-ne.false)) c.in-Ok-want_expected.ensures (search rules))

pub returns-in-Ok-sync : goal.returns-in-Ok-sync
returns-in-Ok-sync g c =
    as_calls _ _ _ _ (then_call _ _ _ _ _ (then_call _ _ _ _ _ (then_call _ _ _ _ _ (then_call _ _ _ _ _ (then_call _ _ _ _ _ (first_call _ _ _ c.in-Ok.ensures.told) c.in-Ok-look_at_name.ensures.told) c.in-Ok-look_at.ensures.told) c.look.ensures.told) c.in-Ok-rename.ensures.told) c.in-Ok-sync.ensures.told)
    (put {named = c.in-Ok-look_at_name.named} {now = c.in-Ok-look_at.now} (same_file _ _ (subst (λ b. b ≡ false) c.ne.ensures c.if-ne.false)) c.in-Ok-want_expected.ensures tt)

pub returns-in-Err-2 : goal.returns-in-Err-2
returns-in-Err-2 g c =
    as_calls _ _ _ _ (then_call _ _ _ _ _ (then_call _ _ _ _ _ (then_call _ _ _ _ _ (then_call _ _ _ _ _ (then_call _ _ _ _ _ (first_call _ _ _ c.in-Ok.ensures.told) c.in-Ok-look_at_name.ensures.told) c.in-Ok-look_at.ensures.told) c.look.ensures.told) c.in-Ok-rename.ensures.told) c.in-Err-sync.ensures.told)
    (unsynced_folder {named = c.in-Ok-look_at_name.named} {now = c.in-Ok-look_at.now} (same_file _ _ (subst (λ b. b ≡ false) c.ne.ensures c.if-ne.false)) c.in-Ok-want_expected.ensures)
