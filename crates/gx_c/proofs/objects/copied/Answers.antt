use Rattle.std.proofs.Common.{◌<◌, ◌^◌, length, sym, ◌∙◌, arith}
use Rattle.gx_model.specs.declared.store_versions.Version.TheVariants.{Two}
use Rattle.gx_model.specs.Stores.StoreText.{store_text}
use Rattle.gx_object.specs.Namers.{sha1_is_namer}
use Rattle.gx_c.specs.Called.{git_name}
use Rattle.gx_c.proofs.Copies.{read_again, sent}
use Rattle.gx_c.proofs.objects.copied.Goals as goal

pub returns-in-Ok : goal.returns-in-Ok
returns-in-Ok g c =
    let r = c.args.repo.now.1 in
    let went = sent (store_text Two r) c.new-text.result c.send_store.new.sink c.send_store.result c.new-text.ensures c.send_store.ensures c.if-is_err.ensures.value in
    let text = c.into_bytes.result.items in
    let fits = c.into_bytes.result.ok in
    let small = c.into_bytes.result.small in
    let short : length text < 2 ^ 64 = omega arith in
    let read = read_again git_name r (c.stores_are_read.ensures git_name sha1_is_namer) c.sound.ensures text (c.into_bytes.ensures ∙ went) short in
    let same = sym c.in-Ok.ensures.store ∙ read in
    cc
