use Rattle.std.proofs.Common.{◌++◌, ◌∷◌, [], codes, length}
use Rattle.std.specs.List.{flat_map}
use Rattle.gx_model.specs.Texts.Numbers.{number_text}
use Rattle.std.proofs.lemmas.Result.{err_from_is_err_and}
use Rattle.gx_model.specs.declared.store_versions.Version.TheVariants.{Two}
use Rattle.gx_model.specs.Objects.{line}
use Rattle.gx_model.specs.Stores.StoreText.{store_text, stored_record, stored_ref, version_text}
use Rattle.gx_file.proofs.SentStores.{sent_store_read, store_left}
use Rattle.gx_model.proofs.Texts.SentTexts.{left_fails, less_left}
use Rattle.gx_file.proofs.SentTexts.{anyway, last_left}
use Rattle.gx_file.proofs.sending.write_to.Goals as goal

pub returns-in_err-send_text-clause-text : goal.returns-in_err-send_text-clause-text
returns-in_err-send_text-clause-text g c =
    let p = err_from_is_err_and c.from_residual.result c.from_residual.ensures.1 in
    let r = c.args.repo.now.1 in
    let start = line (codes "gxstore") (version_text Two) in
    let records = line (codes "objects") (number_text (length r.records)) ++ flat_map (stored_record Two) r.records in
    let refs = line (codes "refs") (number_text (length r.refs)) ++ flat_map stored_ref r.refs in
    let ends = codes "end" ++ 10 ∷ [] in
    let was = g.W.Sink.taken c.args.sink.now in
    let first = g.W.Sink.taken c.send_text.new.sink in
    rw p.1 (left_fails (store_text Two r) was was first start (records ++ (refs ++ ends)) (store_left Two r was) c.in_err-send_text.ensures)

pub returns-in_err-send_records-clause-text : goal.returns-in_err-send_records-clause-text
returns-in_err-send_records-clause-text g c =
    let p = err_from_is_err_and c.from_residual-in_err-send_records.result c.from_residual-in_err-send_records.ensures.1 in
    let r = c.args.repo.now.1 in
    let start = line (codes "gxstore") (version_text Two) in
    let records = line (codes "objects") (number_text (length r.records)) ++ flat_map (stored_record Two) r.records in
    let refs = line (codes "refs") (number_text (length r.refs)) ++ flat_map stored_ref r.refs in
    let ends = codes "end" ++ 10 ∷ [] in
    let was = g.W.Sink.taken c.args.sink.now in
    let first = g.W.Sink.taken c.send_text.new.sink in
    let second = g.W.Sink.taken c.send_records.new.sink in
    let begun = less_left (store_text Two r) was was first start (records ++ (refs ++ ends)) (store_left Two r was) c.in_ok-send_text.ensures in
    rw p.1 (left_fails (store_text Two r) was first second records (refs ++ ends) begun c.in_err-send_records.ensures.text)

pub returns-in_err-send_refs-clause-text : goal.returns-in_err-send_refs-clause-text
returns-in_err-send_refs-clause-text g c =
    let p = err_from_is_err_and c.from_residual-in_err-send_refs.result c.from_residual-in_err-send_refs.ensures.1 in
    let r = c.args.repo.now.1 in
    let start = line (codes "gxstore") (version_text Two) in
    let records = line (codes "objects") (number_text (length r.records)) ++ flat_map (stored_record Two) r.records in
    let refs = line (codes "refs") (number_text (length r.refs)) ++ flat_map stored_ref r.refs in
    let ends = codes "end" ++ 10 ∷ [] in
    let was = g.W.Sink.taken c.args.sink.now in
    let first = g.W.Sink.taken c.send_text.new.sink in
    let second = g.W.Sink.taken c.send_records.new.sink in
    let third = g.W.Sink.taken c.send_refs.new.sink in
    let begun = less_left (store_text Two r) was was first start (records ++ (refs ++ ends)) (store_left Two r was) c.in_ok-send_text.ensures in
    let half = less_left (store_text Two r) was first second records (refs ++ ends) begun c.in_ok-send_records.ensures.text in
    rw p.1 (left_fails (store_text Two r) was second third refs ends half c.in_err-send_refs.ensures.text)

pub returns-clause-text : goal.returns-clause-text
returns-clause-text g c =
    let r = c.args.repo.now.1 in
    let start = line (codes "gxstore") (version_text Two) in
    let records = line (codes "objects") (number_text (length r.records)) ++ flat_map (stored_record Two) r.records in
    let refs = line (codes "refs") (number_text (length r.refs)) ++ flat_map stored_ref r.refs in
    let ends = codes "end" ++ 10 ∷ [] in
    let was = g.W.Sink.taken c.args.sink.now in
    let first = g.W.Sink.taken c.send_text.new.sink in
    let second = g.W.Sink.taken c.send_records.new.sink in
    let third = g.W.Sink.taken c.send_refs.new.sink in
    let begun = less_left (store_text Two r) was was first start (records ++ (refs ++ ends)) (store_left Two r was) c.in_ok-send_text.ensures in
    let half = less_left (store_text Two r) was first second records (refs ++ ends) begun c.in_ok-send_records.ensures.text in
    let last = less_left (store_text Two r) was second third refs ends half c.in_ok-send_refs.ensures.text in
    last_left (store_text Two r) was third (g.W.Sink.taken c.send_text-2.new.sink) ends c.send_text-2.result last c.send_text-2.ensures

pub returns-clause-read : goal.returns-clause-read
returns-clause-read g c =
    let r = c.args.repo.now.1 in
    let read = sent_store_read (g.N.Namer.name_of c.args.repo.now.0) (g.met.N.Namer.is_namer c.args.repo.now.0) Two r c.sound.ensures c.in_ok-send_records.ensures.count c.in_ok-send_records.ensures.lengths c.in_ok-send_refs.ensures.count in
    anyway c.send_text-2.result read
