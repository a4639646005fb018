use Rattle.std.proofs.Common.{ℕ, Option, Some, None, Result, ap, subst, arith}
use Rattle.gx_model.specs.Streams.Items.{Stream}
use Rattle.gx_model.specs.Texts.{Bytes}
use Rattle.gx_model.specs.Texts.Sinks.{Taken}
use Rattle.gx_model.specs.declared.objects.Kind.{Kind}
use Rattle.gx_stream.specs.Reading.{AreOfText, MayCome}
use Rattle.gx_blobs.specs.Printing.{PrintsBlobs, PrintsItems}
use Rattle.gx_blobs.specs.declared.blob_names.BlobsFault.{BlobsFault}
use Rattle.gx_blobs.proofs.blob_names.blobs.Goals as goal

pub name_all-requires : goal.name_all-requires
name_all-requires g c =
    record {
      few = omega (arith, c.new-reader.ensures.most);
      empty = ap (λ v. v.1) c.new-store.ensures;
    }

-- what a reader may give that has read none yet is of some text
of_text : (names : Kind → Bytes → Bytes) (may : Stream → Type 0) (items : Option Stream) (was now : Option Taken) (answer : Result ℕ BlobsFault) → ((s : Stream) → may s → AreOfText s) → PrintsItems names may items was now answer → PrintsBlobs names items was now answer
of_text names may None was now answer text (s, m, p) = (s, text s m, p)
of_text names may (Some s) was now answer text p = p

pub returns : goal.returns
returns g c =
    let was = g.W.Sink.taken c.args.sink.now in
    let now = g.W.Sink.taken c.name_all.new.sink in
    let reader = c.new-reader.result in
    let named = subst (λ n. PrintsItems (g.N.Namer.name_of n) (MayCome reader) reader.stream was now c.name_all.result) (ap (λ v. v.0) c.new-store.ensures) c.name_all.ensures in
    subst (λ (s : Option Stream). PrintsBlobs (g.N.Namer.name_of c.args.namer) s was now c.name_all.result) c.new-reader.ensures.stream
    (of_text (g.N.Namer.name_of c.args.namer) (MayCome reader) reader.stream was now c.name_all.result c.new-reader.ensures.explains named)
