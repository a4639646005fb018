use Rattle.std.proofs.Common.{◌<◌, length, sym, ap, ◌∙◌, arith}
use Rattle.std.proofs.lemmas.Bool.{le-ltb}
use Rattle.gx_tree.proofs.Rooms.{below_beyond, below_within, root_within}
use Rattle.gx_tree.proofs.directory.Directory.fits_below.Goals as goal

pub returns-then-len-eq0 : goal.returns-then-len-eq0
returns-then-len-eq0 g c = c.fits.ensures ∙ root_within c.args.path.now c.args.self.now.files (omega arith)

pub returns-then-used-lt-MOST_BYTES : goal.returns-then-used-lt-MOST_BYTES
returns-then-used-lt-MOST_BYTES g c =
    let l : 0 < length c.args.path.now = omega arith in
    c.fits-then-used-lt-MOST_BYTES.ensures ∙ below_within c.args.path.now c.args.self.now.files (length c.joined-used.result.now) l (ap length c.joined-used.ensures.text) c.requires.1.paths c.if-used-lt-MOST_BYTES.true

pub returns-else-used-lt-MOST_BYTES : goal.returns-else-used-lt-MOST_BYTES
returns-else-used-lt-MOST_BYTES g c =
    let l : 0 < length c.args.path.now = omega arith in
    le-ltb (length c.joined-used.result.now) 4095 c.if-used-lt-MOST_BYTES.false ∙ sym (below_beyond c.args.path.now c.args.self.now.files (length c.joined-used.result.now) l (ap length c.joined-used.ensures.text) c.requires c.if-used-lt-MOST_BYTES.false)
