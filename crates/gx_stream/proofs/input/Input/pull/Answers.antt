use Rattle.std.proofs.Common.{◌∙◌, ◌+◌, ◌≤◌, [], ◌++◌, length, take, drop, sym, ap, subst, append-nil, arith}
use Rattle.std.proofs.lemmas.List.{length-take-le, with_items_is}
use Rattle.gx_stream.specs.Input.{FitsState, IsLonger, KeepsStream, is_full, shown_stream, rest_of, text_of}
use Rattle.gx_stream.specs.declared.input.State.TheVariants.{Open}
use Rattle.gx_stream.proofs.Scans.{fits_after}
use Rattle.gx_stream.proofs.Views.{pull_keeps}
use Rattle.gx_stream.proofs.input.Input.pull.Goals as goal

pub returns-in_err-make_room-clause-sound : goal.returns-in_err-make_room-clause-sound
returns-in_err-make_room-clause-sound g c =
    let i = c.args.self.now in
    let came = c.remove_front.new.came in
    let now = take came c.make_room.new.text.items in
    let moved = with_items_is i.text c.remove_front.new.text (c.remove_front.ensures.len ∙ c.deref_mut.ensures.len) in
    let front = c.make_room.ensures.same ∙ ap (take came) moved ∙ c.remove_front.ensures.rest ∙ ap (λ t. drop i.at (take i.came t)) c.deref_mut.ensures.value in
    let scanned : FitsState (text_of i) Open i.at i.scan = subst (λ s. FitsState (text_of i) s i.at i.scan) c.requires.open c.requires.sound.3 in
    let fits = fits_after (text_of i) now i.state i.at i.scan scanned.0 scanned.1 ([], front ∙ sym (append-nil (rest_of i))) in (
      omega arith,
      omega (arith, c.make_room.ensures.len, ap length moved, c.remove_front.ensures.len, c.remove_front.ensures.came, ap length c.deref_mut.ensures.value, c.requires.sound.1),
      omega (arith, c.remove_front.ensures.came, c.requires.sound.2),
      subst (FitsState now i.state 0) (sym c.without-self.ensures) fits,
    )

pub returns-clause-sound : goal.returns-clause-sound
returns-clause-sound g c =
    let i = c.args.self.now in
    let came = c.remove_front.new.came in
    let after = c.pull_behind-self.new in
    let now = take after.came after.text in
    let moved = with_items_is i.text c.remove_front.new.text (c.remove_front.ensures.len ∙ c.deref_mut.ensures.len) in
    let front = ap (take came) c.deref_mut-2.ensures.value ∙ c.make_room.ensures.same ∙ ap (take came) moved ∙ c.remove_front.ensures.rest ∙ ap (λ t. drop i.at (take i.came t)) c.deref_mut.ensures.value in
    let pulled = with_items_is c.make_room.new.text after.text (c.pull_behind-self.ensures.len ∙ c.deref_mut-2.ensures.len) in
    let more = c.pull_behind-self.ensures.longer in
    let longer : IsLonger (rest_of i) now = (more.0, more.1 ∙ ap (λ t. t ++ more.0) front) in
    let scanned : FitsState (text_of i) Open i.at i.scan = subst (λ s. FitsState (text_of i) s i.at i.scan) c.requires.open c.requires.sound.3 in
    let fits = fits_after (text_of i) now c.pull_behind-self.result i.at i.scan scanned.0 scanned.1 longer in (
      omega arith,
      omega (arith, c.pull_behind-self.ensures.within.0, ap length pulled),
      omega (arith, c.pull_behind-self.ensures.within.1, c.remove_front.ensures.came, c.requires.sound.2),
      subst (λ t. FitsState t c.pull_behind-self.result 0 c.without-self.result) (sym (ap (take after.came) pulled)) (subst (FitsState now c.pull_behind-self.result 0) (sym c.without-self.ensures) fits),
    )

pub returns-clause-keeps : goal.returns-clause-keeps
returns-clause-keeps g c =
    let i = c.args.self.now in
    let came = c.remove_front.new.came in
    let after = c.pull_behind-self.new in
    let state = c.pull_behind-self.result in
    let over = c.pull_behind-self.ensures.goes_on in
    let now = take after.came after.text in
    let moved = with_items_is i.text c.remove_front.new.text (c.remove_front.ensures.len ∙ c.deref_mut.ensures.len) in
    let front = ap (take came) c.deref_mut-2.ensures.value ∙ c.make_room.ensures.same ∙ ap (take came) moved ∙ c.remove_front.ensures.rest ∙ ap (λ t. drop i.at (take i.came t)) c.deref_mut.ensures.value in
    let pulled = ap (take after.came) (with_items_is c.make_room.new.text after.text (c.pull_behind-self.ensures.len ∙ c.deref_mut-2.ensures.len)) in
    let more = c.pull_behind-self.ensures.longer in
    let longer : IsLonger (rest_of i) now = (more.0, more.1 ∙ ap (λ t. t ++ more.0) front) in
    let room : came ≤ length c.deref_mut-2.result.now = omega (arith, c.requires.sound.1, c.remove_front.ensures.came, c.remove_front.ensures.len, ap length c.deref_mut.ensures.value, c.make_room.ensures.len, ap length moved, ap length c.deref_mut-2.ensures.value) in
    let least : length now + after.room ≤ length (rest_of i) + i.room = omega (arith, c.pull_behind-self.ensures.within.1, length-take-le after.came after.text c.pull_behind-self.ensures.within.0, ap length front, length-take-le came c.deref_mut-2.result.now room) in
    let kept = subst (λ t. KeepsStream (shown_stream Open i.room (g.R.Source.coming i.source) t) (shown_stream state after.room (g.R.Source.coming after.source) now)) front c.pull_behind-self.ensures.keeps in
    rw c.requires.open (pull_keeps (is_full i) state i.room after.room (g.R.Source.coming i.source) (g.R.Source.coming after.source) (rest_of i) _ now over longer least kept pulled)
