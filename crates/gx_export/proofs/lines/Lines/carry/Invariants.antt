use Rattle.std.proofs.Common.{◌≡◌, ◌-◌, ◌++◌, List, length, slice_range}
use Rattle.gx_model.specs.declared.objects.Kind.{Kind}
use Rattle.gx_model.specs.Histories.{Records}
use Rattle.gx_model.specs.Texts.{Bytes}
use Rattle.gx_model.specs.Histories.Values.{Value}
use Rattle.gx_export.specs.FileTexts.{AreKept}
use Rattle.gx_export.proofs.lines.Lines.carry.Given as goal

abbrev pub invariant-loop-self : goal.invariant-loop-self
invariant-loop-self g l = record {
  text : l.self.text ≡ l.fn.self.text;
  earlier : l.self.earlier ≡ l.fn.self.earlier;
  kept : (name : Kind → Bytes → Bytes) (repository : Records) (ws : List Value) → AreKept name repository ws l.fn.self → (before : Bytes) → l.fn.self.text.items ≡ before ++ slice_range l.fn.self.earlier.items l.start l.end → length before ≡ l.place → AreKept name repository ws l.self;
}

abbrev pub decreases-loop-self : goal.decreases-loop-self
decreases-loop-self g l = length l.self.left.items - l.self.next
