-- How a growing text ends. Source: this project's own format.
use Rattle.std.specs.Prelude.{◌≡◌, map}
use Rattle.gx_model.specs.declared.objects.Kind.{Kind}
use Rattle.gx_model.specs.Texts.{Bytes}
use Rattle.gx_model.specs.Histories.{Records}
use Rattle.gx_growing.specs.GrowingText.{IsGrowingText, picks_first}
use Rattle.gx_growing_parts.specs.Shown.{shown_run}
use Rattle.gx_growing_parts.specs.declared.ending.Ending.{Ending}

-- which slot of a growing text is picked, where the text ends, and its live runs
pub record IsEnding {name : Kind → Bytes → Bytes} {digest : Bytes → Bytes} {text : Bytes} {repository : Records}
    (old : IsGrowingText name digest text repository) (ending : Ending) : Type 0 where
  pub picks : picks_first old.pick ≡ ending.is_first
  pub ends : ending.ends ≡ old.slot.ends
  pub runs : map shown_run ending.runs.now ≡ old.last.runs
