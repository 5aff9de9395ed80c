-- What a command that reads a capture alone is given: the site and the filter of its words, and what was captured. This project's own.
use Rattle.std.specs.Prelude.{◌≡◌, ℕ, List, Option, Ok}
use Rattle.flow_filter.specs.declared.filter.Filter.{Filter}
use Rattle.flow_filter.specs.declared.site.Site.{Site}
use Rattle.flow_filter.specs.FilterText.{Fields, fields_of}
use Rattle.flow_filter.specs.Reading.{prefix_numbers}
use Rattle.nf_io.specs.declared.outside.Role.{Role}
use Rattle.nf_io.specs.declared.outside.Role.TheVariants.{Trace}
use Rattle.trace_reader.specs.declared.trace.Trace.{Trace as Captured}
use Rattle.trace_reader.specs.Records.{capture_of}

pub record CaptureScene : Type 0 where
  pub site : Site
  pub filter : Filter
  pub captured : Captured

-- what the words say of it
pub record SceneWords : Type 0 where
  -- the bits and the length of the inside prefix
  pub inside : ℕ × ℕ
  pub outside : Option ℕ
  pub filter : Fields

-- the scene is the one that the words and the bytes tell
pub record IsCaptureScene (words : SceneWords) (bytes : Role → List ℕ) (scene : CaptureScene) : Type 0 where
  pub read : capture_of (bytes Trace) ≡ Ok scene.captured
  pub inside : prefix_numbers scene.site.inside ≡ words.inside
  pub outside : scene.site.outside ≡ words.outside
  pub filter : fields_of scene.filter ≡ words.filter

-- what is said of a run holds of its scene
pub record OfCaptureScene (words : SceneWords) (bytes : Role → List ℕ) (P : CaptureScene → Type 0) : Type 0 where
  pub scene : CaptureScene
  pub is_scene : IsCaptureScene words bytes scene
  pub holds : P scene
